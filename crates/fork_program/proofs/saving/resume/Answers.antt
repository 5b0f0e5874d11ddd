use Rattle.std.proofs.Common.{◌≡◌, ◌∙◌, ℕ, List, subst, sym}
use Rattle.fork_program.specs.Journaling.{IsNamed}
use Rattle.fork_program.proofs.BegunLemmas.{named}
use Rattle.fork_program.proofs.saving.resume.Goals as goal
use Rattle.host_folder.specs.Appending.{bytes_at}
use Rattle.host_folder.specs.Journal.{journal_part}

pub returns-clause-journal : goal.returns-clause-journal
returns-clause-journal g c honest unfailed =
    let old = g.J.Device.past c.in_ok-journal.journal.writer.device in
    let mid = g.J.Device.past c.settle_others.new.begun.journal.writer.device in
    let new = g.J.Device.past c.clear.new.begun.journal.writer.device in
    let text = bytes_at journal_part old in
    let own = c.in_ok-journal.ensures.honest ∙ honest in
    let is : c.placed_before.result.name ≡ c.args.name = c.placed_before.ensures ∙ c.in_ok-synced.ensures.name in (
      text,
      subst (λ (n : List ℕ). IsNamed n text new) is
          (c.clear.ensures.journal text (c.settle_others.ensures.journals ∙ own) (subst (λ (n : List ℕ). IsNamed n text mid) (sym is) (named c.args.name old mid (c.in_ok-journal.ensures.begun honest unfailed) (c.in_ok-synced.ensures.named own)))),
    )
