use Rattle.std.proofs.Common.{ap, ◌∙◌}
use Rattle.std.specs.FinMap as map
use Rattle.fork_host.specs.Adding.{new_account}
use Rattle.fork_host.proofs.UpdateLemmas.{put_and_taken}
use Rattle.fork_host.proofs.host.open_account.Goals as goal

pub returns-in_default-add-clause-err : goal.returns-in_default-add-clause-err
returns-in_default-add-clause-err g c =
    let account = new_account c.args.limit in
    c.remove.ensures ∙ ap (λ m. map.remove m c.copy-key.result) c.in-Ok.ensures.ok
    ∙ ap (λ k. map.remove (map.insert c.args.accounts.now c.copy.result account) k) c.copy-key.ensures
    ∙ ap (λ k. map.remove (map.insert c.args.accounts.now k account) c.args.name) c.copy.ensures
    ∙ put_and_taken c.args.accounts.now c.args.name account c.requires.new
