use Rattle.std.proofs.Common.{List, ℕ, ap, ◌∙◌, ◌++◌}
use Rattle.std.proofs.lemmas.Str.{IsUtf8-from_ascii}
use Rattle.host_folder.specs.Journal.{journal_folder}
use Rattle.host_folder.proofs.JournalLemmas.{clears_one}
use Rattle.host_folder.proofs.ClearingLemmas.{gone_there, own_ascii}
use Rattle.host_folder.proofs.journal_clearing.clear_called.Goals as goal

pub returns-then-is_own-clause-effects : goal.returns-then-is_own-clause-effects
returns-then-is_own-clause-effects g c honest =
    clears_one c.args.is_there c.args.name c.args.called.now c.as_str.result.now (g.D.Device.past c.args.device.now) (g.D.Device.past c.remove-removed.new.self) c.remove-removed.result (c.is_journal.ensures.other c.if-is_journal.false)
    (c.as_str.ensures.value ∙ c.in_ok-path.ensures ∙ ap (λ (xs : List ℕ). journal_folder ++ xs) c.in-Ok.ensures.cases.0) (c.remove-removed.ensures.effect honest)

pub returns-clause-effects : goal.returns-clause-effects
returns-clause-effects g c honest =
    clears_one c.args.is_there c.args.name c.args.called.now c.as_str.result.now (g.D.Device.past c.args.device.now) (g.D.Device.past c.remove-removed.new.self) c.remove-removed.result (c.is_journal.ensures.other c.if-is_journal.false)
    (c.as_str.ensures.value ∙ c.in_ok-path.ensures ∙ ap (λ (xs : List ℕ). journal_folder ++ xs) c.in-Ok.ensures.cases.0) (c.remove-removed.ensures.effect honest)

pub returns-in_default-clause-gone : goal.returns-in_default-clause-gone
returns-in_default-clause-gone g c honest own cleared = absurd (c.in_default.ensures.cases.0 (IsUtf8-from_ascii c.args.called.now (own_ascii c.args.called.now own)))

pub returns-then-is_own-clause-gone : goal.returns-then-is_own-clause-gone
returns-then-is_own-clause-gone g c honest =
    gone_there c.args.is_there c.args.name c.args.called.now c.as_str.result.now (g.D.Device.past c.args.device.now) (g.D.Device.past c.remove-removed.new.self) c.remove-removed.result
    (c.as_str.ensures.value ∙ c.in_ok-path.ensures ∙ ap (λ (xs : List ℕ). journal_folder ++ xs) c.in-Ok.ensures.cases.0) (c.remove-removed.ensures.effect honest)
