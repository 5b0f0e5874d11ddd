use Rattle.std.proofs.Common.{◌≡◌, List, ℕ, None, Option, IfNone, ap, length, option_map, subst, sym, ◌∙◌}
use Rattle.std.specs.FinMap as map
use Rattle.devices.specs.Device.{files_of}
use Rattle.host_folder.specs.Journal.{journal_file, old_journal_file}
use Rattle.host_folder.proofs.OtherLemmas.{there}
use Rattle.host_folder.proofs.other_journals.standing_in.Goals as goal

pub returns-in-Some-2 : goal.returns-in-Some-2
returns-in-Some-2 g c honest = (
  subst (λ (o : Option (List ℕ)). IfNone o (map.get (files_of (g.D.Device.past c.args.device.now)) (journal_file c.args.name) ≡ None)) c.in_default.is (c.in_ok-before.ensures.none honest),
  there (map.get (files_of (g.D.Device.past c.args.device.now)) (old_journal_file c.args.name)) c.in-Some-2._len
      (sym c.in-Some-2.is ∙ c.in_ok-_len.ensures honest ∙ ap (λ (path : List ℕ). option_map length (map.get (files_of (g.D.Device.past c.args.device.now)) path)) (c.as_str.ensures.value ∙ c.in_ok-old.ensures)),
)
