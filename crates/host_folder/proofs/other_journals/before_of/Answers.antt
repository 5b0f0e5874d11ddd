use Rattle.std.proofs.Common.{List, ℕ, ap, length, option_map, sym, ◌∙◌}
use Rattle.std.specs.FinMap as map
use Rattle.devices.specs.Device.{files_of}
use Rattle.devices.specs.Source.{bytes_behind}
use Rattle.host_folder.specs.Journal.{first_line, journal_file}
use Rattle.host_folder.proofs.OtherLemmas.{begins}
use Rattle.host_folder.proofs.other_journals.before_of.Goals as goal

pub returns-clause-begins : goal.returns-clause-begins
returns-clause-begins g c honest =
    begins (g.D.Device.honest c.args.device.now) (g.D.Device.past c.args.device.now) (journal_file c.args.name) (first_line c.in_ok-before.before) c.in-Some._len _ _ honest
    (sym c.in-Some.is ∙ c.in_ok-_len.ensures honest ∙ ap (λ (path : List ℕ). option_map length (map.get (files_of (g.D.Device.past c.args.device.now)) path)) (c.as_str.ensures.value ∙ c.in_ok-path.ensures))
    (λ i. bytes_behind (g.D.Device.honest (c.new-reader.ensures.0 i)) (g.D.Device.past (c.new-reader.ensures.0 i)) ((c.new-reader.ensures.1 ∙ c.as_str-2.ensures.value ∙ c.in_ok-path.ensures) i) (c.new-reader.ensures.2 i))
    c.in_ok-before.ensures.line
