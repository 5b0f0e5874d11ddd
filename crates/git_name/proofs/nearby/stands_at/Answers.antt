use Rattle.std.proofs.Common.{Some, length, ap, refl, sym, ◌∙◌}
use Rattle.std.proofs.lemmas.Bool.{OnTrue_from}
use Rattle.std.proofs.lemmas.Option.{slice_get_read}
use Rattle.git_name.proofs.HashMaps.{one_name}
use Rattle.git_name.proofs.nearby.stands_at.Goals as goal

pub returns-in-Some : goal.returns-in-Some
returns-in-Some c = OnTrue_from c.eq.result _ (λ same.
    let read = c.in-Some.ensures.lookup in
    slice_get_read c.args.names.now (length c.args.names.now) c.args.at c.in-Some.found.now refl read.3.0 read.1
    ∙ ap Some (one_name c.in-Some.found.now c.args.name (sym c.eq.ensures ∙ same)))
