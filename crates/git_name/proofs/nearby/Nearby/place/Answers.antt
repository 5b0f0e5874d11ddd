use Rattle.std.proofs.Common.{slice_get, ap, sym, ◌∙◌}
use Rattle.git_name.proofs.PlaceLemmas.{only_place}
use Rattle.git_name.proofs.nearby.Nearby.place.Goals as goal

pub returns-in-Some : goal.returns-in-Some
returns-in-Some c =
    sym (only_place c.args.names.now.keys c.in-Some.place c.args.name c.as_slice.ensures.unique
    (ap (λ names. slice_get names c.in-Some.place) (sym c.as_slice.ensures.keys) ∙ c.in-Some.ensures))
