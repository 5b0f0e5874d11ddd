use Rattle.std.proofs.Common.{◌≡◌, Some, sym, ap, ◌∙◌}
use Rattle.std.specs.FinMap.{get}
use Rattle.std.specs.Option.{option_map}
use Rattle.std.proofs.lemmas.Option.{same_Some}
use Rattle.git_name.specs.Object.{typed_bytes}
use Rattle.read_cache.proofs.cached_store.read_unhashed.Goals as goal

pub opened-requires : goal.opened-requires
opened-requires g c =
    let stands : get (g.S.LooseFiles.contents c.args.files.now) c.args.name ≡ Some c.in-Some-found.file.items = sym (c.in-Ok.ensures.found c.requires.honest) ∙ ap (option_map (λ file. file.items)) c.in-Some-found.is in
    let whole = c.requires.whole c.args.name c.in-Some-found.file.items stands in
    (whole.0, c.as_slice.ensures.value ∙ same_Some c.in-Some-found.file.items (typed_bytes whole.0) (sym stands ∙ whole.1.file), whole.1.named)
