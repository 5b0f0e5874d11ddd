use Rattle.std.proofs.Common.{sym, subst, ◌∙◌}
use Rattle.std.proofs.lemmas.Option.{IfSome_then, same_Some}
use Rattle.git_name.specs.Object.{Object, typed_bytes}
use Rattle.loose_store.specs.Stored.{Whole}
use Rattle.read_cache.proofs.cached_store.lent.Goals as goal

pub returns : goal.returns
returns g c =
    let files = g.S.LooseFiles.contents c.args.files.now in
    IfSome_then c.lend.result (c.lend.ensures c.requires.honest) (λ lent stands.
    let read : Object = record { kind = lent.0; bytes = lent.1.now } in
    let whole = c.requires.whole c.args.name (typed_bytes read) stands in
    subst (Whole files c.args.name) (sym (c.one_object.ensures read whole.0 (same_Some (typed_bytes read) (typed_bytes whole.0) (sym stands ∙ whole.1.file)))) whole.1)
