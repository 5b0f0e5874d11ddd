use Rattle.std.proofs.Common.{rules, ◌≡◌, ap, sym, ◌∙◌}
use Rattle.git_name.specs.Object.{Object, object_name, typed_bytes}
use Rattle.read_cache.proofs.cached_store.opened.Goals as goal

pub unreachable-requires : goal.unreachable-requires
unreachable-requires c = c.in_default.ensures.none c.requires.0 c.requires.1

pub seal_as-requires : goal.seal_as-requires
seal_as-requires c =
    let read : Object = record { kind = c.in-Some.kind; bytes = c.in-Some.content.now } in
    let is : read ≡ c.requires.0 = c.one_object.ensures read c.requires.0 (sym c.in-Some.ensures.found ∙ c.requires.1) in
    let copied : c.in-Ok.content.items ≡ c.in-Some.content.now = search rules in
    sym c.requires.2 ∙ ap object_name (sym is) ∙ ap (λ bytes. object_name (record { kind = c.in-Some.kind; bytes = bytes })) (sym copied)

pub returns-clause-opened : goal.returns-clause-opened
returns-clause-opened c =
    let read : Object = record { kind = c.in-Some.kind; bytes = c.in-Some.content.now } in
    let is : read ≡ c.requires.0 = c.one_object.ensures read c.requires.0 (sym c.in-Some.ensures.found ∙ c.requires.1) in
    let copied : c.in-Ok.content.items ≡ c.in-Some.content.now = search rules in
    let sealed = c.seal_as.ensures ∙ ap (λ bytes. record { kind = c.in-Some.kind; bytes = bytes }) copied in
    (c.in-Some.ensures.found ∙ ap typed_bytes (sym sealed), ap object_name sealed ∙ ap object_name is ∙ c.requires.2)
