use Rattle.std.proofs.Common.{◌≡◌, ◌++◌, ◌∷◌, [], List, rules, sym, ap, ◌∙◌}
use Rattle.std.specs.List.{flat_map}
use Rattle.std.proofs.lemmas.List.{append-nil}
use Rattle.std.proofs.lemmas.List.Concat.{flat_map-append}
use Rattle.git_name.specs.Object.{Object}
use Rattle.push_stream.specs.Record.{record_of}
use Rattle.fork_query.proofs.fetching.send.Goals as goal

-- records, and one more
one_more : (objects : List Object) (object : Object) → flat_map record_of objects ++ record_of object ≡ flat_map record_of (objects ++ object ∷ [])
one_more objects object = sym (flat_map-append record_of objects (object ∷ []) ∙ ap (λ text. flat_map record_of objects ++ text) (append-nil (record_of object)))

pub returns-in-Ok-clause-named : goal.returns-in-Ok-clause-named
returns-in-Ok-clause-named g c = λ so_far.
    let object = c.in-Some.sealed in
    let written : c.in-Ok.text.items ≡ c.args.text.items ++ record_of object = search rules in (
      so_far.0 ++ object ∷ [],
      written ∙ ap (λ text. text ++ record_of object) so_far.1 ∙ one_more so_far.0 object,
    )
