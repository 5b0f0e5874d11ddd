use Rattle.std.proofs.lemmas.Result.{err_from_is_err_and}
use Rattle.git_header.proofs.ReadLemmas.{fault_later}
use Rattle.git_object.specs.Fault.{AtObject, AtType, AtName, AtTagger, tag_grammar, tag_fault}
use Rattle.git_object.specs.View.{tagger_of}
use Rattle.git_object.proofs.WholeLemmas.{read_object, read_type, read_name, read_tagger, read_whole, behind, headers_fault}
use Rattle.git_object.proofs.tag.Tag.parts_of.Goals as goal

pub returns-in_err-kind-clause-exact : goal.returns-in_err-kind-clause-exact
returns-in_err-kind-clause-exact c =
    let object = read_object c.args.bytes.now c.in-Ok.taken.0 c.in-Ok.taken.1.now c.in-Ok.ensures.name c.in-Ok.ensures.found in
    let told = err_from_is_err_and c.from_residual.result c.from_residual.ensures.1 in
    rw (told.1, told.2) (fault_later tag_grammar AtObject c.in_err-kind.field-0.0 c.args.bytes.now _ AtType c.in-Ok.taken.1.now object c.in_err-kind.ensures.exact)

pub returns-in_err-name-clause-exact : goal.returns-in_err-name-clause-exact
returns-in_err-name-clause-exact c =
    let object = read_object c.args.bytes.now c.in-Ok.taken.0 c.in-Ok.taken.1.now c.in-Ok.ensures.name c.in-Ok.ensures.found in
    let typed = read_type c.args.bytes.now c.in-Ok.taken.1.now c.in_ok-kind.rest.now c.in_ok-kind.kind _ object c.in_ok-kind.ensures.found in
    let told = err_from_is_err_and c.from_residual-in_err-name.result c.from_residual-in_err-name.ensures.1 in
    rw (told.1, told.2) (fault_later tag_grammar AtObject c.in_err-name.field-0.0 c.args.bytes.now _ AtName c.in_ok-kind.rest.now typed c.in_err-name.ensures.exact)

pub returns-in_err-tagger-clause-exact : goal.returns-in_err-tagger-clause-exact
returns-in_err-tagger-clause-exact c =
    let object = read_object c.args.bytes.now c.in-Ok.taken.0 c.in-Ok.taken.1.now c.in-Ok.ensures.name c.in-Ok.ensures.found in
    let typed = read_type c.args.bytes.now c.in-Ok.taken.1.now c.in_ok-kind.rest.now c.in_ok-kind.kind _ object c.in_ok-kind.ensures.found in
    let named = read_name c.args.bytes.now c.in_ok-kind.rest.now c.in_ok-name.rest.now c.in_ok-name.name.now _ typed c.in_ok-name.ensures.name c.in_ok-name.ensures.found in
    let told = err_from_is_err_and c.from_residual-in_err-tagger.result c.from_residual-in_err-tagger.ensures.1 in
    rw (told.1, told.2) (fault_later tag_grammar AtObject c.in_err-tagger.field-0.0 c.args.bytes.now _ AtTagger c.in_ok-name.rest.now named c.in_err-tagger.ensures.exact)

pub returns-in_err-headers-clause-exact : goal.returns-in_err-headers-clause-exact
returns-in_err-headers-clause-exact c =
    let object = read_object c.args.bytes.now c.in-Ok.taken.0 c.in-Ok.taken.1.now c.in-Ok.ensures.name c.in-Ok.ensures.found in
    let typed = read_type c.args.bytes.now c.in-Ok.taken.1.now c.in_ok-kind.rest.now c.in_ok-kind.kind _ object c.in_ok-kind.ensures.found in
    let named = read_name c.args.bytes.now c.in_ok-kind.rest.now c.in_ok-name.rest.now c.in_ok-name.name.now _ typed c.in_ok-name.ensures.name c.in_ok-name.ensures.found in
    let tagged = read_tagger c.args.bytes.now c.in_ok-name.rest.now c.in_ok-tagger.rest.now (tagger_of c.in_ok-tagger.tagger) _ named c.in_ok-tagger.ensures.ident c.in_ok-tagger.ensures.parts in
    let told = err_from_is_err_and c.from_residual-in_err-headers.result c.from_residual-in_err-headers.ensures.1 in
    rw (told.1, told.2) (fault_later tag_grammar AtObject (tag_fault c.in_err-headers.field-0.0) c.args.bytes.now _ (behind (tagger_of c.in_ok-tagger.tagger)) c.in_ok-tagger.rest.now tagged (headers_fault c.in_err-headers.field-0.0 c.in_ok-tagger.rest.now (tagger_of c.in_ok-tagger.tagger) c.in_ok-tagger.ensures.none c.in_err-headers.ensures.exact))

pub returns-clause-found : goal.returns-clause-found
returns-clause-found c =
    let object = read_object c.args.bytes.now c.in-Ok.taken.0 c.in-Ok.taken.1.now c.in-Ok.ensures.name c.in-Ok.ensures.found in
    let typed = read_type c.args.bytes.now c.in-Ok.taken.1.now c.in_ok-kind.rest.now c.in_ok-kind.kind _ object c.in_ok-kind.ensures.found in
    let named = read_name c.args.bytes.now c.in_ok-kind.rest.now c.in_ok-name.rest.now c.in_ok-name.name.now _ typed c.in_ok-name.ensures.name c.in_ok-name.ensures.found in
    let tagged = read_tagger c.args.bytes.now c.in_ok-name.rest.now c.in_ok-tagger.rest.now (tagger_of c.in_ok-tagger.tagger) _ named c.in_ok-tagger.ensures.ident c.in_ok-tagger.ensures.parts in
    read_whole c.args.bytes.now c.in_ok-tagger.rest.now _ c.in-Ok.ensures.name c.in_ok-name.ensures.name c.in_ok-tagger.ensures.ident tagged c.in_ok-headers.ensures.right c.in_ok-headers.ensures.found
