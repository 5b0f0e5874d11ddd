use Rattle.std.proofs.Common.{◌++◌, ◌∷◌, [], codes, ap, ◌∙◌}
use Rattle.hex.specs.Hex.{encode_lower}
use Rattle.std.proofs.lemmas.Result.{IfOk-weaker, err_from_is_err_and}
use Rattle.git_refname.specs.Namespace.{expanded}
use Rattle.state_text.proofs.TakingLemmas.{referenced_right}
use Rattle.state_text.proofs.WrongLemmas.{reference_refused, reference_right, reference_spelled_so}
use Rattle.state_text.proofs.taking.take_reference.Goals as goal

pub returns-in_default-reference_of-clause-wrong : goal.returns-in_default-reference_of-clause-wrong
returns-in_default-reference_of-clause-wrong c new right adds =
    let prefix_is = c.as_slice.ensures.value ∙ c.in-Ok.ensures ∙ (λ i. expanded ((c.as_bytes.ensures.bytes ∙ c.name.ensures.name) i ∷ (c.as_bytes-2.ensures.bytes ∙ c.name-2.ensures) i ∷ [])) in
    let known = reference_right c.args.states.now c.open_last.new.states new c.in-Some.tenant c.in-Some.place c.in-Some.repository c.args.rest.now c.as_slice.result.now c.in-Some.ensures.found c.in-Some.ensures.last prefix_is right adds in
    c.in_default-reference_of.ensures.none adds.name adds.target known.named known.target_named
    (reference_spelled_so c.args.states.now c.open_last.new.states new c.in-Some.tenant c.in-Some.place c.in-Some.repository c.args.rest.now c.as_slice.result.now c.in-Some.ensures.found c.in-Some.ensures.last prefix_is right adds)

pub returns-in_err-push-clause-wrong : goal.returns-in_err-push-clause-wrong
returns-in_err-push-clause-wrong c =
    let prefix_is = c.as_slice.ensures.value ∙ c.in-Ok.ensures ∙ (λ i. expanded ((c.as_bytes.ensures.bytes ∙ c.name.ensures.name) i ∷ (c.as_bytes-2.ensures.bytes ∙ c.name-2.ensures) i ∷ [])) in
    let told = err_from_is_err_and c.from_residual.result c.from_residual.ensures.1 in
    rw (told.1, told.2) (reference_refused c.args.states.now c.open_last.new.states c.in-Some.tenant c.in-Some.place c.in-Some.repository c.args.rest.now c.as_slice.result.now c.in-Some.ensures.found c.in-Some.ensures.last prefix_is
    c.in-Some-reference_of.name c.in-Some-reference_of.target _ c.as_bytes-target.ensures.name c.in-Some-reference_of.ensures.found c.in_err-push.ensures.cause)

pub close_last-requires : goal.close_last-requires
close_last-requires c =
    referenced_right c.args.states.now c.open_last.new.states c.in-Some.tenant c.in-Some.place c.in-Some.repository c.open_last.ensures.sound c.in-Some.ensures.found c.push.new.self c.in-Some-reference_of.name c.in-Some-reference_of.target
    (record { head = c.push.ensures.head; pushed = c.in_ok-push.ensures.ok }) c.references-references.ensures.sound.sound c.as_bytes-target.ensures.name

pub returns-clause-ok : goal.returns-clause-ok
returns-clause-ok c =
    let prefix_is = c.as_slice.ensures.value ∙ c.in-Ok.ensures ∙ (λ i. expanded ((c.as_bytes.ensures.bytes ∙ c.name.ensures.name) i ∷ (c.as_bytes-2.ensures.bytes ∙ c.name-2.ensures) i ∷ [])) in
    IfOk-weaker c.close_last.result _ _ (λ more closed. (
      closed.0,
      record {
        before = c.open_last.new.states;
        tenant = c.in-Some.tenant;
        place = c.in-Some.place;
        repository = c.in-Some.repository;
        next = c.push.new.self;
        name = c.in-Some-reference_of.name;
        target = c.in-Some-reference_of.target;
        last = c.in-Some.ensures.last;
        was = c.in-Some.ensures.found;
        more = record { head = c.push.ensures.head; pushed = c.in_ok-push.ensures.ok };
        spelled = c.in-Some-reference_of.ensures.found ∙ ap (λ p. encode_lower c.in-Some-reference_of.target ++ codes " " ++ p ++ c.in-Some-reference_of.name) prefix_is;
        added = closed.1;
      },
    )) c.close_last.ensures.ok
