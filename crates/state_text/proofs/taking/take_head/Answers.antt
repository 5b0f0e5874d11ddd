use Rattle.std.proofs.Common.{◌≡◌, ◌++◌, ◌∷◌, [], ap, ◌∙◌}
use Rattle.std.proofs.lemmas.Result.{IfOk-weaker}
use Rattle.git_refname.specs.Namespace.{expanded}
use Rattle.git_reftx.specs.Repository as git
use Rattle.git_reftx.specs.Repository.{new_repository}
use Rattle.state_text.specs.Place.{with_at}
use Rattle.state_text.proofs.TakingLemmas.{begun_new, headed_right}
use Rattle.state_text.proofs.WrongLemmas.{head_right, head_spelled_so}
use Rattle.state_text.proofs.taking.take_head.Goals as goal

pub returns-in_default-head_of-clause-wrong : goal.returns-in_default-head_of-clause-wrong
returns-in_default-head_of-clause-wrong c new right adds =
    let prefix_is = c.as_slice.ensures.value ∙ c.in-Ok.ensures ∙ (λ i. expanded ((c.as_bytes.ensures.bytes ∙ c.name.ensures.name) i ∷ (c.as_bytes-2.ensures.bytes ∙ c.name-2.ensures) i ∷ [])) in
    c.in_default-head_of.ensures.none adds.head
    (head_right c.args.states.now c.open_last.new.states new c.in-Some.tenant c.in-Some.place c.in-Some.repository c.args.rest.now c.as_slice.result.now c.in-Some.ensures.found c.in-Some.ensures.last prefix_is right adds)
    (head_spelled_so c.args.states.now c.open_last.new.states new c.in-Some.tenant c.in-Some.place c.in-Some.repository c.args.rest.now c.as_slice.result.now c.in-Some.ensures.found c.in-Some.ensures.last prefix_is right adds)

pub close_last-requires : goal.close_last-requires
close_last-requires c =
    headed_right c.args.states.now c.open_last.new.states c.in-Some.tenant c.in-Some.place c.in-Some.repository c.open_last.ensures.sound c.in-Some.ensures.found c.in-Some-head_of.head c.set_head.new.self c.in-Some-head_of.ensures.found.1 c.set_head.ensures

pub returns-clause-ok : goal.returns-clause-ok
returns-clause-ok c =
    let new : c.in-Some.repository ≡ new_repository = begun_new c.args.states.now c.open_last.new.states c.in-Some.tenant c.in-Some.place c.in-Some.repository c.requires c.in-Some.ensures.last c.in-Some.ensures.found in
    let head = c.in-Some-head_of.head in
    let at = λ (r : git.Repository). c.open_last.new.states ++ with_at c.in-Some.tenant c.in-Some.place r ∷ [] in
    let prefix_is = c.as_slice.ensures.value ∙ c.in-Ok.ensures ∙ (λ i. expanded ((c.as_bytes.ensures.bytes ∙ c.name.ensures.name) i ∷ (c.as_bytes-2.ensures.bytes ∙ c.name-2.ensures) i ∷ [])) in
    IfOk-weaker c.close_last.result _ _ (λ more closed. (
      closed.0,
      record {
        before = c.open_last.new.states;
        tenant = c.in-Some.tenant;
        place = c.in-Some.place;
        head = head;
        last = c.in-Some.ensures.last;
        was = c.in-Some.ensures.found ∙ ap at new;
        spelled = c.in-Some-head_of.ensures.found.0 ∙ ap (λ p. p ++ head) prefix_is;
        added = closed.1 ∙ ap at (c.set_head.ensures ∙ (λ i. record { head = head; references = (new i).references }));
      },
    )) c.close_last.ensures.ok
