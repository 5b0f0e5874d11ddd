use Rattle.std.proofs.Common.{◌≡◌, ◌<◌, ◌+◌, ◌≤◌, ◌++◌, ◌∷◌, [], ℕ, List, length, get_or, take, ap, refl, rules, subst, ◌∙◌, sym, arith}
use Rattle.std.proofs.lemmas.List.{take_more, take_all, map-append}
use Rattle.fork_request.specs.declared.reply.Reply.{Reply}
use Rattle.fork_ledger.specs.Swept.{IsAccounted}
use Rattle.fork_model.specs.Sound.{IsRightWorld}
use Rattle.fork_host.specs.declared.step.HostStep.{HostStep}
use Rattle.fork_host.specs.Given.{event_given, events_given}
use Rattle.fork_host.specs.Shown.{HostState, Trusted, world_of}
use Rattle.fork_host.specs.Step.{IsRun, IsStep}
use Rattle.fork_host.proofs.StepLemmas.{run_explained, run_honest, run_more}
use Rattle.fork_host.proofs.SweptLemmas.{are_swept}
use Rattle.fork_host.proofs.host.Host.run.Goals as goal

-- the steps up to i, and the one at i
taken : (steps : List HostStep) (i : ℕ) (step : HostStep) → i < length steps → step ≡ get_or steps i step → events_given (take (i + 1) steps) ≡ events_given (take i steps) ++ event_given step ∷ []
taken steps i step lt is =
    ap events_given (take_more steps i step lt) ∙ (map-append event_given (take i steps) _ ∙ ap (λ (x : HostStep). events_given (take i steps) ++ event_given x ∷ []) (sym is))

-- the run goes on by it
turn : (old mid new : HostState) (steps : List HostStep) (i : ℕ) (step : HostStep) (replies more : List Reply) (reply : Reply) → i < length steps → step ≡ get_or steps i step → more ≡ replies ++ reply ∷ []
    → IsRun old (events_given (take i steps)) replies mid → IsStep mid (event_given step) reply new → IsRun old (events_given (take (i + 1) steps)) more new
turn old mid new steps i step replies more reply lt is grown ran next = rw (taken steps i step lt is, grown) (run_more old mid new (events_given (take i steps)) replies (event_given step) reply ran next)

pub returns-in_default-clause-right : goal.returns-in_default-clause-right
returns-in_default-clause-right g c = subst (λ (s : HostState). Trusted s → IsRightWorld (world_of s)) c.self.view_is c.self.invariant.right

pub loop-step-init : goal.loop-step-init
loop-step-init g c = record {
  ran = subst (λ replies. IsRun c.args.self.now [] replies c.args.self.now) (sym c.in-Ok.ensures.items) refl;
  orderly = search rules;
  right = subst (λ (s : HostState). Trusted s → IsRightWorld (world_of s)) c.self.view_is c.self.invariant.right;
  told = search rules;
  room = search rules;
}

pub loop-step-preserved : goal.loop-step-preserved
loop-step-preserved g c =
    let so_far = c.loop-step.invariant in
    record {
      ran = turn c.args.self.now c.loop-step.self c.step-reply.new.self c.args.steps.now c.loop-step.step-index c.step-item.result c.loop-step.replies.items c.push_reserved.new.self.items c.step-reply.result c.loop-step-test.true c.step-item.is c.push_reserved.ensures.items so_far.ran c.step-reply.ensures;
      orderly = c.step-reply.ensures.whole.orderly;
      right = λ trusted. c.step-reply.ensures.whole.right (c.step-reply.ensures.honest ∙ run_honest c.args.self.now c.loop-step.self (events_given (take c.loop-step.step-index c.args.steps.now)) c.loop-step.replies.items so_far.ran ∙ trusted);
      told = omega arith;
      room = omega arith;
    }

-- after the loop the run has all the steps
all : (old new : HostState) (steps : List HostStep) (i : ℕ) (replies : List Reply) → length steps ≤ i → IsRun old (events_given (take i steps)) replies new → IsRun old (events_given steps) replies new
all old new steps i replies le ran = rw (take_all i steps le) at ran

pub returns-clause-ran : goal.returns-clause-ran
returns-clause-ran g c = all c.args.self.now c.loop-step.self c.args.steps.now c.loop-step.step-index c.loop-step.replies.items (omega arith) c.loop-step.invariant.ran

pub returns-clause-sharp : goal.returns-clause-sharp
returns-clause-sharp g c trusted slices are done enough =
    let old = c.args.self.now in
    let new = c.loop-step.self in
    let run = all old new c.args.steps.now c.loop-step.step-index c.loop-step.replies.items (omega arith) c.loop-step.invariant.ran in
    let honest = run_honest old new (events_given c.args.steps.now) c.loop-step.replies.items run in
    let swept = are_swept slices old new c.loop-step.replies.items trusted (subst (λ events. IsRun old events c.loop-step.replies.items new) are run) done in
    c.sharp_slices.ensures slices old.vault new.vault swept (subst (λ (s : HostState). s.vault.places.place ≤ length s.vault.places.names) c.self.view_is c.invariant-before.ensures.place) enough
    (subst (λ (s : HostState). IsAccounted s.vault) c.self-2.view_is (c.invariant-behind.ensures.accounted (ap (λ (s : HostState). s.vault.honest) c.self-2.view_is ∙ honest ∙ trusted)))

pub returns-clause-explained : goal.returns-clause-explained
returns-clause-explained g c trusted =
    let old = c.args.self.now in
    let new = c.loop-step.self in
    run_explained old new (events_given c.args.steps.now) c.loop-step.replies.items (all old new c.args.steps.now c.loop-step.step-index c.loop-step.replies.items (omega arith) c.loop-step.invariant.ran) trusted

pub returns-clause-private_replies : goal.returns-clause-private_replies
returns-clause-private_replies g c trusted tenant view first fine leaves =
    let old = c.args.self.now in
    let new = c.loop-step.self in
    let run = all old new c.args.steps.now c.loop-step.step-index c.loop-step.replies.items (omega arith) c.loop-step.invariant.ran in
    c.a_run_is_private.ensures.replies tenant (world_of old) (world_of new) (events_given c.args.steps.now) c.loop-step.replies.items view (run_explained old new (events_given c.args.steps.now) c.loop-step.replies.items run trusted) fine leaves first

pub returns-clause-private_view : goal.returns-clause-private_view
returns-clause-private_view g c trusted tenant view first fine leaves =
    let old = c.args.self.now in
    let new = c.loop-step.self in
    let run = all old new c.args.steps.now c.loop-step.step-index c.loop-step.replies.items (omega arith) c.loop-step.invariant.ran in
    c.a_run_is_private.ensures.view tenant (world_of old) (world_of new) (events_given c.args.steps.now) c.loop-step.replies.items view (run_explained old new (events_given c.args.steps.now) c.loop-step.replies.items run trusted) fine leaves first

pub returns-clause-private_met : goal.returns-clause-private_met
returns-clause-private_met g c tenant view run first fine = (
  c.a_run_is_private.ensures.replies_met tenant (world_of c.args.self.now) (world_of c.loop-step.self) (events_given c.args.steps.now) c.loop-step.replies.items view run fine first,
  c.a_run_is_private.ensures.view_met tenant (world_of c.args.self.now) (world_of c.loop-step.self) (events_given c.args.steps.now) c.loop-step.replies.items view run fine first,
)

pub returns-clause-provenance : goal.returns-clause-provenance
returns-clause-provenance g c tenant view last name object run first end seen =
    c.what_runs_show_was_seen_or_sent.ensures.run tenant (world_of c.args.self.now) (world_of c.loop-step.self) (events_given c.args.steps.now) c.loop-step.replies.items view last name object run first end seen
