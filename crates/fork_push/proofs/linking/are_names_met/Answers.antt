use Rattle.std.proofs.Common.{ap, map, sym, ◌∙◌}
use Rattle.std.specs.List.{find}
use Rattle.git_name.specs.declared.kind.Kind.TheVariants.{Tree}
use Rattle.git_commit.specs.Left.{parents_left}
use Rattle.git_object.specs.Links.{commit_link, link_to}
use Rattle.fork_push.specs.Push.{is_wrong}
use Rattle.fork_push.proofs.LinkLemmas.{commit_passed, link_passed}
use Rattle.fork_push.proofs.linking.are_names_met.Goals as goal

pub loop-parent-init : goal.loop-parent-init
loop-parent-init g c value is =
    let test = is_wrong (g.S.Source.state c.args.source.now).objects in
    ap (λ names. find test (map commit_link names)) (ap parents_left c.into_iter-parent-iterator.ensures.into_iter_gives ∙ c.in-Some.ensures.parents value is)

pub loop-parent-preserved : goal.loop-parent-preserved
loop-parent-preserved g c value is =
    let test = is_wrong (g.S.Source.state c.args.source.now).objects in
    sym (link_passed test (commit_link c.in-Some-parent.parent) (map commit_link (parents_left c.next.new.self)) c.if-not-is_met-2.ensures)
    ∙ ap (λ names. find test (map commit_link names)) (sym c.in-Some-parent.ensures.steps) ∙ c.loop-parent.invariant value is

pub returns : goal.returns
returns g c =
    let test = is_wrong (g.S.Source.state c.args.source.now).objects in
    commit_passed test c.args.bytes.now (λ value is.
    link_passed test (link_to value.tree Tree) (map commit_link value.parents) (ap (λ name. test (link_to name Tree)) (sym (c.in-Some.ensures.tree value is)) ∙ c.if-not-is_met.ensures)
    ∙ sym (c.loop-parent.invariant value is) ∙ ap (λ names. find test (map commit_link names)) c.in-None-parent.ensures.steps.0)
