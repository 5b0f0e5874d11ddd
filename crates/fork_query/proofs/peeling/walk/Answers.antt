use Rattle.std.proofs.Common.{◌≡◌, ◌≢◌, ℕ, List, Option, Bool, true, false, not, IsTrue, None, Some, is_some, refl, sym, ap, subst, ◌∙◌, arith, inl, inr}
use Rattle.std.specs.Prelude.{IfSome}
use Rattle.std.specs.FinMap.{get}
use Rattle.std.specs.BTreeSet.{contains}
use Rattle.git_name.specs.Name.{name_cmp}
use Rattle.git_name.specs.declared.kind.Kind.TheVariants.{Tag}
use Rattle.fork_reach.specs.Objects.{measures_of}
use Rattle.fork_reach.specs.Source.{Objects, kind_in}
use Rattle.fork_reach.proofs.AlongLemmas.{there_by_kind}
use Rattle.fork_reach.proofs.AskedLemmas.{asked_again}
use Rattle.fork_reach.proofs.MeasureLemmas.{measured_there, same_there}
use Rattle.fork_reach.proofs.SeeingLemmas.{found_inserting, unseen_less}
use Rattle.fork_query.specs.Followed.{AreEnds, TagEnds}
use Rattle.fork_query.specs.Peel.{peeled, tag_target}
use Rattle.fork_query.proofs.PeelLemmas.{IsNearer, circle_none, nearer_on, nearer_target, no_target, peeled_here, peeled_on}
use Rattle.fork_query.proofs.peeling.walk.Goals as goal

-- what an insertion told of whether the name was there
was_seen : (added before : Bool) → added ≡ not before → added ≡ false → before ≡ true
was_seen added true is old = refl
was_seen added false is old = absurd (cc)

was_new : (added before : Bool) → added ≡ not before → added ≡ true → before ≡ false
was_new added true is new = absurd (cc)
was_new added false is new = refl

-- what is known of the tag that was met
known_end : (objects : Objects) (ends : TagEnds) (tag : List ℕ) (end : Option (List ℕ)) → AreEnds objects ends → get ends tag ≡ Some end → end ≡ peeled objects tag
known_end objects ends tag end are is = subst (λ found. IfSome found (λ e. e ≡ peeled objects tag)) is (are tag)

-- what a trail leads to is what its beginning and each of its tags stand for
pub returns-in-Some-clause-led : goal.returns-in-Some-clause-led
returns-in-Some-clause-led g c = λ honest ends.
    let objects = (g.S.Source.state c.args.source.now).objects in
    known_end objects c.args.followed.now c.tags.at _ ends (sym c.end_of.ensures ∙ c.in-Some.is) ∙ c.tags.invariant.same honest

pub returns-in-Some-clause-tags : goal.returns-in-Some-clause-tags
returns-in-Some-clause-tags g c = λ honest ends tag met.
    let objects = (g.S.Source.state c.args.source.now).objects in
    known_end objects c.args.followed.now c.tags.at _ ends (sym c.end_of.ensures ∙ c.in-Some.is) ∙ c.tags.invariant.same honest ∙ sym (c.tags.invariant.alike honest tag met)

pub returns-then-not-is_new-clause-led : goal.returns-then-not-is_new-clause-led
returns-then-not-is_new-clause-led g c = λ honest ends.
    let objects = (g.S.Source.state c.args.source.now).objects in
    let before = c.tags.invariant in
    let met = was_seen c.in-Ok.is_new (contains name_cmp c.tags.tags c.tags.at) c.in-Ok.ensures.added c.if-not-is_new.true in
    sym (circle_none objects c.tags.at (before.nearer honest c.tags.at met)) ∙ before.same honest

pub returns-then-not-is_new-clause-tags : goal.returns-then-not-is_new-clause-tags
returns-then-not-is_new-clause-tags g c = λ honest ends tag met_now.
    let objects = (g.S.Source.state c.args.source.now).objects in
    let before = c.tags.invariant in
    let met = was_seen c.in-Ok.is_new (contains name_cmp c.tags.tags c.tags.at) c.in-Ok.ensures.added c.if-not-is_new.true in
    let here = sym (circle_none objects c.tags.at (before.nearer honest c.tags.at met)) ∙ before.same honest in
    elim (found_inserting c.tags.at (contains name_cmp c.tags.tags) (contains name_cmp c.insert.new.self) c.in-Ok.ensures.updates.0 tag met_now) [
      | inl same ↦ here ∙ sym (before.same honest) ∙ ap (peeled objects) same
      | inr was ↦ here ∙ sym (before.alike honest tag was)
    ]

pub returns-in_default-target-clause-led : goal.returns-in_default-target-clause-led
returns-in_default-target-clause-led g c = λ honest ends.
    let objects = (g.S.Source.state c.args.source.now).objects in
    let before = c.tags.invariant in
    let told = c.in_ok-target.ensures.target (subst IsTrue (sym before.asked.honest) honest) in
    let none = ap (λ all. tag_target all c.tags.at) (sym (before.asked.objects honest)) ∙ sym told ∙ c.in_default-target.is in
    sym (peeled_here objects c.tags.at none) ∙ before.same honest

pub returns-in_default-target-clause-tags : goal.returns-in_default-target-clause-tags
returns-in_default-target-clause-tags g c = λ honest ends tag met_now.
    let objects = (g.S.Source.state c.args.source.now).objects in
    let before = c.tags.invariant in
    let told = c.in_ok-target.ensures.target (subst IsTrue (sym before.asked.honest) honest) in
    let none = ap (λ all. tag_target all c.tags.at) (sym (before.asked.objects honest)) ∙ sym told ∙ c.in_default-target.is in
    let here = sym (peeled_here objects c.tags.at none) in
    elim (found_inserting c.tags.at (contains name_cmp c.tags.tags) (contains name_cmp c.insert.new.self) c.in-Ok.ensures.updates.0 tag met_now) [
      | inl same ↦ here ∙ ap (peeled objects) same
      | inr was ↦ here ∙ before.same honest ∙ sym (before.alike honest tag was)
    ]

pub tags-smaller : goal.tags-smaller
tags-smaller g c =
    let old = g.S.Source.state c.args.source.now in
    let mid = g.S.Source.state c.tags.source in
    let before = c.tags.invariant in
    let seen = contains name_cmp c.tags.tags in
    let there = measured_there old.objects c.tags.at ∙ sym (same_there mid.objects old.objects c.tags.at before.asked.measures) ∙ there_by_kind mid.objects c.tags.at (ap is_some c.tags-test.ensures.tag) in
    omega (arith, unseen_less (measures_of old.objects) c.tags.at seen (contains name_cmp c.insert.new.self) c.in-Ok.ensures.updates.0 c.in-Ok.ensures.updates.1 (was_new c.in-Ok.is_new (seen c.tags.at) c.in-Ok.ensures.added c.if-not-is_new.false) there)

pub tags-preserved : goal.tags-preserved
tags-preserved g c =
    let old = g.S.Source.state c.args.source.now in
    let mid = g.S.Source.state c.tags.source in
    let before = c.tags.invariant in
    let at = c.tags.at in
    let target = c.in-Some-target.target in
    let told = c.in_ok-target.ensures in
    let is = (λ (honest : IsTrue old.honest). ap (λ all. tag_target all at) (sym (before.asked.objects honest)) ∙ sym (told.target (subst IsTrue (sym before.asked.honest) honest)) ∙ c.in-Some-target.is) in
    record {
      asked = asked_again old mid (g.S.Source.state c.read_target.new.source) None before.asked told.asked;
      same = λ honest. sym (peeled_on old.objects at target (is honest)) ∙ before.same honest;
      nearer = λ honest far seen. elim (found_inserting at (contains name_cmp c.tags.tags) (contains name_cmp c.insert.new.self) c.in-Ok.ensures.updates.0 far seen) [
        | inl same ↦ subst (λ n. IsNearer old.objects target n) same (nearer_target old.objects at target (is honest))
        | inr was ↦ nearer_on old.objects at target far (is honest) (before.nearer honest far was)
      ];
      alike = λ honest far met. elim (found_inserting at (contains name_cmp c.tags.tags) (contains name_cmp c.insert.new.self) c.in-Ok.ensures.updates.0 far met) [
        | inl same ↦ ap (peeled old.objects) (sym same) ∙ before.same honest
        | inr was ↦ before.alike honest far was
      ];
    }

pub returns-clause-led : goal.returns-clause-led
returns-clause-led g c = λ honest ends.
    let objects = (g.S.Source.state c.args.source.now).objects in
    let before = c.tags.invariant in
    let other = subst (λ (all : Objects). kind_in all c.tags.at ≢ Some Tag) (before.asked.objects honest) c.tags-test.ensures.other in
    sym (peeled_here objects c.tags.at (no_target objects c.tags.at other)) ∙ before.same honest

pub returns-clause-tags : goal.returns-clause-tags
returns-clause-tags g c = λ honest ends tag met.
    let objects = (g.S.Source.state c.args.source.now).objects in
    let before = c.tags.invariant in
    let other = subst (λ (all : Objects). kind_in all c.tags.at ≢ Some Tag) (before.asked.objects honest) c.tags-test.ensures.other in
    sym (peeled_here objects c.tags.at (no_target objects c.tags.at other)) ∙ before.same honest ∙ sym (before.alike honest tag met)
