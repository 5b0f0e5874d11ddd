use Rattle.std.proofs.Common.{IsTrue, None, Some, vec_len, subst, sym, ◌∙◌, ap}
use Rattle.std.specs.HashSet.{contains}
use Rattle.std.specs.List.Sorted.{IsPermutation}
use Rattle.std.proofs.lemmas.List.Sorted.{Contains-permutation, IsPermutation-sym}
use Rattle.git_name.specs.Same.{same_name}
use Rattle.fork_reach.specs.Along.{names_along, rests_at}
use Rattle.fork_reach.specs.Hidden.{without}
use Rattle.fork_reach.specs.Objects.{measures_of}
use Rattle.fork_reach.specs.Seeing.{Sees}
use Rattle.fork_reach.proofs.AlongLemmas.{quiet_along}
use Rattle.fork_reach.proofs.AskedLemmas.{asked_again, not_asked}
use Rattle.fork_reach.proofs.HiddenLemmas.{measured_without}
use Rattle.fork_reach.proofs.NameLemmas.{empty_holds_none}
use Rattle.fork_reach.proofs.ReachLemmas.{reached_alike}
use Rattle.fork_reach.proofs.SeeingLemmas.{sees_moved}
use Rattle.fork_reach.proofs.WalkLemmas.{walks_begin, none_waits, walks_end, walks_on}
use Rattle.fork_reach.proofs.walk.walk.Goals as goal

pub waiting-init : goal.waiting-init
waiting-init g c =
    let old = g.S.Source.state c.args.source.now in
    record {
      asked = not_asked old;
      walks = walks_begin (names_along c.args.along old.objects) (without (measures_of old.objects) (contains same_name c.args.hidden.now)) (rests_at (Some c.args.along) (measures_of old.objects)) c.args.roots.now old.honest (contains same_name c.with_hasher-seen.result) c.new-waiting.result.items (contains same_name c.note_open.new.seen) c.note_open.new.waiting.items
          (λ honest from rests. quiet_along c.args.along old.objects from rests) (empty_holds_none c.with_hasher-seen.result.keys c.with_hasher-seen.ensures.empty) c.new-waiting.ensures.items c.in-Ok.ensures;
    }

pub waiting-preserved : goal.waiting-preserved
waiting-preserved g c =
    let old = g.S.Source.state c.args.source.now in
    let mid = g.S.Source.state c.waiting.source in
    let next = names_along c.args.along old.objects in
    let hides = contains same_name c.args.hidden.now in
    let before = c.waiting.invariant in
    let told = c.in_ok-names.ensures in
    let asked = asked_again old mid (g.S.Source.state c.next_names.new.source) None before.asked told.asked in
    let seen = contains same_name c.waiting.seen in
    let rest = c.pop.new.self.items in
    let name = c.in-Some.name in
    let names = c.in_ok-names.names.items in
    let turned = subst (IsPermutation names) (sym c.as_slice.ensures.value) c.reverse.ensures.permutation in
    let now_seen = contains same_name c.note_open-in-Some.new.seen in
    let now_waits = c.note_open-in-Some.new.waiting.items in
    record {
      asked = asked;
      walks = walks_on next (without (measures_of old.objects) hides) (rests_at (Some c.args.along) (measures_of old.objects)) c.args.roots.now old.honest seen c.waiting.waiting.items rest name names now_seen now_waits (λ honest from rests. quiet_along c.args.along old.objects from rests) c.in-Some.ensures.items before.walks
          (λ honest. told.next (subst IsTrue (sym before.asked.honest) honest) ∙ ap (λ all. names_along c.args.along all name) (before.asked.objects honest))
          (subst (λ measures. Sees (without measures hides) (rests_at (Some c.args.along) measures) names seen rest now_seen now_waits) asked.measures
          (sees_moved _ _ c.as_slice.result.now names seen rest now_seen now_waits (λ n. Contains-permutation names c.as_slice.result.now n turned) (λ n. Contains-permutation c.as_slice.result.now names n (IsPermutation-sym names c.as_slice.result.now turned)) c.in-Ok-note_open.ensures));
    }

pub returns-clause-found : goal.returns-clause-found
returns-clause-found g c = λ honest name.
    let old = g.S.Source.state c.args.source.now in
    let next = names_along c.args.along old.objects in
    let hides = contains same_name c.args.hidden.now in
    let waits = c.waiting.waiting.items in
    let told = c.in_default-pop.ensures in
    let none = none_waits waits c.pop.new.self.items (vec_len c.waiting.waiting) told.items told.rest told.cases.0 in
    walks_end next (without (measures_of old.objects) hides) c.args.roots.now old.honest (contains same_name c.waiting.seen) waits none c.waiting.invariant.walks honest name
    ∙ reached_alike next (without (measures_of old.objects) hides) (without old.objects hides) c.args.roots.now (measured_without old.objects hides) name

pub returns-clause-there : goal.returns-clause-there
returns-clause-there g c = λ name is.
    sym (measured_without (g.S.Source.state c.args.source.now).objects (contains same_name c.args.hidden.now) name) ∙ c.waiting.invariant.walks.there name is

pub returns-clause-rooted : goal.returns-clause-rooted
returns-clause-rooted g c = λ name root there.
    c.waiting.invariant.walks.begun name root (measured_without (g.S.Source.state c.args.source.now).objects (contains same_name c.args.hidden.now) name ∙ there)
