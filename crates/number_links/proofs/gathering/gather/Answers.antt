use Rattle.std.proofs.Common.{◌≡◌, ◌+◌, ◌||◌, ◌∙◌, ℕ, true, is_some, inl, length, refl, rules, subst, ap, vec_len, arith}
use Rattle.std.proofs.lemmas.List.{length_push}
use Rattle.number_links.specs.Numbers.{has}
use Rattle.number_links.specs.Known.{known, linked}
use Rattle.number_links.specs.Seeing.{Enters}
use Rattle.number_links.proofs.EnterLemmas.{walks_entered, walks_entered_first}
use Rattle.number_links.proofs.KeptLemmas.{kept_gathered, learns_more, learns_nowhere, linked_as_before}
use Rattle.number_links.proofs.NowhereLemmas.{nowhere_clear, nowhere_linked}
use Rattle.number_links.proofs.OptionLemmas.{some_is}
use Rattle.number_links.proofs.SeeingLemmas.{sole, unseen_no_more}
use Rattle.number_links.proofs.WalkLemmas.{none_waits, walks_clear, walks_taken}
use Rattle.number_links.proofs.gathering.gather.Goals as goal

pub waiting-init : goal.waiting-init
waiting-init g c =
    let links = c.args.links.now in
    let ends = has c.args.ends.now in (
      walks_entered_first (λ n. is_some (known links n) ≡ true) (linked links) c.args.roots.now ends (nowhere_clear links links ends (λ q is. refl) c.requires.ends) (nowhere_linked links ends c.requires.ends)
          4294967296 (has c.new-seen.result) c.new-waiting.result.items (has c.enter_all.new.seen) c.enter_all.new.waiting.items c.new-seen.ensures.has c.new-waiting.ensures.items c.in_ok-enter_all.ensures,
      λ q is. refl,
      λ q ms is. inl is,
    )

pub waiting-smaller-in-Some-find : goal.waiting-smaller-in-Some-find
waiting-smaller-in-Some-find g c =
    let fewer = unseen_no_more 4294967296 (λ _. true) (has c.waiting.seen) (has c.take.new.seen) (λ n is. c.in_ok-take.ensures n ∙ ap (λ b. b || has c.in-Some-find.set.now n) is) in
    let shorter : length c.waiting.waiting.items ≡ length c.pop.new.self.items + 1 = ap length c.in-Some.ensures.items ∙ length_push c.pop.new.self.items c.in-Some.n in
    omega (arith, fewer, shorter)

pub waiting-preserved-in-Some-find : goal.waiting-preserved-in-Some-find
waiting-preserved-in-Some-find g c =
    let links = c.args.links.now in
    let n = c.in-Some.n in
    let set = has c.in-Some-find.set.now in
    let is_so = c.waiting.invariant in
    let told = some_is c.find.result c.in-Some-find.set _ c.in-Some-find.is (c.find.ensures links c.requires.kept) in (
      walks_taken (λ m. is_some (known c.waiting.links m) ≡ true) (linked links) (λ _. true) c.args.roots.now (has c.waiting.seen) c.waiting.waiting.items c.pop.new.self.items n set (has c.take.new.seen) c.in-Some.ensures.items (told.0.rooted n (sole n))
          (λ m is. ap is_some (is_so.1 m (told.0.known m is)) ∙ told.0.known m is) told.0.closed told.0.only is_so.0 c.in_ok-take.ensures,
      is_so.1,
      is_so.2,
    )

pub returns-in_err-follow-clause-only : goal.returns-in_err-follow-clause-only
returns-in_err-follow-clause-only g c =
    learns_more c.args.links.now c.waiting.links c.follow.new.links (has c.args.allowed.now) (g.R.Resting.rests c.args.resting.now) c.waiting.invariant.2 c.follow.ensures.only

pub returns-then-not-branch-clause-only : goal.returns-then-not-branch-clause-only
returns-then-not-branch-clause-only g c =
    learns_more c.args.links.now c.waiting.links c.follow.new.links (has c.args.allowed.now) (g.R.Resting.rests c.args.resting.now) c.waiting.invariant.2 c.follow.ensures.only

pub waiting-preserved : goal.waiting-preserved
waiting-preserved g c =
    let links = c.args.links.now in
    let mid = c.waiting.links in
    let now = c.follow.new.links in
    let ends = has c.args.ends.now in
    let rests = g.R.Resting.rests c.args.resting.now in
    let n = c.in-Some.n in
    let rest = c.pop.new.self.items in
    let seen = has c.waiting.seen in
    let is_so = c.waiting.invariant in
    let stays : (q : ℕ) → is_some (known links q) ≡ true → known now q ≡ known links q = λ q is. c.follow.ensures.stays q (ap is_some (is_so.1 q is) ∙ is) ∙ is_so.1 q is in (
      walks_entered (λ m. is_some (known now m) ≡ true) (linked links) c.args.roots.now ends (nowhere_clear links now ends stays c.requires.ends) (nowhere_linked links ends c.requires.ends)
          4294967296 seen c.waiting.waiting.items rest n (has c.follow.new.seen) c.follow.new.waiting.items c.in-Some.ensures.items (c.in_ok-follow.ensures.known (search rules))
          (walks_clear (λ m. is_some (known mid m) ≡ true) (λ m. is_some (known now m) ≡ true) (linked links) (λ _. true) c.args.roots.now seen c.waiting.waiting.items (λ m is. ap is_some (c.follow.ensures.stays m is) ∙ is) is_so.0)
          (subst (λ ns. Enters 4294967296 ends ns seen rest (has c.follow.new.seen) c.follow.new.waiting.items) (linked_as_before links mid is_so.1 (learns_nowhere links mid (has c.args.allowed.now) rests is_so.2) n) (c.in_ok-follow.ensures.enters (search rules))),
      stays,
      learns_more links mid now (has c.args.allowed.now) rests is_so.2 c.follow.ensures.only,
    )

pub returns-clause-found : goal.returns-clause-found
returns-clause-found g c =
    let waits = c.waiting.waiting.items in
    let is_so = c.waiting.invariant in
    kept_gathered c.args.links.now c.waiting.links c.args.roots.now (has c.waiting.seen) waits (none_waits waits (vec_len c.waiting.waiting) (search rules) c.in_default.ensures.cases.0) is_so.1
    (learns_nowhere c.args.links.now c.waiting.links (has c.args.allowed.now) (g.R.Resting.rests c.args.resting.now) is_so.2) is_so.0
