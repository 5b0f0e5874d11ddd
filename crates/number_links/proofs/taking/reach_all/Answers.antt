use Rattle.std.proofs.Common.{◌≡◌, ◌+◌, ◌||◌, [], ◌∷◌, inr, length, rules, subst, sym, ap, vec_len, arith, ◌∙◌}
use Rattle.std.proofs.lemmas.List.{length_push}
use Rattle.number_links.specs.Numbers.{has}
use Rattle.number_links.specs.Known.{RestsOrIsKnown, linked}
use Rattle.number_links.specs.Reach.{past}
use Rattle.number_links.specs.Seeing.{Sees}
use Rattle.number_links.proofs.KeptLemmas.{led_all}
use Rattle.number_links.proofs.OptionLemmas.{some_is}
use Rattle.number_links.proofs.PastLemmas.{sees_open}
use Rattle.number_links.proofs.SeeingLemmas.{sole, unseen_no_more}
use Rattle.number_links.proofs.WalkLemmas.{last_reached, none_waits, walks_begin, walks_end, walks_on, walks_taken}
use Rattle.number_links.proofs.taking.reach_all.Goals as goal

pub waiting-init : goal.waiting-init
waiting-init g c =
    let rests = g.R.Resting.rests c.args.resting.now in
    let links = c.args.links.now in
    walks_begin 4294967296 (RestsOrIsKnown links rests) (linked links) (has c.args.allowed.now) c.args.roots.now (has c.new-seen.result) c.new-waiting.result.items (has c.note_all.new.seen) c.note_all.new.waiting.items c.new-seen.ensures.has c.new-waiting.ensures.items
    (sees_open 4294967296 (has c.args.allowed.now) (has c.new-none.result) c.args.roots.now (has c.new-seen.result) c.new-waiting.result.items (has c.note_all.new.seen) c.note_all.new.waiting.items c.new-none.ensures.has c.in_ok-note_all.ensures)

pub waiting-smaller-in-Some-find : goal.waiting-smaller-in-Some-find
waiting-smaller-in-Some-find g c =
    let rest = c.pop.new.self.items in
    let fewer = unseen_no_more 4294967296 (has c.args.allowed.now) (has c.waiting.seen) (has c.take.new.seen) (λ n is. c.in_ok-take.ensures n ∙ ap (λ b. b || has c.in-Some-find.set.now n) is) in
    let shorter : length c.waiting.waiting.items ≡ length rest + 1 = ap length c.in-Some.ensures.items ∙ length_push rest c.in-Some.n in
    omega (arith, fewer, shorter)

pub waiting-smaller : goal.waiting-smaller
waiting-smaller g c =
    let rest = c.pop.new.self.items in
    let allowed = has c.args.allowed.now in
    let seen = sees_open 4294967296 allowed (has c.new-none.result) c.in-Some-next.to.now (has c.waiting.seen) rest (has c.note_all-in-Some.new.seen) c.note_all-in-Some.new.waiting.items c.new-none.ensures.has c.in_ok-note_all-2.ensures in
    let less = seen.less in
    let shorter : length c.waiting.waiting.items ≡ length rest + 1 = ap length c.in-Some.ensures.items ∙ length_push rest c.in-Some.n in
    omega (arith, less, shorter)

pub waiting-preserved-in-Some-find : goal.waiting-preserved-in-Some-find
waiting-preserved-in-Some-find g c =
    let rests = g.R.Resting.rests c.args.resting.now in
    let links = c.args.links.now in
    let allowed = has c.args.allowed.now in
    let n = c.in-Some.n in
    let set = has c.in-Some-find.set.now in
    let told = some_is c.find.result c.in-Some-find.set _ c.in-Some-find.is (c.find.ensures links c.requires) in
    walks_taken (RestsOrIsKnown links rests) (linked links) allowed c.args.roots.now (has c.waiting.seen) c.waiting.waiting.items c.pop.new.self.items n set (has c.take.new.seen) c.in-Some.ensures.items (told.0.rooted n (sole n)) (λ m is. inr (told.0.known m is)) told.0.closed
    (λ m is. led_all links (n ∷ []) set allowed told.0 told.1 m (told.0.only m is)) c.waiting.invariant c.in_ok-take.ensures

pub waiting-preserved : goal.waiting-preserved
waiting-preserved g c =
    let rests = g.R.Resting.rests c.args.resting.now in
    let links = c.args.links.now in
    let allowed = has c.args.allowed.now in
    let n = c.in-Some.n in
    let rest = c.pop.new.self.items in
    walks_on 4294967296 (RestsOrIsKnown links rests) (linked links) allowed c.args.roots.now (has c.waiting.seen) c.waiting.waiting.items rest n (has c.note_all-in-Some.new.seen) c.note_all-in-Some.new.waiting.items c.in-Some.ensures.items c.in-Some-next.ensures.known c.waiting.invariant
    (sees_open 4294967296 allowed (has c.new-none.result) (linked links n) (has c.waiting.seen) rest (has c.note_all-in-Some.new.seen) c.note_all-in-Some.new.waiting.items c.new-none.ensures.has
    (subst (λ ns. Sees 4294967296 (past allowed (has c.new-none.result)) ns (has c.waiting.seen) rest (has c.note_all-in-Some.new.seen) c.note_all-in-Some.new.waiting.items) (sym c.in-Some-next.ensures.some) c.in_ok-note_all-2.ensures))

pub returns-in_default-next-clause-unknown : goal.returns-in_default-next-clause-unknown
returns-in_default-next-clause-unknown g c =
    let rests = g.R.Resting.rests c.args.resting.now in
    let links = c.args.links.now in (
      c.in-Some.n,
      last_reached (RestsOrIsKnown links rests) (linked links) (has c.args.allowed.now) c.args.roots.now (has c.waiting.seen) c.waiting.waiting.items c.pop.new.self.items c.in-Some.n c.in-Some.ensures.items c.waiting.invariant,
      c.in_default-next.ensures.none.0,
      c.in_default-next.ensures.none.1,
    )

pub returns-clause-all : goal.returns-clause-all
returns-clause-all g c n reached =
    let rests = g.R.Resting.rests c.args.resting.now in
    let links = c.args.links.now in
    let waits = c.waiting.waiting.items in
    let told = c.in_default.ensures in
    walks_end (RestsOrIsKnown links rests) (linked links) (has c.args.allowed.now) c.args.roots.now (has c.waiting.seen) waits (none_waits waits (vec_len c.waiting.waiting) (search rules) told.cases.0) c.waiting.invariant n reached
