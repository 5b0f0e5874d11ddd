use Rattle.std.proofs.Common.{rules, subst, sym, vec_len}
use Rattle.number_links.specs.Numbers.{has}
use Rattle.number_links.specs.Facts.{goes_on}
use Rattle.number_links.specs.Known.{RestsOrIsKnown}
use Rattle.number_links.specs.Reach.{past}
use Rattle.number_links.specs.Seeing.{Sees}
use Rattle.number_links.proofs.WalkLemmas.{last_reached, none_waits, walks_begin, walks_end, walks_on}
use Rattle.number_links.proofs.walking.walk.Goals as goal

pub waiting-init : goal.waiting-init
waiting-init g c =
    let rests = g.R.Resting.rests c.args.resting.now in
    let links = c.args.links.now in
    let next = goes_on c.args.along (record { links = links; times = c.args.times.now }) in
    walks_begin 4294967296 (RestsOrIsKnown links rests) next (past (has c.args.allowed.now) (has c.args.hidden.now)) c.args.roots.now (has c.new-seen.result) c.new-waiting.result.items (has c.note_all.new.seen) c.note_all.new.waiting.items c.new-seen.ensures.has c.new-waiting.ensures.items c.in_ok-note_all.ensures

pub waiting-preserved : goal.waiting-preserved
waiting-preserved g c =
    let rests = g.R.Resting.rests c.args.resting.now in
    let links = c.args.links.now in
    let next = goes_on c.args.along (record { links = links; times = c.args.times.now }) in
    let allowed = past (has c.args.allowed.now) (has c.args.hidden.now) in
    let n = c.in-Some.n in
    let rest = c.pop.new.self.items in
    walks_on 4294967296 (RestsOrIsKnown links rests) next allowed c.args.roots.now (has c.waiting.seen) c.waiting.waiting.items rest n (has c.note_all-in-Some.new.seen) c.note_all-in-Some.new.waiting.items c.in-Some.ensures.items c.in-Some-follow.ensures.known c.waiting.invariant
    (subst (λ ns. Sees 4294967296 allowed ns (has c.waiting.seen) rest (has c.note_all-in-Some.new.seen) c.note_all-in-Some.new.waiting.items) (sym c.in-Some-follow.ensures.some) c.in_ok-note_all-2.ensures)

pub returns-in_default-follow-clause-unknown : goal.returns-in_default-follow-clause-unknown
returns-in_default-follow-clause-unknown g c =
    let rests = g.R.Resting.rests c.args.resting.now in
    let links = c.args.links.now in
    let next = goes_on c.args.along (record { links = links; times = c.args.times.now }) in (
      c.in-Some.n,
      last_reached (RestsOrIsKnown links rests) next (past (has c.args.allowed.now) (has c.args.hidden.now)) c.args.roots.now (has c.waiting.seen) c.waiting.waiting.items c.pop.new.self.items c.in-Some.n c.in-Some.ensures.items c.waiting.invariant,
      c.in_default-follow.ensures.none.0,
      c.in_default-follow.ensures.none.1,
    )

pub returns-clause-all : goal.returns-clause-all
returns-clause-all g c n reached =
    let rests = g.R.Resting.rests c.args.resting.now in
    let links = c.args.links.now in
    let next = goes_on c.args.along (record { links = links; times = c.args.times.now }) in
    let waits = c.waiting.waiting.items in
    let told = c.in_default.ensures in
    walks_end (RestsOrIsKnown links rests) next (past (has c.args.allowed.now) (has c.args.hidden.now)) c.args.roots.now (has c.waiting.seen) waits (none_waits waits (vec_len c.waiting.waiting) (search rules) told.cases.0) c.waiting.invariant n reached
