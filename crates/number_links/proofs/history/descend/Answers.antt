use Rattle.std.proofs.Common.{◌≡◌, not, arith}
use Rattle.number_links.specs.Numbers.{has}
use Rattle.number_links.specs.Descent.{IsKey, waits}
use Rattle.number_links.specs.Facts.{Facts}
use Rattle.number_links.specs.Generations.{generation}
use Rattle.number_links.proofs.BestLemmas.{no_later, noted_keeps, noted_only, noted_there}
use Rattle.number_links.proofs.HistoryLemmas.{history_begins, history_key, history_on, history_told}
use Rattle.number_links.proofs.KeyLemmas.{bounded}
use Rattle.number_links.proofs.history.descend.Goals as goal

pub sides-init : goal.sides-init
sides-init c =
    let facts : Facts = record { links = c.args.ground.now.links.now; times = c.args.ground.now.times.now } in
    let begun = c.in_ok-sides.sides in
    let least = c.last_of.ensures.least in
    history_begins facts (has c.args.ground.now.allowed.now) c.args.ground.now.generations.now c.requires.few c.requires.are c.args.wanted.now c.args.excluded.now c.requires.wanted c.requires.excluded c.last_of-first.result _ (waits begun.wanted) (waits begun.excluded) (has c.new-found.result)
    c.last_of-first.ensures.most (omega arith) (λ key there. (let within = c.last_of.ensures.most key there in omega arith)) c.in_ok-sides.ensures.wanted c.in_ok-sides.ensures.excluded c.new-found.ensures.has

pub go_on-requires-clause-key : goal.go_on-requires-clause-key
go_on-requires-clause-key c =
    let facts : Facts = record { links = c.args.ground.now.links.now; times = c.args.ground.now.times.now } in
    let now = c.sides.sides in
    history_key facts (has c.args.ground.now.allowed.now) c.args.ground.now.generations.now c.requires.few c.requires.are c.args.wanted.now c.args.excluded.now c.requires.wanted c.requires.excluded c.sides.below c.in-Some.most c.last_of-at.result (waits now.wanted) (waits now.excluded) (has c.sides.found) c.sides.invariant
    c.in-Some.ensures.among c.last_of-at.ensures.among

pub sides-preserved : goal.sides-preserved
sides-preserved c =
    let facts : Facts = record { links = c.args.ground.now.links.now; times = c.args.ground.now.times.now } in
    let allowed = has c.args.ground.now.allowed.now in
    let gs = c.args.ground.now.generations.now in
    let state = c.sides.invariant in
    let most = c.in-Some.most in
    let at = c.last_of-at.result in
    let wanted = waits c.sides.sides.wanted in
    let excluded = waits c.sides.sides.excluded in
    let found = has c.sides.found in
    let now = c.go_on.new.sides in
    let now_found = has c.note.new.found in
    let here = not (excluded at) in
    let is : IsKey gs at = history_key facts allowed gs c.requires.few c.requires.are c.args.wanted.now c.args.excluded.now c.requires.wanted c.requires.excluded c.sides.below most at wanted excluded found state c.in-Some.ensures.among c.last_of-at.ensures.among in
    let first = c.number_of.result in
    let number : first ≡ is.number = c.number_of.ensures (generation gs is.number) is.number is.of (bounded gs c.requires.few is.number is.high) in
    history_on facts allowed gs c.requires.few c.requires.are c.args.wanted.now c.args.excluded.now c.requires.wanted c.requires.excluded c.sides.below most at wanted excluded found state c.in-Some.ensures.among c.last_of-at.ensures.among
    (no_later most at wanted c.last_of-at.ensures.least c.in-Some.ensures.most) c.last_of-at.ensures.most
    (waits now.wanted) (waits now.excluded) now_found is c.in_ok-is_found.ensures.wanted c.in_ok-is_found.ensures.excluded
    (λ n there. noted_only first is.number n c.in_ok-is_found.is_found here (found n) (now_found n) (c.in_ok-note.ensures n) c.in_ok-is_found.ensures.found number there)
    (λ n there. noted_keeps _ (found n) (now_found n) (c.in_ok-note.ensures n) there)
    (λ there. noted_there first is.number c.in_ok-is_found.is_found here (found is.number) (now_found is.number) (c.in_ok-note.ensures is.number) c.in_ok-is_found.ensures.found number there)

pub returns : goal.returns
returns c =
    let now = c.sides.sides in
    history_told (record { links = c.args.ground.now.links.now; times = c.args.ground.now.times.now }) (has c.args.ground.now.allowed.now) c.args.ground.now.generations.now c.requires.few c.requires.are c.args.wanted.now c.args.excluded.now c.requires.wanted c.requires.excluded c.sides.below (waits now.wanted) (waits now.excluded) (has c.sides.found) c.sides.invariant c.in_default.ensures.none
