use Rattle.std.proofs.Common.{◌≡◌, ◌&&◌, arith, not}
use Rattle.number_links.specs.Numbers.{has}
use Rattle.number_links.specs.Descent.{IsKey, waits}
use Rattle.number_links.specs.Facts.{Facts}
use Rattle.number_links.specs.Generations.{generation}
use Rattle.number_links.proofs.BestLemmas.{best_told, descends, descent_begins, latest_key, latest_under, no_later, noted_keeps, noted_only, noted_there}
use Rattle.number_links.proofs.KeyLemmas.{bounded}
use Rattle.number_links.proofs.merge_bases.descend.Goals as goal

pub waiting-init : goal.waiting-init
waiting-init c =
    let facts : Facts = record { links = c.args.ground.now.links.now; times = c.args.ground.now.times.now } in
    let first = c.in_ok-waiting.waiting in
    let key_a = c.key_of.ensures in
    let key_b = c.key_of-2.ensures in
    descent_begins facts (has c.args.ground.now.allowed.now) c.args.ground.now.generations.now c.requires.few c.requires.are c.args.a c.args.b c.requires.a c.requires.b _ (waits first.of_a) (waits first.of_b) (waits first.outdone) (has c.new-found.result) (omega arith) (omega arith)
    c.in_ok-waiting.ensures.of_a c.in_ok-waiting.ensures.of_b c.in_ok-waiting.ensures.outdone c.new-found.ensures.has

pub go_on-requires-clause-key : goal.go_on-requires-clause-key
go_on-requires-clause-key c =
    let facts : Facts = record { links = c.args.ground.now.links.now; times = c.args.ground.now.times.now } in
    let now = c.waiting.waiting in
    latest_key facts (has c.args.ground.now.allowed.now) c.args.ground.now.generations.now c.requires.few c.requires.are c.args.a c.args.b c.requires.a c.requires.b c.waiting.below c.last_of-at.result (waits now.of_a) (waits now.of_b) (waits now.outdone) (has c.waiting.found) c.waiting.invariant
    c.in-Some.last c.in-Some.ensures.among c.last_of-at.ensures.among

pub waiting-preserved : goal.waiting-preserved
waiting-preserved c =
    let facts : Facts = record { links = c.args.ground.now.links.now; times = c.args.ground.now.times.now } in
    let allowed = has c.args.ground.now.allowed.now in
    let gs = c.args.ground.now.generations.now in
    let state = c.waiting.invariant in
    let last = c.in-Some.last in
    let at = c.last_of-at.result in
    let from_a = waits c.waiting.waiting.of_a in
    let from_b = waits c.waiting.waiting.of_b in
    let outdone = waits c.waiting.waiting.outdone in
    let best = has c.waiting.found in
    let now = c.go_on.new.waiting in
    let now_best = has c.note.new.found in
    let here = not (outdone at) && (from_a at && from_b at) in
    let is : IsKey gs at = latest_key facts allowed gs c.requires.few c.requires.are c.args.a c.args.b c.requires.a c.requires.b c.waiting.below at from_a from_b outdone best state last c.in-Some.ensures.among c.last_of-at.ensures.among in
    let first = c.number_of.result in
    let number : first ≡ is.number = c.number_of.ensures (generation gs is.number) is.number is.of (bounded gs c.requires.few is.number is.high) in
    descends facts allowed gs c.requires.few c.requires.are c.args.a c.args.b c.requires.a c.requires.b c.waiting.below at from_a from_b outdone best state
    (latest_under c.waiting.below last at from_a from_b outdone (λ key there. (state.of_a.sound key there).0) (λ key there. (state.of_b.sound key there).0) (λ key there. (state.gone.sound key there).0) c.in-Some.ensures.among c.last_of-at.ensures.among)
    (no_later last at from_a c.last_of-at.ensures.least c.in-Some.ensures.most_of_a) (no_later last at from_b c.last_of-at.ensures.least c.in-Some.ensures.most_of_b) c.last_of-at.ensures.most
    (waits now.of_a) (waits now.of_b) (waits now.outdone) now_best is c.in_ok-is_best.ensures.on
    (λ n there. noted_only first is.number n c.in_ok-is_best.is_best here (best n) (now_best n) (c.in_ok-note.ensures n) c.in_ok-is_best.ensures.best number there)
    (λ n there. noted_keeps _ (best n) (now_best n) (c.in_ok-note.ensures n) there)
    (λ there. noted_there first is.number c.in_ok-is_best.is_best here (best is.number) (now_best is.number) (c.in_ok-note.ensures is.number) c.in_ok-is_best.ensures.best number there)

pub returns : goal.returns
returns c =
    let now = c.waiting.waiting in
    best_told (record { links = c.args.ground.now.links.now; times = c.args.ground.now.times.now }) (has c.args.ground.now.allowed.now) c.args.ground.now.generations.now c.requires.few c.requires.are c.args.a c.args.b c.requires.a c.requires.b c.waiting.below (waits now.of_a) (waits now.of_b) (waits now.outdone) (has c.waiting.found) c.waiting.invariant c.in_default.ensures.none
