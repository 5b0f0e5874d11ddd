use Rattle.std.proofs.Common.{◌∙◌, ap, sym, subst, false}
use Rattle.std.specs.FinMap as map
use Rattle.object_table.specs.Rows.{places_of}
use Rattle.object_table.specs.Holders.{holders_of, is_held_in}
use Rattle.fork_ledger.specs.Kept.{Covers}
use Rattle.fork_ledger.proofs.CoverLemmas.{covers_failed, covers_left, exact_left, false_is_true, removed_none}
use Rattle.fork_ledger.proofs.KeepingLemmas.{away_one, keeps_but}
use Rattle.fork_ledger.proofs.LedLemmas.{led_but}
use Rattle.fork_ledger.proofs.LookLemmas.{fewer_names, look_leaves, not_held}
use Rattle.fork_ledger.proofs.sweep_step.take_away.Goals as goal

pub returns-in-Ok-clause-look : goal.returns-in-Ok-clause-look
returns-in-Ok-clause-look g c =
    let went = c.leave.ensures.can c.requires.next c.requires.free in
    look_leaves (is_held_in c.args.holdings.now.ledgers) (places_of c.args.holdings.now.catalogue) (places_of c.leave.new.self.catalogue) c.args.name c.requires.next
    (not_held (holders_of c.args.holdings.now.ledgers c.args.name) c.requires.free) (c.leave.ensures.left went c.requires.next.front c.requires.next.back c.requires.next.whole c.requires.next.at) (c.leave.ensures.place went)

pub returns-in-Ok-clause-count : goal.returns-in-Ok-clause-count
returns-in-Ok-clause-count g c =
    fewer_names (places_of c.args.holdings.now.catalogue) (places_of c.leave.new.self.catalogue) c.args.name c.requires.next (c.leave.ensures.left (c.leave.ensures.can c.requires.next c.requires.free) c.requires.next.front c.requires.next.back c.requires.next.whole c.requires.next.at)

pub returns-in-Ok-clause-keeps : goal.returns-in-Ok-clause-keeps
returns-in-Ok-clause-keeps g c = λ h.
    keeps_but c.args.holdings.now.ledgers c.args.name c.args.files.now.contents c.remove.new.self.contents false
    (not_held (holders_of c.args.holdings.now.ledgers c.args.name) c.requires.free) (c.remove.ensures.others h) (false_is_true _)

pub returns-in-Err-Device-clause-keeps : goal.returns-in-Err-Device-clause-keeps
returns-in-Err-Device-clause-keeps g c = λ h.
    keeps_but c.args.holdings.now.ledgers c.args.name c.args.files.now.contents c.remove.new.self.contents false
    (not_held (holders_of c.args.holdings.now.ledgers c.args.name) c.requires.free) (c.remove.ensures.others h) (false_is_true _)

pub returns-in-Err-Memory-clause-keeps : goal.returns-in-Err-Memory-clause-keeps
returns-in-Err-Memory-clause-keeps g c = λ h.
    keeps_but c.args.holdings.now.ledgers c.args.name c.args.files.now.contents c.remove.new.self.contents false
    (not_held (holders_of c.args.holdings.now.ledgers c.args.name) c.requires.free) (c.remove.ensures.others h) (false_is_true _)

pub returns-in-Ok-clause-covers : goal.returns-in-Ok-clause-covers
returns-in-Ok-clause-covers g c = λ h cover.
    covers_left c.args.files.now.contents c.remove.new.self.contents (places_of c.args.holdings.now.catalogue) (places_of c.leave.new.self.catalogue) c.args.name cover (c.leave.ensures.listed (c.leave.ensures.can c.requires.next c.requires.free))
    (c.remove.ensures.others h) (ap (λ m. map.get m c.args.name) (c.in-Ok.ensures.ok h) ∙ removed_none c.args.files.now.contents c.args.name)

pub returns-in-Err-Device-clause-covers : goal.returns-in-Err-Device-clause-covers
returns-in-Err-Device-clause-covers g c = λ h cover.
    subst (λ catalogue. Covers c.remove.new.self.contents (places_of catalogue)) (sym c.forget.ensures.catalogue)
    (covers_failed c.args.files.now.contents c.remove.new.self.contents (places_of c.args.holdings.now.catalogue) c.args.name cover c.requires.next (c.remove.ensures.others h))

pub returns-in-Err-Memory-clause-covers : goal.returns-in-Err-Memory-clause-covers
returns-in-Err-Memory-clause-covers g c = λ h cover.
    subst (λ catalogue. Covers c.remove.new.self.contents (places_of catalogue)) (sym c.forget-in-Err-Memory.ensures.catalogue)
    (covers_failed c.args.files.now.contents c.remove.new.self.contents (places_of c.args.holdings.now.catalogue) c.args.name cover c.requires.next (c.remove.ensures.others h))

pub returns-in-Ok-clause-exact : goal.returns-in-Ok-clause-exact
returns-in-Ok-clause-exact g c = λ h exact.
    exact_left c.args.files.now.contents c.remove.new.self.contents (places_of c.args.holdings.now.catalogue) (places_of c.leave.new.self.catalogue) c.args.name (c.leave.ensures.listed (c.leave.ensures.can c.requires.next c.requires.free)) (c.remove.ensures.others h) exact

pub returns-in-Ok-clause-away : goal.returns-in-Ok-clause-away
returns-in-Ok-clause-away g c = λ h. away_one c.args.files.now.contents c.remove.new.self.contents c.args.name (c.in-Ok.ensures.ok h)

pub returns-in-Ok-clause-led : goal.returns-in-Ok-clause-led
returns-in-Ok-clause-led g c = λ h led.
    let went = c.leave.ensures.can c.requires.next c.requires.free in
    led_but c.args.name c.args.holdings.now.links c.leave.new.self.links c.args.files.now.contents c.remove.new.self.contents (c.remove.ensures.others h) (c.leave.ensures.links went) (c.leave.ensures.away went) led

pub returns-in-Err-Device-clause-led : goal.returns-in-Err-Device-clause-led
returns-in-Err-Device-clause-led g c = λ h led.
    led_but c.args.name c.args.holdings.now.links c.forget.new.self.links c.args.files.now.contents c.remove.new.self.contents (c.remove.ensures.others h) c.forget.ensures.links c.forget.ensures.away led

pub returns-in-Err-Memory-clause-led : goal.returns-in-Err-Memory-clause-led
returns-in-Err-Memory-clause-led g c = λ h led.
    led_but c.args.name c.args.holdings.now.links c.forget-in-Err-Memory.new.self.links c.args.files.now.contents c.remove.new.self.contents (c.remove.ensures.others h) c.forget-in-Err-Memory.ensures.links c.forget-in-Err-Memory.ensures.away led
