use Rattle.std.proofs.Common.{ap, map, subst, sym, ◌∙◌}
use Rattle.object_table.specs.AllStaged.{AreListed}
use Rattle.object_table.specs.Clashes.{Clash}
use Rattle.object_table.specs.Rows.{places_of}
use Rattle.object_table.specs.Told.{entry_of}
use Rattle.fork_ledger.proofs.ClashLemmas.{no_clash}
use Rattle.fork_ledger.proofs.LedLemmas.{learns_among, learns_same, led_received, led_stays}
use Rattle.fork_ledger.proofs.staging.stage_all_fit.Goals as goal

pub unreachable-requires : goal.unreachable-requires
unreachable-requires g c =
    let entries = c.as_slice-2.ensures.value ∙ c.in-Ok.ensures ∙ ap (map entry_of) c.as_slice.ensures.value in
    c.in-Err-Unlisted.ensures.unlisted c.in-Err-Unlisted.field-0-is (subst (AreListed (places_of c.receive_all.new.holdings.catalogue)) (sym entries) c.in-Ok-receive_all.ensures.listed)

pub returns-clause-collision : goal.returns-clause-collision
returns-clause-collision g c = λ h is.
    let n = c.receive_all.new.holdings.ledgers in
    let objects = c.args.objects.items in
    let entries = c.as_slice-2.ensures.value ∙ c.in-Ok.ensures ∙ ap (map entry_of) c.as_slice.ensures.value in
    absurd (no_clash c.receive_all.new.files.contents c.args.holdings.now.ledgers n objects c.receive_all.ensures.ledgers (c.in-Ok-receive_all.ensures.receives h).whole c.requires.told
    (subst (λ es. Clash n es) entries (c.in-Err-Clash.ensures.clash c.in-Err-Clash.field-0-is)))

pub returns-in-Err-clause-led : goal.returns-in-Err-clause-led
returns-in-Err-clause-led g c = λ h led.
    led_stays c.args.holdings.now.links c.receive_all.new.holdings.links c.args.files.now.contents c.receive_all.new.files.contents c.receive_all.ensures.links (c.receive_all.ensures.stands h) led

pub returns-in-Ok-stage_received-clause-led : goal.returns-in-Ok-stage_received-clause-led
returns-in-Ok-stage_received-clause-led g c = λ h led.
    led_received c.args.holdings.now.links c.receive_all.new.holdings.links c.stage_received.new.holdings.links c.args.files.now.contents c.receive_all.new.files.contents c.args.objects.items c.in-Ok-receive_all.received.items
    c.receive_all.ensures.links (c.receive_all.ensures.stands h) (c.in-Ok-receive_all.ensures.receives h).whole c.in-Ok-receive_all.ensures.back c.stage_received.ensures.links led

pub returns-in-Err-Memory-clause-led : goal.returns-in-Err-Memory-clause-led
returns-in-Err-Memory-clause-led g c = λ h led.
    led_received c.args.holdings.now.links c.receive_all.new.holdings.links c.stage_received.new.holdings.links c.args.files.now.contents c.receive_all.new.files.contents c.args.objects.items c.in-Ok-receive_all.received.items
    c.receive_all.ensures.links (c.receive_all.ensures.stands h) (c.in-Ok-receive_all.ensures.receives h).whole c.in-Ok-receive_all.ensures.back c.stage_received.ensures.links led

pub returns-clause-led : goal.returns-clause-led
returns-clause-led g c = λ h led.
    led_received c.args.holdings.now.links c.receive_all.new.holdings.links c.stage_received.new.holdings.links c.args.files.now.contents c.receive_all.new.files.contents c.args.objects.items c.in-Ok-receive_all.received.items
    c.receive_all.ensures.links (c.receive_all.ensures.stands h) (c.in-Ok-receive_all.ensures.receives h).whole c.in-Ok-receive_all.ensures.back c.stage_received.ensures.links led

pub returns-in-Ok-stage_received-clause-links : goal.returns-in-Ok-stage_received-clause-links
returns-in-Ok-stage_received-clause-links g c =
    learns_among c.args.objects.items c.in-Ok-receive_all.received.items c.args.holdings.now.links c.receive_all.new.holdings.links c.stage_received.new.holdings.links c.receive_all.ensures.links c.in-Ok-receive_all.ensures.back c.stage_received.ensures.links

pub returns-in-Err-Memory-clause-links : goal.returns-in-Err-Memory-clause-links
returns-in-Err-Memory-clause-links g c =
    learns_among c.args.objects.items c.in-Ok-receive_all.received.items c.args.holdings.now.links c.receive_all.new.holdings.links c.stage_received.new.holdings.links c.receive_all.ensures.links c.in-Ok-receive_all.ensures.back c.stage_received.ensures.links

pub returns-clause-links : goal.returns-clause-links
returns-clause-links g c =
    learns_among c.args.objects.items c.in-Ok-receive_all.received.items c.args.holdings.now.links c.receive_all.new.holdings.links c.stage_received.new.holdings.links c.receive_all.ensures.links c.in-Ok-receive_all.ensures.back c.stage_received.ensures.links

pub returns-in-Err-clause-links : goal.returns-in-Err-clause-links
returns-in-Err-clause-links g c = learns_same c.args.objects.items c.args.holdings.now.links c.receive_all.new.holdings.links c.receive_all.ensures.links
