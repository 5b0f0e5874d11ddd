use Rattle.std.proofs.Common.{◌<◌, length, ◌∙◌, ap, subst, Some, arith}
use Rattle.looks.specs.Places.{Places, at_start}
use Rattle.std.proofs.lemmas.Result.{err_from_is_err_and}
use Rattle.object_table.specs.Rows.{places_of}
use Rattle.object_table.specs.Holders.{is_held_in}
use Rattle.fork_ledger.specs.Store.{CountsFault}
use Rattle.fork_ledger.proofs.KeepingLemmas.{away_more, keeps_more}
use Rattle.fork_ledger.proofs.LookLemmas.{look_nearer, same_look, walks_more}
use Rattle.fork_ledger.proofs.sweeping.collect.Goals as goal

pub returns-in_err-left-clause-keeps : goal.returns-in_err-left-clause-keeps
returns-in_err-left-clause-keeps g c = λ h.
    keeps_more c.args.holdings.now.ledgers c.loop-done.holdings.ledgers c.args.files.now.contents c.loop-done.files.contents c.look_once.new.files.contents
    c.loop-done.invariant.ledgers (c.loop-done.invariant.keeps h) (c.look_once.ensures.keeps (c.loop-done.invariant.honest ∙ h))

pub returns-in_err-left-clause-covers : goal.returns-in_err-left-clause-covers
returns-in_err-left-clause-covers g c = λ h cover. c.look_once.ensures.covers (c.loop-done.invariant.honest ∙ h) (c.loop-done.invariant.covers h cover)

pub returns-in_err-left-clause-cause : goal.returns-in_err-left-clause-cause
returns-in_err-left-clause-cause g c =
    let told = err_from_is_err_and c.from_residual.result c.from_residual.ensures.1 in
    rw (told.1, told.2) (subst (λ n. CountsFault n c.look_once.new.files.failures (Some c.in_err-left.field-0.0)) c.loop-done.invariant.failures c.in_err-left.ensures.cause)

pub loop-done-preserved : goal.loop-done-preserved
loop-done-preserved g c =
    let held = is_held_in c.args.holdings.now.ledgers in
    let first = at_start (places_of c.args.holdings.now.catalogue) in
    let mid = places_of c.loop-done.holdings.catalogue in
    let last = places_of c.look_once.new.holdings.catalogue in
    let look = same_look c.args.holdings.now.ledgers c.loop-done.holdings.ledgers mid last c.loop-done.invariant.ledgers c.in_ok-left.ensures.look in
    let n = c.number_of-count.ensures in
    let k = c.in_ok-left.ensures.count in
    let i = c.loop-done.invariant.count in
    let e = c.loop-done.invariant.even in
    let size = c.len-done-end.ensures ∙ ap (λ (p : Places). length p.names) c.restart.ensures.places in
    let within : mid.place < length mid.names = omega (arith, e, size, c.loop-done-test.true) in
    let step = look_nearer held mid last within look in
    record {
      looks = walks_more held c.loop-done.done first mid last c.loop-done.invariant.looks within look;
      even = omega (arith, e, step);
      count = omega (arith, n, k, i);
      ledgers = c.look_once.ensures.ledgers ∙ c.loop-done.invariant.ledgers;
      keeps = λ h. keeps_more c.args.holdings.now.ledgers c.loop-done.holdings.ledgers c.args.files.now.contents c.loop-done.files.contents c.look_once.new.files.contents
          c.loop-done.invariant.ledgers (c.loop-done.invariant.keeps h) (c.look_once.ensures.keeps (c.loop-done.invariant.honest ∙ h));
      covers = λ h cover. c.look_once.ensures.covers (c.loop-done.invariant.honest ∙ h) (c.loop-done.invariant.covers h cover);
      exact = λ h exact. c.in_ok-left.ensures.exact (c.loop-done.invariant.honest ∙ h) (c.loop-done.invariant.exact h exact);
      away = λ h. away_more c.args.files.now.contents c.loop-done.files.contents c.look_once.new.files.contents (c.loop-done.invariant.away h) (c.in_ok-left.ensures.away (c.loop-done.invariant.honest ∙ h));
      led = λ h known. c.look_once.ensures.led (c.loop-done.invariant.honest ∙ h) (c.loop-done.invariant.led h known);
      honest = c.look_once.ensures.honest ∙ c.loop-done.invariant.honest;
      failures = c.in_ok-left.ensures.cause ∙ c.loop-done.invariant.failures;
    }
