use Rattle.std.proofs.Common.{◌≡◌, ◌≤◌, ◌+◌, ◌-◌, ℕ, List, length, take, drop, slice_range, arith, ap, ◌∙◌, length-take}
use Rattle.chained_log.proofs.LeftLemmas.{front_written, gives}
use Rattle.chained_log.proofs.reader.LogReader.give.Goals as goal

pub returns-clause-left : goal.returns-clause-left
returns-clause-left g c =
    let log = c.args.self.now in
    let few = c.min-n.ensures in
    let ready = length-take (log.end - log.at) (drop log.at c.deref.result.now) in
    let inside : log.end ≤ length log.came.items = (let within = log.within.1 in let size = log.came.ok.0 in omega (arith, within, size)) in
    let fits : log.at + c.min-n.result ≤ log.end = (let within = log.within.0 in omega (arith, few, ready, within)) in
    let long : length c.copy_from_slice.new.self ≡ c.min-n.result = (let size = c.copy_from_slice.ensures.len in let front = length-take c.min-n.result c.args.buf.now in omega (arith, size, front, few)) in
    gives (g.R.Read.remaining log.reader) log.sum log.came.items _ log.at log.end c.min-n.result log.ended fits inside (
    front_written c.copy_from_slice.new.self (drop c.min-n.result c.args.buf.now) _ c.min-n.result
    (c.copy_from_slice.ensures.after ∙ ap (λ (l : List ℕ). take c.min-n.result (slice_range l log.at log.end)) c.deref.ensures.value) long
    )
