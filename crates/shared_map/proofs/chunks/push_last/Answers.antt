use Rattle.std.proofs.Common.{◌≡◌, ◌<◌, ◌-◌, length, get_or, arith, rules}
use Rattle.shared_map.proofs.ChunkLemmas.{last_appended}
use Rattle.shared_map.proofs.chunks.push_last.Goals as goal

pub returns-clause-joined : goal.returns-clause-joined
returns-clause-joined c =
    let cs = c.args.chunks.now in
    let some : 0 < length cs = search rules in
    let found : c.in-Some.last.now ≡ get_or cs (length cs - 1) c.in-Some.last.now = search rules in
    last_appended c.push.result cs (length cs - 1) c.in-Some.last.now c.push.new.self (c.args.key.now, c.args.value) (omega (arith, some)) found c.push.ensures
