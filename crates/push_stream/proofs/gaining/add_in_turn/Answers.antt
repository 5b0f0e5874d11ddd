use Rattle.std.proofs.Common.{◌≡◌, refl, length, arith, rules}
use Rattle.std.proofs.lemmas.Bool.Decides.{nat_tests}
use Rattle.push_stream.proofs.FrontLemmas.{records_added, spelled_join}
use Rattle.push_stream.proofs.PieceLemmas.{records_join}
use Rattle.push_stream.proofs.RestLemmas.{open_short}
use Rattle.push_stream.proofs.gaining.add_in_turn.Goals as goal

pub returns : goal.returns
returns c =
    let first = c.in-Ok in
    let second = c.in-Ok-whole_records in
    let none : length first.left.now ≡ 0 = grind (arith, nat_tests) in
    let found = records_join c.args.first.now c.args.second.now first.left.now second.left.now first.objects.items second.more.items c.append.new.self.items first.ensures.found none second.ensures.found (search rules) in
    let spelled = spelled_join c.args.first.now c.args.second.now first.left.now second.left.now first.objects.items second.more.items c.append.new.self.items first.ensures.spelled none second.ensures.spelled (search rules) in
    records_added c.args.headed c.args.had _ second.left.now _ (search rules) (search rules) c.new.ensures.items c.new-2.ensures.items refl (search rules) found spelled (open_short second.left.now second.ensures.unfinished) c.awaited.ensures
