use Rattle.std.proofs.Common.{arith}
use Rattle.chained_log.proofs.ContentsLemmas.{told_at}
use Rattle.chained_log.proofs.NextPartsLemmas.{length_of_front}
use Rattle.chained_log.proofs.reader.whole_length.Goals as goal

pub returns-clause-told : goal.returns-clause-told
returns-clause-told c enough =
    let told = told_at c.args.front.now c.length_at.result c.length_at.type_inv enough c.length_at.ensures in
    omega (arith, told)

pub returns-clause-whole : goal.returns-clause-whole
returns-clause-whole c kind before piece lost fits enough is =
    let whole = length_of_front kind before c.args.front.now piece lost c.length_at.result c.length_at.type_inv fits enough c.length_at.ensures is in
    omega (arith, whole)
