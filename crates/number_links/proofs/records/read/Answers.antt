use Rattle.std.proofs.Common.{◌∙◌, ap}
use Rattle.number_links.specs.Records.{told}
use Rattle.number_links.proofs.RecordLemmas.{read_none, read_some, told_empty, told_none}
use Rattle.number_links.proofs.records.read.Goals as goal

pub returns-then-begin-eq-UNKNOWN-clause-none : goal.returns-then-begin-eq-UNKNOWN-clause-none
returns-then-begin-eq-UNKNOWN-clause-none c = ap (told c.args.renewed.now c.args.pool.now) c.if-begin-eq-UNKNOWN.true ∙ told_none c.args.renewed.now c.args.pool.now

pub returns-then-begin-eq-EMPTY-clause-some : goal.returns-then-begin-eq-EMPTY-clause-some
returns-then-begin-eq-EMPTY-clause-some c = ap (told c.args.renewed.now c.args.pool.now) c.if-begin-eq-EMPTY.true ∙ told_empty c.args.renewed.now c.args.pool.now

pub returns-then-not-is_still-clause-none : goal.returns-then-not-is_still-clause-none
returns-then-not-is_still-clause-none c = read_none c.args.renewed.now c.args.pool.now c.args.begin c.is_still.result c.if-begin-eq-UNKNOWN.false c.if-begin-eq-EMPTY.false c.is_still.ensures c.if-not-is_still.true

pub returns-clause-some : goal.returns-clause-some
returns-clause-some c = read_some c.args.renewed.now c.args.pool.now c.args.begin c.is_still.result c.if-begin-eq-UNKNOWN.false c.if-begin-eq-EMPTY.false c.is_still.ensures c.if-not-is_still.false
