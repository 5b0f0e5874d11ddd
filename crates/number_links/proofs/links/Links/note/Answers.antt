use Rattle.std.proofs.Common.{◌∙◌, map, ap, sym, subst}
use Rattle.number_links.specs.Known.{known}
use Rattle.number_links.specs.Records.{AreRecords, told}
use Rattle.number_links.proofs.LearnLemmas.{known_beside, known_kept, known_now, records_kept, records_now}
use Rattle.number_links.proofs.OptionLemmas.{failed_too}
use Rattle.number_links.proofs.links.Links.note.Goals as goal

pub returns-in_err-begin-clause-stays : goal.returns-in_err-begin-clause-stays
returns-in_err-begin-clause-stays c q apart =
    let old = c.self.inside in
    let now = c.enter.new in
    ap (λ p. known (map (told now.renewed.items p) now.begins.items) q) c.in_err-begin.ensures.err ∙ known_kept old.renewed.items old.pool.items old.begins.items now.renewed.items now.begins.items c.enter.ensures.renewed c.enter.ensures.begins q
    ∙ ap (λ links. known links q) c.self.view_is

pub returns-in_err-begin-clause-err : goal.returns-in_err-begin-clause-err
returns-in_err-begin-clause-err c =
    let old = c.self.inside in
    let now = c.enter.new in
    failed_too c.from_residual.result (λ q.
    ap (λ p. known (map (told now.renewed.items p) now.begins.items) q) c.in_err-begin.ensures.err ∙ known_kept old.renewed.items old.pool.items old.begins.items now.renewed.items now.begins.items c.enter.ensures.renewed c.enter.ensures.begins q
    ∙ ap (λ links. known links q) c.self.view_is)

pub invariant_of-self-2 : goal.invariant_of-self-2
invariant_of-self-2 c =
    let old = c.self.inside in
    let now = c.enter.new in
    let kept = records_kept old.clock old.renewed.items old.begins.items old.pool.items now.renewed.items now.begins.items c.enter.ensures.renewed c.enter.ensures.longer c.enter.ensures.begins c.self.invariant in
    subst (λ begins. AreRecords old.clock now.renewed.items begins now.pool.items) (sym c.put.ensures)
    (records_now old.clock now.renewed.items now.begins.items old.pool.items c.args.to.now now.pool.items c.args.n c.in_ok-begin.begin kept c.in_ok-begin.ensures.written c.in_ok-begin.ensures.place c.in_ok-begin.ensures.below)

pub returns-clause-ok : goal.returns-clause-ok
returns-clause-ok c =
    let old = c.self.inside in
    let now = c.enter.new in
    let kept = records_kept old.clock old.renewed.items old.begins.items old.pool.items now.renewed.items now.begins.items c.enter.ensures.renewed c.enter.ensures.longer c.enter.ensures.begins c.self.invariant in
    ap (λ begins. known (map (told now.renewed.items now.pool.items) begins) c.args.n) c.put.ensures
    ∙ known_now old.clock now.renewed.items now.begins.items old.pool.items c.args.to.now now.pool.items c.args.n c.in_ok-begin.begin kept c.in_ok-begin.ensures.written c.in_ok-begin.ensures.place

pub returns-clause-stays : goal.returns-clause-stays
returns-clause-stays c q apart =
    let old = c.self.inside in
    let now = c.enter.new in
    let kept = records_kept old.clock old.renewed.items old.begins.items old.pool.items now.renewed.items now.begins.items c.enter.ensures.renewed c.enter.ensures.longer c.enter.ensures.begins c.self.invariant in
    ap (λ begins. known (map (told now.renewed.items now.pool.items) begins) q) c.put.ensures
    ∙ known_beside old.clock now.renewed.items now.begins.items old.pool.items c.args.to.now now.pool.items c.args.n c.in_ok-begin.begin kept c.in_ok-begin.ensures.written q apart
    ∙ known_kept old.renewed.items old.pool.items old.begins.items now.renewed.items now.begins.items c.enter.ensures.renewed c.enter.ensures.begins q
    ∙ ap (λ links. known links q) c.self.view_is
