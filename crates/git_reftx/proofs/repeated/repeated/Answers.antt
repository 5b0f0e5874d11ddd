use Rattle.std.proofs.Common.{◌≡◌, ◌∷◌, false, sym, ap, ◌∙◌, arith}
use Rattle.std.specs.BTreeSet.{contains}
use Rattle.git_name.specs.Name.{name_cmp}
use Rattle.git_reftx.proofs.RefusalLemmas.{met_more, repeated_more}
use Rattle.git_reftx.proofs.repeated.repeated.Goals as goal

pub loop-order-preserved : goal.loop-order-preserved
loop-order-preserved c =
    let item = c.order-item.result in
    let before = c.loop-order.invariant in
    let name = c.copy-in-loop-order.result in
    let name_is : name ≡ item.reference = c.copy-in-loop-order.ensures ∙ c.reference-in-loop-order.ensures in
    let fresh : contains name_cmp c.loop-order.met name ≡ false = ap (contains name_cmp c.loop-order.met) (name_is ∙ sym c.reference.ensures) ∙ sym c.contains.ensures ∙ c.if-contains.false in
    record {
      earlier = name ∷ before.earlier;
      left = repeated_more c.args.orders.now c.loop-order.order-index item _ before.earlier name (omega arith) c.order-item.is name_is before.left (sym (before.met name) ∙ fresh);
      met = met_more before.earlier name (contains name_cmp c.loop-order.met) (contains name_cmp c.insert.new.self) before.met c.in_ok-insert.ensures.updates.0;
    }
