use Rattle.std.proofs.Common.{◌∙◌, ◌||◌, ap, sym, subst, arith}
use Rattle.std.specs.List.{IsDistinct}
use Rattle.git_name.specs.Same.{is_listed, same_name}
use Rattle.object_table.proofs.ListingLemmas.{all_below, below_more, below_none, distinct_last, distinct_none, not_below}
use Rattle.object_table.proofs.PlaceLemmas.{last_any}
use Rattle.object_table.proofs.listing.seen_among.Goals as goal

pub loop-n-init : goal.loop-n-init
loop-n-init c = record {
  listed = λ q. ap (λ ns. is_listed ns q) c.new-names.ensures.items ∙ below_none c.args.table.now.entries c.args.own.now q;
  distinct = subst (IsDistinct same_name) (sym c.new-names.ensures.items) distinct_none;
  small = omega arith;
}

pub loop-n-preserved : goal.loop-n-preserved
loop-n-preserved c =
    let rows = c.args.table.now.entries in
    let own = c.args.own.now in
    let n = c.in-Some.n in
    let from = c.loop-n.from in
    let entry = c.in-Some-numbered.entry in
    let here = c.in-Some-numbered.ensures.some.0 in
    let number = c.in-Some-numbered.ensures.some.1 in
    let are = c.invariant.ensures.rows in
    let names = c.loop-n.names.items in
    let was = c.loop-n.invariant in
    record {
      listed = λ q. ap (λ ns. is_listed ns q) c.in_ok-push.ensures.items ∙ last_any names entry.0 q ∙ ap (λ b. same_name q entry.0 || b) (was.listed q)
          ∙ below_more rows own from n entry.0 entry.1 are here number c.in-Some.ensures.some.0 c.in-Some.ensures.some.1 c.in-Some.ensures.first q;
      distinct = subst (IsDistinct same_name) (sym c.in_ok-push.ensures.items)
          (distinct_last names entry.0 was.distinct (was.listed entry.0 ∙ not_below rows own from n entry.0 entry.1 are here number c.in-Some.ensures.some.0 c.in-Some.ensures.some.1 c.in-Some.ensures.first));
      small = (let s = are.small entry.0 entry.1 here in omega (arith, s, number));
    }

pub returns-clause-listed : goal.returns-clause-listed
returns-clause-listed c q = c.loop-n.invariant.listed q ∙ all_below c.args.table.now.entries c.args.own.now c.loop-n.from c.invariant.ensures.rows c.in_default.ensures.none q
