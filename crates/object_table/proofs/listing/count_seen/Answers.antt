use Rattle.std.proofs.Common.{◌∙◌, ◌||◌, ◌++◌, ◌∷◌, [], ap, refl, sym, arith, length-append}
use Rattle.git_name.specs.Same.{same_name}
use Rattle.object_table.specs.Views.{words_of}
use Rattle.object_table.specs.Words.{is_visible, words_that}
use Rattle.object_table.proofs.ListingLemmas.{all_below, below_more, below_none, count_listed, distinct_last, distinct_none, not_below}
use Rattle.object_table.proofs.PlaceLemmas.{last_any}
use Rattle.object_table.proofs.listing.count_seen.Goals as goal

pub loop-n-init : goal.loop-n-init
loop-n-init c = (
  [],
  record {
    count = refl;
    listed = λ q. below_none c.args.table.now.entries c.args.own.now q;
    distinct = distinct_none;
    few = omega arith;
    small = omega arith;
  },
)

pub loop-n-preserved : goal.loop-n-preserved
loop-n-preserved c =
    let rows = c.args.table.now.entries in
    let own = c.args.own.now in
    let n = c.in-Some.n in
    let from = c.loop-n.from in
    let entry = c.in-Some-numbered._entry in
    let here = c.in-Some-numbered.ensures.some.0 in
    let number = c.in-Some-numbered.ensures.some.1 in
    let are = c.invariant.ensures.rows in
    let names = c.loop-n.invariant.0 in
    let was = c.loop-n.invariant.1 in
    let low = c.in-Some.ensures.some.0 in (
      names ++ entry.0 ∷ [],
      record {
        count = (let more = length-append names (entry.0 ∷ []) in let before = was.count in omega (arith, more, before));
        listed = λ q. last_any names entry.0 q ∙ ap (λ b. same_name q entry.0 || b) (was.listed q)
            ∙ below_more rows own from n entry.0 entry.1 are here number low c.in-Some.ensures.some.1 c.in-Some.ensures.first q;
        distinct = distinct_last names entry.0 was.distinct (was.listed entry.0 ∙ not_below rows own from n entry.0 entry.1 are here number low c.in-Some.ensures.some.1 c.in-Some.ensures.first);
        few = (let f = was.few in omega (arith, f, low));
        small = (let s = are.small entry.0 entry.1 here in omega (arith, s, number));
      },
    )

pub returns : goal.returns
returns c =
    let was = c.loop-n.invariant.1 in
    sym was.count
    ∙ count_listed (words_that is_visible (words_of c.args.table.now.entries c.args.own.now)) c.loop-n.invariant.0 was.distinct
    (λ q. was.listed q ∙ all_below c.args.table.now.entries c.args.own.now c.loop-n.from c.invariant.ensures.rows c.in_default.ensures.none q)
