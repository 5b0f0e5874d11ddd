use Rattle.std.proofs.Common.{◌≡◌, [], ◌∷◌, ◌++◌, sym, subst, ap, refl, ◌∙◌, ◌+◌, arith, take, map}
use Rattle.std.specs.List.{All}
use Rattle.std.proofs.lemmas.List.{map-append, take_all, take_more}
use Rattle.std.proofs.lemmas.List.Elements.{All-contains, All-nil, All-push}
use Rattle.object_table.specs.Links.{numbered_name}
use Rattle.object_table.specs.Rows.{IsUsed}
use Rattle.object_table.proofs.LinkLemmas.{named_is}
use Rattle.object_table.proofs.linking.numbers_of.Goals as goal

pub loop-name-init : goal.loop-name-init
loop-name-init c = record {
  named = ap (map (numbered_name c.args.table.now.entries)) c.in_ok-numbers.ensures.items;
  used = subst (All (IsUsed c.args.table.now.entries)) (sym c.in_ok-numbers.ensures.items) (All-nil (IsUsed c.args.table.now.entries));
}

pub loop-name-preserved : goal.loop-name-preserved
loop-name-preserved c =
    let rows = c.args.table.now.entries in
    let names = c.args.names.now in
    let i = c.loop-name.name-index in
    let name = c.name-item.result in
    let row = c.in-Some.row in
    let was = c.loop-name.invariant in
    let is = named_is rows name row c.invariant.ensures.rows (sym c.in-Some.ensures) in
    let front : take (i + 1) names ≡ take i names ++ name ∷ [] = take_more names i name (omega arith) ∙ ap (λ n. take i names ++ n ∷ []) (sym c.name-item.is) in
    record {
      named = ap (map (numbered_name rows)) c.in_ok-push.ensures.items ∙ map-append (numbered_name rows) c.loop-name.numbers.items (row.number ∷ []) ∙ (λ j. was.named j ++ is j ∷ []) ∙ sym front;
      used = subst (All (IsUsed rows)) (sym c.in_ok-push.ensures.items) (All-push (IsUsed rows) c.loop-name.numbers.items row.number was.used (record { name = name; row = row; here = sym c.in-Some.ensures; same = refl }));
    }

pub returns-clause-named : goal.returns-clause-named
returns-clause-named c = c.loop-name.invariant.named ∙ take_all c.loop-name.name-index c.args.names.now (omega arith)

pub returns-clause-used : goal.returns-clause-used
returns-clause-used c m among = All-contains (IsUsed c.args.table.now.entries) c.loop-name.numbers.items m c.loop-name.invariant.used among
