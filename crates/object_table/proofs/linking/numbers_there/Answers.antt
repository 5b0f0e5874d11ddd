use Rattle.std.proofs.Common.{◌≡◌, ◌⊎◌, inl, inr, ℕ, List, Some, sym, subst, arith, take}
use Rattle.std.specs.Prelude.{Contains}
use Rattle.std.specs.List.{All}
use Rattle.std.proofs.lemmas.List.{take_all}
use Rattle.std.proofs.lemmas.List.Elements.{All-contains, All-weaker}
use Rattle.object_table.specs.declared.row.Row.{Row}
use Rattle.object_table.specs.Links.{numbered_name}
use Rattle.object_table.specs.Rows.{IsUsed, row_in}
use Rattle.object_table.proofs.StepLemmas.{all_more}
use Rattle.object_table.proofs.linking.numbers_there.Goals as goal

pub loop-name-init : goal.loop-name-init
loop-name-init c = record {
  only = λ n among. absurd (let l = subst (λ ns. Contains ns n) c.new-numbers.ensures.items among in (let m = l.1 in omega (arith, m)));
  all = λ k d small. absurd (omega (arith, small));
}

pub loop-name-preserved : goal.loop-name-preserved
loop-name-preserved c =
    let rows = c.args.table.now.entries in
    let names = c.args.names.now in
    let name = c.name-item.result in
    let was = c.loop-name.invariant in
    let there : Contains names name = (c.loop-name.name-index, omega arith, sym c.name-item.is) in
    let put = c.in_ok-put_number.ensures in
    record {
      only = λ n among. by rows names name there n (put.only n among) (was.only n);
      all = all_more (λ name. (row : Row) → row_in rows name ≡ Some row → Contains c.put_number.new.numbers.items row.number) names c.loop-name.name-index name (omega arith) c.name-item.is
          (All-weaker (λ (q : List ℕ). (row : Row) → row_in rows q ≡ Some row → Contains c.loop-name.numbers.items row.number) (λ (q : List ℕ). (row : Row) → row_in rows q ≡ Some row → Contains c.put_number.new.numbers.items row.number) (λ q each row is. put.kept row.number (each row is)) (take c.loop-name.name-index names) was.all) put.put;
    }
  where
    by : (rows : _) (names : List (List ℕ)) (name : List ℕ) → Contains names name → (n : ℕ) → {P : Type 0} → P ⊎ (IsUsed rows n × (numbered_name rows n ≡ name)) → (P → IsUsed rows n × Contains names (numbered_name rows n)) → IsUsed rows n × Contains names (numbered_name rows n)
    by rows names name there n (inl before) was = was before
    by rows names name there n (inr now) was = (now.0, subst (Contains names) (sym now.1) there)

pub returns-clause-only : goal.returns-clause-only
returns-clause-only c = c.loop-name.invariant.only

pub returns-clause-all : goal.returns-clause-all
returns-clause-all c name row among is =
    All-contains (λ name. (row : Row) → row_in c.args.table.now.entries name ≡ Some row → Contains c.loop-name.numbers.items row.number) c.args.names.now name
    (subst (λ ns. All (λ name. (row : Row) → row_in c.args.table.now.entries name ≡ Some row → Contains c.loop-name.numbers.items row.number) ns) (take_all c.loop-name.name-index c.args.names.now (omega arith)) c.loop-name.invariant.all) among row is
