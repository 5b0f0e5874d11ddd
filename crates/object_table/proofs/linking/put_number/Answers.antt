use Rattle.std.proofs.Common.{◌≡◌, ◌⊎◌, inl, inr, ℕ, List, sym, subst, ap, ◌∙◌}
use Rattle.std.specs.Prelude.{Contains}
use Rattle.std.proofs.lemmas.List.Elements.{Contains-push_cases}
use Rattle.object_table.specs.Links.{numbered_name}
use Rattle.object_table.specs.Rows.{IsUsed, Rows}
use Rattle.object_table.proofs.LinkLemmas.{named_is}
use Rattle.object_table.proofs.linking.put_number.Goals as goal

pub returns-clause-only : goal.returns-clause-only
returns-clause-only c n among =
    by c.args.table.now.entries c.args.name n (Contains-push_cases c.args.numbers.now.items c.in-Some.row.number n (subst (λ ns. Contains ns n) c.in_ok-push.ensures.items among)) (λ same. (
      record { name = c.args.name; row = c.in-Some.row; here = sym c.in-Some.ensures; same = same },
      ap (numbered_name c.args.table.now.entries) (sym same) ∙ named_is c.args.table.now.entries c.args.name c.in-Some.row c.invariant.ensures.rows (sym c.in-Some.ensures),
    ))
  where
    by : (rows : Rows) (name : List ℕ) (n : ℕ) → {P E : Type 0} → P ⊎ E → (E → IsUsed rows n × (numbered_name rows n ≡ name)) → P ⊎ (IsUsed rows n × (numbered_name rows n ≡ name))
    by rows name n (inl before) is = inl before
    by rows name n (inr now) is = inr (is now)
