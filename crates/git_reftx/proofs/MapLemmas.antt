-- References after a change: each name is valid, and a map is its entries.
use Rattle.std.proofs.Common.{◌≡◌, ℕ, Bool, true, false, cond, List, None, Some, is_some, refl, sym, ap, subst, ◌∙◌, rules}
use Rattle.std.specs.Prelude.{Result, Ok, Err, OnOk, OnErr}
use Rattle.std.specs.Cmp.{Equal-is}
use Rattle.std.specs.Ordering.{eq_by_cmp}
use Rattle.std.specs.FinMap as map
use Rattle.git_name.specs.Name.{name_cmp}
use Rattle.git_name.proofs.Names.{name_total, name_exact}
use Rattle.git_refname.specs.Rule.{IsRefName}
use Rattle.git_reftx.specs.Sound.{AreRefNames}
use Rattle.git_reftx.specs.Transaction.{References}

-- what follows from either outcome of a call
pub whichever : {T E P Q : Type 0} (G : Type 0) (r : Result T E) → OnOk r P → OnErr r Q → (P → G) → (Q → G) → G
whichever G (Ok x) p q f g = f p
whichever G (Err e) p q f g = g q

pub same_name : (q k : List ℕ) → eq_by_cmp name_cmp q k ≡ true → q ≡ k
same_name q k tie = name_exact q k ((Equal-is (name_cmp q k)).0 tie)

pub named_empty : AreRefNames (map.empty)
named_empty name has =
    let none : map.get {R = name_cmp} (map.empty {X = List ℕ} {R = name_cmp}) name ≡ None = search (rules, map.gets) in
    absurd (cc (sym (ap is_some none) ∙ has))

named_at : (references : References) (k q v : List ℕ) (tie : Bool) → (tie ≡ true → q ≡ k) → AreRefNames references → IsRefName k → is_some (cond tie (Some v) (map.get references q)) ≡ true → IsRefName q
named_at references k q v true same named right has = subst IsRefName (sym (same refl)) right
named_at references k q v false same named right has = named q has

pub named_insert : (references : References) (k v : List ℕ) → AreRefNames references → IsRefName k → AreRefNames (map.insert references k v)
named_insert references k v named right q has =
    named_at references k q v (eq_by_cmp name_cmp q k) (same_name q k) named right (ap is_some (sym (map.get-insert name_total references k v q)) ∙ has)

kept_at : (references : References) (q : List ℕ) (tie : Bool) → AreRefNames references → is_some (cond tie None (map.get references q)) ≡ true → IsRefName q
kept_at references q true named has = absurd (cc)
kept_at references q false named has = named q has

pub named_remove : (references : References) (k : List ℕ) → AreRefNames references → AreRefNames (map.remove references k)
named_remove references k named q has = kept_at references q (eq_by_cmp name_cmp q k) named (ap is_some (sym (map.get-remove name_total references k q)) ∙ has)
