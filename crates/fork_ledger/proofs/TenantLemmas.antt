-- Tenants' private maps, of which one tenant's change: for callers.
use Rattle.std.proofs.Common.{◌≡◌, ◌≢◌, ℕ, Bool, true, false, cond, List, Option, None, Some, refl, sym, ap, ◌∙◌, is_some}
use Rattle.std.specs.Option.{unwrap_or}
use Rattle.std.specs.Ordering.{eq_by_cmp}
use Rattle.std.specs.Cmp.{eq_by_cmp_equiv}
use Rattle.std.specs.FinMap.{empty, get, get-empty, get-insert, insert, contains_key, same_map}
use Rattle.git_name.specs.Name.{name_cmp}
use Rattle.git_name.proofs.Names.{name_total, name_exact}
use Rattle.fork_reach.proofs.KeptObjects.{tied_names}
use Rattle.fork_ledger.specs.Private.{Private, nothing}
use Rattle.fork_ledger.specs.Tenants.{Tenants, at_tenant, private_of, with_tenant}

-- what was set is found
own_found : (tenants : Tenants) (t : List ℕ) (own : Private) → get (insert tenants t own) t ≡ Some own
own_found tenants t own = get-insert name_total tenants t own t ∙ ap (λ b. cond b (Some own) (get tenants t)) ((eq_by_cmp_equiv name_total).refl t)

other_found : (tenants : Tenants) (t q : List ℕ) (own : Private) → q ≢ t → get (insert tenants t own) q ≡ get tenants q
other_found tenants t q own differs = get-insert name_total tenants t own q ∙ by (eq_by_cmp name_cmp q t) refl
  where
    by : (b : Bool) → eq_by_cmp name_cmp q t ≡ b → cond b (Some own) (get tenants q) ≡ get tenants q
    by true same = absurd (differs (tied_names q t same))
    by false same = refl

-- the private maps of the tenant that changes
pub private_at : (tenants : Tenants) (t : List ℕ) (change : Private → Private) → contains_key tenants t ≡ true → private_of (at_tenant tenants t change) t ≡ change (private_of tenants t)
private_at tenants t change there =
    ap (λ b. private_of (cond b (insert tenants t (change (private_of tenants t))) tenants) t) there
    ∙ ap (λ o. unwrap_or o nothing) (own_found tenants t (change (private_of tenants t)))

-- each other tenant's stay
pub private_others : (tenants : Tenants) (t q : List ℕ) (change : Private → Private) → q ≢ t → private_of (at_tenant tenants t change) q ≡ private_of tenants q
private_others tenants t q change differs = by (contains_key tenants t)
  where
    by : (b : Bool) → private_of (cond b (insert tenants t (change (private_of tenants t))) tenants) q ≡ private_of tenants q
    by true = ap (λ o. unwrap_or o nothing) (other_found tenants t q (change (private_of tenants t)) differs)
    by false = refl

-- no tenant comes or goes
pub there_still : (tenants : Tenants) (t q : List ℕ) (change : Private → Private) → contains_key (at_tenant tenants t change) q ≡ contains_key tenants q
there_still tenants t q change = by (contains_key tenants t) refl
  where
    is_there : contains_key tenants t ≡ true → (b : Bool) → eq_by_cmp name_cmp q t ≡ b → is_some (cond b (Some (change (private_of tenants t))) (get tenants q)) ≡ contains_key tenants q
    is_there there true same = sym (ap (contains_key tenants) (tied_names q t same) ∙ there)
    is_there there false same = refl

    by : (b : Bool) → contains_key tenants t ≡ b → contains_key (cond b (insert tenants t (change (private_of tenants t))) tenants) q ≡ contains_key tenants q
    by true there = ap is_some (get-insert name_total tenants t (change (private_of tenants t)) q) ∙ is_there there (eq_by_cmp name_cmp q t) refl
    by false there = refl

absent_of : (o : Option Private) → is_some o ≡ false → o ≡ None
absent_of None is = refl
absent_of (Some x) is = absurd (cc)

-- a new tenant has no objects, as an unknown one; each other tenant's private maps stay
pub private_new : (tenants : Tenants) (t q : List ℕ) → private_of (with_tenant tenants t) q ≡ private_of tenants q
private_new tenants t q = by (contains_key tenants t) refl
  where
    at : contains_key tenants t ≡ false → (b : Bool) → eq_by_cmp name_cmp q t ≡ b → unwrap_or (cond b (Some nothing) (get tenants q)) nothing ≡ private_of tenants q
    at absent true same = sym (ap (private_of tenants) (tied_names q t same) ∙ ap (λ o. unwrap_or o nothing) (absent_of (get tenants t) absent))
    at absent false same = refl

    by : (b : Bool) → contains_key tenants t ≡ b → private_of (cond b tenants (insert tenants t nothing)) q ≡ private_of tenants q
    by true there = refl
    by false absent = ap (λ o. unwrap_or o nothing) (get-insert name_total tenants t nothing q) ∙ at absent (eq_by_cmp name_cmp q t) refl

-- a tenant that was added is there
pub there_new : (tenants : Tenants) (t : List ℕ) → contains_key (with_tenant tenants t) t ≡ true
there_new tenants t = by (contains_key tenants t) refl
  where
    by : (b : Bool) → contains_key tenants t ≡ b → contains_key (cond b tenants (insert tenants t nothing)) t ≡ true
    by true there = there
    by false absent = ap is_some (own_found tenants t nothing)

-- the others are there as before
pub there_others : (tenants : Tenants) (t q : List ℕ) → q ≢ t → contains_key (with_tenant tenants t) q ≡ contains_key tenants q
there_others tenants t q differs = by (contains_key tenants t)
  where
    by : (b : Bool) → contains_key (cond b tenants (insert tenants t nothing)) q ≡ contains_key tenants q
    by true = refl
    by false = ap is_some (other_found tenants t q nothing differs)

same_option : (o p : Option Private) → is_some o ≡ is_some p → unwrap_or o nothing ≡ unwrap_or p nothing → o ≡ p
same_option None None there same = refl
same_option None (Some y) there same = absurd (cc)
same_option (Some x) None there same = absurd (cc)
same_option (Some x) (Some y) there same = ap Some same

-- tenants are known by who is there and by their private maps
pub same_tenants : (m n : Tenants) → ((q : List ℕ) → contains_key m q ≡ contains_key n q) → ((q : List ℕ) → private_of m q ≡ private_of n q) → m ≡ n
same_tenants m n there own = same_map name_total name_exact m n (λ q. same_option (get m q) (get n q) (there q) (own q))

pub by_test : (b : Bool) (G : Type 0) → (b ≡ true → G) → (b ≡ false → G) → G
by_test true G f g = f refl
by_test false G f g = g refl

pub absent_still : (tenants : Tenants) (t : List ℕ) (change : Private → Private) → contains_key tenants t ≡ false → at_tenant tenants t change ≡ tenants
absent_still tenants t change absent = ap (λ b. cond b (insert tenants t (change (private_of tenants t))) tenants) absent

pub self_apart : (q t : List ℕ) → eq_by_cmp name_cmp q t ≡ false → q ≡ t → ⊥
self_apart q t apart same =
    let itself = (eq_by_cmp_equiv name_total).refl t in
    let differs : ⊥ = cc (ap (λ x. eq_by_cmp name_cmp x t) same) in
    differs

-- two changes of one tenant are one
pub at_twice : (tenants : Tenants) (t : List ℕ) (f g : Private → Private) → at_tenant (at_tenant tenants t f) t g ≡ at_tenant tenants t (λ own. g (f own))
at_twice tenants t f g = by_test (contains_key tenants t) _
    (λ there. same_tenants _ _
    (λ q. there_still (at_tenant tenants t f) t q g ∙ there_still tenants t q f ∙ sym (there_still tenants t q (λ own. g (f own))))
    (λ q. by_test (eq_by_cmp name_cmp q t) _ (λ same. at_own there q (tied_names q t same)) (λ apart. at_others q (self_apart q t apart))))
    (λ absent. ap (λ m. at_tenant m t g) (absent_still tenants t f absent) ∙ absent_still tenants t g absent ∙ sym (absent_still tenants t (λ own. g (f own)) absent))
  where
    at_own : contains_key tenants t ≡ true → (q : List ℕ) → q ≡ t → private_of (at_tenant (at_tenant tenants t f) t g) q ≡ private_of (at_tenant tenants t (λ own. g (f own))) q
    at_own there q same =
        ap (private_of (at_tenant (at_tenant tenants t f) t g)) same
        ∙ private_at (at_tenant tenants t f) t g (there_still tenants t t f ∙ there) ∙ ap g (private_at tenants t f there)
        ∙ sym (private_at tenants t (λ own. g (f own)) there) ∙ ap (private_of (at_tenant tenants t (λ own. g (f own)))) (sym same)

    at_others : (q : List ℕ) → q ≢ t → private_of (at_tenant (at_tenant tenants t f) t g) q ≡ private_of (at_tenant tenants t (λ own. g (f own))) q
    at_others q differs = private_others (at_tenant tenants t f) t q g differs ∙ private_others tenants t q f differs ∙ sym (private_others tenants t q (λ own. g (f own)) differs)

-- of no tenants none has objects
pub private_none : (t : List ℕ) → private_of empty t ≡ nothing
private_none t = ap (λ o. unwrap_or o nothing) (get-empty name_cmp t)
