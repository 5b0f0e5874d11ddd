-- What of private maps no store can change, as one tenant's change.
use Rattle.std.proofs.Common.{◌≡◌, ℕ, Bool, true, false, cond, List, Option, None, Some, refl, sym, ap, ◌∙◌, is_some}
use Rattle.std.specs.Option.{option_map, unwrap_or}
use Rattle.std.specs.Ordering.{eq_by_cmp}
use Rattle.std.specs.FinMap.{contains_key, empty, get, get-retain_keys, insert, retain_keys, same_map}
use Rattle.git_name.specs.Name.{name_cmp}
use Rattle.git_name.specs.Object.{Object, object_name}
use Rattle.git_name.proofs.MapLemmas.{get_map_values, map_values_insert}
use Rattle.git_name.proofs.Names.{name_total, name_exact}
use Rattle.fork_reach.specs.Objects.{Measures, measure_of, measures_of}
use Rattle.fork_reach.specs.Source.{Objects}
use Rattle.fork_reach.proofs.KeptObjects.{tied_names}
use Rattle.fork_reach.proofs.MeasureLemmas.{same_there}
use Rattle.fork_ledger.specs.Private.{Private, nothing, private_measures, standing, with_discarded, with_kept, with_published, with_staged, with_under}
use Rattle.fork_ledger.specs.Tenants.{Tenants, at_tenant, private_of, shape_of}
use Rattle.fork_ledger.proofs.BothLemmas.{same_both, same_measures, same_tenants_there}
use Rattle.fork_ledger.proofs.SeenLemmas.{get_kept}
use Rattle.fork_ledger.proofs.TenantLemmas.{absent_still, by_test, private_at, private_others, self_apart, there_still}

-- a change that goes by names, kinds and lengths alone
abbrev pub Respects : (Private → Private) → Type 0
Respects change = (a b : Private) → private_measures a ≡ private_measures b → private_measures (change a) ≡ private_measures (change b)

-- a shape is known by who is there and by each tenant's measures
shapes_known : (m n : Tenants) → ((q : List ℕ) → contains_key m q ≡ contains_key n q) → ((q : List ℕ) → private_measures (private_of m q) ≡ private_measures (private_of n q)) → shape_of m ≡ shape_of n
shapes_known m n there own = same_map name_total name_exact _ _ (λ q.
    get_map_values name_total private_measures m q ∙ by (get m q) (get n q) (there q) (own q) ∙ sym (get_map_values name_total private_measures n q))
  where
    by : (o p : Option Private) → is_some o ≡ is_some p → private_measures (unwrap_or o nothing) ≡ private_measures (unwrap_or p nothing) → option_map private_measures o ≡ option_map private_measures p
    by None None there same = refl
    by None (Some y) there same = absurd (cc)
    by (Some x) None there same = absurd (cc)
    by (Some x) (Some y) there same = ap Some same

-- one tenant's change is that of the shape
pub shape_at : (m n : Tenants) (t : List ℕ) (change : Private → Private) → Respects change → shape_of m ≡ shape_of n → shape_of (at_tenant m t change) ≡ shape_of (at_tenant n t change)
shape_at m n t change respects same = shapes_known _ _
    (λ q. there_still m t q change ∙ same_tenants_there n m q same ∙ sym (there_still n t q change))
    (λ q. by_test (eq_by_cmp name_cmp q t) _ (λ tied. at_own q (tied_names q t tied)) (λ apart. at_others q (self_apart q t apart)))
  where
    still : (q : List ℕ) → private_measures (private_of m q) ≡ private_measures (private_of n q)
    still q = same_measures n m q same

    here : contains_key m t ≡ true → private_measures (private_of (at_tenant m t change) t) ≡ private_measures (private_of (at_tenant n t change) t)
    here there =
        ap private_measures (private_at m t change there) ∙ respects (private_of m t) (private_of n t) (still t)
        ∙ ap private_measures (sym (private_at n t change (sym (same_tenants_there n m t same) ∙ there)))

    none : contains_key m t ≡ false → private_measures (private_of (at_tenant m t change) t) ≡ private_measures (private_of (at_tenant n t change) t)
    none absent =
        ap (λ tenants. private_measures (private_of tenants t)) (absent_still m t change absent) ∙ still t
        ∙ ap (λ tenants. private_measures (private_of tenants t)) (sym (absent_still n t change (sym (same_tenants_there n m t same) ∙ absent)))

    at_own : (q : List ℕ) → q ≡ t → private_measures (private_of (at_tenant m t change) q) ≡ private_measures (private_of (at_tenant n t change) q)
    at_own q tied =
        ap (λ k. private_measures (private_of (at_tenant m t change) k)) tied ∙ by_test (contains_key m t) _ here none
        ∙ ap (λ k. private_measures (private_of (at_tenant n t change) k)) (sym tied)

    at_others : (q : List ℕ) → (q ≡ t → ⊥) → private_measures (private_of (at_tenant m t change) q) ≡ private_measures (private_of (at_tenant n t change) q)
    at_others q differs = ap private_measures (private_others m t q change differs) ∙ still q ∙ ap private_measures (sym (private_others n t q change differs))

-- what is staged goes, or is seen
pub respects_discarded : Respects with_discarded
respects_discarded a b same = ap (λ (p : Measures × Measures). (p.0, measures_of empty)) same

pub respects_published : Respects with_published
respects_published a b same = ap (λ (m : Measures). (m, measures_of empty)) (same_both a b same)

-- some of what is seen stays
kept_mapped : (b : Bool) (o : Option Object) → option_map measure_of (cond b o None) ≡ cond b (option_map measure_of o) None
kept_mapped true o = refl
kept_mapped false o = refl

pub measures_kept : (objects : Objects) (test : List ℕ → Bool) → measures_of (retain_keys objects test) ≡ retain_keys (measures_of objects) test
measures_kept objects test = same_map name_total name_exact _ _ (λ q.
    get_map_values name_total measure_of (retain_keys objects test) q ∙ ap (option_map measure_of) (get_kept objects test q) ∙ kept_mapped (test q) (get objects q)
    ∙ ap (λ o. cond (test q) o None) (sym (get_map_values name_total measure_of objects q))
    ∙ sym (get-retain_keys (measures_of objects) test q (λ x tied. ap test (sym (name_exact q x tied)))))

pub respects_kept : (test : List ℕ → Bool) → Respects (with_kept test)
respects_kept test a b same =
    ap (λ m. (m, measures_of a.staged)) (measures_kept a.visible test) ∙ ap (λ (p : Measures × Measures). (retain_keys p.0 test, p.1)) same ∙ ap (λ m. (m, measures_of b.staged)) (sym (measures_kept b.visible test))

-- one more object is staged
standing_measured : (seen : Option Object) (object : Object) → measure_of (unwrap_or seen object) ≡ unwrap_or (option_map measure_of seen) (measure_of object)
standing_measured None object = refl
standing_measured (Some x) object = refl

measure_standing : (a b : Private) (object : Object) → measures_of a.visible ≡ measures_of b.visible → measure_of (standing a object) ≡ measure_of (standing b object)
measure_standing a b object same =
    standing_measured (get a.visible (object_name object)) object
    ∙ ap (λ o. unwrap_or o (measure_of object)) (sym (get_map_values name_total measure_of a.visible (object_name object)) ∙ ap (λ m. get m (object_name object)) same ∙ get_map_values name_total measure_of b.visible (object_name object))
    ∙ sym (standing_measured (get b.visible (object_name object)) object)

-- what stands under a name, seen or itself, by its measure
pub measure_standing_in : (seen : Option Object) (x y : Object) → measure_of x ≡ measure_of y → measure_of (unwrap_or seen x) ≡ measure_of (unwrap_or seen y)
measure_standing_in None x y same = same
measure_standing_in (Some object) x y same = refl

pub measures_under : (m n : Objects) (name : List ℕ) (x y : Object) → measures_of m ≡ measures_of n → measure_of x ≡ measure_of y → measures_of (with_under m name x) ≡ measures_of (with_under n name y)
measures_under m n name x y same alike = by (contains_key m name) (contains_key n name) (same_there m n name same)
  where
    by : (b d : Bool) → b ≡ d → measures_of (cond b m (insert m name x)) ≡ measures_of (cond d n (insert n name y))
    by true true is = same
    by true false is = absurd (cc)
    by false true is = absurd (cc)
    by false false is = map_values_insert name_total name_exact measure_of m name x ∙ ap (λ (s : Measures). insert s name (measure_of x)) same ∙ ap (insert (measures_of n) name) alike ∙ sym (map_values_insert name_total name_exact measure_of n name y)

pub respects_staged : (object : Object) → Respects (with_staged object)
respects_staged object a b same =
    let seen = ap (λ (p : Measures × Measures). p.0) same in
    let staged = measures_under a.staged b.staged (object_name object) (standing a object) (standing b object) (ap (λ (p : Measures × Measures). p.1) same) (measure_standing a b object seen) in
    λ i. (seen i, staged i)
