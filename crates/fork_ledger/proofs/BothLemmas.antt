-- Both sides as one, as an object is staged; and their measures.
use Rattle.std.proofs.Common.{◌≡◌, ℕ, Bool, true, false, cond, List, Option, None, Some, refl, sym, ap, ◌∙◌, is_some}
use Rattle.std.specs.Option.{option_map, option_or, unwrap_or}
use Rattle.std.specs.Ordering.{eq_by_cmp}
use Rattle.std.specs.FinMap.{contains_key, empty, get, get-empty, get-insert, insert, same_map}
use Rattle.git_name.specs.declared.kind.Kind.{Kind}
use Rattle.git_name.specs.Maps.{joined}
use Rattle.git_name.specs.Name.{name_cmp}
use Rattle.git_name.specs.Object.{Object, object_name}
use Rattle.git_name.proofs.MapLemmas.{get_joined, get_map_values, joined_empty}
use Rattle.git_name.proofs.Names.{name_total, name_exact}
use Rattle.fork_reach.specs.Objects.{Measures, measure_of, measures_of, with_object}
use Rattle.fork_reach.specs.Source.{Objects}
use Rattle.fork_reach.proofs.KeptObjects.{tied_names}
use Rattle.fork_ledger.specs.Private.{Private, both_of, private_measures, with_staged, with_under}
use Rattle.fork_ledger.specs.Tenants.{Tenants, private_of, shape_of}
use Rattle.fork_ledger.specs.Private as private

-- where nothing is staged, both sides are what is seen
pub both_quiet : (own : Private) → own.staged ≡ empty → both_of own ≡ own.visible
both_quiet own none = ap (joined own.visible) none ∙ joined_empty name_total name_exact own.visible

there_or : (seen waits : Option Object) → is_some seen ≡ true → is_some (option_or seen waits) ≡ true
there_or (Some object) waits is = refl
there_or None waits is = absurd (cc)

-- what is seen is on both sides
pub seen_in_both : (own : Private) (name : List ℕ) → contains_key own.visible name ≡ true → get (both_of own) name ≡ get own.visible name
seen_in_both own name there = get_joined name_total own.visible own.staged name ∙ by (get own.visible name) there
  where
    by : (o : Option Object) → is_some o ≡ true → option_or o (get own.staged name) ≡ o
    by (Some object) is = refl
    by None is = absurd (cc)

set_behind : (b : Bool) (seen waits : Option Object) (x : Object) → (b ≡ true → is_some seen ≡ true) → option_or seen (cond b (Some x) waits) ≡ option_or seen waits
set_behind true None waits x seen = absurd (cc (seen refl))
set_behind true (Some object) waits x seen = refl
set_behind false seen_one waits x seen = refl

set_in : (b : Bool) (seen waits : Option Object) (x : Object) → (b ≡ true → seen ≡ None) → option_or seen (cond b (Some x) waits) ≡ cond b (Some x) (option_or seen waits)
set_in true seen waits x none = ap (λ o. option_or o (Some x)) (none refl)
set_in false seen waits x none = refl

-- one more staged object, of a name that is seen
behind_seen : (seen waits : Objects) (x : Object) (name : List ℕ) → contains_key seen name ≡ true → joined seen (with_under waits name x) ≡ joined seen waits
behind_seen seen waits x name there = by (contains_key waits name)
  where
    by : (b : Bool) → joined seen (cond b waits (insert waits name x)) ≡ joined seen waits
    by true = refl
    by false = same_map name_total name_exact _ _ (λ q.
        get_joined name_total seen (insert waits name x) q ∙ ap (option_or (get seen q)) (get-insert name_total waits name x q)
        ∙ set_behind (eq_by_cmp name_cmp q name) (get seen q) (get waits q) x (λ same. ap (contains_key seen) (tied_names q name same) ∙ there)
        ∙ sym (get_joined name_total seen waits q))

-- one more of a name that is not seen
beside_seen : (seen waits : Objects) (x : Object) → get seen (object_name x) ≡ None → joined seen (with_under waits (object_name x) x) ≡ with_object (joined seen waits) x
beside_seen seen waits x none = by (contains_key waits (object_name x)) (contains_key (joined seen waits) (object_name x)) refl same
  where
    same : contains_key (joined seen waits) (object_name x) ≡ contains_key waits (object_name x)
    same = ap is_some (get_joined name_total seen waits (object_name x) ∙ ap (λ o. option_or o (get waits (object_name x))) none)

    by : (b d : Bool) → contains_key waits (object_name x) ≡ b → d ≡ b → joined seen (cond b waits (insert waits (object_name x) x)) ≡ cond d (joined seen waits) (insert (joined seen waits) (object_name x) x)
    by true true is alike = refl
    by true false is alike = absurd (cc)
    by false true is alike = absurd (cc)
    by false false is alike = same_map name_total name_exact _ _ (λ q.
        get_joined name_total seen (insert waits (object_name x) x) q ∙ ap (option_or (get seen q)) (get-insert name_total waits (object_name x) x q)
        ∙ set_in (eq_by_cmp name_cmp q (object_name x)) (get seen q) (get waits q) x (λ tied. ap (get seen) (tied_names q (object_name x) tied) ∙ none)
        ∙ ap (cond (eq_by_cmp name_cmp q (object_name x)) (Some x)) (sym (get_joined name_total seen waits q))
        ∙ sym (get-insert name_total (joined seen waits) (object_name x) x q))

there_already : (objects : Objects) (x : Object) → contains_key objects (object_name x) ≡ true → with_object objects x ≡ objects
there_already objects x is = ap (λ b. cond b objects (insert objects (object_name x) x)) is

-- an object is staged: both sides have it, unless one of its name was there
pub both_more : (own : Private) (object : Object) → both_of (with_staged object own) ≡ with_object (both_of own) object
both_more own object = by (get own.visible (object_name object)) refl
  where
    by : (o : Option Object) → get own.visible (object_name object) ≡ o → joined own.visible (with_under own.staged (object_name object) (unwrap_or (get own.visible (object_name object)) object)) ≡ with_object (joined own.visible own.staged) object
    by None is = ap (λ o. joined own.visible (with_under own.staged (object_name object) (unwrap_or o object))) is ∙ beside_seen own.visible own.staged object is
    by (Some x) is =
        ap (λ o. joined own.visible (with_under own.staged (object_name object) (unwrap_or o object))) is
        ∙ behind_seen own.visible own.staged x (object_name object) (ap is_some is)
        ∙ sym (there_already (joined own.visible own.staged) object (ap is_some (get_joined name_total own.visible own.staged (object_name object)) ∙ there_or (get own.visible (object_name object)) (get own.staged (object_name object)) (ap is_some is)))

or_mapped : (f : Object → Kind × ℕ) (a b : Option Object) → option_map f (option_or a b) ≡ option_or (option_map f a) (option_map f b)
or_mapped f None b = refl
or_mapped f (Some x) b = refl

-- the measures of both sides are those of each
pub measures_both : (own : Private) → measures_of (both_of own) ≡ joined (measures_of own.visible) (measures_of own.staged)
measures_both own = same_map name_total name_exact _ _ (λ q.
    get_map_values name_total measure_of (both_of own) q ∙ ap (option_map measure_of) (get_joined name_total own.visible own.staged q) ∙ or_mapped measure_of (get own.visible q) (get own.staged q)
    ∙ ap (λ o. option_or o (option_map measure_of (get own.staged q))) (sym (get_map_values name_total measure_of own.visible q))
    ∙ ap (option_or (get (measures_of own.visible) q)) (sym (get_map_values name_total measure_of own.staged q))
    ∙ sym (get_joined name_total (measures_of own.visible) (measures_of own.staged) q))

pub same_both : (a b : Private) → private_measures a ≡ private_measures b → measures_of (both_of a) ≡ measures_of (both_of b)
same_both a b same = measures_both a ∙ ap (λ (p : Measures × Measures). joined p.0 p.1) same ∙ sym (measures_both b)

none_measured : (o : Option Object) → option_map measure_of o ≡ None → o ≡ None
none_measured None is = refl
none_measured (Some object) is = absurd (cc)

-- objects of no measures are none
pub none_of : (objects : Objects) → measures_of objects ≡ measures_of empty → objects ≡ empty
none_of objects same = same_map name_total name_exact _ _ (λ q.
    none_measured (get objects q) (sym (get_map_values name_total measure_of objects q) ∙ ap (λ m. get m q) same ∙ get_map_values name_total measure_of empty q ∙ ap (option_map measure_of) (get-empty {X = Object} name_cmp q) ∙ nothing)
    ∙ sym (get-empty {X = Object} name_cmp q))
  where
    nothing : ◌≡◌ {A = Option (Kind × ℕ)} (option_map measure_of None) None
    nothing = refl

measured_of : (o : Option Private) → unwrap_or (option_map private_measures o) (private_measures private.nothing) ≡ private_measures (unwrap_or o private.nothing)
measured_of None = refl
measured_of (Some own) = refl

measures_at : (tenants : Tenants) (t : List ℕ) → unwrap_or (get (shape_of tenants) t) (private_measures private.nothing) ≡ private_measures (private_of tenants t)
measures_at tenants t = ap (λ o. unwrap_or o (private_measures private.nothing)) (get_map_values name_total private_measures tenants t) ∙ measured_of (get tenants t)

-- what of one tenant stays where the shape of all does
pub same_measures : (old new : Tenants) (t : List ℕ) → shape_of new ≡ shape_of old → private_measures (private_of new t) ≡ private_measures (private_of old t)
same_measures old new t same = sym (measures_at new t) ∙ ap (λ m. unwrap_or (get m t) (private_measures private.nothing)) same ∙ measures_at old t

some_of : (o : Option Private) → is_some (option_map private_measures o) ≡ is_some o
some_of None = refl
some_of (Some own) = refl

-- and who is there
pub same_tenants_there : (old new : Tenants) (t : List ℕ) → shape_of new ≡ shape_of old → contains_key new t ≡ contains_key old t
same_tenants_there old new t same =
    sym (some_of (get new t)) ∙ ap is_some (sym (get_map_values name_total private_measures new t)) ∙ ap (λ m. is_some (get m t)) same ∙ ap is_some (get_map_values name_total private_measures old t) ∙ some_of (get old t)
