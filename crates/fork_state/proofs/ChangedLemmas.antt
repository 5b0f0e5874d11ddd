-- The states of a host whose tenants are changed are those of its world with these tenants changed.
use Rattle.std.proofs.Common.{◌≡◌, ℕ, ◌<◌, ◌≤◌, Bool, true, false, cond, not, List, [], ◌∷◌, ◌++◌, None, refl, sym, ap, subst, ◌∙◌, length, map, arith}
use Rattle.std.specs.Prelude.{T, filter, if◌then◌else◌, ◌&&◌, ◌||◌}
use Rattle.std.proofs.lemmas.List.{length-map}
use Rattle.std.proofs.lemmas.List.Kept.{IsStrictlySortedBy-filter}
use Rattle.std.proofs.lemmas.Map.Entries.{lookup-filter-keys}
use Rattle.std.specs.BTreeMap.{is_at}
use Rattle.std.specs.declared.cmp.Ordering.{Ordering}
use Rattle.std.specs.declared.cmp.Ordering.TheVariants.{Less, Equal, Greater}
use Rattle.std.specs.List.{AllByRecursion, list_any}
use Rattle.std.specs.List.Sorted.{IsStrictlySortedBy}
use Rattle.std.specs.Map.{keys_of, lookup}
use Rattle.std.specs.Ordering.{is_eq, is_lt}
use Rattle.std.specs.FinMap.{contains_key, contains_key-keys, entries, entries_sorted, entries-from_sorted, from_entries, is_sorted, keys, remove, same_entries_map}
use Rattle.std.specs.FinMap.Entries.{below_all}
use Rattle.git_name.specs.Name.{name_cmp}
use Rattle.git_name.proofs.Names.{name_exact, name_total}
use Rattle.git_name.proofs.TreeMaps.{entries_after_remove, entries_of_ordered}
use Rattle.git_reftx.proofs.PushLemmas.{keys_ascend}
use Rattle.fork_model.specs.View.{View}
use Rattle.fork_model.specs.World.{World}
use Rattle.fork_model.specs.declared.limits.TheConstants.{MAX_TENANTS}
use Rattle.fork_host.proofs.KeepingLemmas.{before_next_by, room_for}
use Rattle.state_text.specs.Adding.{AreBefore}
use Rattle.state_text.specs.Kept.{state_kept, states_of}
use Rattle.state_text.specs.Offer.{Offer}
use Rattle.state_text.specs.States.{Ascend, IsOffer, IsStates, States, TenantState}
use Rattle.fork_state.specs.Changed.{is_name, limited, states_limited, states_without, view_limited, with_limit}

abbrev pub name_of : TenantState → List ℕ
name_of tenant = tenant.name

abbrev Row : Type 0
Row = List ℕ × View

-- ---- one state behind the others, of all that are wanted
pub next_before : (all changed more : States) (tenant : TenantState) → Ascend (map name_of all) → changed ++ tenant ∷ more ≡ all → AreBefore (map name_of changed) tenant.name
next_before all changed more tenant sorted whole = before_next_by name_of changed tenant more (subst (λ ts. Ascend (map name_of ts)) (sym whole) sorted)

pub next_room : (all changed more : States) (tenant : TenantState) → length all ≤ MAX_TENANTS → changed ++ tenant ∷ more ≡ all → length changed < MAX_TENANTS
next_room all changed more tenant few whole = room_for changed tenant more MAX_TENANTS (subst (λ ts. length ts ≤ MAX_TENANTS) (sym whole) few)

-- ---- what holds of each offer holds of the next
pub offer_at : (giver : List ℕ) (xs : List Offer) (offer : Offer) (ys : List Offer) → AllByRecursion (IsOffer giver) (xs ++ offer ∷ ys) → IsOffer giver offer
offer_at giver [] offer ys all = all.0
offer_at giver (x ∷ xs) offer ys all = offer_at giver xs offer ys all.1

-- ---- with a limit
limited_name : (name : List ℕ) (limit : ℕ) (tenant : TenantState) → (limited name limit tenant).name ≡ tenant.name
limited_name name limit tenant = go (is_name name tenant.name)
  where
    go : (b : Bool) → (if b then record tenant { limit = limit } else tenant).name ≡ tenant.name
    go true = refl
    go false = refl

limited_names : (name : List ℕ) (limit : ℕ) (states : States) → map name_of (states_limited name limit states) ≡ map name_of states
limited_names name limit [] = refl
limited_names name limit (tenant ∷ states) = λ i. limited_name name limit tenant i ∷ limited_names name limit states i

pub limited_ascend : (name : List ℕ) (limit : ℕ) (states : States) → IsStates states → Ascend (map name_of (states_limited name limit states))
limited_ascend name limit states right = subst Ascend (sym (limited_names name limit states)) right.ordered

pub limited_few : (name : List ℕ) (limit : ℕ) (states : States) → IsStates states → length (states_limited name limit states) ≤ MAX_TENANTS
limited_few name limit states right = subst (λ n. n ≤ MAX_TENANTS) (sym (length-map states (limited name limit))) right.few

-- those so far, the next one and those that are left are all
pub limited_whole : (name : List ℕ) (limit : ℕ) (all changed left rest : States) (tenant new : TenantState) → changed ++ states_limited name limit left ≡ all → left ≡ tenant ∷ rest → new ≡ limited name limit tenant
    → changed ++ new ∷ states_limited name limit rest ≡ all
limited_whole name limit all changed left rest tenant new are next is =
    ap (λ (t : TenantState). changed ++ t ∷ states_limited name limit rest) is ∙ ap (λ (ts : States). changed ++ states_limited name limit ts) (sym next) ∙ are

-- ---- without a tenant
kept_one : (name : List ℕ) (tenant : TenantState) (states : States) → is_name name tenant.name ≡ false → states_without name (tenant ∷ states) ≡ tenant ∷ states_without name states
kept_one name tenant states other = ap (λ b. cond (not b) (tenant ∷ states_without name states) (states_without name states)) other

left_out : (name : List ℕ) (tenant : TenantState) (states : States) → is_name name tenant.name ≡ true → states_without name (tenant ∷ states) ≡ states_without name states
left_out name tenant states this = ap (λ b. cond (not b) (tenant ∷ states_without name states) (states_without name states)) this

pub without_whole : (name : List ℕ) (all changed left rest : States) (tenant : TenantState) → changed ++ states_without name left ≡ all → left ≡ tenant ∷ rest → is_name name tenant.name ≡ false → changed ++ tenant ∷ states_without name rest ≡ all
without_whole name all changed left rest tenant are next other =
    ap (λ (ts : States). changed ++ ts) (sym (kept_one name tenant rest other)) ∙ ap (λ (ts : States). changed ++ states_without name ts) (sym next) ∙ are

pub without_next : (name : List ℕ) (all changed left rest : States) (tenant : TenantState) → changed ++ states_without name left ≡ all → left ≡ tenant ∷ rest → is_name name tenant.name ≡ true → changed ++ states_without name rest ≡ all
without_next name all changed left rest tenant are next this =
    ap (λ (ts : States). changed ++ ts) (sym (left_out name tenant rest this)) ∙ ap (λ (ts : States). changed ++ states_without name ts) (sym next) ∙ are

map_filter : {A B : Type 0} (f : A → B) (q : B → Bool) (xs : List A) → map f (filter (λ x. q (f x)) xs) ≡ filter q (map f xs)
map_filter f q [] = refl
map_filter {A} {B} f q (x ∷ xs) = go (q (f x)) (map_filter f q xs)
  where
    go : (b : Bool) → map f (filter (λ y. q (f y)) xs) ≡ filter q (map f xs) → map f (cond b (x ∷ filter (λ y. q (f y)) xs) (filter (λ y. q (f y)) xs)) ≡ cond b (f x ∷ filter q (map f xs)) (filter q (map f xs))
    go true rest = ap (λ (l : List B). f x ∷ l) rest
    go false rest = rest

pub without_ascend : (name : List ℕ) (states : States) → IsStates states → Ascend (map name_of (states_without name states))
without_ascend name states right =
    subst Ascend (sym (map_filter name_of (λ n. not (is_name name n)) states)) (IsStrictlySortedBy-filter name_cmp (λ n. not (is_name name n)) (map name_of states) right.ordered)

fewer : {A : Type 0} (p : A → Bool) (xs : List A) → length (filter p xs) ≤ length xs
fewer p [] = omega arith
fewer p (x ∷ xs) = go (p x) (fewer p xs)
  where
    go : (b : Bool) → length (filter p xs) ≤ length xs → length (cond b (x ∷ filter p xs) (filter p xs)) ≤ length (x ∷ xs)
    go true less = omega (arith, less)
    go false less = omega (arith, less)

pub without_few : (name : List ℕ) (states : States) → IsStates states → length (states_without name states) ≤ MAX_TENANTS
without_few name states right = (let less = fewer (λ (t : TenantState). not (is_name name t.name)) states in let few = right.few in omega (arith, less, few))

-- ---- of a world
any_state : (name : List ℕ) (es : List Row) → list_any (λ tenant. is_name name tenant.name) (map state_kept es) ≡ list_any (is_name name) (map (λ e. e.0) es)
any_state name [] = refl
any_state name (e ∷ es) = ap (λ b. is_name name e.0 || b) (any_state name es)

pub has_name : (world : World) (name : List ℕ) → list_any (λ tenant. is_name name tenant.name) (states_of world) ≡ contains_key world name
has_name world name = any_state name (entries world) ∙ sym (contains_key-keys world name)

limited_below : (name : List ℕ) (limit : ℕ) (k : List ℕ) (es : List Row) → below_all name_cmp k (map (view_limited name limit) es) ≡ below_all name_cmp k es
limited_below name limit k [] = refl
limited_below name limit k (e ∷ es) = ap (λ b. is_lt (name_cmp k e.0) && b) (limited_below name limit k es)

limited_sorted : (name : List ℕ) (limit : ℕ) (es : List Row) → is_sorted name_cmp (map (view_limited name limit) es) ≡ is_sorted name_cmp es
limited_sorted name limit [] = refl
limited_sorted name limit (e ∷ es) =
    ap (λ b. b && is_sorted name_cmp (map (view_limited name limit) es)) (limited_below name limit e.0 es) ∙ ap (λ b. below_all name_cmp e.0 es && b) (limited_sorted name limit es)

entries_limited : (world : World) (name : List ℕ) (limit : ℕ) → entries (with_limit world name limit) ≡ map (view_limited name limit) (entries world)
unfolding with_limit
entries_limited world name limit =
    entries-from_sorted name_cmp (map (view_limited name limit) (entries world)) (subst T (sym (limited_sorted name limit (entries world))) (entries_sorted world))

limited_kept : (name : List ℕ) (limit : ℕ) (e : Row) → state_kept (view_limited name limit e) ≡ limited name limit (state_kept e)
limited_kept name limit e = go (is_name name e.0)
  where
    go : (b : Bool) → state_kept (e.0, if b then record e.1 { limit = limit } else e.1) ≡ (if b then record (state_kept e) { limit = limit } else state_kept e)
    go true = refl
    go false = refl

all_limited : (name : List ℕ) (limit : ℕ) (es : List Row) → map state_kept (map (view_limited name limit) es) ≡ states_limited name limit (map state_kept es)
all_limited name limit [] = refl
all_limited name limit (e ∷ es) = λ i. limited_kept name limit e i ∷ all_limited name limit es i

pub world_limited : (world : World) (name : List ℕ) (limit : ℕ) → states_limited name limit (states_of world) ≡ states_of (with_limit world name limit)
world_limited world name limit = sym (ap (map state_kept) (entries_limited world name limit) ∙ all_limited name limit (entries world))

is_equal : (o : Ordering) → is_eq o ≡ true → o ≡ Equal
is_equal Less e = cc
is_equal Equal e = refl
is_equal Greater e = cc

turned : {A : Type 0} (b : Bool) (x y : A) → cond (not b) x y ≡ cond b y x
turned true x y = refl
turned false x y = refl

abbrev others : List ℕ → List Row → List Row
others name es = filter (λ e. not (is_name name e.0)) es

others_ascend : (world : World) (name : List ℕ) → IsStrictlySortedBy name_cmp (keys_of (others name (entries world)))
others_ascend world name =
    subst (IsStrictlySortedBy name_cmp) (sym (map_filter (λ (e : Row). e.0) (λ n. not (is_name name n)) (entries world))) (IsStrictlySortedBy-filter name_cmp (λ n. not (is_name name n)) (keys world) (keys_ascend world))

entries_removed : (world : World) (name : List ℕ) → entries (remove world name) ≡ others name (entries world)
entries_removed world name =
    let es = entries world in
    let p : List ℕ → Bool = λ n. not (is_name name n) in
    let same : from_entries {R = name_cmp} es ≡ world = same_entries_map _ _ (entries_of_ordered name_total es (keys_ascend world)) in
    let removed : from_entries {R = name_cmp} (others name es) ≡ remove (from_entries es) name =
    entries_after_remove name_total name_exact es (others name es) name
    (λ q. lookup-filter-keys (is_at (name_cmp q)) p (p q) (λ k e. ap p (sym (alike q k e))) es ∙ turned (is_name name q) (lookup (is_at (name_cmp q)) es) None) in
    ap entries (sym (removed ∙ ap (λ m. remove m name) same)) ∙ entries_of_ordered name_total (others name es) (others_ascend world name)
  where
    alike : (q k : List ℕ) → is_at (name_cmp q) k ≡ true → q ≡ k
    alike q k e = name_exact q k (is_equal (name_cmp q k) e)

pub world_without : (world : World) (name : List ℕ) → states_without name (states_of world) ≡ states_of (remove world name)
world_without world name = sym (map_filter state_kept (λ tenant. not (is_name name tenant.name)) (entries world)) ∙ ap (map state_kept) (sym (entries_removed world name))
