-- Objects that are received one after another.
use Rattle.std.proofs.Common.{◌≡◌, ◌⊎◌, inl, inr, ℕ, List, [], ◌∷◌, ◌++◌, ◌||◌, Bool, true, false, Option, None, Some, map, refl, sym, ap, subst, ◌∙◌, arith}
use Rattle.std.specs.Prelude.{Contains, IfSome, slice_index_or}
use Rattle.std.specs.Option.{unwrap_or}
use Rattle.std.proofs.lemmas.List.{map-append}
use Rattle.std.proofs.lemmas.List.Elements.{All-nil, All-push, Contains-append_left, Contains-append_right}
use Rattle.std.specs.FinMap.{get}
use Rattle.git_name.specs.Object.{Object, object_name}
use Rattle.git_name.specs.Same.{is_listed, same_name}
use Rattle.looks.specs.Growth.{GrowsAmong}
use Rattle.looks.specs.Places.{Places}
use Rattle.looks.proofs.GrowthLemmas.{grows_more, grows_then}
use Rattle.object_table.specs.AllStaged.{AreListed}
use Rattle.object_table.specs.Told.{entry_of}
use Rattle.object_table.specs.declared.entry.Entry.{Entry}
use Rattle.object_table.proofs.PlaceLemmas.{own_name}
use Rattle.loose_store.specs.Files.{Files, SameBut}
use Rattle.loose_store.specs.Stored.{Whole}
use Rattle.fork_ledger.specs.AllStaged.{MeetsAmong, Receives, StaysWhole, StoresAmong}
use Rattle.fork_ledger.specs.Kept.{Covers, IsExact}
use Rattle.fork_ledger.specs.Store.{Meets, StoresAlone}
use Rattle.fork_ledger.proofs.CoverLemmas.{by_name}

-- ---- what stands whole
pub stays_same : (old new : Files) → new ≡ old → StaysWhole old new
stays_same old new same name object whole = subst (λ files. Whole files name object) (sym same) whole

-- one file changes, which was whole of no object
pub stays_but : (old new : Files) (name : List ℕ) → SameBut name old new → ((object : Object) → Whole old name object → ⊥) → StaysWhole old new
stays_but old new name others none q object whole = by_name _ name q
    (λ same. absurd (none object (subst (λ n. Whole old n object) (sym same) whole)))
    (λ apart differs. record { file = others q apart ∙ whole.file; named = whole.named })

-- where there is no file, none is whole
pub none_whole : (files : Files) (name : List ℕ) → get files name ≡ None → (object : Object) → Whole files name object → ⊥
none_whole files name none object whole = (let differs : ⊥ = cc (sym none ∙ whole.file) in differs)

pub stays_more : (a b c : Files) → StaysWhole a b → StaysWhole b c → StaysWhole a c
stays_more a b c first next name object whole = next name object (first name object whole)

-- ---- objects so far, and one more
pub receives_none : (files : Files) (places : Places) → Receives [] files files places places
receives_none files places = record {
  whole = All-nil (λ object. Whole files (object_name object) object);
  stands = λ name object whole. whole;
  among = λ name other whole. inl whole;
  covers = λ is. is;
  exact = λ is. is;
}

sole : (object : Object) → Contains (object ∷ []) object
sole object = (0, omega arith, refl)

pub receives_more : (objects : List Object) (object : Object) (a b c : Files) (p q r : Places) → Receives objects a b p q → Whole c (object_name object) object → StaysWhole b c → StoresAlone object b c
    → (Covers b q → Covers c r) → (IsExact b q → IsExact c r) → Receives (objects ++ object ∷ []) a c p r
receives_more objects object a b c p q r before whole stays alone covers exact = record {
  whole = All-push (λ x. Whole c (object_name x) x) objects object (λ k d inside. stays _ _ (before.whole k d inside)) whole;
  stands = λ name x is. stays name x (before.stands name x is);
  among = λ name other is. came name other (alone name other is);
  covers = λ is. covers (before.covers is);
  exact = λ is. exact (before.exact is);
}
  where
    stood : (name : List ℕ) (other : Object) → Whole a name other ⊎ Contains objects other → Whole a name other ⊎ Contains (objects ++ object ∷ []) other
    stood name other (inl first) = inl first
    stood name other (inr there) = inr (Contains-append_left objects (object ∷ []) other there)

    came : (name : List ℕ) (other : Object) → Whole b name other ⊎ (other ≡ object) → Whole a name other ⊎ Contains (objects ++ object ∷ []) other
    came name other (inl is) = stood name other (before.among name other is)
    came name other (inr same) = inr (subst (Contains (objects ++ object ∷ [])) (sym same) (Contains-append_right objects (object ∷ []) object (sole object)))

-- ---- the catalogue
or_true : (b : Bool) → (b || true) ≡ true
or_true true = refl
or_true false = refl

pub listed_more : (entries : List Entry) (entry : Entry) (old new : Places) → ((q : List ℕ) → is_listed new.names q ≡ (same_name entry.name q || is_listed old.names q)) → AreListed old entries → AreListed new (entries ++ entry ∷ [])
listed_more entries entry old new listed before = All-push (λ x. is_listed new.names x.name ≡ true) entries entry
    (λ k d inside. listed (slice_index_or entries k d).name ∙ ap (λ b. same_name entry.name (slice_index_or entries k d).name || b) (before k d inside) ∙ or_true (same_name entry.name (slice_index_or entries k d).name))
    (listed entry.name ∙ ap (λ b. b || is_listed old.names entry.name) (own_name entry.name))

-- one more of these objects, whose name comes to the catalogue
pub grows_on : (objects front : List Object) (object : Object) (back : List Object) (first old new : Places) → objects ≡ front ++ object ∷ back → GrowsAmong (map object_name objects) first old → GrowsAmong (object_name object ∷ []) old new
    → GrowsAmong (map object_name objects) first new
grows_on objects front object back first old new order before one = grows_then (map object_name objects) first old new before (grows_more (object_name object ∷ []) (map object_name objects) old new there one)
  where
    parts : map object_name objects ≡ map object_name front ++ object_name object ∷ map object_name back
    parts = ap (map object_name) order ∙ map-append object_name front (object ∷ back)

    there : (name : List ℕ) → Contains (object_name object ∷ []) name → Contains (map object_name objects) name
    there name is = subst (λ names. Contains names name) (sym parts) (Contains-append_right (map object_name front) (object_name object ∷ map object_name back) name (Contains-append_left (object_name object ∷ []) (map object_name back) name is))

-- ---- objects that are left
-- one more of the front, and one less of what is left
pub regroup : (xs : List Object) (x : Object) (ys : List Object) → (xs ++ x ∷ []) ++ ys ≡ xs ++ x ∷ ys
regroup [] x ys = refl
regroup (z ∷ xs) x ys = ap (λ zs. z ∷ zs) (regroup xs x ys)

pub told_more : (xs : List Object) (x : Object) → map entry_of (xs ++ x ∷ []) ≡ map entry_of xs ++ entry_of x ∷ []
told_more [] x = refl
told_more (z ∷ xs) x = ap (λ zs. entry_of z ∷ zs) (told_more xs x)

-- what is kept was received, or is the one that came back now
pub kept_more : (kept front : List Object) (object : Object) (back : Option Object) (other : Object) → (Contains kept other → Contains front other) → IfSome back (λ given. given ≡ object) → Contains kept other ⊎ (back ≡ Some other) → Contains (front ++ object ∷ []) other
kept_more kept front object back other before same (inl was) = Contains-append_left front (object ∷ []) other (before was)
kept_more kept front object back other before same (inr is) = by back same is
  where
    by : (o : Option Object) → IfSome o (λ given. given ≡ object) → o ≡ Some other → Contains (front ++ object ∷ []) other
    by None none is = absurd (let wrong : ⊥ = cc in wrong)
    by (Some given) here is = subst (Contains (front ++ object ∷ [])) (sym here ∙ ap (λ o. unwrap_or o other) is) (Contains-append_right front (object ∷ []) object (sole object))

-- ---- a collision
pub meets_among : (objects front : List Object) (object : Object) (back : List Object) (first now : Files) → objects ≡ front ++ object ∷ back → StoresAmong front first now → Meets object now → MeetsAmong objects first
meets_among objects front object back first now order among met = record {
  front = front;
  object = object;
  back = back;
  order = order;
  other = met.0;
  met = among (object_name object) met.0 met.1;
  named = met.1.named;
  differ = met.2;
}

-- the first of some objects are among them
pub among_front : (objects front back : List Object) (old new : Files) → objects ≡ front ++ back → StoresAmong front old new → StoresAmong objects old new
among_front objects front back old new order among name other whole = by (among name other whole)
  where
    by : Whole old name other ⊎ Contains front other → Whole old name other ⊎ Contains objects other
    by (inl stood) = inl stood
    by (inr came) = inr (subst (λ xs. Contains xs other) (sym order) (Contains-append_left front back other came))

-- ---- for callers
-- both objects that met, as a list and the store have them
pub comes : (objects : List Object) (files : Files) → (meets : MeetsAmong objects files) → Contains objects meets.object
comes objects files meets = subst (λ xs. Contains xs meets.object) (sym meets.order) (Contains-append_right meets.front (meets.object ∷ meets.back) meets.object (Contains-append_left (meets.object ∷ []) meets.back meets.object (sole meets.object)))

pub met_there : (objects : List Object) (files : Files) → (meets : MeetsAmong objects files) → Contains objects meets.other ⊎ Whole files (object_name meets.object) meets.other
met_there objects files meets = by meets.met
  where
    by : Whole files (object_name meets.object) meets.other ⊎ Contains meets.front meets.other → Contains objects meets.other ⊎ Whole files (object_name meets.object) meets.other
    by (inl stood) = inr stood
    by (inr before) = inl (subst (λ xs. Contains xs meets.other) (sym meets.order) (Contains-append_left meets.front (meets.object ∷ meets.back) meets.other before))
