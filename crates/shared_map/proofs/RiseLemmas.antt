-- Entries in the order of their keys, and a key among them.
use Rattle.std.proofs.Common.{◌≡◌, ◌≢◌, ℕ, true, false, List, [], ◌∷◌, ◌++◌, refl, sym, ap, subst, ◌∙◌, is_lt, Ordering, Less, Equal, Greater}
use Rattle.std.specs.List.{AllByRecursion}
use Rattle.std.specs.Ordering.{ordering_reverse}
use Rattle.git_name.specs.Name.{name_cmp}
use Rattle.git_name.proofs.Names.{name_total, name_exact}
use Rattle.shared_map.specs.Chunks.{Entry, Entries, Rises}
use Rattle.shared_map.proofs.AllLemmas.{all_first, all_second}

pub less_of : (o : Ordering) → is_lt o ≡ true → o ≡ Less
less_of Less is = refl
less_of Equal is = absurd (cc)
less_of Greater is = absurd (cc)

-- a key that comes after one that does not come before another does not come before it either
not_later : (a b key : List ℕ) (o : Ordering) → name_cmp b key ≡ o → name_cmp a b ≡ Less → is_lt (name_cmp a key) ≡ false → is_lt o ≡ false
not_later a b key Less is less not_so = (let same : name_cmp a key ≡ Less = name_total.trans a b key less is in absurd (cc (sym not_so ∙ ap is_lt same)))
not_later a b key Equal is less not_so = refl
not_later a b key Greater is less not_so = refl

pub not_before_later : (a b key : List ℕ) → name_cmp a b ≡ Less → is_lt (name_cmp a key) ≡ false → is_lt (name_cmp b key) ≡ false
not_before_later a b key less not_so = not_later a b key (name_cmp b key) refl less not_so

reversed : (a key : List ℕ) (o : Ordering) → name_cmp a key ≡ o → o ≡ Greater → name_cmp key a ≡ Less
reversed a key o is greater = name_total.antisymm key a ∙ ap ordering_reverse (is ∙ greater)

behind_by : (a b key : List ℕ) (o : Ordering) → name_cmp a key ≡ o → name_cmp a b ≡ Less → is_lt o ≡ false → name_cmp key b ≡ Less
behind_by a b key Less is less not_so = absurd (cc)
behind_by a b key Equal is less not_so = subst (λ k. name_cmp k b ≡ Less) (name_exact a key is) less
behind_by a b key Greater is less not_so = name_total.trans key a b (reversed a key Greater is refl) less

-- what comes after a key that does not come before another comes after that
pub behind_later : (a b key : List ℕ) → name_cmp a b ≡ Less → is_lt (name_cmp a key) ≡ false → name_cmp key b ≡ Less
behind_later a b key less not_so = behind_by a b key (name_cmp a key) refl less not_so

apart_by : (a key : List ℕ) (o : Ordering) → name_cmp a key ≡ o → is_lt o ≡ false → a ≢ key → name_cmp key a ≡ Less
apart_by a key Less is not_so apart = absurd (cc)
apart_by a key Equal is not_so apart = absurd (apart (name_exact a key is))
apart_by a key Greater is not_so apart = reversed a key Greater is refl

-- another key that does not come before one comes after it
pub behind_apart : (a key : List ℕ) → is_lt (name_cmp a key) ≡ false → a ≢ key → name_cmp key a ≡ Less
behind_apart a key not_so apart = apart_by a key (name_cmp a key) refl not_so apart

pub before_earlier : (a b key : List ℕ) → name_cmp a b ≡ Less → is_lt (name_cmp b key) ≡ true → is_lt (name_cmp a key) ≡ true
before_earlier a b key less so = ap is_lt (name_total.trans a b key less (less_of (name_cmp b key) so))

pub rises_first : (xs ys : Entries) → Rises (xs ++ ys) → Rises xs
rises_first [] ys rises = tt
rises_first (x ∷ xs) ys rises = (all_first (λ f. name_cmp x.0 f.0 ≡ Less) xs ys rises.0, rises_first xs ys rises.1)

pub rises_second : (xs ys : Entries) → Rises (xs ++ ys) → Rises ys
rises_second [] ys rises = rises
rises_second (x ∷ xs) ys rises = rises_second xs ys rises.1

-- all that comes before an entry
pub across : (xs : Entries) (y : Entry) (ys : Entries) → Rises (xs ++ y ∷ ys) → AllByRecursion (λ e. name_cmp e.0 y.0 ≡ Less) xs
across [] y ys rises = tt
across (x ∷ xs) y ys rises = ((all_second (λ f. name_cmp x.0 f.0 ≡ Less) xs (y ∷ ys) rises.0).0, across xs y ys rises.1)
