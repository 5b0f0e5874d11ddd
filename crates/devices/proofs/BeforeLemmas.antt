-- What a loss of power may leave before an effect, and after it.
use Rattle.std.proofs.Common.{◌≡◌, ◌≤◌, ◌⊎◌, inl, inr, ℕ, suc, false, ◌||◌, List, [], ◌∷◌, Option, Some, None, option_map, length, refl, sym, ◌∙◌, subst, arith, nat_eq}
use Rattle.std.specs.Cmp.Lexicographic.{pointwise}
use Rattle.std.specs.FinMap.{get}
use Rattle.devices.specs.Device.{Files, Effect, Wrote, Added, Moved, Removed, SyncedFile, SyncedFolder, FailedFile, FailedFolder}
use Rattle.devices.specs.Loss.{touches}
use Rattle.devices.specs.Crash.{File, Names, MayNames, MayBytes, Stands, Same, set, moved, removed, added_to, names_after}
use Rattle.devices.proofs.NameLemmas.{neither}
use Rattle.devices.proofs.SeenLemmas.{AreAged, either_of, set_other}

-- the effect leaves the bytes of the files that exist
abbrev pub IsOfNames : Effect → Type 0
IsOfNames (Wrote path bytes) = Unit {0}
IsOfNames (Added path bytes) = ⊥
IsOfNames (Moved from to) = Unit {0}
IsOfNames (Removed path) = Unit {0}
IsOfNames (SyncedFile path) = Unit {0}
IsOfNames (SyncedFolder folder) = Unit {0}
IsOfNames (FailedFile path) = Unit {0}
IsOfNames (FailedFolder folder) = Unit {0}

-- ---- names
moved_other : (d : Names) (from to q : List ℕ) (file : Option File) → (pointwise nat_eq from q || pointwise nat_eq to q) ≡ false → moved d from to file q ≡ d q
moved_other d from to q None differs = refl
moved_other d from to q (Some file) differs =
    let both = neither _ _ differs in
    set_other (set d from None) to q (Some file) both.1 ∙ set_other d from q None both.0

removed_other : (d : Names) (path q : List ℕ) (file : Option File) → pointwise nat_eq path q ≡ false → removed d path file q ≡ d q
removed_other d path q None differs = refl
removed_other d path q (Some file) differs = set_other d path q None differs

added_other : (d : Names) (path q : List ℕ) (count : ℕ) (file : Option File) → pointwise nat_eq path q ≡ false → added_to d path count file q ≡ d q
added_other d path q count None differs = set_other d path q (Some (path, count)) differs
added_other d path q count (Some file) differs = refl

-- the names that are seen, where the effect does not touch them
pub names_off : (base : Files) (past : List Effect) (e : Effect) (q : List ℕ) → touches e q ≡ false → names_after base (e ∷ past) q ≡ names_after base past q
names_off base past (Wrote path bytes) q off = set_other (names_after base past) path q _ off
names_off base past (Added path bytes) q off = added_other (names_after base past) path q _ _ off
names_off base past (Moved from to) q off = moved_other (names_after base past) from to q _ off
names_off base past (Removed path) q off = removed_other (names_after base past) path q _ off
names_off base past (SyncedFile path) q off = refl
names_off base past (SyncedFolder folder) q off = refl
names_off base past (FailedFile path) q off = refl
names_off base past (FailedFolder folder) q off = refl

-- the names before an effect, of which those after it come
pub record Before (base : Files) (past : List Effect) (e : Effect) (m : Names) : Type 0 where
  pub names : Names
  pub may : MayNames base past names
  pub others : (q : List ℕ) → touches e q ≡ false → m q ≡ names q

pub before : (base : Files) (past : List Effect) (e : Effect) (m : Names) → MayNames base (e ∷ past) m → Before base past e m
before base past (Wrote path bytes) m (d, was, inl same) = record { names = d; may = was; others = λ q t. same q }
before base past (Wrote path bytes) m (d, was, inr new) = record { names = d; may = was; others = λ q t. new q ∙ set_other d path q _ t }
before base past (Added path bytes) m (d, was, inl same) = record { names = d; may = was; others = λ q t. same q }
before base past (Added path bytes) m (d, was, inr new) = record { names = d; may = was; others = λ q t. new q ∙ added_other d path q _ _ t }
before base past (Moved from to) m (d, was, inl same) = record { names = d; may = was; others = λ q t. same q }
before base past (Moved from to) m (d, was, inr new) = record { names = d; may = was; others = λ q t. new q ∙ moved_other d from to q _ t }
before base past (Removed path) m (d, was, inl same) = record { names = d; may = was; others = λ q t. same q }
before base past (Removed path) m (d, was, inr new) = record { names = d; may = was; others = λ q t. new q ∙ removed_other d path q _ t }
before base past (SyncedFile path) m may = record { names = m; may = may; others = λ q t. refl }
before base past (SyncedFolder folder) m may = record { names = m; may = may.0; others = λ q t. refl }
before base past (FailedFile path) m may = record { names = m; may = may; others = λ q t. refl }
before base past (FailedFolder folder) m may = record { names = m; may = may; others = λ q t. refl }

-- the names that are seen may be left
pub seen_may : (base : Files) (past : List Effect) → MayNames base past (names_after base past)
seen_may base [] = λ q. refl
seen_may base (Wrote path bytes ∷ past) = (names_after base past, seen_may base past, inr (λ q. refl))
seen_may base (Added path bytes ∷ past) = (names_after base past, seen_may base past, inr (λ q. refl))
seen_may base (Moved from to ∷ past) = (names_after base past, seen_may base past, inr (λ q. refl))
seen_may base (Removed path ∷ past) = (names_after base past, seen_may base past, inr (λ q. refl))
seen_may base (SyncedFile path ∷ past) = seen_may base past
seen_may base (SyncedFolder folder ∷ past) = (seen_may base past, λ unfailed q is_in. refl)
seen_may base (FailedFile path ∷ past) = seen_may base past
seen_may base (FailedFolder folder ∷ past) = seen_may base past

-- ---- ages
older_by_one : (a n : ℕ) → a ≤ n → a ≤ suc n
older_by_one a n le = omega (arith, le)

the_file : (a f : File) (n : ℕ) → a.1 ≤ n → Some a ≡ Some f → f.1 ≤ n
the_file a f n le is = subst (λ (g : File). g.1 ≤ n) (let e : a ≡ f = cc in e) le

set_aged : (d : Names) (path : List ℕ) (file : Option File) (n : ℕ) → AreAged d n → ((f : File) → file ≡ Some f → f.1 ≤ n) → AreAged (set d path file) n
set_aged d path file n old its q f is = by (either_of (pointwise nat_eq path q) file (d q) f is)
  where
    by : ((file ≡ Some f) ⊎ (d q ≡ Some f)) → f.1 ≤ n
    by (inl e) = its f e
    by (inr e) = old q f e

none_aged : (n : ℕ) (f : File) → None ≡ Some f → f.1 ≤ n
none_aged n f e = absurd (cc)

moved_aged : (d : Names) (from to : List ℕ) (file : Option File) (n : ℕ) → AreAged d n → ((f : File) → file ≡ Some f → f.1 ≤ n) → AreAged (moved d from to file) n
moved_aged d from to None n old its q f is = old q f is
moved_aged d from to (Some file) n old its q f is = set_aged (set d from None) to (Some file) n (set_aged d from None n old (none_aged n)) its q f is

removed_aged : (d : Names) (path : List ℕ) (file : Option File) (n : ℕ) → AreAged d n → AreAged (removed d path file) n
removed_aged d path None n old q f is = old q f is
removed_aged d path (Some file) n old q f is = set_aged d path None n old (none_aged n) q f is

added_aged : (d : Names) (path : List ℕ) (file : Option File) (n : ℕ) → AreAged d n → AreAged (added_to d path (suc n) file) (suc n)
added_aged d path None n old q f is = set_aged d path (Some (path, suc n)) (suc n) (λ p g e. older_by_one g.1 n (old p g e)) (λ g e. the_file (path, suc n) g (suc n) (omega arith) e) q f is
added_aged d path (Some file) n old q f is = older_by_one f.1 n (old q f is)

more_aged : (m d : Names) (n : ℕ) → AreAged d n → Same m d → AreAged m (suc n)
more_aged m d n old same q f is = older_by_one f.1 n (old q f (sym (same q) ∙ is))

as_aged : (m d : Names) (n : ℕ) → AreAged d n → Same m d → AreAged m n
as_aged m d n old same q f is = old q f (sym (same q) ∙ is)

-- a file that may be left is at most as old as the past is long
pub aged : (base : Files) (past : List Effect) (m : Names) → MayNames base past m → AreAged m (length past)
aged base [] m may = λ q f is. first q f (get base q) (sym (may q) ∙ is)
  where
    first : (q : List ℕ) (f : File) (o : Option (List ℕ)) → option_map (λ (b : List ℕ). (q, 0)) o ≡ Some f → f.1 ≤ 0
    first q f (Some b) e = the_file (q, 0) f 0 (omega arith) e
    first q f None e = absurd (cc)
aged base (Wrote path bytes ∷ past) m (d, was, inl same) = more_aged m d (length past) (aged base past d was) same
aged base (Wrote path bytes ∷ past) m (d, was, inr new) =
    as_aged m (set d path (Some (path, suc (length past)))) (suc (length past))
    (set_aged d path (Some (path, suc (length past))) (suc (length past)) (λ q f e. older_by_one f.1 (length past) (aged base past d was q f e)) (λ f e. the_file (path, suc (length past)) f (suc (length past)) (omega arith) e)) new
aged base (Added path bytes ∷ past) m (d, was, inl same) = more_aged m d (length past) (aged base past d was) same
aged base (Added path bytes ∷ past) m (d, was, inr new) =
    as_aged m (added_to d path (suc (length past)) (names_after base past path)) (suc (length past)) (added_aged d path (names_after base past path) (length past) (aged base past d was)) new
aged base (Moved from to ∷ past) m (d, was, inl same) = more_aged m d (length past) (aged base past d was) same
aged base (Moved from to ∷ past) m (d, was, inr new) =
    more_aged m (moved d from to (names_after base past from)) (length past)
    (moved_aged d from to (names_after base past from) (length past) (aged base past d was) (λ f e. aged base past (names_after base past) (seen_may base past) from f e)) new
aged base (Removed path ∷ past) m (d, was, inl same) = more_aged m d (length past) (aged base past d was) same
aged base (Removed path ∷ past) m (d, was, inr new) =
    more_aged m (removed d path (names_after base past path)) (length past) (removed_aged d path (names_after base past path) (length past) (aged base past d was)) new
aged base (SyncedFile path ∷ past) m may = more_aged m m (length past) (aged base past m may) (λ q. refl)
aged base (SyncedFolder folder ∷ past) m may = more_aged m m (length past) (aged base past m may.0) (λ q. refl)
aged base (FailedFile path ∷ past) m may = more_aged m m (length past) (aged base past m may) (λ q. refl)
aged base (FailedFolder folder ∷ past) m may = more_aged m m (length past) (aged base past m may) (λ q. refl)

-- ---- bytes
pub older : (base : Files) (past : List Effect) (e : Effect) (file : File) (x : List ℕ) → IsOfNames e → file.1 ≤ length past → MayBytes base (e ∷ past) file x → MayBytes base past file x
older base past (Wrote path bytes) file x of le (inl new) = absurd (omega (arith, new, le))
older base past (Wrote path bytes) file x of le (inr old) = old
older base past (Added path bytes) file x of le may = absurd of
older base past (Moved from to) file x of le may = may
older base past (Removed path) file x of le may = may
older base past (SyncedFile path) file x of le may = may.0
older base past (SyncedFolder folder) file x of le may = may
older base past (FailedFile path) file x of le may = may
older base past (FailedFolder folder) file x of le may = may

-- what is at a path after an effect was there before it
pub stood : (base : Files) (past : List Effect) (e : Effect) (o : Option File) (found : Option (List ℕ)) → IsOfNames e → ((f : File) → o ≡ Some f → f.1 ≤ length past) → Stands base (e ∷ past) o found → Stands base past o found
stood base past e None found of old is = is
stood base past e (Some f) found of old (x, is, may) = (x, is, older base past e f x of (old f refl) may)

-- the same at a path that the effect does not touch
pub stood_at : (base : Files) (past : List Effect) (e : Effect) (m d : Names) (q : List ℕ) (found : Option (List ℕ)) → IsOfNames e → MayNames base past d → m q ≡ d q → Stands base (e ∷ past) (m q) found → Stands base past (d q) found
stood_at base past e m d q found of was same stands =
    stood base past e (d q) found of (λ f is. aged base past d was q f is) (subst (λ (o : Option File). Stands base (e ∷ past) o found) same stands)
