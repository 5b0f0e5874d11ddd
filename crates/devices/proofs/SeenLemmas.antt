-- The files that are seen, as files of a device: each is at one path, and has the bytes that a read shows.
use Rattle.std.proofs.Common.{◌≡◌, ◌≤◌, ◌⊎◌, inl, inr, ℕ, suc, ◌&&◌, Bool, true, false, cond, List, [], ◌∷◌, ◌++◌, Option, Some, None, option_map, length, nat_eq, refl, sym, ◌∙◌, ap, subst, arith}
use Rattle.std.specs.Cmp.{eq_by_cmp_equiv}
use Rattle.std.specs.Cmp.Lexicographic.{pointwise}
use Rattle.std.specs.FinMap.{get, insert, remove, get-insert, get-remove}
use Rattle.std.specs.Ordering.{eq_by_cmp}
use Rattle.std.proofs.lemmas.Bool.Decides.{Decides-eqb}
use Rattle.git_name.specs.Name.{name_cmp}
use Rattle.git_name.proofs.Names.{name_total}
use Rattle.devices.specs.Crash.{File, Names, set, moved, removed, added_to, names_after, is_file, bytes_after}
use Rattle.devices.specs.Device.{Files, Effect, Wrote, Added, Moved, Removed, SyncedFile, SyncedFolder, FailedFile, FailedFolder, bytes_or_none, files_after, put_there}
use Rattle.devices.proofs.CopyLemmas.{one_key}
use Rattle.devices.proofs.NameLemmas.{one_text, same_text}

-- ---- ages: none is made by an effect to come
pub set_other : (names : Names) (path q : List ℕ) (file : Option File) → pointwise nat_eq path q ≡ false → set names path file q ≡ names q
set_other names path q file differs = ap (λ (b : Bool). cond b file (names q)) differs

pub set_here : (names : Names) (path q : List ℕ) (file : Option File) → pointwise nat_eq path q ≡ true → set names path file q ≡ file
set_here names path q file same = ap (λ (b : Bool). cond b file (names q)) same

pub either_of : {A : Type 0} (b : Bool) (x y : Option A) (v : A) → cond b x y ≡ Some v → (x ≡ Some v) ⊎ (y ≡ Some v)
either_of true x y v e = inl e
either_of false x y v e = inr e

-- each file of these names is at most so old
abbrev pub AreAged : Names → ℕ → Type 0
AreAged m n = (q : List ℕ) (f : File) → m q ≡ Some f → f.1 ≤ n

later : (m : Names) (n : ℕ) → AreAged m n → AreAged m (suc n)
later m n old q f is = by (old q f is)
  where
    by : f.1 ≤ n → f.1 ≤ suc n
    by le = omega (arith, le)

the_file : (a f : File) (n : ℕ) → a.1 ≤ n → Some a ≡ Some f → f.1 ≤ n
the_file a f n le is = subst (λ (g : File). g.1 ≤ n) (let e : a ≡ f = cc in e) le

set_aged : (d : Names) (path : List ℕ) (file : Option File) (n : ℕ) → AreAged d n → ((f : File) → file ≡ Some f → f.1 ≤ n) → AreAged (set d path file) n
set_aged d path file n old its q f is = by (either_of (pointwise nat_eq path q) file (d q) f is)
  where
    by : ((file ≡ Some f) ⊎ (d q ≡ Some f)) → f.1 ≤ n
    by (inl e) = its f e
    by (inr e) = old q f e

none_aged : (n : ℕ) (f : File) → None ≡ Some f → f.1 ≤ n
none_aged n f e = absurd (cc)

new_aged : (path : List ℕ) (n : ℕ) (f : File) → Some (path, n) ≡ Some f → f.1 ≤ n
new_aged path n f e = the_file (path, n) f n (omega arith) e

moved_aged : (d : Names) (from to : List ℕ) (file : Option File) (n : ℕ) → AreAged d n → ((f : File) → file ≡ Some f → f.1 ≤ n) → AreAged (moved d from to file) n
moved_aged d from to None n old its q f is = old q f is
moved_aged d from to (Some file) n old its q f is = set_aged (set d from None) to (Some file) n (set_aged d from None n old (none_aged n)) its q f is

removed_aged : (d : Names) (path : List ℕ) (file : Option File) (n : ℕ) → AreAged d n → AreAged (removed d path file) n
removed_aged d path None n old q f is = old q f is
removed_aged d path (Some file) n old q f is = set_aged d path None n old (none_aged n) q f is

added_aged : (d : Names) (path : List ℕ) (file : Option File) (n : ℕ) → AreAged d n → AreAged (added_to d path n file) n
added_aged d path None n old q f is = set_aged d path (Some (path, n)) n old (new_aged path n) q f is
added_aged d path (Some file) n old q f is = old q f is

first_aged : (q : List ℕ) (f : File) (o : Option (List ℕ)) → option_map (λ (b : List ℕ). (q, 0)) o ≡ Some f → f.1 ≤ 0
first_aged q f (Some b) e = the_file (q, 0) f 0 (omega arith) e
first_aged q f None e = absurd (cc)

-- a file that is seen is at most as old as the past is long
pub seen_aged : (base : Files) (past : List Effect) (q : List ℕ) (f : File) → names_after base past q ≡ Some f → f.1 ≤ length past
seen_aged base [] q f is = first_aged q f (get base q) is
seen_aged base (Wrote path bytes ∷ past) q f is =
    set_aged (names_after base past) path (Some (path, suc (length past))) (suc (length past)) (later (names_after base past) (length past) (seen_aged base past)) (new_aged path (suc (length past))) q f is
seen_aged base (Added path bytes ∷ past) q f is =
    added_aged (names_after base past) path (names_after base past path) (suc (length past)) (later (names_after base past) (length past) (seen_aged base past)) q f is
seen_aged base (Moved from to ∷ past) q f is =
    moved_aged (names_after base past) from to (names_after base past from) (suc (length past)) (later (names_after base past) (length past) (seen_aged base past)) (later (names_after base past) (length past) (seen_aged base past) from) q f is
seen_aged base (Removed path ∷ past) q f is = removed_aged (names_after base past) path (names_after base past path) (suc (length past)) (later (names_after base past) (length past) (seen_aged base past)) q f is
seen_aged base (SyncedFile path ∷ past) q f is = later (names_after base past) (length past) (seen_aged base past) q f is
seen_aged base (SyncedFolder folder ∷ past) q f is = later (names_after base past) (length past) (seen_aged base past) q f is
seen_aged base (FailedFile path ∷ past) q f is = later (names_after base past) (length past) (seen_aged base past) q f is
seen_aged base (FailedFolder folder ∷ past) q f is = later (names_after base past) (length past) (seen_aged base past) q f is

-- ---- tests
pub not_true : (b : Bool) → (b ≡ true → ⊥) → b ≡ false
not_true true no_way = absurd (no_way refl)
not_true false no_way = refl

pub clash : {P : Type 0} (b : Bool) → b ≡ true → b ≡ false → P
clash true p q = absurd (cc)
clash false p q = absurd (cc)

both_ways : (a b : Bool) → (a ≡ true → b ≡ true) → (b ≡ true → a ≡ true) → a ≡ b
both_ways true b to from = sym (to refl)
both_ways false true to from = from refl
both_ways false false to from = refl

one_test : (path q : List ℕ) → eq_by_cmp name_cmp q path ≡ pointwise nat_eq path q
one_test path q =
    both_ways _ _ (λ is. ap (λ (p : List ℕ). pointwise nat_eq path p) (one_key q path is) ∙ same_text path)
    (λ is. ap (λ (p : List ℕ). eq_by_cmp name_cmp p path) (sym (one_text path q is)) ∙ (eq_by_cmp_equiv name_total).refl path)

-- ---- one path a file
IsAlone : Names → Type 0
IsAlone m = (p q : List ℕ) (f : File) → m p ≡ Some f → m q ≡ Some f → p ≡ q

one_file : (a b : File) → Some a ≡ Some b → a ≡ b
one_file a b is = cc

-- a path that is set has its file, and another one its own
data Is (path q : List ℕ) (file here : Option File) (f : File) : Type 0 where
  at_it : (same : path ≡ q) → (its : file ≡ Some f) → Is path q file here f
  off_it : (differs : pointwise nat_eq path q ≡ false) → (own : here ≡ Some f) → Is path q file here f

which : (m : Names) (path q : List ℕ) (file : Option File) (f : File) → set m path file q ≡ Some f → Is path q file (m q) f
which m path q file f is = by (pointwise nat_eq path q) refl
  where
    by : (b : Bool) → pointwise nat_eq path q ≡ b → Is path q file (m q) f
    by true same = at_it (one_text path q same) (sym (set_here m path q file same) ∙ is)
    by false differs = off_it differs (sym (set_other m path q file differs) ∙ is)

-- a file that no other path has is put at one
set_alone : (m : Names) (path : List ℕ) (file : Option File) → ((p q : List ℕ) (f : File) → pointwise nat_eq path p ≡ false → pointwise nat_eq path q ≡ false → m p ≡ Some f → m q ≡ Some f → p ≡ q)
    → ((q : List ℕ) (f : File) → pointwise nat_eq path q ≡ false → m q ≡ Some f → file ≡ Some f → ⊥) → (p q : List ℕ) (f : File) → set m path file p ≡ Some f → set m path file q ≡ Some f → p ≡ q
set_alone m path file alone new p q f is also = by (which m path p file f is) (which m path q file f also)
  where
    by : Is path p file (m p) f → Is path q file (m q) f → p ≡ q
    by (at_it same its) (at_it same2 its2) = sym same ∙ same2
    by (at_it same its) (off_it differs own) = absurd (new q f differs own its)
    by (off_it differs own) (at_it same its) = absurd (new p f differs own its)
    by (off_it differs own) (off_it differs2 own2) = alone p q f differs differs2 own own2

fresh : (base : Files) (past : List Effect) (path q : List ℕ) (f : File) → names_after base past q ≡ Some f → Some (path, suc (length past)) ≡ Some f → ⊥
fresh base past path q f own its =
    let le = seen_aged base past q f own in
    let new : suc (length past) ≡ f.1 = ap (λ (g : File). g.1) (one_file (path, suc (length past)) f its) in
    absurd (omega (arith, le, new))

first_path : (q : List ℕ) (f : File) (o : Option (List ℕ)) → option_map (λ (b : List ℕ). (q, 0)) o ≡ Some f → f.0 ≡ q
first_path q f (Some b) is = sym (ap (λ (g : File). g.0) (one_file (q, 0) f is))
first_path q f None is = absurd (cc)

moved_alone : (m : Names) (from to : List ℕ) (file : Option File) → m from ≡ file → ((p q : List ℕ) (f : File) → m p ≡ Some f → m q ≡ Some f → p ≡ q)
    → (p q : List ℕ) (f : File) → moved m from to file p ≡ Some f → moved m from to file q ≡ Some f → p ≡ q
moved_alone m from to None has alone p q f is also = alone p q f is also
moved_alone m from to (Some file) has alone p q f is also =
    set_alone (set m from None) to (Some file) (λ r s g r_off s_off r_is s_is. set_alone m from None (λ x y h _ _ a b. alone x y h a b) (λ y h _ _ none. absurd (cc)) r s g r_is s_is) (λ s g s_off s_is its. gone s g s_is its) p q f is also
  where
    gone : (s : List ℕ) (g : File) → set m from None s ≡ Some g → Some file ≡ Some g → ⊥
    gone s g s_is its = by (which m from s None g s_is)
      where
        by : Is from s None (m s) g → ⊥
        by (at_it same none) = absurd (cc)
        by (off_it differs own) = clash (pointwise nat_eq from s) (ap (pointwise nat_eq from) (alone s from g own (has ∙ its)) ∙ same_text from) differs

removed_alone : (m : Names) (path : List ℕ) (file : Option File) → ((p q : List ℕ) (f : File) → m p ≡ Some f → m q ≡ Some f → p ≡ q)
    → (p q : List ℕ) (f : File) → removed m path file p ≡ Some f → removed m path file q ≡ Some f → p ≡ q
removed_alone m path None alone p q f is also = alone p q f is also
removed_alone m path (Some file) alone p q f is also = set_alone m path None (λ x y h _ _ a b. alone x y h a b) (λ y h _ _ none. absurd (cc)) p q f is also

added_alone : (m : Names) (path : List ℕ) (count : ℕ) (file : Option File) → ((p q : List ℕ) (f : File) → m p ≡ Some f → m q ≡ Some f → p ≡ q) → ((q : List ℕ) (f : File) → m q ≡ Some f → Some (path, count) ≡ Some f → ⊥)
    → (p q : List ℕ) (f : File) → added_to m path count file p ≡ Some f → added_to m path count file q ≡ Some f → p ≡ q
added_alone m path count None alone new p q f is also = set_alone m path (Some (path, count)) (λ x y h _ _ a b. alone x y h a b) (λ s g _ own its. new s g own its) p q f is also
added_alone m path count (Some file) alone new p q f is also = alone p q f is also

-- a file that is seen is at one path
pub one_path : (base : Files) (past : List Effect) (p q : List ℕ) (f : File) → names_after base past p ≡ Some f → names_after base past q ≡ Some f → p ≡ q
one_path base [] p q f is also = sym (first_path p f (get base p) is) ∙ first_path q f (get base q) also
one_path base (Wrote path bytes ∷ past) p q f is also =
    set_alone (names_after base past) path (Some (path, suc (length past))) (λ x y h _ _ a b. one_path base past x y h a b) (λ s g _ own its. fresh base past path s g own its) p q f is also
one_path base (Added path bytes ∷ past) p q f is also =
    added_alone (names_after base past) path (suc (length past)) (names_after base past path) (λ x y h a b. one_path base past x y h a b) (λ s g own its. fresh base past path s g own its) p q f is also
one_path base (Moved from to ∷ past) p q f is also =
    moved_alone (names_after base past) from to (names_after base past from) refl (λ x y h a b. one_path base past x y h a b) p q f is also
one_path base (Removed path ∷ past) p q f is also = removed_alone (names_after base past) path (names_after base past path) (λ x y h a b. one_path base past x y h a b) p q f is also
one_path base (SyncedFile path ∷ past) p q f is also = one_path base past p q f is also
one_path base (SyncedFolder folder ∷ past) p q f is also = one_path base past p q f is also
one_path base (FailedFile path ∷ past) p q f is also = one_path base past p q f is also
one_path base (FailedFolder folder ∷ past) p q f is also = one_path base past p q f is also

-- ---- the bytes of a file that is seen
map_same : (o : Option File) (g h : File → List ℕ) → ((f : File) → o ≡ Some f → g f ≡ h f) → option_map g o ≡ option_map h o
map_same None g h same = refl
map_same (Some f) g h same = ap (λ (x : List ℕ). Some x) (same f refl)

same_number : (n : ℕ) → nat_eq n n ≡ true
same_number n = (Decides-eqb n n).1 refl

other_number : (a n : ℕ) → a ≤ n → nat_eq a (suc n) ≡ false
other_number a n le = not_true _ (λ same. (let is : a ≡ suc n = (Decides-eqb a (suc n)).0 same in absurd (omega (arith, le, is))))

inserted : (files : Files) (path q bytes : List ℕ) (b : Bool) → pointwise nat_eq path q ≡ b → get (insert files path bytes) q ≡ cond b (Some bytes) (get files q)
inserted files path q bytes b is = get-insert name_total files path bytes q ∙ ap (λ (t : Bool). cond t (Some bytes) (get files q)) (one_test path q ∙ is)

taken_out : (files : Files) (path q : List ℕ) (b : Bool) → pointwise nat_eq path q ≡ b → get (remove files path) q ≡ cond b None (get files q)
taken_out files path q b is = get-remove name_total files path q ∙ ap (λ (t : Bool). cond t None (get files q)) (one_test path q ∙ is)

module _ (base : Files) (past : List Effect) (seen : (q : List ℕ) → option_map (bytes_after base past) (names_after base past q) ≡ get (files_after base past) q) where
  N : Names
  N = names_after base past

  B : File → List ℕ
  B = bytes_after base past

  F : Files
  F = files_after base past

  wrote : (path bytes q : List ℕ) (b : Bool) → pointwise nat_eq path q ≡ b → option_map (bytes_after base (Wrote path bytes ∷ past)) (names_after base (Wrote path bytes ∷ past) q) ≡ get (files_after base (Wrote path bytes ∷ past)) q
  wrote path bytes q true is =
      ap (option_map (bytes_after base (Wrote path bytes ∷ past))) (set_here (names_after base past) path q (Some (path, suc (length past))) is)
      ∙ ap (λ (t : Bool). Some (cond t bytes (bytes_after base past (path, suc (length past))))) (same_number (suc (length past)))
      ∙ sym (inserted (files_after base past) path q bytes true is)
  wrote path bytes q false is =
      ap (option_map (bytes_after base (Wrote path bytes ∷ past))) (set_other (names_after base past) path q (Some (path, suc (length past))) is)
      ∙ map_same (names_after base past q) (bytes_after base (Wrote path bytes ∷ past)) (bytes_after base past) (λ f own. ap (λ (t : Bool). cond t bytes (bytes_after base past f)) (other_number f.1 (length past) (seen_aged base past q f own)))
      ∙ seen q ∙ sym (inserted (files_after base past) path q bytes false is)

  moved_to : (from to q : List ℕ) (o : Option File) (b c : Bool) → names_after base past from ≡ o → pointwise nat_eq to q ≡ b → pointwise nat_eq from q ≡ c
      → option_map (bytes_after base past) (moved (names_after base past) from to o q) ≡ get (put_there (remove (files_after base past) from) to (option_map (bytes_after base past) o)) q
  moved_to from to q None b true has is_to is_from =
      ap (option_map (bytes_after base past)) (ap (names_after base past) (sym (one_text from q is_from)) ∙ has) ∙ sym (taken_out (files_after base past) from q true is_from)
  moved_to from to q None b false has is_to is_from = seen q ∙ sym (taken_out (files_after base past) from q false is_from)
  moved_to from to q (Some f) true c has is_to is_from =
      ap (option_map (bytes_after base past)) (set_here (set (names_after base past) from None) to q (Some f) is_to) ∙ sym (inserted (remove (files_after base past) from) to q (bytes_after base past f) true is_to)
  moved_to from to q (Some f) false true has is_to is_from =
      ap (option_map (bytes_after base past)) (set_other (set (names_after base past) from None) to q (Some f) is_to ∙ set_here (names_after base past) from q None is_from)
      ∙ sym (inserted (remove (files_after base past) from) to q (bytes_after base past f) false is_to ∙ taken_out (files_after base past) from q true is_from)
  moved_to from to q (Some f) false false has is_to is_from =
      ap (option_map (bytes_after base past)) (set_other (set (names_after base past) from None) to q (Some f) is_to ∙ set_other (names_after base past) from q None is_from)
      ∙ seen q ∙ sym (inserted (remove (files_after base past) from) to q (bytes_after base past f) false is_to ∙ taken_out (files_after base past) from q false is_from)

  gone : (path q : List ℕ) (o : Option File) (b : Bool) → names_after base past path ≡ o → pointwise nat_eq path q ≡ b → option_map (bytes_after base past) (removed (names_after base past) path o q) ≡ get (remove (files_after base past) path) q
  gone path q None true has is = ap (option_map (bytes_after base past)) (ap (names_after base past) (sym (one_text path q is)) ∙ has) ∙ sym (taken_out (files_after base past) path q true is)
  gone path q None false has is = seen q ∙ sym (taken_out (files_after base past) path q false is)
  gone path q (Some f) true has is = ap (option_map (bytes_after base past)) (set_here (names_after base past) path q None is) ∙ sym (taken_out (files_after base past) path q true is)
  gone path q (Some f) false has is = ap (option_map (bytes_after base past)) (set_other (names_after base past) path q None is) ∙ seen q ∙ sym (taken_out (files_after base past) path q false is)

  -- the bytes of a file after an append to what is at a path
  abbrev with_bytes : Option File → List ℕ → File → List ℕ
  with_bytes o bytes f = cond (nat_eq f.1 (suc (length past))) bytes (cond (is_file o f) (bytes_after base past f ++ bytes) (bytes_after base past f))

  same_file : (f : File) → is_file (Some f) f ≡ true
  same_file f = ap (λ (b : Bool). b && nat_eq f.1 f.1) (same_text f.0) ∙ same_number f.1

  both_are : (a b : Bool) → (a && b) ≡ true → (a ≡ true) × (b ≡ true)
  both_are true b is = (refl, is)
  both_are false b is = absurd (cc)

  the_same : (f g : File) → is_file (Some f) g ≡ true → f ≡ g
  the_same (p, n) (q, m) is =
      let both = both_are _ _ is in
      let paths : p ≡ q = one_text p q both.0 in
      let numbers : n ≡ m = (Decides-eqb n m).0 both.1 in
      cc

  other_file : (path q : List ℕ) (f g : File) → names_after base past path ≡ Some f → names_after base past q ≡ Some g → pointwise nat_eq path q ≡ false → is_file (Some f) g ≡ false
  other_file path q f g at_path at_q differs =
      not_true _ (λ same. clash (pointwise nat_eq path q) (ap (pointwise nat_eq path) (sym (one_path base past path q g (at_path ∙ ap (λ (h : File). Some h) (the_same f g same)) at_q)) ∙ same_text path) differs)

  added : (path bytes q : List ℕ) (o : Option File) (b : Bool) → names_after base past path ≡ o → pointwise nat_eq path q ≡ b
      → option_map (with_bytes o bytes) (added_to (names_after base past) path (suc (length past)) o q) ≡ get (insert (files_after base past) path (bytes_or_none (option_map (bytes_after base past) o) ++ bytes)) q
  added path bytes q None true has is =
      ap (option_map (with_bytes None bytes)) (set_here (names_after base past) path q (Some (path, suc (length past))) is)
      ∙ ap (λ (t : Bool). Some (cond t bytes (bytes_after base past (path, suc (length past))))) (same_number (suc (length past)))
      ∙ sym (inserted (files_after base past) path q bytes true is)
  added path bytes q None false has is =
      ap (option_map (with_bytes None bytes)) (set_other (names_after base past) path q (Some (path, suc (length past))) is)
      ∙ map_same (names_after base past q) (with_bytes None bytes) (bytes_after base past) (λ f own. ap (λ (t : Bool). cond t bytes (bytes_after base past f)) (other_number f.1 (length past) (seen_aged base past q f own)))
      ∙ seen q ∙ sym (inserted (files_after base past) path q bytes false is)
  added path bytes q (Some g) true has is =
      ap (option_map (with_bytes (Some g) bytes)) (ap (names_after base past) (sym (one_text path q is)) ∙ has)
      ∙ ap (λ (t : Bool). Some (cond t bytes (cond (is_file (Some g) g) (bytes_after base past g ++ bytes) (bytes_after base past g)))) (other_number g.1 (length past) (seen_aged base past path g has))
      ∙ ap (λ (t : Bool). Some (cond t (bytes_after base past g ++ bytes) (bytes_after base past g))) (same_file g)
      ∙ sym (inserted (files_after base past) path q (bytes_after base past g ++ bytes) true is)
  added path bytes q (Some g) false has is =
      map_same (names_after base past q) (with_bytes (Some g) bytes) (bytes_after base past) (λ f own.
      ap (λ (t : Bool). cond t bytes (cond (is_file (Some g) f) (bytes_after base past f ++ bytes) (bytes_after base past f))) (other_number f.1 (length past) (seen_aged base past q f own))
      ∙ ap (λ (t : Bool). cond t (bytes_after base past f ++ bytes) (bytes_after base past f)) (other_file path q g f has own is))
      ∙ seen q ∙ sym (inserted (files_after base past) path q (bytes_after base past g ++ bytes) false is)

-- a file that is seen has the bytes that a read shows
pub seen_bytes : (base : Files) (past : List Effect) (q : List ℕ) → option_map (bytes_after base past) (names_after base past q) ≡ get (files_after base past) q
seen_bytes base [] q = first (get base q) refl
  where
    first : (o : Option (List ℕ)) → get base q ≡ o → option_map (λ (f : File). bytes_or_none (get base f.0)) (option_map (λ (b : List ℕ). (q, 0)) o) ≡ o
    first (Some b) is = ap (λ (x : Option (List ℕ)). Some (bytes_or_none x)) is
    first None is = refl
seen_bytes base (Wrote path bytes ∷ past) q = wrote base past (seen_bytes base past) path bytes q (pointwise nat_eq path q) refl
seen_bytes base (Added path bytes ∷ past) q =
    added base past (seen_bytes base past) path bytes q (names_after base past path) (pointwise nat_eq path q) refl refl
    ∙ ap (λ (o : Option (List ℕ)). get (insert (files_after base past) path (bytes_or_none o ++ bytes)) q) (seen_bytes base past path)
seen_bytes base (Moved from to ∷ past) q =
    moved_to base past (seen_bytes base past) from to q (names_after base past from) (pointwise nat_eq to q) (pointwise nat_eq from q) refl refl refl
    ∙ ap (λ (o : Option (List ℕ)). get (put_there (remove (files_after base past) from) to o) q) (seen_bytes base past from)
seen_bytes base (Removed path ∷ past) q = gone base past (seen_bytes base past) path q (names_after base past path) (pointwise nat_eq path q) refl refl
seen_bytes base (SyncedFile path ∷ past) q = seen_bytes base past q
seen_bytes base (SyncedFolder folder ∷ past) q = seen_bytes base past q
seen_bytes base (FailedFile path ∷ past) q = seen_bytes base past q
seen_bytes base (FailedFolder folder ∷ past) q = seen_bytes base past q
