-- Numbers of a page and of a set, as their parts change.
use Rattle.std.proofs.Common.{◌≡◌, ◌≢◌, ℕ, zero, suc, ◌*◌, ◌/◌, ◌%◌, ◌<◌, ◌≤◌, ◌||◌, min, Bool, true, false, not, ◌&&◌, cond, nat_eq, nat_lt, List, [], Option, None, Some, is_some, length, get_or, set, replicate, refl, sym, ap, ◌∙◌, arith}
use Rattle.std.proofs.lemmas.Bool.{eqb-false, eqb-true, ltb-false, ltb-true}
use Rattle.std.proofs.lemmas.List.{get_or_past, get_or-set_other, get_or-set_same}
use Rattle.std.proofs.lemmas.Nat.Bits.{bit_at-zero}
use Rattle.number_links.specs.Numbers.{HasRoomOf, Pages, has, has_bit, has_room, is_in, is_there}
use Rattle.number_links.proofs.PartLemmas.{apart_tests, part_set}

pub zero_has : (q : ℕ) → has_bit 0 q ≡ false
zero_has q = ap (λ n. nat_eq n 1) (bit_at-zero q)

same_test : (r s q n : ℕ) → (r ≡ s → q ≡ n) → (q ≡ n → r ≡ s) → nat_eq r s ≡ nat_eq q n
same_test r s q n up down = by (nat_eq r s) (nat_eq q n) refl refl
  where
    by : (a b : Bool) → nat_eq r s ≡ a → nat_eq q n ≡ b → a ≡ b
    by true true x y = refl
    by false false x y = refl
    by true false x y = absurd (apart_tests y (up (eqb-true _ _ x)))
    by false true x y = absurd (apart_tests x (down (eqb-true _ _ y)))

differ_test : (q n : ℕ) → q ≢ n → nat_eq q n ≡ false
differ_test q n apart = by (nat_eq q n) refl
  where
    by : (b : Bool) → nat_eq q n ≡ b → b ≡ false
    by true x = absurd (apart (eqb-true _ _ x))
    by false x = refl

-- one word of a page is written anew
pub word_set : (words : List ℕ) (n w : ℕ) (f : Bool → Bool → Bool) → n / 64 < length words → ((b : Bool) → f false b ≡ b)
    → ((k : ℕ) → has_bit w k ≡ f (nat_eq k (n % 64)) (has_bit (get_or words (n / 64) 0) k)) → (q : ℕ) → is_in (set words (n / 64) w) q ≡ f (nat_eq q n) (is_in words q)
unfolding is_in
word_set words n w f inside other told q =
    part_set 0 has_bit (q / 64) (n / 64) words w f (q % 64) (n % 64) (nat_eq q n) inside other
    (λ one. same_test (q % 64) (n % 64) q n (λ e. omega (arith, one, e)) (λ e. ap (λ m. m % 64) e))
    (λ apart. differ_test q n (λ e. apart (ap (λ m. m / 64) e))) told

-- one page of a set is written anew
pub page_set : (pages : Pages) (n : ℕ) (page : Option (List ℕ)) (f : Bool → Bool → Bool) → n / 4096 < length pages → ((b : Bool) → f false b ≡ b)
    → ((k : ℕ) → is_there page k ≡ f (nat_eq k (n % 4096)) (is_there (get_or pages (n / 4096) None) k)) → (q : ℕ) → has (set pages (n / 4096) page) q ≡ f (nat_eq q n) (has pages q)
unfolding has
page_set pages n page f inside other told q =
    part_set None is_there (q / 4096) (n / 4096) pages page f (q % 4096) (n % 4096) (nat_eq q n) inside other
    (λ one. same_test (q % 4096) (n % 4096) q n (λ e. omega (arith, one, e)) (λ e. ap (λ m. m % 4096) e))
    (λ apart. differ_test q n (λ e. apart (ap (λ m. m / 4096) e))) told

-- where nothing is
pub none_has : (q : ℕ) → has [] q ≡ false
unfolding has
none_has q = refl

pub past_has : (pages : Pages) (q : ℕ) → length pages ≤ q / 4096 → has pages q ≡ false
unfolding has
past_has pages q past = ap (λ p. is_there p (q % 4096)) (get_or_past pages (q / 4096) None past)

zeros : (m i : ℕ) → ◌≡◌ {A = ℕ} (get_or (replicate m 0) i 0) 0
zeros zero i = refl
zeros (suc m) zero = refl
zeros (suc m) (suc i) = zeros m i

pub zeros_lack : (m q : ℕ) → is_in (replicate m 0) q ≡ false
unfolding is_in
zeros_lack m q = ap (λ w. has_bit w (q % 64)) (zeros m (q / 64)) ∙ zero_has (q % 64)

-- a number by its word, and by its page
pub in_word : (words : List ℕ) (q at k w : ℕ) → q / 64 ≡ at → q % 64 ≡ k → w ≡ get_or words at 0 → is_in words q ≡ has_bit w k
unfolding is_in
in_word words q at k w here bit is = ap (λ i. has_bit (get_or words i 0) (q % 64)) here ∙ ap (has_bit (get_or words at 0)) bit ∙ ap (λ v. has_bit v k) (sym is)

pub in_page : (pages : Pages) (q at k : ℕ) (page : Option (List ℕ)) → q / 4096 ≡ at → q % 4096 ≡ k → page ≡ get_or pages at None → has pages q ≡ is_there page k
unfolding has
in_page pages q at k page here bit is = ap (λ i. is_there (get_or pages i None) (q % 4096)) here ∙ ap (is_there (get_or pages at None)) bit ∙ ap (λ p. is_there p k) (sym is)

pub room_in_page : (pages : Pages) (q at : ℕ) (page : Option (List ℕ)) → q / 4096 ≡ at → page ≡ get_or pages at None → has_room pages q ≡ is_some page
unfolding has_room
room_in_page pages q at page here is = ap (λ i. is_some (get_or pages i None)) here ∙ ap is_some (sym is)

pub same_has : (old new : Pages) → ((i : ℕ) → get_or new i None ≡ get_or old i None) → (q : ℕ) → has new q ≡ has old q
unfolding has
same_has old new same q = ap (λ p. is_there p (q % 4096)) (same (q / 4096))

pub same_room : (old new : Pages) → ((i : ℕ) → is_some (get_or new i None) ≡ is_some (get_or old i None)) → (q : ℕ) → has_room new q ≡ has_room old q
unfolding has_room
same_room old new same q = same (q / 4096)

-- a number with room has a page
pub room_there : (pages : Pages) (n : ℕ) → has_room pages n ≡ true → (n / 4096 < length pages) × (is_some (get_or pages (n / 4096) None) ≡ true)
unfolding has_room
room_there pages n room = (by (nat_lt (n / 4096) (length pages)) refl, room)
  where
    by : (b : Bool) → nat_lt (n / 4096) (length pages) ≡ b → n / 4096 < length pages
    by true is = ltb-true _ _ is
    by false is = (let none : get_or pages (n / 4096) None ≡ None = get_or_past pages (n / 4096) None (ltb-false _ _ is) in let bad : ⊥ = cc (sym (ap is_some none) ∙ room) in absurd bad)

-- the room of a page that is written anew
pub room_set : (pages : Pages) (j : ℕ) (page : Option (List ℕ)) (b : Bool) → j < length pages → is_some page ≡ b → (i : ℕ) → is_some (get_or (set pages j page) i None) ≡ cond (nat_eq i j) b (is_some (get_or pages i None))
room_set pages j page b inside is i = by (nat_eq i j) refl
  where
    by : (t : Bool) → nat_eq i j ≡ t → is_some (get_or (set pages j page) i None) ≡ cond t b (is_some (get_or pages i None))
    by true e = ap (λ l. is_some (get_or (set pages j page) l None)) (eqb-true i j e) ∙ ap is_some (get_or-set_same pages j page None inside) ∙ is
    by false e = ap is_some (get_or-set_other pages j i page None (eqb-false i j e))

-- where it had one before, nothing changes
pub room_same : (pages : Pages) (j : ℕ) (page : Option (List ℕ)) → j < length pages → is_some page ≡ is_some (get_or pages j None) → (i : ℕ) → is_some (get_or (set pages j page) i None) ≡ is_some (get_or pages i None)
room_same pages j page inside is i = room_set pages j page (is_some (get_or pages j None)) inside is i ∙ by (nat_eq i j) refl
  where
    by : (t : Bool) → nat_eq i j ≡ t → cond t (is_some (get_or pages j None)) (is_some (get_or pages i None)) ≡ is_some (get_or pages i None)
    by true e = ap (λ l. is_some (get_or pages l None)) (sym (eqb-true i j e))
    by false e = refl

-- a number that is not in the set is not there to be taken out
pub none_out : (pages : Pages) (n q : ℕ) → has pages n ≡ false → has pages q ≡ not (nat_eq q n) && has pages q
none_out pages n q out = by (nat_eq q n) refl
  where
    by : (b : Bool) → nat_eq q n ≡ b → has pages q ≡ not b && has pages q
    by true is = ap (has pages) (eqb-true q n is) ∙ out
    by false is = refl

-- a page comes, and no number does
pub filled_has : (pages : Pages) (j : ℕ) (page : Option (List ℕ)) → j < length pages → ((k : ℕ) → is_there page k ≡ is_there (get_or pages j None) k) → (q : ℕ) → has (set pages j page) q ≡ has pages q
unfolding has
filled_has pages j page inside same q = by (nat_eq (q / 4096) j) refl
  where
    by : (t : Bool) → nat_eq (q / 4096) j ≡ t → is_there (get_or (set pages j page) (q / 4096) None) (q % 4096) ≡ is_there (get_or pages (q / 4096) None) (q % 4096)
    by true e =
        (let one : q / 4096 ≡ j = eqb-true _ j e in
        ap (λ l. is_there (get_or (set pages j page) l None) (q % 4096)) one ∙ ap (λ p. is_there p (q % 4096)) (get_or-set_same pages j page None inside) ∙ same (q % 4096)
        ∙ ap (λ l. is_there (get_or pages l None) (q % 4096)) (sym one))
    by false e = ap (λ p. is_there p (q % 4096)) (get_or-set_other pages j (q / 4096) page None (eqb-false _ j e))

pub filled_there : (pages : Pages) (n : ℕ) (page : Option (List ℕ)) → n / 4096 < length pages → is_some page ≡ true → has_room (set pages (n / 4096) page) n ≡ true
unfolding has_room
filled_there pages n page inside some = ap is_some (get_or-set_same pages (n / 4096) page None inside) ∙ some

pub filled_room : (pages : Pages) (j : ℕ) (page : Option (List ℕ)) → j < length pages → (is_some (get_or pages j None) ≡ true → is_some page ≡ true) → (q : ℕ) → has_room pages q ≡ true → has_room (set pages j page) q ≡ true
unfolding has_room
filled_room pages j page inside stays q room = by (nat_eq (q / 4096) j) refl
  where
    by : (t : Bool) → nat_eq (q / 4096) j ≡ t → is_some (get_or (set pages j page) (q / 4096) None) ≡ true
    by true e =
        (let one : q / 4096 ≡ j = eqb-true _ j e in
        ap (λ l. is_some (get_or (set pages j page) l None)) one ∙ ap is_some (get_or-set_same pages j page None inside) ∙ stays (ap (λ l. is_some (get_or pages l None)) (sym one) ∙ room))
    by false e = ap is_some (get_or-set_other pages j (q / 4096) page None (eqb-false _ j e)) ∙ room

-- a page of one set has one of the other
pub room_at : (one other : Pages) → HasRoomOf one other → (i : ℕ) → is_some (get_or one i None) ≡ true → is_some (get_or other i None) ≡ true
unfolding has_room
room_at one other room i some =
    let place : i * 4096 / 4096 ≡ i = omega arith in
    ap (λ j. is_some (get_or other j None)) (sym place) ∙ room (i * 4096) (ap (λ j. is_some (get_or one j None)) place ∙ some)

-- past the pages of either there is nothing to put in or to take out
pub none_united : (old other : Pages) (i k : ℕ) → (is_some (get_or other i None) ≡ true → is_some (get_or old i None) ≡ true) → min (length old) (length other) ≤ i
    → is_there (get_or old i None) k || is_there (get_or other i None) k ≡ is_there (get_or old i None) k
none_united old other i k room past = by (get_or other i None) refl
  where
    with_none : (b : Bool) → b || false ≡ b
    with_none true = refl
    with_none false = refl

    by : (o : Option (List ℕ)) → get_or other i None ≡ o → is_there (get_or old i None) k || is_there o k ≡ is_there (get_or old i None) k
    by None is = with_none (is_there (get_or old i None) k)
    by (Some page) is = absurd (at (nat_lt i (length other)) refl)
      where
        at : (b : Bool) → nat_lt i (length other) ≡ b → ⊥
        at false e = (let none : get_or other i None ≡ None = get_or_past other i None (ltb-false _ _ e) in cc (sym none ∙ is))
        at true e =
            (let short : length old ≤ i = (let inside = ltb-true i (length other) e in omega (arith, inside, past)) in
            let some : is_some (get_or old i None) ≡ true = room (ap is_some is) in
            let none : get_or old i None ≡ None = get_or_past old i None short in
            cc (sym (ap is_some none) ∙ some))

pub none_left : (old other : Pages) (i k : ℕ) → min (length old) (length other) ≤ i → not (is_there (get_or other i None) k) && is_there (get_or old i None) k ≡ is_there (get_or old i None) k
none_left old other i k past = at (nat_lt i (length other)) refl
  where
    nothing : (b : Bool) → not b && false ≡ false
    nothing true = refl
    nothing false = refl

    at : (b : Bool) → nat_lt i (length other) ≡ b → not (is_there (get_or other i None) k) && is_there (get_or old i None) k ≡ is_there (get_or old i None) k
    at false e = ap (λ o. not (is_there o k) && is_there (get_or old i None) k) (get_or_past other i None (ltb-false _ _ e))
    at true e =
        (let none : get_or old i None ≡ None = (let inside = ltb-true i (length other) e in get_or_past old i None (omega (arith, inside, past))) in
        ap (λ o. not (is_there (get_or other i None) k) && is_there o k) none ∙ nothing (is_there (get_or other i None) k) ∙ sym (ap (λ o. is_there o k) none))

pub none_room : (q : ℕ) → has_room [] q ≡ false
unfolding has_room
none_room q = refl

-- a page comes where another set has one
pub least_room : (pages other : Pages) (n : ℕ) (page : Option (List ℕ)) → n / 4096 < length pages → HasRoomOf pages other → has_room other n ≡ true → HasRoomOf (set pages (n / 4096) page) other
unfolding has_room
least_room pages other n page inside within there q room = by (nat_eq (q / 4096) (n / 4096)) refl
  where
    by : (t : Bool) → nat_eq (q / 4096) (n / 4096) ≡ t → is_some (get_or other (q / 4096) None) ≡ true
    by true e = ap (λ i. is_some (get_or other i None)) (eqb-true _ _ e) ∙ there
    by false e = within q (sym (ap is_some (get_or-set_other pages (n / 4096) (q / 4096) page None (eqb-false _ _ e))) ∙ room)

-- a number that is in a set has room there
pub has_its_room : (pages : Pages) (q : ℕ) → has pages q ≡ true → has_room pages q ≡ true
unfolding has has_room
has_its_room pages q there = by (get_or pages (q / 4096) None) there
  where
    by : (o : Option (List ℕ)) → is_there o (q % 4096) ≡ true → is_some o ≡ true
    by None is = absurd (let wrong : ⊥ = cc in wrong)
    by (Some page) is = refl
