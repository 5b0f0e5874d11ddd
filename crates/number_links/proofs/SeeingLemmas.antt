-- Numbers that are seen to one by one, and list by list.
use Rattle.std.proofs.Common.{◌≡◌, ℕ, zero, suc, ◌+◌, ◌<◌, ◌≤◌, Bool, true, false, not, ◌&&◌, ◌||◌, nat_eq, List, [], ◌∷◌, ◌++◌, refl, sym, ap, subst, ◌∙◌, arith, inl, inr, ◌⊎◌, length, length-append}
use Rattle.std.specs.List.{Contains, slice_index_or}
use Rattle.std.proofs.lemmas.List.Elements.{Contains-append_left, Contains-append_right, Contains-append_cases}
use Rattle.number_links.specs.Seeing.{Sees, unseen}
use Rattle.number_links.proofs.CountLemmas.{count_less, count_no_more}

pub none_there : (n : ℕ) → Contains {X = ℕ} [] n → ⊥
none_there n among = omega (arith, among.1)

pub sole_there : (first n : ℕ) → Contains (first ∷ []) n → first ≡ n
sole_there first n among = by among.0 among.1 among.2
  where
    by : (k : ℕ) → k < length (first ∷ []) → slice_index_or (first ∷ []) k n ≡ n → first ≡ n
    by zero inside is = is
    by (suc k) inside is = absurd (omega arith)

pub sole : (n : ℕ) → Contains (n ∷ []) n
sole n = (0, omega arith, refl)

-- no numbers
pub sees_none : (bound : ℕ) (allowed : ℕ → Bool) (seen : ℕ → Bool) (waits : List ℕ) → Sees bound allowed [] seen waits seen waits
sees_none bound allowed seen waits = record {
  kept = λ n is. is;
  stays = λ n is. is;
  all = λ n among there. absurd (none_there n among);
  only = λ n is. inl is;
  new = λ n is. inl is;
  noted = λ n is. inl is;
  less = omega arith;
}

-- some numbers, and then others
pub sees_both : (bound : ℕ) (allowed : ℕ → Bool) (xs ys : List ℕ) (seen : ℕ → Bool) (waits : List ℕ) (mid_seen : ℕ → Bool) (mid_waits : List ℕ) (now_seen : ℕ → Bool) (now_waits : List ℕ)
    → Sees bound allowed xs seen waits mid_seen mid_waits → Sees bound allowed ys mid_seen mid_waits now_seen now_waits → Sees bound allowed (xs ++ ys) seen waits now_seen now_waits
sees_both bound allowed xs ys seen waits mid_seen mid_waits now_seen now_waits first then = record {
  kept = λ n is. then.kept n (first.kept n is);
  stays = λ n is. then.stays n (first.stays n is);
  all = λ n among there. elim (Contains-append_cases xs ys n among) [
    | inl front ↦ then.kept n (first.all n front there)
    | inr behind ↦ then.all n behind there
  ];
  only = λ n is. elim (then.only n is) [
    | inl before ↦ elim (first.only n before) [
      | inl long ↦ inl long
      | inr found ↦ inr (Contains-append_left xs ys n found.0, found.1)
    ]
    | inr found ↦ inr (Contains-append_right xs ys n found.0, found.1)
  ];
  new = λ n is. elim (then.new n is) [
    | inl before ↦ elim (first.new n before) [
      | inl long ↦ inl long
      | inr waiting ↦ inr (then.stays n waiting)
    ]
    | inr waiting ↦ inr waiting
  ];
  noted = λ n is. elim (then.noted n is) [
    | inl before ↦ elim (first.noted n before) [
      | inl long ↦ inl long
      | inr seen_now ↦ inr (then.kept n seen_now)
    ]
    | inr seen_now ↦ inr seen_now
  ];
  less = (let a = first.less in let b = then.less in omega arith);
}

-- a number that is not allowed
pub sees_absent : (bound : ℕ) (allowed : ℕ → Bool) (first : ℕ) (seen : ℕ → Bool) (waits : List ℕ) → allowed first ≡ false → Sees bound allowed (first ∷ []) seen waits seen waits
sees_absent bound allowed first seen waits absent = record {
  kept = λ n is. is;
  stays = λ n is. is;
  all = λ n among there. (let same = sole_there first n among in let no : true ≡ false = sym there ∙ ap allowed (sym same) ∙ absent in absurd (cc));
  only = λ n is. inl is;
  new = λ n is. inl is;
  noted = λ n is. inl is;
  less = omega arith;
}

-- a number that was seen before
pub sees_known : (bound : ℕ) (allowed : ℕ → Bool) (first : ℕ) (seen : ℕ → Bool) (waits : List ℕ) → seen first ≡ true → Sees bound allowed (first ∷ []) seen waits seen waits
sees_known bound allowed first seen waits known = record {
  kept = λ n is. is;
  stays = λ n is. is;
  all = λ n among there. subst (λ m. seen m ≡ true) (sole_there first n among) known;
  only = λ n is. inl is;
  new = λ n is. inl is;
  noted = λ n is. inl is;
  less = omega arith;
}

-- what is seen now is the new number, or was seen before
pub either_seen : (first n : ℕ) (old now : Bool) → now ≡ nat_eq n first || old → now ≡ true → (first ≡ n) ⊎ (old ≡ true)
either_seen first n old now is seen = by (nat_eq n first) refl
  where
    by : (b : Bool) → nat_eq n first ≡ b → (first ≡ n) ⊎ (old ≡ true)
    by true same = inl (search arith)
    by false apart = inr (sym (ap (λ b. b || old) apart) ∙ sym is ∙ seen)

pub or_true : (a b : Bool) → b ≡ true → a || b ≡ true
or_true true b is = refl
or_true false b is = is

pub same_or : (n : ℕ) (b : Bool) → nat_eq n n || b ≡ true
same_or n b = (let same : nat_eq n n ≡ true = search arith in ap (λ a. a || b) same)

both_true : (a b : Bool) → a ≡ true → b ≡ false → a && not b ≡ true
both_true a b x y = ap (λ p. p && not b) x ∙ ap not y

first_out : (a b : Bool) → b ≡ true → a && not b ≡ false
first_out true b is = ap not is
first_out false b is = refl

still_out : (a old now : Bool) → (old ≡ true → now ≡ true) → a && not now ≡ true → a && not old ≡ true
still_out true true now kept is = (let no : ⊥ = cc (kept refl) in absurd no)
still_out true false now kept is = refl
still_out false old now kept is = (let no : ⊥ = cc in absurd no)

-- more is seen: no more is unseen
pub unseen_no_more : (bound : ℕ) (allowed seen now_seen : ℕ → Bool) → ((n : ℕ) → seen n ≡ true → now_seen n ≡ true) → unseen bound allowed now_seen ≤ unseen bound allowed seen
unseen_no_more bound allowed seen now_seen kept = count_no_more bound (λ n. allowed n && not (seen n)) (λ n. allowed n && not (now_seen n)) (λ n. still_out (allowed n) (seen n) (now_seen n) (kept n))

-- a number that is new, and allowed
pub sees_new : (bound : ℕ) (allowed : ℕ → Bool) (first : ℕ) (seen : ℕ → Bool) (waits : List ℕ) (now_seen : ℕ → Bool) (now_waits : List ℕ) → first < bound → allowed first ≡ true → seen first ≡ false
    → ((n : ℕ) → now_seen n ≡ nat_eq n first || seen n) → now_waits ≡ waits ++ first ∷ [] → Sees bound allowed (first ∷ []) seen waits now_seen now_waits
sees_new bound allowed first seen waits now_seen now_waits inside there new inserts pushed = record {
  kept = kept;
  stays = λ n is. subst (λ w. Contains w n) (sym pushed) (Contains-append_left waits (first ∷ []) n is);
  all = λ n among is. subst (λ m. now_seen m ≡ true) (sole_there first n among) seen_now;
  only = λ n is. elim (either_seen first n (seen n) (now_seen n) (inserts n) is) [
    | inl same ↦ inr (subst (λ m. Contains (first ∷ []) m) same (sole first), subst (λ m. allowed m ≡ true) same there)
    | inr before ↦ inl before
  ];
  new = λ n is. elim (either_seen first n (seen n) (now_seen n) (inserts n) is) [
    | inl same ↦ inr (subst (λ m. Contains now_waits m) same (subst (λ w. Contains w first) (sym pushed) (Contains-append_right waits (first ∷ []) first (sole first))))
    | inr before ↦ inl before
  ];
  noted = λ n is. elim (Contains-append_cases waits (first ∷ []) n (subst (λ w. Contains w n) pushed is)) [
    | inl before ↦ inl before
    | inr last ↦ inr (subst (λ m. now_seen m ≡ true) (sole_there first n last) seen_now)
  ];
  less =
      (let fewer = count_less bound (λ n. allowed n && not (seen n)) (λ n. allowed n && not (now_seen n)) (λ n. still_out (allowed n) (seen n) (now_seen n) (kept n)) first inside (both_true (allowed first) (seen first) there new) (first_out (allowed first) (now_seen first) seen_now) in
      let longer : length now_waits ≡ length waits + 1 = ap length pushed ∙ length-append waits (first ∷ []) in
      omega arith);
}
  where
    kept : (n : ℕ) → seen n ≡ true → now_seen n ≡ true
    kept n is = inserts n ∙ or_true (nat_eq n first) (seen n) is

    seen_now : now_seen first ≡ true
    seen_now = inserts first ∙ same_or first (seen first)
