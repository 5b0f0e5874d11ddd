-- Names that are seen to one by one, and list by list.
use Rattle.std.proofs.Common.{◌≡◌, ℕ, zero, suc, ◌+◌, ◌<◌, ◌≤◌, Bool, true, false, not, cond, List, [], ◌∷◌, ◌++◌, refl, sym, ap, subst, ◌∙◌, arith, inl, inr, ◌⊎◌, length, length-append}
use Rattle.std.specs.List.{Contains, slice_index_or}
use Rattle.std.specs.FinMap.{FinMap, contains_key, keys}
use Rattle.std.specs.Ordering.{is_eq}
use Rattle.std.proofs.lemmas.List.Elements.{Contains-append_left, Contains-append_right, Contains-append_cases}
use Rattle.git_name.specs.Name.{name_cmp}
use Rattle.git_name.specs.Same.{same_name}
use Rattle.git_name.proofs.HashMaps.{one_test}
use Rattle.fork_reach.specs.Seeing.{Sees, unseen}
use Rattle.fork_reach.proofs.KeptObjects.{tied_names}
use Rattle.fork_reach.proofs.NameLemmas.{Contains-keys}
use Rattle.fork_reach.proofs.UnseenLemmas.{left_out_less}

abbrev Names : Type 0
Names = List (List ℕ)

pub none_there : (name : List ℕ) → Contains {X = List ℕ} [] name → ⊥
none_there name among = omega (arith, among.1)

pub sole_there : (first name : List ℕ) → Contains (first ∷ []) name → first ≡ name
sole_there first name among = by among.0 among.1 among.2
  where
    by : (k : ℕ) → k < length (first ∷ []) → slice_index_or (first ∷ []) k name ≡ name → first ≡ name
    by zero inside is = is
    by (suc k) inside is = absurd (omega arith)

pub sole : (name : List ℕ) → Contains (name ∷ []) name
sole name = (0, omega arith, refl)

-- no names
pub sees_none : {X : Type 0} (objects : FinMap name_cmp X) (ends : List ℕ → Bool) (seen : List ℕ → Bool) (waits : Names) → Sees objects ends [] seen waits seen waits
sees_none objects ends seen waits = record {
  kept = λ name is. is;
  stays = λ name is. is;
  all = λ name among there. absurd (none_there name among);
  only = λ name is. inl is;
  new = λ name is. inl is;
  noted = λ name is. inl is;
  less = omega arith;
}

-- some names, and then others
pub sees_both : {X : Type 0} (objects : FinMap name_cmp X) (ends : List ℕ → Bool) (xs ys : Names) (seen : List ℕ → Bool) (waits : Names) (mid_seen : List ℕ → Bool) (mid_waits : Names) (now_seen : List ℕ → Bool) (now_waits : Names)
    → Sees objects ends xs seen waits mid_seen mid_waits → Sees objects ends ys mid_seen mid_waits now_seen now_waits → Sees objects ends (xs ++ ys) seen waits now_seen now_waits
sees_both objects ends xs ys seen waits mid_seen mid_waits now_seen now_waits first then = record {
  kept = λ name is. then.kept name (first.kept name is);
  stays = λ name is. then.stays name (first.stays name is);
  all = λ name among there. elim (Contains-append_cases xs ys name among) [
    | inl front ↦ then.kept name (first.all name front there)
    | inr behind ↦ then.all name behind there
  ];
  only = λ name is. elim (then.only name is) [
    | inl before ↦ elim (first.only name before) [
      | inl long ↦ inl long
      | inr found ↦ inr (Contains-append_left xs ys name found.0, found.1)
    ]
    | inr found ↦ inr (Contains-append_right xs ys name found.0, found.1)
  ];
  new = λ name is. elim (then.new name is) [
    | inl before ↦ elim (first.new name before) [
      | inl long ↦ inl long
      | inr (inl waiting) ↦ inr (inl (then.stays name waiting))
      | inr (inr ended) ↦ inr (inr ended)
    ]
    | inr waiting ↦ inr waiting
  ];
  noted = λ name is. elim (then.noted name is) [
    | inl before ↦ elim (first.noted name before) [
      | inl long ↦ inl long
      | inr seen_now ↦ inr (then.kept name seen_now)
    ]
    | inr seen_now ↦ inr seen_now
  ];
  less = (let a = first.less in let b = then.less in omega arith);
}

-- a name whose object is not there
pub sees_absent : {X : Type 0} (objects : FinMap name_cmp X) (ends : List ℕ → Bool) (first : List ℕ) (seen : List ℕ → Bool) (waits : Names) → contains_key objects first ≡ false → Sees objects ends (first ∷ []) seen waits seen waits
sees_absent objects ends first seen waits absent = record {
  kept = λ name is. is;
  stays = λ name is. is;
  all = λ name among there. (let same = sole_there first name among in let no : ⊥ = cc (ap (contains_key objects) same) in absurd no);
  only = λ name is. inl is;
  new = λ name is. inl is;
  noted = λ name is. inl is;
  less = omega arith;
}

-- what is seen behind an insertion: the name, or what was seen before
abbrev pub Inserts : List ℕ → (List ℕ → Bool) → (List ℕ → Bool) → Type 0
Inserts first seen now_seen = (name : List ℕ) → now_seen name ≡ cond (is_eq (name_cmp first name)) true (seen name)

-- the same where names are told apart byte by byte
pub inserts_hashed : (first : List ℕ) (seen now_seen : List ℕ → Bool) → ((name : List ℕ) → now_seen name ≡ cond (same_name first name) true (seen name)) → Inserts first seen now_seen
inserts_hashed first seen now_seen at name = at name ∙ ap (λ b. cond b true (seen name)) (one_test first name)

either_seen : (b old now : Bool) → now ≡ cond b true old → now ≡ true → (b ≡ true) ⊎ (old ≡ true)
either_seen true old now is seen = inl refl
either_seen false old now is seen = inr (sym is ∙ seen)

still_seen : (b old now : Bool) → now ≡ cond b true old → old ≡ true → now ≡ true
still_seen true old now is seen = is
still_seen false old now is seen = is ∙ seen

pub kept_inserting : (first : List ℕ) (seen now_seen : List ℕ → Bool) → Inserts first seen now_seen → (name : List ℕ) → seen name ≡ true → now_seen name ≡ true
kept_inserting first seen now_seen inserts name is = still_seen (is_eq (name_cmp first name)) (seen name) (now_seen name) (inserts name) is

-- a name that was seen before
pub sees_known : {X : Type 0} (objects : FinMap name_cmp X) (ends : List ℕ → Bool) (first : List ℕ) (seen : List ℕ → Bool) (waits : Names) → seen first ≡ true → Sees objects ends (first ∷ []) seen waits seen waits
sees_known objects ends first seen waits known = record {
  kept = λ name is. is;
  stays = λ name is. is;
  all = λ name among there. subst (λ n. seen n ≡ true) (sole_there first name among) known;
  only = λ name is. inl is;
  new = λ name is. inl is;
  noted = λ name is. inl is;
  less = omega arith;
}

-- what is seen behind an insertion
pub found_inserting : (first : List ℕ) (seen now_seen : List ℕ → Bool) → Inserts first seen now_seen → (name : List ℕ) → now_seen name ≡ true → (first ≡ name) ⊎ (seen name ≡ true)
found_inserting first seen now_seen inserts name is = by (either_seen (is_eq (name_cmp first name)) (seen name) (now_seen name) (inserts name) is)
  where
    by : (is_eq (name_cmp first name) ≡ true) ⊎ (seen name ≡ true) → (first ≡ name) ⊎ (seen name ≡ true)
    by (inl tied) = inl (tied_names first name tied)
    by (inr before) = inr before

-- one that is there and was not seen is one less that is not
pub unseen_less : {X : Type 0} (objects : FinMap name_cmp X) (first : List ℕ) (seen now_seen : List ℕ → Bool) → Inserts first seen now_seen → now_seen first ≡ true → seen first ≡ false → contains_key objects first ≡ true → unseen objects now_seen + 1 ≤ unseen objects seen
unseen_less objects first seen now_seen inserts seen_now new there =
    let key = Contains-keys objects first there in
    left_out_less seen now_seen (kept_inserting first seen now_seen inserts) (keys objects) first key.0 key.1 key.2 new seen_now

sees_last : {X : Type 0} (objects : FinMap name_cmp X) (ends : List ℕ → Bool) (first : List ℕ) (seen : List ℕ → Bool) (waits : Names) (now_seen : List ℕ → Bool) → Inserts first seen now_seen → now_seen first ≡ true → seen first ≡ false → contains_key objects first ≡ true
    → Sees objects ends (first ∷ []) seen waits now_seen (waits ++ first ∷ [])
sees_last objects ends first seen waits now_seen inserts seen_now new there = record {
  kept = kept_inserting first seen now_seen inserts;
  stays = λ name is. Contains-append_left waits (first ∷ []) name is;
  all = λ name among last. subst (λ n. now_seen n ≡ true) (sole_there first name among) seen_now;
  only = λ name is. elim (found_inserting first seen now_seen inserts name is) [
    | inl same ↦ inr (subst (λ n. Contains (first ∷ []) n) same (sole first), subst (λ n. contains_key objects n ≡ true) same there)
    | inr before ↦ inl before
  ];
  new = λ name is. elim (found_inserting first seen now_seen inserts name is) [
    | inl same ↦ inr (inl (subst (λ n. Contains (waits ++ first ∷ []) n) same (Contains-append_right waits (first ∷ []) first (sole first))))
    | inr before ↦ inl before
  ];
  noted = λ name is. elim (Contains-append_cases waits (first ∷ []) name is) [
    | inl before ↦ inl before
    | inr last ↦ inr (subst (λ n. now_seen n ≡ true) (sole_there first name last) seen_now)
  ];
  less =
      (let fewer = unseen_less objects first seen now_seen inserts seen_now new there in
      let longer : length (waits ++ first ∷ []) ≡ length waits + 1 = length-append waits (first ∷ []) in
      omega arith);
}

-- whether a name was seen, by what its insertion answers
pub was_old : {answer : Bool} (seen : Bool) → answer ≡ not seen → answer ≡ false → seen ≡ true
was_old true told is = refl
was_old false told is = (let no : true ≡ false = sym told ∙ is in absurd (cc))

pub was_new : {answer : Bool} (seen : Bool) → answer ≡ not seen → answer ≡ true → seen ≡ false
was_new true told is = (let no : false ≡ true = sym told ∙ is in absurd (cc))
was_new false told is = refl

-- names that are the same but for their order are seen to alike
pub sees_moved : {X : Type 0} (objects : FinMap name_cmp X) (ends : List ℕ → Bool) (xs ys : Names) (seen : List ℕ → Bool) (waits : Names) (now_seen : List ℕ → Bool) (now_waits : Names) → ((name : List ℕ) → Contains ys name → Contains xs name) → ((name : List ℕ) → Contains xs name → Contains ys name)
    → Sees objects ends xs seen waits now_seen now_waits → Sees objects ends ys seen waits now_seen now_waits
sees_moved objects ends xs ys seen waits now_seen now_waits back there sees = record {
  kept = sees.kept;
  stays = sees.stays;
  all = λ name among. sees.all name (back name among);
  only = λ name is. elim (sees.only name is) [
    | inl before ↦ inl before
    | inr found ↦ inr (there name found.0, found.1)
  ];
  new = sees.new;
  noted = sees.noted;
  less = sees.less;
}

-- a name that is new, and whose object is there
pub sees_new : {X : Type 0} (objects : FinMap name_cmp X) (ends : List ℕ → Bool) (first : List ℕ) (seen : List ℕ → Bool) (waits : Names) (now_seen : List ℕ → Bool) (now_waits : Names) → seen first ≡ false → Inserts first seen now_seen → now_seen first ≡ true → contains_key objects first ≡ true → now_waits ≡ waits ++ first ∷ []
    → Sees objects ends (first ∷ []) seen waits now_seen now_waits
sees_new objects ends first seen waits now_seen now_waits new inserts seen_now there pushed =
    subst (λ w. Sees objects ends (first ∷ []) seen waits now_seen w) (sym pushed) (sees_last objects ends first seen waits now_seen inserts seen_now new there)

-- a name that is new, whose object is there, and that goes on to nothing
pub sees_end : {X : Type 0} (objects : FinMap name_cmp X) (ends : List ℕ → Bool) (first : List ℕ) (seen : List ℕ → Bool) (waits : Names) (now_seen : List ℕ → Bool) → seen first ≡ false → Inserts first seen now_seen → now_seen first ≡ true → contains_key objects first ≡ true → ends first ≡ true
    → Sees objects ends (first ∷ []) seen waits now_seen waits
sees_end objects ends first seen waits now_seen new inserts seen_now there ended = record {
  kept = kept_inserting first seen now_seen inserts;
  stays = λ name waiting. waiting;
  all = λ name last there. subst (λ n. now_seen n ≡ true) (sole_there first name last) seen_now;
  only = λ name found. elim (found_inserting first seen now_seen inserts name found) [
    | inl same ↦ inr (subst (λ n. Contains (first ∷ []) n) same (sole first), subst (λ n. contains_key objects n ≡ true) same there)
    | inr before ↦ inl before
  ];
  new = λ name found. elim (found_inserting first seen now_seen inserts name found) [
    | inl same ↦ inr (inr (subst (λ n. ends n ≡ true) same ended))
    | inr before ↦ inl before
  ];
  noted = λ name waiting. inl waiting;
  less = (let fewer = unseen_less objects first seen now_seen inserts seen_now new there in omega arith);
}
