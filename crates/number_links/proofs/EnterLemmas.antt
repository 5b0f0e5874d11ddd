-- Numbers that are entered one by one, and list by list; ends among them do not wait.
use Rattle.std.proofs.Common.{◌≡◌, ℕ, ◌<◌, Bool, true, false, ◌||◌, nat_eq, List, [], ◌∷◌, ◌++◌, refl, sym, subst, ◌∙◌, arith, inl, inr, ◌⊎◌}
use Rattle.std.specs.List.{Contains}
use Rattle.std.proofs.lemmas.List.Elements.{Contains-append_left, Contains-append_right, Contains-append_cases}
use Rattle.number_links.specs.Reach.{Root, Next}
use Rattle.number_links.specs.Seeing.{Enters, Sees}
use Rattle.number_links.proofs.SeeingLemmas.{either_seen, none_there, or_true, same_or, sees_new, sole, sole_there, unseen_no_more}
use Rattle.number_links.proofs.WalkLemmas.{Walks}

-- no numbers
pub enters_none : (bound : ℕ) (ends : ℕ → Bool) (seen : ℕ → Bool) (waits : List ℕ) → Enters bound ends [] seen waits seen waits
enters_none bound ends seen waits = record {
  kept = λ n is. is;
  stays = λ n is. is;
  all = λ n among. absurd (none_there n among);
  only = λ n is. inl is;
  new = λ n is. inl is;
  noted = λ n is. inl is;
  go_on = λ n is. inl is;
  less = omega arith;
}

-- a number that was seen before
pub enters_known : (bound : ℕ) (ends : ℕ → Bool) (first : ℕ) (seen : ℕ → Bool) (waits : List ℕ) → seen first ≡ true → Enters bound ends (first ∷ []) seen waits seen waits
enters_known bound ends first seen waits known = record {
  kept = λ n is. is;
  stays = λ n is. is;
  all = λ n among. subst (λ m. seen m ≡ true) (sole_there first n among) known;
  only = λ n is. inl is;
  new = λ n is. inl is;
  noted = λ n is. inl is;
  go_on = λ n is. inl is;
  less = omega arith;
}

-- what is seen to, with every number allowed, is entered, if no end is put on the list
entered : (bound : ℕ) (ends : ℕ → Bool) (numbers : List ℕ) (seen : ℕ → Bool) (waits : List ℕ) (now_seen : ℕ → Bool) (now_waits : List ℕ)
    → ((n : ℕ) → Contains now_waits n → Contains waits n ⊎ (ends n ≡ false)) → Sees bound (λ _. true) numbers seen waits now_seen now_waits → Enters bound ends numbers seen waits now_seen now_waits
entered bound ends numbers seen waits now_seen now_waits go_on sees = record {
  kept = sees.kept;
  stays = sees.stays;
  all = λ n among. sees.all n among refl;
  only = λ n is. elim (sees.only n is) [
    | inl before ↦ inl before
    | inr found ↦ inr found.0
  ];
  new = λ n is. elim (sees.new n is) [
    | inl before ↦ inl before
    | inr waiting ↦ inr (inl waiting)
  ];
  noted = sees.noted;
  go_on = go_on;
  less = sees.less;
}

-- a number that is new, and waits
pub enters_new : (bound : ℕ) (ends : ℕ → Bool) (first : ℕ) (seen : ℕ → Bool) (waits : List ℕ) (now_seen : ℕ → Bool) (now_waits : List ℕ) → first < bound → seen first ≡ false → ends first ≡ false
    → ((n : ℕ) → now_seen n ≡ nat_eq n first || seen n) → now_waits ≡ waits ++ first ∷ [] → Enters bound ends (first ∷ []) seen waits now_seen now_waits
enters_new bound ends first seen waits now_seen now_waits inside new no_end inserts pushed =
    entered bound ends (first ∷ []) seen waits now_seen now_waits
    (λ n is. elim (Contains-append_cases waits (first ∷ []) n (subst (λ w. Contains w n) pushed is)) [
      | inl before ↦ inl before
      | inr last ↦ inr (subst (λ m. ends m ≡ false) (sole_there first n last) no_end)
    ])
    (sees_new bound (λ _. true) first seen waits now_seen now_waits inside refl new inserts pushed)

-- a number that is new, and an end
pub enters_end : (bound : ℕ) (ends : ℕ → Bool) (first : ℕ) (seen : ℕ → Bool) (waits : List ℕ) (now_seen : ℕ → Bool) → ends first ≡ true
    → ((n : ℕ) → now_seen n ≡ nat_eq n first || seen n) → Enters bound ends (first ∷ []) seen waits now_seen waits
enters_end bound ends first seen waits now_seen is_end inserts = record {
  kept = kept;
  stays = λ n is. is;
  all = λ n among. subst (λ m. now_seen m ≡ true) (sole_there first n among) (inserts first ∙ same_or first (seen first));
  only = λ n is. elim (either_seen first n (seen n) (now_seen n) (inserts n) is) [
    | inl same ↦ inr (subst (λ m. Contains (first ∷ []) m) same (sole first))
    | inr before ↦ inl before
  ];
  new = λ n is. elim (either_seen first n (seen n) (now_seen n) (inserts n) is) [
    | inl same ↦ inr (inr (subst (λ m. ends m ≡ true) same is_end))
    | inr before ↦ inl before
  ];
  noted = λ n is. inl is;
  go_on = λ n is. inl is;
  less = (let fewer = unseen_no_more bound (λ _. true) seen now_seen kept in omega (arith, fewer));
}
  where
    kept : (n : ℕ) → seen n ≡ true → now_seen n ≡ true
    kept n is = inserts n ∙ or_true (nat_eq n first) (seen n) is

-- some numbers, and then others
pub enters_both : (bound : ℕ) (ends : ℕ → Bool) (xs ys : List ℕ) (seen : ℕ → Bool) (waits : List ℕ) (mid_seen : ℕ → Bool) (mid_waits : List ℕ) (now_seen : ℕ → Bool) (now_waits : List ℕ)
    → Enters bound ends xs seen waits mid_seen mid_waits → Enters bound ends ys mid_seen mid_waits now_seen now_waits → Enters bound ends (xs ++ ys) seen waits now_seen now_waits
enters_both bound ends xs ys seen waits mid_seen mid_waits now_seen now_waits first then = record {
  kept = λ n is. then.kept n (first.kept n is);
  stays = λ n is. then.stays n (first.stays n is);
  all = λ n among. elim (Contains-append_cases xs ys n among) [
    | inl front ↦ then.kept n (first.all n front)
    | inr behind ↦ then.all n behind
  ];
  only = λ n is. elim (then.only n is) [
    | inl before ↦ elim (first.only n before) [
      | inl long ↦ inl long
      | inr found ↦ inr (Contains-append_left xs ys n found)
    ]
    | inr found ↦ inr (Contains-append_right xs ys n found)
  ];
  new = λ n is. elim (then.new n is) [
    | inl before ↦ elim (first.new n before) [
      | inl long ↦ inl long
      | inr (inl waiting) ↦ inr (inl (then.stays n waiting))
      | inr (inr is_end) ↦ inr (inr is_end)
    ]
    | inr other ↦ inr other
  ];
  noted = λ n is. elim (then.noted n is) [
    | inl before ↦ elim (first.noted n before) [
      | inl long ↦ inl long
      | inr seen_now ↦ inr (then.kept n seen_now)
    ]
    | inr seen_now ↦ inr seen_now
  ];
  go_on = λ n is. elim (then.go_on n is) [
    | inl before ↦ first.go_on n before
    | inr no_end ↦ inr no_end
  ];
  less = (let a = first.less in let b = then.less in omega arith);
}

-- ---- a walk whose ends are clear and lead nowhere
module _ (clear : ℕ → Type 0) (next : ℕ → List ℕ) (roots : List ℕ) (ends : ℕ → Bool) (are_clear : (n : ℕ) → ends n ≡ true → clear n) (lead_nowhere : (n : ℕ) → ends n ≡ true → next n ≡ []) where
  -- what an end leads to is seen, since it is nothing
  closed_end : (now_seen : ℕ → Bool) (from : ℕ) → ends from ≡ true → clear from × ((n : ℕ) → Contains (next from) n → true ≡ true → now_seen n ≡ true)
  closed_end now_seen from is_end = (are_clear from is_end, λ n leads there. absurd (none_there n (subst (λ ms. Contains ms n) (lead_nowhere from is_end) leads)))

  -- the roots were entered, and nothing before
  pub walks_entered_first : (bound : ℕ) (seen : ℕ → Bool) (waits : List ℕ) (now_seen : ℕ → Bool) (now_waits : List ℕ)
      → ((n : ℕ) → seen n ≡ false) → waits ≡ [] → Enters bound ends roots seen waits now_seen now_waits → Walks clear next (λ _. true) roots now_seen now_waits
  walks_entered_first bound seen waits now_seen now_waits none_seen none_waits enters = record {
    begun = λ n root there. enters.all n root;
    noted = λ n is. elim (enters.noted n is) [
      | inl before ↦ absurd (none_there n (subst (λ w. Contains w n) none_waits before))
      | inr seen_now ↦ seen_now
    ];
    reached = λ n is. elim (enters.only n is) [
      | inl before ↦ absurd (none n before)
      | inr found ↦ Root n found refl
    ];
    closed = λ from is. elim (enters.new from is) [
      | inl before ↦ absurd (none from before)
      | inr (inl waiting) ↦ inl waiting
      | inr (inr is_end) ↦ inr (closed_end now_seen from is_end)
    ];
  }
    where
      none : (n : ℕ) → seen n ≡ true → ⊥
      none n is = (let no : true ≡ false = sym is ∙ none_seen n in cc)

  -- the last of those that wait was followed
  pub walks_entered : (bound : ℕ) (seen : ℕ → Bool) (waits rest : List ℕ) (last : ℕ) (now_seen : ℕ → Bool) (now_waits : List ℕ)
      → waits ≡ rest ++ last ∷ [] → clear last → Walks clear next (λ _. true) roots seen waits → Enters bound ends (next last) seen rest now_seen now_waits → Walks clear next (λ _. true) roots now_seen now_waits
  walks_entered bound seen waits rest last now_seen now_waits popped is_clear walks enters = record {
    begun = λ n root there. enters.kept n (walks.begun n root there);
    noted = λ n is. elim (enters.noted n is) [
      | inl before ↦ enters.kept n (walks.noted n (back n (Contains-append_left rest (last ∷ []) n before)))
      | inr seen_now ↦ seen_now
    ];
    reached = λ n is. elim (enters.only n is) [
      | inl before ↦ walks.reached n before
      | inr found ↦ Next last n (walks.reached last (walks.noted last (back last (Contains-append_right rest (last ∷ []) last (sole last))))) found refl
    ];
    closed = λ from is. elim (enters.new from is) [
      | inl before ↦ still from (walks.closed from before)
      | inr (inl waiting) ↦ inl waiting
      | inr (inr is_end) ↦ inr (closed_end now_seen from is_end)
    ];
  }
    where
      back : (n : ℕ) → Contains (rest ++ last ∷ []) n → Contains waits n
      back n is = subst (λ w. Contains w n) (sym popped) is

      here : (from : ℕ) → Contains rest from ⊎ Contains (last ∷ []) from → Contains now_waits from ⊎ (clear from × ((n : ℕ) → Contains (next from) n → true ≡ true → now_seen n ≡ true))
      here from (inl front) = inl (enters.stays from front)
      here from (inr end) = inr (subst clear (sole_there last from end) is_clear, λ n linked there. enters.all n (subst (λ m. Contains (next m) n) (sym (sole_there last from end)) linked))

      still : (from : ℕ) → Contains waits from ⊎ (clear from × ((n : ℕ) → Contains (next from) n → true ≡ true → seen n ≡ true)) → Contains now_waits from ⊎ (clear from × ((n : ℕ) → Contains (next from) n → true ≡ true → now_seen n ≡ true))
      still from (inl waited) = here from (Contains-append_cases rest (last ∷ []) from (subst (λ w. Contains w from) popped waited))
      still from (inr done) = inr (done.0, λ n linked there. enters.kept n (done.1 n linked there))
