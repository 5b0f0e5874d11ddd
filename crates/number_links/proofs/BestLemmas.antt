-- The best common ancestors, as one goes from greater keys to lower ones.
use Rattle.std.proofs.Common.{◌≡◌, ◌⊎◌, ◌↔◌, ◌<◌, ◌≤◌, ◌&&◌, ◌||◌, not, ℕ, Bool, true, false, nat_eq, List, [], ◌∷◌, Contains, length, inl, inr, refl, sym, ap, subst, ◌∙◌, arith}
use Rattle.std.proofs.lemmas.Bool.{and_from, and_parts, cases_Bool, cases_lt, cases_order, not-true, or_cases, or_left, or_right}
use Rattle.number_links.specs.Bases.{IsBest, IsCommon}
use Rattle.number_links.specs.Descent.{GoesOn, IsKey, IsParent, Puts, is_common_at, key_of}
use Rattle.number_links.specs.Facts.{Facts, goes_on}
use Rattle.number_links.specs.Generations.{AreGenerations, generation}
use Rattle.number_links.specs.declared.along.Along.TheVariants.{Parents}
use Rattle.number_links.proofs.DescentLemmas.{AreOutdone, IsSide, Waits, between, here_waits, left_outdone, outdone_on, waits_on}
use Rattle.number_links.proofs.KeyLemmas.{AreHigh, IsRoot, Reaches, lower, one_high, one_number, reached_at, reached_high, reached_key, reached_under, side, waits_first}
use Rattle.number_links.proofs.PastLemmas.{reached_allowed}
use Rattle.number_links.proofs.SeeingLemmas.{sole_there}

-- who is reached from both, by key
abbrev pub Common : (ℕ → List ℕ) → (ℕ → Bool) → List ℕ → ℕ → ℕ → ℕ → Type 0
Common next allowed gs a b key = Reaches next allowed gs (a ∷ []) key × Reaches next allowed gs (b ∷ []) key

-- and is no parent of another one
abbrev pub HasNoChild : (ℕ → List ℕ) → (ℕ → Bool) → List ℕ → ℕ → ℕ → ℕ → Type 0
HasNoChild next allowed gs a b key = (up : ℕ) → Common next allowed gs a b up → IsParent next allowed gs up key → ⊥

-- all keys from one on are done
pub record IsDescent (next : ℕ → List ℕ) (allowed : ℕ → Bool) (gs : List ℕ) (a b below : ℕ) (from_a from_b outdone best : ℕ → Bool) : Type 0 where
  pub of_a : Waits (IsParent next allowed gs) (IsRoot allowed gs (a ∷ [])) (Reaches next allowed gs (a ∷ [])) below from_a outdone
  pub of_b : Waits (IsParent next allowed gs) (IsRoot allowed gs (b ∷ [])) (Reaches next allowed gs (b ∷ [])) below from_b outdone
  pub gone : AreOutdone (IsParent next allowed gs) (Common next allowed gs a b) below outdone
  pub found : (n : ℕ) → best n ≡ true → IsBest next allowed a b n
  pub all : (n : ℕ) → below ≤ key_of gs n → IsBest next allowed a b n → best n ≡ true

-- the last key that waits is not done
pub latest_under : (below last at : ℕ) (from_a from_b outdone : ℕ → Bool) → ((key : ℕ) → from_a key ≡ true → key < below) → ((key : ℕ) → from_b key ≡ true → key < below) → ((key : ℕ) → outdone key ≡ true → key < below)
    → (from_a last ≡ true) ⊎ (from_b last ≡ true) → (at ≡ last) ⊎ (outdone at ≡ true) → at < below
latest_under below last at from_a from_b outdone within_a within_b within among latest = elim latest [
  | inr gone ↦ within at gone
  | inl same ↦ subst (λ k. k < below) (sym same) (elim among [
    | inl a ↦ within_a last a
    | inr b ↦ within_b last b
  ])
]

-- no later one waits
pub no_later : (last at : ℕ) (waits : ℕ → Bool) → last ≤ at → ((key : ℕ) → waits key ≡ true → key ≤ last) → (key : ℕ) → waits key ≡ true → key ≤ at
no_later last at waits least most key there = (let bound = most key there in omega arith)

pub both_not : (b : Bool) → b ≡ true → b ≡ false → ⊥
both_not true is not_is = cc
both_not false is not_is = cc

-- one number more is found, if it is a best one
pub noted_only : (first number n : ℕ) (told here old now : Bool) → now ≡ ((told && nat_eq n first) || old) → told ≡ here → first ≡ number → now ≡ true → ((here ≡ true) × (n ≡ number)) ⊎ (old ≡ true)
noted_only first number n told here old now is says same there = elim (or_cases (told && nat_eq n first) old (sym is ∙ there)) [
  | inl both ↦
      let parts = and_parts told (nat_eq n first) both in
      let equal : nat_eq n first ≡ true = parts.1 in
      inl (sym says ∙ parts.0, (let it : n ≡ first = search arith in it ∙ same))
  | inr before ↦ inr before
]

pub noted_keeps : (test old now : Bool) → now ≡ (test || old) → old ≡ true → now ≡ true
noted_keeps test old now is before = is ∙ or_right test old before

pub noted_there : (first number : ℕ) (told here old now : Bool) → now ≡ ((told && nat_eq number first) || old) → told ≡ here → first ≡ number → here ≡ true → now ≡ true
noted_there first number told here old now is says same is_here =
    let equal : nat_eq number first ≡ true = search arith in
    is ∙ or_left (told && nat_eq number first) old (and_from told (nat_eq number first) (says ∙ is_here) equal)

module _ (facts : Facts) (allowed : ℕ → Bool) (gs : List ℕ) (few : length gs ≤ 4294967296) (are : AreGenerations facts gs) (a b : ℕ) (high_a : 1 < generation gs a) (high_b : 1 < generation gs b) where
  abbrev next : ℕ → List ℕ
  next = goes_on Parents facts

  abbrev parent : ℕ → ℕ → Type 0
  parent = IsParent next allowed gs

  all_a : AreHigh allowed gs (a ∷ [])
  all_a = one_high allowed gs a high_a

  all_b : AreHigh allowed gs (b ∷ [])
  all_b = one_high allowed gs b high_b

  side_a : IsSide parent (IsRoot allowed gs (a ∷ [])) (Reaches next allowed gs (a ∷ []))
  side_a = side facts allowed gs few are (a ∷ []) all_a

  side_b : IsSide parent (IsRoot allowed gs (b ∷ [])) (Reaches next allowed gs (b ∷ []))
  side_b = side facts allowed gs few are (b ∷ []) all_b

  down : (up key : ℕ) → Common next allowed gs a b up → parent up key → Common next allowed gs a b key
  down up key here link = (side_a.below up key here.0 link, side_b.below up key here.1 link)

  -- ---- a number and its key
  common_key : (n : ℕ) → IsCommon next allowed a b n → Common next allowed gs a b (key_of gs n)
  common_key n is = ((n, is.0, refl), (n, is.1, refl))

  key_common : (n : ℕ) → 1 < generation gs n → Common next allowed gs a b (key_of gs n) → IsCommon next allowed a b n
  key_common n high is = (reached_at facts allowed gs few are (a ∷ []) all_a n high is.0, reached_at facts allowed gs few are (b ∷ []) all_b n high is.1)

  best_key : (n : ℕ) → IsBest next allowed a b n → HasNoChild next allowed gs a b (key_of gs n)
  best_key n is up here link =
      let child = link.child in
      let common = key_common child.number child.high (subst (Common next allowed gs a b) child.of here) in
      let high = reached_high facts allowed gs few are (a ∷ []) all_a n is.common.0 in
      let parent_high = are.above child.number link.parent child.high link.linked in
      let same = one_number gs few n link.parent high parent_high link.of in
      let linked = subst (Contains (next child.number)) (sym same) link.linked in
      let under = are.lower child.number n child.high linked in
      is.alone child.number common (λ equal. (let alike : generation gs child.number ≡ generation gs n = ap (generation gs) equal in omega arith)) linked

  key_best : (n : ℕ) → 1 < generation gs n → Common next allowed gs a b (key_of gs n) → HasNoChild next allowed gs a b (key_of gs n) → IsBest next allowed a b n
  key_best n high is alone = record {
    common = key_common n high is;
    alone = λ other common apart linked. alone (key_of gs other) (common_key other common) (record {
      child = record {
        number = other;
        of = refl;
        high = reached_high facts allowed gs few are (a ∷ []) all_a other common.0;
      };
      parent = n;
      of = refl;
      linked = linked;
      there = reached_allowed next allowed (a ∷ []) n (key_common n high is).0;
    });
  }

  -- ---- the start: one key waits of each side, and all are below the bound
  module _ (bound : ℕ) where
    one_under : (root : ℕ) → key_of gs root < bound → (key : ℕ) → IsRoot allowed gs (root ∷ []) key → key < bound
    one_under root under key first = subst (λ k. k < bound) (sym (first.3 ∙ ap (key_of gs) (sym (sole_there root first.0 first.1)))) under

    pub descent_begins : (from_a from_b outdone best : ℕ → Bool) → key_of gs a < bound → key_of gs b < bound → Puts (a ∷ []) allowed gs (λ _. false) from_a → Puts (b ∷ []) allowed gs (λ _. false) from_b → ((key : ℕ) → outdone key ≡ false)
        → ((n : ℕ) → best n ≡ false) → IsDescent next allowed gs a b bound from_a from_b outdone best
    descent_begins from_a from_b outdone best under_a under_b puts_a puts_b none_outdone none_best = record {
      of_a = waits_first facts allowed gs few are (a ∷ []) all_a bound (one_under a under_a) from_a outdone puts_a;
      of_b = waits_first facts allowed gs few are (b ∷ []) all_b bound (one_under b under_b) from_b outdone puts_b;
      gone = record {
        sound = λ key there. absurd (both_not (outdone key) there (none_outdone key));
        step = λ at key here link under. (let within = reached_under facts allowed gs few are (a ∷ []) all_a bound (one_under a under_a) here.0.0 here.0.1 in inr (omega (arith, here.0.2)));
      };
      found = λ n there. absurd (both_not (best n) there (none_best n));
      all = λ n over is. (let within = reached_under facts allowed gs few are (a ∷ []) all_a bound (one_under a under_a) n is.common.0 in absurd (omega arith));
    }

  -- ---- a step: one goes on from the greatest key that waits
  module _ (below at : ℕ) (from_a from_b outdone best : ℕ → Bool) (state : IsDescent next allowed gs a b below from_a from_b outdone best) where
    -- each key that waits is that of a number with a generation
    pub latest_key : (last : ℕ) → (from_a last ≡ true) ⊎ (from_b last ≡ true) → (at ≡ last) ⊎ (outdone at ≡ true) → IsKey gs at
    latest_key last among latest = elim latest [
      | inr gone ↦ (let child = (state.gone.sound at gone).1 in reached_key facts allowed gs few are (a ∷ []) all_a at (down child.0 at child.1 child.2).0)
      | inl same ↦ subst (IsKey gs) (sym same) (elim among [
        | inl there ↦ reached_key facts allowed gs few are (a ∷ []) all_a last (state.of_a.sound last there).1
        | inr there ↦ reached_key facts allowed gs few are (b ∷ []) all_b last (state.of_b.sound last there).1
      ])
    ]

    module _ (under : at < below) (most_a : (key : ℕ) → from_a key ≡ true → key ≤ at) (most_b : (key : ℕ) → from_b key ≡ true → key ≤ at) (most : (key : ℕ) → outdone key ≡ true → key ≤ at) where
      abbrev common_here : Bool
      common_here = is_common_at (from_a at) (from_b at) (outdone at)

      -- whether the number there is a best one
      abbrev best_here : Bool
      best_here = not (outdone at) && (from_a at && from_b at)

      gives_its : (own : Bool) → (not common_here && own) ≡ true → own ≡ true
      gives_its own gives = (and_parts (not common_here) own gives).1

      given_or_common : (own : Bool) → own ≡ true → ((not common_here && own) ≡ true) ⊎ (common_here ≡ true)
      given_or_common own there = elim (cases_Bool common_here) [
        | inl common ↦ inr common
        | inr apart ↦ inl (and_from (not common_here) own (ap not apart) there)
      ]

      outdone_common : outdone at ≡ true → common_here ≡ true
      outdone_common there = or_left (outdone at) (from_a at && from_b at) there

      lower_key : (up key : ℕ) → parent up key → key < up
      lower_key = lower facts allowed gs few are

      none_between : (key : ℕ) → at < key → key < below → Reaches next allowed gs (a ∷ []) key → ⊥
      none_between key over before here = between parent lower_key (IsRoot allowed gs (a ∷ [])) (Reaches next allowed gs (a ∷ [])) below at from_a outdone side_a state.of_a most_a most below key (omega arith) over before here

      waits_a : Reaches next allowed gs (a ∷ []) at → (from_a at ≡ true) ⊎ (outdone at ≡ true)
      waits_a here = here_waits parent lower_key (IsRoot allowed gs (a ∷ [])) (Reaches next allowed gs (a ∷ [])) below at from_a outdone side_a state.of_a most_a most under here

      waits_b : Reaches next allowed gs (b ∷ []) at → (from_b at ≡ true) ⊎ (outdone at ≡ true)
      waits_b here = here_waits parent lower_key (IsRoot allowed gs (b ∷ [])) (Reaches next allowed gs (b ∷ [])) below at from_b outdone side_b state.of_b most_b most under here

      common_waits : Common next allowed gs a b at → common_here ≡ true
      common_waits here = elim (waits_a here.0) [
        | inr there ↦ outdone_common there
        | inl there_a ↦ elim (waits_b here.1) [
          | inr there ↦ outdone_common there
          | inl there_b ↦ or_right (outdone at) (from_a at && from_b at) (and_from (from_a at) (from_b at) there_a there_b)
        ]
      ]

      is_common : common_here ≡ true → Common next allowed gs a b at
      is_common there = elim (or_cases (outdone at) (from_a at && from_b at) there) [
        | inl gone ↦ (let child = (state.gone.sound at gone).1 in down child.0 at child.1 child.2)
        | inr both ↦ (let parts = and_parts (from_a at) (from_b at) both in ((state.of_a.sound at parts.0).1, (state.of_b.sound at parts.1).1))
      ]

      found_here : best_here ≡ true → Common next allowed gs a b at × HasNoChild next allowed gs a b at
      found_here there =
          let parts = and_parts (not (outdone at)) (from_a at && from_b at) there in
          let both = and_parts (from_a at) (from_b at) parts.1 in (
            ((state.of_a.sound at both.0).1, (state.of_b.sound at both.1).1),
            λ up here link. elim (state.gone.step up at here link under) [
              | inl gone ↦ both_not (outdone at) gone (not-true (outdone at) parts.0)
              | inr before ↦ none_between up (lower_key up at link) before here.0
            ],
          )

      here_found : Common next allowed gs a b at → HasNoChild next allowed gs a b at → best_here ≡ true
      here_found here alone =
          let apart : outdone at ≡ false = elim (cases_Bool (outdone at)) [
            | inl gone ↦ (let child = (state.gone.sound at gone).1 in absurd (alone child.0 child.1 child.2))
            | inr none ↦ none
          ] in
          let there_a : from_a at ≡ true = elim (waits_a here.0) [
            | inl there ↦ there
            | inr gone ↦ absurd (both_not (outdone at) gone apart)
          ] in
          let there_b : from_b at ≡ true = elim (waits_b here.1) [
            | inl there ↦ there
            | inr gone ↦ absurd (both_not (outdone at) gone apart)
          ] in
          and_from (not (outdone at)) (from_a at && from_b at) (ap not apart) (and_from (from_a at) (from_b at) there_a there_b)

      -- what was found, if the number there is noted exactly where it is a best one
      pub descends : (now_a now_b now_outdone now_best : ℕ → Bool) (is : IsKey gs at) → GoesOn parent at from_a from_b outdone now_a now_b now_outdone
          → ((n : ℕ) → now_best n ≡ true → ((best_here ≡ true) × (n ≡ is.number)) ⊎ (best n ≡ true)) → ((n : ℕ) → best n ≡ true → now_best n ≡ true) → (best_here ≡ true → now_best is.number ≡ true)
          → IsDescent next allowed gs a b at now_a now_b now_outdone now_best
      descends now_a now_b now_outdone now_best is goes_on only keeps notes = record {
        of_a = waits_on parent lower_key (IsRoot allowed gs (a ∷ [])) (Reaches next allowed gs (a ∷ [])) below at (not common_here && from_a at) common_here from_a outdone now_a now_outdone side_a state.of_a most_a most under goes_on.of_a goes_on.outdone (gives_its (from_a at)) (given_or_common (from_a at)) outdone_common;
        of_b = waits_on parent lower_key (IsRoot allowed gs (b ∷ [])) (Reaches next allowed gs (b ∷ [])) below at (not common_here && from_b at) common_here from_b outdone now_b now_outdone side_b state.of_b most_b most under goes_on.of_b goes_on.outdone (gives_its (from_b at)) (given_or_common (from_b at)) outdone_common;
        gone = outdone_on parent lower_key (Common next allowed gs a b) down below at common_here outdone now_outdone state.gone most under (λ key over before here. none_between key over before here.0) goes_on.outdone is_common common_waits;
        found = λ n there. elim (only n there) [
          | inl (is_best, same) ↦ subst (IsBest next allowed a b) (sym same) (best_number is_best)
          | inr before ↦ state.found n before
        ];
        all = λ n over best_n. elim (cases_order at (key_of gs n)) [
          | inl same ↦
              let high = reached_high facts allowed gs few are (a ∷ []) all_a n best_n.common.0 in
              let it = one_number gs few is.number n is.high high (sym is.of ∙ same) in
              subst (λ m. now_best m ≡ true) it (notes (here_found (subst (Common next allowed gs a b) (sym same) (common_key n best_n.common)) (subst (HasNoChild next allowed gs a b) (sym same) (best_key n best_n))))
          | inr (inl later) ↦ elim (cases_lt (key_of gs n) below) [
            | inl before ↦ absurd (none_between (key_of gs n) later before (common_key n best_n.common).0)
            | inr done ↦ keeps n (state.all n done best_n)
          ]
          | inr (inr earlier) ↦ absurd (omega arith)
        ];
      }
        where
          best_number : best_here ≡ true → IsBest next allowed a b is.number
          best_number there =
              let found = found_here there in
              key_best is.number is.high (subst (Common next allowed gs a b) is.of found.0) (subst (HasNoChild next allowed gs a b) is.of found.1)

  -- ---- the end: where none waits from one side, all best ones are found
  pub best_told : (below : ℕ) (from_a from_b outdone best : ℕ → Bool) → IsDescent next allowed gs a b below from_a from_b outdone best → ((key : ℕ) → from_a key ≡ false) ⊎ ((key : ℕ) → from_b key ≡ false) → (n : ℕ) → (best n ≡ true) ↔ IsBest next allowed a b n
  best_told below from_a from_b outdone best state none n = (
    state.found n,
    λ is. elim (cases_lt (key_of gs n) below) [
      | inl before ↦ absurd (best_key n is (child is before).0 (child is before).1 (child is before).2)
      | inr done ↦ state.all n done is
    ],
  )
    where
      child : IsBest next allowed a b n → key_of gs n < below → (up : ℕ) × Common next allowed gs a b up × parent up (key_of gs n)
      child is before = elim none [
        | inl none_a ↦ (left_outdone parent (lower facts allowed gs few are) (Common next allowed gs a b) down (IsRoot allowed gs (a ∷ [])) (Reaches next allowed gs (a ∷ [])) below from_a outdone side_a state.of_a state.gone (λ key there. both_not (from_a key) there (none_a key)) (key_of gs n) before (n, is.common.0, refl)).1
        | inr none_b ↦ (left_outdone parent (lower facts allowed gs few are) (Common next allowed gs a b) down (IsRoot allowed gs (b ∷ [])) (Reaches next allowed gs (b ∷ [])) below from_b outdone side_b state.of_b state.gone (λ key there. both_not (from_b key) there (none_b key)) (key_of gs n) before (n, is.common.1, refl)).1
      ]
