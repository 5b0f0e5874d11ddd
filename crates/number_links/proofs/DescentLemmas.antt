-- Keys that wait, from the greatest down: what is common, and what is outdone.
use Rattle.std.proofs.Common.{◌≡◌, ◌≢◌, ◌⊎◌, ◌<◌, ◌≤◌, ◌+◌, ℕ, zero, suc, Bool, true, inl, inr, subst, arith}
use Rattle.std.proofs.lemmas.Bool.{cases_order}
use Rattle.number_links.specs.Descent.{SettlesKey}

-- one of two sides: who is an ancestor, from where on
pub record IsSide (parent : ℕ → ℕ → Type 0) (from : ℕ → Type 0) (is : ℕ → Type 0) : Type 0 where
  pub above : (key : ℕ) → is key → from key ⊎ ((at : ℕ) × is at × parent at key)
  pub below : (at key : ℕ) → is at → parent at key → is key

-- who waits from one side, where all keys from one on are done
pub record Waits (parent : ℕ → ℕ → Type 0) (from : ℕ → Type 0) (is : ℕ → Type 0) (below : ℕ) (waits outdone : ℕ → Bool) : Type 0 where
  pub sound : (key : ℕ) → waits key ≡ true → (key < below) × is key
  pub root : (key : ℕ) → from key → key < below → waits key ≡ true
  pub step : (at key : ℕ) → is at → parent at key → key < below → (waits key ≡ true) ⊎ (outdone key ≡ true) ⊎ (at < below)

-- who is outdone
pub record AreOutdone (parent : ℕ → ℕ → Type 0) (common : ℕ → Type 0) (below : ℕ) (outdone : ℕ → Bool) : Type 0 where
  pub sound : (key : ℕ) → outdone key ≡ true → (key < below) × ((at : ℕ) × common at × parent at key)
  pub step : (at key : ℕ) → common at → parent at key → key < below → (outdone key ≡ true) ⊎ (at < below)

module _ (parent : ℕ → ℕ → Type 0) (lower : (at key : ℕ) → parent at key → key < at) where
  -- between the greatest key that waits and those that are done nothing is reached
  pub between : (from : ℕ → Type 0) (is : ℕ → Type 0) (below greatest : ℕ) (waits outdone : ℕ → Bool) → IsSide parent from is → Waits parent from is below waits outdone → ((key : ℕ) → waits key ≡ true → key ≤ greatest) → ((key : ℕ) → outdone key ≡ true → key ≤ greatest)
      → (fuel key : ℕ) → below ≤ key + fuel → greatest < key → key < below → is key → ⊥
  between from is below greatest waits outdone side state most most_outdone zero key bound over under here = absurd (omega arith)
  between from is below greatest waits outdone side state most most_outdone (suc fuel) key bound over under here = elim (side.above key here) [
    | inl root ↦ (let within = most key (state.root key root under) in absurd (omega arith))
    | inr (at, up, link) ↦ elim (state.step at key up link under) [
      | inl waiting ↦ (let within = most key waiting in absurd (omega arith))
      | inr (inl gone) ↦ (let within = most_outdone key gone in absurd (omega arith))
      | inr (inr earlier) ↦
          let higher = lower at key link in
          between from is below greatest waits outdone side state most most_outdone fuel at (omega arith) (omega arith) earlier up
    ]
  ]

  -- who is reached at that key waits there
  pub here_waits : (from : ℕ → Type 0) (is : ℕ → Type 0) (below greatest : ℕ) (waits outdone : ℕ → Bool) → IsSide parent from is → Waits parent from is below waits outdone → ((key : ℕ) → waits key ≡ true → key ≤ greatest) → ((key : ℕ) → outdone key ≡ true → key ≤ greatest)
      → greatest < below → is greatest → (waits greatest ≡ true) ⊎ (outdone greatest ≡ true)
  here_waits from is below greatest waits outdone side state most most_outdone under here = elim (side.above greatest here) [
    | inl root ↦ inl (state.root greatest root under)
    | inr (at, up, link) ↦ elim (state.step at greatest up link under) [
      | inl waiting ↦ inl waiting
      | inr (inl gone) ↦ inr gone
      | inr (inr earlier) ↦ absurd (between from is below greatest waits outdone side state most most_outdone below at (omega arith) (lower at greatest link) earlier up)
    ]
  ]

  -- one side, as one went on from that key
  pub waits_on : (from : ℕ → Type 0) (is : ℕ → Type 0) (below at : ℕ) (followed common : Bool) (waits outdone now now_outdone : ℕ → Bool) → IsSide parent from is → Waits parent from is below waits outdone → ((key : ℕ) → waits key ≡ true → key ≤ at) → ((key : ℕ) → outdone key ≡ true → key ≤ at) → at < below
      → SettlesKey parent at followed waits now → SettlesKey parent at common outdone now_outdone → (followed ≡ true → waits at ≡ true) → (waits at ≡ true → (followed ≡ true) ⊎ (common ≡ true)) → (outdone at ≡ true → common ≡ true) → Waits parent from is at now now_outdone
  waits_on from is below at followed common waits outdone now now_outdone side state most most_outdone under settles settles_outdone given gone_on kept = record {
    sound = λ key is_now. elim (settles.only key is_now) [
      | inl (apart, before) ↦ (let within = most key before in (below_it key within apart, (state.sound key before).1))
      | inr (gave, link) ↦ (lower at key link, side.below at key (state.sound at (given gave)).1 link)
    ];
    root = λ key first earlier. settles.keeps key (λ same. absurd (omega (arith, same))) (state.root key first (omega arith));
    step = λ up key here link earlier. elim (state.step up key here link (omega arith)) [
      | inl waiting ↦ inl (settles.keeps key (λ same. absurd (omega (arith, same))) waiting)
      | inr (inl gone) ↦ inr (inl (settles_outdone.keeps key (λ same. absurd (omega (arith, same))) gone))
      | inr (inr before) ↦ by up key here link before (cases_order up at)
    ];
  }
    where
      below_it : (key : ℕ) → key ≤ at → key ≢ at → key < at
      below_it key within apart = elim (cases_order key at) [
        | inl same ↦ absurd (apart same)
        | inr (inl less) ↦ less
        | inr (inr more) ↦ absurd (omega arith)
      ]

      by : (up key : ℕ) → is up → parent up key → up < below → (up ≡ at) ⊎ (up < at) ⊎ (at < up) → (now key ≡ true) ⊎ (now_outdone key ≡ true) ⊎ (up < at)
      by up key here link before (inr (inl less)) = inr (inr less)
      by up key here link before (inr (inr more)) = absurd (between from is below at waits outdone side state most most_outdone below up (omega arith) more before here)
      by up key here link before (inl same) = elim (here_waits from is below at waits outdone side state most most_outdone under (subst is same here)) [
        | inl waiting ↦ elim (gone_on waiting) [
          | inl gave ↦ inl (settles.adds gave key (subst (λ u. parent u key) same link))
          | inr is_common ↦ inr (inl (settles_outdone.adds is_common key (subst (λ u. parent u key) same link)))
        ]
        | inr gone ↦ inr (inl (settles_outdone.adds (kept gone) key (subst (λ u. parent u key) same link)))
      ]

  -- where none waits from one side any more, of all of its that are left holds what holds of those outdone and of their parents
  pub left_gone : (from : ℕ → Type 0) (is gone : ℕ → Type 0) (below : ℕ) (waits outdone : ℕ → Bool) → IsSide parent from is → Waits parent from is below waits outdone → ((key : ℕ) → waits key ≡ true → ⊥) → ((key : ℕ) → outdone key ≡ true → gone key)
      → ((at key : ℕ) → gone at → parent at key → gone key) → (fuel key : ℕ) → below ≤ key + fuel → key < below → is key → gone key
  left_gone from is gone below waits outdone side state none ends down zero key bound under here = absurd (omega arith)
  left_gone from is gone below waits outdone side state none ends down (suc fuel) key bound under here = elim (side.above key here) [
    | inl root ↦ absurd (none key (state.root key root under))
    | inr (at, up, link) ↦ elim (state.step at key up link under) [
      | inl waiting ↦ absurd (none key waiting)
      | inr (inl is_outdone) ↦ ends key is_outdone
      | inr (inr earlier) ↦
          let higher = lower at key link in
          down at key (left_gone from is gone below waits outdone side state none ends down fuel at (omega arith) earlier up) link
    ]
  ]

  module _ (common : ℕ → Type 0) (down : (at key : ℕ) → common at → parent at key → common key) where
    -- what is outdone, as one went on from that key; between it and those that are done nothing is common
    pub outdone_on : (below at : ℕ) (followed : Bool) (outdone now : ℕ → Bool) → AreOutdone parent common below outdone → ((key : ℕ) → outdone key ≡ true → key ≤ at) → at < below → ((key : ℕ) → at < key → key < below → common key → ⊥)
        → SettlesKey parent at followed outdone now → (followed ≡ true → common at) → (common at → followed ≡ true) → AreOutdone parent common at now
    outdone_on below at followed outdone now state most under none settles is_common common_is = record {
      sound = λ key is_now. elim (settles.only key is_now) [
        | inl (apart, before) ↦ (let within = most key before in (below_it key within apart, (state.sound key before).1))
        | inr (gave, link) ↦ (lower at key link, (at, is_common gave, link))
      ];
      step = λ up key here link earlier. elim (state.step up key here link (omega arith)) [
        | inl gone ↦ inl (settles.keeps key (λ same. absurd (omega (arith, same))) gone)
        | inr before ↦ by up key here link before (cases_order up at)
      ];
    }
      where
        below_it : (key : ℕ) → key ≤ at → key ≢ at → key < at
        below_it key within apart = elim (cases_order key at) [
          | inl same ↦ absurd (apart same)
          | inr (inl less) ↦ less
          | inr (inr more) ↦ absurd (omega arith)
        ]

        by : (up key : ℕ) → common up → parent up key → up < below → (up ≡ at) ⊎ (up < at) ⊎ (at < up) → (now key ≡ true) ⊎ (up < at)
        by up key here link before (inr (inl less)) = inr less
        by up key here link before (inr (inr more)) = absurd (none up more before here)
        by up key here link before (inl same) = inl (settles.adds (common_is (subst common same here)) key (subst (λ u. parent u key) same link))

    -- where none waits from one side any more, all of its that are left are outdone
    pub left_outdone : (from : ℕ → Type 0) (is : ℕ → Type 0) (below : ℕ) (waits outdone : ℕ → Bool) → IsSide parent from is → Waits parent from is below waits outdone → AreOutdone parent common below outdone → ((key : ℕ) → waits key ≡ true → ⊥)
        → (key : ℕ) → key < below → is key → common key × ((at : ℕ) × common at × parent at key)
    left_outdone from is below waits outdone side state gone none key under here =
        left_gone from is (λ low. common low × ((at : ℕ) × common at × parent at low)) below waits outdone side state none
        (λ low there. (let child = (gone.sound low there).1 in (down child.0 low child.1 child.2, child)))
        (λ at low above link. (down at low above.0 link, (at, above.0, link)))
        below key (omega arith) under here
