-- What wanted numbers reach and excluded ones do not, as one goes from greater keys to lower ones.
use Rattle.std.proofs.Common.{◌≡◌, ◌⊎◌, ◌↔◌, ◌<◌, ◌≤◌, not, ℕ, Bool, true, false, List, length, inl, inr, refl, sym, ap, subst, ◌∙◌, arith}
use Rattle.std.proofs.lemmas.Bool.{cases_Bool, cases_lt, cases_order, not-true}
use Rattle.number_links.specs.Descent.{IsKey, IsParent, Puts, SettlesKey, key_of}
use Rattle.number_links.specs.Facts.{Facts, goes_on}
use Rattle.number_links.specs.Generations.{AreGenerations}
use Rattle.number_links.specs.Reach.{IsReached}
use Rattle.number_links.specs.declared.along.Along.TheVariants.{Parents}
use Rattle.number_links.proofs.BestLemmas.{both_not}
use Rattle.number_links.proofs.DescentLemmas.{IsSide, Waits, between, here_waits, left_gone, waits_on}
use Rattle.number_links.proofs.KeyLemmas.{AreHigh, IsRoot, Reaches, lower, one_number, reached_at, reached_high, reached_key, reached_under, side, waits_first}

-- a number is reached from wanted ones alone
abbrev pub IsLeft : (ℕ → List ℕ) → (ℕ → Bool) → List ℕ → List ℕ → ℕ → Type 0
IsLeft next allowed wanted excluded n = IsReached next allowed wanted n × (IsReached next allowed excluded n → ⊥)

-- all keys from one on are done
pub record IsHistory (next : ℕ → List ℕ) (allowed : ℕ → Bool) (gs : List ℕ) (wanted excluded : List ℕ) (below : ℕ) (waits hides found : ℕ → Bool) : Type 0 where
  pub of_wanted : Waits (IsParent next allowed gs) (IsRoot allowed gs wanted) (Reaches next allowed gs wanted) below waits hides
  pub of_excluded : Waits (IsParent next allowed gs) (IsRoot allowed gs excluded) (Reaches next allowed gs excluded) below hides (λ _. false)
  pub only : (n : ℕ) → found n ≡ true → IsLeft next allowed wanted excluded n
  pub all : (n : ℕ) → below ≤ key_of gs n → IsLeft next allowed wanted excluded n → found n ≡ true

-- nothing waits, and nothing is settled
settles_none : (parent : ℕ → ℕ → Type 0) (at : ℕ) → SettlesKey parent at false (λ _. false) (λ _. false)
settles_none parent at = record {
  keeps = λ key apart there. absurd (both_not false there refl);
  only = λ key there. absurd (both_not false there refl);
  adds = λ followed. absurd (both_not false followed refl);
}

-- the last key that waits is not done
pub last_under : (below last at : ℕ) (waits hides : ℕ → Bool) → ((key : ℕ) → waits key ≡ true → key < below) → ((key : ℕ) → hides key ≡ true → key < below) → waits last ≡ true → (at ≡ last) ⊎ (hides at ≡ true) → at < below
last_under below last at waits hides within within_hides there latest = elim latest [
  | inl same ↦ subst (λ k. k < below) (sym same) (within last there)
  | inr hidden ↦ within_hides at hidden
]

module _ (facts : Facts) (allowed : ℕ → Bool) (gs : List ℕ) (few : length gs ≤ 4294967296) (are : AreGenerations facts gs) (wanted excluded : List ℕ) (high : AreHigh allowed gs wanted) (high_too : AreHigh allowed gs excluded) where
  abbrev next : ℕ → List ℕ
  next = goes_on Parents facts

  abbrev parent : ℕ → ℕ → Type 0
  parent = IsParent next allowed gs

  lower_key : (up key : ℕ) → parent up key → key < up
  lower_key = lower facts allowed gs few are

  wanted_side : IsSide parent (IsRoot allowed gs wanted) (Reaches next allowed gs wanted)
  wanted_side = side facts allowed gs few are wanted high

  excluded_side : IsSide parent (IsRoot allowed gs excluded) (Reaches next allowed gs excluded)
  excluded_side = side facts allowed gs few are excluded high_too

  -- ---- the start
  pub history_begins : (first bound : ℕ) (waits hides found : ℕ → Bool) → ((key : ℕ) → waits key ≡ true → key ≤ first) → first < bound → ((key : ℕ) → hides key ≡ true → key < bound)
      → Puts wanted allowed gs (λ _. false) waits → Puts excluded allowed gs (λ _. false) hides → ((n : ℕ) → found n ≡ false) → IsHistory next allowed gs wanted excluded bound waits hides found
  history_begins first bound waits hides found most under most_hides puts puts_too none = record {
    of_wanted = waits_first facts allowed gs few are wanted high bound root_under waits hides puts;
    of_excluded = waits_first facts allowed gs few are excluded high_too bound (λ key root. most_hides key (subst (λ k. hides k ≡ true) (sym root.3) (puts_too.adds root.0 root.1 root.2))) hides (λ _. false) puts_too;
    only = λ n there. absurd (both_not (found n) there (none n));
    all = λ n over is. (let within = reached_under facts allowed gs few are wanted high bound root_under n is.0 in absurd (omega arith));
  }
    where
      root_under : (key : ℕ) → IsRoot allowed gs wanted key → key < bound
      root_under key root = (let within = most key (subst (λ k. waits k ≡ true) (sym root.3) (puts.adds root.0 root.1 root.2)) in omega arith)

  -- ---- a step: one goes on from the greatest key that waits
  module _ (below last at : ℕ) (waits hides found : ℕ → Bool) (state : IsHistory next allowed gs wanted excluded below waits hides found) (there : waits last ≡ true) (latest : (at ≡ last) ⊎ (hides at ≡ true)) where
    pub history_key : IsKey gs at
    history_key = elim latest [
      | inl same ↦ subst (IsKey gs) (sym same) (reached_key facts allowed gs few are wanted high last (state.of_wanted.sound last there).1)
      | inr hidden ↦ reached_key facts allowed gs few are excluded high_too at (state.of_excluded.sound at hidden).1
    ]

    module _ (most : (key : ℕ) → waits key ≡ true → key ≤ at) (most_hides : (key : ℕ) → hides key ≡ true → key ≤ at) where
      under : at < below
      under = last_under below last at waits hides (λ key is. (state.of_wanted.sound key is).0) (λ key is. (state.of_excluded.sound key is).0) there latest

      waits_there : not (hides at) ≡ true → waits at ≡ true
      waits_there apart = elim latest [
        | inl same ↦ subst (λ k. waits k ≡ true) (sym same) there
        | inr hidden ↦ absurd (both_not (hides at) hidden (not-true (hides at) apart))
      ]

      either : (not (hides at) ≡ true) ⊎ (hides at ≡ true)
      either = elim (cases_Bool (hides at)) [
        | inl hidden ↦ inr hidden
        | inr apart ↦ inl (ap not apart)
      ]

      none_between : (key : ℕ) → at < key → key < below → Reaches next allowed gs wanted key → ⊥
      none_between key over before here = between parent lower_key (IsRoot allowed gs wanted) (Reaches next allowed gs wanted) below at waits hides wanted_side state.of_wanted most most_hides below key (omega arith) over before here

      excluded_waits : Reaches next allowed gs excluded at → hides at ≡ true
      excluded_waits here = elim (here_waits parent lower_key (IsRoot allowed gs excluded) (Reaches next allowed gs excluded) below at hides (λ _. false) excluded_side state.of_excluded most_hides (λ key is. absurd (both_not false is refl)) under here) [
        | inl hidden ↦ hidden
        | inr is ↦ absurd (both_not false is refl)
      ]

      left_here : (is : IsKey gs at) → not (hides at) ≡ true → IsLeft next allowed wanted excluded is.number
      left_here is apart = (
        reached_at facts allowed gs few are wanted high is.number is.high (subst (Reaches next allowed gs wanted) is.of (state.of_wanted.sound at (waits_there apart)).1),
        λ out. both_not (hides at) (excluded_waits (is.number, out, is.of)) (not-true (hides at) apart),
      )

      here_left : (is : IsKey gs at) → IsLeft next allowed wanted excluded is.number → not (hides at) ≡ true
      here_left is left = elim (cases_Bool (hides at)) [
        | inl hidden ↦ absurd (left.1 (reached_at facts allowed gs few are excluded high_too is.number is.high (subst (Reaches next allowed gs excluded) is.of (state.of_excluded.sound at hidden).1)))
        | inr apart ↦ ap not apart
      ]

      -- the number there is found exactly where its key is not that of an excluded one
      pub history_on : (now hidden found_now : ℕ → Bool) (is : IsKey gs at) → SettlesKey parent at (not (hides at)) waits now → SettlesKey parent at (hides at) hides hidden
          → ((n : ℕ) → found_now n ≡ true → ((not (hides at) ≡ true) × (n ≡ is.number)) ⊎ (found n ≡ true)) → ((n : ℕ) → found n ≡ true → found_now n ≡ true) → (not (hides at) ≡ true → found_now is.number ≡ true)
          → IsHistory next allowed gs wanted excluded at now hidden found_now
      history_on now hidden found_now is settles settles_too only keeps notes = record {
        of_wanted = waits_on parent lower_key (IsRoot allowed gs wanted) (Reaches next allowed gs wanted) below at (not (hides at)) (hides at) waits hides now hidden wanted_side state.of_wanted most most_hides under settles settles_too waits_there (λ _. either) (λ gone. gone);
        of_excluded = waits_on parent lower_key (IsRoot allowed gs excluded) (Reaches next allowed gs excluded) below at (hides at) false hides (λ _. false) hidden (λ _. false) excluded_side state.of_excluded most_hides (λ key gone. absurd (both_not false gone refl)) under settles_too (settles_none parent at) (λ gone. gone) (λ gone. inl gone) (λ gone. gone);
        only = λ n told. elim (only n told) [
          | inl (apart, same) ↦ subst (IsLeft next allowed wanted excluded) (sym same) (left_here is apart)
          | inr before ↦ state.only n before
        ];
        all = λ n over left. elim (cases_order at (key_of gs n)) [
          | inl same ↦
              let it = one_number gs few is.number n is.high (reached_high facts allowed gs few are wanted high n left.0) (sym is.of ∙ same) in
              subst (λ m. found_now m ≡ true) it (notes (here_left is (subst (IsLeft next allowed wanted excluded) (sym it) left)))
          | inr (inl later) ↦ elim (cases_lt (key_of gs n) below) [
            | inl before ↦ absurd (none_between (key_of gs n) later before (n, left.0, refl))
            | inr done ↦ keeps n (state.all n done left)
          ]
          | inr (inr earlier) ↦ absurd (omega arith)
        ];
      }

  -- ---- the end: where no wanted key waits, all are found
  pub history_told : (below : ℕ) (waits hides found : ℕ → Bool) → IsHistory next allowed gs wanted excluded below waits hides found → ((key : ℕ) → waits key ≡ false) → (n : ℕ) → (found n ≡ true) ↔ IsLeft next allowed wanted excluded n
  history_told below waits hides found state none n = (
    state.only n,
    λ left. elim (cases_lt (key_of gs n) below) [
      | inl before ↦ absurd (left.1 (hidden left.0 before))
      | inr done ↦ state.all n done left
    ],
  )
    where
      hidden : IsReached next allowed wanted n → key_of gs n < below → IsReached next allowed excluded n
      hidden reached before = reached_at facts allowed gs few are excluded high_too n (reached_high facts allowed gs few are wanted high n reached) (left_gone parent lower_key (IsRoot allowed gs wanted) (Reaches next allowed gs wanted) (Reaches next allowed gs excluded) below waits hides wanted_side state.of_wanted (λ key there. both_not (waits key) there (none key)) (λ key there. (state.of_excluded.sound key there).1) excluded_side.below below (key_of gs n) (omega arith) before (n, reached, refl))
