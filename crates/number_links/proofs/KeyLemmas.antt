-- Keys of numbers, and what is reached from one of them.
use Rattle.std.proofs.Common.{◌≡◌, ◌≢◌, ◌⊎◌, ◌<◌, ◌≤◌, ◌++◌, ℕ, cond, Bool, true, false, List, [], ◌∷◌, Contains, length, inl, inr, refl, sym, ap, subst, ◌∙◌, arith}
use Rattle.std.specs.BTreeMap.{is_at}
use Rattle.std.specs.Cmp.{eq_by_cmp_equiv}
use Rattle.std.specs.declared.cmp.Ordering.{Ordering}
use Rattle.std.specs.declared.cmp.Ordering.TheVariants.{Less, Equal, Greater}
use Rattle.std.specs.FinMap.{nat_cmp-IsAntisymmetric}
use Rattle.std.specs.Ordering.{is_eq, nat_cmp}
use Rattle.std.proofs.lemmas.Bool.{cases_lt}
use Rattle.std.proofs.lemmas.Cmp.{nat_cmp_total}
use Rattle.std.proofs.lemmas.List.{get_or_past}
use Rattle.std.proofs.lemmas.List.Elements.{Contains-append_cases, Contains-append_left, Contains-append_right}
use Rattle.number_links.specs.Descent.{IsKey, IsParent, Puts, SettlesKey, key_of}
use Rattle.number_links.specs.Facts.{Facts, goes_on}
use Rattle.number_links.specs.Generations.{AreGenerations, generation}
use Rattle.number_links.specs.Reach.{IsReached, Root, Next}
use Rattle.number_links.specs.declared.along.Along.TheVariants.{Parents}
use Rattle.number_links.proofs.DescentLemmas.{IsSide, Waits}
use Rattle.number_links.proofs.SeeingLemmas.{sole_there}

-- ---- keys are put: those of some numbers, and then those of others
pub puts_both : (allowed : ℕ → Bool) (gs xs ys : List ℕ) (old mid new : ℕ → Bool) → Puts xs allowed gs old mid → Puts ys allowed gs mid new → Puts (xs ++ ys) allowed gs old new
puts_both allowed gs xs ys old mid new first second = record {
  keeps = λ key there. second.keeps key (first.keeps key there);
  only = λ key there. elim (second.only key there) [
    | inl before ↦ elim (first.only key before) [
      | inl long ↦ inl long
      | inr (n, among, seen, is) ↦ inr (n, Contains-append_left xs ys n among, seen, is)
    ]
    | inr (n, among, seen, is) ↦ inr (n, Contains-append_right xs ys n among, seen, is)
  ];
  adds = λ n among there. elim (Contains-append_cases xs ys n among) [
    | inl front ↦ second.keeps (key_of gs n) (first.adds n front there)
    | inr behind ↦ second.adds n behind there
  ];
}

-- ---- a key is taken out
same_key : (at key : ℕ) → is_at (nat_cmp at) key ≡ true → at ≡ key
same_key at key same = nat_cmp-IsAntisymmetric at key (equal (nat_cmp at key) same)
  where
    equal : (o : Ordering) → is_eq o ≡ true → o ≡ Equal
    equal Less e = cc
    equal Equal e = refl
    equal Greater e = cc

removed : (at key : ℕ) (old mid : Bool) → mid ≡ cond (is_at (nat_cmp at) key) false old → mid ≡ true → (key ≢ at) × (old ≡ true)
removed at key old mid took there = by (is_at (nat_cmp at) key) refl took
  where
    by : (b : Bool) → is_at (nat_cmp at) key ≡ b → mid ≡ cond b false old → (key ≢ at) × (old ≡ true)
    by true same is = absurd (cc (sym there ∙ is))
    by false apart is = (λ equal. (let no : false ≡ true = sym apart ∙ ap (is_at (nat_cmp at)) equal ∙ (eq_by_cmp_equiv nat_cmp_total).refl at in cc), sym is ∙ there)

stayed : (at key : ℕ) (old mid : Bool) → mid ≡ cond (is_at (nat_cmp at) key) false old → key ≢ at → old ≡ true → mid ≡ true
stayed at key old mid took apart there = by (is_at (nat_cmp at) key) refl took
  where
    by : (b : Bool) → is_at (nat_cmp at) key ≡ b → mid ≡ cond b false old → mid ≡ true
    by true same is = absurd (apart (sym (same_key at key same)))
    by false other is = is ∙ there

-- ---- each key is that of one number
module _ (gs : List ℕ) (few : length gs ≤ 4294967296) where
  pub bounded : (n : ℕ) → 1 < generation gs n → n < 4294967296
  bounded n high = elim (cases_lt n (length gs)) [
    | inl inside ↦ omega arith
    | inr past ↦ (let none = get_or_past gs n 0 past in absurd (omega arith))
  ]

  pub one_number : (n m : ℕ) → 1 < generation gs n → 1 < generation gs m → key_of gs n ≡ key_of gs m → n ≡ m
  one_number n m high high_too same = (let first = bounded n high in let second = bounded m high_too in omega arith)

  -- a key was taken out, and those of the parents of its number were put in
  pub settles_given : (next : ℕ → List ℕ) (allowed : ℕ → Bool) (at : ℕ) (is : IsKey gs at) (numbers : List ℕ) (old mid new : ℕ → Bool) → numbers ≡ next is.number
      → ((key : ℕ) → mid key ≡ cond (is_at (nat_cmp at) key) false (old key)) → Puts numbers allowed gs mid new → SettlesKey (IsParent next allowed gs) at true old new
  settles_given next allowed at is numbers old mid new parents took puts = record {
    keeps = λ key apart there. puts.keeps key (stayed at key (old key) (mid key) (took key) apart there);
    only = λ key there. elim (puts.only key there) [
      | inl in_mid ↦ inl (removed at key (old key) (mid key) (took key) in_mid)
      | inr (n, among, seen, of) ↦ inr (
        refl,
        record {
          child = is;
          parent = n;
          of = of;
          linked = subst (λ ns. Contains ns n) parents among;
          there = seen;
        },
      )
    ];
    adds = λ _ key parent.
        let same = one_number parent.child.number is.number parent.child.high is.high (sym parent.child.of ∙ is.of) in
        let among = subst (λ ns. Contains ns parent.parent) (ap next same ∙ sym parents) parent.linked in
        subst (λ k. new k ≡ true) (sym parent.of) (puts.adds parent.parent among parent.there);
  }

-- who is reached from some numbers, by key
abbrev pub Reaches : (ℕ → List ℕ) → (ℕ → Bool) → List ℕ → List ℕ → ℕ → Type 0
Reaches next allowed gs roots key = (n : ℕ) × IsReached next allowed roots n × (key ≡ key_of gs n)

-- a key is that of one of these numbers, which is allowed
abbrev pub IsRoot : (ℕ → Bool) → List ℕ → List ℕ → ℕ → Type 0
IsRoot allowed gs roots key = (n : ℕ) × Contains roots n × (allowed n ≡ true) × (key ≡ key_of gs n)

-- those of these numbers that are allowed have generations
abbrev pub AreHigh : (ℕ → Bool) → List ℕ → List ℕ → Type 0
AreHigh allowed gs roots = (n : ℕ) → Contains roots n → allowed n ≡ true → 1 < generation gs n

pub one_high : (allowed : ℕ → Bool) (gs : List ℕ) (root : ℕ) → 1 < generation gs root → AreHigh allowed gs (root ∷ [])
one_high allowed gs root high n is there = subst (λ m. 1 < generation gs m) (sole_there root n is) high

-- ---- what is reached from numbers with generations
module _ (facts : Facts) (allowed : ℕ → Bool) (gs : List ℕ) (few : length gs ≤ 4294967296) (are : AreGenerations facts gs) where
  abbrev next : ℕ → List ℕ
  next = goes_on Parents facts

  pub lower : (at key : ℕ) → IsParent next allowed gs at key → key < at
  lower at key parent =
      let child = parent.child in
      let under = are.lower child.number parent.parent child.high parent.linked in
      let small = bounded gs few parent.parent (are.above child.number parent.parent child.high parent.linked) in
      omega (arith, child.of, parent.of)

  module _ (roots : List ℕ) (high : AreHigh allowed gs roots) where
    pub reached_high : (n : ℕ) → IsReached next allowed roots n → 1 < generation gs n
    reached_high _ (Root n is there) = high n is there
    reached_high _ (Next from n reached linked there) = are.above from n (reached_high from reached) linked

    pub reached_under : (bound : ℕ) → ((key : ℕ) → IsRoot allowed gs roots key → key < bound) → (n : ℕ) → IsReached next allowed roots n → key_of gs n < bound
    reached_under bound under _ (Root n is there) = under (key_of gs n) (n, is, there, refl)
    reached_under bound under _ (Next from n reached linked there) =
        let before = reached_under bound under from reached in
        let less = are.lower from n (reached_high from reached) linked in
        let small = bounded gs few n (are.above from n (reached_high from reached) linked) in
        omega arith

    pub reached_at : (n : ℕ) → 1 < generation gs n → Reaches next allowed gs roots (key_of gs n) → IsReached next allowed roots n
    reached_at n high_n (m, reached, same) = subst (IsReached next allowed roots) (sym (one_number gs few n m high_n (reached_high m reached) same)) reached

    above_key : (key n : ℕ) → key ≡ key_of gs n → IsReached next allowed roots n → IsRoot allowed gs roots key ⊎ ((at : ℕ) × Reaches next allowed gs roots at × IsParent next allowed gs at key)
    above_key key _ of (Root n is there) = inl (n, is, there, of)
    above_key key _ of (Next from n reached linked there) = inr (
      key_of gs from,
      (from, reached, refl),
      record {
        child = record {
          number = from;
          of = refl;
          high = reached_high from reached;
        };
        parent = n;
        of = of;
        linked = linked;
        there = there;
      },
    )

    pub side : IsSide (IsParent next allowed gs) (IsRoot allowed gs roots) (Reaches next allowed gs roots)
    side = record {
      above = λ key here. above_key key here.0 here.2 here.1;
      below = λ at key here parent.
          (let child = parent.child in
          let same = one_number gs few here.0 child.number (reached_high here.0 here.1) child.high (sym here.2 ∙ child.of) in
          (parent.parent, Next child.number parent.parent (subst (IsReached next allowed roots) same here.1) parent.linked parent.there, parent.of));
    }

    -- each key that is reached is that of a number with a generation
    pub reached_key : (key : ℕ) → Reaches next allowed gs roots key → IsKey gs key
    reached_key key here = record {
      number = here.0;
      of = here.2;
      high = reached_high here.0 here.1;
    }

    -- at the start the keys of all roots wait, and are below the bound
    pub waits_first : (bound : ℕ) → ((key : ℕ) → IsRoot allowed gs roots key → key < bound) → (waits outdone : ℕ → Bool) → Puts roots allowed gs (λ _. false) waits
        → Waits (IsParent next allowed gs) (IsRoot allowed gs roots) (Reaches next allowed gs roots) bound waits outdone
    waits_first bound under waits outdone puts = record {
      sound = λ key there. elim (puts.only key there) [
        | inl before ↦ absurd (cc)
        | inr (n, among, seen, of) ↦ (under key (n, among, seen, of), (n, Root n among seen, of))
      ];
      root = λ key first _. subst (λ k. waits k ≡ true) (sym first.3) (puts.adds first.0 first.1 first.2);
      step = λ at key here link _. (let within = reached_under bound under here.0 here.1 in inr (inr (omega (arith, here.2))));
    }
