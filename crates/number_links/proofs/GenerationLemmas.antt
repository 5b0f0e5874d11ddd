-- Generations, as numbers get them, as more is learned and as numbers are renewed.
use Rattle.std.proofs.Common.{◌≡◌, ◌≢◌, ◌<◌, ◌≤◌, ◌+◌, ◌⊎◌, ℕ, true, List, [], ◌∷◌, Option, Some, None, All, Contains, IfNone, IfSome, SomeIff, get_or, is_some, nat_eq, if◌then◌else◌, unwrap_or, inl, inr, refl, sym, ap, subst, ◌∙◌, arith}
use Rattle.std.specs.Option.{option_map}
use Rattle.std.proofs.lemmas.Bool.{cases_eq, cond-false, cond-true}
use Rattle.std.proofs.lemmas.List.Elements.{All-contains, All-weaker}
use Rattle.number_links.specs.Facts.{Facts, Learned, goes_on, learned, parents_from, told}
use Rattle.number_links.specs.Generations.{AreGenerations, IsMarked, generation}
use Rattle.number_links.specs.Known.{Known, known, linked}
use Rattle.number_links.specs.declared.along.Along.TheVariants.{Parents}
use Rattle.number_links.proofs.FactLemmas.{learned_same, some_learned}

-- ---- what is known changes
links_in : Option (Learned ℕ) → List ℕ
links_in one = unwrap_or (option_map (λ l. l.links) one) []

parents_in : Option (Learned ℕ) → List ℕ
parents_in one = unwrap_or (option_map (λ l. parents_from l.links l.time) one) []

linked_in : (facts : Facts) (n : ℕ) → linked facts.links n ≡ links_in (learned facts n)
unfolding links_in
linked_in facts n = by (known facts.links n)
  where
    by : (o : Option (List ℕ)) → unwrap_or o [] ≡ links_in (option_map (λ links. told links (get_or facts.times n 0)) o)
    by None = refl
    by (Some to) = refl

goes_in : (facts : Facts) (n : ℕ) → goes_on Parents facts n ≡ parents_in (learned facts n)
unfolding parents_in
goes_in facts n = by (known facts.links n)
  where
    by : (o : Option (List ℕ)) → parents_from (unwrap_or o []) (get_or facts.times n 0) ≡ parents_in (option_map (λ links. told links (get_or facts.times n 0)) o)
    by None = refl
    by (Some []) = refl
    by (Some (tree ∷ parents)) = refl

pub linked_known : (links : Known) (n : ℕ) (to : List ℕ) → known links n ≡ Some to → linked links n ≡ to
linked_known links n to is = ap (λ o. unwrap_or o []) is

-- what is known of numbers with a generation stays
pub generations_stay : (facts now : Facts) (gs : List ℕ) → ((q : ℕ) → is_some (learned facts q) ≡ true → 1 < generation gs q → learned now q ≡ learned facts q) → AreGenerations facts gs → AreGenerations now gs
generations_stay facts now gs stays are = record {
  known = λ n high. sym (some_learned now n) ∙ ap is_some (same n high) ∙ some_learned facts n ∙ are.known n high;
  marked = λ n m high among. are.marked n m high (subst (λ ms. Contains ms m) (linked_in now n ∙ ap links_in (same n high) ∙ sym (linked_in facts n)) among);
  above = λ n p high among. are.above n p high (subst (λ ms. Contains ms p) (goes_same n high) among);
  lower = λ n p high among. are.lower n p high (subst (λ ms. Contains ms p) (goes_same n high) among);
}
  where
    same : (n : ℕ) → 1 < generation gs n → learned now n ≡ learned facts n
    same n high = stays n (some_learned facts n ∙ are.known n high) high

    goes_same : (n : ℕ) → 1 < generation gs n → goes_on Parents now n ≡ goes_on Parents facts n
    goes_same n high = goes_in now n ∙ ap parents_in (same n high) ∙ sym (goes_in facts n)

-- more is known
pub generations_more : (facts : Facts) (links : Known) (gs : List ℕ) → ((q : ℕ) → is_some (known facts.links q) ≡ true → known links q ≡ known facts.links q)
    → AreGenerations facts gs → AreGenerations (record { links = links; times = facts.times }) gs
generations_more facts links gs stays =
    generations_stay facts (record { links = links; times = facts.times }) gs (λ q there high. learned_same facts (record { links = links; times = facts.times }) q (stays q (sym (some_learned facts q) ∙ there)) refl)

-- a number without a generation and without a mark is renewed
pub generations_renewed : (facts : Facts) (links : Known) (n : ℕ) (gs : List ℕ) → generation gs n ≡ 0 → ((q : ℕ) (ms : List ℕ) → known facts.links q ≡ Some ms → q ≢ n → (Contains ms n → ⊥) → known links q ≡ Some ms)
    → AreGenerations facts gs → AreGenerations (record { links = links; times = facts.times }) gs
generations_renewed facts links n gs low stays are =
    generations_stay facts (record { links = links; times = facts.times }) gs (λ q there high. learned_same facts (record { links = links; times = facts.times }) q (by q high (known facts.links q) refl (are.known q high)) refl) are
  where
    by : (q : ℕ) → 1 < generation gs q → (o : Option (List ℕ)) → known facts.links q ≡ o → is_some o ≡ true → known links q ≡ known facts.links q
    by q high None none there = absurd (cc)
    by q high (Some ms) is there =
        stays q ms is (λ same. (let equal : generation gs q ≡ generation gs n = ap (generation gs) same in omega arith))
        (λ among. (let marked = are.marked q n high (subst (λ xs. Contains xs n) (sym (ap (λ o. unwrap_or o []) is)) among) in omega arith)) ∙ sym is

-- ---- numbers are marked, and one gets a generation
high_before : (old new : List ℕ) → IsMarked old new → (n : ℕ) → 1 < generation new n → generation new n ≡ generation old n
high_before old new marks n high = elim (marks n) [
  | inl same ↦ same
  | inr (low, one) ↦ absurd (omega (arith, one))
]

high_still : (old new : List ℕ) → IsMarked old new → (n : ℕ) → 1 < generation old n → generation new n ≡ generation old n
high_still old new marks n high = elim (marks n) [
  | inl same ↦ same
  | inr (low, one) ↦ absurd (omega (arith, low))
]

pub mark_still : (old new : List ℕ) → IsMarked old new → (n : ℕ) → 0 < generation old n → 0 < generation new n
mark_still old new marks n high = elim (marks n) [
  | inl same ↦ omega (arith, same)
  | inr (low, one) ↦ omega (arith, one)
]

pub marks_then : (old mid new : List ℕ) → IsMarked old mid → IsMarked mid new → IsMarked old new
marks_then old mid new first second n = elim (second n) [
  | inl same ↦ elim (first n) [
    | inl before ↦ inl (same ∙ before)
    | inr (low, one) ↦ inr (low, same ∙ one)
  ]
  | inr (low, one) ↦ elim (first n) [
    | inl before ↦ inr (sym before ∙ low, one)
    | inr (none, was) ↦ absurd (omega (arith, low, was))
  ]
]

-- 1 more than the greatest of these
pub under_next : (P : Type 0) (gs parents : List ℕ) (most : ℕ) (r : Option ℕ) → SomeIff r P (most + 1) → All (λ p. (1 < generation gs p) × (generation gs p ≤ most)) parents → IfSome r (λ next. All (λ p. (1 < generation gs p) × (generation gs p < next)) parents)
under_next P gs parents most None is below = tt
under_next P gs parents most (Some next) is below =
    All-weaker (λ p. (1 < generation gs p) × (generation gs p ≤ most)) (λ p. (1 < generation gs p) × (generation gs p < next)) (λ p one. (one.0, omega (arith, one.1, is.1))) parents below

-- which is 1 more than that of one of them, if the greatest is
pub still_of : (gs parents : List ℕ) (most more : ℕ) → more ≡ most → (most ≡ 1) ⊎ ((p : ℕ) × Contains parents p × (most ≡ generation gs p)) → (more ≡ 1) ⊎ ((p : ℕ) × Contains parents p × (more ≡ generation gs p))
still_of gs parents most more same (inl one) = inl (same ∙ one)
still_of gs parents most more same (inr of) = inr (of.0, of.1, same ∙ of.2)

pub next_tight : (P : Type 0) (gs parents : List ℕ) (most : ℕ) (r : Option ℕ) → SomeIff r P (most + 1) → (most ≡ 1) ⊎ ((p : ℕ) × Contains parents p × (most ≡ generation gs p))
    → IfSome r (λ next. (next ≡ 2) ⊎ ((p : ℕ) × Contains parents p × (next ≡ generation gs p + 1)))
next_tight P gs parents most None is of = tt
next_tight P gs parents most (Some next) is (inl one) = inl (omega (arith, is.1))
next_tight P gs parents most (Some next) is (inr of) = inr (of.0, of.1, is.1 ∙ ap (λ k. k + 1) of.2)

pub next_none : (gs parents : List ℕ) (most : ℕ) (r : Option ℕ) → SomeIff r (most + 1 < 4294967296) (most + 1) → most ≤ 4294967295 → (most ≡ 1) ⊎ ((p : ℕ) × Contains parents p × (most ≡ generation gs p))
    → IfNone r (((p : ℕ) × Contains parents p × (generation gs p < 2)) ⊎ ((p : ℕ) × Contains parents p × (generation gs p ≡ 4294967295)))
next_none gs parents most (Some next) is few of = tt
next_none gs parents most None is few (inl one) = absurd (is (omega arith))
next_none gs parents most None is few (inr of) = inr (of.0, of.1, (let full : most ≡ 4294967295 = past is in sym of.2 ∙ full))
  where
    past : (most + 1 < 4294967296 → ⊥) → most ≡ 4294967295
    past not = omega (arith, not)

-- numbers that have generations keep them, and no others get some
same_high : (facts : Facts) (old new : List ℕ) → ((n : ℕ) → 1 < generation new n → generation new n ≡ generation old n) → ((n : ℕ) → 1 < generation old n → generation new n ≡ generation old n) → ((n : ℕ) → 0 < generation old n → 0 < generation new n)
    → AreGenerations facts old → AreGenerations facts new
same_high facts old new before still marks are = record {
  known = λ n high. (let same = before n high in are.known n (omega arith));
  marked = λ n m high among. (let same = before n high in marks m (are.marked n m (omega arith) among));
  above = λ n p high among. (let same = before n high in let over = are.above n p (omega arith) among in let kept = still p over in omega arith);
  lower = λ n p high among. (let same = before n high in let over = are.above n p (omega arith) among in let kept = still p over in let under = are.lower n p (omega arith) among in omega arith);
}

pub generations_marked : (facts : Facts) (old new : List ℕ) → IsMarked old new → AreGenerations facts old → AreGenerations facts new
generations_marked facts old new marks = same_high facts old new (high_before old new marks) (high_still old new marks) (mark_still old new marks)

-- one number gets a generation
pub generations_raised : (facts : Facts) (old marked new : List ℕ) (n next : ℕ) (to : List ℕ) → AreGenerations facts old → generation old n ≤ 1 → known facts.links n ≡ Some to
    → 1 < next → All (λ p. (1 < generation old p) × (generation old p < next)) (goes_on Parents facts n) → IsMarked old marked → All (λ m. 0 < generation marked m) to
    → ((q : ℕ) → generation new q ≡ (if nat_eq q n then next else generation marked q)) → AreGenerations facts new
generations_raised facts old marked new n next to are low is_known least parents marks all_marked written = record {
  known = λ q high. elim (cases_eq q n) [
    | inl same ↦ ap (λ k. is_some (known facts.links k)) same ∙ ap is_some is_known
    | inr apart ↦ (let was = before q apart high in are.known q (omega arith))
  ];
  marked = λ q m high among. elim (cases_eq q n) [
    | inl same ↦ positive m (All-contains (λ k. 0 < generation marked k) to m all_marked (subst (λ ms. Contains ms m) (ap (linked facts.links) same ∙ ap (λ o. unwrap_or o []) is_known) among))
    | inr apart ↦ (let was = before q apart high in positive m (mark_still old marked marks m (are.marked q m (omega arith) among)))
  ];
  above = λ q p high among. elim (cases_eq q n) [
    | inl same ↦ (let parent = parent_of q p same among in let kept = still p parent.0 in let over = parent.0 in omega arith)
    | inr apart ↦ (let was = before q apart high in let over = are.above q p (omega arith) among in let kept = still p over in omega arith)
  ];
  lower = λ q p high among. elim (cases_eq q n) [
    | inl same ↦ (let parent = parent_of q p same among in let kept = still p parent.0 in let under = parent.1 in let now : generation new q ≡ next = ap (generation new) same ∙ here in omega arith)
    | inr apart ↦ (let was = before q apart high in let over = are.above q p (omega arith) among in let kept = still p over in let under = are.lower q p (omega arith) among in omega arith)
  ];
}
  where
    here : generation new n ≡ next
    here = written n ∙ cond-true (nat_eq n n) next (generation marked n) (search arith)

    other : (q : ℕ) → q ≢ n → generation new q ≡ generation marked q
    other q apart = written q ∙ cond-false (nat_eq q n) next (generation marked q) (search arith)

    before : (q : ℕ) → q ≢ n → 1 < generation new q → generation new q ≡ generation old q
    before q apart high = (let now = other q apart in now ∙ high_before old marked marks q (omega arith))

    still : (q : ℕ) → 1 < generation old q → generation new q ≡ generation old q
    still q high = other q (λ same. (let equal : generation old q ≡ generation old n = ap (generation old) same in omega arith)) ∙ high_still old marked marks q high

    positive : (m : ℕ) → 0 < generation marked m → 0 < generation new m
    positive m high = elim (cases_eq m n) [
      | inl same ↦ (let now : generation new m ≡ next = ap (generation new) same ∙ here in omega arith)
      | inr apart ↦ (let now = other m apart in omega arith)
    ]

    parent_of : (q p : ℕ) → q ≡ n → Contains (goes_on Parents facts q) p → (1 < generation old p) × (generation old p < next)
    parent_of q p same among = All-contains (λ k. (1 < generation old k) × (generation old k < next)) (goes_on Parents facts n) p parents (subst (λ k. Contains (goes_on Parents facts k) p) same among)
