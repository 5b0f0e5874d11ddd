-- Generations in pages.
use Rattle.std.proofs.Common.{◌≡◌, ◌≢◌, ◌<◌, ◌≤◌, ◌*◌, ◌/◌, ◌%◌, ℕ, true, false, List, [], get_or, length, nat_eq, set, if◌then◌else◌, inl, inr, refl, sym, ap, ◌∙◌, arith}
use Rattle.std.proofs.lemmas.Bool.{cases_eq, cases_lt, cond-false, cond-true}
use Rattle.std.proofs.lemmas.List.{get_or-set_other, get_or-set_same, get_or_past}
use Rattle.std.proofs.lemmas.List.FromFn.{get_or-map-range_with_len, length-map-range_with_len}
use Rattle.number_links.specs.Generations.{words_of}

pub words_long : (pages : List (List ℕ)) → length (words_of pages) ≡ 4096 * length pages
unfolding words_of
words_long pages = length-map-range_with_len (λ n. get_or (get_or pages (n / 4096) []) (n % 4096) 0) 0 (4096 * length pages)

pub words_few : (pages : List (List ℕ)) → length pages ≤ 1048576 → length (words_of pages) ≤ 4294967296
words_few pages few = (let long = words_long pages in omega (arith, long, few))

-- no pages have no words
pub no_words : words_of [] ≡ []
unfolding words_of
no_words = refl

-- the word of a number is in its page
word_within : (pages : List (List ℕ)) (n : ℕ) → n < 4096 * length pages → get_or (words_of pages) n 0 ≡ get_or (get_or pages (n / 4096) []) (n % 4096) 0
unfolding words_of
word_within pages n inside = get_or-map-range_with_len (λ m. get_or (get_or pages (m / 4096) []) (m % 4096) 0) 0 (4096 * length pages) n n 0 inside (omega arith)

pub word_of : (pages : List (List ℕ)) (n : ℕ) → get_or (words_of pages) n 0 ≡ get_or (get_or pages (n / 4096) []) (n % 4096) 0
word_of pages n = elim (cases_lt n (4096 * length pages)) [
  | inl inside ↦ word_within pages n inside
  | inr past ↦
      (let long = words_long pages in
      get_or_past (words_of pages) n 0 (omega (arith, long, past)) ∙ sym (ap (λ page. get_or page (n % 4096) 0) (get_or_past pages (n / 4096) [] (omega (arith, past)))))
]

-- the same pages have the same words
pub words_alike : (pages now : List (List ℕ)) → ((i : ℕ) → get_or now i [] ≡ get_or pages i []) → (q : ℕ) → get_or (words_of now) q 0 ≡ get_or (words_of pages) q 0
words_alike pages now same q = word_of now q ∙ ap (λ page. get_or page (q % 4096) 0) (same (q / 4096)) ∙ sym (word_of pages q)

-- a word was written
pub word_set : (words : List ℕ) (k word : ℕ) → k < length words → (i : ℕ) → get_or (set words k word) i 0 ≡ (if nat_eq i k then word else get_or words i 0)
word_set words k word inside i = elim (cases_eq i k) [
  | inl same ↦ ap (λ j. get_or (set words k word) j 0) same ∙ get_or-set_same words k word 0 inside ∙ sym (cond-true (nat_eq i k) word (get_or words i 0) (search arith))
  | inr apart ↦ get_or-set_other words k i word 0 apart ∙ sym (cond-false (nat_eq i k) word (get_or words i 0) (search arith))
]

-- a word was written into its page, or none
module _ (pages : List (List ℕ)) (n : ℕ) (page : List ℕ) (inside : n / 4096 < length pages) where
  in_page : (q : ℕ) → q / 4096 ≡ n / 4096 → get_or (words_of (set pages (n / 4096) page)) q 0 ≡ get_or page (q % 4096) 0
  in_page q same =
      word_of (set pages (n / 4096) page) q ∙ ap (λ i. get_or (get_or (set pages (n / 4096) page) i []) (q % 4096) 0) same ∙ ap (λ p. get_or p (q % 4096) 0) (get_or-set_same pages (n / 4096) page [] inside)

  beside : (q : ℕ) → q / 4096 ≢ n / 4096 → get_or (words_of (set pages (n / 4096) page)) q 0 ≡ get_or (words_of pages) q 0
  beside q apart = word_of (set pages (n / 4096) page) q ∙ ap (λ p. get_or p (q % 4096) 0) (get_or-set_other pages (n / 4096) (q / 4096) page [] apart) ∙ sym (word_of pages q)

  there : (q : ℕ) → q / 4096 ≡ n / 4096 → get_or (words_of pages) q 0 ≡ get_or (get_or pages (n / 4096) []) (q % 4096) 0
  there q same = word_of pages q ∙ ap (λ i. get_or (get_or pages i []) (q % 4096) 0) same

  pub none_written : ((i : ℕ) → get_or page i 0 ≡ get_or (get_or pages (n / 4096) []) i 0) → (q : ℕ) → get_or (words_of (set pages (n / 4096) page)) q 0 ≡ get_or (words_of pages) q 0
  none_written still q = elim (cases_eq (q / 4096) (n / 4096)) [
    | inl same ↦ in_page q same ∙ still (q % 4096) ∙ sym (there q same)
    | inr apart ↦ beside q apart
  ]

  pub one_written : (word : ℕ) → ((i : ℕ) → get_or page i 0 ≡ (if nat_eq i (n % 4096) then word else get_or (get_or pages (n / 4096) []) i 0))
      → (q : ℕ) → get_or (words_of (set pages (n / 4096) page)) q 0 ≡ (if nat_eq q n then word else get_or (words_of pages) q 0)
  one_written word writes q = elim (cases_eq q n) [
    | inl same ↦
        in_page q (ap (λ m. m / 4096) same) ∙ writes (q % 4096) ∙ cond-true (nat_eq (q % 4096) (n % 4096)) word (get_or (get_or pages (n / 4096) []) (q % 4096) 0) (equal (q % 4096) (n % 4096) (ap (λ m. m % 4096) same))
        ∙ sym (cond-true (nat_eq q n) word (get_or (words_of pages) q 0) (equal q n same))
    | inr apart ↦ other apart ∙ sym (cond-false (nat_eq q n) word (get_or (words_of pages) q 0) (differs q n apart))
  ]
    where
      equal : (a b : ℕ) → a ≡ b → nat_eq a b ≡ true
      equal a b same = search arith

      differs : (a b : ℕ) → a ≢ b → nat_eq a b ≡ false
      differs a b apart = search arith

      other : q ≢ n → get_or (words_of (set pages (n / 4096) page)) q 0 ≡ get_or (words_of pages) q 0
      other apart = elim (cases_eq (q / 4096) (n / 4096)) [
        | inl same ↦
            in_page q same ∙ writes (q % 4096) ∙ cond-false (nat_eq (q % 4096) (n % 4096)) word (get_or (get_or pages (n / 4096) []) (q % 4096) 0) (differs (q % 4096) (n % 4096) (λ e. apart (omega (arith, same, e))))
            ∙ sym (there q same)
        | inr page_apart ↦ beside q page_apart
      ]
