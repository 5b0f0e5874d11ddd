-- Walks over numbers, as walks over names.
use Rattle.std.proofs.Common.{◌≡◌, ◌⊎◌, ◌||◌, inl, inr, ℕ, zero, suc, Bool, true, false, cond, List, [], ◌∷◌, Option, None, Some, Contains, is_some, get_or, map, nat_eq, refl, sym, ap, subst, ◌∙◌, arith}
use Rattle.std.specs.Option.{option_and_then, option_map, option_map_or, unwrap_or}
use Rattle.std.specs.FinMap.{contains_key, get}
use Rattle.git_name.proofs.Names.{name_exact, name_total}
use Rattle.fork_reach.specs.Reach.{IsReached, Root, Next}
use Rattle.number_links.specs.Bases.{IsBest as IsBestNumber, IsCommon as IsCommonNumber}
use Rattle.number_links.specs.Facts.{Facts, Learned, goes_from, goes_on, learned, learned_as, nothing, time_beside, told as told_by}
use Rattle.number_links.specs.Known.{known}
use Rattle.number_links.specs.declared.along.Along.{Along}
use Rattle.number_links.specs.declared.along.Along.TheVariants.{Links, Parents}
use Rattle.number_links.proofs.FactLemmas.{some_learned}
use Rattle.number_links.specs.Reach.{IsReached as Goes, Root as Begins, Next as GoesOn}
use Rattle.number_links.specs.Numbers.{Pages, has}
use Rattle.object_table.specs.declared.row.Row.{Row}
use Rattle.object_table.specs.declared.word.Word.{Word}
use Rattle.object_table.specs.Links.{AreLinks, leads_nowhere, led_from, named_links, next_along, numbered_name, rests_in}
use Rattle.object_table.specs.Rows.{AreRows, IsUsed, Rows, row_in}
use Rattle.object_table.specs.Views.{IsOwn, Sets, holds, word_by, word_in, words_of}
use Rattle.object_table.specs.Walked.{IsBest, IsBetween, IsCommon, IsMet}
use Rattle.object_table.specs.Words.{Words, is_visible, kept_as, words_that}
use Rattle.object_table.proofs.ChosenLemmas.{get_chosen}
use Rattle.object_table.proofs.LinkLemmas.{get_named, named_is, numbered_is}
use Rattle.object_table.proofs.RowLemmas.{none_is_some}
use Rattle.object_table.proofs.ViewLemmas.{get_words}

-- ---- elements of a mapped list
pub mapped_there : {A B : Type 0} (f : A → B) (xs : List A) (x : A) → Contains xs x → Contains (map f xs) (f x)
mapped_there f [] x is = absurd (let l = is.1 in omega (arith, l))
mapped_there f (y ∷ ys) x (zero, l, same) = (0, omega arith, ap f same)
mapped_there f (y ∷ ys) x (suc k, l, same) = (let later = mapped_there f ys x (k, omega (arith, l), same) in (suc later.0, (let m = later.1 in omega (arith, m)), later.2))

pub mapped_from : {A B : Type 0} (f : A → B) (xs : List A) (z : B) → Contains (map f xs) z → (x : A) × Contains xs x × (f x ≡ z)
mapped_from f [] z is = absurd (let l = is.1 in omega (arith, l))
mapped_from f (y ∷ ys) z (zero, l, same) = (y, (0, omega arith, refl), same)
mapped_from f (y ∷ ys) z (suc k, l, same) = (let later = mapped_from f ys z (k, omega (arith, l), same) in (later.0, (suc later.1.0, (let m = later.1.1 in omega (arith, m)), later.1.2), later.2))

-- ---- what a walk goes on to, of numbers and of names
goes_mapped : (f : ℕ → List ℕ) (along : Along) (ms : List ℕ) (w : ℕ) → goes_from along (map f ms) (time_beside ms w) ≡ map f (goes_from along ms w)
goes_mapped f Links ms w = refl
goes_mapped f Parents [] w = refl
goes_mapped f Parents (tree ∷ parents) w = by (nat_eq w 0)
  where
    by : (b : Bool) → cond b [] (map f parents) ≡ map f (cond b [] parents)
    by true = refl
    by false = refl

goes_among : (along : Along) (ms : List ℕ) (w m : ℕ) → Contains (goes_from along ms w) m → Contains ms m
goes_among Links ms w m is = is
goes_among Parents [] w m is = is
goes_among Parents (tree ∷ parents) w m is = by (nat_eq w 0) is
  where
    by : (b : Bool) → Contains (cond b [] parents) m → Contains (tree ∷ parents) m
    by true is = absurd (let l = is.1 in omega (arith, l))
    by false is = (suc is.0, (let l = is.1 in omega (arith, l)), is.2)

-- numbers as those of a tenant that sees them
abbrev pub as_sets : Pages → Sets
as_sets numbers = record { visible = numbers; staged = []; used = 0; total = 0 }

-- ---- what a tenant sees, by its rows
abbrev pub Seen : Rows → Sets → Words
Seen rows own = words_that is_visible (words_of rows own)

seen_word : (row : Row) (v s : Bool) → option_and_then (λ word. kept_as (is_visible word) word) (word_by row v s) ≡ cond v (word_by row true s) None
seen_word row true true = refl
seen_word row true false = refl
seen_word row false true = refl
seen_word row false false = refl

get_seen : (rows : Rows) (own : Sets) (q : List ℕ) → AreRows rows → get (Seen rows own) q ≡ option_and_then (λ (row : Row). cond (has own.visible row.number) (word_by row true (has own.staged row.number)) None) (row_in rows q)
get_seen rows own q are =
    get_chosen name_total name_exact (λ _ word. kept_as (is_visible word) word) (words_of rows own) q
    ∙ ap (option_and_then (λ word. kept_as (is_visible word) word)) (get_words rows own q are.distinct) ∙ by (row_in rows q)
  where
    by : (o : Option Row) → option_and_then (λ word. kept_as (is_visible word) word) (option_and_then (word_in own) o) ≡ option_and_then (λ (row : Row). cond (has own.visible row.number) (word_by row true (has own.staged row.number)) None) o
    by None = refl
    by (Some row) = seen_word row (has own.visible row.number) (has own.staged row.number)

some_word : (row : Row) (s : Bool) → is_some (word_by row true s) ≡ true
some_word row true = refl
some_word row false = refl

word_kind : (row : Row) (s : Bool) → option_map_or (λ (word : Word). leads_nowhere word.kind) (word_by row true s) false ≡ leads_nowhere row.kind
word_kind row true = refl
word_kind row false = refl

-- whether it is seen
pub seen_by_row : (rows : Rows) (own : Sets) (q : List ℕ) → AreRows rows → contains_key (Seen rows own) q ≡ option_map_or (λ (row : Row). has own.visible row.number) (row_in rows q) false
seen_by_row rows own q are = ap is_some (get_seen rows own q are) ∙ by (row_in rows q)
  where
    at : (row : Row) (v : Bool) → is_some (cond v (word_by row true (has own.staged row.number)) None) ≡ v
    at row true = some_word row (has own.staged row.number)
    at row false = refl

    by : (o : Option Row) → is_some (option_and_then (λ (row : Row). cond (has own.visible row.number) (word_by row true (has own.staged row.number)) None) o) ≡ option_map_or (λ (row : Row). has own.visible row.number) o false
    by None = refl
    by (Some row) = at row (has own.visible row.number)

module _ (rows : Rows) (own : Sets) (links : Facts) (are : AreRows rows) (is_own : IsOwn rows own) (are_links : AreLinks rows links) (along : Along) where
  abbrev pub next : List ℕ → List (List ℕ)
  next = next_along along (named_links rows links)

  abbrev pub nextn : ℕ → List ℕ
  nextn = goes_on along links

  -- a row of a name that is seen
  seen_row : (q : List ℕ) → contains_key (Seen rows own) q ≡ true → (row : Row) × (row_in rows q ≡ Some row) × (has own.visible row.number ≡ true)
  seen_row q there = by (row_in rows q) refl (sym (seen_by_row rows own q are) ∙ there)
    where
      by : (o : Option Row) → row_in rows q ≡ o → option_map_or (λ (row : Row). has own.visible row.number) o false ≡ true → (row : Row) × (row_in rows q ≡ Some row) × (has own.visible row.number ≡ true)
      by None none seen = (let differs : ⊥ = cc in absurd differs)
      by (Some row) is seen = (row, is, seen)

  row_seen : (q : List ℕ) (row : Row) → row_in rows q ≡ Some row → has own.visible row.number ≡ true → contains_key (Seen rows own) q ≡ true
  row_seen q row is seen = seen_by_row rows own q are ∙ ap (λ o. option_map_or (λ (row : Row). has own.visible row.number) o false) is ∙ seen

  kind_seen : (q : List ℕ) (row : Row) → row_in rows q ≡ Some row → has own.visible row.number ≡ true → option_map_or (λ (word : Word). leads_nowhere word.kind) (get (Seen rows own) q) false ≡ leads_nowhere row.kind
  kind_seen q row is seen =
      ap (λ o. option_map_or (λ (word : Word). leads_nowhere word.kind) o false) (get_seen rows own q are ∙ ap (option_and_then (λ (row : Row). cond (has own.visible row.number) (word_by row true (has own.staged row.number)) None)) is ∙ ap (λ b. cond b (word_by row true (has own.staged row.number)) None) seen)
      ∙ word_kind row (has own.staged row.number)

  rests_row : (q : List ℕ) (row : Row) → row_in rows q ≡ Some row → rests_in rows row.number ≡ leads_nowhere row.kind
  rests_row q row is = ap (λ o. option_map_or (λ (e : List ℕ × Row). leads_nowhere e.1.kind) o false) (numbered_is rows q row are is)

  led_row : (q : List ℕ) (row : Row) → row_in rows q ≡ Some row → get (named_links rows links) q ≡ option_map (learned_as (numbered_name rows)) (learned links row.number)
  led_row q row is = get_named rows links q are.distinct ∙ ap (option_and_then (led_from rows links)) is

  next_row : (q : List ℕ) (row : Row) → row_in rows q ≡ Some row → next q ≡ map (numbered_name rows) (nextn row.number)
  next_row q row is = ap (λ o. option_map_or (λ (one : Learned (List ℕ)). goes_from along one.links one.time) o []) (led_row q row is) ∙ at (known links.links row.number)
    where
      word : ℕ
      word = get_or links.times row.number 0

      at : (o : Option (List ℕ)) → option_map_or (λ (one : Learned (List ℕ)). goes_from along one.links one.time) (option_map (learned_as (numbered_name rows)) (option_map (λ ms. told_by ms word) o)) [] ≡ map (numbered_name rows) (goes_from along (unwrap_or o []) word)
      at None = none along
        where
          none : (a : Along) → [] ≡ map (numbered_name rows) (goes_from a [] word)
          none Links = refl
          none Parents = refl
      at (Some ms) = goes_mapped (numbered_name rows) along ms word

  -- numbers that lead on are in use
  next_used : (n m : ℕ) → Contains (nextn n) m → IsUsed rows m
  next_used n m is = at (known links.links n) refl is
    where
      word : ℕ
      word = get_or links.times n 0

      at : (o : Option (List ℕ)) → known links.links n ≡ o → Contains (goes_from along (unwrap_or o []) word) m → IsUsed rows m
      at None none among = absurd (let l = (goes_among along [] word m among).1 in omega (arith, l))
      at (Some ms) there among = are_links.used n (told_by ms word) m (ap (option_map (λ ls. told_by ls word)) there) (goes_among along ms word m among)

  -- the number of a name in use is its row's
  one_number : (m : ℕ) (q : List ℕ) (row : Row) → IsUsed rows m → numbered_name rows m ≡ q → row_in rows q ≡ Some row → m ≡ row.number
  one_number m q row used named is =
      (let name : used.name ≡ q = sym (named_is rows used.name used.row are used.here) ∙ ap (numbered_name rows) used.same ∙ named in
      let both : Some used.row ≡ Some row = sym used.here ∙ ap (row_in rows) name ∙ is in
      let one : used.row ≡ row = cc in
      sym used.same ∙ ap (λ (r : Row). r.number) one)

  -- what is known of a number is known of its name
  knows : (q : List ℕ) (row : Row) → row_in rows q ≡ Some row → is_some (known links.links row.number) ≡ true → contains_key (named_links rows links) q ≡ true
  knows q row here is = ap is_some (led_row q row here) ∙ by (learned links row.number) ∙ some_learned links row.number ∙ is
    where
      by : (o : Option (Learned ℕ)) → is_some (option_map (learned_as (numbered_name rows)) o) ≡ is_some o
      by None = refl
      by (Some to) = refl

  -- and so is what rests
  told : (q : List ℕ) (row : Row) → row_in rows q ≡ Some row → has own.visible row.number ≡ true → (rests_in rows row.number ≡ true) ⊎ (is_some (known links.links row.number) ≡ true)
      → (option_map_or (λ (word : Word). leads_nowhere word.kind) (get (Seen rows own) q) false ≡ true) ⊎ (contains_key (named_links rows links) q ≡ true)
  told q row here seen (inl rests) = inl (kind_seen q row here seen ∙ sym (rests_row q row here) ∙ rests)
  told q row here seen (inr is) = inr (knows q row here is)

  module _ (roots : List (List ℕ)) (numbers : List ℕ) (only : (n : ℕ) → Contains numbers n → IsUsed rows n × Contains roots (numbered_name rows n)) (all : (name : List ℕ) (row : Row) → Contains roots name → row_in rows name ≡ Some row → Contains numbers row.number) where
    goes_seen : (n : ℕ) → Goes nextn (has own.visible) numbers n → has own.visible n ≡ true
    goes_seen _ (Begins n root there) = there
    goes_seen _ (GoesOn from n before leads there) = there

    -- a number that is reached, as a name
    pub goes_named : (n : ℕ) → Goes nextn (has own.visible) numbers n → (q : List ℕ) (row : Row) → row_in rows q ≡ Some row → row.number ≡ n → IsReached next (Seen rows own) roots q
    goes_named _ (Begins n root there) q row is number =
        Root q (subst (Contains roots) (ap (numbered_name rows) (sym number) ∙ named_is rows q row are is) (only n root).1) (row_seen q row is (ap (has own.visible) number ∙ there))
    goes_named _ (GoesOn from n before leads there) q row is number =
        (let seen = goes_seen from before in
        let used = is_own.within from (held seen) in
        let earlier = goes_named from before used.name used.row used.here used.same in
        let led : Contains (next used.name) (numbered_name rows n) =
        subst (λ ns. Contains ns (numbered_name rows n)) (ap (λ k. map (numbered_name rows) (nextn k)) (sym used.same) ∙ sym (next_row used.name used.row used.here)) (mapped_there (numbered_name rows) (nextn from) n leads) in
        Next used.name q earlier (subst (Contains (next used.name)) (ap (numbered_name rows) (sym number) ∙ named_is rows q row are is) led) (row_seen q row is (ap (has own.visible) number ∙ there)))
      where
        held : has own.visible from ≡ true → holds own from ≡ true
        held seen = ap (λ b. b || has own.staged from) seen

    -- a name that is reached, as its number
    pub named_goes : (q : List ℕ) → IsReached next (Seen rows own) roots q → (row : Row) → row_in rows q ≡ Some row → Goes nextn (has own.visible) numbers row.number
    named_goes _ (Root q root there) row is =
        (let seen = seen_row q there in
        let both : Some seen.0 ≡ Some row = sym seen.1 ∙ is in
        let one : seen.0 ≡ row = cc in
        Begins row.number (all q row root is) (ap (λ (r : Row). has own.visible r.number) (sym one) ∙ seen.2))
    named_goes _ (Next from q before leads there) row is =
        (let seen = seen_row q there in
        let both : Some seen.0 ≡ Some row = sym seen.1 ∙ is in
        let one : seen.0 ≡ row = cc in
        let first = seen_row from (reached_seen from before) in
        let earlier = named_goes from before first.0 first.1 in
        let found = mapped_from (numbered_name rows) (nextn first.0.number) q (subst (λ ns. Contains ns q) (next_row from first.0 first.1) leads) in
        let number = one_number found.0 q row (next_used first.0.number found.0 found.1) found.2 is in
        GoesOn first.0.number row.number earlier (subst (Contains (nextn first.0.number)) number found.1) (ap (λ (r : Row). has own.visible r.number) (sym one) ∙ seen.2))
      where
        reached_seen : (p : List ℕ) → IsReached next (Seen rows own) roots p → contains_key (Seen rows own) p ≡ true
        reached_seen _ (Root p root there) = there
        reached_seen _ (Next from p before leads there) = there

  reached_row : (roots : List (List ℕ)) (q : List ℕ) → IsReached next (Seen rows own) roots q → (row : Row) × (row_in rows q ≡ Some row) × (has own.visible row.number ≡ true)
  reached_row roots _ (Root q root there) = seen_row q there
  reached_row roots _ (Next from q before leads there) = seen_row q there

  -- ---- what some names reach
  module _ (roots : List (List ℕ)) (numbers : List ℕ) (only : (n : ℕ) → Contains numbers n → IsUsed rows n × Contains roots (numbered_name rows n)) (all : (name : List ℕ) (row : Row) → Contains roots name → row_in rows name ≡ Some row → Contains numbers row.number) where
    pub reached_only : (found : ℕ → Bool) → ((n : ℕ) → found n ≡ true → Goes nextn (has own.visible) numbers n) → (q : List ℕ) → option_map_or (λ (row : Row). found row.number) (row_in rows q) false ≡ true → IsReached next (Seen rows own) roots q
    reached_only found is q there = by (row_in rows q) refl there
      where
        by : (o : Option Row) → row_in rows q ≡ o → option_map_or (λ (row : Row). found row.number) o false ≡ true → IsReached next (Seen rows own) roots q
        by None none found_it = (let differs : ⊥ = cc in absurd differs)
        by (Some row) here found_it = goes_named roots numbers only all row.number (is row.number found_it) q row here refl

    pub reached_all : (found : ℕ → Bool) → ((n : ℕ) → Goes nextn (has own.visible) numbers n → found n ≡ true) → (q : List ℕ) → IsReached next (Seen rows own) roots q → option_map_or (λ (row : Row). found row.number) (row_in rows q) false ≡ true
    reached_all found is q led =
        (let here = reached_row roots q led in
        ap (λ o. option_map_or (λ (row : Row). found row.number) o false) here.1 ∙ is here.0.number (named_goes roots numbers only all q led here.0 here.1))

    pub reached_known : ((n : ℕ) → Goes nextn (has own.visible) numbers n → (rests_in rows n ≡ true) ⊎ (is_some (known links.links n) ≡ true)) → (q : List ℕ) → IsReached next (Seen rows own) roots q
        → (option_map_or (λ (word : Word). leads_nowhere word.kind) (get (Seen rows own) q) false ≡ true) ⊎ (contains_key (named_links rows links) q ≡ true)
    reached_known is q led = (let here = reached_row roots q led in told q here.0 here.1 here.2 (is here.0.number (named_goes roots numbers only all q led here.0 here.1)))

  -- ---- between wanted and excluded names
  module _ (wanted excluded : List (List ℕ)) (ns ms : List ℕ)
      (only : (n : ℕ) → Contains ns n → IsUsed rows n × Contains wanted (numbered_name rows n)) (all : (name : List ℕ) (row : Row) → Contains wanted name → row_in rows name ≡ Some row → Contains ns row.number)
      (only_out : (n : ℕ) → Contains ms n → IsUsed rows n × Contains excluded (numbered_name rows n)) (all_out : (name : List ℕ) (row : Row) → Contains excluded name → row_in rows name ≡ Some row → Contains ms row.number) where
    pub between_only : (found : ℕ → Bool) → ((n : ℕ) → found n ≡ true → Goes nextn (has own.visible) ns n × (Goes nextn (has own.visible) ms n → ⊥))
        → (q : List ℕ) → option_map_or (λ (row : Row). found row.number) (row_in rows q) false ≡ true → IsBetween (Seen rows own) next wanted excluded q
    between_only found is q there = by (row_in rows q) refl there
      where
        by : (o : Option Row) → row_in rows q ≡ o → option_map_or (λ (row : Row). found row.number) o false ≡ true → IsBetween (Seen rows own) next wanted excluded q
        by None none found_it = (let differs : ⊥ = cc in absurd differs)
        by (Some row) here found_it = record {
          led = goes_named wanted ns only all row.number (is row.number found_it).0 q row here refl;
          left = λ out. (is row.number found_it).1 (named_goes excluded ms only_out all_out q out row here);
        }

    pub between_all : (found : ℕ → Bool) → ((n : ℕ) → Goes nextn (has own.visible) ns n → (Goes nextn (has own.visible) ms n → ⊥) → found n ≡ true)
        → (q : List ℕ) → IsBetween (Seen rows own) next wanted excluded q → option_map_or (λ (row : Row). found row.number) (row_in rows q) false ≡ true
    between_all found is q between =
        (let here = reached_row wanted q between.led in
        ap (λ o. option_map_or (λ (row : Row). found row.number) o false) here.1
        ∙ is here.0.number (named_goes wanted ns only all q between.led here.0 here.1) (λ out. between.left (goes_named excluded ms only_out all_out here.0.number out q here.0 here.1 refl)))

    pub between_known : ((n : ℕ) → Goes nextn (has own.visible) ns n ⊎ Goes nextn (has own.visible) ms n → (rests_in rows n ≡ true) ⊎ (is_some (known links.links n) ≡ true))
        → (q : List ℕ) → IsMet (Seen rows own) next wanted excluded q
        → (option_map_or (λ (word : Word). leads_nowhere word.kind) (get (Seen rows own) q) false ≡ true) ⊎ (contains_key (named_links rows links) q ≡ true)
    between_known is q (inl led) = (let here = reached_row wanted q led in told q here.0 here.1 here.2 (is here.0.number (inl (named_goes wanted ns only all q led here.0 here.1))))
    between_known is q (inr led) = (let here = reached_row excluded q led in told q here.0 here.1 here.2 (is here.0.number (inr (named_goes excluded ms only_out all_out q led here.0 here.1))))

  -- ---- a step by names is one by numbers
  leads_number : (from q : List ℕ) (first row : Row) → row_in rows from ≡ Some first → row_in rows q ≡ Some row → Contains (next from) q → Contains (nextn first.number) row.number
  leads_number from q first row here is leads =
      let found = mapped_from (numbered_name rows) (nextn first.number) q (subst (λ ns. Contains ns q) (next_row from first here) leads) in
      subst (Contains (nextn first.number)) (one_number found.0 q row (next_used first.number found.0 found.1) found.2 is) found.1

  leads_name : (from q : List ℕ) (first row : Row) → row_in rows from ≡ Some first → row_in rows q ≡ Some row → Contains (nextn first.number) row.number → Contains (next from) q
  leads_name from q first row here is leads =
      let led : Contains (next from) (numbered_name rows row.number) = subst (λ ns. Contains ns (numbered_name rows row.number)) (sym (next_row from first here)) (mapped_there (numbered_name rows) (nextn first.number) row.number leads) in
      subst (Contains (next from)) (named_is rows q row are is) led

  one_row : (q : List ℕ) (row other : Row) → row_in rows q ≡ Some row → row_in rows q ≡ Some other → row ≡ other
  one_row q row other here is = (let both : Some row ≡ Some other = sym here ∙ is in cc)

  -- ---- best common ancestors
  module _ (a b : List ℕ) (first second : Row) (here_a : row_in rows a ≡ Some first) (here_b : row_in rows b ≡ Some second) where
    sole : {A : Type 0} (x y : A) → Contains (x ∷ []) y → x ≡ y
    sole x y (zero, l, same) = same
    sole x y (suc k, l, same) = absurd (omega (arith, l))

    sole_only : (q : List ℕ) (row : Row) → row_in rows q ≡ Some row → (n : ℕ) → Contains (row.number ∷ []) n → IsUsed rows n × Contains (q ∷ []) (numbered_name rows n)
    sole_only q row here n among =
        let same : row.number ≡ n = sole row.number n among in (
          record { name = q; row = row; here = here; same = same },
          (0, omega arith, sym (ap (numbered_name rows) (sym same) ∙ named_is rows q row are here)),
        )

    sole_all : (q : List ℕ) (row : Row) → row_in rows q ≡ Some row → (name : List ℕ) (other : Row) → Contains (q ∷ []) name → row_in rows name ≡ Some other → Contains (row.number ∷ []) other.number
    sole_all q row here name other among is = (0, omega arith, ap (λ (r : Row). r.number) (one_row q row other here (ap (row_in rows) (sole q name among) ∙ is)))

    named_common : (q : List ℕ) (row : Row) → row_in rows q ≡ Some row → IsCommonNumber nextn (has own.visible) first.number second.number row.number → IsCommon (Seen rows own) next a b q
    named_common q row here common = (
      goes_named (a ∷ []) (first.number ∷ []) (sole_only a first here_a) (sole_all a first here_a) row.number common.0 q row here refl,
      goes_named (b ∷ []) (second.number ∷ []) (sole_only b second here_b) (sole_all b second here_b) row.number common.1 q row here refl,
    )

    common_numbers : (q : List ℕ) (row : Row) → row_in rows q ≡ Some row → IsCommon (Seen rows own) next a b q → IsCommonNumber nextn (has own.visible) first.number second.number row.number
    common_numbers q row here common = (
      named_goes (a ∷ []) (first.number ∷ []) (sole_only a first here_a) (sole_all a first here_a) q common.0 row here,
      named_goes (b ∷ []) (second.number ∷ []) (sole_only b second here_b) (sole_all b second here_b) q common.1 row here,
    )

    pub best_only : (found : ℕ → Bool) → ((n : ℕ) → found n ≡ true → IsBestNumber nextn (has own.visible) first.number second.number n)
        → (q : List ℕ) → option_map_or (λ (row : Row). found row.number) (row_in rows q) false ≡ true → IsBest (Seen rows own) next a b q
    best_only found is q there = by (row_in rows q) refl there
      where
        by : (o : Option Row) → row_in rows q ≡ o → option_map_or (λ (row : Row). found row.number) o false ≡ true → IsBest (Seen rows own) next a b q
        by None none found_it = (let differs : ⊥ = cc in absurd differs)
        by (Some row) here found_it =
            (let best = is row.number found_it in
            record {
              common = named_common q row here best.common;
              alone = λ other common apart leads.
                  let it = reached_row (a ∷ []) other common.0 in
                  best.alone it.0.number (common_numbers other it.0 it.1 common)
                  (λ same. apart (sym (named_is rows other it.0 are it.1) ∙ ap (numbered_name rows) same ∙ named_is rows q row are here))
                  (leads_number other q it.0 row it.1 here leads);
            })

    pub best_all : (found : ℕ → Bool) → ((n : ℕ) → IsBestNumber nextn (has own.visible) first.number second.number n → found n ≡ true)
        → (q : List ℕ) → IsBest (Seen rows own) next a b q → option_map_or (λ (row : Row). found row.number) (row_in rows q) false ≡ true
    best_all found is q best =
        let here = reached_row (a ∷ []) q best.common.0 in
        ap (λ o. option_map_or (λ (row : Row). found row.number) o false) here.1
        ∙ is here.0.number (record {
          common = common_numbers q here.0 here.1 best.common;
          alone = λ m common apart leads.
              let used = is_own.within m (ap (λ v. v || has own.staged m) (goes_seen (a ∷ []) (first.number ∷ []) (sole_only a first here_a) (sole_all a first here_a) m common.0)) in
              let named = named_common used.name used.row used.here (subst (IsCommonNumber nextn (has own.visible) first.number second.number) (sym used.same) common) in
              best.alone used.name named
              (λ same. apart (sym used.same ∙ ap (λ (r : Row). r.number) (one_row q used.row here.0 (ap (row_in rows) (sym same) ∙ used.here) here.1)))
              (leads_name used.name q used.row here.0 used.here here.1 (subst (λ n. Contains (nextn n) here.0.number) (sym used.same) leads));
        })

    pub best_known : ((n : ℕ) → Goes nextn (has own.visible) (first.number ∷ []) n ⊎ Goes nextn (has own.visible) (second.number ∷ []) n → is_some (known links.links n) ≡ true)
        → (q : List ℕ) → IsMet (Seen rows own) next (a ∷ []) (b ∷ []) q → contains_key (named_links rows links) q ≡ true
    best_known is q (inl led) =
        (let here = reached_row (a ∷ []) q led in
        knows q here.0 here.1 (is here.0.number (inl (named_goes (a ∷ []) (first.number ∷ []) (sole_only a first here_a) (sole_all a first here_a) q led here.0 here.1))))
    best_known is q (inr led) =
        (let here = reached_row (b ∷ []) q led in
        knows q here.0 here.1 (is here.0.number (inr (named_goes (b ∷ []) (second.number ∷ []) (sole_only b second here_b) (sole_all b second here_b) q led here.0 here.1))))

  -- ---- what is known once all that some names lead to is kept
  module _ (after : Facts) (only : (n : ℕ) (ms : Learned ℕ) → learned after n ≡ Some ms → (learned links n ≡ Some ms) ⊎ ((ms ≡ nothing) × (has own.visible n ≡ true) × (rests_in rows n ≡ true))) where
    seen_used : (n : ℕ) → has own.visible n ≡ true → IsUsed rows n
    seen_used n seen = is_own.within n (ap (λ b. b || has own.staged n) seen)

    pub kept_links : AreLinks rows after
    kept_links = record {
      own = λ n to is. elim (only n to is) [
        | inl before ↦ are_links.own n to before
        | inr rests ↦ seen_used n rests.1
      ];
      used = λ n to m is among. elim (only n to is) [
        | inl before ↦ are_links.used n to m before among
        | inr rests ↦ absurd (no_element to m rests.0 among)
      ];
    }
      where
        no_element : (to : Learned ℕ) (m : ℕ) → to ≡ nothing → Contains to.links m → ⊥
        no_element to m is among = (let out = subst (λ (one : Learned ℕ). Contains one.links m) is among in let l = out.1 in omega (arith, l))

    pub kept_named : (q : List ℕ) (names : Learned (List ℕ)) → get (named_links rows after) q ≡ Some names
        → (get (named_links rows links) q ≡ Some names) ⊎ ((names ≡ nothing) × (option_map_or (λ (word : Word). leads_nowhere word.kind) (get (Seen rows own) q) false ≡ true))
    kept_named q names is = by (row_in rows q) refl (sym (get_named rows after q are.distinct) ∙ is)
      where
        by : (o : Option Row) → row_in rows q ≡ o → option_and_then (led_from rows after) o ≡ Some names
            → (get (named_links rows links) q ≡ Some names) ⊎ ((names ≡ nothing) × (option_map_or (λ (word : Word). leads_nowhere word.kind) (get (Seen rows own) q) false ≡ true))
        by None none led = none_is_some _ names led
        by (Some row) here led = at (learned after row.number) refl led
          where
            at : (o : Option (Learned ℕ)) → learned after row.number ≡ o → option_map (learned_as (numbered_name rows)) o ≡ Some names
                → (get (named_links rows links) q ≡ Some names) ⊎ ((names ≡ nothing) × (option_map_or (λ (word : Word). leads_nowhere word.kind) (get (Seen rows own) q) false ≡ true))
            at None none led = none_is_some _ names led
            at (Some ms) knows led = elim (only row.number ms knows) [
              | inl before ↦ inl (led_row q row here ∙ ap (option_map (learned_as (numbered_name rows))) before ∙ led)
              | inr rests ↦
                  (let both : Some (learned_as (numbered_name rows) ms) ≡ Some names = led in
                  let one : learned_as (numbered_name rows) ms ≡ names = cc in
                  inr (sym one ∙ ap (learned_as (numbered_name rows)) rests.0, kind_seen q row here rests.1 ∙ sym (rests_row q row here) ∙ rests.2))
            ]
