-- What names lead to, as names come and go and links are learned.
use Rattle.std.proofs.Common.{◌≡◌, ◌≢◌, ◌⊎◌, inl, inr, ℕ, zero, suc, Bool, true, false, cond, List, [], ◌∷◌, Option, None, Some, Contains, is_some, map, nat_eq, refl, sym, ap, subst, ◌∙◌, arith}
use Rattle.std.specs.List.{AllByRecursion, IsDistinct}
use Rattle.std.specs.Map.{keys_of, lookup}
use Rattle.std.specs.Option.{option_and_then, option_map, option_map_or}
use Rattle.std.specs.FinMap.{contains_key, from_entries, get, same_map}
use Rattle.std.proofs.lemmas.Cmp.{nat_list_eq_equiv}
use Rattle.git_name.specs.Name.{name_cmp}
use Rattle.git_name.specs.Same.{same_name}
use Rattle.git_name.proofs.HashMaps.{distinct_by_order, get_of_hashed}
use Rattle.git_name.proofs.Names.{name_exact, name_total}
use Rattle.number_links.specs.Facts.{Facts, Learned, learned, learned_as, told}
use Rattle.object_table.specs.declared.row.Row.{Row}
use Rattle.object_table.specs.Links.{AreLinks, KeepsNumbers, KnowsNoMore, led_from, named_links, numbered, numbered_name}
use Rattle.object_table.specs.Clashes.{DescribesUnheld}
use Rattle.object_table.specs.Rows.{AreRows, IsUsed, Rows, TellSame, row_in}
use Rattle.object_table.proofs.ListingLemmas.{distinct_none}
use Rattle.object_table.proofs.ChosenLemmas.{chosen_of_distinct, get_chosen}
use Rattle.object_table.proofs.PlaceLemmas.{one_name, own_name}
use Rattle.object_table.proofs.RowLemmas.{none_is_some}
use Rattle.object_table.proofs.ViewLemmas.{told_back, told_row}

-- ---- the name that has a number
eq_number : (m n : ℕ) → nat_eq m n ≡ true → m ≡ n
eq_number m n is = search (is, arith)

same_number : (m n : ℕ) → m ≡ n → nat_eq m n ≡ true
same_number m n is = search (is, arith)

-- where none has it, no row does
none_numbered : (rows : Rows) (n : ℕ) (q : List ℕ) (row : Row) → numbered rows n ≡ None → row_in rows q ≡ Some row → row.number ≢ n
none_numbered [] n q row none here = none_is_some _ row here
none_numbered (e ∷ rows) n q row none here = by (λ left found. none_numbered rows n q row left found) (nat_eq e.1.number n) refl
  where
    by : (numbered rows n ≡ None → row_in rows q ≡ Some row → row.number ≢ n) → (b : Bool) → nat_eq e.1.number n ≡ b → row.number ≢ n
    by later true is = none_is_some _ e (sym (ap (λ b. cond b (Some e) (numbered rows n)) (sym is) ∙ none))
    by later false apart = at (same_name q e.0) refl
      where
        left : numbered rows n ≡ None
        left = ap (λ b. cond b (Some e) (numbered rows n)) (sym apart) ∙ none

        at : (b : Bool) → same_name q e.0 ≡ b → row.number ≢ n
        at true same =
            (let it : Some e.1 ≡ Some row = ap (λ b. cond b (Some e.1) (lookup (same_name q) rows)) (sym same) ∙ here in
            let one : e.1 ≡ row = cc in
            λ is. (let bad : true ≡ false = sym (same_number e.1.number n (ap (λ (r : Row). r.number) one ∙ is)) ∙ apart in absurd (let wrong : ⊥ = cc in wrong)))
        at false other = later left (ap (λ b. cond b (Some e.1) (lookup (same_name q) rows)) (sym other) ∙ here)

-- a name that none of these is, and one of these, are two
other_name : (name : List ℕ) (es : Rows) (q : List ℕ) (row : Row) → AllByRecursion (λ y. same_name name y ≡ false) (keys_of es) → row_in es q ≡ Some row → same_name q name ≡ false
other_name name [] q row all here = none_is_some _ row here
other_name name (y ∷ es) q row all here = by (λ found. other_name name es q row all.1 found) (same_name q y.0) refl
  where
    by : (row_in es q ≡ Some row → same_name q name ≡ false) → (b : Bool) → same_name q y.0 ≡ b → same_name q name ≡ false
    by later true same = ap (λ k. same_name k name) (one_name q y.0 same) ∙ nat_list_eq_equiv.symm y.0 name ∙ all.0
    by later false away = later (ap (λ b. cond b (Some y.1) (lookup (same_name q) es)) (sym away) ∙ here)

-- what has a number is a row, and has it
numbered_found : (rows : Rows) (n : ℕ) (e : List ℕ × Row) → IsDistinct same_name (keys_of rows) → numbered rows n ≡ Some e → (row_in rows e.0 ≡ Some e.1) × (e.1.number ≡ n)
unfolding IsDistinct
numbered_found [] n e distinct is = none_is_some _ e is
numbered_found (x ∷ rows) n e distinct is = by (λ found. numbered_found rows n e distinct.1 found) (nat_eq x.1.number n) refl
  where
    by : (numbered rows n ≡ Some e → (row_in rows e.0 ≡ Some e.1) × (e.1.number ≡ n)) → (b : Bool) → nat_eq x.1.number n ≡ b → (row_in (x ∷ rows) e.0 ≡ Some e.1) × (e.1.number ≡ n)
    by before true same =
        (let it : Some x ≡ Some e = ap (λ b. cond b (Some x) (numbered rows n)) (sym same) ∙ is in
        let one : x ≡ e = cc in
        subst (λ (p : List ℕ × Row). (row_in (x ∷ rows) p.0 ≡ Some p.1) × (p.1.number ≡ n)) one (ap (λ b. cond b (Some x.1) (lookup (same_name x.0) rows)) (own_name x.0), eq_number x.1.number n same))
    by before false apart =
        (let later = before (ap (λ b. cond b (Some x) (numbered rows n)) (sym apart) ∙ is) in
        (ap (λ b. cond b (Some x.1) (lookup (same_name e.0) rows)) (other_name x.0 rows e.0 e.1 distinct.0 later.0) ∙ later.0, later.1))

-- a number that is not in use has no row
pub numbered_none : (rows : Rows) (n : ℕ) → IsDistinct same_name (keys_of rows) → (IsUsed rows n → ⊥) → numbered rows n ≡ None
numbered_none rows n distinct unused = by (numbered rows n) refl
  where
    by : (o : Option (List ℕ × Row)) → numbered rows n ≡ o → o ≡ None
    by None none = refl
    by (Some e) is = (let found = numbered_found rows n e distinct is in absurd (unused (record { name = e.0; row = e.1; here = found.0; same = found.1 })))

-- the row of a name is the one that has its number
pub numbered_is : (rows : Rows) (q : List ℕ) (row : Row) → AreRows rows → row_in rows q ≡ Some row → numbered rows row.number ≡ Some (q, row)
numbered_is rows q row are here = by (numbered rows row.number) refl
  where
    by : (o : Option (List ℕ × Row)) → numbered rows row.number ≡ o → o ≡ Some (q, row)
    by None none = absurd (none_numbered rows row.number q row none here refl)
    by (Some e) is =
        (let found = numbered_found rows row.number e are.distinct is in
        let name : q ≡ e.0 = one_name q e.0 (are.numbers q e.0 row e.1 here found.0 (sym found.1)) in
        let rows_are : Some e.1 ≡ Some row = sym found.0 ∙ ap (row_in rows) (sym name) ∙ here in
        let row_is : e.1 ≡ row = cc in
        ap Some ((λ i. (sym name i, row_is i))))

pub named_is : (rows : Rows) (q : List ℕ) (row : Row) → AreRows rows → row_in rows q ≡ Some row → numbered_name rows row.number ≡ q
named_is rows q row are here = ap (λ o. option_map_or (λ (e : List ℕ × Row). e.0) o []) (numbered_is rows q row are here)

-- ---- what names lead to
pub get_named : (rows : Rows) (links : Facts) (q : List ℕ) → IsDistinct same_name (keys_of rows) → get (named_links rows links) q ≡ option_and_then (led_from rows links) (row_in rows q)
get_named rows links q distinct =
    ap (λ m. get m q) (chosen_of_distinct {R = name_cmp} name_total name_exact (λ _ row. led_from rows links row) rows (distinct_by_order (keys_of rows) distinct))
    ∙ get_chosen name_total name_exact (λ _ row. led_from rows links row) (from_entries {R = name_cmp} rows) q
    ∙ ap (option_and_then (led_from rows links)) (get_of_hashed rows q)

map_same : (f g : ℕ → List ℕ) (xs : List ℕ) → ((x : ℕ) → Contains xs x → f x ≡ g x) → map f xs ≡ map g xs
map_same f g [] each = refl
map_same f g (x ∷ xs) each = (λ i. each x (0, omega arith, refl) i ∷ map_same f g xs (λ y is. each y (suc is.0, (let l = is.1 in omega (arith, l)), is.2)) i)

as_same : (f g : ℕ → List ℕ) (one : Learned ℕ) → ((x : ℕ) → Contains one.links x → f x ≡ g x) → learned_as f one ≡ learned_as g one
as_same f g one each = (let links = map_same f g one.links each in λ i. record { links = links i; time = one.time })

-- where nothing is known of any number
pub nothing_linked : (rows : Rows) (links : Facts) → ((n : ℕ) → learned links n ≡ None) → AreLinks rows links
nothing_linked rows links nothing = record {
  own = λ n to is. none_is_some _ to (sym (nothing n) ∙ is);
  used = λ n to m is among. none_is_some _ to (sym (nothing n) ∙ is);
}

pub nothing_led : (rows : Rows) (links : Facts) (q : List ℕ) → rows ≡ [] → get (named_links rows links) q ≡ None
nothing_led rows links q none = ap (λ es. get (named_links es links) q) none ∙ get_named [] links q distinct_none

-- the time of a name
pub time_row : (rows : Rows) (links : Facts) (q : List ℕ) (row : Row) → IsDistinct same_name (keys_of rows) → row_in rows q ≡ Some row
    → option_map (λ (one : Learned ℕ). one.time) (learned links row.number) ≡ option_map (λ (one : Learned (List ℕ)). one.time) (get (named_links rows links) q)
time_row rows links q row distinct here = sym (ap (option_map (λ (one : Learned (List ℕ)). one.time)) (get_named rows links q distinct ∙ ap (option_and_then (led_from rows links)) here) ∙ by (learned links row.number))
  where
    by : (o : Option (Learned ℕ)) → option_map (λ (one : Learned (List ℕ)). one.time) (option_map (learned_as (numbered_name rows)) o) ≡ option_map (λ (one : Learned ℕ). one.time) o
    by None = refl
    by (Some one) = refl

-- something is known of it just where its time is
pub some_timed : (o : Option (Learned (List ℕ))) → is_some (option_map (λ (one : Learned (List ℕ)). one.time) o) ≡ is_some o
some_timed None = refl
some_timed (Some one) = refl

-- what the object of one row leads to is learned
pub learned_named : (rows : Rows) (links after : Facts) (name : List ℕ) (row : Row) (to : Learned ℕ) → AreRows rows → row_in rows name ≡ Some row
    → ((n : ℕ) (ms : Learned ℕ) → learned after n ≡ Some ms → (learned links n ≡ Some ms) ⊎ ((n ≡ row.number) × (ms ≡ to)))
    → (q : List ℕ) (names : Learned (List ℕ)) → get (named_links rows after) q ≡ Some names → (get (named_links rows links) q ≡ Some names) ⊎ ((q ≡ name) × (names ≡ learned_as (numbered_name rows) to))
learned_named rows links after name row to are here only q names is = by (row_in rows q) refl (sym (get_named rows after q are.distinct) ∙ is)
  where
    by : (o : Option Row) → row_in rows q ≡ o → option_and_then (led_from rows after) o ≡ Some names → (get (named_links rows links) q ≡ Some names) ⊎ ((q ≡ name) × (names ≡ learned_as (numbered_name rows) to))
    by None none led = none_is_some _ names led
    by (Some other) there led = at (learned after other.number) refl led
      where
        at : (o : Option (Learned ℕ)) → learned after other.number ≡ o → option_map (learned_as (numbered_name rows)) o ≡ Some names → (get (named_links rows links) q ≡ Some names) ⊎ ((q ≡ name) × (names ≡ learned_as (numbered_name rows) to))
        at None none led = none_is_some _ names led
        at (Some ms) knows led = which (only other.number ms knows)
          where
            which : (learned links other.number ≡ Some ms) ⊎ ((other.number ≡ row.number) × (ms ≡ to)) → (get (named_links rows links) q ≡ Some names) ⊎ ((q ≡ name) × (names ≡ learned_as (numbered_name rows) to))
            which (inl before) = inl (get_named rows links q are.distinct ∙ ap (option_and_then (led_from rows links)) there ∙ ap (option_map (learned_as (numbered_name rows))) before ∙ led)
            which (inr now) =
                (let both : Some (learned_as (numbered_name rows) ms) ≡ Some names = led in
                let one : learned_as (numbered_name rows) ms ≡ names = cc in
                inr (one_name q name (are.numbers q name other row there here now.0), sym one ∙ ap (learned_as (numbered_name rows)) now.1))

-- and what was known of the others stays
some_mapped : (f : ℕ → List ℕ) (o : Option (Learned ℕ)) → is_some (option_map (learned_as f) o) ≡ is_some o
some_mapped f None = refl
some_mapped f (Some one) = refl

pub stays_named : (rows : Rows) (links after : Facts) → AreRows rows → ((n : ℕ) → is_some (learned links n) ≡ true → learned after n ≡ learned links n)
    → (q : List ℕ) → contains_key (named_links rows links) q ≡ true → get (named_links rows after) q ≡ get (named_links rows links) q
stays_named rows links after are kept q there = get_named rows after q are.distinct ∙ by (row_in rows q) (sym (ap is_some (get_named rows links q are.distinct)) ∙ there) ∙ sym (get_named rows links q are.distinct)
  where
    by : (o : Option Row) → is_some (option_and_then (led_from rows links) o) ≡ true → option_and_then (led_from rows after) o ≡ option_and_then (led_from rows links) o
    by None known = refl
    by (Some row) known = ap (option_map (learned_as (numbered_name rows))) (kept row.number (sym (some_mapped (numbered_name rows) (learned links row.number)) ∙ known))

pub learned_links : (rows : Rows) (links after : Facts) (name : List ℕ) (row : Row) (to : Learned ℕ) → AreLinks rows links → row_in rows name ≡ Some row → ((m : ℕ) → Contains to.links m → IsUsed rows m)
    → ((n : ℕ) (ms : Learned ℕ) → learned after n ≡ Some ms → (learned links n ≡ Some ms) ⊎ ((n ≡ row.number) × (ms ≡ to))) → AreLinks rows after
learned_links rows links after name row to linked here used only = record {
  own = λ n ms is. elim (only n ms is) [
    | inl before ↦ linked.own n ms before
    | inr now ↦ record { name = name; row = row; here = here; same = sym now.0 }
  ];
  used = λ n ms m is among. elim (only n ms is) [
    | inl before ↦ linked.used n ms m before among
    | inr now ↦ used m (subst (λ (l : Learned ℕ). Contains l.links m) now.1 among)
  ];
}

-- links and a time, by names
pub told_mapped : (f : ℕ → List ℕ) (to : List ℕ) (time : ℕ) → learned_as f (told to time) ≡ told (map f to) time
told_mapped f [] time = refl
told_mapped f (m ∷ ms) time = refl

pub either_known : {A B C : Type 0} {x y z : A} {u v w : B} → x ≡ y → v ≡ w → (y ≡ z) ⊎ (C × (u ≡ v)) → (x ≡ z) ⊎ (C × (u ≡ w))
either_known same other (inl before) = inl (same ∙ before)
either_known same other (inr now) = inr (now.0, now.1 ∙ other)

-- the name of a number in use stays, where names keep their numbers
still_named : (old new : Rows) (m : ℕ) → AreRows old → AreRows new → ((q : List ℕ) (row : Row) → row_in old q ≡ Some row → row.number ≡ m → (now : Row) × (row_in new q ≡ Some now) × (now.number ≡ row.number)) → IsUsed old m → numbered_name new m ≡ numbered_name old m
still_named old new m are now_are kept used =
    let now = kept used.name used.row used.here used.same in
    ap (numbered_name new) (sym (now.2 ∙ used.same)) ∙ named_is new used.name now.0 now_are now.1 ∙ sym (named_is old used.name used.row are used.here) ∙ ap (numbered_name old) used.same

module _ (old new : Rows) (links : Facts) (are : AreRows old) (now_are : AreRows new) (linked : AreLinks old links) (keeps : KeepsNumbers old new) where
  used_yet : (n : ℕ) → IsUsed old n → IsUsed new n
  used_yet n used = (let now = keeps.kept used.name used.row used.here in record { name = used.name; row = now.0; here = now.1; same = now.2 ∙ used.same })

  pub still_links : AreLinks new links
  still_links = record {
    own = λ n to is. used_yet n (linked.own n to is);
    used = λ n to m is among. used_yet m (linked.used n to m is among);
  }

  led_same : (row now : Row) → now.number ≡ row.number → led_from new links now ≡ led_from old links row
  led_same row now number = ap (λ n. option_map (learned_as (numbered_name new)) (learned links n)) number ∙ by (learned links row.number) refl
    where
      by : (o : Option (Learned ℕ)) → learned links row.number ≡ o → option_map (learned_as (numbered_name new)) o ≡ option_map (learned_as (numbered_name old)) o
      by None is = refl
      by (Some to) is = ap Some (as_same (numbered_name new) (numbered_name old) to (λ m among. still_named old new m are now_are (λ q r here _. keeps.kept q r here) (linked.used row.number to m is among)))

  pub same_links : named_links new links ≡ named_links old links
  same_links = same_map name_total name_exact _ _ (λ q. get_named new links q now_are.distinct ∙ by q (row_in old q) refl (row_in new q) refl ∙ sym (get_named old links q are.distinct))
    where
      by : (q : List ℕ) (o : Option Row) → row_in old q ≡ o → (n : Option Row) → row_in new q ≡ n → option_and_then (led_from new links) n ≡ option_and_then (led_from old links) o
      by q None gone None none = refl
      by q None gone (Some now) is = at (learned links now.number) refl
        where
          at : (o : Option (Learned ℕ)) → learned links now.number ≡ o → option_map (learned_as (numbered_name new)) o ≡ None
          at None none = refl
          at (Some to) there = absurd (keeps.fresh q now gone is (linked.own now.number to there))
      by q (Some row) here None none = (let now = keeps.kept q row here in none_is_some _ now.0 (sym none ∙ now.1))
      by q (Some row) here (Some now) is =
          (let kept = keeps.kept q row here in
          let both : Some kept.0 ≡ Some now = sym kept.1 ∙ is in
          let one : kept.0 ≡ now = cc in
          led_same row now (ap (λ (r : Row). r.number) (sym one) ∙ kept.2))

-- ---- who keeps its number
pub keeps_told : (old new : Rows) → TellSame old new → KeepsNumbers old new
keeps_told old new told = record {
  kept = λ q row here. (let now = told_row old new q row told here in (now.0, now.1, ap (λ (r : Row). r.number) now.2));
  fresh = λ q row gone here used. (let before = told_row new old q row (told_back old new told) here in none_is_some _ before.0 (sym gone ∙ before.1));
}

pub keeps_described : (old new : Rows) → DescribesUnheld old new → KeepsNumbers old new
keeps_described old new describes = record {
  kept = λ q row here. by q row here row.holders refl;
  fresh = λ q row gone here used. none_is_some _ row (sym (describes.none q gone) ∙ here);
}
  where
    by : (q : List ℕ) (row : Row) → row_in old q ≡ Some row → (n : ℕ) → row.holders ≡ n → (now : Row) × (row_in new q ≡ Some now) × (now.number ≡ row.number)
    by q row here zero nobody = (let now = describes.free q row here nobody in (now.0, now.1, now.2))
    by q row here (suc n) some = (row, describes.held q row here (omega (arith, some)), refl)

pub keeps_then : (old mid new : Rows) → KeepsNumbers old mid → KeepsNumbers mid new → KeepsNumbers old new
keeps_then old mid new first second = record {
  kept = λ q row here. (let one = first.kept q row here in let two = second.kept q one.0 one.1 in (two.0, two.1, two.2 ∙ one.2));
  fresh = λ q row gone here used. by q row gone here used (row_in mid q) refl;
}
  where
    by : (q : List ℕ) (row : Row) → row_in old q ≡ None → row_in new q ≡ Some row → IsUsed old row.number → (o : Option Row) → row_in mid q ≡ o → ⊥
    by q row gone here used None none =
        (let one = first.kept used.name used.row used.here in
        second.fresh q row none here (record { name = used.name; row = one.0; here = one.1; same = one.2 ∙ used.same }))
    by q row gone here used (Some between) is =
        (let two = second.kept q between is in
        let both : Some two.0 ≡ Some row = sym two.1 ∙ here in
        let one : two.0 ≡ row = cc in
        first.fresh q between gone is (subst (IsUsed old) (ap (λ (r : Row). r.number) (sym one) ∙ two.2) used))

pub keeps_entered : (old new : Rows) → ((q : List ℕ) (row : Row) → row_in old q ≡ Some row → row_in new q ≡ Some row) → ((q : List ℕ) (row : Row) → row_in old q ≡ None → row_in new q ≡ Some row → (row.holders ≡ 0) × (IsUsed old row.number → ⊥)) → KeepsNumbers old new
keeps_entered old new kept fresh = record { kept = λ q row here. (row, kept q row here, refl); fresh = λ q row gone here. (fresh q row gone here).1 }

pub keeps_all : (rows : Rows) → KeepsNumbers rows rows
keeps_all rows = keeps_told rows rows (λ q. refl)

-- ---- a name leaves, and its number is renewed
module _ (old new : Rows) (links after : Facts) (name : List ℕ) (gone : Row) (are : AreRows old) (now_are : AreRows new) (linked : AreLinks old links) (here : row_in old name ≡ Some gone)
    (rows : (q : List ℕ) → row_in new q ≡ cond (same_name name q) None (row_in old q))
    (renewed : (n : ℕ) (to : Learned ℕ) → learned after n ≡ Some to → (learned links n ≡ Some to) × (n ≢ gone.number) × (Contains to.links gone.number → ⊥)) where
  stays : (q : List ℕ) (row : Row) → row_in old q ≡ Some row → row.number ≢ gone.number → row_in new q ≡ Some row
  stays q row is apart = rows q ∙ by (same_name name q) refl
    where
      by : (b : Bool) → same_name name q ≡ b → cond b None (row_in old q) ≡ Some row
      by false other = is
      by true same =
          (let it : Some gone ≡ Some row = sym here ∙ ap (row_in old) (one_name name q same) ∙ is in
          let one : gone ≡ row = cc in
          absurd (apart (ap (λ (r : Row). r.number) (sym one))))

  used_left : (n : ℕ) → IsUsed old n → n ≢ gone.number → IsUsed new n
  used_left n used apart = record { name = used.name; row = used.row; here = stays used.name used.row used.here (λ is. apart (sym used.same ∙ is)); same = used.same }

  apart_in : (n : ℕ) (to : Learned ℕ) (m : ℕ) → learned after n ≡ Some to → Contains to.links m → m ≢ gone.number
  apart_in n to m is among same = (renewed n to is).2 (subst (Contains to.links) same among)

  pub left_links : AreLinks new after
  left_links = record {
    own = λ n to is. used_left n (linked.own n to (renewed n to is).0) (renewed n to is).1;
    used = λ n to m is among. used_left m (linked.used n to m (renewed n to is).0 among) (apart_in n to m is among);
  }

  pub left_known : KnowsNoMore (named_links old links) (named_links new after)
  left_known q to is = by (row_in new q) refl (sym (get_named new after q now_are.distinct) ∙ is)
    where
      by : (o : Option Row) → row_in new q ≡ o → option_and_then (led_from new after) o ≡ Some to → get (named_links old links) q ≡ Some to
      by None none led = none_is_some _ to led
      by (Some row) there led = at (learned after row.number) refl led
        where
          before : row_in old q ≡ Some row
          before = was (same_name name q) refl
            where
              was : (b : Bool) → same_name name q ≡ b → row_in old q ≡ Some row
              was true same = none_is_some _ row (sym (rows q ∙ ap (λ b. cond b None (row_in old q)) same) ∙ there)
              was false other = sym (rows q ∙ ap (λ b. cond b None (row_in old q)) other) ∙ there

          at : (o : Option (Learned ℕ)) → learned after row.number ≡ o → option_map (learned_as (numbered_name new)) o ≡ Some to → get (named_links old links) q ≡ Some to
          at None none led = none_is_some _ to led
          at (Some ms) knows led =
              (let first = (renewed row.number ms knows).0 in
              let same : learned_as (numbered_name new) ms ≡ learned_as (numbered_name old) ms = as_same (numbered_name new) (numbered_name old) ms (λ m among. still_named old new m are now_are (λ p r held number. (r, stays p r held (λ is. apart_in row.number ms m knows among (sym number ∙ is)), refl)) (linked.used row.number ms m first among)) in
              get_named old links q are.distinct ∙ ap (option_and_then (led_from old links)) before ∙ ap (option_map (learned_as (numbered_name old))) first ∙ ap Some (sym same) ∙ led)

-- ---- what is known by fewer numbers
module _ (rows : Rows) (links after : Facts) (are : AreRows rows) (fewer : (n : ℕ) (to : Learned ℕ) → learned after n ≡ Some to → learned links n ≡ Some to) where
  pub fewer_links : AreLinks rows links → AreLinks rows after
  fewer_links linked = record {
    own = λ n to is. linked.own n to (fewer n to is);
    used = λ n to m is among. linked.used n to m (fewer n to is) among;
  }

  pub fewer_known : KnowsNoMore (named_links rows links) (named_links rows after)
  fewer_known q to is = by (row_in rows q) refl (sym (get_named rows after q are.distinct) ∙ is)
    where
      by : (o : Option Row) → row_in rows q ≡ o → option_and_then (led_from rows after) o ≡ Some to → get (named_links rows links) q ≡ Some to
      by None none led = none_is_some _ to led
      by (Some row) there led = at (learned after row.number) refl led
        where
          at : (o : Option (Learned ℕ)) → learned after row.number ≡ o → option_map (learned_as (numbered_name rows)) o ≡ Some to → get (named_links rows links) q ≡ Some to
          at None none led = none_is_some _ to led
          at (Some ms) knows led = get_named rows links q are.distinct ∙ ap (option_and_then (led_from rows links)) there ∙ ap (option_map (learned_as (numbered_name rows))) (fewer row.number ms knows) ∙ led

-- a name is not known whose number is not, or that has none
pub away_known : (rows : Rows) (after : Facts) (name : List ℕ) (row : Row) → AreRows rows → row_in rows name ≡ Some row → ((to : Learned ℕ) → learned after row.number ≡ Some to → ⊥) → get (named_links rows after) name ≡ None
away_known rows after name row are here away = get_named rows after name are.distinct ∙ ap (option_and_then (led_from rows after)) here ∙ by (learned after row.number) refl
  where
    by : (o : Option (Learned ℕ)) → learned after row.number ≡ o → option_map (learned_as (numbered_name rows)) o ≡ None
    by None none = refl
    by (Some to) is = absurd (away to is)

pub none_known : (rows : Rows) (after : Facts) (name : List ℕ) → AreRows rows → row_in rows name ≡ None → get (named_links rows after) name ≡ None
none_known rows after name are gone = get_named rows after name are.distinct ∙ ap (option_and_then (led_from rows after)) gone
