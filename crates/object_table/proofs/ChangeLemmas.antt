-- What ledgers are held to say, as names come and go and rows of names that nobody holds are written anew.
use Rattle.std.proofs.Common.{◌≡◌, inl, inr, ℕ, zero, suc, ◌*◌, ◌<◌, ◌≤◌, Bool, true, false, not, ◌||◌, ◌&&◌, cond, List, [], ◌∷◌, Option, None, Some, is_some, refl, sym, ap, subst, ◌∙◌, arith}
use Rattle.std.specs.Prelude.{if◌then◌else◌}
use Rattle.std.specs.List.{All, IsDistinct, cons_option}
use Rattle.std.specs.Map.{keys_of}
use Rattle.std.specs.Option.{option_and_then, option_map, option_map_or, unwrap_or}
use Rattle.std.specs.FinMap.{FinMap, contains_key, empty, get, get-empty, insert, same_map}
use Rattle.std.proofs.Math.Nat.{min-eq_left}
use Rattle.std.proofs.lemmas.Bool.{lt-ltb, ltb-true}
use Rattle.std.proofs.lemmas.List.Elements.{All-cons, All-nil}
use Rattle.git_name.specs.declared.kind.Kind.{Kind}
use Rattle.git_name.specs.Name.{name_cmp}
use Rattle.git_name.specs.Same.{same_name}
use Rattle.git_name.proofs.MapLemmas.{get_map_values, map_values_empty}
use Rattle.git_name.proofs.Names.{name_exact, name_total}
use Rattle.number_links.specs.Numbers.{has}
use Rattle.object_table.specs.Adopted.{AllAlike}
use Rattle.object_table.specs.Clashes.{AreAs, Clash, DescribesUnheld, HasRow, IsAs, RowClash}
use Rattle.object_table.specs.Coming.{coming_at, coming_in, entry_under}
use Rattle.object_table.specs.declared.entry.Entry.{Entry}
use Rattle.object_table.specs.declared.row.Row.{Row}
use Rattle.object_table.specs.declared.word.Word.{Word}
use Rattle.object_table.specs.Holders.{AreHeld, holders_of}
use Rattle.object_table.specs.Ledgers.{AllWords, at_ledger, ledger_at, word_at}
use Rattle.object_table.specs.Rows.{AreRows, IsUsed, Rows, count_in, row_in}
use Rattle.object_table.specs.Totals.{capped, total_of, used_by}
use Rattle.object_table.specs.Views.{Sets, all_words, holds, standing_by, word_by, word_in, words_of, words_under}
use Rattle.object_table.specs.Words.{Words, is_visible}
use Rattle.object_table.proofs.HolderLemmas.{by_ledger, held_at, no_holders, nobody_has, someone_has}
use Rattle.object_table.proofs.PlaceLemmas.{one_name}
use Rattle.object_table.proofs.RowLemmas.{none_is_some}
use Rattle.object_table.proofs.TenantEntries.{changed_at, unchanged_at}
use Rattle.object_table.proofs.TenantLemmas.{words_at}
use Rattle.object_table.proofs.ViewLemmas.{get_words, most, word_there, words_alike}

-- a tenant's ledger, by its sets
pub ledger_is : (rows : Rows) (m : FinMap name_cmp Sets) (t : List ℕ) → words_under rows (get m t) ≡ ledger_at (all_words rows m) t
ledger_is rows m t = by (get m t) ∙ ap (λ o. unwrap_or o empty) (sym (get_map_values name_total (words_of rows) m t))
  where
    by : (o : Option Sets) → words_under rows o ≡ unwrap_or (option_map (words_of rows) o) empty
    by None = refl
    by (Some sets) = refl

pub there_is : (rows : Rows) (m : FinMap name_cmp Sets) (t : List ℕ) → contains_key (all_words rows m) t ≡ contains_key m t
there_is rows m t = ap is_some (get_map_values name_total (words_of rows) m t) ∙ by (get m t)
  where
    by : (o : Option Sets) → is_some (option_map (words_of rows) o) ≡ is_some o
    by None = refl
    by (Some sets) = refl

-- a sum that is far from 128 bits
pub capped_small : (n : ℕ) → n ≤ 4294967295 * most → n ≡ capped n
capped_small n small = sym (min-eq_left (omega (arith, small)))

-- ---- rows change, and no words
module _ (old new : Rows) (m : FinMap name_cmp Sets) (held : AreHeld old m) (words : (t : List ℕ) (own : Sets) → get m t ≡ Some own → words_of new own ≡ words_of old own) (counts : (q : List ℕ) → count_in new q ≡ count_in old q)
    (used : (t : List ℕ) (own : Sets) → get m t ≡ Some own → (n : ℕ) → holds own n ≡ true → IsUsed new n) where
  pub all_same : all_words new m ≡ all_words old m
  all_same = same_map name_total name_exact _ _ (λ t. get_map_values name_total (words_of new) m t ∙ by t (get m t) refl ∙ sym (get_map_values name_total (words_of old) m t))
    where
      by : (t : List ℕ) (o : Option Sets) → get m t ≡ o → option_map (words_of new) o ≡ option_map (words_of old) o
      by t None is = refl
      by t (Some own) is = ap Some (words t own is)

  pub held_same : AreHeld new m
  held_same = record {
    counted = λ q. counts q ∙ held.counted q ∙ ap (λ x. holders_of x q) (sym all_same);
    own = λ t own here. (let before = held.own t own here in record {
      within = used t own here;
      visible = before.visible ∙ ap used_by (sym (words t own here));
      both = before.both ∙ ap total_of (sym (words t own here));
    });
  }

count_of_row : (rows : Rows) (q : List ℕ) (o : Option Row) → row_in rows q ≡ o → count_in rows q ≡ option_map_or (λ (row : Row). row.holders) o 0
count_of_row rows q o is = ap (λ o. option_map_or (λ (row : Row). row.holders) o 0) is

no_word : (row : Row) (v s : Bool) → v || s ≡ false → word_by row v s ≡ None
no_word row true s is = absurd (let wrong : ⊥ = cc in wrong)
no_word row false true is = absurd (let wrong : ⊥ = cc in wrong)
no_word row false false is = refl

not_held : {b : Bool} → (c : Bool) → b ≡ c → (b ≡ true → ⊥) → b ≡ false
not_held true is refuse = absurd (refuse is)
not_held false is refuse = is

-- what nobody holds no tenant does
unheld : (rows : Rows) (m : FinMap name_cmp Sets) (q : List ℕ) (t : List ℕ) (own : Sets) (row : Row) → AreRows rows → holders_of (all_words rows m) q ≡ 0 → get m t ≡ Some own → row_in rows q ≡ Some row → holds own row.number ≡ false
unheld rows m q t own row are nobody here stands =
    sym (word_there row (has own.visible row.number) (has own.staged row.number)) ∙ sym (ap is_some (get_words rows own q are.distinct ∙ ap (option_and_then (word_in own)) stands))
    ∙ nobody_has (all_words rows m) q nobody t (words_of rows own) (words_at rows m t own here)

-- ---- rows of names that nobody holds are written anew
module _ (old new : Rows) (m : FinMap name_cmp Sets) (are : AreRows old) (distinct : IsDistinct same_name (keys_of new)) (held : AreHeld old m) (describes : DescribesUnheld old new) where
  described_counts : (q : List ℕ) → count_in new q ≡ count_in old q
  described_counts q = by (row_in old q) refl
    where
      by : (o : Option Row) → row_in old q ≡ o → count_in new q ≡ count_in old q
      by None is = count_of_row new q None (describes.none q is) ∙ sym (count_of_row old q None is)
      by (Some row) is = at row.holders refl
        where
          at : (n : ℕ) → row.holders ≡ n → count_in new q ≡ count_in old q
          at zero none = (let other = describes.free q row is none in count_of_row new q (Some other.0) other.1 ∙ other.3 ∙ sym none ∙ sym (count_of_row old q (Some row) is))
          at (suc n) some = count_of_row new q (Some row) (describes.held q row is (omega (arith, some))) ∙ sym (count_of_row old q (Some row) is)

  described_words : (t : List ℕ) (own : Sets) → get m t ≡ Some own → words_of new own ≡ words_of old own
  described_words t own here = words_alike old new own own are.distinct distinct (λ q. by q (row_in old q) refl)
    where
      by : (q : List ℕ) (o : Option Row) → row_in old q ≡ o → option_and_then (word_in own) (row_in new q) ≡ option_and_then (word_in own) (row_in old q)
      by q None is = ap (option_and_then (word_in own)) (describes.none q is ∙ sym is)
      by q (Some row) is = at row.holders refl
        where
          at : (n : ℕ) → row.holders ≡ n → option_and_then (word_in own) (row_in new q) ≡ option_and_then (word_in own) (row_in old q)
          at zero none =
              (let other = describes.free q row is none in
              let nobody = sym (held.counted q) ∙ count_of_row old q (Some row) is ∙ none in
              let out = unheld old m q t own row are nobody here is in
              ap (option_and_then (word_in own)) other.1 ∙ no_word other.0 (has own.visible other.0.number) (has own.staged other.0.number) (ap (holds own) other.2 ∙ out)
              ∙ sym (ap (option_and_then (word_in own)) is ∙ no_word row (has own.visible row.number) (has own.staged row.number) out))
          at (suc n) some = ap (option_and_then (word_in own)) (describes.held q row is (omega (arith, some)) ∙ sym is)

  described_used : (t : List ℕ) (own : Sets) → get m t ≡ Some own → (n : ℕ) → holds own n ≡ true → IsUsed new n
  described_used t own here n holding = (let is = (held.own t own here).within n holding in at is is.row.holders refl)
    where
      at : (is : IsUsed old n) (k : ℕ) → is.row.holders ≡ k → IsUsed new n
      at is zero none = (let other = describes.free is.name is.row is.here none in record { name = is.name; row = other.0; here = other.1; same = other.2 ∙ is.same })
      at is (suc k) some = record { name = is.name; row = is.row; here = describes.held is.name is.row is.here (omega (arith, some)); same = is.same }

  pub described_all : all_words new m ≡ all_words old m
  described_all = all_same old new m held described_words described_counts described_used

  pub described_held : AreHeld new m
  described_held = held_same old new m held described_words described_counts described_used

-- ---- a name comes
module _ (old new : Rows) (m : FinMap name_cmp Sets) (are : AreRows old) (distinct : IsDistinct same_name (keys_of new)) (held : AreHeld old m) (kept : (q : List ℕ) (row : Row) → row_in old q ≡ Some row → row_in new q ≡ Some row)
    (fresh : (q : List ℕ) (row : Row) → row_in old q ≡ None → row_in new q ≡ Some row → (row.holders ≡ 0) × (IsUsed old row.number → ⊥)) where
  came_counts : (q : List ℕ) → count_in new q ≡ count_in old q
  came_counts q = by (row_in old q) refl (row_in new q) refl
    where
      by : (o : Option Row) → row_in old q ≡ o → (p : Option Row) → row_in new q ≡ p → count_in new q ≡ count_in old q
      by (Some row) is p now = count_of_row new q (Some row) (kept q row is) ∙ sym (count_of_row old q (Some row) is)
      by None is None now = count_of_row new q None now ∙ sym (count_of_row old q None is)
      by None is (Some row) now = count_of_row new q (Some row) now ∙ (fresh q row is now).0 ∙ sym (count_of_row old q None is)

  came_words : (t : List ℕ) (own : Sets) → get m t ≡ Some own → words_of new own ≡ words_of old own
  came_words t own here = words_alike old new own own are.distinct distinct (λ q. by q (row_in old q) refl (row_in new q) refl)
    where
      by : (q : List ℕ) (o : Option Row) → row_in old q ≡ o → (p : Option Row) → row_in new q ≡ p → option_and_then (word_in own) (row_in new q) ≡ option_and_then (word_in own) (row_in old q)
      by q (Some row) is p now = ap (option_and_then (word_in own)) (kept q row is ∙ sym is)
      by q None is None now = ap (option_and_then (word_in own)) (now ∙ sym is)
      by q None is (Some row) now =
          ap (option_and_then (word_in own)) now
          ∙ no_word row (has own.visible row.number) (has own.staged row.number) (not_held (holds own row.number) refl (λ holding. (fresh q row is now).1 ((held.own t own here).within row.number holding)))
          ∙ sym (ap (option_and_then (word_in own)) is)

  came_used : (t : List ℕ) (own : Sets) → get m t ≡ Some own → (n : ℕ) → holds own n ≡ true → IsUsed new n
  came_used t own here n holding = (let is = (held.own t own here).within n holding in record { name = is.name; row = is.row; here = kept is.name is.row is.here; same = is.same })

  pub came_all : all_words new m ≡ all_words old m
  came_all = all_same old new m held came_words came_counts came_used

  pub came_held : AreHeld new m
  came_held = held_same old new m held came_words came_counts came_used

-- ---- a name that nobody holds goes
module _ (old new : Rows) (m : FinMap name_cmp Sets) (name : List ℕ) (are : AreRows old) (distinct : IsDistinct same_name (keys_of new)) (held : AreHeld old m) (free : holders_of (all_words old m) name ≡ 0)
    (left : (q : List ℕ) → row_in new q ≡ cond (same_name name q) None (row_in old q)) where
  gone_counts : (q : List ℕ) → count_in new q ≡ count_in old q
  gone_counts q = by (same_name name q) refl
    where
      by : (b : Bool) → same_name name q ≡ b → count_in new q ≡ count_in old q
      by true same = count_of_row new q None (left q ∙ ap (λ b. cond b None (row_in old q)) same) ∙ sym (ap (count_in old) (sym (one_name name q same)) ∙ held.counted name ∙ free)
      by false apart = ap (λ o. option_map_or (λ (row : Row). row.holders) o 0) (left q ∙ ap (λ b. cond b None (row_in old q)) apart)

  gone_words : (t : List ℕ) (own : Sets) → get m t ≡ Some own → words_of new own ≡ words_of old own
  gone_words t own here = words_alike old new own own are.distinct distinct (λ q. by q (same_name name q) refl (row_in old q) refl)
    where
      by : (q : List ℕ) (b : Bool) → same_name name q ≡ b → (o : Option Row) → row_in old q ≡ o → option_and_then (word_in own) (row_in new q) ≡ option_and_then (word_in own) (row_in old q)
      by q false apart o is = ap (option_and_then (word_in own)) (left q ∙ ap (λ b. cond b None (row_in old q)) apart)
      by q true same None is = ap (option_and_then (word_in own)) (left q ∙ ap (λ b. cond b None (row_in old q)) same ∙ sym is)
      by q true same (Some row) is =
          (let at = one_name name q same in
          let out = unheld old m name t own row are free here (ap (row_in old) at ∙ is) in
          ap (option_and_then (word_in own)) (left q ∙ ap (λ b. cond b None (row_in old q)) same)
          ∙ sym (ap (option_and_then (word_in own)) is ∙ no_word row (has own.visible row.number) (has own.staged row.number) out))

  gone_used : (t : List ℕ) (own : Sets) → get m t ≡ Some own → (n : ℕ) → holds own n ≡ true → IsUsed new n
  gone_used t own here n holding = (let is = (held.own t own here).within n holding in by is (same_name name is.name) refl)
    where
      by : (is : IsUsed old n) (b : Bool) → same_name name is.name ≡ b → IsUsed new n
      by is false apart = record { name = is.name; row = is.row; here = left is.name ∙ ap (λ b. cond b None (row_in old is.name)) apart ∙ is.here; same = is.same }
      by is true same =
          (let out = unheld old m name t own is.row are free here (ap (row_in old) (one_name name is.name same) ∙ is.here) in
          let wrong : true ≡ false = sym holding ∙ ap (holds own) (sym is.same) ∙ out in
          absurd (let bad : ⊥ = cc in bad))

  pub gone_all : all_words new m ≡ all_words old m
  gone_all = all_same old new m held gone_words gone_counts gone_used

  pub gone_held : AreHeld new m
  gone_held = held_same old new m held gone_words gone_counts gone_used

-- ---- kinds and lengths
alike_by : (row : Row) (v s : Bool) (word : Word) → word_by row v s ≡ Some word → IsAs row.kind row.length word
alike_by row v s word is = by (standing_by v s) is
  where
    by : (o : Option _) → option_map (λ standing. record { kind = row.kind; length = row.length; standing = standing }) o ≡ Some word → IsAs row.kind row.length word
    by None is = none_is_some _ word is
    by (Some standing) is = (let same = ap (λ o. option_map_or (λ (w : Word). w.kind) o row.kind) is in let long = ap (λ o. option_map_or (λ (w : Word). w.length) o row.length) is in record { kinds = sym same; lengths = sym long })

-- what a ledger says of a name is of the kind and length of its row
pub word_as : (rows : Rows) (m : FinMap name_cmp Sets) (t name : List ℕ) (word : Word) → AreRows rows → word_at (all_words rows m) t name ≡ Some word → (row : Row) × (row_in rows name ≡ Some row) × IsAs row.kind row.length word
word_as rows m t name word are is = by (get m t) refl (ap (λ w. get w name) (ledger_is rows m t) ∙ is)
  where
    by : (o : Option Sets) → get m t ≡ o → get (words_under rows o) name ≡ Some word → (row : Row) × (row_in rows name ≡ Some row) × IsAs row.kind row.length word
    by None here there = none_is_some _ word (sym (get-empty name_cmp name) ∙ there)
    by (Some own) here there = at (row_in rows name) refl (sym (get_words rows own name are.distinct) ∙ there)
      where
        at : (o : Option Row) → row_in rows name ≡ o → option_and_then (word_in own) o ≡ Some word → (row : Row) × (row_in rows name ≡ Some row) × IsAs row.kind row.length word
        at None stands says = none_is_some _ word says
        at (Some row) stands says = (row, stands, alike_by row (has own.visible row.number) (has own.staged row.number) word says)

-- so what two ledgers say of it is alike
pub all_alike : (rows : Rows) (m : FinMap name_cmp Sets) → AreRows rows → AllAlike (all_words rows m)
all_alike rows m are one other name first next says tells =
    let mine = word_as rows m one name first are says in
    let its = word_as rows m other name next are tells in
    let both : Some mine.0 ≡ Some its.0 = sym mine.1 ∙ its.1 in
    let same : mine.0 ≡ its.0 = cc in
    record {
      kind = its.2.kinds ∙ ap (λ (r : Row). r.kind) (sym same) ∙ sym mine.2.kinds;
      length = its.2.lengths ∙ ap (λ (r : Row). r.length) (sym same) ∙ sym mine.2.lengths;
    }

-- ---- what comes is of its rows
has_row : (rows : Rows) (sets : Option Sets) (name : List ℕ) (word : Word) → AreRows rows → get (words_under rows sets) name ≡ Some word → HasRow rows (entry_under name word)
has_row rows None name word are is = none_is_some _ word (sym (get-empty name_cmp name) ∙ is)
has_row rows (Some own) name word are is = at (row_in rows name) refl (sym (get_words rows own name are.distinct) ∙ is)
  where
    at : (o : Option Row) → row_in rows name ≡ o → option_and_then (word_in own) o ≡ Some word → HasRow rows (entry_under name word)
    at None stands says = none_is_some _ word says
    at (Some row) stands says =
        (let alike = alike_by row (has own.visible row.number) (has own.staged row.number) word says in
        record { row = row; here = stands; kinds = sym alike.kinds; lengths = sym alike.lengths })

coming_row : (rows : Rows) (sets : Option Sets) (name : List ℕ) (own : Option Word) (entry : Entry) → AreRows rows → (o : Option Word) → get (words_under rows sets) name ≡ o → coming_at name o own ≡ Some entry → HasRow rows entry
coming_row rows sets name own entry are None here is = none_is_some _ entry is
coming_row rows sets name own entry are (Some word) here is = by (is_visible word && not (option_map_or is_visible own false)) is
  where
    by : (b : Bool) → (if b then Some (entry_under name word) else None) ≡ Some entry → HasRow rows entry
    by true one = (let same : entry_under name word ≡ entry = cc in subst (HasRow rows) same (has_row rows sets name word are here))
    by false one = none_is_some _ entry one

pub coming_rows : (rows : Rows) (sets : Option Sets) (own : Words) (names : List (List ℕ)) → AreRows rows → All (HasRow rows) (coming_in (words_under rows sets) own names)
coming_rows rows sets own [] are = All-nil (HasRow rows)
coming_rows rows sets own (name ∷ names) are = by (coming_at name (get (words_under rows sets) name) (get own name)) refl (coming_rows rows sets own names are)
  where
    by : (o : Option Entry) → coming_at name (get (words_under rows sets) name) (get own name) ≡ o → All (HasRow rows) (coming_in (words_under rows sets) own names) → All (HasRow rows) (cons_option o (coming_in (words_under rows sets) own names))
    by None is rest = rest
    by (Some entry) is rest = All-cons (HasRow rows) entry (coming_in (words_under rows sets) own names) (coming_row rows sets name (get own name) entry are (get (words_under rows sets) name) refl is) rest

-- ---- what may not be staged
-- a row that somebody holds is what some ledger says
row_said : (rows : Rows) (m : FinMap name_cmp Sets) (name : List ℕ) (row : Row) (kind : Kind) (length : ℕ) → AreRows rows → AreHeld rows m → row_in rows name ≡ Some row → 0 < row.holders → (row.kind ≡ kind → row.length ≡ length → ⊥) → AreAs (all_words rows m) name kind length → ⊥
row_said rows m name row kind length are held here some apart as_told =
    let counted = sym (held.counted name) ∙ count_of_row rows name (Some row) here in
    let who = someone_has (all_words rows m) name (lt-ltb 0 (holders_of (all_words rows m) name) (omega (arith, some, counted))) in
    by who (get who.1 name) refl
  where
    by : (who : (t : List ℕ) × (own : Words) × (get (all_words rows m) t ≡ Some own) × (contains_key own name ≡ true)) (o : Option Word) → get who.1 name ≡ o → ⊥
    by who None is = (let wrong : false ≡ true = sym (ap is_some is) ∙ who.3 in let bad : ⊥ = cc in bad)
    by who (Some word) is =
        (let says : word_at (all_words rows m) who.0 name ≡ Some word = ap (λ o. get (unwrap_or o empty) name) who.2 ∙ is in
        let mine = word_as rows m who.0 name word are says in
        let told = as_told who.0 word says in
        let both : Some row ≡ Some mine.0 = sym here ∙ mine.1 in
        let one : row ≡ mine.0 = cc in
        apart (ap (λ (r : Row). r.kind) one ∙ sym mine.2.kinds ∙ told.kinds) (ap (λ (r : Row). r.length) one ∙ sym mine.2.lengths ∙ told.lengths))

pub row_refuses : (rows : Rows) (m : FinMap name_cmp Sets) (name : List ℕ) (row : Row) (kind : Kind) (length : ℕ) → AreRows rows → AreHeld rows m → row_in rows name ≡ Some row → 0 < row.holders → (row.kind ≡ kind → row.length ≡ length → ⊥) → AreAs (all_words rows m) name kind length → ⊥
row_refuses rows m name row kind length are held here some apart = row_said rows m name row kind length are held here some apart

pub clashes : (rows : Rows) (m : FinMap name_cmp Sets) (es : List Entry) → AreRows rows → AreHeld rows m → RowClash rows es → Clash (all_words rows m) es
clashes rows m es are held clash = record { entry = clash.entry; among = clash.among; met = elim clash.met [ inl row ↦ inl (row_said rows m clash.entry.name row.0 clash.entry.kind clash.entry.length are held row.1 row.2 row.3) | inr other ↦ inr other ] }

-- and what may
pub row_allows : (rows : Rows) (m : FinMap name_cmp Sets) (name : List ℕ) (row : Row) → AreRows rows → row_in rows name ≡ Some row → AreAs (all_words rows m) name row.kind row.length
row_allows rows m name row are here t word says =
    let mine = word_as rows m t name word are says in
    let both : Some mine.0 ≡ Some row = sym mine.1 ∙ here in
    let one : mine.0 ≡ row = cc in
    subst (λ (r : Row). IsAs r.kind r.length word) one mine.2

pub none_allows : (rows : Rows) (m : FinMap name_cmp Sets) (name : List ℕ) (kind : Kind) (length : ℕ) → AreRows rows → row_in rows name ≡ None → AreAs (all_words rows m) name kind length
none_allows rows m name kind length are none t word says = (let mine = word_as rows m t name word are says in none_is_some _ mine.0 (sym none ∙ mine.1))

pub unheld_allows : (rows : Rows) (m : FinMap name_cmp Sets) (name : List ℕ) (row : Row) (kind : Kind) (length : ℕ) → AreRows rows → AreHeld rows m → row_in rows name ≡ Some row → row.holders ≡ 0 → AreAs (all_words rows m) name kind length
unheld_allows rows m name row kind length are held here none t word says =
    let held_by_some = held_at (all_words rows m) t name (ap is_some says) in
    let nobody = sym (held.counted name) ∙ count_of_row rows name (Some row) here ∙ none in
    let more = ltb-true 0 _ held_by_some in
    absurd (omega (arith, nobody, more))

-- two changes that make the same of a tenant's ledger
pub ledger_alike : (m : AllWords) (t : List ℕ) (f g : Words → Words) → f (ledger_at m t) ≡ g (ledger_at m t) → at_ledger m t f ≡ at_ledger m t g
ledger_alike m t f g same = by_ledger _ (get m t)
    (λ none. unchanged_at m t f none ∙ sym (unchanged_at m t g none))
    (λ own here.
    changed_at m t own f here ∙ ap (insert m t) (ap (λ o. f (unwrap_or o empty)) (sym here) ∙ same ∙ ap (λ o. g (unwrap_or o empty)) here) ∙ sym (changed_at m t own g here))

-- no names and no tenants
pub nothing_held : (rows : Rows) (m : FinMap name_cmp Sets) → rows ≡ [] → m ≡ empty → AreHeld rows m
nothing_held rows m no_rows no_tenants = subst (λ r. AreHeld r m) (sym no_rows) (subst (λ x. AreHeld [] x) (sym no_tenants) (record {
  counted = λ q. sym (ap (λ x. holders_of x q) (map_values_empty name_total name_exact (words_of [])) ∙ no_holders q);
  own = λ t sets here. none_is_some _ sets (sym (get-empty name_cmp t) ∙ here);
}))

pub no_ledgers : (rows : Rows) (m : FinMap name_cmp Sets) → m ≡ empty → all_words rows m ≡ empty
no_ledgers rows m none = ap (all_words rows) none ∙ map_values_empty name_total name_exact (words_of rows)
