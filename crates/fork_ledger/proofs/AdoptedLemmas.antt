-- What a tenant's ledger shows that adopted what another one shows.
use Rattle.std.proofs.Common.{◌≡◌, ℕ, List, [], ◌&&◌, Bool, true, false, Option, Some, None, cond, is_some, length, drop, refl, sym, ap, ◌∙◌}
use Rattle.std.specs.Prelude.{if◌then◌else◌, nat_le}
use Rattle.std.specs.Option.{option_or, unwrap_or}
use Rattle.std.specs.FinMap.{contains_key, get, retain_keys, same_map}
use Rattle.git_name.specs.Maps.{joined}
use Rattle.git_name.specs.Object.{Object, header}
use Rattle.git_name.proofs.MapLemmas.{get_joined}
use Rattle.git_name.proofs.Names.{name_total, name_exact}
use Rattle.fork_reach.specs.Objects.{Measures, measures_of, use_of, use_of_object}
use Rattle.fork_reach.specs.Source.{Objects}
use Rattle.object_table.specs.Adopted.{Fits, IsAlike, adopted_words, offered_words, seen_if, seen_too, shown_beside}
use Rattle.object_table.specs.Ledgers.{AllWords, at_ledger, ledger_at}
use Rattle.object_table.specs.Totals.{total_of, use_of_word}
use Rattle.object_table.specs.Words.{Words, is_staged, is_visible, kept_as, seen_word, shows, waits, with_standing}
use Rattle.object_table.specs.declared.word.Standing.{Standing}
use Rattle.object_table.specs.declared.word.Standing.TheVariants.{Visible, Staged, Both}
use Rattle.object_table.specs.declared.word.Word.{Word}
use Rattle.object_table.proofs.AdoptLemmas.{adopted, offer, offered_at, word_adopted}
use Rattle.object_table.proofs.RoomLemmas.{beside, beside_at}
use Rattle.object_table.proofs.SumLemmas.{same_sums, worth}
use Rattle.loose_store.specs.Files.{Files}
use Rattle.fork_ledger.specs.Private.{AreAmong, Private, private_measures, with_adopted}
use Rattle.fork_ledger.specs.Shown.{object_at, own_of, part, resized, tenants_of}
use Rattle.fork_ledger.specs.Tenants.{Tenants, at_tenant, private_of}
use Rattle.fork_ledger.proofs.BothLemmas.{same_both}
use Rattle.fork_ledger.proofs.SeenLemmas.{get_kept}
use Rattle.fork_ledger.proofs.ShapeLemmas.{measures_kept}
use Rattle.fork_ledger.proofs.ShownLemmas.{alike, changed_here, get_part, private_shown, same_private, shown_at}
use Rattle.fork_ledger.proofs.TenantLemmas.{private_at}
use Rattle.fork_ledger.proofs.ToldLemmas.{use_at}

-- words of one kind and length show one object
pub object_alike : (files : Files) (name : List ℕ) (comes word : Word) → IsAlike comes word → object_at files name word ≡ object_at files name comes
unfolding object_at
object_alike files name comes word is = λ i. record {
  kind = is.kind i;
  bytes = resized (is.length i) (drop (length (header (is.kind i) (is.length i))) (unwrap_or (get files name) []));
}

-- ---- at a name
-- the object that comes
abbrev coming : Bool → Files → List ℕ → Option Word → Option Object
coming comes files q shown = cond comes (shown_at is_visible files q shown) None

-- what is known of both words, where the name comes
abbrev FitHere : Bool → Option Word → Option Word → Type 0
FitHere comes shown own = (word mine : Word) → comes ≡ true → shown ≡ Some word → is_visible word ≡ true → own ≡ Some mine → IsAlike word mine

none_comes : (b : Bool) → cond {A = Option Object} b None None ≡ None
none_comes true = refl
none_comes false = refl

or_none : (o : Option Object) → option_or o None ≡ o
or_none None = refl
or_none (Some object) = refl

seen_adopted : (files : Files) (q : List ℕ) (comes : Bool) (shown own : Option Word) → FitHere comes shown own
    → shown_at is_visible files q (adopted comes shown own) ≡ option_or (shown_at is_visible files q own) (coming comes files q shown)
seen_adopted files q comes None None fit = sym (none_comes comes)
seen_adopted files q comes None (Some own) fit = sym (ap (option_or (shown_at is_visible files q (Some own))) (none_comes comes) ∙ or_none (shown_at is_visible files q (Some own)))
seen_adopted files q comes (Some word) None fit = by comes (is_visible word)
  where
    by : (b v : Bool) → shown_at is_visible files q (kept_as (b && v) (seen_word word)) ≡ cond b (if v then Some (object_at files q word) else None) None
    by true true = ap Some (alike files q word Visible)
    by true false = refl
    by false true = refl
    by false false = refl
seen_adopted files q comes (Some word) (Some own) fit = by comes (is_visible word) own.standing refl refl refl
  where
    by : (b v : Bool) (s : Standing) → comes ≡ b → is_visible word ≡ v → own.standing ≡ s
        → shown_at is_visible files q (Some (seen_if (is_some (kept_as (b && v) (seen_word word))) own)) ≡ option_or (if shows s then Some (object_at files q own) else None) (cond b (if v then Some (object_at files q word) else None) None)
    by true true Visible here seen is = ap (λ s. shown_at is_visible files q (Some (with_standing own (seen_too s)))) is ∙ ap Some (alike files q own Visible)
    by true true Staged here seen is =
        ap (λ s. shown_at is_visible files q (Some (with_standing own (seen_too s)))) is ∙ ap Some (alike files q own Both ∙ object_alike files q word own (fit word own here refl seen refl))
    by true true Both here seen is = ap (λ s. shown_at is_visible files q (Some (with_standing own (seen_too s)))) is ∙ ap Some (alike files q own Both)
    by true false s here seen is = ap (λ s. if shows s then Some (object_at files q own) else None) is ∙ sym (or_none (if shows s then Some (object_at files q own) else None))
    by false true s here seen is = ap (λ s. if shows s then Some (object_at files q own) else None) is ∙ sym (or_none (if shows s then Some (object_at files q own) else None))
    by false false s here seen is = ap (λ s. if shows s then Some (object_at files q own) else None) is ∙ sym (or_none (if shows s then Some (object_at files q own) else None))

staged_adopted : (files : Files) (q : List ℕ) (comes : Bool) (shown own : Option Word) → shown_at is_staged files q (adopted comes shown own) ≡ shown_at is_staged files q own
staged_adopted files q comes None None = refl
staged_adopted files q comes None (Some own) = refl
staged_adopted files q comes (Some word) None = by (comes && is_visible word)
  where
    by : (b : Bool) → shown_at is_staged files q (kept_as b (seen_word word)) ≡ None
    by true = refl
    by false = refl
staged_adopted files q comes (Some word) (Some own) = by (is_some (kept_as (comes && is_visible word) (seen_word word))) own.standing refl
  where
    by : (b : Bool) (s : Standing) → own.standing ≡ s → shown_at is_staged files q (Some (seen_if b own)) ≡ (if waits s then Some (object_at files q own) else None)
    by true Visible is = ap (λ s. shown_at is_staged files q (Some (with_standing own (seen_too s)))) is
    by true Staged is = ap (λ s. shown_at is_staged files q (Some (with_standing own (seen_too s)))) is ∙ ap Some (alike files q own Both)
    by true Both is = ap (λ s. shown_at is_staged files q (Some (with_standing own (seen_too s)))) is ∙ ap Some (alike files q own Both)
    by false s is = ap (λ s. if waits s then Some (object_at files q own) else None) is

-- ---- all names
-- the objects that come
abbrev pub offered_by : Files → (List ℕ → Bool) → Words → Objects
offered_by files names shown = retain_keys (part is_visible files shown) names

offered_object : (files : Files) (names : List ℕ → Bool) (shown : Words) (q : List ℕ) → get (offered_by files names shown) q ≡ coming (names q) files q (get shown q)
offered_object files names shown q = get_kept (part is_visible files shown) names q ∙ ap (λ o. cond (names q) o None) (get_part is_visible files shown q)

fit_here : (names : List ℕ → Bool) (shown own : Words) (q : List ℕ) → Fits (offered_words names shown) own → FitHere (names q) (get shown q) (get own q)
fit_here names shown own q fits word mine comes here seen there =
    let is = fits q (seen_word word) mine (offered_at names shown q ∙ ap (offer (names q)) here ∙ (λ i. kept_as (comes i && seen i) (seen_word word))) there in
    record { kind = is.kind; length = is.length }

joined_at : (files : Files) (names : List ℕ → Bool) (shown own : Words) (q : List ℕ)
    → get (joined (part is_visible files own) (offered_by files names shown)) q ≡ option_or (shown_at is_visible files q (get own q)) (coming (names q) files q (get shown q))
joined_at files names shown own q =
    get_joined name_total (part is_visible files own) (offered_by files names shown) q ∙ (λ i. option_or (get_part is_visible files own q i) (offered_object files names shown q i))

adopted_own : (files : Files) (names : List ℕ → Bool) (shown own : Words) → Fits (offered_words names shown) own
    → own_of files (adopted_words (offered_words names shown) own) ≡ with_adopted (offered_by files names shown) (own_of files own)
adopted_own files names shown own fits = same_private _ _
    (same_map name_total name_exact _ _ (λ q.
    get_part is_visible files (adopted_words (offered_words names shown) own) q ∙ ap (shown_at is_visible files q) (word_adopted names shown own q)
    ∙ seen_adopted files q (names q) (get shown q) (get own q) (fit_here names shown own q fits) ∙ sym (joined_at files names shown own q)))
    (same_map name_total name_exact _ _ (λ q.
    get_part is_staged files (adopted_words (offered_words names shown) own) q ∙ ap (shown_at is_staged files q) (word_adopted names shown own q)
    ∙ staged_adopted files q (names q) (get shown q) (get own q) ∙ sym (get_part is_staged files own q)))

adopted_shown : (files : Files) (m : AllWords) (to from : List ℕ) (names : List ℕ → Bool) → Fits (offered_words names (ledger_at m from)) (ledger_at m to)
    → tenants_of files (at_ledger m to (adopted_words (offered_words names (ledger_at m from)))) ≡ at_tenant (tenants_of files m) to (with_adopted (retain_keys (private_of (tenants_of files m) from).visible names))
adopted_shown files m to from names fits =
    changed_here files m to (adopted_words (offered_words names (ledger_at m from))) (with_adopted (offered_by files names (ledger_at m from))) (adopted_own files names (ledger_at m from) (ledger_at m to) fits)
    ∙ ap (λ (own : Private). at_tenant (tenants_of files m) to (with_adopted (retain_keys own.visible names))) (sym (private_shown files m from))

-- one tenant adopts of another
pub adopted_tenants : (files : Files) (m n : AllWords) (to from : List ℕ) (names : List ℕ → Bool) → Fits (offered_words names (ledger_at m from)) (ledger_at m to)
    → n ≡ at_ledger m to (adopted_words (offered_words names (ledger_at m from))) → tenants_of files n ≡ at_tenant (tenants_of files m) to (with_adopted (retain_keys (private_of (tenants_of files m) from).visible names))
adopted_tenants files m n to from names fits is = ap (tenants_of files) is ∙ adopted_shown files m to from names fits

-- ---- what comes is seen
seen_among : (files : Files) (q : List ℕ) (comes : Bool) (shown own : Option Word) (object : Object) → FitHere comes shown own → coming comes files q shown ≡ Some object
    → option_or (shown_at is_visible files q own) (coming comes files q shown) ≡ Some object
seen_among files q comes shown None object fit is = is
seen_among files q comes shown (Some own) object fit is = by comes shown (is_visible own) refl refl is
  where
    none_is : (G : Type 0) → ◌≡◌ {A = Option Object} None (Some object) → G
    none_is G e = (let bad : ⊥ = cc in absurd bad)

    at : (word : Word) (v w : Bool) → comes ≡ true → shown ≡ Some word → is_visible word ≡ v → (if v then Some (object_at files q word) else None) ≡ Some object
        → option_or (if w then Some (object_at files q own) else None) (if v then Some (object_at files q word) else None) ≡ Some object
    at word true true here there seen is = ap Some (object_alike files q word own (fit word own here there seen refl)) ∙ is
    at word true false here there seen is = is
    at word false w here there seen is = none_is _ is

    by : (b : Bool) (s : Option Word) (w : Bool) → comes ≡ b → shown ≡ s → cond b (shown_at is_visible files q s) None ≡ Some object
        → option_or (if w then Some (object_at files q own) else None) (cond b (shown_at is_visible files q s) None) ≡ Some object
    by true None w here there is = none_is _ is
    by true (Some word) w here there is = at word (is_visible word) w here there refl is
    by false s w here there is = none_is _ is

adopted_among : (files : Files) (names : List ℕ → Bool) (shown own : Words) → Fits (offered_words names shown) own → AreAmong (offered_by files names shown) (joined (part is_visible files own) (offered_by files names shown))
adopted_among files names shown own fits q object is =
    joined_at files names shown own q ∙ seen_among files q (names q) (get shown q) (get own q) object (fit_here names shown own q fits) (sym (offered_object files names shown q) ∙ is)

pub adopted_seen : (files : Files) (m : AllWords) (to from : List ℕ) (names : List ℕ → Bool) → Fits (offered_words names (ledger_at m from)) (ledger_at m to) → contains_key (tenants_of files m) to ≡ true
    → AreAmong (retain_keys (private_of (tenants_of files m) from).visible names) (private_of (at_tenant (tenants_of files m) to (with_adopted (retain_keys (private_of (tenants_of files m) from).visible names))) to).visible
adopted_seen files m to from names fits there name object here =
    ap (λ (own : Private). get own.visible name) (private_at (tenants_of files m) to (with_adopted (retain_keys (private_of (tenants_of files m) from).visible names)) there)
    ∙ (λ i. get (joined (private_shown files m to i).visible (retain_keys (private_shown files m from i).visible names)) name)
    ∙ adopted_among files names (ledger_at m from) (ledger_at m to) fits name object (sym (ap (λ (own : Private). get (retain_keys own.visible names) name) (private_shown files m from)) ∙ here)

-- ---- use
use_beside : (files : Files) (q : List ℕ) (comes : Bool) (shown own : Option Word) → worth use_of_word (beside comes shown own) ≡ worth use_of_object (option_or (shown_at is_visible files q own) (coming comes files q shown))
use_beside files q comes None None = sym (ap (worth use_of_object) (none_comes comes))
use_beside files q comes None (Some own) = by (is_visible own) ∙ sym (ap (λ o. worth use_of_object (option_or (shown_at is_visible files q (Some own)) o)) (none_comes comes))
  where
    by : (w : Bool) → worth use_of_word (option_or (kept_as w own) None) ≡ worth use_of_object (option_or (if w then Some (object_at files q own) else None) None)
    by true = sym (use_at files q own)
    by false = refl
use_beside files q comes (Some word) None = by comes (is_visible word)
  where
    by : (b v : Bool) → worth use_of_word (kept_as (b && v) (seen_word word)) ≡ worth use_of_object (cond b (if v then Some (object_at files q word) else None) None)
    by true true = sym (use_at files q word)
    by true false = refl
    by false true = refl
    by false false = refl
use_beside files q comes (Some word) (Some own) = by comes (is_visible word) (is_visible own)
  where
    by : (b v w : Bool) → worth use_of_word (option_or (kept_as w own) (kept_as (b && v) (seen_word word))) ≡ worth use_of_object (option_or (if w then Some (object_at files q own) else None) (cond b (if v then Some (object_at files q word) else None) None))
    by true true true = sym (use_at files q own)
    by true false true = sym (use_at files q own)
    by false true true = sym (use_at files q own)
    by false false true = sym (use_at files q own)
    by true true false = sym (use_at files q word)
    by true false false = refl
    by false true false = refl
    by false false false = refl

room_shown : (files : Files) (names : List ℕ → Bool) (shown own : Words) → total_of (shown_beside (offered_words names shown) own) ≡ use_of (joined (part is_visible files own) (offered_by files names shown))
unfolding total_of use_of
room_shown files names shown own = same_sums name_total name_exact use_of_word use_of_object (shown_beside (offered_words names shown) own) (joined (part is_visible files own) (offered_by files names shown)) (λ q.
    ap (worth use_of_word) (beside_at names shown own q) ∙ use_beside files q (names q) (get shown q) (get own q) ∙ ap (worth use_of_object) (sym (joined_at files names shown own q)))

room_tenants : (files : Files) (m : AllWords) (to from : List ℕ) (names : List ℕ → Bool)
    → total_of (shown_beside (offered_words names (ledger_at m from)) (ledger_at m to)) ≡ use_of (joined (private_of (tenants_of files m) to).visible (retain_keys (private_of (tenants_of files m) from).visible names))
room_tenants files m to from names =
    room_shown files names (ledger_at m from) (ledger_at m to)
    ∙ (λ i. use_of (joined (sym (private_shown files m to) i).visible (retain_keys (sym (private_shown files m from) i).visible names)))

-- whether there is room, as the ledgers tell it
pub room_told : (files : Files) (m : AllWords) (tenants : Tenants) (to from : List ℕ) (names : List ℕ → Bool) (limit : ℕ) (told : Bool) → tenants_of files m ≡ tenants
    → told ≡ nat_le (total_of (shown_beside (offered_words names (ledger_at m from)) (ledger_at m to))) limit → told ≡ nat_le (use_of (joined (private_of tenants to).visible (retain_keys (private_of tenants from).visible names))) limit
room_told files m tenants to from names limit told shown is =
    is ∙ ap (λ n. nat_le n limit) (room_tenants files m to from names) ∙ ap (λ tenants. nat_le (use_of (joined (private_of tenants to).visible (retain_keys (private_of tenants from).visible names))) limit) shown

-- ---- measures
-- what is adopted of objects of the same measures, by private maps of the same
pub measures_adopted : (objects others : Objects) (names : List ℕ → Bool) (a b : Private) → measures_of objects ≡ measures_of others → private_measures a ≡ private_measures b
    → private_measures (with_adopted (retain_keys objects names) a) ≡ private_measures (with_adopted (retain_keys others names) b)
measures_adopted objects others names a b first same =
    let comes = measures_kept objects names ∙ ap (λ (m : Measures). retain_keys m names) first ∙ sym (measures_kept others names) in
    let seen = same_both (record { visible = a.visible; staged = retain_keys objects names }) (record { visible = b.visible; staged = retain_keys others names }) (λ i. ((same i).0, comes i)) in
    λ i. (seen i, (same i).1)
