-- What one tenant's ledger shows, as its words change.
use Rattle.std.proofs.Common.{◌≡◌, ℕ, List, Bool, true, false, Option, Some, None, cond, is_some, length, refl, sym, ap, ◌∙◌}
use Rattle.std.specs.Prelude.{if◌then◌else◌}
use Rattle.std.specs.Option.{option_and_then, option_map, unwrap_or}
use Rattle.std.specs.Ordering.{eq_by_cmp}
use Rattle.std.specs.FinMap.{get, get-empty, get-insert, insert, same_map}
use Rattle.git_name.specs.declared.kind.Kind.{Kind}
use Rattle.git_name.specs.Name.{name_cmp}
use Rattle.git_name.specs.Object.{Object, object_name}
use Rattle.git_name.proofs.Names.{name_total, name_exact}
use Rattle.fork_reach.specs.Source.{Objects}
use Rattle.fork_reach.proofs.KeptObjects.{tied_names}
use Rattle.object_table.specs.Words.{Words, discarded_words, is_staged, is_visible, kept_as, kept_standing, kept_word, kept_words, published_words, seen_word, shows, staged_over, staged_too, staged_words, unstaged_word, waits as stands_staged, with_standing}
use Rattle.object_table.specs.declared.word.Standing.{Standing}
use Rattle.object_table.specs.declared.word.Standing.TheVariants.{Visible, Staged, Both}
use Rattle.object_table.specs.declared.word.Word.{Word}
use Rattle.object_table.proofs.ChosenLemmas.{get_chosen}
use Rattle.loose_store.specs.Files.{Files}
use Rattle.loose_store.specs.Stored.{Whole}
use Rattle.fork_ledger.specs.Private.{Private, with_discarded, with_kept, with_published, with_staged, with_under}
use Rattle.fork_ledger.specs.Shown.{object_at, own_of, part}
use Rattle.fork_ledger.proofs.SeenLemmas.{get_kept}
use Rattle.fork_ledger.proofs.ShownLemmas.{alike, both_shown, get_part, object_of_whole, same_private, shown_at}
use Rattle.fork_ledger.proofs.UpdateLemmas.{insert_same}

-- ---- publish
published_seen : (files : Files) (q : List ℕ) (o : Option Word) → shown_at is_visible files q (option_and_then (λ word. Some (seen_word word)) o) ≡ option_map (object_at files q) o
published_seen files q None = refl
published_seen files q (Some word) = ap Some (alike files q word Visible)

published_waits : (files : Files) (q : List ℕ) (o : Option Word) → shown_at is_staged files q (option_and_then (λ word. Some (seen_word word)) o) ≡ None
published_waits files q None = refl
published_waits files q (Some word) = refl

pub published_own : (files : Files) (words : Words) → own_of files (published_words words) ≡ with_published (own_of files words)
published_own files words = same_private _ _
    (same_map name_total name_exact _ _ (λ q.
    get_part is_visible files (published_words words) q ∙ ap (shown_at is_visible files q) (get_chosen name_total name_exact (λ _ word. Some (seen_word word)) words q)
    ∙ published_seen files q (get words q) ∙ sym (both_shown files words q)))
    (same_map name_total name_exact _ _ (λ q.
    get_part is_staged files (published_words words) q ∙ ap (shown_at is_staged files q) (get_chosen name_total name_exact (λ _ word. Some (seen_word word)) words q)
    ∙ published_waits files q (get words q) ∙ sym (get-empty name_cmp q)))

-- ---- discard
discarded_seen : (files : Files) (q : List ℕ) (o : Option Word) → shown_at is_visible files q (option_and_then unstaged_word o) ≡ shown_at is_visible files q o
discarded_seen files q None = refl
discarded_seen files q (Some word) = by (is_visible word)
  where
    by : (b : Bool) → shown_at is_visible files q (kept_as b (seen_word word)) ≡ (if b then Some (object_at files q word) else None)
    by true = ap Some (alike files q word Visible)
    by false = refl

discarded_waits : (files : Files) (q : List ℕ) (o : Option Word) → shown_at is_staged files q (option_and_then unstaged_word o) ≡ None
discarded_waits files q None = refl
discarded_waits files q (Some word) = by (is_visible word)
  where
    by : (b : Bool) → shown_at is_staged files q (kept_as b (seen_word word)) ≡ None
    by true = refl
    by false = refl

pub discarded_own : (files : Files) (words : Words) → own_of files (discarded_words words) ≡ with_discarded (own_of files words)
discarded_own files words = same_private _ _
    (same_map name_total name_exact _ _ (λ q.
    get_part is_visible files (discarded_words words) q ∙ ap (shown_at is_visible files q) (get_chosen name_total name_exact (λ _ word. unstaged_word word) words q)
    ∙ discarded_seen files q (get words q) ∙ sym (get_part is_visible files words q)))
    (same_map name_total name_exact _ _ (λ q.
    get_part is_staged files (discarded_words words) q ∙ ap (shown_at is_staged files q) (get_chosen name_total name_exact (λ _ word. unstaged_word word) words q)
    ∙ discarded_waits files q (get words q) ∙ sym (get-empty name_cmp q)))

-- ---- keep
kept_seen : (files : Files) (q : List ℕ) (kept : Bool) (o : Option Word) → shown_at is_visible files q (option_and_then (kept_word kept) o) ≡ cond kept (shown_at is_visible files q o) None
kept_seen files q true None = refl
kept_seen files q false None = refl
kept_seen files q kept (Some word) = by kept word.standing
  where
    by : (b : Bool) (s : Standing) → shown_at is_visible files q (option_map (with_standing word) (kept_standing b s)) ≡ cond b (if shows s then Some (object_at files q word) else None) None
    by true Visible = ap Some (alike files q word Visible)
    by false Visible = refl
    by true Staged = refl
    by false Staged = refl
    by true Both = ap Some (alike files q word Both)
    by false Both = refl

kept_waits : (files : Files) (q : List ℕ) (kept : Bool) (o : Option Word) → shown_at is_staged files q (option_and_then (kept_word kept) o) ≡ shown_at is_staged files q o
kept_waits files q kept None = refl
kept_waits files q kept (Some word) = by kept word.standing
  where
    by : (b : Bool) (s : Standing) → shown_at is_staged files q (option_map (with_standing word) (kept_standing b s)) ≡ (if stands_staged s then Some (object_at files q word) else None)
    by true Visible = refl
    by false Visible = refl
    by true Staged = ap Some (alike files q word Staged)
    by false Staged = ap Some (alike files q word Staged)
    by true Both = ap Some (alike files q word Both)
    by false Both = ap Some (alike files q word Staged)

pub kept_own : (keep : List ℕ → Bool) (files : Files) (words : Words) → own_of files (kept_words keep words) ≡ with_kept keep (own_of files words)
kept_own keep files words = same_private _ _
    (same_map name_total name_exact _ _ (λ q.
    get_part is_visible files (kept_words keep words) q ∙ ap (shown_at is_visible files q) (get_chosen name_total name_exact (λ name word. kept_word (keep name) word) words q)
    ∙ kept_seen files q (keep q) (get words q) ∙ ap (λ o. cond (keep q) o None) (sym (get_part is_visible files words q)) ∙ sym (get_kept (part is_visible files words) keep q)))
    (same_map name_total name_exact _ _ (λ q.
    get_part is_staged files (kept_words keep words) q ∙ ap (shown_at is_staged files q) (get_chosen name_total name_exact (λ name word. kept_word (keep name) word) words q)
    ∙ kept_waits files q (keep q) (get words q) ∙ sym (get_part is_staged files words q)))

-- ---- stage
-- with this object staged under this name, unless one is staged there, or one is seen, which stands for it
abbrev pub staged_with : List ℕ → Object → Private → Private
staged_with name object own = record { visible = own.visible; staged = with_under own.staged name (unwrap_or (get own.visible name) object) }

seen_over : (files : Files) (q : List ℕ) (kind : Kind) (n : ℕ) (o : Option Word) → shown_at is_visible files q (Some (staged_over kind n o)) ≡ shown_at is_visible files q o
seen_over files q kind n None = refl
seen_over files q kind n (Some word) = by word.standing
  where
    by : (s : Standing) → shown_at is_visible files q (Some (with_standing word (staged_too s))) ≡ (if shows s then Some (object_at files q word) else None)
    by Visible = ap Some (alike files q word Both)
    by Staged = refl
    by Both = ap Some (alike files q word Both)

pub staged_visible : (files : Files) (words : Words) (name : List ℕ) (kind : Kind) (n : ℕ) → part is_visible files (staged_words name kind n words) ≡ part is_visible files words
staged_visible files words name kind n = same_map name_total name_exact _ _ (λ q.
    get_part is_visible files (staged_words name kind n words) q ∙ ap (shown_at is_visible files q) (get-insert name_total words name (staged_over kind n (get words name)) q)
    ∙ by q (eq_by_cmp name_cmp q name) refl ∙ sym (get_part is_visible files words q))
  where
    by : (q : List ℕ) (b : Bool) → eq_by_cmp name_cmp q name ≡ b → shown_at is_visible files q (cond b (Some (staged_over kind n (get words name))) (get words q)) ≡ shown_at is_visible files q (get words q)
    by q true same = seen_over files q kind n (get words name) ∙ ap (shown_at is_visible files q) (ap (get words) (sym (tied_names q name same)))
    by q false apart = refl

waits_over : (kind : Kind) (n : ℕ) (o : Option Word) → is_staged (staged_over kind n o) ≡ true
waits_over kind n None = refl
waits_over kind n (Some word) = by word.standing
  where
    by : (s : Standing) → stands_staged (staged_too s) ≡ true
    by Visible = refl
    by Staged = refl
    by Both = refl

-- a staged word that is set sets its object
part_set : (files : Files) (words : Words) (name : List ℕ) (word : Word) → is_staged word ≡ true → part is_staged files (insert words name word) ≡ insert (part is_staged files words) name (object_at files name word)
part_set files words name word waiting = same_map name_total name_exact _ _ (λ q.
    get_part is_staged files (insert words name word) q ∙ ap (shown_at is_staged files q) (get-insert name_total words name word q) ∙ by q (eq_by_cmp name_cmp q name) refl
    ∙ sym (get-insert name_total (part is_staged files words) name (object_at files name word) q))
  where
    by : (q : List ℕ) (b : Bool) → eq_by_cmp name_cmp q name ≡ b → shown_at is_staged files q (cond b (Some word) (get words q)) ≡ cond b (Some (object_at files name word)) (get (part is_staged files words) q)
    by q true same = ap (λ b. cond b (Some (object_at files q word)) None) waiting ∙ ap (λ x. Some (object_at files x word)) (tied_names q name same)
    by q false apart = sym (get_part is_staged files words q)

set_fresh : (seen waits : Objects) (name : List ℕ) (object : Object) → get waits name ≡ None → get seen name ≡ None → insert waits name object ≡ with_under waits name (unwrap_or (get seen name) object)
set_fresh seen waits name object none hidden =
    ap (λ o. insert waits name (unwrap_or o object)) (sym hidden) ∙ ap (λ o. cond (is_some o) waits (insert waits name (unwrap_or (get seen name) object))) (sym none)

set_over : (seen waits : Objects) (name : List ℕ) (object x : Object) (s : Standing) → get waits name ≡ cond (stands_staged s) (Some x) None → get seen name ≡ cond (shows s) (Some x) None
    → insert waits name x ≡ with_under waits name (unwrap_or (get seen name) object)
set_over seen waits name object x Visible none shown =
    ap (λ o. insert waits name (unwrap_or o object)) (sym shown) ∙ ap (λ o. cond (is_some o) waits (insert waits name (unwrap_or (get seen name) object))) (sym none)
set_over seen waits name object x Staged there hidden = insert_same waits name x there ∙ ap (λ o. cond (is_some o) waits (insert waits name (unwrap_or (get seen name) object))) (sym there)
set_over seen waits name object x Both there shown = insert_same waits name x there ∙ ap (λ o. cond (is_some o) waits (insert waits name (unwrap_or (get seen name) object))) (sym there)

pub staged_staged : (files : Files) (words : Words) (name : List ℕ) (kind : Kind) (n : ℕ)
    → part is_staged files (staged_words name kind n words) ≡ with_under (part is_staged files words) name (unwrap_or (get (part is_visible files words) name) (object_at files name (staged_over kind n None)))
staged_staged files words name kind n = part_set files words name (staged_over kind n (get words name)) (waits_over kind n (get words name)) ∙ by (get words name) refl
  where
    waits_at : (o : Option Word) → get words name ≡ o → get (part is_staged files words) name ≡ shown_at is_staged files name o
    waits_at o here = get_part is_staged files words name ∙ ap (shown_at is_staged files name) here

    seen_at : (o : Option Word) → get words name ≡ o → get (part is_visible files words) name ≡ shown_at is_visible files name o
    seen_at o here = get_part is_visible files words name ∙ ap (shown_at is_visible files name) here

    by : (o : Option Word) → get words name ≡ o → insert (part is_staged files words) name (object_at files name (staged_over kind n o))
        ≡ with_under (part is_staged files words) name (unwrap_or (get (part is_visible files words) name) (object_at files name (staged_over kind n None)))
    by None here = set_fresh (part is_visible files words) (part is_staged files words) name (object_at files name (staged_over kind n None)) (waits_at None here) (seen_at None here)
    by (Some word) here =
        ap (insert (part is_staged files words) name) (alike files name word (staged_too word.standing))
        ∙ set_over (part is_visible files words) (part is_staged files words) name (object_at files name (staged_over kind n None)) (object_at files name word) word.standing (waits_at (Some word) here) (seen_at (Some word) here)

-- over any files: with the object that the files have under the name
pub staged_own : (files : Files) (words : Words) (name : List ℕ) (kind : Kind) (n : ℕ) → own_of files (staged_words name kind n words) ≡ staged_with name (object_at files name (staged_over kind n None)) (own_of files words)
staged_own files words name kind n = same_private _ _ (staged_visible files words name kind n) (staged_staged files words name kind n)

-- where that file is whole: with that object
pub staged_whole : (files : Files) (words : Words) (object : Object) → Whole files (object_name object) object
    → own_of files (staged_words (object_name object) object.kind (length object.bytes) words) ≡ with_staged object (own_of files words)
staged_whole files words object whole =
    staged_own files words (object_name object) object.kind (length object.bytes)
    ∙ ap (λ o. staged_with (object_name object) o (own_of files words)) (object_of_whole files (object_name object) (staged_over object.kind (length object.bytes) None) object whole refl refl)
