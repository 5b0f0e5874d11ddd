-- Files that were put and removed, one after another.
use Rattle.std.proofs.Common.{◌≡◌, ◌≢◌, ℕ, Bool, true, false, cond, List, ◌∷◌, ◌++◌, Option, Some, None, Result, Ok, Err, OnOk, OnErr, refl, sym, ap, subst, ◌∙◌}
use Rattle.std.specs.declared.cmp.Ordering.{Ordering}
use Rattle.std.specs.declared.cmp.Ordering.TheVariants.{Less, Equal, Greater}
use Rattle.std.specs.Ordering.{is_eq, eq_by_cmp}
use Rattle.std.specs.FinMap.{get, insert, remove, get-insert, get-remove, same_map}
use Rattle.git_name.specs.Name.{name_cmp}
use Rattle.git_name.proofs.Names.{name_total, name_exact}
use Rattle.devices.specs.Device.{Files, put_there, bytes_or_none, files_of}
use Rattle.devices.specs.Note.{Make, past_of}
use Rattle.devices.specs.declared.note.Note.{Note}
use Rattle.devices.specs.declared.note.Note.TheVariants.{Write, Append, Rename, Remove}

tied : (o : Ordering) → is_eq o ≡ true → o ≡ Equal
tied Less e = cc
tied Equal e = refl
tied Greater e = cc

one_path : (x y : List ℕ) → is_eq (name_cmp x y) ≡ true → x ≡ y
one_path x y e = name_exact x y (tied _ e)

again : (b : Bool) (v o : Option (List ℕ)) → cond b v (cond b None o) ≡ cond b v o
again true v o = refl
again false v o = refl

-- a file that was removed and put again
pub insert_again : (files : Files) (path bytes : List ℕ) → insert (remove files path) path bytes ≡ insert files path bytes
insert_again files path bytes = same_map name_total name_exact _ _ (λ q.
    get-insert name_total (remove files path) path bytes q
    ∙ ap (cond (eq_by_cmp name_cmp q path) (Some bytes)) (get-remove name_total files path q)
    ∙ again (eq_by_cmp name_cmp q path) (Some bytes) (get files q)
    ∙ sym (get-insert name_total files path bytes q))

swapped : (b c : Bool) (v o : Option (List ℕ)) → (b ≡ true → c ≡ true → ⊥) → cond b None (cond c v o) ≡ cond c v (cond b None o)
swapped true true v o apart = absurd (apart refl refl)
swapped true false v o apart = refl
swapped false c v o apart = refl

-- two paths that differ, in either order
pub remove_insert : (files : Files) (from to bytes : List ℕ) → to ≢ from → remove (insert files to bytes) from ≡ insert (remove files from) to bytes
remove_insert files from to bytes differ = same_map name_total name_exact _ _ (λ q.
    get-remove name_total (insert files to bytes) from q
    ∙ ap (cond (eq_by_cmp name_cmp q from) None) (get-insert name_total files to bytes q)
    ∙ swapped (eq_by_cmp name_cmp q from) (eq_by_cmp name_cmp q to) (Some bytes) (get files q) (λ a b. differ (sym (one_path q to b) ∙ one_path q from a))
    ∙ ap (cond (eq_by_cmp name_cmp q to) (Some bytes)) (sym (get-remove name_total files from q))
    ∙ sym (get-insert name_total (remove files from) to bytes q))

-- a file that does not exist
pub remove_none : (files : Files) (path : List ℕ) → get files path ≡ None → remove files path ≡ files
remove_none files path none = same_map name_total name_exact _ _ (λ q. get-remove name_total files path q ∙ by q (eq_by_cmp name_cmp q path) refl)
  where
    by : (q : List ℕ) (b : Bool) → eq_by_cmp name_cmp q path ≡ b → cond b None (get files q) ≡ get files q
    by q true e = sym (ap (get files) (one_path q path e) ∙ none)
    by q false e = refl

-- ---- the notes make the files
pub files_are : (base : Files) (notes : List Note) (files : Files) → Make base notes files → files ≡ files_of (past_of base notes)
files_are base notes files make = same_map name_total name_exact _ _ make

pub make_of : (base : Files) (notes : List Note) (files : Files) → files ≡ files_of (past_of base notes) → Make base notes files
make_of base notes files is q = ap (λ (m : Files). get m q) is

-- a call that adds a note and changes the files, or neither
pub made_after : {A E : Type 0} (base : Files) (result : Result A E) (notes new : List Note) (files changed next : Files) (note : Note)
    → OnOk result ((new ≡ note ∷ notes) × (next ≡ changed)) → OnErr result ((new ≡ notes) × (next ≡ files)) → Make base notes files → Make base (note ∷ notes) changed → Make base new next
made_after base (Ok answer) notes new files changed next note ok err old more = subst (λ (l : List Note). Make base l next) (sym ok.0) (subst (Make base (note ∷ notes)) (sym ok.1) more)
made_after base (Err fault) notes new files changed next note ok err old more = subst (λ (l : List Note). Make base l next) (sym err.0) (subst (Make base notes) (sym err.1) old)

pub made_write : (base : Files) (notes : List Note) (files : Files) (path bytes p b : List ℕ) → path ≡ p → bytes ≡ b → Make base notes files → Make base (Write path bytes ∷ notes) (insert files p b)
made_write base notes files path bytes p b path_is bytes_is old = make_of base (Write path bytes ∷ notes) _ (λ i. insert (files_are base notes files old i) (sym path_is i) (sym bytes_is i))

pub made_append : (base : Files) (notes : List Note) (files : Files) (path bytes p b whole : List ℕ) → path ≡ p → bytes ≡ b → whole ≡ bytes_or_none (get files p) ++ b → Make base notes files → Make base (Append path bytes ∷ notes) (insert files p whole)
made_append base notes files path bytes p b whole path_is bytes_is whole_is old =
    make_of base (Append path bytes ∷ notes) _
    (ap (insert files p) whole_is ∙ (λ i. insert (files_are base notes files old i) (sym path_is i) (bytes_or_none (get (files_are base notes files old i) (sym path_is i)) ++ sym bytes_is i)))

pub made_rename : (base : Files) (notes : List Note) (files : Files) (from to f t : List ℕ) → from ≡ f → to ≡ t → Make base notes files → Make base (Rename from to ∷ notes) (put_there (remove files f) t (get files f))
made_rename base notes files from to f t from_is to_is old =
    make_of base (Rename from to ∷ notes) _ (λ i. put_there (remove (files_are base notes files old i) (sym from_is i)) (sym to_is i) (get (files_are base notes files old i) (sym from_is i)))

pub made_remove : (base : Files) (notes new : List Note) (files next : Files) (path p : List ℕ) → path ≡ p → new ≡ Remove path ∷ notes → next ≡ remove files p → Make base notes files → Make base new next
made_remove base notes new files next path p path_is is next_is old =
    subst (λ (l : List Note). Make base l next) (sym is) (make_of base (Remove path ∷ notes) next (next_is ∙ (λ i. remove (files_are base notes files old i) (sym path_is i))))

-- ---- a file that gets another path
pub renamed_none : (files : Files) (from to : List ℕ) → None ≡ get files from → files ≡ put_there (remove files from) to (get files from)
renamed_none files from to none = sym (remove_none files from (sym none)) ∙ ap (put_there (remove files from) to) none

pub renamed_same : (files : Files) (from to bytes : List ℕ) → to ≡ from → Some bytes ≡ get files from → insert files to bytes ≡ put_there (remove files from) to (get files from)
renamed_same files from to bytes same found =
    sym (insert_again files to bytes) ∙ ap (λ (p : List ℕ). insert (remove files p) to bytes) same ∙ ap (put_there (remove files from) to) found

pub renamed_other : (files : Files) (from to bytes : List ℕ) → to ≢ from → Some bytes ≡ get files from → remove (insert files to bytes) from ≡ put_there (remove files from) to (get files from)
renamed_other files from to bytes differ found = remove_insert files from to bytes differ ∙ ap (put_there (remove files from) to) found
