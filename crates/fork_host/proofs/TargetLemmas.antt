-- References of repositories, one repository after another.
use Rattle.std.proofs.Common.{◌≡◌, ℕ, ◌+◌, ◌<◌, ◌++◌, Bool, true, false, List, [], ◌∷◌, Option, None, Some, refl, sym, ap, ◌∙◌, length, drop, get_or, is_some, map}
use Rattle.std.specs.List.{find, flat_map}
use Rattle.std.specs.Option.{option_map, option_or}
use Rattle.std.proofs.lemmas.List.{append_assoc, drop_more}
use Rattle.std.proofs.lemmas.List.Folds.{find-append}
use Rattle.git_reftx.specs.Repository.{Repository}
use Rattle.fork_host.specs.Restored.{references_in, target_of}

abbrev Reference : Type 0
Reference = List ℕ × List ℕ

first_some : (o rest : Option Reference) → is_some (option_map target_of o) ≡ true → option_or o rest ≡ o
first_some (Some reference) rest is = refl
first_some None rest is = absurd (cc)

first_none : (o rest : Option Reference) → is_some (option_map target_of o) ≡ false → option_or o rest ≡ rest
first_none (Some reference) rest is = absurd (cc)
first_none None rest is = refl

-- the references of repositories, and then of others
references_parted : (xs ys : List Repository) → flat_map references_in (xs ++ ys) ≡ flat_map references_in xs ++ flat_map references_in ys
references_parted [] ys = refl
references_parted (x ∷ xs) ys = ap (λ rest. references_in x ++ rest) (references_parted xs ys) ∙ sym (append_assoc (references_in x) (flat_map references_in xs) (flat_map references_in ys))

-- the first bad reference of two lists is that of the first list, or else of the second
pub found_first : (bad : Reference → Bool) (xs ys : List Repository) (told : Option (List ℕ)) → told ≡ option_map target_of (find bad (flat_map references_in xs)) → is_some told ≡ true → told ≡ option_map target_of (find bad (flat_map references_in (xs ++ ys)))
found_first bad xs ys told tells there =
    tells ∙ ap (option_map target_of) (sym (first_some (find bad (flat_map references_in xs)) (find bad (flat_map references_in ys)) (ap is_some (sym tells) ∙ there)) ∙ sym (find-append bad (flat_map references_in xs) (flat_map references_in ys))
    ∙ ap (find bad) (sym (references_parted xs ys)))

pub found_second : (bad : Reference → Bool) (xs ys : List Repository) (first told : Option (List ℕ)) → first ≡ option_map target_of (find bad (flat_map references_in xs)) → is_some first ≡ false
    → told ≡ option_map target_of (find bad (flat_map references_in ys)) → told ≡ option_map target_of (find bad (flat_map references_in (xs ++ ys)))
found_second bad xs ys first told none absent tells =
    tells ∙ ap (option_map target_of) (sym (first_none (find bad (flat_map references_in xs)) (find bad (flat_map references_in ys)) (ap is_some (sym none) ∙ absent)) ∙ sym (find-append bad (flat_map references_in xs) (flat_map references_in ys))
    ∙ ap (find bad) (sym (references_parted xs ys)))

-- for rows that have a repository each
module _ {A : Type 0} (of : A → Repository) (bad : Reference → Bool) (rows : List A) (i : ℕ) (row : A) (told : Option (List ℕ)) (lt : i < length rows) (is : row ≡ get_or rows i row) (tells : told ≡ option_map target_of (find bad (references_in (of row))))
    (so_far : find bad (flat_map references_in (map of (drop i rows))) ≡ find bad (flat_map references_in (map of rows))) where
  -- the first bad reference of those left is in the next repository, or after it
  parted : find bad (flat_map references_in (map of (drop i rows))) ≡ option_or (find bad (references_in (of row))) (find bad (flat_map references_in (map of (drop (i + 1) rows))))
  parted =
      ap (λ rs. find bad (flat_map references_in (map of rs))) (drop_more rows i row lt ∙ ap (λ r. r ∷ drop (i + 1) rows) (sym is))
      ∙ find-append bad (references_in (of row)) (flat_map references_in (map of (drop (i + 1) rows)))

  pub found_here : is_some told ≡ true → told ≡ option_map target_of (find bad (flat_map references_in (map of rows)))
  found_here there =
      tells ∙ ap (option_map target_of) (sym (first_some (find bad (references_in (of row))) (find bad (flat_map references_in (map of (drop (i + 1) rows)))) (ap is_some (sym tells) ∙ there)) ∙ sym parted ∙ so_far)

  pub none_here : is_some told ≡ false → find bad (flat_map references_in (map of (drop (i + 1) rows))) ≡ find bad (flat_map references_in (map of rows))
  none_here absent = sym (parted ∙ first_none (find bad (references_in (of row))) (find bad (flat_map references_in (map of (drop (i + 1) rows)))) (ap is_some (sym tells) ∙ absent)) ∙ so_far
