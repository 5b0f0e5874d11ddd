-- Reading a header line by line.
use Rattle.std.proofs.Common.{◌≡◌, ℕ, List, ◌++◌, refl, sym, ap, Option, Some, None}
use Rattle.std.specs.List.{flat_map}
use Rattle.git_name.specs.Text.{ended}
use Rattle.git_header.specs.Line.{ending}
use Rattle.git_header.specs.Ident.{IdentValue, IsIdentValue, spelled_ident}
use Rattle.git_header.specs.Value.{ident_line}
use Rattle.git_header.specs.Judging.{Grammar, AreRightLines, IsFirstFault}
use Rattle.git_header.proofs.Splits.{same_rest}
use Rattle.git_header.proofs.IdentLemmas.{ident_unique}
use Rattle.git_header.proofs.JudgingLemmas.{right_lines, fault_behind}
use Rattle.git_header.proofs.FieldLemmas.{lines_push}

-- what was read is valid lines, which lead to a place
pub record IsRead {P F : Type 0} (g : Grammar P F) (start : P) (bytes : List ℕ) (lines : List (List ℕ)) (place : P) (rest : List ℕ) : Type 0 where
  pub right : AreRightLines g start lines place
  pub parts : bytes ≡ flat_map ended lines ++ rest

pub go_on : {P F : Type 0} (g : Grammar P F) (start : P) (bytes : List ℕ) (lines more : List (List ℕ)) (p q : P) (rest after : List ℕ) → IsRead g start bytes lines p rest → AreRightLines g p more q → rest ≡ flat_map ended more ++ after → IsRead g start bytes (lines ++ more) q after
go_on g start bytes lines more p q rest after read right parts = record {
  right = right_lines g start p q lines more read.right right;
  parts = lines_push lines more bytes rest after read.parts parts;
}

pub fault_later : {P F : Type 0} (g : Grammar P F) (start : P) (why : F) (bytes : List ℕ) (lines : List (List ℕ)) (p : P) (rest : List ℕ) → IsRead g start bytes lines p rest → IsFirstFault g p why rest → IsFirstFault g start why bytes
fault_later g start why bytes lines p rest read wrong = fault_behind g start p why lines rest bytes read.right read.parts wrong

pub same_ending : (m n : Option (List ℕ)) → ending m ≡ ending n → m ≡ n
same_ending None None e = refl
same_ending None (Some n) e = let no_such : ⊥ = cc in absurd no_such
same_ending (Some m) None e = let no_such : ⊥ = cc in absurd no_such
same_ending (Some m) (Some n) e = let same : m ≡ n = cc in ap (λ (t : List ℕ). Some t) same

pub same_ident : (word : List ℕ) (a b : IdentValue) → IsIdentValue a → IsIdentValue b → ident_line word a ≡ ident_line word b → a ≡ b
same_ident word a b is_a is_b same =
    sym (ident_unique (spelled_ident a) a b (record { right = is_a; spelling = refl }) (record { right = is_b; spelling = same_rest word (spelled_ident a) (spelled_ident b) same }))
