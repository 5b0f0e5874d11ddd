-- Bytes that no record begins: each record has a title, and what follows the title is as its kind asks.
use Rattle.std.proofs.Common.{◌≡◌, ◌≢◌, ℕ, ◌+◌, ◌<◌, ◌≤◌, Bool, true, false, cond, nat_eq, Option, Some, None, IfNone, List, [], ◌∷◌, ◌++◌, length, take, drop, refl, sym, ◌∙◌, ap, append_assoc, length-append, arith}
use Rattle.std.proofs.lemmas.Bool.Decides.{nat_tests}
use Rattle.std.specs.Int.{to_be_bytes, w16, w32}
use Rattle.packed_store.specs.declared.place.TheConstants.{MAX_FILE, SHORT}
use Rattle.std.proofs.Math.Seq.{drop-append_seam, take-append_seam}
use Rattle.sha2.specs.Sha256.{sha256}
use Rattle.sha2.proofs.Facts256.{length-sha256}
use Rattle.packed_store.specs.Entry.{Entry, File, IsEntry, Object, Removal, Settled, Short, Undone, kind_and_length, no_name, spelled, summed, titled}
use Rattle.packed_store.specs.Reading.{CanSay, HasNoRecord, IsSummed, IsTitle, title_bytes}
use Rattle.packed_store.proofs.LawLemmas.{Title, same_front, split_same, title_in}
use Rattle.packed_store.proofs.ReadingLemmas.{length_titled}

-- bytes that a record begins have its title in front
begun : (entry : Entry) (right : IsEntry entry) (bytes more : List ℕ) → bytes ≡ spelled entry ++ more
    → bytes ≡ kind_and_length (title_in entry right).kind (length (title_in entry right).own) ++ ((title_in entry right).name ++ ((title_in entry right).own ++ ((title_in entry right).behind ++ more)))
begun entry right bytes more is =
    let one = title_in entry right in
    let parts : (titled one.kind one.name one.own ++ one.behind) ++ more ≡ kind_and_length one.kind (length one.own) ++ (one.name ++ (one.own ++ (one.behind ++ more))) = simp append_assoc in
    is ∙ ap (λ (b : List ℕ). b ++ more) one.whole ∙ parts

-- where no title is, no record is
pub no_title : (bytes : List ℕ) → ((kind len : ℕ) (name rest : List ℕ) → length name ≡ 32 → CanSay kind len → bytes ≢ title_bytes kind len name ++ rest) → HasNoRecord bytes
no_title bytes none entry more right is =
    let one = title_in entry right in
    let rest = one.own ++ (one.behind ++ more) in
    none one.kind (length one.own) one.name rest one.long one.can (begun entry right bytes more is ∙ sym (append_assoc (kind_and_length one.kind (length one.own)) one.name rest))

either_form : (b : Bool) (bytes : List ℕ) (kind len : ℕ) (name rest : List ℕ) → nat_eq kind 128 ≡ b → ((count : ℕ) (more : List ℕ) → count < SHORT → bytes ≢ to_be_bytes w16 (SHORT + count) ++ more)
    → ((letter count : ℕ) (named more : List ℕ) → length named ≡ 32 → letter < 128 → count ≤ MAX_FILE → bytes ≢ (letter ∷ to_be_bytes w32 count ++ named) ++ more)
    → length name ≡ 32 → CanSay kind len → bytes ≢ (cond b (to_be_bytes w16 (SHORT + len)) (kind ∷ to_be_bytes w32 len) ++ name) ++ rest
either_form true bytes kind len name rest e short letters long can is =
    let few : kind ≡ 128 = grind (arith, nat_tests) in
    short len (name ++ rest) (can.few few) (is ∙ append_assoc (to_be_bytes w16 (SHORT + len)) name rest)
either_form false bytes kind len name rest e short letters long can is =
    let differs : kind ≡ 128 → ⊥ = λ k. grind (arith, nat_tests) in
    let letter : kind < 128 = grind (arith, differs, can.kinds) in
    letters kind len name rest long letter can.fits is

-- where neither two bytes of a kind and a length are, nor a title with a letter, no title is
pub no_form : {A : Type 0} (r : Option A) (bytes : List ℕ) → ((count : ℕ) (more : List ℕ) → count < SHORT → bytes ≢ to_be_bytes w16 (SHORT + count) ++ more)
    → IfNone r ((letter count : ℕ) (named more : List ℕ) → length named ≡ 32 → letter < 128 → count ≤ MAX_FILE → bytes ≢ (letter ∷ to_be_bytes w32 count ++ named) ++ more)
    → IfNone r ((kind len : ℕ) (name rest : List ℕ) → length name ≡ 32 → CanSay kind len → bytes ≢ title_bytes kind len name ++ rest)
no_form None bytes short letters = λ kind len name rest long can is. either_form (nat_eq kind 128) bytes kind len name rest refl short letters long can is
no_form (Some found) bytes short letters = tt

-- what a title says of a record that begins the same bytes
pub record Agrees {entry : Entry} (one : Title entry) (kind len : ℕ) (name rest more : List ℕ) : Type 0 where
  pub kinds : one.kind ≡ kind
  pub counts : length one.own ≡ len
  pub names : one.name ≡ name
  pub rests : one.own ++ (one.behind ++ more) ≡ rest

pub agrees : (bytes : List ℕ) (kind len : ℕ) (name rest : List ℕ) (entry : Entry) (more : List ℕ) (right : IsEntry entry) → IsTitle bytes kind len name rest → bytes ≡ spelled entry ++ more
    → Agrees (title_in entry right) kind len name rest more
agrees bytes kind len name rest entry more right title is =
    let one = title_in entry right in
    let after = one.own ++ (one.behind ++ more) in
    let all = sym (begun entry right bytes more is) ∙ title.whole ∙ append_assoc (kind_and_length kind len) name rest in
    let first = same_front one.kind kind (length one.own) len (one.name ++ after) (name ++ rest) one.can title.right all in
    let last = split_same one.name name after rest (one.long ∙ sym title.named.length) first.rests in
    record { kinds = first.kinds; counts = first.counts; names = last.front; rests = last.back }

-- the bytes that a title tells of must be there
pub too_short : (bytes : List ℕ) (kind len : ℕ) (name rest : List ℕ) → IsTitle bytes kind len name rest → length rest < len → HasNoRecord bytes
too_short bytes kind len name rest title short entry more right is =
    let one = title_in entry right in
    let same = agrees bytes kind len name rest entry more right title is in
    let never : ⊥ = omega (arith, short, same.counts, ap length same.rests, length-append one.own (one.behind ++ more)) in
    never

-- bytes with their sum in front
summed_of : (bytes front more : List ℕ) (end : ℕ) → bytes ≡ summed front ++ more → length front ≡ end → IsSummed end bytes
summed_of bytes front more end is counted =
    let whole : bytes ≡ front ++ (sha256 front ++ more) = is ∙ append_assoc front (sha256 front) more in
    let before : take end bytes ≡ front = ap (take end) whole ∙ ap (λ (n : ℕ). take n (front ++ (sha256 front ++ more))) (sym counted) ∙ take-append_seam front (sha256 front ++ more) in
    let after : drop end bytes ≡ sha256 front ++ more = ap (drop end) whole ∙ ap (λ (n : ℕ). drop n (front ++ (sha256 front ++ more))) (sym counted) ∙ drop-append_seam front (sha256 front ++ more) in
    record {
      long = omega (arith, counted, ap length whole, length-append front (sha256 front ++ more), length-append (sha256 front) more, length-sha256 front);
      sum = ap (take 32) after ∙ ap (λ (n : ℕ). take n (sha256 front ++ more)) (sym (length-sha256 front)) ∙ take-append_seam (sha256 front) more ∙ ap sha256 (sym before);
    }

-- an object's name must be the hash of its file
pub not_object : (bytes : List ℕ) (len : ℕ) (name rest : List ℕ) → IsTitle bytes 111 len name rest → (name ≡ sha256 (take len rest) → ⊥) → HasNoRecord bytes
unfolding title_in
not_object bytes len name rest title differs (Object named own) more right is =
    let same = agrees bytes 111 len name rest (Object named own) more right title is in
    let part : take len rest ≡ own = ap (take len) (sym same.rests) ∙ ap (λ (n : ℕ). take n (own ++ ([] ++ more))) (sym same.counts) ∙ take-append_seam own ([] ++ more) in
    differs (sym same.names ∙ right.1 ∙ ap sha256 (sym part))
not_object bytes len name rest title differs (Short named own) more right is = let never : ⊥ = omega (arith, (agrees bytes 111 len name rest (Short named own) more right title is).kinds) in never
not_object bytes len name rest title differs (File named own) more right is = let never : ⊥ = omega (arith, (agrees bytes 111 len name rest (File named own) more right title is).kinds) in never
not_object bytes len name rest title differs (Removal named) more right is = let never : ⊥ = omega (arith, (agrees bytes 111 len name rest (Removal named) more right title is).kinds) in never
not_object bytes len name rest title differs Settled more right is = let never : ⊥ = omega (arith, (agrees bytes 111 len name rest Settled more right title is).kinds) in never
not_object bytes len name rest title differs Undone more right is = let never : ⊥ = omega (arith, (agrees bytes 111 len name rest Undone more right title is).kinds) in never

pub not_short : (bytes : List ℕ) (len : ℕ) (name rest : List ℕ) → IsTitle bytes 128 len name rest → (name ≡ sha256 (take len rest) → ⊥) → HasNoRecord bytes
unfolding title_in
not_short bytes len name rest title differs (Short named own) more right is =
    let same = agrees bytes 128 len name rest (Short named own) more right title is in
    let part : take len rest ≡ own = ap (take len) (sym same.rests) ∙ ap (λ (n : ℕ). take n (own ++ ([] ++ more))) (sym same.counts) ∙ take-append_seam own ([] ++ more) in
    differs (sym same.names ∙ right.1 ∙ ap sha256 (sym part))
not_short bytes len name rest title differs (Object named own) more right is = let never : ⊥ = omega (arith, (agrees bytes 128 len name rest (Object named own) more right title is).kinds) in never
not_short bytes len name rest title differs (File named own) more right is = let never : ⊥ = omega (arith, (agrees bytes 128 len name rest (File named own) more right title is).kinds) in never
not_short bytes len name rest title differs (Removal named) more right is = let never : ⊥ = omega (arith, (agrees bytes 128 len name rest (Removal named) more right title is).kinds) in never
not_short bytes len name rest title differs Settled more right is = let never : ⊥ = omega (arith, (agrees bytes 128 len name rest Settled more right title is).kinds) in never
not_short bytes len name rest title differs Undone more right is = let never : ⊥ = omega (arith, (agrees bytes 128 len name rest Undone more right title is).kinds) in never

-- a file must have its sum behind it
pub not_file : (bytes : List ℕ) (len : ℕ) (name rest : List ℕ) → IsTitle bytes 102 len name rest → (IsSummed (37 + len) bytes → ⊥) → HasNoRecord bytes
unfolding title_in
not_file bytes len name rest title differs (File named own) more right is =
    let same = agrees bytes 102 len name rest (File named own) more right title is in
    differs (summed_of bytes (titled 102 named own) more (37 + len) is (length_titled 102 named own right.1.length ∙ ap (λ (n : ℕ). 37 + n) same.counts))
not_file bytes len name rest title differs (Short named own) more right is = let never : ⊥ = omega (arith, (agrees bytes 102 len name rest (Short named own) more right title is).kinds) in never
not_file bytes len name rest title differs (Object named own) more right is = let never : ⊥ = omega (arith, (agrees bytes 102 len name rest (Object named own) more right title is).kinds) in never
not_file bytes len name rest title differs (Removal named) more right is = let never : ⊥ = omega (arith, (agrees bytes 102 len name rest (Removal named) more right title is).kinds) in never
not_file bytes len name rest title differs Settled more right is = let never : ⊥ = omega (arith, (agrees bytes 102 len name rest Settled more right title is).kinds) in never
not_file bytes len name rest title differs Undone more right is = let never : ⊥ = omega (arith, (agrees bytes 102 len name rest Undone more right title is).kinds) in never

-- a record without bytes must have its sum behind its title
pub not_summed : (bytes : List ℕ) (kind len : ℕ) (name rest : List ℕ) → IsTitle bytes kind len name rest → (kind ≡ 128 → ⊥) → (kind ≡ 111 → ⊥) → (kind ≡ 102 → ⊥) → (IsSummed 37 bytes → ⊥) → HasNoRecord bytes
unfolding title_in
not_summed bytes kind len name rest title short first second differs (Short named own) more right is = short (sym (agrees bytes kind len name rest (Short named own) more right title is).kinds)
not_summed bytes kind len name rest title short first second differs (Object named own) more right is = first (sym (agrees bytes kind len name rest (Object named own) more right title is).kinds)
not_summed bytes kind len name rest title short first second differs (File named own) more right is = second (sym (agrees bytes kind len name rest (File named own) more right title is).kinds)
not_summed bytes kind len name rest title short first second differs (Removal named) more right is = differs (summed_of bytes (titled 114 named []) more 37 is (length_titled 114 named [] right.length))
not_summed bytes kind len name rest title short first second differs Settled more right is = differs (summed_of bytes (titled 115 no_name []) more 37 is (length_titled 115 no_name [] refl))
not_summed bytes kind len name rest title short first second differs Undone more right is = differs (summed_of bytes (titled 117 no_name []) more 37 is (length_titled 117 no_name [] refl))

-- and one that names nothing must have zeros in its name's place
pub not_blank : (bytes : List ℕ) (kind len : ℕ) (name rest : List ℕ) → IsTitle bytes kind len name rest → (kind ≡ 128 → ⊥) → (kind ≡ 111 → ⊥) → (kind ≡ 102 → ⊥) → (kind ≡ 114 → ⊥) → (name ≡ no_name → ⊥) → HasNoRecord bytes
unfolding title_in
not_blank bytes kind len name rest title short first second third differs (Short named own) more right is = short (sym (agrees bytes kind len name rest (Short named own) more right title is).kinds)
not_blank bytes kind len name rest title short first second third differs (Object named own) more right is = first (sym (agrees bytes kind len name rest (Object named own) more right title is).kinds)
not_blank bytes kind len name rest title short first second third differs (File named own) more right is = second (sym (agrees bytes kind len name rest (File named own) more right title is).kinds)
not_blank bytes kind len name rest title short first second third differs (Removal named) more right is = third (sym (agrees bytes kind len name rest (Removal named) more right title is).kinds)
not_blank bytes kind len name rest title short first second third differs Settled more right is = differs (sym (agrees bytes kind len name rest Settled more right title is).names)
not_blank bytes kind len name rest title short first second third differs Undone more right is = differs (sym (agrees bytes kind len name rest Undone more right title is).names)
