-- The lines of further headers are lines, and begin with none of the required words.
use Rattle.std.proofs.Common.{◌≡◌, ◌≢◌, inl, inr, ℕ, List, [], ◌∷◌, ◌++◌, refl, sym, ◌∙◌, arith}
use Rattle.std.proofs.lemmas.List.Elements.{All-from_recursion, All-cons, All-append, All-same}
use Rattle.git_name.specs.declared.kind.Kind.{Kind}
use Rattle.git_name.specs.declared.kind.Kind.TheVariants.{Blob, Tree, Commit, Tag}
use Rattle.git_name.specs.Text.{Lacks}
use Rattle.git_header.specs.Header.{IsHeaderLine, IsOwnWord, HasOwnWord, HeaderPlace, NoHeader, SomeHeader, IsFurther}
use Rattle.git_header.proofs.FieldLemmas.{own_is_key}

line_no_zero : (kind : Kind) (line : List ℕ) → IsHeaderLine kind line → Lacks 0 line
line_no_zero kind line h = All-same (λ b. b ≢ 0) _ _ h.spelling (All-append (λ b. b ≢ 0) h.key (32 ∷ h.value) h.key_is.plain.no_zero (All-cons (λ b. b ≢ 0) 32 h.value (λ (e : 32 ≡ 0). absurd (omega arith)) h.value_is.no_zero))

pub further_no_zero : (kind : Kind) (p : HeaderPlace) (line : List ℕ) → IsFurther kind p line → Lacks 0 line
further_no_zero kind NoHeader line h = line_no_zero kind line h
further_no_zero kind SomeHeader line (inl h) = line_no_zero kind line h
further_no_zero kind SomeHeader line (inr h) = All-same (λ b. b ≢ 0) _ _ h.spelling (All-cons (λ b. b ≢ 0) 32 h.value (λ (e : 32 ≡ 0). absurd (omega arith)) h.value_is.no_zero)

pub line_no_end : (kind : Kind) (line : List ℕ) → IsHeaderLine kind line → Lacks 10 line
line_no_end kind line h = All-same (λ b. b ≢ 10) _ _ h.spelling (All-append (λ b. b ≢ 10) h.key (32 ∷ h.value) h.key_is.plain.no_end (All-cons (λ b. b ≢ 10) 32 h.value (λ (e : 32 ≡ 10). absurd (omega arith)) h.value_is.no_end))

pub further_no_end : (kind : Kind) (p : HeaderPlace) (line : List ℕ) → IsFurther kind p line → Lacks 10 line
further_no_end kind NoHeader line h = line_no_end kind line h
further_no_end kind SomeHeader line (inl h) = line_no_end kind line h
further_no_end kind SomeHeader line (inr h) = All-same (λ b. b ≢ 10) _ _ h.spelling (All-cons (λ b. b ≢ 10) 32 h.value (λ (e : 32 ≡ 10). absurd (omega arith)) h.value_is.no_end)

key_some : (key value : List ℕ) → key ++ 32 ∷ value ≢ []
key_some [] value e = let no_such : ⊥ = cc in no_such
key_some (b ∷ key) value e = let no_such : ⊥ = cc in no_such

pub further_some : (kind : Kind) (p : HeaderPlace) (line : List ℕ) → IsFurther kind p line → line ≢ []
further_some kind NoHeader line h e = key_some h.key h.value (sym h.spelling ∙ e)
further_some kind SomeHeader line (inl h) e = key_some h.key h.value (sym h.spelling ∙ e)
further_some kind SomeHeader line (inr h) e = key_some [] h.value (sym h.spelling ∙ e)

own_some : (kind : Kind) (word : List ℕ) → IsOwnWord kind word → word ≢ []
own_some Blob word own e = own
own_some Tree word own e = own
own_some Commit word (inl is) e = let same = sym is ∙ e in let no_such : ⊥ = cc same in no_such
own_some Commit word (inr (inl is)) e = let same = sym is ∙ e in let no_such : ⊥ = cc same in no_such
own_some Commit word (inr (inr (inl is))) e = let same = sym is ∙ e in let no_such : ⊥ = cc same in no_such
own_some Commit word (inr (inr (inr is))) e = let same = sym is ∙ e in let no_such : ⊥ = cc same in no_such
own_some Tag word (inl is) e = let same = sym is ∙ e in let no_such : ⊥ = cc same in no_such
own_some Tag word (inr (inl is)) e = let same = sym is ∙ e in let no_such : ⊥ = cc same in no_such
own_some Tag word (inr (inr (inl is))) e = let same = sym is ∙ e in let no_such : ⊥ = cc same in no_such
own_some Tag word (inr (inr (inr is))) e = let same = sym is ∙ e in let no_such : ⊥ = cc same in no_such

pub further_stands : (kind : Kind) (p : HeaderPlace) (line : List ℕ) → IsFurther kind p line → HasOwnWord kind line → ⊥
further_stands kind NoHeader line h has = h.key_is.other (own_is_key kind line h.key h.value h.spelling h.key_is.no_space has)
further_stands kind SomeHeader line (inl h) has = h.key_is.other (own_is_key kind line h.key h.value h.spelling h.key_is.no_space has)
further_stands kind SomeHeader line (inr h) has = own_some kind [] (own_is_key kind line [] h.value h.spelling (All-from_recursion (λ b. b ≢ 32) [] tt) has) refl
