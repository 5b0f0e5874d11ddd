use Rattle.std.proofs.Common.{Option, Some, None, ◌≡◌, ◌≢◌, ◌∷◌, [], ◌++◌, ℕ, List, Bor, All, ap, ◌∙◌}
use Rattle.std.specs.Prelude.{IfSome, IfNone}
use Rattle.git_name.specs.Text.{words_of}
use Rattle.git_name.proofs.TextLemmas.{words_of-append, words_of-plain}
use Rattle.git_name.proofs.text.first_word.Goals as goal

abbrev Pair : Type 0
Pair = Bor (List ℕ) × Bor (List ℕ)

more : (line : List ℕ) (o : Option Pair) → IfSome o (λ p. line ≡ p.0.now ++ 32 ∷ p.1.now) → IfSome o (λ p. All (λ b. b ≢ 32) p.0.now) → IfSome o (λ p. words_of line ≡ p.0.now ∷ words_of p.1.now)
more line None whole first = tt
more line (Some p) whole first = ap words_of whole ∙ words_of-append p.0.now p.1.now first

one : (line : List ℕ) (o : Option Pair) → IfNone o (All (λ b. b ≢ 32) line) → IfNone o (words_of line ≡ line ∷ [])
one line None plain = words_of-plain line plain
one line (Some p) plain = tt

pub returns-clause-more : goal.returns-clause-more
returns-clause-more c = more c.args.line.now c.split_once.result c.split_once.ensures.whole c.split_once.ensures.first

pub returns-clause-one : goal.returns-clause-one
returns-clause-one c = one c.args.line.now c.split_once.result c.split_once.ensures.none
