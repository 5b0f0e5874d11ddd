use Rattle.std.proofs.Common.{◌≡◌, ◌==◌, ◌<◌, ◌≤◌, ℕ, Bool, true, false, cond, List, [], ◌∷◌, length, arith}
use Rattle.std.specs.Prelude.{nat_lt}
use Rattle.std.proofs.lemmas.Bool.Decides.{nat_tests}
use Rattle.git_name.specs.Text.{onto_first, words_of}
use Rattle.fork_host.proofs.items.has_many.Goals as goal

-- a line has at least one word
some_first : (b : ℕ) (words : List (List ℕ)) → 1 ≤ length (onto_first b words)
some_first b [] = omega arith
some_first b (word ∷ words) = omega arith

some_words : (bytes : List ℕ) → 1 ≤ length (words_of bytes)
some_words [] = omega arith
some_words (b ∷ bytes) = by (b == 32)
  where
    by : (is_space : Bool) → 1 ≤ length (cond is_space ([] ∷ words_of bytes) (onto_first b (words_of bytes)))
    by true = omega arith
    by false = some_first b (words_of bytes)

above : (n : ℕ) → 64 < n → true ≡ nat_lt 64 n
above n more = grind (arith, nat_tests)

pub returns : goal.returns
returns c =
    let some = some_words c.items.rest.now in
    let all = c.items.invariant in
    let passed = c.items-test.false in
    above (length (words_of c.args.items.now)) (omega arith)
