use Rattle.std.proofs.Common.{◌≡◌, ◌≢◌, ◌*◌, ℕ, List, [], length, ap, ◌∙◌, refl, arith}
use Rattle.std.proofs.lemmas.Bool.Decides.{nat_tests}
use Rattle.std.proofs.lemmas.List.{length-set}
use Rattle.hex.specs.Hex.{encode_lower, lower_digits}
use Rattle.hex.proofs.HexLemmas.{length-encode_with}
use Rattle.git_name.proofs.DigitLemmas.{none_read, pair_right, pair_wrong}
use Rattle.git_name.proofs.digits.read_digits.Goals as goal

pub returns-then-text-ne64-clause-none : goal.returns-then-text-ne64-clause-none
returns-then-text-ne64-clause-none c name is_name spelled =
    let digits : length (encode_lower name) ≡ 2 * length name = length-encode_with lower_digits name in
    let same : length c.args.text.now ≡ length (encode_lower name) = ap (λ (l : List ℕ). length l) spelled in
    let long : length name ≡ 32 = is_name.length in
    let other : length c.args.text.now ≢ 64 = grind (arith, nat_tests) in
    other (omega arith)

pub pairs-init : goal.pairs-init
pairs-init c = (refl, λ _. none_read c.args.text.now [], λ never. absurd (cc))

pub pairs-preserved : goal.pairs-preserved
pairs-preserved c =
    let long : length c.args.text.now ≡ 64 = grind (arith, nat_tests) in
    let so_far = c.pairs.invariant in (
      length-set _ _ _ ∙ so_far.0,
      pair_right c.args.text.now c.pairs.bytes c.pairs.at c.value-high.result c.value-low.result c.pairs.right (omega arith) so_far.0 long so_far.1 c.value-high.ensures.right c.value-low.ensures.right,
      pair_wrong c.args.text.now c.pairs.at c.value-high.result c.value-low.result c.pairs.right (omega arith) so_far.2 c.value-high.ensures.wrong c.value-low.ensures.wrong,
    )
