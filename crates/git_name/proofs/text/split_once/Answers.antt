use Rattle.std.proofs.Common.{◌≡◌, ◌∷◌, ◌++◌, List, ℕ, ◌+◌, ◌-◌, length, sym, ap, ◌∙◌, arith, take, drop}
use Rattle.std.proofs.lemmas.Grind.{common_steps}
use Rattle.std.proofs.lemmas.Bool.Decides.{nat_tests}
use Rattle.git_name.specs.Text.{split_once as parted}
use Rattle.git_name.proofs.TextLemmas.{all_plain, front_plain, split_once-append, split_once-none}
use Rattle.git_name.proofs.text.split_once.Goals as goal

pub returns-in_default-clause-none : goal.returns-in_default-clause-none
returns-in_default-clause-none c = all_plain c.args.byte c.args.text.now c.in_default.ensures

pub returns-in_default-clause-value : goal.returns-in_default-clause-value
returns-in_default-clause-value c = sym (split_once-none c.args.byte c.args.text.now (all_plain c.args.byte c.args.text.now c.in_default.ensures))

pub returns-clause-first : goal.returns-clause-first
returns-clause-first c =
    let place = c.in-Some.ensures.0 in
    front_plain c.args.byte c.in-Some.end c.args.text.now place.before (omega (arith, place.high))

pub returns-clause-value : goal.returns-clause-value
returns-clause-value c =
    let before : List ℕ = take c.in-Some.end c.args.text.now in
    let behind : List ℕ = take (length c.args.text.now - (c.in-Some.end + 1)) (drop (c.in-Some.end + 1) c.args.text.now) in
    let place = c.in-Some.ensures in
    let whole : c.args.text.now ≡ before ++ c.args.byte ∷ behind = grind (arith, common_steps, nat_tests) in
    sym (ap (parted c.args.byte) whole ∙ split_once-append c.args.byte before behind (returns-clause-first c))
