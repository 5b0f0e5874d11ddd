use Rattle.std.proofs.Common.{◌≡◌, ◌++◌, ◌-◌, true, false, length, drop, length-drop, sym, ap, ◌∙◌, arith}
use Rattle.std.proofs.lemmas.Bool.Decides.{Decides-eqb}
use Rattle.std.proofs.lemmas.List.{take_all}
use Rattle.std.proofs.lemmas.Slice.Eq.{starts_is}
use Rattle.state_text.proofs.parts.behind.Goals as goal

pub returns-then-not-starts_with-clause-none : goal.returns-then-not-starts_with-clause-none
returns-then-not-starts_with-clause-none c rest is =
    let begins : c.starts_with.result ≡ true = (starts_is Decides-eqb c.args.text.now c.args.front.now c.starts_with.result c.starts_with.ensures.value).1 rest is in
    let bad : true ≡ false = sym begins ∙ c.if-not-starts_with.true in
    absurd (cc)

pub returns-clause-found : goal.returns-clause-found
returns-clause-found c =
    let text = c.args.text.now in
    let n = length c.args.front.now in
    let long : length (drop n text) ≡ length text - n = length-drop n text in
    (starts_is Decides-eqb text c.args.front.now c.starts_with.result c.starts_with.ensures.value).0 c.if-not-starts_with.false
    ∙ ap (λ t. c.args.front.now ++ t) (sym (take_all (length text - n) (drop n text) (omega (arith, long))))
