use Rattle.std.proofs.Common.{◌≡◌, false, None, Some, sym, ap, subst, ◌∙◌, refl}
use Rattle.std.specs.FinMap as map
use Rattle.std.specs.List.{list_any}
use Rattle.git_reftx.specs.Fronts.{IsFrontAbove, IsLeastNear}
use Rattle.git_reftx.specs.Transaction.{stands_above}
use Rattle.git_reftx.proofs.NearLemmas.{near_absent, near_below, near_above, near_neither}
use Rattle.git_reftx.proofs.conflict.upper_at.Goals as goal

pub returns-then-not-contains : goal.returns-then-not-contains
returns-then-not-contains c =
    near_absent c.args.references.now c.args.name.now None (ap (λ n. map.contains_key c.args.references.now n) (sym c.as_bytes-text.ensures.bytes) ∙ sym c.contains.ensures ∙ c.if-not-contains.true) refl

pub returns-in-Some : goal.returns-in-Some
returns-in-Some c =
    near_below c.args.references.now c.args.name.now c.in-Some.upper.now (ap (λ n. map.contains_key c.args.references.now n) (sym c.as_bytes-text.ensures.bytes) ∙ sym c.contains.ensures ∙ c.if-not-contains.false)
    (subst (λ n. IsFrontAbove (map.keys c.args.references.now) n c.in-Some.upper.now) c.as_bytes-text.ensures.bytes c.in-Some.ensures.found)

pub returns-then-not-has_below : goal.returns-then-not-has_below
returns-then-not-has_below c =
    near_neither c.args.references.now c.args.name.now None
    (subst (λ n. list_any (λ upper. stands_above upper n) (map.keys c.args.references.now) ≡ false) c.as_bytes-text.ensures.bytes c.in_default.ensures.none)
    (sym c.has_below.ensures ∙ c.if-not-has_below.true) refl

pub returns : goal.returns
returns c =
    let references = c.args.references.now in
    subst (λ n. IsLeastNear (map.keys references) (λ other. c.args.name.now ≡ other) (Some n)) (sym c.as_bytes-text.ensures.bytes)
    (near_above references c.args.name.now (ap (λ n. map.contains_key references n) (sym c.as_bytes-text.ensures.bytes) ∙ sym c.contains.ensures ∙ c.if-not-contains.false)
    (subst (λ n. list_any (λ upper. stands_above upper n) (map.keys references) ≡ false) c.as_bytes-text.ensures.bytes c.in_default.ensures.none)
    (sym c.has_below.ensures ∙ c.if-not-has_below.false))
