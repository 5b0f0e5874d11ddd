use Rattle.std.proofs.Common.{ℕ, ◌<◌, ◌^◌, ◌≡◌, List, length, ap, subst, sym, ◌∙◌, arith}
use Rattle.std.specs.Str.Parse.{AllDigits, digits_value}
use Rattle.std.proofs.lemmas.Fmt.{IsAscii-from_digits}
use Rattle.std.proofs.lemmas.Int.Digits.{digits_value-lt}
use Rattle.std.proofs.lemmas.Str.{IsUtf8-from_ascii}
use Rattle.std.proofs.lemmas.Str.Parse.{numerals_by_value, parse_gives, tells_digits}
use Rattle.packed_store.proofs.survey.number_of.Goals as goal

pub returns-in_default-clause-none : goal.returns-in_default-clause-none
returns-in_default-clause-none c segment is = c.in_default.ensures.cases.0 (IsUtf8-from_ascii c.args.called.now (IsAscii-from_digits c.args.called.now is.1))

pub returns-in_default-parse-clause-none : goal.returns-in_default-parse-clause-none
returns-in_default-parse-clause-none c segment is =
    let ds = c.in-Ok.digits.now in
    let same : ds ≡ c.args.called.now = c.in-Ok.ensures.cases.0 in
    let long : length ds ≡ 8 = ap (λ (bs : List ℕ). length bs) same ∙ is.0 in
    let all : AllDigits 10 ds = subst (AllDigits 10) (sym same) is.1 in
    let short : digits_value 10 ds < 10 ^ 8 = subst (λ (n : ℕ). digits_value 10 ds < 10 ^ n) long (digits_value-lt 10 ds all) in
    c.in_default-parse.not-Ok (digits_value 10 ds)
    (parse_gives (numerals_by_value (AllDigits 10) tells_digits) 32 ds c.parse.result c.parse.ensures.value.0 all (omega (arith, long)) (omega (arith, short)))
