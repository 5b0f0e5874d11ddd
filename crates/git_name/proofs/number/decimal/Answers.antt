use Rattle.std.proofs.Common.{rules, ap, ◌<◌, ◌^◌, sym, ◌∙◌, inl, inr, subst}
use Rattle.std.specs.Str.{IsUtf8}
use Rattle.std.proofs.lemmas.Str.{IsUtf8-from_ascii}
use Rattle.std.proofs.lemmas.Fmt.{IsAscii-decimal, parse-decimal}
use Rattle.git_name.specs.Number.{number_in}
use Rattle.git_name.proofs.DecimalLemmas.{decimal_start, decimal_of_read}
use Rattle.git_name.proofs.ReadingLemmas.{no_number, number_in-decimal}
use Rattle.git_name.proofs.number.decimal.Goals as goal

pub returns-then-has_needless_start-clause-none : goal.returns-then-has_needless_start-clause-none
returns-then-has_needless_start-clause-none c n small is =
    let start = c.has_needless_start.ensures.0 c.if-has_needless_start.true in
    decimal_start n small (rw is at start)

pub returns-then-has_needless_start-clause-value : goal.returns-then-has_needless_start-clause-value
returns-then-has_needless_start-clause-value c = sym (no_number c.args.text.now (returns-then-has_needless_start-clause-none c))

pub returns-in_default-clause-none : goal.returns-in_default-clause-none
returns-in_default-clause-none c n small is =
    c.in_default.ensures.cases.0 (subst IsUtf8 (sym is) (IsUtf8-from_ascii _ (IsAscii-decimal n small)))

pub returns-in_default-clause-value : goal.returns-in_default-clause-value
returns-in_default-clause-value c = sym (no_number c.args.text.now (returns-in_default-clause-none c))

pub returns-in_default-parse-clause-none : goal.returns-in_default-parse-clause-none
returns-in_default-parse-clause-none c n small is =
    c.in_default-parse.not-Ok n (parse-decimal 64 n c.in-Ok.digits.now _ small small (c.in-Ok.ensures.cases.0 ∙ is) c.parse.ensures.value.0)

pub returns-in_default-parse-clause-value : goal.returns-in_default-parse-clause-value
returns-in_default-parse-clause-value c = sym (no_number c.args.text.now (returns-in_default-parse-clause-none c))

pub returns-clause-found : goal.returns-clause-found
returns-clause-found c =
    let plain = c.has_needless_start.ensures.1 in
    let read = c.in-Ok.ensures.cases.0 in
    sym read ∙ decimal_of_read c.in-Ok.digits.now _ _ c.parse.ensures.value.0 c.in-Ok-parse.is
    (λ plus. cc (sym c.if-has_needless_start.false ∙ plain (inl (rw read at plus))))
    (λ zero. cc (sym c.if-has_needless_start.false ∙ plain (inr (rw read at zero))))

pub returns-clause-value : goal.returns-clause-value
returns-clause-value c =
    let small : c.in-Ok-parse.number < 2 ^ 64 = search rules in
    sym (ap number_in (returns-clause-found c) ∙ number_in-decimal c.in-Ok-parse.number small)
