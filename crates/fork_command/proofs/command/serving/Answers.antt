use Rattle.std.proofs.Common.{◌≡◌, ◌∙◌, ◌≤◌, sym, refl, ap, subst, codes, Option, Some, unwrap_or, ℕ, arith}
use Rattle.std.specs.Str.Parse.{ParsesUnsigned, ExplainsUnsignedError, HasUnsignedDigitsIfOk}
use Rattle.clap.specs.Words.{found_of, one_of, one_text, rows_of, without_minus}
use Rattle.clap.proofs.WalkLemmas.{first_value-rows, one_text-rows}
use Rattle.fork_command.proofs.ServeLemmas.{absent, number_given, places_given}
use Rattle.fork_command.proofs.command.serving.Goals as goal

pub unreachable-requires : goal.unreachable-requires
unreachable-requires c = absent _ (c.in_default.ensures ∙ first_value-rows (found_of c.args.matches.now) (codes "socket")) c.requires.words.socket

pub unreachable-requires-in_default-get_one : goal.unreachable-requires-in_default-get_one
unreachable-requires-in_default-get_one c =
    let words = c.requires.words in
    let text : one_text (found_of c.args.matches.now) (codes "connections") ≡ Some (without_minus words.text) = one_text-rows (found_of c.args.matches.now) (codes "connections") ∙ words.connections in
    let got = number_given _ (λ bs r. ParsesUnsigned 32 10 bs r × ExplainsUnsignedError 10 bs r × HasUnsignedDigitsIfOk bs r) 1000000 _ words.text c.get_one.result (omega arith) words.connections words.number
    (c.get_one.ensures.value (without_minus words.text) text) (λ u x g. g.0) in
    c.in_default-get_one.not-Some got.0 got.1

pub returns-clause-ok : goal.returns-clause-ok
returns-clause-ok c =
    let words = c.requires.words in
    let text : one_text (found_of c.args.matches.now) (codes "connections") ≡ Some (without_minus words.text) = one_text-rows (found_of c.args.matches.now) (codes "connections") ∙ words.connections in
    let got = number_given _ (λ bs r. ParsesUnsigned 32 10 bs r × ExplainsUnsignedError 10 bs r × HasUnsignedDigitsIfOk bs r) 1000000 _ words.text c.get_one.result (omega arith) words.connections words.number
    (c.get_one.ensures.value (without_minus words.text) text) (λ u x g. g.0) in
    let places = places_given _ (λ bs r. ParsesUnsigned 32 10 bs r × ExplainsUnsignedError 10 bs r × HasUnsignedDigitsIfOk bs r) (rows_of (found_of c.args.matches.now)) (one_of (codes "at-once") (rows_of (found_of c.args.matches.now))) c.get_one-at_once.result refl words.at_once
    (λ none. c.get_one-at_once.ensures.none (one_text-rows (found_of c.args.matches.now) (codes "at-once") ∙ none)) (λ t some. c.get_one-at_once.ensures.value t (one_text-rows (found_of c.args.matches.now) (codes "at-once") ∙ some)) (λ u x g. g.0) in
    let same : got.0 ≡ c.in-Some-get_one.connections = ap (λ (o : Option ℕ). unwrap_or o 0) (sym got.1 ∙ c.in-Some-get_one.is) in (
      rows_of (found_of c.args.matches.now),
      refl,
      record {
        socket = sym (c.in-Some.ensures ∙ first_value-rows (found_of c.args.matches.now) (codes "socket"));
        connections = got.4 ∙ ap (λ (n : ℕ). Some n) same;
        least = subst (λ n. 1 ≤ n) same got.2;
        most = subst (λ n. n ≤ 1000000) same got.3;
        at_once = places.0;
        places = places.1;
        hosted = c.in_ok-hosting.ensures.ok;
      },
    )
