use Rattle.std.proofs.Common.{◌≡◌, ◌/◌, ◌%◌, refl, ap, rules, arith, get_or}
use Rattle.number_links.specs.Numbers.{has_bit, is_in}
use Rattle.number_links.proofs.NextLemmas.{word_first, word_found}
use Rattle.number_links.proofs.PageLemmas.{in_word}
use Rattle.number_links.proofs.page.Page.next.Goals as goal

pub returns-in-Some-clause-some : goal.returns-in-Some-clause-some
returns-in-Some-clause-some c =
    let read : c.deref.result.now ≡ c.args.self.now = search rules in
    let begin = c.loop-begin.begin in
    let word = get_or c.deref.result.now (begin / 64) 0 in
    let k = c.in-Some.ensures.some in
    let found = word_found (is_in c.args.self.now) (has_bit word) c.args.from begin c.loop-begin.invariant.0 c.loop-begin.invariant.1
    (λ q same. in_word c.args.self.now q (begin / 64) (q % 64) word same refl (ap (λ ws. get_or ws (begin / 64) 0) read)) c.in-Some.k k.0 k.1 k.2 in
    (omega (arith, k.0), found.0, found.1)

pub returns-in-Some-clause-first : goal.returns-in-Some-clause-first
returns-in-Some-clause-first c =
    let read : c.deref.result.now ≡ c.args.self.now = search rules in
    let begin = c.loop-begin.begin in
    let word = get_or c.deref.result.now (begin / 64) 0 in
    word_first (is_in c.args.self.now) (has_bit word) c.args.from begin c.loop-begin.invariant.0 c.loop-begin.invariant.1
    (λ q same. in_word c.args.self.now q (begin / 64) (q % 64) word same refl (ap (λ ws. get_or ws (begin / 64) 0) read)) c.in-Some.k (let k = c.in-Some.ensures.some.0 in omega (arith, k)) c.in-Some.ensures.first

pub loop-begin-preserved : goal.loop-begin-preserved
loop-begin-preserved c =
    let read : c.deref.result.now ≡ c.args.self.now = search rules in
    let begin = c.loop-begin.begin in
    let word = get_or c.deref.result.now (begin / 64) 0 in
    let low = c.loop-begin.invariant.0 in (
      omega (arith, low),
      word_first (is_in c.args.self.now) (has_bit word) c.args.from begin low c.loop-begin.invariant.1
          (λ q same. in_word c.args.self.now q (begin / 64) (q % 64) word same refl (ap (λ ws. get_or ws (begin / 64) 0) read)) 64 (omega arith) c.in_default.ensures.none,
    )
