use Rattle.std.proofs.Common.{◌≡◌, ◌/◌, ◌%◌, ◌&&◌, ◌∙◌, ℕ, Bool, not, sym, ap, rules, arith}
use Rattle.number_links.specs.Numbers.{has_bit, is_in}
use Rattle.number_links.proofs.BeyondLemmas.{word_beyond}
use Rattle.number_links.proofs.NextLemmas.{word_first, word_found}
use Rattle.number_links.proofs.page.Page.next_beyond.Goals as goal

pub returns-in-Some-clause-some : goal.returns-in-Some-clause-some
returns-in-Some-clause-some c =
    let begin = c.loop-begin.begin in
    let word = c.less-word.result in
    let own : c.deref.result.now ≡ c.args.self.now = search rules in
    let other : c.deref-in-loop-begin.result.now ≡ c.args.other.now = search rules in
    let test : ℕ → Bool = (λ q. not (is_in c.args.other.now q) && is_in c.args.self.now q) in
    let here : (q : ℕ) → q / 64 ≡ begin / 64 → test q ≡ has_bit word (q % 64) = (λ q same. ap (λ ws. not (is_in ws q) && is_in c.args.self.now q) (sym other) ∙ ap (λ ws. not (is_in c.deref-in-loop-begin.result.now q) && is_in ws q) (sym own)
    ∙ word_beyond c.deref.result.now c.deref-in-loop-begin.result.now (begin / 64) word q same c.less-word.ensures) in
    let k = c.in-Some.ensures.some in
    let found = word_found test (has_bit word) c.args.from begin c.loop-begin.invariant.0 c.loop-begin.invariant.1 here c.in-Some.k k.0 k.1 k.2 in
    (omega (arith, k.0), found.0, found.1)

pub returns-in-Some-clause-first : goal.returns-in-Some-clause-first
returns-in-Some-clause-first c =
    let begin = c.loop-begin.begin in
    let word = c.less-word.result in
    let own : c.deref.result.now ≡ c.args.self.now = search rules in
    let other : c.deref-in-loop-begin.result.now ≡ c.args.other.now = search rules in
    let test : ℕ → Bool = (λ q. not (is_in c.args.other.now q) && is_in c.args.self.now q) in
    let here : (q : ℕ) → q / 64 ≡ begin / 64 → test q ≡ has_bit word (q % 64) = (λ q same. ap (λ ws. not (is_in ws q) && is_in c.args.self.now q) (sym other) ∙ ap (λ ws. not (is_in c.deref-in-loop-begin.result.now q) && is_in ws q) (sym own)
    ∙ word_beyond c.deref.result.now c.deref-in-loop-begin.result.now (begin / 64) word q same c.less-word.ensures) in
    word_first test (has_bit word) c.args.from begin c.loop-begin.invariant.0 c.loop-begin.invariant.1 here c.in-Some.k (let k = c.in-Some.ensures.some.0 in omega (arith, k)) c.in-Some.ensures.first

pub loop-begin-preserved : goal.loop-begin-preserved
loop-begin-preserved c =
    let begin = c.loop-begin.begin in
    let word = c.less-word.result in
    let own : c.deref.result.now ≡ c.args.self.now = search rules in
    let other : c.deref-in-loop-begin.result.now ≡ c.args.other.now = search rules in
    let test : ℕ → Bool = (λ q. not (is_in c.args.other.now q) && is_in c.args.self.now q) in
    let here : (q : ℕ) → q / 64 ≡ begin / 64 → test q ≡ has_bit word (q % 64) = (λ q same. ap (λ ws. not (is_in ws q) && is_in c.args.self.now q) (sym other) ∙ ap (λ ws. not (is_in c.deref-in-loop-begin.result.now q) && is_in ws q) (sym own)
    ∙ word_beyond c.deref.result.now c.deref-in-loop-begin.result.now (begin / 64) word q same c.less-word.ensures) in
    let low = c.loop-begin.invariant.0 in (
      omega (arith, low),
      word_first test (has_bit word) c.args.from begin low c.loop-begin.invariant.1 here 64 (omega arith) c.in_default.ensures.none,
    )
