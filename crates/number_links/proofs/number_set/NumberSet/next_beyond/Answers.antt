use Rattle.std.proofs.Common.{◌≡◌, ◌≤◌, ◌/◌, ◌%◌, ◌&&◌, ◌∙◌, ℕ, Bool, None, refl, sym, ap, arith, get_or, nat_lt, not, true, false}
use Rattle.std.proofs.lemmas.Bool.{ltb-true, ltb-false}
use Rattle.number_links.specs.Numbers.{has, is_there}
use Rattle.number_links.proofs.BeyondLemmas.{and_none, page_beyond}
use Rattle.number_links.proofs.NextLemmas.{page_first, page_found}
use Rattle.number_links.proofs.PageLemmas.{past_has}
use Rattle.number_links.proofs.number_set.NumberSet.next_beyond.Goals as goal

pub returns-in-Some-clause-some : goal.returns-in-Some-clause-some
returns-in-Some-clause-some c =
    let pages = c.as_slice.result.now in
    let others = c.as_slice-in-loop-begin.result.now in
    let begin = c.loop-begin.begin in
    let test : ℕ → Bool = (λ q. not (has c.args.other.now q) && has c.args.self.now q) in
    let part : ℕ → Bool = (λ k. not (is_there (get_or others (begin / 4096) None) k) && is_there (get_or pages (begin / 4096) None) k) in
    let here : (q : ℕ) → q / 4096 ≡ begin / 4096 → test q ≡ part (q % 4096) = (λ q same. ap (λ ps. not (has ps q) && has c.args.self.now q) (sym (c.as_slice-in-loop-begin.ensures.value ∙ c.other.view_is)) ∙ ap (λ ps. not (has others q) && has ps q) (sym (c.as_slice.ensures.value ∙ c.self.view_is)) ∙ page_beyond pages others (begin / 4096) q same) in
    let k = c.in-Some.ensures.some in
    page_found test part c.args.from begin c.loop-begin.invariant.0 c.loop-begin.invariant.1 here c.in-Some.k k.0 k.1 k.2

pub returns-in-Some-clause-first : goal.returns-in-Some-clause-first
returns-in-Some-clause-first c =
    let pages = c.as_slice.result.now in
    let others = c.as_slice-in-loop-begin.result.now in
    let begin = c.loop-begin.begin in
    let test : ℕ → Bool = (λ q. not (has c.args.other.now q) && has c.args.self.now q) in
    let part : ℕ → Bool = (λ k. not (is_there (get_or others (begin / 4096) None) k) && is_there (get_or pages (begin / 4096) None) k) in
    let here : (q : ℕ) → q / 4096 ≡ begin / 4096 → test q ≡ part (q % 4096) = (λ q same. ap (λ ps. not (has ps q) && has c.args.self.now q) (sym (c.as_slice-in-loop-begin.ensures.value ∙ c.other.view_is)) ∙ ap (λ ps. not (has others q) && has ps q) (sym (c.as_slice.ensures.value ∙ c.self.view_is)) ∙ page_beyond pages others (begin / 4096) q same) in
    page_first test part c.args.from begin c.loop-begin.invariant.0 c.loop-begin.invariant.1 here c.in-Some.k (let k = c.in-Some.ensures.some.0 in omega (arith, k)) c.in-Some.ensures.first

pub loop-begin-preserved : goal.loop-begin-preserved
loop-begin-preserved c =
    let pages = c.as_slice.result.now in
    let others = c.as_slice-in-loop-begin.result.now in
    let begin = c.loop-begin.begin in
    let test : ℕ → Bool = (λ q. not (has c.args.other.now q) && has c.args.self.now q) in
    let part : ℕ → Bool = (λ k. not (is_there (get_or others (begin / 4096) None) k) && is_there (get_or pages (begin / 4096) None) k) in
    let here : (q : ℕ) → q / 4096 ≡ begin / 4096 → test q ≡ part (q % 4096) = (λ q same. ap (λ ps. not (has ps q) && has c.args.self.now q) (sym (c.as_slice-in-loop-begin.ensures.value ∙ c.other.view_is)) ∙ ap (λ ps. not (has others q) && has ps q) (sym (c.as_slice.ensures.value ∙ c.self.view_is)) ∙ page_beyond pages others (begin / 4096) q same) in
    let low = c.loop-begin.invariant.0 in (
      omega (arith, low),
      page_first test part c.args.from begin low c.loop-begin.invariant.1 here 4096 (omega arith) c.in_default.ensures.none,
    )

pub returns-clause-none : goal.returns-clause-none
returns-clause-none c q high = by (nat_lt q c.loop-begin.begin) refl
  where
    by : (b : Bool) → nat_lt q c.loop-begin.begin ≡ b → (not (has c.args.other.now q) && has c.args.self.now q) ≡ false
    by true is = c.loop-begin.invariant.1 q high (ltb-true q c.loop-begin.begin is)
    by false is =
        (let past : c.loop-begin.begin ≤ q = ltb-false q c.loop-begin.begin is in
        and_none (has c.args.other.now q) (has c.args.self.now q) (ap (λ w. has w q) (sym c.self.view_is) ∙ past_has c.self.inside.pages.items q (omega (arith, past))))
