use Rattle.std.proofs.Common.{◌≡◌, ◌≤◌, ◌/◌, ◌%◌, ◌∙◌, Bool, None, refl, sym, ap, arith, get_or, nat_lt, true, false}
use Rattle.std.proofs.lemmas.Bool.{ltb-true, ltb-false}
use Rattle.std.proofs.lemmas.List.{get_or_read_under}
use Rattle.number_links.specs.Numbers.{has, is_there}
use Rattle.number_links.proofs.NextLemmas.{page_first, page_found}
use Rattle.number_links.proofs.PageLemmas.{in_page, past_has}
use Rattle.number_links.proofs.number_set.NumberSet.next.Goals as goal

pub returns-in-Some-clause-some : goal.returns-in-Some-clause-some
returns-in-Some-clause-some c =
    let pages = c.self.inside.pages.items in
    let begin = c.loop-begin.begin in
    let page = c.index.result.now in
    let read : page ≡ get_or pages (begin / 4096) None = get_or_read_under pages (begin / 4096) _ page None c.index.ensures (omega arith) refl in
    let k = c.in-Some.ensures.some in
    page_found (has c.args.self.now) (is_there page) c.args.from begin c.loop-begin.invariant.0 c.loop-begin.invariant.1
    (λ q same. ap (λ w. has w q) (sym c.self.view_is) ∙ in_page pages q (begin / 4096) (q % 4096) page same refl read) c.in-Some.k k.0 k.1 k.2

pub returns-in-Some-clause-first : goal.returns-in-Some-clause-first
returns-in-Some-clause-first c =
    let pages = c.self.inside.pages.items in
    let begin = c.loop-begin.begin in
    let page = c.index.result.now in
    let read : page ≡ get_or pages (begin / 4096) None = get_or_read_under pages (begin / 4096) _ page None c.index.ensures (omega arith) refl in
    page_first (has c.args.self.now) (is_there page) c.args.from begin c.loop-begin.invariant.0 c.loop-begin.invariant.1
    (λ q same. ap (λ w. has w q) (sym c.self.view_is) ∙ in_page pages q (begin / 4096) (q % 4096) page same refl read) c.in-Some.k (let k = c.in-Some.ensures.some.0 in omega (arith, k)) c.in-Some.ensures.first

pub loop-begin-preserved : goal.loop-begin-preserved
loop-begin-preserved c =
    let pages = c.self.inside.pages.items in
    let begin = c.loop-begin.begin in
    let page = c.index.result.now in
    let read : page ≡ get_or pages (begin / 4096) None = get_or_read_under pages (begin / 4096) _ page None c.index.ensures (omega arith) refl in
    let low = c.loop-begin.invariant.0 in (
      omega (arith, low),
      page_first (has c.args.self.now) (is_there page) c.args.from begin low c.loop-begin.invariant.1
          (λ q same. ap (λ w. has w q) (sym c.self.view_is) ∙ in_page pages q (begin / 4096) (q % 4096) page same refl read) 4096 (omega arith) c.in_default.ensures.none,
    )

pub returns-clause-none : goal.returns-clause-none
returns-clause-none c q high = by (nat_lt q c.loop-begin.begin) refl
  where
    by : (b : Bool) → nat_lt q c.loop-begin.begin ≡ b → has c.args.self.now q ≡ false
    by true is = c.loop-begin.invariant.1 q high (ltb-true q c.loop-begin.begin is)
    by false is = (let past : c.loop-begin.begin ≤ q = ltb-false q c.loop-begin.begin is in ap (λ w. has w q) (sym c.self.view_is) ∙ past_has c.self.inside.pages.items q (omega (arith, past)))
