-- What one page, or one set, has beyond another, part by part.
use Rattle.std.proofs.Common.{◌≡◌, ℕ, ◌/◌, ◌%◌, ◌&&◌, not, Bool, true, false, List, None, get_or, refl, sym, ap, ◌∙◌}
use Rattle.number_links.specs.Numbers.{Pages, has, has_bit, is_in, is_there}
use Rattle.number_links.proofs.PageLemmas.{in_page, in_word}

pub word_beyond : (own other : List ℕ) (at word q : ℕ) → q / 64 ≡ at → ((r : ℕ) → has_bit word r ≡ not (has_bit (get_or other at 0) r) && has_bit (get_or own at 0) r)
    → (not (is_in other q) && is_in own q) ≡ has_bit word (q % 64)
word_beyond own other at word q here is =
    ap (λ b. not b && is_in own q) (in_word other q at (q % 64) (get_or other at 0) here refl refl)
    ∙ ap (λ b. not (has_bit (get_or other at 0) (q % 64)) && b) (in_word own q at (q % 64) (get_or own at 0) here refl refl) ∙ sym (is (q % 64))

pub page_beyond : (own other : Pages) (at q : ℕ) → q / 4096 ≡ at → (not (has other q) && has own q) ≡ (not (is_there (get_or other at None) (q % 4096)) && is_there (get_or own at None) (q % 4096))
page_beyond own other at q here =
    ap (λ b. not b && has own q) (in_page other q at (q % 4096) (get_or other at None) here refl refl)
    ∙ ap (λ b. not (is_there (get_or other at None) (q % 4096)) && b) (in_page own q at (q % 4096) (get_or own at None) here refl refl)

-- what is not there is not there beyond another
pub and_none : (other own : Bool) → own ≡ false → (not other && own) ≡ false
and_none true own is = refl
and_none false own is = is
