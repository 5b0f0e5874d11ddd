use Rattle.std.proofs.Common.{◌≡◌, ◌≤◌, ◌/◌, ◌%◌, ◌∙◌, [], ap, arith, get_or, length, refl, subst, sym}
use Rattle.std.proofs.lemmas.List.{get_or_past, get_or_read_under}
use Rattle.number_links.proofs.GenerationPageLemmas.{word_of, words_few}
use Rattle.number_links.proofs.generations.Generations.at.Goals as goal

pub returns-then-at-len-clause-value : goal.returns-then-at-len-clause-value
returns-then-at-len-clause-value c =
    let pages = c.self.inside.pages.items in
    sym (ap (λ ws. get_or ws c.args.n 0) (sym c.self.view_is) ∙ word_of pages c.args.n ∙ ap (λ page. get_or page (c.args.n % 4096) 0) (get_or_past pages (c.args.n / 4096) [] (omega arith)))

pub returns-then-at-len-clause-few : goal.returns-then-at-len-clause-few
returns-then-at-len-clause-few c = subst (λ ws. length ws ≤ 4294967296) c.self.view_is (words_few c.self.inside.pages.items c.self.invariant)

pub returns-clause-value : goal.returns-clause-value
returns-clause-value c =
    let pages = c.self.inside.pages.items in
    let read : c.index.result.now ≡ get_or pages (c.args.n / 4096) [] = get_or_read_under pages (c.args.n / 4096) _ c.index.result.now [] c.index.ensures (omega arith) refl in
    c.at.ensures ∙ ap (λ page. get_or page (c.args.n % 4096) 0) read ∙ sym (word_of pages c.args.n) ∙ ap (λ ws. get_or ws c.args.n 0) c.self.view_is

pub returns-clause-few : goal.returns-clause-few
returns-clause-few c = subst (λ ws. length ws ≤ 4294967296) c.self.view_is (words_few c.self.inside.pages.items c.self.invariant)
