use Rattle.std.proofs.Common.{◌≡◌, ◌<◌, ◌/◌, ◌%◌, ◌∙◌, [], ap, get_or, length, nat_eq, refl, if◌then◌else◌}
use Rattle.std.proofs.lemmas.List.{get_or_read_under}
use Rattle.std.proofs.lemmas.Result.{on_err_weaker, on_ok_weaker}
use Rattle.number_links.proofs.GenerationPageLemmas.{none_written, one_written, words_alike}
use Rattle.number_links.proofs.OptionLemmas.{failed_too}
use Rattle.number_links.proofs.generations.Generations.write.Goals as goal

pub returns-in_err-lengthen-clause-err : goal.returns-in_err-lengthen-clause-err
returns-in_err-lengthen-clause-err c =
    failed_too c.from_residual.result (λ q. words_alike c.self.inside.pages.items c.lengthen.new.pages.items c.lengthen.ensures.slots q ∙ ap (λ ws. get_or ws q 0) c.self.view_is)

pub returns-clause-ok : goal.returns-clause-ok
returns-clause-ok c =
    let n = c.args.n in
    let pages = c.lengthen.new.pages.items in
    let inside : n / 4096 < length pages = c.in_ok-lengthen.ensures.ok in
    let read : c.index_mut.result.now ≡ get_or pages (n / 4096) [] = get_or_read_under pages (n / 4096) _ c.index_mut.result.now [] c.index_mut.ensures.value inside refl in
    on_ok_weaker c.write.result (λ writes q.
    one_written pages n c.write.new.self inside c.args.word (λ i. writes i ∙ ap (λ page. if nat_eq i (n % 4096) then c.args.word else get_or page i 0) read) q
    ∙ ap (λ w. if nat_eq q n then c.args.word else w) (words_alike c.self.inside.pages.items pages c.lengthen.ensures.slots q ∙ ap (λ ws. get_or ws q 0) c.self.view_is)) c.write.ensures.ok

pub returns-clause-err : goal.returns-clause-err
returns-clause-err c =
    let n = c.args.n in
    let pages = c.lengthen.new.pages.items in
    let inside : n / 4096 < length pages = c.in_ok-lengthen.ensures.ok in
    let read : c.index_mut.result.now ≡ get_or pages (n / 4096) [] = get_or_read_under pages (n / 4096) _ c.index_mut.result.now [] c.index_mut.ensures.value inside refl in
    on_err_weaker c.write.result (λ still q.
    none_written pages n c.write.new.self inside (λ i. still i ∙ ap (λ page. get_or page i 0) read) q
    ∙ words_alike c.self.inside.pages.items pages c.lengthen.ensures.slots q ∙ ap (λ ws. get_or ws q 0) c.self.view_is) c.write.ensures.err
