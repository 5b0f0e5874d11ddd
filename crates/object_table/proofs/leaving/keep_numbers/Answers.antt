use Rattle.std.proofs.Common.{◌≡◌, sym, ap, subst, ◌∙◌, arith, cond, false}
use Rattle.std.specs.FinMap.{get}
use Rattle.std.specs.Option.{option_and_then}
use Rattle.git_name.specs.Same.{same_name}
use Rattle.number_links.specs.Numbers.{has, has_room}
use Rattle.number_links.proofs.PageLemmas.{has_its_room}
use Rattle.object_table.specs.Links.{is_among}
use Rattle.object_table.specs.Views.{word_by, words_of}
use Rattle.object_table.specs.Words.{kept_word}
use Rattle.object_table.proofs.LeavingLemmas.{among_told, beyond_told, kept_beyond, kept_by, leaving_end, leaving_more}
use Rattle.object_table.proofs.SettlingLemmas.{word_before}
use Rattle.object_table.proofs.leaving.keep_numbers.Goals as goal

pub settle-requires-clause-staged : goal.settle-requires-clause-staged
settle-requires-clause-staged c staged =
    ap (has_room c.loop-n.own.staged) c.in-Some-numbered.ensures.some.1 ∙ has_its_room c.loop-n.own.staged c.in-Some.n (sym c.has_staged-staged.ensures ∙ staged)

pub loop-n-preserved : goal.loop-n-preserved
loop-n-preserved c =
    let first = c.args.table.now.entries in
    let rows = c.loop-n.table.entries in
    let own = c.loop-n.own in
    let numbers = c.args.numbers.now in
    let n = c.in-Some.n in
    let entry = c.in-Some-numbered.entry in
    let here = c.in-Some-numbered.ensures.some.0 in
    let number = c.in-Some-numbered.ensures.some.1 in
    let are = c.invariant-in-Some.ensures.rows in
    let was = c.loop-n.invariant in
    let step = c.settle.ensures in
    let beyond = beyond_told (has numbers n) (has own.visible n) c.in-Some.ensures.some.1 in
    let out : is_among first numbers entry.0 ≡ false = among_told first rows numbers entry.0 entry.1 was.leaving.moves.told here ∙ ap (has numbers) number ∙ beyond.0 in
    record {
      leaving = leaving_more (λ name word. kept_word (is_among first numbers name) word) c.args.table.now c.args.own.now c.loop-n.table c.settle.new.table own c.settle.new.own c.loop-n.from n entry.0 entry.1 are was.leaving here number c.in-Some.ensures.some.0
          (λ q other at low high. subst (λ k. option_and_then (kept_word k) (word_by other (has own.visible other.number) (has own.staged other.number)) ≡ word_by other (has own.visible other.number) (has own.staged other.number))
          (sym (among_told first rows numbers q other was.leaving.moves.told at))
          (kept_beyond other (has numbers other.number) (has own.visible other.number) (has own.staged other.number) (c.in-Some.ensures.first other.number low high)))
          (λ q. step.words entry.0 here q ∙ ap (λ o. cond (same_name entry.0 q) o (get (words_of rows own) q))
          (ap (word_by entry.1 false) (c.has_staged-staged.ensures ∙ ap (has own.staged) (sym number))
          ∙ kept_by entry.1 false (has own.visible entry.1.number) (has own.staged entry.1.number) (ap (has own.visible) number ∙ beyond.1)
          ∙ ap (λ k. option_and_then (kept_word k) (word_by entry.1 (has own.visible entry.1.number) (has own.staged entry.1.number))) (sym out)
          ∙ ap (option_and_then (kept_word (is_among first numbers entry.0))) (sym (word_before rows own entry.0 entry.1 are here was.leaving.one))))
          step.moves step.one;
      small = (let s = are.small entry.0 entry.1 here in omega (arith, s, number));
    }

pub returns-clause-words : goal.returns-clause-words
returns-clause-words c =
    let first = c.args.table.now.entries in
    let rows = c.loop-n.table.entries in
    let own = c.loop-n.own in
    let numbers = c.args.numbers.now in
    leaving_end (λ name word. kept_word (is_among first numbers name) word) c.args.table.now c.args.own.now c.loop-n.table own c.loop-n.from c.invariant-2.ensures.rows c.loop-n.invariant.leaving
    (λ q row here low. subst (λ k. option_and_then (kept_word k) (word_by row (has own.visible row.number) (has own.staged row.number)) ≡ word_by row (has own.visible row.number) (has own.staged row.number))
    (sym (among_told first rows numbers q row c.loop-n.invariant.leaving.moves.told here))
    (kept_beyond row (has numbers row.number) (has own.visible row.number) (has own.staged row.number) (c.in_default.ensures.none row.number low)))
