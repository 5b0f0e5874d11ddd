use Rattle.std.proofs.Common.{sym, ap, ◌∙◌, arith, cond}
use Rattle.std.specs.FinMap.{get}
use Rattle.std.specs.Option.{option_and_then}
use Rattle.git_name.specs.Same.{same_name}
use Rattle.number_links.specs.Numbers.{has, has_room}
use Rattle.number_links.proofs.PageLemmas.{has_its_room}
use Rattle.object_table.specs.Views.{word_by, words_of}
use Rattle.object_table.specs.Words.{kept_word}
use Rattle.object_table.proofs.LeavingLemmas.{kept_by, kept_idle, leaving_end, leaving_more}
use Rattle.object_table.proofs.SettlingLemmas.{word_before}
use Rattle.object_table.proofs.leaving.keep_only.Goals as goal

pub settle-requires-clause-visible : goal.settle-requires-clause-visible
settle-requires-clause-visible g c kept =
    ap (has_room c.loop-n.own.visible) c.in-Some-numbered.ensures.some.1 ∙ has_its_room c.loop-n.own.visible c.in-Some.n c.in-Some.ensures.some.1

pub settle-requires-clause-staged : goal.settle-requires-clause-staged
settle-requires-clause-staged g c staged =
    ap (has_room c.loop-n.own.staged) c.in-Some-numbered.ensures.some.1 ∙ has_its_room c.loop-n.own.staged c.in-Some.n (sym c.has_staged-staged.ensures ∙ staged)

pub loop-n-preserved : goal.loop-n-preserved
loop-n-preserved g c =
    let rows = c.loop-n.table.entries in
    let own = c.loop-n.own in
    let n = c.in-Some.n in
    let entry = c.in-Some-numbered.entry in
    let here = c.in-Some-numbered.ensures.some.0 in
    let number = c.in-Some-numbered.ensures.some.1 in
    let are = c.invariant-in-Some.ensures.rows in
    let was = c.loop-n.invariant in
    let step = c.settle.ensures in
    let names = g.N.NameSet.names c.args.names.now in
    record {
      leaving = leaving_more (λ name word. kept_word (names name) word) c.args.table.now c.args.own.now c.loop-n.table c.settle.new.table own c.settle.new.own c.loop-n.from n entry.0 entry.1 are was.leaving here number c.in-Some.ensures.some.0
          (λ q other at low high. kept_idle other (names q) (has own.visible other.number) (has own.staged other.number) (c.in-Some.ensures.first other.number low high))
          (λ q. step.words entry.0 here q ∙ ap (λ o. cond (same_name entry.0 q) o (get (words_of rows own) q))
          (ap (λ b. word_by entry.1 b c.has_staged-staged.result) c.has-kept.ensures ∙ ap (word_by entry.1 (names entry.0)) (c.has_staged-staged.ensures ∙ ap (has own.staged) (sym number))
          ∙ kept_by entry.1 (names entry.0) (has own.visible entry.1.number) (has own.staged entry.1.number) (ap (has own.visible) number ∙ c.in-Some.ensures.some.1)
          ∙ ap (option_and_then (kept_word (names entry.0))) (sym (word_before rows own entry.0 entry.1 are here was.leaving.one))))
          step.moves step.one;
      small = (let s = are.small entry.0 entry.1 here in omega (arith, s, number));
    }

pub returns-clause-words : goal.returns-clause-words
returns-clause-words g c =
    let own = c.loop-n.own in
    leaving_end (λ name word. kept_word (g.N.NameSet.names c.args.names.now name) word) c.args.table.now c.args.own.now c.loop-n.table own c.loop-n.from c.invariant-2.ensures.rows c.loop-n.invariant.leaving
    (λ q row here low. kept_idle row (g.N.NameSet.names c.args.names.now q) (has own.visible row.number) (has own.staged row.number) (c.in_default.ensures.none row.number low))
