use Rattle.std.proofs.Common.{◌≡◌, ◌<◌, ◌+◌, ℕ, Bool, true, false, nat_eq, nat_lt, refl, sym, ap, ◌∙◌, arith, cond}
use Rattle.std.specs.FinMap.{get}
use Rattle.std.specs.Option.{option_and_then}
use Rattle.std.proofs.lemmas.Bool.{ltb-false, ltb-true}
use Rattle.git_name.specs.Same.{same_name}
use Rattle.number_links.specs.Numbers.{has, has_room}
use Rattle.number_links.proofs.PageLemmas.{has_its_room}
use Rattle.object_table.specs.Views.{word_by, words_of}
use Rattle.object_table.specs.Words.{unstaged_word}
use Rattle.object_table.proofs.LeavingLemmas.{leaving_end, leaving_more, none_at_all, unstaged_by, unstaged_idle}
use Rattle.object_table.proofs.SettlingLemmas.{word_before}
use Rattle.object_table.proofs.StepLemmas.{words_same}
use Rattle.object_table.proofs.leaving.discard.Goals as goal

pub settle-requires-clause-visible : goal.settle-requires-clause-visible
settle-requires-clause-visible c seen =
    let number = c.in-Some-numbered.ensures.some.1 in
    ap (has_room c.loop-n.own.visible) number ∙ has_its_room c.loop-n.own.visible c.in-Some.n (sym c.sees-seen.ensures ∙ seen)

pub loop-n-preserved : goal.loop-n-preserved
loop-n-preserved c =
    let rows = c.loop-n.table.entries in
    let own = c.loop-n.own in
    let n = c.in-Some.n in
    let entry = c.in-Some-numbered.entry in
    let here = c.in-Some-numbered.ensures.some.0 in
    let number = c.in-Some-numbered.ensures.some.1 in
    let are = c.invariant-in-Some.ensures.rows in
    let was = c.loop-n.invariant in
    let step = c.settle.ensures in
    record {
      leaving = leaving_more (λ _ word. unstaged_word word) c.args.table.now c.args.own.now c.loop-n.table c.settle.new.table own c.settle.new.own c.loop-n.from n entry.0 entry.1 are was.leaving here number c.in-Some.ensures.some.0
          (λ q other at low high. unstaged_idle other (has own.visible other.number) (has own.staged other.number) (c.in-Some.ensures.first other.number low high))
          (λ q. step.words entry.0 here q ∙ ap (λ o. cond (same_name entry.0 q) o (get (words_of rows own) q))
          (unstaged_by entry.1 c.sees-seen.result (has own.staged entry.1.number) ∙ ap (λ b. option_and_then unstaged_word (word_by entry.1 b (has own.staged entry.1.number))) (c.sees-seen.ensures ∙ ap (has own.visible) (sym number))
          ∙ ap (option_and_then unstaged_word) (sym (word_before rows own entry.0 entry.1 are here was.leaving.one))))
          step.moves step.one;
      gone = λ m low. step.staged m ∙ gone_at m low (nat_eq m entry.1.number) refl;
      small = (let s = are.small entry.0 entry.1 here in omega (arith, s, number));
    }
  where
    gone_at : (m : ℕ) → m < c.in-Some.n + 1 → (b : Bool) → nat_eq m c.in-Some-numbered.entry.1.number ≡ b → cond b false (has c.loop-n.own.staged m) ≡ false
    gone_at m low true is = refl
    gone_at m low false is = by (nat_lt m c.loop-n.from) refl
      where
        by : (b : Bool) → nat_lt m c.loop-n.from ≡ b → has c.loop-n.own.staged m ≡ false
        by true less = c.loop-n.invariant.gone m (ltb-true m c.loop-n.from less)
        by false less = (let number = c.in-Some-numbered.ensures.some.1 in c.in-Some.ensures.first m (ltb-false m c.loop-n.from less) (search arith))

pub end_staging-requires : goal.end_staging-requires
end_staging-requires c = none_at_all (has c.loop-n.own.staged) c.loop-n.from c.loop-n.invariant.gone c.in_default.ensures.none

pub returns-clause-words : goal.returns-clause-words
returns-clause-words c =
    let rows = c.loop-n.table.entries in
    let own = c.loop-n.own in
    words_same rows own c.end_staging.new.self c.invariant-2.ensures.rows.distinct (record {
      visible = λ n. ap (λ ps. has ps n) c.end_staging.ensures.visible;
      staged = λ n. c.end_staging.ensures.staged n ∙ sym (none_at_all (has own.staged) c.loop-n.from c.loop-n.invariant.gone c.in_default.ensures.none n);
      used = c.end_staging.ensures.used;
      total = c.end_staging.ensures.total;
    })
    ∙ leaving_end (λ _ word. unstaged_word word) c.args.table.now c.args.own.now c.loop-n.table own c.loop-n.from c.invariant-2.ensures.rows c.loop-n.invariant.leaving
    (λ q row here low. unstaged_idle row (has own.visible row.number) (has own.staged row.number) (c.in_default.ensures.none row.number low))
