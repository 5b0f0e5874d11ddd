use Rattle.std.proofs.Common.{◌≡◌, ◌≢◌, ◌+◌, ◌&&◌, ◌||◌, ◌++◌, [], ◌∷◌, ◌≤◌, not, false, true, length, take, rules, subst, sym, ◌∙◌, ap, arith}
use Rattle.std.specs.List.{slice_index_or}
use Rattle.std.specs.Str.{bytes_eq}
use Rattle.std.proofs.lemmas.List.{take_all, take_more}
use Rattle.std.proofs.lemmas.Slice.Eq.{bytes_eq-Decides}
use Rattle.fork_reach.specs.History.{noted_parents, notes_under}
use Rattle.fork_reach.specs.Marks.{is_marked, listed_name}
use Rattle.fork_reach.specs.Reach.{is_among}
use Rattle.fork_reach.proofs.MarkLemmas.{parents_here, read_here}
use Rattle.fork_reach.proofs.ParentLemmas.{parents_put, parents_skip}
use Rattle.fork_reach.proofs.places.Places.put_parents.Goals as goal

pub loop-parent-preserved-then-eq : goal.loop-parent-preserved-then-eq
loop-parent-preserved-then-eq c =
    let names = c.args.self.now.names.now.keys in
    let commit = c.index-as_slice-at.result in
    let last = c.parent-item.result in
    let parents = c.parents-parent-items.result.now in
    let front = take c.loop-parent.parent-index parents in
    let more : take (c.loop-parent.parent-index + 1) parents ≡ front ++ last ∷ [] = take_more parents c.loop-parent.parent-index last (omega arith) ∙ ap (λ n. front ++ n ∷ []) (sym c.parent-item.is) in
    let same = (bytes_eq-Decides last commit).0 (sym c.eq.ensures ∙ c.if-eq.true) in
    let old = is_marked names c.args.marks.now in
    let now = is_marked names c.loop-parent.marks in
    record {
      marked = λ name among. subst (λ ps. now name ≡ (old name || (not (bytes_eq commit name) && is_among ps name))) (sym more) (parents_skip (old name) (now name) commit last name front same (c.loop-parent.invariant.marked name among));
      len = c.loop-parent.invariant.len;
    }

pub loop-parent-preserved : goal.loop-parent-preserved
loop-parent-preserved c =
    let names = c.args.self.now.names.now.keys in
    let commit = c.index-as_slice-at.result in
    let last = c.parent-item.result in
    let parents = c.parents-parent-items.result.now in
    let front = take c.loop-parent.parent-index parents in
    let more : take (c.loop-parent.parent-index + 1) parents ≡ front ++ last ∷ [] = take_more parents c.loop-parent.parent-index last (omega arith) ∙ ap (λ n. front ++ n ∷ []) (sym c.parent-item.is) in
    let apart : last ≢ commit = λ same. (let no : false ≡ true = sym c.if-eq.false ∙ c.eq.ensures ∙ (bytes_eq-Decides last commit).1 same in cc) in
    let old = is_marked names c.args.marks.now in
    let before = is_marked names c.loop-parent.marks in
    let now = is_marked names c.put.new.marks in
    record {
      marked = λ name among. subst (λ ps. now name ≡ (old name || (not (bytes_eq commit name) && is_among ps name))) (sym more) (parents_put (old name) (before name) (now name) commit last name front apart (c.put.ensures.marked name among) (c.loop-parent.invariant.marked name among));
      len = c.put.ensures.len;
    }

pub returns-clause-marked : goal.returns-clause-marked
returns-clause-marked c = λ name among.
    let names = c.args.self.now.names.now.keys in
    let notes = c.args.self.now.notes.now in
    let old = is_marked names c.args.marks.now name in
    let parents = c.parents-parent-items.result.now in
    let whole = ap (λ ns. slice_index_or ns c.args.at c.index-as_slice-at.result) c.as_slice.ensures.keys in
    let commit = read_here names c.args.at c.index-as_slice-at.result c.requires.place (c.index-as_slice-at.is ∙ whole) in
    let past : length parents ≤ c.loop-parent.parent-index = search rules in
    let all = take_all c.loop-parent.parent-index parents past ∙ c.parents-parent-items.ensures ∙ sym (parents_here names notes c.args.at c.as_slice.ensures.unique c.requires.notes c.requires.place) in
    c.loop-parent.invariant.marked name among ∙ ap (λ ps. old || (not (bytes_eq c.index-as_slice-at.result name) && is_among ps name)) all
    ∙ ap (λ n. old || (not (bytes_eq n name) && is_among (noted_parents (notes_under names notes) (listed_name names c.args.at)) name)) commit
