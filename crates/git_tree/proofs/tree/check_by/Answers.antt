use Rattle.std.proofs.Common.{rules, ◌≡◌, ◌++◌, take, drop, refl, sym, ◌∙◌, arith}
use Rattle.std.proofs.lemmas.List.{take_rest}
use Rattle.git_tree.specs.Entry.{plain_entry, spelled}
use Rattle.git_tree.specs.Row.{entries_in}
use Rattle.git_tree.specs.Tracks.{reached_by}
use Rattle.git_tree.proofs.PlaceLemmas.{past, tracks_on, grows}
use Rattle.git_tree.proofs.TreeLemmas.{are_none, row_none_is, tracks_none, reads_on, misplaced}
use Rattle.git_tree.proofs.tree.check_by.Goals as goal

pub loop-at-init : goal.loop-at-init
loop-at-init g c = record { within = omega arith; row = row_none_is; are = are_none; tracks = tracks_none _ refl refl }

pub returns-in-Err-place-clause-exact : goal.returns-in-Err-place-clause-exact
returns-in-Err-place-clause-exact g c =
    let taken : drop c.loop-at.at c.args.bytes.now ≡ spelled (plain_entry c.in-Ok.taken.0) ++ c.in-Ok.taken.1.now = sym (take_rest c.args.bytes.now c.loop-at.at) ∙ c.in-Ok.ensures.parts in
    misplaced c.in-Err-place.fault c.args.bytes.now c.loop-at.at (plain_entry c.in-Ok.taken.0) c.in-Ok.taken.1.now c.loop-at-test.true taken c.in-Ok.ensures.entry c.loop-at.invariant.row c.loop-at.invariant.are c.in-Err-place.ensures.fault

pub loop-at-preserved : goal.loop-at-preserved
loop-at-preserved g c =
    let taken : drop c.loop-at.at c.args.bytes.now ≡ spelled (plain_entry c.in-Ok.taken.0) ++ c.in-Ok.taken.1.now = sym (take_rest c.args.bytes.now c.loop-at.at) ∙ c.in-Ok.ensures.parts in
    let reads = reads_on c.args.bytes.now c.loop-at.at (plain_entry c.in-Ok.taken.0) c.in-Ok.taken.1.now c.loop-at.invariant.within taken c.in-Ok.ensures.entry c.loop-at.invariant.row c.loop-at.invariant.are c.in-Ok-place.ensures.follows in
    record {
      within = omega arith;
      row = reads.row;
      are = reads.are;
      tracks = rw reads.entries (tracks_on (entries_in (take c.loop-at.at c.args.bytes.now)) (reached_by c.loop-at.last c.loop-at.fronts) _ (plain_entry c.in-Ok.taken.0) c.in-Ok-place.shared c.in-Ok-place.ensures.steps
          (past (entries_in (take c.loop-at.at c.args.bytes.now)) (reached_by c.loop-at.last c.loop-at.fronts) c.loop-at.invariant.row.each c.loop-at.invariant.tracks.low c.loop-at.invariant.tracks.known)
          refl c.is_tree-is_tree.ensures c.advance.ensures.kept (λ file. c.advance.ensures.added (c.is_tree-is_tree.ensures ∙ file)));
    }

pub advance-requires : goal.advance-requires
advance-requires g c = (search rules, λ file. grows (reached_by c.loop-at.last c.loop-at.fronts) (plain_entry c.in-Ok.taken.0) c.in-Ok-place.shared c.in-Ok-place.ensures.steps (sym c.is_tree-is_tree.ensures ∙ file))
