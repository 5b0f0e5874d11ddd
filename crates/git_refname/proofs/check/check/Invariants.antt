use Rattle.std.proofs.Common.{◌≡◌, None, take}
use Rattle.std.specs.List.{find}
use Rattle.git_refname.specs.Marks.{marks_of}
use Rattle.git_refname.specs.Rule.{breaks, rules as rules_in_order}
use Rattle.git_refname.proofs.check.check.Given as goal

-- the name breaks no earlier rule
abbrev pub invariant-loop-rule : goal.invariant-loop-rule
invariant-loop-rule l = record {
  marks : l.marks ≡ marks_of l.text;
  none : find (breaks l.text) (take l.rule-index rules_in_order) ≡ None;
}
