use Rattle.std.proofs.Common.{◌≡◌, take}
use Rattle.git_refname.specs.Marks.{marks_of}
use Rattle.git_refname.proofs.check.marks_in.Given as goal

-- the marks of the front
abbrev pub invariant-loop-at : goal.invariant-loop-at
invariant-loop-at l = l.marks ≡ marks_of (take l.at l.text)
