-- What is a commit is read as this commit.
use Rattle.std.proofs.Common.{◌≡◌, ℕ, List, Result, Ok, Err}
use Rattle.std.specs.Prelude.{IfOk, IfErr, IsOkAnd}
use Rattle.git_header.specs.declared.fault.HeaderFault.{HeaderFault}
use Rattle.git_commit.specs.Commit.{CommitValue, IsCommit}
use Rattle.git_commit.specs.Fault.{IsCommitFault}
use Rattle.git_commit.proofs.CommitLemmas.{no_commit}
use Rattle.git_commit.proofs.WholeLemmas.{one_commit}

pub only_one : {C : Type 0} (view : C → CommitValue) (bytes : List ℕ) (r : Result C HeaderFault) (value : CommitValue) → IfOk r (λ c. IsCommit (view c) bytes) → IfErr r (λ why. IsCommitFault why bytes) → IsCommit value bytes → IsOkAnd r (λ c. view c ≡ value)
only_one view bytes (Ok c) value found exact is = one_commit bytes (view c) value found is
only_one view bytes (Err why) value found exact is = absurd (no_commit why bytes value is exact)
