use Rattle.std.proofs.Common.{◌≡◌, IsTrue, []}
use Rattle.std.specs.FinMap.{keys}
use Rattle.packed_store.proofs.CopyLemmas.{AgreeBut}
use Rattle.packed_store.proofs.copying.copy_all.Given as goal

-- the stores agree but for the names that are left
abbrev pub invariant-loop-name : goal.invariant-loop-name
invariant-loop-name g l = (IsTrue (g.A.LooseFiles.honest l.fn.from) → IsTrue (g.B.LooseFiles.honest l.fn.to) → keys (g.B.LooseFiles.contents l.fn.to) ≡ [] → AgreeBut l.name-iterator.rest.items (g.A.LooseFiles.contents l.fn.from) (g.B.LooseFiles.contents l.to))
    × (IsTrue (g.A.LooseFiles.honest l.fn.from) → g.A.LooseFiles.contents l.from ≡ g.A.LooseFiles.contents l.fn.from)
    × (g.A.LooseFiles.honest l.from ≡ g.A.LooseFiles.honest l.fn.from)
    × (g.B.LooseFiles.honest l.to ≡ g.B.LooseFiles.honest l.fn.to)
