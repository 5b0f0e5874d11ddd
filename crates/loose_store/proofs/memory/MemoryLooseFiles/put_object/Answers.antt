use Rattle.std.proofs.Common.{sym, subst, ◌∙◌}
use Rattle.std.specs.FinMap as map
use Rattle.git_name.specs.Object.{object_name, typed_bytes}
use Rattle.loose_store.specs.Files.{SameBut}
use Rattle.loose_store.proofs.FilesLemmas.{insert_same_but}
use Rattle.loose_store.proofs.memory.MemoryLooseFiles.put_object.Goals as goal

pub returns-clause-others : goal.returns-clause-others
returns-clause-others c _ =
    let old = c.args.self.now in
    subst (SameBut (object_name c.args.sealed) old)
    (sym (c.in_ok-keep.ensures.ok ∙ (λ i. map.insert old (c.name-name.ensures i) (typed_bytes (record { kind = c.into_parts-kind.ensures.kind i; bytes = c.into_parts-kind.ensures.bytes i })))))
    (insert_same_but old (object_name c.args.sealed) (typed_bytes c.args.sealed))
