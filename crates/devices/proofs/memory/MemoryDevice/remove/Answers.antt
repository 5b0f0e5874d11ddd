use Rattle.std.proofs.Common.{sym, ◌∙◌}
use Rattle.devices.proofs.TreeLemmas.{made_remove}
use Rattle.devices.proofs.memory.MemoryDevice.remove.Goals as goal

pub invariant_of-self-2 : goal.invariant_of-self-2
invariant_of-self-2 c = record {
  make = made_remove c.args.self.now.base c.args.self.now.notes.items c.add.new.notes.items c.args.self.now.files c.remove.new.self c.in_ok-noted.noted c.in_ok-path.path
      (c.in_ok-noted.ensures ∙ c.as_bytes.ensures.value ∙ sym (c.in_ok-path.ensures ∙ c.as_bytes-2.ensures.value)) c.in_ok-add.ensures.ok c.remove.ensures c.args.self.now.make;
}
