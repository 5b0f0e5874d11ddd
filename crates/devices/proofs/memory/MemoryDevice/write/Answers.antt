use Rattle.std.proofs.Common.{sym, ◌∙◌}
use Rattle.devices.proofs.TreeLemmas.{made_after, made_write}
use Rattle.devices.proofs.memory.MemoryDevice.write.Goals as goal

pub invariant_of-self : goal.invariant_of-self
invariant_of-self c = record {
  make = made_after c.args.self.now.base c.add_with.result c.args.self.now.notes.items c.add_with.new.notes.items c.args.self.now.files _ c.add_with.new.files _ c.add_with.ensures.ok c.add_with.ensures.err c.args.self.now.make
      (made_write c.args.self.now.base c.args.self.now.notes.items c.args.self.now.files c.in_ok-path_noted.path_noted c.in_ok-bytes_noted.bytes_noted c.in_ok-path.path c.in_ok-bytes.bytes
      (c.in_ok-path_noted.ensures ∙ c.as_bytes.ensures.value ∙ sym (c.in_ok-path.ensures ∙ c.as_bytes-2.ensures.value)) (c.in_ok-bytes_noted.ensures ∙ sym c.in_ok-bytes.ensures) c.args.self.now.make);
}
