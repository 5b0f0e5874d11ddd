use Rattle.std.proofs.Common.{sym, ◌∙◌}
use Rattle.devices.proofs.TreeLemmas.{made_after, made_rename}
use Rattle.devices.proofs.memory.MemoryDevice.rename.Goals as goal

pub invariant_of-self : goal.invariant_of-self
invariant_of-self c = record {
  make = made_after c.args.self.now.base c.rename_in.result c.args.self.now.notes.items c.rename_in.new.notes.items c.args.self.now.files _ c.rename_in.new.files _ c.rename_in.ensures.ok c.rename_in.ensures.err c.args.self.now.make
      (made_rename c.args.self.now.base c.args.self.now.notes.items c.args.self.now.files c.in_ok-from_noted.from_noted c.in_ok-to_noted.to_noted c.in_ok-from.from c.in_ok-to.to
      (c.in_ok-from_noted.ensures ∙ c.as_bytes.ensures.value ∙ sym (c.in_ok-from.ensures ∙ c.as_bytes-3.ensures.value)) (c.in_ok-to_noted.ensures ∙ c.as_bytes-2.ensures.value ∙ sym (c.in_ok-to.ensures ∙ c.as_bytes-4.ensures.value)) c.args.self.now.make);
}
