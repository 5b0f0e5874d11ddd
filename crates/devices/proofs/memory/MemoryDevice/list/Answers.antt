use Rattle.std.proofs.Common.{◌∙◌, List, ℕ, ap}
use Rattle.std.specs.FinMap as map
use Rattle.devices.specs.Device.{Files, names_in_folder}
use Rattle.devices.proofs.TreeLemmas.{files_are}
use Rattle.devices.proofs.memory.MemoryDevice.list.Goals as goal

pub returns : goal.returns
returns c _ =
    c.in_ok-list.ensures ∙ ap (λ (folder : List ℕ). names_in_folder folder (map.keys c.args.self.now.files)) c.as_bytes.ensures.value
    ∙ ap (λ (m : Files). names_in_folder c.args.folder.now (map.keys m)) (files_are c.args.self.now.base c.args.self.now.notes.items c.args.self.now.files c.args.self.now.make)
