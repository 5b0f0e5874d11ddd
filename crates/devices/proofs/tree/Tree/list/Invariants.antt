use Rattle.std.proofs.Common.{◌≡◌, ◌++◌, map as each}
use Rattle.std.specs.FinMap as map
use Rattle.devices.specs.Device.{names_in_folder}
use Rattle.devices.proofs.tree.Tree.list.Given as goal

-- the names so far, and then those of the files that are left, are all
abbrev pub invariant-loop-path : goal.invariant-loop-path
invariant-loop-path l = each (λ name. name.items) l.names.items ++ names_in_folder l.folder l.path-iterator ≡ names_in_folder l.folder (map.keys l.self)
