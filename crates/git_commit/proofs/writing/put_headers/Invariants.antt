use Rattle.std.proofs.Common.{◌≡◌, ◌++◌, map, take}
use Rattle.std.specs.List.{flat_map}
use Rattle.git_name.specs.Text.{ended}
use Rattle.git_header.specs.Header.{header_lines}
use Rattle.git_header.specs.Left.{header_of}
use Rattle.git_commit.proofs.writing.put_headers.Given as goal

abbrev pub invariant-loop-header : goal.invariant-loop-header
invariant-loop-header l = l.out.items ≡ l.fn.out.items ++ flat_map ended (flat_map header_lines (map header_of (take l.header-index l.headers)))
