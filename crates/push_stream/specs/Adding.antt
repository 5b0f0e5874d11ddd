-- What a text adds to a stream, as the code represents it.
use Rattle.std.specs.Prelude.{◌≡◌, ◌++◌, ◌+◌, ◌≤◌, ℕ, Bool, false, List, [], length}
use Rattle.git_reftx.specs.declared.reading.TheConstants.{MAX_COMMANDS}
use Rattle.push_stream.specs.declared.gaining.Added.{Added}
use Rattle.push_stream.specs.declared.content_limit.TheConstants.{MAX_REST}
use Rattle.push_stream.specs.Gaining.{Awaits}
use Rattle.push_stream.specs.Reading.{added_in}
use Rattle.push_stream.specs.Spelling.{records_of}
use Rattle.push_stream.specs.Stream.{Flows}

-- what a text adds after this many commands, before or after the empty line: its header's text, its records and its rest are the
-- text
pub record IsAdded (headed : Bool) (had : ℕ) (text : List ℕ) (added : Added) : Type 0 where
  pub found : added_in headed had text ≡ Flows added.commands.items added.objects.items added.headed added.rest.items
  pub few : had + length added.commands.items ≤ MAX_COMMANDS
  pub short : length added.rest.items ≤ MAX_REST
  pub waits : Awaits added.rest.items added.wanted
  pub header : added_in headed had added.header.items ≡ Flows added.commands.items [] added.headed []
  pub spelled : text ≡ added.header.items ++ (records_of added.objects.items ++ added.rest.items)
  pub bare : added.headed ≡ false → (headed ≡ false) × (added.objects.items ≡ [])
