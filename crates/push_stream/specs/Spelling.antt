-- How whole streams are spelled (own).
use Rattle.std.specs.Prelude.{◌≡◌, ◌≤◌, ℕ, List, ◌∷◌, ◌++◌, length, Ok}
use Rattle.std.specs.List.{AllByRecursion, flat_map}
use Rattle.git_name.specs.Object.{Object}
use Rattle.git_reftx.specs.declared.command.Command.{Command}
use Rattle.git_reftx.specs.Reading.{commands_of}
use Rattle.push_stream.specs.declared.content_limit.TheConstants.{MAX_CONTENT}
use Rattle.push_stream.specs.Record.{record_of}
use Rattle.push_stream.specs.Stream.{AreObjects}

-- the records of objects, one after another
abbrev pub records_of : List Object → List ℕ
records_of objects = flat_map record_of objects

-- no content is longer than a host takes
abbrev pub AreWithin : List Object → Type 0
AreWithin objects = AllByRecursion (λ object. length object.bytes ≤ MAX_CONTENT) objects

-- lines that read as these commands, an empty line, and the records of these objects
pub record IsStream (bytes : List ℕ) (commands : List Command) (objects : List Object) : Type 0 where
  pub lines : List ℕ
  pub spelled : bytes ≡ lines ++ 10 ∷ records_of objects
  pub asked : commands_of lines ≡ Ok commands
  pub right : AreObjects objects
  pub within : AreWithin objects
