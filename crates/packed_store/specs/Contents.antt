-- Which files a store has (own): by each place of its index, the bytes that its device has there.
use Rattle.std.specs.Prelude.{Bool, true, false}
use Rattle.std.specs.FinMap.{empty}
use Rattle.devices.specs.Device.{Past, files_of}
use Rattle.git_name.specs.Maps.{map_values}
use Rattle.loose_store.specs.Files.{Files}
use Rattle.packed_store.specs.Place.{Index, bytes_at}

-- the files at the places of an index, over an honest device. Nothing is said of another's
abbrev pub contents_in : Bool → Past → Index → Files
contents_in true past index = map_values (bytes_at (files_of past)) index
contents_in false past index = empty
