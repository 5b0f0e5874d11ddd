-- A file in memory (own): which bytes it has.
use Rattle.std.specs.Prelude.{ℕ, List}
use Rattle.git_name.specs.Object.{typed_bytes}
use Rattle.loose_store.specs.declared.memory_file.MemoryFile.{MemoryFile}
use Rattle.loose_store.specs.declared.memory_file.MemoryFile.TheVariants.{Bytes, Object}

-- the bytes that were put, or those of the object's file
abbrev pub file_bytes : MemoryFile → List ℕ
file_bytes (Bytes bytes) = bytes.items
file_bytes (Object kind content) = typed_bytes (record { kind = kind; bytes = content.items })
