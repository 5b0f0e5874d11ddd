-- What `hash-object` does (own): it prints the name of the object whose content is the input, or reports why there is none.
use Rattle.std.specs.Prelude.{◌≡◌, ℕ, ◌<◌, ◌≤◌, List, [], ◌∷◌, ◌++◌, length, Option, IfSome, ⊤}
use Rattle.std.specs.Io.KnownBytes.{Appends, Keeps}
use Rattle.hex.specs.Hex.{encode_lower}
use Rattle.git_name.specs.declared.kind.Kind.{Kind}
use Rattle.git_name.specs.Object.{object_name}
use Rattle.git_object.specs.Object.{ObjectValue, IsObject}
use Rattle.push_stream.specs.declared.content_limit.TheConstants.{MAX_CONTENT}
use Rattle.fork_program.specs.declared.fault.Fault.{Fault}
use Rattle.fork_program.specs.declared.fault.Fault.TheVariants.{TooLarge, BadObject, Read, Write, Memory}

-- the bytes are an object of this kind
abbrev pub IsOfKind : Kind → List ℕ → Type 0
IsOfKind kind bytes = (value : ObjectValue) × IsObject value kind bytes

-- its name, and LF
abbrev pub object_line : Kind → List ℕ → List ℕ
object_line kind bytes = encode_lower (object_name (record { kind = kind; bytes = bytes })) ++ 10 ∷ []

-- the input is longer than an object may be
abbrev pub IsTooLarge : Option (List ℕ) → Type 0
IsTooLarge input = IfSome input (λ bytes. MAX_CONTENT < length bytes)

-- this is the whole input, and no longer than an object may be
pub record IsContent (input : Option (List ℕ)) (content : List ℕ) : Type 0 where
  pub whole : IfSome input (λ bytes. content ≡ bytes)
  pub fits : length content ≤ MAX_CONTENT

-- why the input was not read completely
abbrev pub IsUnread : Option (List ℕ) → Fault → Type 0
IsUnread input TooLarge = IsTooLarge input
IsUnread input Read = ⊤
IsUnread input Memory = ⊤
IsUnread input _ = ⊥

-- the input is an object of the kind, and its name was printed
abbrev pub TellsName : Kind → Option (List ℕ) → Option (List ℕ) → Option (List ℕ) → Type 0
TellsName kind input before after = (content : List ℕ) × IsContent input content × IsOfKind kind content × Appends before after (object_line kind content)

-- why no name was printed, or only a part of it
abbrev pub IsUnnamed : Kind → Option (List ℕ) → Option (List ℕ) → Option (List ℕ) → Fault → Type 0
IsUnnamed kind input before after TooLarge = IsTooLarge input × Keeps before after
IsUnnamed kind input before after BadObject = (content : List ℕ) × IsContent input content × (¬ IsOfKind kind content) × Keeps before after
IsUnnamed kind input before after Read = Keeps before after
IsUnnamed kind input before after Write = (content : List ℕ) × IsContent input content × IsOfKind kind content
IsUnnamed kind input before after Memory = Keeps before after
IsUnnamed kind input before after _ = ⊥
