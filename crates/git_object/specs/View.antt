-- The value of a borrowed tagger, without its address.
use Rattle.std.specs.Prelude.{Option, None, Some}
use Rattle.git_header.specs.declared.ident.Ident.{Ident}
use Rattle.git_header.specs.Ident.{IdentValue}
use Rattle.git_header.specs.View.{ident_of}

abbrev pub tagger_of : Option Ident → Option IdentValue
tagger_of None = None
tagger_of (Some ident) = Some (ident_of ident)
