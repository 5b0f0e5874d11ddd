-- The value of a borrowed ident, without its address.
use Rattle.git_header.specs.declared.ident.Ident.{Ident}
use Rattle.git_header.specs.Ident.{IdentValue}

abbrev pub ident_of : Ident → IdentValue
ident_of ident = record {
  name = ident.name.now;
  email = ident.email.now;
  seconds = ident.seconds;
  sign = ident.sign;
  zone = ident.zone.now;
}
