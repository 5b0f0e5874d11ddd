-- The value of a further header, and what the iterators have left.
use Rattle.std.specs.Prelude.{ℕ, List}
use Rattle.git_header.specs.declared.continuation.Continuation.{Continuation}
use Rattle.git_header.specs.declared.header.Header.{Header}
use Rattle.git_header.specs.declared.headers.Headers.{Headers}
use Rattle.git_header.specs.Header.{HeaderValue}
use Rattle.git_header.specs.More.{more_of}
use Rattle.git_header.specs.Row.{headers_in}

abbrev pub more_left : Continuation → List (List ℕ)
more_left more = more_of more.rest

abbrev pub header_of : {KIND : ℕ} → Header KIND → HeaderValue
header_of header = record { key = header.key.now; value = header.value.now; more = more_left header.more }

abbrev pub headers_left : {KIND : ℕ} → Headers KIND → List HeaderValue
headers_left headers = headers_in headers.rest.now
