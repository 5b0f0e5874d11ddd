-- Tests of the parts of a commit or a tag, for models that compute (own). They say what the relations say.
use Rattle.std.specs.Prelude.{ℕ, ◌==◌, ◌-◌, ◌^◌, ◌&&◌, ◌||◌, nat_lt, nat_le, not, Bool, false, List, [], length, slice_index, codes}
use Rattle.std.specs.List.{list_all}
use Rattle.std.specs.Str.{bytes_eq}
use Rattle.git_name.specs.declared.kind.Kind.{Kind}
use Rattle.git_name.specs.declared.kind.Kind.TheVariants.{Blob, Tree, Commit, Tag}
use Rattle.git_header.specs.Ident.{IdentValue}
use Rattle.git_header.specs.Header.{HeaderValue}

-- the byte does not occur
abbrev pub lacks : ℕ → List ℕ → Bool
lacks byte bytes = list_all (λ b. not (b == byte)) bytes

-- the test of a name
abbrev pub is_name : List ℕ → Bool
is_name name = (length name == 32) && list_all (λ b. nat_lt b 256) name

-- no line feed and no zero byte
abbrev pub is_plain : List ℕ → Bool
is_plain bytes = lacks 10 bytes && lacks 0 bytes

-- the tests of the parts of an ident
abbrev pub is_ident_text : List ℕ → Bool
is_ident_text bytes = lacks 60 bytes && lacks 62 bytes && is_plain bytes

abbrev pub ends_in_space : List ℕ → Bool
ends_in_space bytes = bytes_eq bytes [] || (slice_index bytes (length bytes - 1) == 32)

abbrev pub is_zone : List ℕ → Bool
is_zone zone = (length zone == 4) && list_all (λ b. nat_le 48 b) zone && list_all (λ b. nat_le b 57) zone

-- the test of an ident
abbrev pub is_ident : IdentValue → Bool
is_ident ident = is_ident_text ident.name && ends_in_space ident.name && is_ident_text ident.email && nat_lt ident.seconds (2 ^ 63) && is_zone ident.zone

-- whether the key is the word of a required line
abbrev pub is_own_word : Kind → List ℕ → Bool
is_own_word Commit key = bytes_eq key (codes "tree") || (bytes_eq key (codes "parent") || (bytes_eq key (codes "author") || bytes_eq key (codes "committer")))
is_own_word Tag key = bytes_eq key (codes "object") || (bytes_eq key (codes "type") || (bytes_eq key (codes "tag") || bytes_eq key (codes "tagger")))
is_own_word Blob key = false
is_own_word Tree key = false

-- the test of the key of a further header
abbrev pub is_key : Kind → List ℕ → Bool
is_key kind key = not (bytes_eq key []) && lacks 32 key && is_plain key && not (is_own_word kind key)

-- the test of a further header
abbrev pub is_header : Kind → HeaderValue → Bool
is_header kind header = is_key kind header.key && is_plain header.value && list_all is_plain header.more
