-- The marks of a text: all that decides a rule wherever it occurs.
use Rattle.std.specs.Prelude.{ℕ, ◌==◌, ◌||◌, Bool, not, List, codes}
use Rattle.std.specs.List.{list_any}
use Rattle.git_refname.specs.declared.marks.Marks.{Marks}
use Rattle.git_refname.specs.Rule.{holds, is_unprintable, is_pattern}

abbrev pub marks_of : List ℕ → Marks
marks_of text = record {
  dot = holds (codes "/.") text;
  lock = holds (codes ".lock/") text;
  slash = holds (codes "/") text;
  two_dots = holds (codes "..") text;
  unprintable = list_any is_unprintable text;
  pattern = list_any is_pattern text;
  two_slashes = holds (codes "//") text;
  at_brace = holds (codes "@{") text;
  backslash = holds (codes "\\") text;
}

-- a byte with which no mark ends: printable, no byte of patterns, and none of `.`, `/`, backslash and `{`
abbrev pub is_plain : ℕ → Bool
is_plain b = not (is_unprintable b || is_pattern b || (b == 46) || (b == 47) || (b == 92) || (b == 123))
