-- The rules of reference names: git-check-ref-format(1), and two more (own). Each applies to the whole name.
use Rattle.std.specs.Prelude.{◌≡◌, ℕ, ◌==◌, ◌||◌, Bool, not, nat_lt, List, [], ◌∷◌, Option, None, length, codes}
use Rattle.std.specs.List.{starts_with, ends_with, list_any, find}
use Rattle.std.specs.Prelude.{nat_eq}
use Rattle.std.specs.Str.{bytes_eq}
use Rattle.git_refname.specs.declared.rule.Rule.{Rule}
use Rattle.git_refname.specs.declared.rule.Rule.TheVariants.{Component, OneLevel, TwoDots, Unprintable, Pattern, Slashes, LastDot, AtBrace, LoneAt, Backslash, OutsideRefs, TooLong}
use Rattle.git_refname.specs.declared.name.TheConstants.{MAX_REF_NAME}

-- the text begins with these bytes
abbrev pub begins : List ℕ → List ℕ → Bool
begins part text = starts_with nat_eq text part

-- the text ends in these bytes
abbrev pub ends : List ℕ → List ℕ → Bool
ends part text = ends_with nat_eq text part

-- these bytes occur in the text, one after another
abbrev pub holds : List ℕ → List ℕ → Bool
holds part [] = begins part []
holds part (b ∷ bs) = begins part (b ∷ bs) || holds part bs

-- a control byte, DEL, SP, `~`, `^` or `:`
abbrev pub is_unprintable : ℕ → Bool
is_unprintable b = nat_lt b 32 || (b == 127) || (b == 32) || (b == 126) || (b == 94) || (b == 58)

-- `?`, `*` or `[`
abbrev pub is_pattern : ℕ → Bool
is_pattern b = (b == 63) || (b == 42) || (b == 91)

-- the name breaks the rule
abbrev pub breaks : List ℕ → Rule → Bool
-- a component (slashes separate components) begins with `.` or ends in `.lock`
breaks name Component = begins (codes ".") name || holds (codes "/.") name || ends (codes ".lock") name || holds (codes ".lock/") name
breaks name OneLevel = not (holds (codes "/") name)
breaks name TwoDots = holds (codes "..") name
breaks name Unprintable = list_any is_unprintable name
breaks name Pattern = list_any is_pattern name
breaks name Slashes = begins (codes "/") name || ends (codes "/") name || holds (codes "//") name
breaks name LastDot = ends (codes ".") name
breaks name AtBrace = holds (codes "@{") name
breaks name LoneAt = bytes_eq name (codes "@")
breaks name Backslash = holds (codes "\\") name
-- own
breaks name OutsideRefs = not (begins (codes "refs/") name)
-- own
breaks name TooLong = nat_lt MAX_REF_NAME (length name)

-- the rules in their order
abbrev pub rules : List Rule
rules = Component ∷ OneLevel ∷ TwoDots ∷ Unprintable ∷ Pattern ∷ Slashes ∷ LastDot ∷ AtBrace ∷ LoneAt ∷ Backslash ∷ OutsideRefs ∷ TooLong ∷ []

-- the first rule that the name breaks
unfoldable pub least_broken_rule : List ℕ → Option Rule
least_broken_rule name = find (breaks name) rules

-- a name that breaks no rule
abbrev pub IsRefName : List ℕ → Type 0
IsRefName name = least_broken_rule name ≡ None
