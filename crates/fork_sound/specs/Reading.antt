-- What is known of objects once they were read (own): enough to judge what is seen without their bytes.
use Rattle.std.specs.Prelude.{◌≡◌, ℕ, Bool, true, ◌||◌, not, List, Option, None, Some, is_none, length}
use Rattle.std.specs.FinMap.{FinMap, get}
use Rattle.std.specs.List.{list_any}
use Rattle.std.specs.Option.{option_map}
use Rattle.git_name.specs.Name.{name_cmp}
use Rattle.git_name.specs.Object.{Object}
use Rattle.git_name.specs.declared.kind.Kind.{Kind}
use Rattle.git_object.specs.ObjectIn.{links_in, object_in}
use Rattle.git_object.specs.declared.link.Link.{Link}
use Rattle.fork_reach.specs.Source.{Objects}
use Rattle.fork_sound.specs.Sound.{is_other}

-- of one object: its kind, the length of its content, whether it breaks the grammar of its kind, and its links
pub record ReadingValue : Type 0 where
  pub kind : Kind
  pub size : ℕ
  pub wrong : Bool
  pub links : List Link

abbrev pub object_reading : Object → ReadingValue
object_reading object = record {
  kind = object.kind;
  size = length object.bytes;
  wrong = is_none (object_in object.kind object.bytes);
  links = links_in object.kind object.bytes;
}

-- of objects under their names
abbrev pub ReadingMap : Type 0
ReadingMap = FinMap name_cmp ReadingValue

-- the readings are those of the objects under the names that are seen
abbrev pub AreReadings : ReadingMap → (List ℕ → Bool) → Objects → Type 0
AreReadings readings seen objects = (name : List ℕ) → seen name ≡ true → get readings name ≡ option_map object_reading (get objects name)

-- the kind that was read under a name
abbrev pub kind_read : ReadingMap → List ℕ → Option Kind
kind_read readings name = option_map (λ reading. reading.kind) (get readings name)

-- by what was read: a link is unresolved, an object is unsound, and what is under a name is bad
abbrev pub is_unmet_read : ReadingMap → (List ℕ → Bool) → Link → Bool
is_unmet_read readings seen link = not (seen link.name) || is_other link.kind (kind_read readings link.name)

abbrev pub is_unsound_read : ReadingMap → (List ℕ → Bool) → ReadingValue → Bool
is_unsound_read readings seen reading = reading.wrong || list_any (is_unmet_read readings seen) reading.links

abbrev pub is_bad_reading : ReadingMap → (List ℕ → Bool) → Option ReadingValue → Bool
is_bad_reading readings seen (Some reading) = is_unsound_read readings seen reading
is_bad_reading readings seen None = true

abbrev pub is_bad_read : ReadingMap → (List ℕ → Bool) → List ℕ → Bool
is_bad_read readings seen name = is_bad_reading readings seen (get readings name)
