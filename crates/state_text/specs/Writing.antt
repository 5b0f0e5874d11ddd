-- A text on its way to a writer (own): its front was written and hashed, and its rest waits.
use Rattle.std.specs.Prelude.{◌≡◌, List, ℕ, ◌++◌, Option}
use Rattle.std.specs.Io.KnownBytes.{Appends}
use Rattle.sha2.specs.Hashers.{Holds256}
use Rattle.state_text.specs.declared.waiting.Waiting.{Waiting}

-- the bytes of a writer were `first`, and are `now`
pub record IsUnderWay (first now : Option (List ℕ)) (waiting : Waiting) (text : List ℕ) : Type 0 where
  pub front : List ℕ
  pub written : Appends first now front
  pub hashed : Holds256 waiting.hasher front
  pub parts : text ≡ front ++ waiting.lines.items

-- the text grows by these bytes, whatever it was
pub record Puts (before after : Option (List ℕ)) (old new : Waiting) (bytes : List ℕ) : Type 0 where
  pub goes_on : (first : Option (List ℕ)) (text : List ℕ) → IsUnderWay first before old text → IsUnderWay first after new (text ++ bytes)
