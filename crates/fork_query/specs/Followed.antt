-- What is known about the tags that a query has followed (own).
use Rattle.std.specs.Prelude.{◌≡◌, ℕ, List, Option, IfSome}
use Rattle.std.specs.FinMap.{FinMap, get}
use Rattle.git_name.specs.Name.{name_cmp}
use Rattle.fork_reach.specs.Source.{Objects}
use Rattle.fork_query.specs.Peel.{peeled}

-- what tags peel to, by name
abbrev pub TagEnds : Type 0
TagEnds = FinMap name_cmp (Option (List ℕ))

-- each is what its tag peels to among these objects
abbrev pub AreEnds : Objects → TagEnds → Type 0
AreEnds objects ends = (tag : List ℕ) → IfSome (get ends tag) (λ end. end ≡ peeled objects tag)
