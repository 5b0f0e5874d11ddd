-- What is known of numbers (own): what each links to and, for a commit, when it was made.
use Rattle.std.specs.Prelude.{ℕ, List, [], ◌∷◌, Option, cond, get_or, map, nat_eq}
use Rattle.std.specs.Option.{option_map}
use Rattle.number_links.specs.Known.{Known, known, linked}
use Rattle.number_links.specs.declared.along.Along.{Along}
use Rattle.number_links.specs.declared.along.Along.TheVariants.{Links, Parents}

-- what an object links to, and its time: for a commit the seconds since 1970 plus 1, and 0 for any other object
pub record Learned (A : Type 0) : Type 0 where
  pub links : List A
  pub time : ℕ

-- what links to nothing has time 0
abbrev pub time_beside : {A : Type 0} → List A → ℕ → ℕ
time_beside [] time = 0
time_beside (to ∷ more) time = time

-- links, with the time that is kept for them
abbrev pub told : {A : Type 0} → List A → ℕ → Learned A
told links word = record { links = links; time = time_beside links word }

-- no links, and time 0
abbrev pub nothing : {A : Type 0} → Learned A
nothing = record { links = []; time = 0 }

-- the same, with other links
abbrev pub learned_as : {A B : Type 0} → (A → B) → Learned A → Learned B
learned_as f learned = record { links = map f learned.links; time = learned.time }

-- the parents among links: a commit's first link is its tree, and the others are its parents
abbrev pub parents_from : {A : Type 0} → List A → ℕ → List A
parents_from [] time = []
parents_from (tree ∷ parents) time = cond (nat_eq time 0) [] parents

-- what a walk follows, along links or along parents
abbrev pub goes_from : {A : Type 0} → Along → List A → ℕ → List A
goes_from Links links time = links
goes_from Parents links time = parents_from links time

-- for each number its links, if they are known, and its time
pub record Facts : Type 0 where
  pub links : Known
  pub times : List ℕ

-- what is known of a number
abbrev pub learned : Facts → ℕ → Option (Learned ℕ)
learned facts n = option_map (λ links. told links (get_or facts.times n 0)) (known facts.links n)

-- what a walk follows from a number; nothing if its links are not known
abbrev pub goes_on : Along → Facts → ℕ → List ℕ
goes_on along facts n = goes_from along (linked facts.links n) (get_or facts.times n 0)
