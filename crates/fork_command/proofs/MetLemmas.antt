-- What the subcommand that clap found says.
use Rattle.std.proofs.Common.{◌≡◌, ◌≢◌, ◌∙◌, sym, ap, subst, arith, codes, is_some, slice_index, Option, Some, None, List, [], ℕ, Bool, true}
use Rattle.std.specs.Option.{option_map}
use Rattle.std.specs.Str.{bytes_eq}
use Rattle.clap.specs.Words.{Row, Text, first_of}
use Rattle.fork_command.specs.Command.{HasTenantWords, IsCommandMet, ToAdd, ToCheck, ToHash, ToLimit, ToRemove, ToRepack, ToRun, ToServe, ToUpgrade}
use Rattle.std.proofs.lemmas.Slice.Eq.{bytes_eq-Decides}

-- two halves that are known of an option's pair are the pair
pub both_halves : {X A B : Type 0} (o : Option X) (f : X → A) (g : X → B) (a : A) (b : B) → Some a ≡ option_map f o
    → Some b ≡ option_map (λ (p : A × B). p.1) (option_map {U = A × B} (λ x. (f x, g x)) o) → option_map {U = A × B} (λ x. (f x, g x)) o ≡ Some (a, b)
both_halves None f g a b first second = cc
both_halves {X} {A} {B} (Some x) f g a b first second =
    let left : a ≡ f x = cc in
    let right : b ≡ g x = cc in
    let pair : ◌≡◌ {A = A × B} (f x, g x) (a, b) = λ i. (sym left i, sym right i) in
    ap Some pair

pub text_is : (s t : List ℕ) (r : Bool) → r ≡ bytes_eq s t → r ≡ true → s ≡ t
text_is s t r e is = (bytes_eq-Decides s t).0 (sym e ∙ is)

abbrev pub rows_met : Option (Text × List Row) → List Row
rows_met None = []
rows_met (Some p) = p.1

-- the subcommands differ in their third letters
abbrev pub third_letter : Option (Text × List Row) → ℕ
third_letter None = 0
third_letter (Some p) = slice_index p.0 2

-- if no subcommand was met
pub none_met : {X A B : Type 0} (o : Option X) (f : X → A) (g : X → B) (p : A × B) → None ≡ option_map f o → option_map {U = A × B} (λ x. (f x, g x)) o ≡ Some p → ⊥
none_met None f g p none some = absurd (cc)
none_met (Some x) f g p none some = absurd (cc)

other_letter : {X : Type 0} (n m : ℕ) → n ≡ m → n ≢ m → X
other_letter n m is differs = absurd (differs is)

-- if `check` was met, a folder is given
pub check_met : (met : Option (Text × List Row)) (rows : List Row) → IsCommandMet met → met ≡ Some (codes "check", rows) → is_some (first_of (codes "dir") rows) ≡ true
check_met met rows (ToHash others is) this = other_letter 115 101 (ap third_letter (sym is ∙ this)) (omega arith)
check_met met rows (ToRun others is) this = other_letter 110 101 (ap third_letter (sym is ∙ this)) (omega arith)
check_met met rows (ToServe others is words) this = other_letter 114 101 (ap third_letter (sym is ∙ this)) (omega arith)
check_met met rows (ToCheck others is some) this = subst (λ (rs : List Row). is_some (first_of (codes "dir") rs) ≡ true) (ap rows_met (sym is ∙ this)) some
check_met met rows (ToUpgrade others is some) this = other_letter 103 101 (ap third_letter (sym is ∙ this)) (omega arith)
check_met met rows (ToAdd others is words) this = other_letter 100 101 (ap third_letter (sym is ∙ this)) (omega arith)
check_met met rows (ToLimit others is words) this = other_letter 116 101 (ap third_letter (sym is ∙ this)) (omega arith)
check_met met rows (ToRemove others is words) this = other_letter 109 101 (ap third_letter (sym is ∙ this)) (omega arith)
check_met met rows (ToRepack others is some) this = other_letter 112 101 (ap third_letter (sym is ∙ this)) (omega arith)

-- and so if `upgrade` was
pub upgrade_met : (met : Option (Text × List Row)) (rows : List Row) → IsCommandMet met → met ≡ Some (codes "upgrade", rows) → is_some (first_of (codes "dir") rows) ≡ true
upgrade_met met rows (ToHash others is) this = other_letter 115 103 (ap third_letter (sym is ∙ this)) (omega arith)
upgrade_met met rows (ToRun others is) this = other_letter 110 103 (ap third_letter (sym is ∙ this)) (omega arith)
upgrade_met met rows (ToServe others is words) this = other_letter 114 103 (ap third_letter (sym is ∙ this)) (omega arith)
upgrade_met met rows (ToCheck others is some) this = other_letter 101 103 (ap third_letter (sym is ∙ this)) (omega arith)
upgrade_met met rows (ToUpgrade others is some) this = subst (λ (rs : List Row). is_some (first_of (codes "dir") rs) ≡ true) (ap rows_met (sym is ∙ this)) some
upgrade_met met rows (ToAdd others is words) this = other_letter 100 103 (ap third_letter (sym is ∙ this)) (omega arith)
upgrade_met met rows (ToLimit others is words) this = other_letter 116 103 (ap third_letter (sym is ∙ this)) (omega arith)
upgrade_met met rows (ToRemove others is words) this = other_letter 109 103 (ap third_letter (sym is ∙ this)) (omega arith)
upgrade_met met rows (ToRepack others is some) this = other_letter 112 103 (ap third_letter (sym is ∙ this)) (omega arith)

-- if a tenant is to be added, the words have what that needs
pub add_met : (met : Option (Text × List Row)) (rows : List Row) → IsCommandMet met → met ≡ Some (codes "add-tenant", rows) → HasTenantWords rows
add_met met rows (ToHash others is) this = other_letter 115 100 (ap third_letter (sym is ∙ this)) (omega arith)
add_met met rows (ToRun others is) this = other_letter 110 100 (ap third_letter (sym is ∙ this)) (omega arith)
add_met met rows (ToServe others is words) this = other_letter 114 100 (ap third_letter (sym is ∙ this)) (omega arith)
add_met met rows (ToCheck others is some) this = other_letter 101 100 (ap third_letter (sym is ∙ this)) (omega arith)
add_met met rows (ToUpgrade others is some) this = other_letter 103 100 (ap third_letter (sym is ∙ this)) (omega arith)
add_met met rows (ToAdd others is words) this = subst HasTenantWords (ap rows_met (sym is ∙ this)) words
add_met met rows (ToLimit others is words) this = other_letter 116 100 (ap third_letter (sym is ∙ this)) (omega arith)
add_met met rows (ToRemove others is words) this = other_letter 109 100 (ap third_letter (sym is ∙ this)) (omega arith)
add_met met rows (ToRepack others is some) this = other_letter 112 100 (ap third_letter (sym is ∙ this)) (omega arith)

-- and so if a limit is to be set
pub limit_met : (met : Option (Text × List Row)) (rows : List Row) → IsCommandMet met → met ≡ Some (codes "set-limit", rows) → HasTenantWords rows
limit_met met rows (ToHash others is) this = other_letter 115 116 (ap third_letter (sym is ∙ this)) (omega arith)
limit_met met rows (ToRun others is) this = other_letter 110 116 (ap third_letter (sym is ∙ this)) (omega arith)
limit_met met rows (ToServe others is words) this = other_letter 114 116 (ap third_letter (sym is ∙ this)) (omega arith)
limit_met met rows (ToCheck others is some) this = other_letter 101 116 (ap third_letter (sym is ∙ this)) (omega arith)
limit_met met rows (ToUpgrade others is some) this = other_letter 103 116 (ap third_letter (sym is ∙ this)) (omega arith)
limit_met met rows (ToAdd others is words) this = other_letter 100 116 (ap third_letter (sym is ∙ this)) (omega arith)
limit_met met rows (ToLimit others is words) this = subst HasTenantWords (ap rows_met (sym is ∙ this)) words
limit_met met rows (ToRemove others is words) this = other_letter 109 116 (ap third_letter (sym is ∙ this)) (omega arith)
limit_met met rows (ToRepack others is some) this = other_letter 112 116 (ap third_letter (sym is ∙ this)) (omega arith)

-- and so if a tenant is to be removed
pub remove_met : (met : Option (Text × List Row)) (rows : List Row) → IsCommandMet met → met ≡ Some (codes "remove-tenant", rows) → HasTenantWords rows
remove_met met rows (ToHash others is) this = other_letter 115 109 (ap third_letter (sym is ∙ this)) (omega arith)
remove_met met rows (ToRun others is) this = other_letter 110 109 (ap third_letter (sym is ∙ this)) (omega arith)
remove_met met rows (ToServe others is words) this = other_letter 114 109 (ap third_letter (sym is ∙ this)) (omega arith)
remove_met met rows (ToCheck others is some) this = other_letter 101 109 (ap third_letter (sym is ∙ this)) (omega arith)
remove_met met rows (ToUpgrade others is some) this = other_letter 103 109 (ap third_letter (sym is ∙ this)) (omega arith)
remove_met met rows (ToAdd others is words) this = other_letter 100 109 (ap third_letter (sym is ∙ this)) (omega arith)
remove_met met rows (ToLimit others is words) this = other_letter 116 109 (ap third_letter (sym is ∙ this)) (omega arith)
remove_met met rows (ToRemove others is words) this = subst HasTenantWords (ap rows_met (sym is ∙ this)) words
remove_met met rows (ToRepack others is some) this = other_letter 112 109 (ap third_letter (sym is ∙ this)) (omega arith)

-- if `repack` was met, a folder is given
pub repack_met : (met : Option (Text × List Row)) (rows : List Row) → IsCommandMet met → met ≡ Some (codes "repack", rows) → is_some (first_of (codes "dir") rows) ≡ true
repack_met met rows (ToHash others is) this = other_letter 115 112 (ap third_letter (sym is ∙ this)) (omega arith)
repack_met met rows (ToRun others is) this = other_letter 110 112 (ap third_letter (sym is ∙ this)) (omega arith)
repack_met met rows (ToServe others is words) this = other_letter 114 112 (ap third_letter (sym is ∙ this)) (omega arith)
repack_met met rows (ToCheck others is some) this = other_letter 101 112 (ap third_letter (sym is ∙ this)) (omega arith)
repack_met met rows (ToUpgrade others is some) this = other_letter 103 112 (ap third_letter (sym is ∙ this)) (omega arith)
repack_met met rows (ToAdd others is words) this = other_letter 100 112 (ap third_letter (sym is ∙ this)) (omega arith)
repack_met met rows (ToLimit others is words) this = other_letter 116 112 (ap third_letter (sym is ∙ this)) (omega arith)
repack_met met rows (ToRemove others is words) this = other_letter 109 112 (ap third_letter (sym is ∙ this)) (omega arith)
repack_met met rows (ToRepack others is some) this = subst (λ (rs : List Row). is_some (first_of (codes "dir") rs) ≡ true) (ap rows_met (sym is ∙ this)) some
