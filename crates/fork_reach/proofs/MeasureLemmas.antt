-- What of objects no store can change: who is there, and of what kind.
use Rattle.std.proofs.Common.{◌≡◌, ℕ, ◌+◌, List, [], ◌∷◌, Option, None, Some, refl, sym, ap, ◌∙◌, is_some}
use Rattle.std.specs.Prelude.{map, sum_by}
use Rattle.std.specs.FinMap.{contains_key, entries, get}
use Rattle.std.proofs.lemmas.List.Sums.{sum_by-cons}
use Rattle.std.specs.Option.{option_map}
use Rattle.git_name.specs.declared.kind.Kind.{Kind}
use Rattle.git_name.specs.Object.{Object}
use Rattle.git_name.specs.Maps.{mapped}
use Rattle.git_name.proofs.MapLemmas.{entries_map_values, get_map_values}
use Rattle.git_name.proofs.Names.{name_total}
use Rattle.fork_reach.specs.declared.usage.TheConstants.{OBJECT_USE}
use Rattle.fork_reach.specs.Objects.{Measures, measure_of, measures_of, use_of, use_of_object}
use Rattle.fork_reach.specs.Source.{Objects, kind_in}

some_measured : (found : Option Object) → is_some (option_map measure_of found) ≡ is_some found
some_measured None = refl
some_measured (Some object) = refl

-- an object is there where its measure is
pub measured_there : (objects : Objects) (name : List ℕ) → contains_key (measures_of objects) name ≡ contains_key objects name
measured_there objects name = ap is_some (get_map_values name_total measure_of objects name) ∙ some_measured (get objects name)

-- the same objects are there where the measures are the same
pub same_there : (objects others : Objects) (name : List ℕ) → measures_of objects ≡ measures_of others → contains_key objects name ≡ contains_key others name
same_there objects others name same = sym (measured_there objects name) ∙ ap (λ m. contains_key m name) same ∙ measured_there others name

-- the kind of the measure of a name
abbrev kind_at : Measures → List ℕ → Option Kind
kind_at measures name = option_map (λ measure. measure.0) (get measures name)

kind_measured : (found : Option Object) → option_map (λ measure. measure.0) (option_map measure_of found) ≡ option_map (λ object. object.kind) found
kind_measured None = refl
kind_measured (Some object) = refl

measured_kind : (objects : Objects) (name : List ℕ) → kind_at (measures_of objects) name ≡ kind_in objects name
measured_kind objects name = ap (option_map (λ measure. measure.0)) (get_map_values name_total measure_of objects name) ∙ kind_measured (get objects name)

-- the kinds are the same where the measures are
pub same_kinds : (objects others : Objects) (name : List ℕ) → measures_of objects ≡ measures_of others → kind_in objects name ≡ kind_in others name
same_kinds objects others name same = sym (measured_kind objects name) ∙ ap (λ m. kind_at m name) same ∙ measured_kind others name

-- what a measured object uses
abbrev use_at : List ℕ × (Kind × ℕ) → ℕ
use_at entry = entry.1.1 + OBJECT_USE

use_measured : (es : List (List ℕ × Object)) → sum_by use_of_object (map (λ e. e.1) es) ≡ sum_by use_at (mapped measure_of es)
use_measured [] = refl
use_measured (e ∷ es) = sum_by-cons use_of_object e.1 (map (λ f. f.1) es) ∙ ap (λ n. use_of_object e.1 + n) (use_measured es) ∙ sym (sum_by-cons use_at (e.0, measure_of e.1) (mapped measure_of es))

-- what objects use is the same where their measures are
pub same_use : (objects others : Objects) → measures_of objects ≡ measures_of others → use_of objects ≡ use_of others
unfolding use_of
same_use objects others same =
    use_measured (entries objects) ∙ ap (sum_by use_at) (sym (entries_map_values measure_of objects) ∙ ap entries same ∙ entries_map_values measure_of others) ∙ sym (use_measured (entries others))
