-- A list of ascending names is determined by its members.
use Rattle.std.proofs.Common.{◌≡◌, ℕ, Bool, true, false, List, Option, None, Some, refl, sym, ap, ◌∙◌, is_some}
use Rattle.std.proofs.lemmas.Map.Lookups.{btree_set_from_contains}
use Rattle.std.specs.FinMap.{FinMap, contains_key, contains_key-keys, get, keys}
use Rattle.git_name.specs.Name.{name_cmp}
use Rattle.git_name.specs.Object.{Object}
use Rattle.git_name.proofs.Names.{name_total, name_exact}
use Rattle.git_name.specs.Same.{is_one_of}
use Rattle.git_reftx.proofs.PushLemmas.{keys_ascend}
use Rattle.loose_store.specs.Files.{Files}
use Rattle.fork_reach.specs.Source.{Objects}
use Rattle.fork_sound.proofs.SoundLemmas.{good_there}
use Rattle.state_text.specs.States.{Ascend}
use Rattle.fork_host.specs.Restored.{AreOnStore, first_bad}
use Rattle.fork_host.proofs.RestoreLemmas.{not_bad, one_of}

same_names : (xs ys : List (List ℕ)) → Ascend xs → Ascend ys → ((name : List ℕ) → is_one_of xs name ≡ is_one_of ys name) → xs ≡ ys
same_names xs ys first second same = btree_set_from_contains name_total (record { keys = xs }) (record { keys = ys }) first second same name_exact

-- maps that have values at the same names have the same keys
pub same_keys : {X Y : Type 0} (m : FinMap name_cmp X) (n : FinMap name_cmp Y) → ((name : List ℕ) → contains_key m name ≡ contains_key n name) → keys m ≡ keys n
same_keys m n same = same_names (keys m) (keys n) (keys_ascend m) (keys_ascend n) (λ name. sym (contains_key-keys m name) ∙ same name ∙ contains_key-keys n name)

-- if no name is bad, the names are those of the objects on the store
pub keys_seen : (files : Files) (names : List (List ℕ)) (objects : Objects) → Ascend names → AreOnStore files names objects → first_bad names objects ≡ None → keys objects ≡ names
keys_seen files names objects ascend stored none =
    same_names (keys objects) names (keys_ascend objects) ascend (λ name. sym (contains_key-keys objects name) ∙ by name (is_one_of names name) refl (get objects name) refl)
  where
    by : (name : List ℕ) (b : Bool) → is_one_of names name ≡ b → (o : Option Object) → get objects name ≡ o → contains_key objects name ≡ is_one_of names name
    by name true is o found = good_there objects (is_one_of names) name (not_bad names objects name none is) ∙ sym is
    by name false is None found = ap is_some found ∙ sym is
    by name false is (Some object) found = absurd (cc (sym is ∙ one_of names name (stored.among name object found)))
