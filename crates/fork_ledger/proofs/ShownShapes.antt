-- Names, kinds and lengths are the ledgers', whatever the files are.
use Rattle.std.proofs.Common.{◌≡◌, ℕ, List, Bool, true, false, Option, Some, None, cond, length, refl, sym, ap, ◌∙◌}
use Rattle.std.specs.Prelude.{if◌then◌else◌}
use Rattle.std.specs.Option.{option_map}
use Rattle.std.specs.FinMap.{contains_key, get, insert, same_map}
use Rattle.git_name.specs.Object.{Object, object_name}
use Rattle.git_name.proofs.MapLemmas.{get_map_values, map_values_insert}
use Rattle.git_name.proofs.Names.{name_total, name_exact}
use Rattle.fork_reach.specs.Objects.{Measures, measure_of, measures_of}
use Rattle.object_table.specs.Ledgers.{AllWords, at_ledger}
use Rattle.object_table.specs.Words.{Words, is_staged, is_visible, staged_over, staged_words}
use Rattle.object_table.specs.declared.word.Word.{Word}
use Rattle.loose_store.specs.Files.{Files}
use Rattle.fork_ledger.specs.Private.{Private, private_measures, with_staged}
use Rattle.fork_ledger.specs.Shown.{object_at, own_of, part, tenants_of}
use Rattle.fork_ledger.specs.Tenants.{Tenants, at_tenant, private_of, shape_of}
use Rattle.fork_ledger.proofs.OwnLemmas.{staged_own, staged_with}
use Rattle.fork_ledger.proofs.ShapeLemmas.{measure_standing_in, measures_under}
use Rattle.fork_ledger.proofs.ShownLemmas.{changed_shown, get_part, get_tenant, kind_at, length_at, shown_at}

measure_at : (a b : Files) (name : List ℕ) (word : Word) → measure_of (object_at b name word) ≡ measure_of (object_at a name word)
measure_at a b name word = λ i. ((kind_at b name word ∙ sym (kind_at a name word)) i, (length_at b name word ∙ sym (length_at a name word)) i)

part_measured : (p : Word → Bool) (a b : Files) (words : Words) → measures_of (part p b words) ≡ measures_of (part p a words)
part_measured p a b words = same_map name_total name_exact _ _ (λ q.
    get_map_values name_total measure_of (part p b words) q ∙ ap (option_map measure_of) (get_part p b words q) ∙ by q (get words q)
    ∙ ap (option_map measure_of) (sym (get_part p a words q)) ∙ sym (get_map_values name_total measure_of (part p a words) q))
  where
    by : (q : List ℕ) (o : Option Word) → option_map measure_of (shown_at p b q o) ≡ option_map measure_of (shown_at p a q o)
    by q None = refl
    by q (Some word) = at (p word)
      where
        at : (c : Bool) → option_map measure_of (if c then Some (object_at b q word) else None) ≡ option_map measure_of (if c then Some (object_at a q word) else None)
        at true = ap Some (measure_at a b q word)
        at false = refl

own_measured : (a b : Files) (words : Words) → private_measures (own_of b words) ≡ private_measures (own_of a words)
own_measured a b words = λ i. (part_measured is_visible a b words i, part_measured is_staged a b words i)

-- the shape of what ledgers show is the same over any files
pub shape_any : (a b : Files) (m : AllWords) → shape_of (tenants_of b m) ≡ shape_of (tenants_of a m)
shape_any a b m = same_map name_total name_exact _ _ (λ t.
    get_map_values name_total private_measures (tenants_of b m) t ∙ ap (option_map private_measures) (get_tenant b m t) ∙ by (get m t)
    ∙ ap (option_map private_measures) (sym (get_tenant a m t)) ∙ sym (get_map_values name_total private_measures (tenants_of a m) t))
  where
    by : (o : Option Words) → option_map private_measures (option_map (own_of b) o) ≡ option_map private_measures (option_map (own_of a) o)
    by None = refl
    by (Some words) = ap Some (own_measured a b words)

-- changes that are of the same measures
pub shape_alike : (m : Tenants) (t : List ℕ) (f g : Private → Private) → ((own : Private) → private_measures (f own) ≡ private_measures (g own)) → shape_of (at_tenant m t f) ≡ shape_of (at_tenant m t g)
shape_alike m t f g same = by (contains_key m t)
  where
    by : (b : Bool) → shape_of (cond b (insert m t (f (private_of m t))) m) ≡ shape_of (cond b (insert m t (g (private_of m t))) m)
    by true =
        map_values_insert name_total name_exact private_measures m t (f (private_of m t)) ∙ ap (insert (shape_of m) t) (same (private_of m t))
        ∙ sym (map_values_insert name_total name_exact private_measures m t (g (private_of m t)))
    by false = refl

pub staged_alike : (object other : Object) (own : Private) → measure_of other ≡ measure_of object → private_measures (staged_with (object_name object) other own) ≡ private_measures (with_staged object own)
staged_alike object other own same = ap (λ (m : Measures). (measures_of own.visible, m))
    (measures_under own.staged own.staged (object_name object) _ _ refl (measure_standing_in (get own.visible (object_name object)) other object same))

-- a name is staged over any files: the shape is that of the object's staging
pub staged_shape : (old new : Files) (m : AllWords) (t : List ℕ) (object : Object)
    → shape_of (tenants_of new (at_ledger m t (staged_words (object_name object) object.kind (length object.bytes)))) ≡ shape_of (at_tenant (tenants_of old m) t (with_staged object))
staged_shape old new m t object =
    shape_any old new (at_ledger m t (staged_words (object_name object) object.kind (length object.bytes)))
    ∙ ap shape_of (changed_shown old m t (staged_words (object_name object) object.kind (length object.bytes)) (staged_with (object_name object) other)
    (λ words. staged_own old words (object_name object) object.kind (length object.bytes)))
    ∙ shape_alike (tenants_of old m) t (staged_with (object_name object) other) (with_staged object) (λ own. staged_alike object other own measured)
  where
    other : Object
    other = object_at old (object_name object) (staged_over object.kind (length object.bytes) None)

    measured : measure_of (object_at old (object_name object) (staged_over object.kind (length object.bytes) None)) ≡ measure_of object
    measured = λ i. (kind_at old (object_name object) (staged_over object.kind (length object.bytes) None) i, length_at old (object_name object) (staged_over object.kind (length object.bytes) None) i)
