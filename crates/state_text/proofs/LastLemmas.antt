-- What is known of the reference that was read last.
use Rattle.std.proofs.Common.{◌≡◌, ℕ, Bool, true, false, List, [], ◌∷◌, ◌++◌, inl, inr, refl, sym, ap, subst, ◌∙◌, map, arith}
use Rattle.std.specs.Prelude.{T, ◌&&◌}
use Rattle.std.specs.FinMap as finite
use Rattle.std.specs.FinMap.{entries, entries_sorted, from_sorted, is_sorted, keys, values}
use Rattle.std.specs.FinMap.Entries.{below_all}
use Rattle.std.specs.List.{AllByRecursion}
use Rattle.std.specs.Ordering.{is_lt}
use Rattle.git_name.specs.Name.{IsName, name_cmp}
use Rattle.git_refname.specs.Rule.{IsRefName}
use Rattle.git_reftx.specs.Fronts.{In}
use Rattle.git_reftx.specs.Repository as git
use Rattle.git_reftx.specs.Repository.{IsBranch}
use Rattle.git_reftx.specs.Sound.{AreSound}
use Rattle.git_reftx.specs.Transaction.{References}
use Rattle.git_reftx.proofs.PushLemmas.{apart, free_from, has_key, key_has, keys_behind, len_behind}
use Rattle.state_text.specs.States.{MayBeTold}
use Rattle.state_text.specs.Taking.{HasReferenceMore}
use Rattle.state_text.proofs.BehindLemmas.{each_front, each_last, map_behind}
use Rattle.state_text.proofs.StateLemmas.{targets_more}

front : (a b : Bool) → T (a && b) → T a
front true b is = tt
front false b is = is

rest : (a b : Bool) → T (a && b) → T b
rest true b is = is
rest false b is = absurd is

both : (a b : Bool) → T a → T b → T (a && b)
both true b p q = q
both false b p q = absurd p

below_less : {X : Type 0} (k : List ℕ) (es : List (List ℕ × X)) (e : List ℕ × X) → T (below_all name_cmp k (es ++ e ∷ [])) → T (below_all name_cmp k es)
below_less k [] e is = tt
below_less k (d ∷ es) e is = both (is_lt (name_cmp k d.0)) (below_all name_cmp k es) (front (is_lt (name_cmp k d.0)) (below_all name_cmp k (es ++ e ∷ [])) is) (below_less k es e (rest (is_lt (name_cmp k d.0)) (below_all name_cmp k (es ++ e ∷ [])) is))

sorted_less : {X : Type 0} (es : List (List ℕ × X)) (e : List ℕ × X) → T (is_sorted name_cmp (es ++ e ∷ [])) → T (is_sorted name_cmp es)
sorted_less [] e is = tt
sorted_less (d ∷ es) e is =
    both (below_all name_cmp d.0 es) (is_sorted name_cmp es) (below_less d.0 es e (front (below_all name_cmp d.0 (es ++ e ∷ [])) (is_sorted name_cmp (es ++ e ∷ [])) is))
    (sorted_less es e (rest (below_all name_cmp d.0 (es ++ e ∷ [])) (is_sorted name_cmp (es ++ e ∷ [])) is))

in_front : (names more : List (List ℕ)) (p : List ℕ) → In p names → In p (names ++ more)
in_front [] more p inside = absurd inside
in_front (x ∷ names) more p (inl is) = inl is
in_front (x ∷ names) more p (inr later) = inr (in_front names more p later)

in_back : (names : List (List ℕ)) (name : List ℕ) → In name (names ++ name ∷ [])
in_back [] name = inl refl
in_back (x ∷ names) name = inr (in_back names name)

-- references without the last one
pub fewer_entries : (references : References) (es : List (List ℕ × List ℕ)) (e : List ℕ × List ℕ) → entries references ≡ es ++ e ∷ [] → entries (from_sorted {R = name_cmp} es) ≡ es
fewer_entries references es e is = finite.entries-from_sorted name_cmp es (sorted_less es e (subst (λ l. T (is_sorted name_cmp l)) is (entries_sorted references)))

pub sound_less : (old new : References) (name target : List ℕ) → entries new ≡ entries old ++ (name, target) ∷ [] → AreSound new → AreSound old
sound_less old new name target is sound =
    let all = keys_behind old new name target is in
    let lift : (p : List ℕ) → In p (keys old) → In p (keys new) = λ p inside. subst (In p) (sym all) (in_front (keys old) (name ∷ []) p inside) in
    record {
      named = λ k has. sound.named k (key_has new k (lift k (has_key old k has)));
      free = free_from (keys old) (λ u l upper lower above. apart (keys new) sound.free u l (lift u upper) (lift l lower) above);
      few = (let more = len_behind old new name target is in let few = sound.few in omega (arith, more, few));
    }

-- what is known of the reference that came last
pub record IsLastReference (name target : List ℕ) : Type 0 where
  pub named : IsRefName name
  pub target_named : IsName target

pub last_reference : (old new : git.Repository) (name target : List ℕ) → HasReferenceMore old name target new → MayBeTold new → IsLastReference name target
last_reference old new name target more told =
    let all = keys_behind old.references new.references name target more.pushed in
    record {
      named = told.references.named name (key_has new.references name (subst (In name) (sym all) (in_back (keys old.references) name)));
      target_named = each_last IsName (values old.references) target (subst (AllByRecursion IsName) (ap (map (λ e. e.1)) more.pushed ∙ map_behind (λ e. e.1) (entries old.references) (name, target)) told.targets);
    }

-- a repository without the reference that came last
pub less_told : (old new : git.Repository) (name target : List ℕ) → HasReferenceMore old name target new → MayBeTold new → MayBeTold old
less_told old new name target more told = record {
  branch = subst IsBranch more.head told.branch;
  references = sound_less old.references new.references name target more.pushed told.references;
  targets = each_front IsName (values old.references) target (subst (AllByRecursion IsName) (ap (map (λ e. e.1)) more.pushed ∙ map_behind (λ e. e.1) (entries old.references) (name, target)) told.targets);
}

-- a repository with one more reference
pub more_told : (old new : git.Repository) (name target : List ℕ) → HasReferenceMore old name target new → AreSound new.references → IsName target → MayBeTold old → MayBeTold new
more_told old new name target more sound named told =
    record { branch = subst IsBranch (sym more.head) told.branch; references = sound; targets = targets_more old.references new.references name target more.pushed told.targets named }
