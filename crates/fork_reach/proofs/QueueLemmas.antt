-- Names that are queued one by one, and list by list.
use Rattle.std.proofs.Common.{◌≡◌, ℕ, zero, suc, ◌+◌, Bool, true, false, List, [], ◌∷◌, ◌++◌, None, Some, slice_get, drop, take, refl, sym, ap, subst, ◌∙◌, arith, inl, inr, ◌⊎◌, length, length-append, append_assoc, append-nil, if◌then◌else◌}
use Rattle.std.specs.FinMap.{FinMap, contains_key}
use Rattle.std.proofs.lemmas.List.{drop-append-le, take-append-le, take_more}
use Rattle.std.proofs.lemmas.Option.{get_or_from_slice_get, slice_get_within}
use Rattle.std.proofs.lemmas.List.Elements.{Contains-append_left, Contains-append_right, Contains-append_cases}
use Rattle.git_name.specs.Name.{name_cmp}
use Rattle.git_name.specs.Same.{is_listed, same_name}
use Rattle.indexmap.specs.IndexSet.{insert_key}
use Rattle.fork_reach.specs.Queuing.{Queues}
use Rattle.fork_reach.specs.Seeing.{Sees}
use Rattle.fork_reach.proofs.SeeingLemmas.{Inserts, none_there, sees_absent, sees_both, sees_known, sees_new, sees_none}

abbrev Names : Type 0
Names = List (List ℕ)

-- what came behind nothing comes behind others too
pub sees_behind : {X : Type 0} (objects : FinMap name_cmp X) (ends : List ℕ → Bool) (names : Names) (seen now_seen : List ℕ → Bool) (waits came : Names) → Sees objects ends names seen [] now_seen came → Sees objects ends names seen waits now_seen (waits ++ came)
sees_behind objects ends names seen now_seen waits came sees = record {
  kept = sees.kept;
  stays = λ name is. Contains-append_left waits came name is;
  all = sees.all;
  only = sees.only;
  new = λ name is. elim (sees.new name is) [
    | inl before ↦ inl before
    | inr (inl waiting) ↦ inr (inl (Contains-append_right waits came name waiting))
    | inr (inr ended) ↦ inr (inr ended)
  ];
  noted = λ name is. elim (Contains-append_cases waits came name is) [
    | inl before ↦ inl before
    | inr new ↦ elim (sees.noted name new) [
      | inl among ↦ absurd (none_there name among)
      | inr seen_now ↦ inr seen_now
    ]
  ];
  less = (let fewer = sees.less in let longer : length (waits ++ came) ≡ length waits + length came = length-append waits came in omega arith);
}

-- a name that stands there already stays where it is
pub joins_old : (queue : Names) (first : List ℕ) (now : Names) → now ≡ insert_key same_name queue first → is_listed queue first ≡ true → now ≡ queue
joins_old queue first now inserted known = inserted ∙ ap (λ b. if b then queue else queue ++ first ∷ []) known

-- and one that does not goes last
pub joins_new : (queue : Names) (first : List ℕ) (now : Names) → now ≡ insert_key same_name queue first → is_listed queue first ≡ false → now ≡ queue ++ first ∷ []
joins_new queue first now inserted new = inserted ∙ ap (λ b. if b then queue else queue ++ first ∷ []) new

-- no names
pub queues_none : {X : Type 0} (objects : FinMap name_cmp X) (queue : Names) → Queues objects [] queue queue
queues_none objects queue = record {
  came = [];
  behind = sym (append-nil queue);
  sees = sees_none objects (λ _. false) (is_listed queue) [];
}

-- some names, and then others
pub queues_both : {X : Type 0} (objects : FinMap name_cmp X) (xs ys queue mid now : Names) → Queues objects xs queue mid → Queues objects ys mid now → Queues objects (xs ++ ys) queue now
queues_both objects xs ys queue mid now first second = record {
  came = first.came ++ second.came;
  behind = second.behind ∙ ap (λ q. q ++ second.came) first.behind ∙ append_assoc queue first.came second.came;
  sees = sees_both objects (λ _. false) xs ys (is_listed queue) [] (is_listed mid) first.came (is_listed now) (first.came ++ second.came) first.sees
      (sees_behind objects (λ _. false) ys (is_listed mid) (is_listed now) first.came second.came second.sees);
}

-- a name that stands there already, or whose object is not there
pub queues_same : {X : Type 0} (objects : FinMap name_cmp X) (first : List ℕ) (queue now : Names) → now ≡ queue → (is_listed queue first ≡ true) ⊎ (contains_key objects first ≡ false) → Queues objects (first ∷ []) queue now
queues_same objects first queue now same why = subst (λ q. Queues objects (first ∷ []) queue q) (sym same) (record {
  came = [];
  behind = sym (append-nil queue);
  sees = by why;
})
  where
    by : (is_listed queue first ≡ true) ⊎ (contains_key objects first ≡ false) → Sees objects (λ _. false) (first ∷ []) (is_listed queue) [] (is_listed queue) []
    by (inl known) = sees_known objects (λ _. false) first (is_listed queue) [] known
    by (inr absent) = sees_absent objects (λ _. false) first (is_listed queue) [] absent

-- a name that is new, and whose object is there
pub queues_new : {X : Type 0} (objects : FinMap name_cmp X) (first : List ℕ) (queue now : Names) → now ≡ queue ++ first ∷ [] → is_listed queue first ≡ false → Inserts first (is_listed queue) (is_listed now) → is_listed now first ≡ true → contains_key objects first ≡ true → Queues objects (first ∷ []) queue now
queues_new objects first queue now pushed new inserts stands there = record {
  came = first ∷ [];
  behind = pushed;
  sees = sees_new objects (λ _. false) first (is_listed queue) [] (is_listed now) (first ∷ []) new inserts stands there refl;
}

-- what stands at a place of the queue, and behind it
pub read_at : (queue : Names) (at : ℕ) (name : List ℕ) → slice_get queue at ≡ Some name → drop at queue ≡ name ∷ drop (at + 1) queue
read_at [] at name is = absurd (cc)
read_at (first ∷ queue) zero name is = cc
read_at (first ∷ queue) (suc at) name is = (let next : suc at + 1 ≡ suc (at + 1) = omega arith in read_at queue at name is ∙ ap (λ k. name ∷ drop k (first ∷ queue)) (sym next))

-- one name more from the front of a queue that grows at its end
pub front_more : (queue came : Names) (at : ℕ) (name : List ℕ) → slice_get queue at ≡ Some name → take (at + 1) (queue ++ came) ≡ take at queue ++ name ∷ []
front_more queue came at name found =
    let inside = slice_get_within queue at name found in
    take-append-le (at + 1) queue came (omega arith) ∙ take_more queue at name (omega arith) ∙ ap (λ n. take at queue ++ n ∷ []) (get_or_from_slice_get queue at name name found)

pub rest_more : (queue came : Names) (at : ℕ) (name : List ℕ) → slice_get queue at ≡ Some name → drop (at + 1) (queue ++ came) ≡ drop (at + 1) queue ++ came
rest_more queue came at name found =
    let inside = slice_get_within queue at name found in
    drop-append-le (at + 1) queue came (omega arith)

-- past the last place nothing is left
pub none_left : (queue : Names) (at : ℕ) → slice_get queue at ≡ None → (drop at queue ≡ []) × (take at queue ≡ queue)
none_left [] zero is = (refl, refl)
none_left [] (suc at) is = (refl, refl)
none_left (first ∷ queue) zero is = absurd (cc)
none_left (first ∷ queue) (suc at) is = (let rest = none_left queue at is in (rest.0, ap (λ ns. first ∷ ns) rest.1))
