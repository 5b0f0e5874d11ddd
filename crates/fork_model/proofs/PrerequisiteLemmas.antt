-- A receiver that has the excluded names, and whose objects link to existing objects, has all that these names reach.
use Rattle.std.proofs.Common.{◌≡◌, ℕ, true, List, [], Option, None, Some, refl, subst, arith, map}
use Rattle.std.specs.Prelude.{Contains}
use Rattle.std.specs.FinMap.{contains_key, get}
use Rattle.git_name.specs.Object.{Object}
use Rattle.git_object.specs.declared.link.Link.{Link}
use Rattle.git_object.specs.ObjectIn.{links_in}
use Rattle.fork_reach.specs.Reach.{IsReached, Root, Next, linked_names, links_of_found}
use Rattle.fork_reach.specs.Source.{Objects}
use Rattle.fork_reach.proofs.ReachLemmas.{reached_led_to}
use Rattle.fork_model.specs.Sound.{IsClosed}
use Rattle.fork_model.specs.Transfer.{HasPrerequisites, HoldTheSame}
use Rattle.fork_model.proofs.KeptLemmas.{there_by_link}
use Rattle.fork_model.proofs.TransferLemmas.{none_there}

none_linked : (name : List ℕ) → Contains (map (λ (link : Link). link.name) []) name → ⊥
none_linked name at = omega arith

-- the receiver has what the excluded names reach, step by step
led_there : (receiver sender : Objects) (excluded : List (List ℕ)) → IsClosed receiver
    → HoldTheSame sender receiver
    → ((name : List ℕ) → Contains excluded name → contains_key sender name ≡ true → contains_key receiver name ≡ true)
    → (name : List ℕ) → IsReached (linked_names sender) sender excluded name → contains_key receiver name ≡ true
led_there receiver sender excluded closed same holds _ (Root name root there) = holds name root there
led_there receiver sender excluded closed same holds _ (Next before name reached linked there) =
    by (get sender before) (get receiver before) refl refl (led_there receiver sender excluded closed same holds before reached)
  where
    by : (o p : Option Object) → get sender before ≡ o → get receiver before ≡ p → contains_key receiver before ≡ true → contains_key receiver name ≡ true
    by None p here found held = absurd (none_linked name (subst (λ o. Contains (map (λ link. link.name) (links_of_found o)) name) here linked))
    by (Some object) None here found held = absurd (none_there (get receiver before) found held)
    by (Some object) (Some other) here found held =
        there_by_link receiver (links_in other.kind other.bytes) name (closed before other found)
        (subst (λ (o : Object). Contains (map (λ link. link.name) (links_in o.kind o.bytes)) name) (same before object other here found)
        (subst (λ o. Contains (map (λ link. link.name) (links_of_found o)) name) here linked))

-- so it has the prerequisites
pub prerequisites : (receiver sender : Objects) (excluded : List (List ℕ)) → IsClosed receiver
    → HoldTheSame sender receiver
    → ((name : List ℕ) → Contains excluded name → contains_key sender name ≡ true → contains_key receiver name ≡ true)
    → HasPrerequisites receiver sender excluded
prerequisites receiver sender excluded closed same holds = record {
  reached = λ name is. led_there receiver sender excluded closed same holds name (reached_led_to (linked_names sender) sender excluded name is);
  same = same;
}
