-- Examples that the definitions give: what some requests send, and what a clone needs.
use Rattle.std.proofs.Common.{◌≡◌, ℕ, List, [], ◌∷◌, None, Some, ap, arith, codes, refl, sym, ◌∙◌}
use Rattle.std.specs.FinMap.{empty, get, get-empty}
use Rattle.git_name.specs.Name.{name_cmp}
use Rattle.git_name.specs.Object.{Object}
use Rattle.fork_reach.specs.Source.{Objects}
use Rattle.fork_request.specs.Asked.{ForksOffer, DropsParts, EndsParts, Prunes, Pushes, SendsPart}
use Rattle.fork_request.specs.declared.host_fault.HostFault.TheVariants.{Memory}
use Rattle.fork_request.specs.declared.reply.Reply.{Reply}
use Rattle.fork_request.specs.declared.reply.Reply.TheVariants.{Done, Failed}
use Rattle.fork_model.specs.Context.{Context}
use Rattle.fork_model.specs.Provenance.{AreParts, IsFrom, Seen, Pushed, Uploaded, Taken}
use Rattle.fork_model.specs.Transfer.{HasPrerequisites}
use Rattle.fork_model.specs.View.{View}
use Rattle.fork_model.specs.World.{Exchange}
use Rattle.fork_model.proofs.PrerequisiteLemmas.{prerequisites}

-- parts are in their order, and between them may be requests that are no end or that met a host fault
parts_are_in_order : AreParts ((SendsPart (codes "a"), Done []) ∷ (DropsParts, Failed Memory) ∷ (SendsPart (codes "b"), Done []) ∷ (EndsParts (codes "r"), Done []) ∷ []) (codes "a" ∷ codes "b" ∷ [])
parts_are_in_order = record {
  during = (SendsPart (codes "a"), Done []) ∷ (DropsParts, Failed Memory) ∷ (SendsPart (codes "b"), Done []) ∷ [];
  behind = [];
  repository = codes "r";
  parts = refl;
  no_end = (refl, (refl, (refl, tt)));
  whole = refl;
}

-- after a prune nothing is seen that was not seen before
a_prune_sends_nothing : (context : Context) (view : View) (reply : Reply) (name : List ℕ) (object : Object) → IsFrom context view (Prunes, reply) name object → get view.objects name ≡ Some object
a_prune_sends_nothing context view reply name object (Seen is) = is
a_prune_sends_nothing context view reply name object (Pushed repository body asked among) = (let same : Prunes ≡ Pushes repository body = ap (λ (x : Exchange). x.0) asked in absurd (cc))
a_prune_sends_nothing context view reply name object (Uploaded repository upload asked is among) = (let same : Prunes ≡ EndsParts repository = ap (λ (x : Exchange). x.0) asked in absurd (cc))
a_prune_sends_nothing context view reply name object (Taken giver repository copy asked offered) = (let same : Prunes ≡ ForksOffer giver repository copy = ap (λ (x : Exchange). x.0) asked in absurd (cc))

none_absent : (object : Object) → None ≡ Some object → ⊥
none_absent object is = cc

absent : (name : List ℕ) (object : Object) → get (empty {X = Object} {R = name_cmp}) name ≡ Some object → ⊥
absent name object is = none_absent object (sym (get-empty {X = Object} name_cmp name) ∙ is)

-- a tenant that excludes nothing needs nothing, as in a clone
a_clone_needs_nothing : (sender : Objects) → HasPrerequisites (empty {X = Object} {R = name_cmp}) sender []
a_clone_needs_nothing sender =
    prerequisites empty sender [] (λ name object is. absurd (absent name object is)) (λ name object other here is. absurd (absent name other is)) (λ name at there. absurd (omega arith))
