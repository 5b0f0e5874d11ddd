-- The bounds on host faults, from call to call.
use Rattle.std.proofs.Common.{◌≡◌, ◌≢◌, ◌⊎◌, inl, inr, ℕ, false, IsTrue, List, [], ◌∷◌, None, Some, Result, Ok, Err, arith, refl, sym, ap, subst, ◌∙◌}
use Rattle.std.specs.Prelude.{Contains, IfErr}
use Rattle.std.proofs.lemmas.List.Elements.{Contains-append_left, Contains-append_right}
use Rattle.git_name.specs.Object.{Object, object_name}
use Rattle.git_name.specs.Count.{fault_in}
use Rattle.loose_store.specs.Files.{Files}
use Rattle.loose_store.specs.Stored.{Whole}
use Rattle.fork_reach.specs.declared.source.SourceFault.{SourceFault}
use Rattle.fork_reach.specs.declared.source.SourceFault.TheVariants as source
use Rattle.fork_request.specs.Asked.{Ask}
use Rattle.fork_request.specs.Told.{is_host_fault}
use Rattle.fork_request.specs.declared.host_fault.HostFault.TheVariants.{Memory, Store, Damaged, Collision}
use Rattle.fork_request.specs.declared.reply.Reply.{Reply}
use Rattle.fork_request.specs.declared.reply.Reply.TheVariants.{Done, Unchanged, Refused, Failed}
use Rattle.fork_ledger.specs.AllStaged.{MeetsAmong, StoresAmong}
use Rattle.fork_ledger.specs.declared.fault.VaultFault.{VaultFault}
use Rattle.fork_ledger.specs.declared.fault.VaultFault.TheVariants as ledger
use Rattle.fork_ledger.specs.Store.{AsksStore, LeavesStore}
use Rattle.fork_ledger.specs.Tenants.{VaultState}
use Rattle.fork_model.specs.Answer.{answer}
use Rattle.fork_model.specs.Context.{Context}
use Rattle.fork_model.specs.View.{View}
use Rattle.fork_model.proofs.StepLemmas.{answer_tells}
use Rattle.fork_host.specs.Bounds.{CountsReply, Gains, IsBounded, IsCollision, ReadsStore}
use Rattle.fork_host.specs.Rows.{Gives, Given, Wanting, fault_told, vault_told}

same_files : {old new : Files} (sent : List Object) → new ≡ old → StoresAmong sent old new
same_files sent same = λ name object whole. inl (subst (λ files. Whole files name object) same whole)

more_files : {a b c : Files} (sent : List Object) → StoresAmong sent a b → StoresAmong sent b c → StoresAmong sent a c
more_files {a} {b} {c} sent first then = λ name object whole. by name object (then name object whole)
  where
    by : (name : List ℕ) (object : Object) → Whole b name object ⊎ Contains sent object → Whole a name object ⊎ Contains sent object
    by name object (inl stood) = first name object stood
    by name object (inr came) = inr came

-- what calls that succeed gain
pub gains_none : (sent : List Object) (vault : VaultState) → Gains sent vault vault
gains_none sent vault = record { honest = refl; failures = refl; stored = λ _. same_files sent refl }

pub gains_left : (sent : List Object) (a b : VaultState) → LeavesStore a b → Gains sent a b
gains_left sent a b left = record { honest = left.honest; failures = left.failures; stored = λ _. same_files sent left.files }

pub gains_read : (sent : List Object) (a b : VaultState) → ReadsStore a b None → Gains sent a b
gains_read sent a b read = record { honest = read.honest; failures = read.counted; stored = λ h. same_files sent (read.files h) }

pub gains_then : (sent : List Object) (a b c : VaultState) → Gains sent a b → Gains sent b c → Gains sent a c
gains_then sent a b c first then = record {
  honest = then.honest ∙ first.honest;
  failures = then.failures ∙ first.failures;
  stored = λ h. more_files sent (first.stored h) (then.stored (first.honest ∙ h));
}

pub gains_done : (sent : List Object) (a b : VaultState) (text : List ℕ) → IsBounded sent a b (Done text) → Gains sent a b
gains_done sent a b text bounded = record { honest = bounded.honest; failures = bounded.counted; stored = λ h. bounded.stored h (λ is. cc) (λ is. cc) }

-- a list that has all of the objects gains what they gain
more_sent : {old new : Files} (sent more : List Object) → ((object : Object) → Contains sent object → Contains more object) → StoresAmong sent old new → StoresAmong more old new
more_sent {old} {new} sent more among stored = λ name object whole. by name object (stored name object whole)
  where
    by : (name : List ℕ) (object : Object) → Whole old name object ⊎ Contains sent object → Whole old name object ⊎ Contains more object
    by name object (inl stood) = inl stood
    by name object (inr came) = inr (among object came)

pub gains_more : (sent more : List Object) (a b : VaultState) → ((object : Object) → Contains sent object → Contains more object) → Gains sent a b → Gains more a b
gains_more sent more a b among gains = record { honest = gains.honest; failures = gains.failures; stored = λ h. more_sent sent more among (gains.stored h) }

-- the reply is no host fault, or reports lack of memory
abbrev pub IsQuiet : Reply → Type 0
IsQuiet reply = (is_host_fault reply ≡ false) ⊎ (reply ≡ Failed Memory)

pub bounded_gains : (sent : List Object) (a b : VaultState) (reply : Reply) → Gains sent a b → IsQuiet reply → IsBounded sent a b reply
bounded_gains sent a b (Done text) gains quiet = record { honest = gains.honest; counted = gains.failures; undamaged = λ h is. cc; collided = λ h is. absurd (cc); stored = λ h _ _. gains.stored h }
bounded_gains sent a b Unchanged gains quiet = record { honest = gains.honest; counted = gains.failures; undamaged = λ h is. cc; collided = λ h is. absurd (cc); stored = λ h _ _. gains.stored h }
bounded_gains sent a b (Refused refusal) gains quiet = record { honest = gains.honest; counted = gains.failures; undamaged = λ h is. cc; collided = λ h is. absurd (cc); stored = λ h _ _. gains.stored h }
bounded_gains sent a b (Failed Memory) gains quiet = record { honest = gains.honest; counted = gains.failures; undamaged = λ h is. cc; collided = λ h is. absurd (cc); stored = λ h _ _. gains.stored h }
bounded_gains sent a b (Failed Store) gains (inl is) = absurd (cc)
bounded_gains sent a b (Failed Store) gains (inr is) = absurd (cc)
bounded_gains sent a b (Failed Damaged) gains (inl is) = absurd (cc)
bounded_gains sent a b (Failed Damaged) gains (inr is) = absurd (cc)
bounded_gains sent a b (Failed Collision) gains (inl is) = absurd (cc)
bounded_gains sent a b (Failed Collision) gains (inr is) = absurd (cc)

pub bounded_still : (sent : List Object) (vault : VaultState) (reply : Reply) → IsQuiet reply → IsBounded sent vault vault reply
bounded_still sent vault reply quiet = bounded_gains sent vault vault reply (gains_none sent vault) quiet

-- a row that does not ask the store
pub quiet_row : (context : Context) (view new : View) (ask : Ask) (reply : Reply) → Gives (answer context view ask) view reply new → IsQuiet reply
quiet_row context view new ask reply (Given told is) = inl (ap is_host_fault told ∙ answer_tells context view ask)
quiet_row context view new ask reply (Wanting wanting stays) = inr wanting

-- a bounded call, after calls that gained objects
pub bounded_after : (sent : List Object) (a b c : VaultState) (reply : Reply) → Gains sent a b → IsBounded sent b c reply → IsBounded sent a c reply
bounded_after sent a b c reply gains bounded = record {
  honest = bounded.honest ∙ gains.honest;
  counted = subst (λ n. CountsReply n c.failures reply) gains.failures bounded.counted;
  undamaged = λ h. bounded.undamaged (gains.honest ∙ h);
  collided = λ h is. met h (bounded.collided (gains.honest ∙ h) is);
  stored = λ h no_store no_memory. more_files sent (gains.stored h) (bounded.stored (gains.honest ∙ h) no_store no_memory);
}
  where
    stood : IsTrue a.honest → (name : List ℕ) (other : Object) → Contains sent other ⊎ Whole b.files name other → Contains sent other ⊎ Whole a.files name other
    stood h name other (inl came) = inl came
    stood h name other (inr whole) = turn (gains.stored h name other whole)
      where
        turn : Whole a.files name other ⊎ Contains sent other → Contains sent other ⊎ Whole a.files name other
        turn (inl before) = inr before
        turn (inr came) = inl came

    met : IsTrue a.honest → IsCollision sent b.files → IsCollision sent a.files
    met h collision = record {
      object = collision.object;
      other = collision.other;
      comes = collision.comes;
      met = stood h (object_name collision.object) collision.other collision.met;
      named = collision.named;
      differ = collision.differ;
    }

-- a bounded call, before one that leaves the store
pub bounded_left : (sent : List Object) (a b c : VaultState) (reply : Reply) → IsBounded sent a b reply → LeavesStore b c → IsBounded sent a c reply
bounded_left sent a b c reply bounded left = record {
  honest = left.honest ∙ bounded.honest;
  counted = subst (λ n. CountsReply a.failures n reply) (sym left.failures) bounded.counted;
  undamaged = bounded.undamaged;
  collided = bounded.collided;
  stored = λ h no_store no_memory. more_files sent (bounded.stored h no_store no_memory) (same_files sent left.files);
}

-- a read that failed
pub bounded_read : (sent : List Object) (a b : VaultState) (fault : SourceFault) → ReadsStore a b (Some fault) → IsBounded sent a b (Failed (fault_told fault))
bounded_read sent a b source.Store read = record { honest = read.honest; counted = read.counted; undamaged = λ h is. cc; collided = λ h is. absurd (cc); stored = λ h no_store _. absurd (no_store refl) }
bounded_read sent a b source.Damaged read = record { honest = read.honest; counted = read.counted; undamaged = λ h is. read.undamaged h refl; collided = λ h is. absurd (cc); stored = λ h _ _. same_files sent (read.files h) }
bounded_read sent a b source.Memory read = record { honest = read.honest; counted = read.counted; undamaged = λ h is. cc; collided = λ h is. absurd (cc); stored = λ h _ _. same_files sent (read.files h) }

-- one object was asked for, and was found or not
pub bounded_found : (a b : VaultState) → AsksStore a b None → (IsTrue a.honest → b.files ≡ a.files) → IsBounded [] a b (Done [])
bounded_found a b asked same = record { honest = asked.honest; counted = asked.counted; undamaged = λ h is. cc; collided = λ h is. absurd (cc); stored = λ h _ _. same_files [] (same h) }

pub bounded_asked : (a b : VaultState) (fault : VaultFault) → AsksStore a b (Some fault) → (IsTrue a.honest → b.files ≡ a.files) → fault ≢ ledger.Collision → IsBounded [] a b (Failed (vault_told fault))
bounded_asked a b ledger.Store asked same apart = record { honest = asked.honest; counted = asked.counted; undamaged = λ h is. cc; collided = λ h is. absurd (cc); stored = λ h no_store _. absurd (no_store refl) }
bounded_asked a b ledger.Memory asked same apart = record { honest = asked.honest; counted = asked.counted; undamaged = λ h is. cc; collided = λ h is. absurd (cc); stored = λ h _ _. same_files [] (same h) }
bounded_asked a b ledger.Damaged asked same apart = record { honest = asked.honest; counted = asked.counted; undamaged = λ h is. asked.undamaged h refl; collided = λ h is. absurd (cc); stored = λ h _ _. same_files [] (same h) }
bounded_asked a b ledger.Collision asked same apart = absurd (apart refl)

-- objects could not be staged
bounded_all : (sent : List Object) (a b : VaultState) (fault : VaultFault) → AsksStore a b (Some fault) → (IsTrue a.honest → fault ≡ ledger.Collision → MeetsAmong sent a.files)
    → (IsTrue a.honest → fault ≡ ledger.Collision → StoresAmong sent a.files b.files) → IsBounded sent a b (Failed (vault_told fault))
bounded_all sent a b ledger.Store asked meets still = record { honest = asked.honest; counted = asked.counted; undamaged = λ h is. cc; collided = λ h is. absurd (cc); stored = λ h no_store _. absurd (no_store refl) }
bounded_all sent a b ledger.Memory asked meets still = record { honest = asked.honest; counted = asked.counted; undamaged = λ h is. cc; collided = λ h is. absurd (cc); stored = λ h _ no_memory. absurd (no_memory refl) }
bounded_all sent a b ledger.Damaged asked meets still = record { honest = asked.honest; counted = asked.counted; undamaged = λ h is. asked.undamaged h refl; collided = λ h is. absurd (cc); stored = λ h _ _. absurd (asked.undamaged h refl) }
bounded_all sent a b ledger.Collision asked meets still = record {
  honest = asked.honest;
  counted = asked.counted;
  undamaged = λ h is. cc;
  collided = λ h is. collides (meets h refl);
  stored = λ h _ _. still h refl;
}
  where
    met_in : (met : MeetsAmong sent a.files) → Whole a.files (object_name met.object) met.other ⊎ Contains met.front met.other → Contains sent met.other ⊎ Whole a.files (object_name met.object) met.other
    met_in met (inl stood) = inr stood
    met_in met (inr came) = inl (subst (λ xs. Contains xs met.other) (sym met.order) (Contains-append_left met.front (met.object ∷ met.back) met.other came))

    collides : MeetsAmong sent a.files → IsCollision sent a.files
    collides met = record {
      object = met.object;
      other = met.other;
      comes = subst (λ xs. Contains xs met.object) (sym met.order) (Contains-append_right met.front (met.object ∷ met.back) met.object (0, omega arith, refl));
      met = met_in met met.met;
      named = met.named;
      differ = met.differ;
    }

-- stated for a call's result
pub bounded_result : {A : Type 0} (r : Result A VaultFault) (sent : List Object) (a b : VaultState) → AsksStore a b (fault_in r) → (IsTrue a.honest → IfErr r (λ fault. fault ≡ ledger.Collision → MeetsAmong sent a.files))
    → (IsTrue a.honest → IfErr r (λ fault. fault ≡ ledger.Collision → StoresAmong sent a.files b.files)) → IfErr r (λ fault. IsBounded sent a b (Failed (vault_told fault)))
bounded_result (Ok done) sent a b asked meets still = tt
bounded_result (Err fault) sent a b asked meets still = bounded_all sent a b fault asked meets still

-- a step within bounds for some objects is within bounds for any list that has them
pub bounded_more : (sent more : List Object) (a b : VaultState) (reply : Reply) → ((object : Object) → Contains sent object → Contains more object) → IsBounded sent a b reply → IsBounded more a b reply
bounded_more sent more a b reply among bounded = record {
  honest = bounded.honest;
  counted = bounded.counted;
  undamaged = bounded.undamaged;
  collided = λ h is. collides (bounded.collided h is);
  stored = λ h no_store no_memory. more_sent sent more among (bounded.stored h no_store no_memory);
}
  where
    met_in : (name : List ℕ) (other : Object) → Contains sent other ⊎ Whole a.files name other → Contains more other ⊎ Whole a.files name other
    met_in name other (inl came) = inl (among other came)
    met_in name other (inr stood) = inr stood

    collides : IsCollision sent a.files → IsCollision more a.files
    collides collision = record {
      object = collision.object;
      other = collision.other;
      comes = among collision.object collision.comes;
      met = met_in (object_name collision.object) collision.other collision.met;
      named = collision.named;
      differ = collision.differ;
    }
