-- Queries, which leave what a tenant sees.
use Rattle.std.proofs.Common.{◌≡◌, ℕ, true, false, cond, IsTrue, inl, List, [], length, Option, Some, Result, Ok, Err, refl, sym, ap, subst, ◌∙◌}
use Rattle.std.specs.Prelude.{nat_lt}
use Rattle.git_reftx.specs.Repository.{Repository}
use Rattle.fork_reach.specs.declared.source.SourceFault.{SourceFault}
use Rattle.fork_reach.specs.Faults.{IsAsked}
use Rattle.fork_ledger.specs.Tenants.{private_of}
use Rattle.fork_query.specs.declared.query_error.QueryError.{QueryError}
use Rattle.fork_query.specs.declared.query_error.QueryError.TheVariants as query
use Rattle.fork_query.specs.Told.{Tells, query_fault as fault_of}
use Rattle.fork_request.specs.declared.refusal.Refusal.{Refusal}
use Rattle.fork_request.specs.declared.refusal.Refusal.TheVariants.{BadName, TooMany}
use Rattle.fork_request.specs.declared.reply.Reply.{Reply}
use Rattle.fork_request.specs.declared.reply.Reply.TheVariants.{Refused}
use Rattle.fork_request.specs.Names.{is_plain_name}
use Rattle.fork_model.specs.Answer.{few_items, named_repository, reply_of, told_over}
use Rattle.fork_model.specs.View.{View}
use Rattle.fork_host.specs.declared.own.Own.{Own}
use Rattle.fork_host.specs.Bounds.{IsBounded, ReadsStore}
use Rattle.fork_host.specs.Handle.{Rest, Uses, own_state, shown_by}
use Rattle.fork_host.specs.Rows.{plain, Yields, Yielded, Faulted, fault_told, query_told}
use Rattle.fork_host.specs.Safe.{IsSafe}
use Rattle.fork_host.specs.Shown.{Account, seen_by, shown}
use Rattle.fork_host.proofs.BoundLemmas.{bounded_gains, bounded_read, gains_read}
use Rattle.fork_host.proofs.SafeLemmas.{read_safe, read_uses}

-- asking the source is a use of the handle
pub asked_uses : {S : Type 0} (old new : Own S) (fault : Option SourceFault) → IsAsked (own_state old) (own_state new) fault → Uses [] old new
asked_uses old new fault asked =
    read_uses old new (ap (λ base. base.1) asked.base) (λ h. ap (λ rest. rest.0) (asked.rest h)) asked.honest (ap (λ base. base.2) asked.base) (record { vault = ap (λ base. base.0.0) asked.base; tenant = ap (λ base. base.0.1) asked.base })

-- and a reading of the vault
pub asked_read : {S : Type 0} (old new : Own S) (fault : Option SourceFault) → IsAsked (own_state old) (own_state new) fault → ReadsStore old.vault.now new.vault.now fault
asked_read old new fault asked = record { honest = asked.honest; counted = asked.counted; files = λ h. ap (λ rest. rest.1) (asked.rest h); places = ap (λ base. base.2) asked.base; undamaged = asked.undamaged }

bounded_told : {S B : Type 0} (view : B → List ℕ) (old new : Own S) (found : Result B QueryError) → ReadsStore old.vault.now new.vault.now (fault_of found) → IsBounded [] old.vault.now new.vault.now (query_told view found)
bounded_told view old new (Ok text) read = bounded_gains [] old.vault.now new.vault.now _ (gains_read [] old.vault.now new.vault.now read) (inl refl)
bounded_told view old new (Err (query.Refused refusal)) read = bounded_gains [] old.vault.now new.vault.now _ (gains_read [] old.vault.now new.vault.now read) (inl refl)
bounded_told view old new (Err (query.Failed fault)) read = bounded_read [] old.vault.now new.vault.now fault read

-- over any store
pub query_safe : {S B : Type 0} (view : B → List ℕ) (account : Account) (old new : Own S) (found : Result B QueryError) (reply : Reply) → IsAsked (own_state old) (own_state new) (fault_of found) → reply ≡ query_told view found
    → IsSafe (IsBounded [] old.vault.now new.vault.now) (shown_by account old) reply (shown account new.vault.now old.tenant.now)
query_safe view account old new found reply asked is =
    read_safe (IsBounded [] old.vault.now new.vault.now) account old new reply (ap (λ base. base.1) asked.base)
    (subst (IsBounded [] old.vault.now new.vault.now) (sym is) (bounded_told view old new found (asked_read old new (fault_of found) asked)))

-- over an honest one
stays : {S : Type 0} (account : Account) (old new : Own S) (fault : Option SourceFault) → IsTrue old.vault.now.honest → IsAsked (own_state old) (own_state new) fault → shown account new.vault.now old.tenant.now ≡ shown_by account old
stays account old new fault honest asked = ap (λ (rest : Rest). seen_by account (private_of rest.0 old.tenant.now)) (asked.rest honest)

pub query_gives : {S B : Type 0} (view : B → List ℕ) (account : Account) (old new : Own S) (model : Result (List ℕ) Refusal) (found : Result B QueryError) (reply : Reply) → IsTrue old.vault.now.honest → Tells view model found
    → IsAsked (own_state old) (own_state new) (fault_of found) → reply ≡ query_told view found
    → Yields (reply_of model, shown_by account old) (shown_by account old) reply (shown account new.vault.now old.tenant.now)
query_gives view account old new model (Ok text) reply honest tells asked is = Yielded (is ∙ sym (ap reply_of tells)) (ap plain (stays account old new _ honest asked))
query_gives view account old new model (Err (query.Refused refusal)) reply honest tells asked is = Yielded (is ∙ sym (ap reply_of tells)) (ap plain (stays account old new _ honest asked))
query_gives view account old new model (Err (query.Failed fault)) reply honest tells asked is = Faulted (fault_told fault) is (ap plain (stays account old new _ honest asked))

-- a row about an existing repository, and about few items
pub named_is : (view : View) (word : List ℕ) (row : Reply × View) → is_plain_name 64 word ≡ true → named_repository view word row ≡ row
named_is view word row is = ap (λ b. cond b row (Refused (BadName word), view)) is

pub over_is : (word : List ℕ) (query : Repository → Result (List ℕ) Refusal) (o : Option Repository) (repository : Repository) → o ≡ Some repository → told_over word query o ≡ reply_of (query repository)
over_is word query o repository is = ap (told_over word query) is

pub few_is : (items : List (List ℕ)) (reply : Reply) → nat_lt 64 (length items) ≡ false → few_items items reply ≡ reply
few_is items reply is = ap (λ b. cond b (Refused TooMany) reply) is
