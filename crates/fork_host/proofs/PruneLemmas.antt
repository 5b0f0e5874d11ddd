-- What the reply to a prune tells: whether all that was seen is kept.
use Rattle.std.proofs.Common.{◌≡◌, ℕ, ◌<◌, ◌≤◌, ◌^◌, Bool, true, false, cond, nat_eq, [], refl, ap, ◌∙◌, arith}
use Rattle.std.proofs.Math.Nat.{min-eq_left}
use Rattle.fork_request.specs.Told.{is_done, is_host_fault}
use Rattle.fork_request.specs.declared.reply.Reply.{Reply}
use Rattle.fork_request.specs.declared.reply.Reply.TheVariants.{Done, Unchanged}
use Rattle.fork_reach.specs.Objects.{measures_of, use_of}
use Rattle.fork_reach.specs.Source.{Objects}
use Rattle.fork_reach.proofs.MeasureLemmas.{same_use}
use Rattle.fork_ledger.specs.Used.{capped}
use Rattle.fork_model.specs.Answer.{pruned_reply}

small_capped : (total : ℕ) → total < 2 ^ 64 → capped total ≡ total
small_capped total small = min-eq_left (omega (arith, small))

-- the use of what is seen, before and after
pub pruned_told : (old mid kept new : Objects) → measures_of mid ≡ measures_of old → measures_of new ≡ measures_of kept → use_of kept ≤ use_of old → use_of old < 2 ^ 64
    → cond (nat_eq (capped (use_of new)) (capped (use_of mid))) Unchanged (Done []) ≡ pruned_reply old kept
pruned_told old mid kept new same left less small =
    ap (λ n. cond (nat_eq n (capped (use_of mid))) Unchanged (Done [])) (ap capped (same_use new kept left) ∙ small_capped (use_of kept) (omega (arith, less, small)))
    ∙ ap (λ n. cond (nat_eq (use_of kept) n) Unchanged (Done [])) (ap capped (same_use mid old same) ∙ small_capped (use_of old) small)

either_done : (all : Bool) → is_done (cond all Unchanged (Done [])) ≡ true
either_done true = refl
either_done false = refl

pub pruned_done : (old kept : Objects) → is_done (pruned_reply old kept) ≡ true
pruned_done old kept = either_done (nat_eq (use_of kept) (use_of old))

pub either_fine : (all : Bool) → is_host_fault (cond all Unchanged (Done [])) ≡ false
either_fine true = refl
either_fine false = refl
