-- A transaction, from the parts of its checks.
use Rattle.std.proofs.Common.{◌≡◌, ℕ, Bool, true, false, cond, List, [], ◌∷◌, Option, None, Some, refl, sym, ap, ◌∙◌, length, map as mapped, arith}
use Rattle.std.specs.Option.{option_or}
use Rattle.std.specs.FinMap as map
use Rattle.std.specs.Prelude.{nat_lt}
use Rattle.std.proofs.lemmas.Bool.{ltb-false}
use Rattle.git_name.specs.Name.{name_cmp}
use Rattle.git_reftx.specs.declared.command.Command.{Command}
use Rattle.git_reftx.specs.declared.fault.ApplyError.{ApplyError}
use Rattle.git_reftx.specs.declared.fault.ApplyError.TheVariants.{Refused, Memory}
use Rattle.git_reftx.specs.declared.fault.TxRefusal.{TxRefusal}
use Rattle.git_reftx.specs.declared.fault.TxRefusal.TheVariants.{TooMany}
use Rattle.git_reftx.specs.Judging.{refused_before, refused_after, TellsRefusal, TellsTransacted}
use Rattle.git_reftx.specs.Known.{Kinds}
use Rattle.git_reftx.specs.Sound.{AreRefNames, AreSound}
use Rattle.git_reftx.specs.Transaction.{References, first_refusal, bad_ref, repeated_ref, missing_object, not_a_commit, is_branch, stale, changed, conflict, least_upper, refusal_of, unless_refused, transacted}
use Rattle.git_reftx.proofs.MapLemmas.{named_empty}
use Rattle.git_reftx.proofs.RefusalLemmas.{option_or_assoc}
use Rattle.git_reftx.specs.declared.transact.TheConstants.{MAX_REFERENCES}

parts : (old : References) (commands : List Command) (known : Kinds)
    → option_or (first_refusal bad_ref commands) (option_or (refused_before old commands known) (refused_after (changed commands old))) ≡ refusal_of old commands known
parts old commands known =
    let repeated = repeated_ref [] commands in
    let missing = first_refusal (λ command. missing_object known command.change) commands in
    let no_commit = first_refusal (λ command. not_a_commit known (is_branch command.reference) command.change) commands in
    let not_met = first_refusal (stale old) commands in
    let after = refused_after (changed commands old) in
    ap (option_or (first_refusal bad_ref commands))
    (option_or_assoc repeated (option_or missing (option_or no_commit not_met)) after
    ∙ ap (option_or repeated) (option_or_assoc missing (option_or no_commit not_met) after ∙ ap (option_or missing) (option_or_assoc no_commit not_met after)))

-- the transaction, from the answers of its three parts
pub transacted_by : (old : References) (commands : List Command) (known : Kinds) (bad before after : Option TxRefusal)
    → first_refusal bad_ref commands ≡ bad → refused_before old commands known ≡ before → refused_after (changed commands old) ≡ after
    → transacted old commands known ≡ unless_refused (option_or bad (option_or before after)) (changed commands old)
unfolding transacted
transacted_by old commands known bad before after bad_is before_is after_is =
    ap (λ refusal. unless_refused refusal (changed commands old)) (sym (parts old commands known) ∙ (λ i. option_or (bad_is i) (option_or (before_is i) (after_is i))))

pub tells_bad : (old : References) (commands : List Command) (known : Kinds) (error : ApplyError) → TellsRefusal (first_refusal bad_ref commands) error → TellsTransacted (transacted old commands known) error
tells_bad old commands known (Refused refusal) told = transacted_by old commands known (Some refusal) _ _ told refl refl
tells_bad old commands known Memory told = tt

both_none : {A : Type 0} (a b : Option A) → option_or a b ≡ None → (a ≡ None) × (b ≡ None)
both_none None b is = (refl, is)
both_none (Some x) b is = absurd (cc)

free_of : (o : Option (List ℕ)) → conflict o ≡ None → o ≡ None
free_of None is = refl
free_of (Some upper) is = absurd (cc)

within : (b : Bool) → cond b (Some TooMany) None ≡ None → b ≡ false
within true is = absurd (cc)
within false is = refl

-- references that are not refused afterwards are sound
pub sound_after : (new : References) → AreRefNames new → refused_after new ≡ None → AreSound new
sound_after new named is =
    let judged = both_none (conflict (least_upper (map.keys new))) (cond (nat_lt MAX_REFERENCES (map.len new)) (Some TooMany) None) is in
    record { named = named; free = free_of (least_upper (map.keys new)) judged.0; few = ltb-false MAX_REFERENCES (map.len new) (within (nat_lt MAX_REFERENCES (map.len new)) judged.1) }

none_left : {A : Type 0} (xs : List A) → length xs ≡ 0 → xs ≡ []
none_left [] none = refl
none_left (x ∷ xs) none = absurd (omega arith)

pub sound_empty : AreSound map.empty
sound_empty =
    let no_entries : map.entries (map.empty {K = List ℕ} {X = List ℕ} {R = name_cmp}) ≡ [] = none_left _ (sym (map.len-entries (map.empty {X = List ℕ} {R = name_cmp})) ∙ map.len-empty name_cmp (List ℕ)) in
    let no_references : map.len (map.empty {K = List ℕ} {X = List ℕ} {R = name_cmp}) ≡ 0 = map.len-empty name_cmp (List ℕ) in
    record { named = named_empty; free = ap (λ es. least_upper (mapped (λ e. e.0) es)) no_entries; few = omega arith }
