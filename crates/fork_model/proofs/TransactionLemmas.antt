-- A transaction leaves references that a repository may have.
use Rattle.std.proofs.Common.{◌≡◌, ℕ, ◌≤◌, Bool, true, false, cond, not, List, [], ◌∷◌, Option, Some, None, Ok, refl, sym, ap, subst, ◌∙◌, arith, is_some, inl, inr}
use Rattle.std.specs.Prelude.{◌&&◌, nat_lt, is_none}
use Rattle.std.specs.Option.{option_or, option_map}
use Rattle.std.specs.Ordering.{eq_by_cmp}
use Rattle.std.specs.FinMap.{get, get-insert, get-remove, keys, len}
use Rattle.std.proofs.lemmas.Bool.Decides.{nat_tests}
use Rattle.git_name.specs.declared.kind.Kind.{Kind}
use Rattle.git_name.specs.Name.{name_cmp}
use Rattle.git_name.specs.Object.{Object}
use Rattle.git_name.proofs.Names.{name_total}
use Rattle.git_refname.specs.declared.rule.Rule.{Rule}
use Rattle.git_refname.specs.Rule.{least_broken_rule}
use Rattle.git_reftx.specs.declared.command.Command.{Command}
use Rattle.git_reftx.specs.declared.command.Change.{Change}
use Rattle.git_reftx.specs.declared.command.Change.TheVariants.{Keep, Remove, Point}
use Rattle.git_reftx.specs.declared.fault.TxRefusal.{TxRefusal}
use Rattle.git_reftx.specs.declared.fault.TxRefusal.TheVariants.{BadRef, Missing, NotACommit, TooMany}
use Rattle.git_reftx.specs.Transaction
use Rattle.git_reftx.specs.Transaction.{References, is_branch, is_commit, least_upper, transacted, changed, changed_by, refusal_of, first_refusal}
use Rattle.fork_reach.specs.Source.{Objects, kind_in}
use Rattle.fork_model.specs.Sound.{IsReference, AreReferences}
use Rattle.fork_reach.proofs.KeptObjects.{at_key, tied_names}

-- if `option_or` of two is `None`, both are
none_of_both : {X : Type 0} (a b : Option X) → option_or a b ≡ None → (a ≡ None) × (b ≡ None)
none_of_both None b is = (refl, is)
none_of_both (Some x) b is = absurd (cc)

right_name : (broken : Option Rule) (refusal : TxRefusal) → cond (is_some broken) (Some refusal) None ≡ None → broken ≡ None
right_name None refusal is = refl
right_name (Some rule) refusal is = absurd (cc)

is_there : (kind : Option Kind) (refusal : TxRefusal) → cond (is_none kind) (Some refusal) None ≡ None → is_some kind ≡ true
is_there None refusal is = absurd (cc)
is_there (Some kind) refusal is = refl

is_a_commit : (branch commit : Bool) (refusal : TxRefusal) → cond (branch && not commit) (Some refusal) None ≡ None → branch ≡ true → commit ≡ true
is_a_commit true true refusal is branch = refl
is_a_commit true false refusal is branch = absurd (cc)
is_a_commit false commit refusal is branch = absurd (cc)

some_kind : (o : Option Object) → is_some (option_map (λ object. object.kind) o) ≡ true → is_some o ≡ true
some_kind None is = absurd (cc)
some_kind (Some object) is = refl

-- each reference is valid
abbrev Each : Objects → References → Type 0
Each objects references = (reference target : List ℕ) → get references reference ≡ Some target → IsReference objects reference target

-- a change leaves valid references
each_changed : (objects : Objects) (references : References) (name : List ℕ) (change : Change) → Each objects references
    → ((target : List ℕ) → change ≡ Point target → IsReference objects name target) → Each objects (changed_by name change references)
each_changed objects references name Keep each right = each
each_changed objects references name Remove each right = λ reference target is.
    each reference target (found (eq_by_cmp name_cmp reference name) (get references reference) target (sym (get-remove name_total references name reference) ∙ is))
  where
    found : (b : Bool) (o : Option (List ℕ)) (target : List ℕ) → cond b None o ≡ Some target → o ≡ Some target
    found true o target is = absurd (cc)
    found false o target is = is
each_changed objects references name (Point new) each right = λ reference target is.
    elim (at_key (eq_by_cmp name_cmp reference name) new target (get references reference) (sym (get-insert name_total references name new reference) ∙ is)) [
      | inl here ↦ subst (λ q. IsReference objects q target) (sym (tied_names reference name here.0)) (right target (ap Point here.1))
      | inr there ↦ each reference target there
    ]

-- a command that no test refuses sets a valid reference
command_right : (objects : Objects) (command : Command) → Transaction.bad_ref command ≡ None
    → Transaction.missing_object (kind_in objects) command.change ≡ None
    → Transaction.not_a_commit (kind_in objects) (is_branch command.reference) command.change ≡ None
    → (target : List ℕ) → command.change ≡ Point target → IsReference objects command.reference target
command_right objects command named there commit target is = record {
  named = right_name (least_broken_rule command.reference) (BadRef command.reference) named;
  there = some_kind (get objects target) (is_there (kind_in objects target) (Missing target) (ap (Transaction.missing_object (kind_in objects)) (sym is) ∙ there));
  commit = is_a_commit (is_branch command.reference) (is_commit (kind_in objects target)) (NotACommit target) (ap (Transaction.not_a_commit (kind_in objects) (is_branch command.reference)) (sym is) ∙ commit);
}

each_transacted : (objects : Objects) (commands : List Command) (references : References) → Each objects references
    → first_refusal Transaction.bad_ref commands ≡ None
    → first_refusal (λ command. Transaction.missing_object (kind_in objects) command.change) commands ≡ None
    → first_refusal (λ command. Transaction.not_a_commit (kind_in objects) (is_branch command.reference) command.change) commands ≡ None
    → Each objects (changed commands references)
each_transacted objects [] references each named there commit = each
each_transacted objects (command ∷ commands) references each named there commit =
    let n = none_of_both (Transaction.bad_ref command) (first_refusal Transaction.bad_ref commands) named in
    let t = none_of_both (Transaction.missing_object (kind_in objects) command.change) (first_refusal (λ c. Transaction.missing_object (kind_in objects) c.change) commands) there in
    let m = none_of_both (Transaction.not_a_commit (kind_in objects) (is_branch command.reference) command.change) (first_refusal (λ c. Transaction.not_a_commit (kind_in objects) (is_branch c.reference) c.change) commands) commit in
    each_transacted objects commands (changed_by command.reference command.change references)
    (each_changed objects references command.reference command.change each (command_right objects command n.0 t.0 m.0)) n.1 t.1 m.1

apart_of : (upper : Option (List ℕ)) → Transaction.conflict upper ≡ None → upper ≡ None
apart_of None is = refl
apart_of (Some upper) is = absurd (cc)

few_of : (n : ℕ) → cond (nat_lt 4096 n) (Some TooMany) None ≡ None → n ≤ 4096
few_of n is = by (nat_lt 4096 n) refl is
  where
    by : (b : Bool) → nat_lt 4096 n ≡ b → cond b (Some TooMany) None ≡ None → n ≤ 4096
    by true full refused = absurd (cc)
    by false few refused = grind (arith, nat_tests)

carried : (objects : Objects) (old : References) (commands : List Command) → AreReferences objects old
    → refusal_of old commands (kind_in objects) ≡ None → AreReferences objects (changed commands old)
carried objects old commands sound none =
    let named = none_of_both (first_refusal Transaction.bad_ref commands) _ none in
    let once = none_of_both (Transaction.repeated_ref [] commands) _ named.1 in
    let there = none_of_both (first_refusal (λ c. Transaction.missing_object (kind_in objects) c.change) commands) _ once.1 in
    let commit = none_of_both (first_refusal (λ c. Transaction.not_a_commit (kind_in objects) (is_branch c.reference) c.change) commands) _ there.1 in
    let fresh = none_of_both (first_refusal (Transaction.stale old) commands) _ commit.1 in
    let apart = none_of_both (Transaction.ref_conflict (changed commands old)) _ fresh.1 in
    record {
      each = each_transacted objects commands old sound.each named.0 there.0 commit.0;
      apart = apart_of (least_upper (keys (changed commands old))) apart.0;
      few = few_of (len (changed commands old)) apart.1;
    }

ok_of : (refusal : Option TxRefusal) (new other : References) → Transaction.unless_refused refusal new ≡ Ok other → (refusal ≡ None) × (new ≡ other)
ok_of None new other is = (refl, cc)
ok_of (Some refusal) new other is = absurd (cc)

-- if the transaction is carried out
pub sound_transacted : (objects : Objects) (old new : References) (commands : List Command) → AreReferences objects old
    → transacted old commands (kind_in objects) ≡ Ok new → AreReferences objects new
unfolding transacted
sound_transacted objects old new commands sound is =
    let out = ok_of (refusal_of old commands (kind_in objects)) (changed commands old) new is in
    subst (AreReferences objects) out.1 (carried objects old commands sound out.0)
