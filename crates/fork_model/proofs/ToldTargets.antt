-- A transaction whose reply reports a missing name lacks the target of a command.
use Rattle.std.proofs.Common.{◌≡◌, ℕ, Bool, true, false, cond, List, [], ◌∷◌, Option, None, Some, Result, Ok, Err, is_none, is_some, refl, sym, ap, subst, ◌∙◌}
use Rattle.std.specs.List.{list_any}
use Rattle.std.specs.Option.{option_map, option_or}
use Rattle.std.specs.Str.{bytes_eq}
use Rattle.std.specs.FinMap.{get, contains_key}
use Rattle.git_name.specs.Object.{Object}
use Rattle.git_refname.specs.Rule.{least_broken_rule}
use Rattle.git_reftx.specs.declared.command.Change.{Change}
use Rattle.git_reftx.specs.declared.command.Change.TheVariants.{Keep, Remove, Point}
use Rattle.git_reftx.specs.declared.command.Command.{Command}
use Rattle.git_reftx.specs.declared.fault.CommandFault.{CommandFault}
use Rattle.git_reftx.specs.declared.fault.CommandFault.TheVariants as command
use Rattle.git_reftx.specs.declared.fault.TxRefusal.{TxRefusal}
use Rattle.git_reftx.specs.declared.fault.TxRefusal.TheVariants as tx
use Rattle.git_reftx.specs.Known.{Kinds}
use Rattle.git_reftx.specs.Reading.{commands_of}
use Rattle.git_reftx.specs.Repository.{Repository}
use Rattle.git_reftx.specs.Transaction.{References, bad_ref, changed, conflict, first_refusal, is_branch, meets, missing_object, not_a_commit, ref_conflict, refusal_of, repeated_ref, stale, too_many, transacted, unless_refused}
use Rattle.fork_reach.specs.Objects.{with_objects}
use Rattle.fork_reach.specs.Source.{Objects, kind_in}
use Rattle.fork_reach.proofs.KeptObjects.{kept_all}
use Rattle.fork_request.specs.declared.refusal.Refusal.TheVariants.{Missing}
use Rattle.fork_request.specs.declared.reply.Reply.TheVariants.{Refused}
use Rattle.fork_model.specs.Answer.{carried_out, command_refusal, transaction_refusal, with_references}
use Rattle.fork_model.specs.Missing.{IsFirst, IsLacking, LacksInBody, LacksTarget}
use Rattle.fork_model.specs.View.{View}
use Rattle.fork_model.proofs.LackingLemmas.{none_unless, some_not_none}
use Rattle.fork_model.proofs.TransferLemmas.{came}

-- what does not exist is neither seen nor sent
pub both_lacking : (objects : Objects) (sent : List Object) (name : List ℕ) → get (with_objects objects sent) name ≡ None → IsLacking objects sent name
both_lacking objects sent name absent = record {
  unseen = none_unless (get objects name) (λ object is. some_not_none object (sym (kept_all objects sent name (ap is_some is) ∙ is) ∙ absent));
  unsent = λ object at named. (
      let known : is_some (get (with_objects objects sent) name) ≡ true = subst (λ n. contains_key (with_objects objects sent) n ≡ true) named (came objects sent object at) in
      let differ : false ≡ true = ap is_some (sym absent) ∙ known in
      absurd (cc)
      );
}

pub no_object : (o : Option Object) → is_none (option_map (λ (object : Object). object.kind) o) ≡ true → o ≡ None
no_object None is = refl
no_object (Some object) is = absurd (cc)

pub an_object : (o : Option Object) → is_none (option_map (λ (object : Object). object.kind) o) ≡ false → is_some o ≡ true
an_object None is = absurd (cc)
an_object (Some object) is = refl

-- the command that decided
record Decides (judge : Command → Option TxRefusal) (commands : List Command) (refusal : TxRefusal) : Type 0 where
  command : Command
  first : IsFirst (λ other. is_none (judge other)) commands command
  refused : judge command ≡ Some refusal

deciding : (judge : Command → Option TxRefusal) (commands : List Command) (refusal : TxRefusal) → first_refusal judge commands ≡ Some refusal → Decides judge commands refusal
deciding judge [] refusal is = absurd (cc)
deciding judge (x ∷ commands) refusal is = by (judge x) refl is (deciding judge commands refusal)
  where
    by : (o : Option TxRefusal) → judge x ≡ o → option_or o (first_refusal judge commands) ≡ Some refusal → (first_refusal judge commands ≡ Some refusal → Decides judge commands refusal) → Decides judge (x ∷ commands) refusal
    by None at tells rest =
        let later = rest tells in
        record {
          command = later.command;
          first = record { before = x ∷ later.first.before; behind = later.first.behind; parts = ap (λ all. x ∷ all) later.first.parts; passed = (ap is_none at, later.first.passed) };
          refused = later.refused;
        }
    by (Some other) at tells rest = record { command = x; first = record { before = []; behind = commands; parts = refl; passed = tt }; refused = at ∙ tells }

-- no other test reports `missing`
one_word : (b : Bool) (refusal other : TxRefusal) → (refusal ≡ other → ⊥) → cond b (Some refusal) None ≡ Some other → ⊥
one_word true refusal other differ is = differ (cc)
one_word false refusal other differ is = cc

other_word : (b : Bool) (refusal other : TxRefusal) → (refusal ≡ other → ⊥) → cond b None (Some refusal) ≡ Some other → ⊥
other_word true refusal other differ is = cc
other_word false refusal other differ is = differ (cc)

never_repeated : (earlier : List (List ℕ)) (commands : List Command) (name : List ℕ) → repeated_ref earlier commands ≡ Some (tx.Missing name) → ⊥
never_repeated earlier [] name is = cc
never_repeated earlier (x ∷ commands) name is = by (list_any (bytes_eq x.reference) earlier) is (never_repeated (x.reference ∷ earlier) commands name)
  where
    by : (b : Bool) → cond b (Some (tx.RepeatedRef x.reference)) (repeated_ref (x.reference ∷ earlier) commands) ≡ Some (tx.Missing name) → (repeated_ref (x.reference ∷ earlier) commands ≡ Some (tx.Missing name) → ⊥) → ⊥
    by true tells rest = cc
    by false tells rest = rest tells

never_branch : (known : Kinds) (branch : Bool) (change : Change) (name : List ℕ) → not_a_commit known branch change ≡ Some (tx.Missing name) → ⊥
never_branch known branch (Point n) name is = one_word _ (tx.NotACommit n) (tx.Missing name) (λ same. cc) is
never_branch known branch Keep name is = cc
never_branch known branch Remove name is = cc

never_conflict : (o : Option (List ℕ)) (name : List ℕ) → conflict o ≡ Some (tx.Missing name) → ⊥
never_conflict None name is = cc
never_conflict (Some upper) name is = cc

-- the object of a command that is missing
target_of : (objects : Objects) (sent : List Object) (change : Change) (name : List ℕ) → missing_object (kind_in (with_objects objects sent)) change ≡ Some (tx.Missing name) → (change ≡ Point name) × IsLacking objects sent name
target_of objects sent (Point n) name is = by (is_none (kind_in (with_objects objects sent) n)) refl is
  where
    by : (b : Bool) → is_none (kind_in (with_objects objects sent) n) ≡ b → cond b (Some (tx.Missing n)) None ≡ Some (tx.Missing name) → (Point n ≡ Point name) × IsLacking objects sent name
    by true absent tells =
        let same : n ≡ name = cc in
        (ap Point same, both_lacking objects sent name (ap (get (with_objects objects sent)) (sym same) ∙ no_object (get (with_objects objects sent) n) absent))
    by false there tells = absurd (cc)
target_of objects sent Keep name is = absurd (cc)
target_of objects sent Remove name is = absurd (cc)

-- a transaction that reports `missing` lacks the target
target_lacking_of : (objects : Objects) (sent : List Object) (old : References) (commands : List Command) (name : List ℕ) → refusal_of old commands (kind_in (with_objects objects sent)) ≡ Some (tx.Missing name) → LacksTarget objects sent commands name
target_lacking_of objects sent old commands name is = bad (first_refusal bad_ref commands) refl is
  where
    known : Kinds
    known = kind_in (with_objects objects sent)

    judge : Command → Option TxRefusal
    judge command = missing_object known command.change

    behind : Option TxRefusal
    behind = option_or (first_refusal (stale old) commands) (option_or (ref_conflict (changed commands old)) (too_many (changed commands old)))

    others : Option TxRefusal
    others = option_or (first_refusal (λ command. not_a_commit known (is_branch command.reference) command.change) commands) behind

    late : (o p : Option TxRefusal) → (o ≡ Some (tx.Missing name) → ⊥) → (p ≡ Some (tx.Missing name) → ⊥) → option_or o p ≡ Some (tx.Missing name) → ⊥
    late None p first second tells = second tells
    late (Some refusal) p first second tells = first tells

    by_command : (j : Command → Option TxRefusal) → ((command : Command) → j command ≡ Some (tx.Missing name) → ⊥) → first_refusal j commands ≡ Some (tx.Missing name) → ⊥
    by_command j never tells = (let decided = deciding j commands (tx.Missing name) tells in never decided.command decided.refused)

    never_later : others ≡ Some (tx.Missing name) → ⊥
    never_later tells =
        late (first_refusal (λ command. not_a_commit known (is_branch command.reference) command.change) commands) behind
        (by_command (λ command. not_a_commit known (is_branch command.reference) command.change) (λ command. never_branch known (is_branch command.reference) command.change name))
        (late (first_refusal (stale old) commands) (option_or (ref_conflict (changed commands old)) (too_many (changed commands old)))
        (by_command (stale old) (λ command. other_word (meets command.demand (get old command.reference)) (tx.Stale command.reference) (tx.Missing name) (λ same. cc)))
        (late (ref_conflict (changed commands old)) (too_many (changed commands old)) (never_conflict _ name)
        (one_word _ tx.TooMany (tx.Missing name) (λ same. cc)))) tells

    unmet : first_refusal bad_ref commands ≡ None → repeated_ref [] commands ≡ None → (o : Option TxRefusal) → first_refusal judge commands ≡ o → option_or o others ≡ Some (tx.Missing name) → LacksTarget objects sent commands name
    unmet right apart None at tells = absurd (never_later tells)
    unmet right apart (Some refusal) at tells =
        let decided = deciding judge commands (tx.Missing name) (at ∙ tells) in
        let found = target_of objects sent decided.command.change name decided.refused in
        record { right = right; apart = apart; command = decided.command; first = decided.first; points = found.0; lacking = found.1 }

    repeated : first_refusal bad_ref commands ≡ None → (o : Option TxRefusal) → repeated_ref [] commands ≡ o → option_or o (option_or (first_refusal judge commands) others) ≡ Some (tx.Missing name) → LacksTarget objects sent commands name
    repeated right None at tells = unmet right at (first_refusal judge commands) refl tells
    repeated right (Some refusal) at tells = absurd (never_repeated [] commands name (at ∙ tells))

    bad : (o : Option TxRefusal) → first_refusal bad_ref commands ≡ o → option_or o (option_or (repeated_ref [] commands) (option_or (first_refusal judge commands) others)) ≡ Some (tx.Missing name) → LacksTarget objects sent commands name
    bad None at tells = repeated at (repeated_ref [] commands) refl tells
    bad (Some refusal) at tells =
        absurd (by_command bad_ref (λ command. one_word (is_some (least_broken_rule command.reference)) (tx.BadRef command.reference) (tx.Missing name) (λ same. cc)) (at ∙ tells))

transaction_word : (refusal : TxRefusal) (name : List ℕ) → transaction_refusal refusal ≡ Missing name → refusal ≡ tx.Missing name
transaction_word (tx.BadRef word) name is = absurd (cc)
transaction_word (tx.RepeatedRef reference) name is = absurd (cc)
transaction_word (tx.Missing n) name is = (let same : n ≡ name = cc in ap tx.Missing same)
transaction_word (tx.NotACommit n) name is = absurd (cc)
transaction_word (tx.Stale reference) name is = absurd (cc)
transaction_word (tx.RefConflict reference) name is = absurd (cc)
transaction_word tx.TooMany name is = absurd (cc)

pub transacted_of : (objects : Objects) (sent : List Object) (old : References) (commands : List Command) (refusal : TxRefusal) (name : List ℕ) → transacted old commands (kind_in (with_objects objects sent)) ≡ Err refusal → transaction_refusal refusal ≡ Missing name
    → LacksTarget objects sent commands name
unfolding transacted
transacted_of objects sent old commands refusal name is word =
    target_lacking_of objects sent old commands name (by (refusal_of old commands (kind_in (with_objects objects sent))) is ∙ ap Some (transaction_word refusal name word))
  where
    by : (o : Option TxRefusal) → unless_refused o (changed commands old) ≡ Err refusal → o ≡ Some refusal
    by None tells = absurd (cc)
    by (Some other) tells = (let same : other ≡ refusal = cc in ap Some same)

command_word : (fault : CommandFault) (name : List ℕ) → command_refusal fault ≡ Missing name → ⊥
command_word command.Syntax name is = cc
command_word command.TooMany name is = cc
command_word command.Truncated name is = cc

pub moved_of : (view : View) (word : List ℕ) (old : Repository) (body name : List ℕ) → (carried_out view word old (commands_of body)).0 ≡ Refused (Missing name) → LacksInBody view.objects body name
moved_of view word old body name is = by (commands_of body) refl is
  where
    done : (commands : List Command) (r : Result References TxRefusal) → transacted old.references commands (kind_in view.objects) ≡ r → (with_references view word old r).0 ≡ Refused (Missing name) → LacksTarget view.objects [] commands name
    done commands (Ok new) at tells = absurd (cc)
    done commands (Err refusal) at tells = transacted_of view.objects [] old.references commands refusal name at (cc)

    by : (r : Result (List Command) CommandFault) → commands_of body ≡ r → (carried_out view word old r).0 ≡ Refused (Missing name) → LacksInBody view.objects body name
    by (Ok commands) read tells = record { commands = commands; read = read; lacks = done commands (transacted old.references commands (kind_in view.objects)) refl tells }
    by (Err fault) read tells =
        let words : command_refusal fault ≡ Missing name = cc in
        absurd (command_word fault name words)
