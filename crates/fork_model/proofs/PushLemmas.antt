-- What an accepted push means, and what is in a stream that is at its end.
use Rattle.std.proofs.Common.{◌≡◌, ℕ, ◌≤◌, Bool, true, false, cond, [], ◌∷◌, Option, Some, None, Result, Ok, Err, refl, ap, arith}
use Rattle.std.specs.Prelude.{nat_lt, ⊤}
use Rattle.std.specs.List.{find}
use Rattle.std.specs.Option.{option_map, option_or}
use Rattle.std.proofs.lemmas.Bool.Decides.{nat_tests}
use Rattle.git_object.specs.declared.link.Link.{Link}
use Rattle.git_reftx.specs.declared.fault.TxRefusal.{TxRefusal}
use Rattle.git_reftx.specs.Transaction.{References, transacted}
use Rattle.push_stream.specs.Brief.{BriefValue}
use Rattle.push_stream.specs.Stream.{Stream, Flows, Breaks, AreObjects, finished, sent_in}
use Rattle.fork_reach.specs.Objects.{use_of}
use Rattle.fork_reach.specs.Source.{Objects, kind_in}
use Rattle.fork_push.specs.declared.refusal.PushRefusal.{PushRefusal}
use Rattle.fork_push.specs.declared.refusal.PushRefusal.TheVariants.{OverQuota, WrongType}
use Rattle.fork_push.specs.Push.{judged, link_refusal, links_under, missing, wrong_type, is_wrong, within_limit, refusal_or}
use Rattle.fork_model.specs.Answer.{Finished}

-- the objects of a whole stream are in their grammars
abbrev pub AreHeld : Finished → Type 0
AreHeld (Ok held) = AreObjects held.1
AreHeld (Err fault) = ⊤

pub held_right : (s : Stream) → AreObjects (sent_in s) → AreHeld (finished s)
held_right (Flows commands objects true []) are = are
held_right (Flows commands objects true (b ∷ rest)) are = tt
held_right (Flows commands objects false rest) are = tt
held_right (Breaks fault) are = tt

-- what an accepted push means: no link is wrong, the transaction was carried out, and the limit is kept
pub record IsAccepted (both : Objects) (old : References) (limit : ℕ) (brief : BriefValue) (new : References) : Type 0 where
  pub met : find (is_wrong both) (links_under both brief.1) ≡ None
  pub carried : transacted old brief.0 (kind_in both) ≡ Ok new
  pub within : use_of both ≤ limit

none_found : (o : Option Link) → option_map (λ (link : Link). WrongType link.name) o ≡ None → o ≡ None
none_found None is = refl
none_found (Some link) is = absurd (cc)

second_none : {X : Type 0} (a b : Option X) → option_or a b ≡ None → b ≡ None
second_none None b is = is
second_none (Some x) b is = absurd (cc)

unrefused : (refusal : Option PushRefusal) (verdict : Result References PushRefusal) (new : References) → refusal_or refusal verdict ≡ Ok new → (refusal ≡ None) × (verdict ≡ Ok new)
unrefused None verdict new is = (refl, is)
unrefused (Some refusal) verdict new is = absurd (cc)

fits : (both : Objects) (limit : ℕ) (found new : References) → within_limit both limit (Ok found) ≡ Ok new → (found ≡ new) × (use_of both ≤ limit)
fits both limit found new is = by (nat_lt limit (use_of both)) refl is
  where
    same : (a b : Result References PushRefusal) → a ≡ Ok found → b ≡ Ok new → a ≡ b → found ≡ new
    same a b x y z = cc

    by : (b : Bool) → nat_lt limit (use_of both) ≡ b → cond {A = Result References PushRefusal} b (Err OverQuota) (Ok found) ≡ Ok new → (found ≡ new) × (use_of both ≤ limit)
    by true over is = absurd (cc)
    by false room is = (same (Ok found) (Ok new) refl refl is, grind (arith, nat_tests))

keeps_limit : (both : Objects) (limit : ℕ) (value : Result References TxRefusal) (new : References) → within_limit both limit value ≡ Ok new → (value ≡ Ok new) × (use_of both ≤ limit)
keeps_limit both limit (Err refusal) new is = absurd (cc)
keeps_limit both limit (Ok found) new is = (let kept = fits both limit found new is in (ap (λ r. Ok r) kept.0, kept.1))

pub accepted : (both : Objects) (old : References) (limit : ℕ) (brief : BriefValue) (new : References) → judged both old limit (Ok brief) ≡ Ok new → IsAccepted both old limit brief new
unfolding judged
accepted both old limit brief new is =
    let parts = unrefused (link_refusal both (links_under both brief.1)) _ new is in
    let kept = keeps_limit both limit (transacted old brief.0 (kind_in both)) new parts.1 in
    record {
      met = none_found (find (is_wrong both) (links_under both brief.1)) (second_none (missing both (links_under both brief.1)) (wrong_type both (links_under both brief.1)) parts.0);
      carried = kept.0;
      within = kept.1;
    }
