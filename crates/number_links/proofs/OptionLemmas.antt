-- What holds where there is a value, or none.
use Rattle.std.proofs.Common.{◌≡◌, Option, Some, None, Result, Ok, Err, IfOk, IfSome, IfNone, OnErr, subst}

-- more holds where there is no value
pub none_too : {X : Type 0} (r : Option X) (P Q : Type 0) → (P → Q) → IfNone r P → IfNone r Q
none_too (Some x) P Q more is = is
none_too None P Q more is = more is

-- what holds of a value holds of that which is known
pub some_is : {X : Type 0} (r : Option X) (x : X) (P : X → Type 0) → r ≡ Some x → IfSome r P → P x
some_is r x P is holds = subst (λ o. IfSome o P) is holds

-- what holds of a value that is found by two of its clauses
pub found_both : {X E : Type 0} (r : Result (Option X) E) (P Q S : X → Type 0) → ((x : X) → P x → Q x → S x) → IfOk r (λ o. IfSome o P) → IfOk r (λ o. IfSome o Q) → IfOk r (λ o. IfSome o S)
found_both (Ok (Some x)) P Q S both one other = both x one other
found_both (Ok None) P Q S both one other = one
found_both (Err e) P Q S both one other = one

-- what holds at all holds where a call failed
pub failed_too : {X E P : Type 0} (r : Result X E) → P → OnErr r P
failed_too (Ok x) is = tt
failed_too (Err e) is = is
