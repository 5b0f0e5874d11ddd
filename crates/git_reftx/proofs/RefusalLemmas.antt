-- The first refusal of a list of commands, command by command.
use Rattle.std.proofs.Common.{◌≡◌, ℕ, ◌+◌, ◌<◌, Bool, true, false, cond, ◌||◌, is_some, List, [], ◌∷◌, ◌++◌, Option, None, Some, refl, sym, ap, ◌∙◌, length, take, drop, get_or, take-append-drop}
use Rattle.std.specs.Cmp.{Equal-is}
use Rattle.std.specs.FinMap.{get}
use Rattle.std.specs.List.{list_any}
use Rattle.std.specs.Option.{option_or}
use Rattle.std.specs.Ordering.{is_eq}
use Rattle.std.specs.Str.{bytes_eq}
use Rattle.std.proofs.lemmas.Cmp.{eq_by_cmp_equiv}
use Rattle.std.proofs.lemmas.List.{drop_more, take_more}
use Rattle.std.proofs.lemmas.Slice.Eq.{bytes_eq-Decides}
use Rattle.git_name.specs.Name.{name_cmp}
use Rattle.git_name.proofs.Names.{name_total, name_exact}
use Rattle.git_refname.specs.declared.rule.Rule.{Rule}
use Rattle.git_refname.specs.Rule.{IsRefName, least_broken_rule}
use Rattle.git_reftx.specs.declared.command.Command.{Command}
use Rattle.git_reftx.specs.declared.command.Demand.{Demand}
use Rattle.git_reftx.specs.declared.fault.TxRefusal.{TxRefusal}
use Rattle.git_reftx.specs.declared.fault.TxRefusal.TheVariants.{BadRef, RepeatedRef, Stale}
use Rattle.git_reftx.specs.Transaction.{References, first_refusal, bad_ref, repeated_ref, meets, stale, changed, changed_by}

abbrev Judge : Type 0
Judge = Command → Option TxRefusal

pub option_or_assoc : {A : Type 0} (a b c : Option A) → option_or (option_or a b) c ≡ option_or a (option_or b c)
option_or_assoc None b c = refl
option_or_assoc (Some x) b c = refl

append : (f : Judge) (xs ys : List Command) → first_refusal f (xs ++ ys) ≡ option_or (first_refusal f xs) (first_refusal f ys)
append f [] ys = refl
append f (x ∷ xs) ys = ap (option_or (f x)) (append f xs ys) ∙ sym (option_or_assoc (f x) (first_refusal f xs) (first_refusal f ys))

-- no earlier command is refused, and this one is
pub refused_at : (f : Judge) (xs : List Command) (i : ℕ) (x : Command) (refusal : TxRefusal) → i < length xs → first_refusal f (take i xs) ≡ None → x ≡ get_or xs i x → f x ≡ Some refusal → first_refusal f xs ≡ Some refusal
refused_at f xs i x refusal inside none is refused =
    ap (first_refusal f) (sym (take-append-drop i xs)) ∙ append f (take i xs) (drop i xs) ∙ ap (λ o. option_or o (first_refusal f (drop i xs))) none
    ∙ ap (first_refusal f) (drop_more xs i x inside ∙ ap (λ y. y ∷ drop (i + 1) xs) (sym is)) ∙ ap (λ o. option_or o (first_refusal f (drop (i + 1) xs))) refused

-- neither an earlier command nor this one is refused
pub none_refused : (f : Judge) (xs : List Command) (i : ℕ) (x : Command) → i < length xs → first_refusal f (take i xs) ≡ None → x ≡ get_or xs i x → f x ≡ None → first_refusal f (take (i + 1) xs) ≡ None
none_refused f xs i x inside none is passes =
    ap (first_refusal f) (take_more xs i x inside) ∙ append f (take i xs) (get_or xs i x ∷ []) ∙ ap (λ o. option_or o (first_refusal f (get_or xs i x ∷ []))) none
    ∙ ap (λ y. first_refusal f (y ∷ [])) (sym is) ∙ ap (λ o. option_or o None) passes

-- one more command is carried out
pub carried_more : (commands : List Command) (i : ℕ) (x : Command) (whole old new : References) → i < length commands → x ≡ get_or commands i x → whole ≡ changed (drop i commands) old → new ≡ changed_by x.reference x.change old → whole ≡ changed (drop (i + 1) commands) new
carried_more commands i x whole old new inside is so_far step =
    so_far ∙ ap (λ cs. changed cs old) (drop_more commands i x inside ∙ ap (λ y. y ∷ drop (i + 1) commands) (sym is)) ∙ ap (changed (drop (i + 1) commands)) (sym step)

-- a reference that is not as its command requires, and one that is
pub stale_is : (old : References) (x : Command) (demand : Demand) (target : Option (List ℕ)) (met : Bool) (name : List ℕ) → demand ≡ x.demand → target ≡ get old x.reference → met ≡ meets demand target → met ≡ false → name ≡ x.reference → stale old x ≡ Some (Stale name)
stale_is old x demand target met name demand_is target_is met_is unmet name_is =
    ap (λ b. cond b None (Some (Stale x.reference))) (sym (λ i. meets (demand_is i) (target_is i)) ∙ sym met_is ∙ unmet) ∙ ap (λ n. Some (Stale n)) (sym name_is)

pub stale_not : (old : References) (x : Command) (demand : Demand) (target : Option (List ℕ)) (met : Bool) → demand ≡ x.demand → target ≡ get old x.reference → met ≡ meets demand target → met ≡ true → stale old x ≡ None
stale_not old x demand target met demand_is target_is met_is is =
    ap (λ b. cond b None (Some (Stale x.reference))) (sym (λ i. meets (demand_is i) (target_is i)) ∙ sym met_is ∙ is)

-- a name that breaks a rule, and one that breaks none
pub bad_is : (x : Command) (rule : Rule) (word : List ℕ) → word ≡ x.reference → least_broken_rule word ≡ Some rule → bad_ref x ≡ Some (BadRef word)
bad_is x rule word is broken =
    ap (λ o. cond (is_some o) (Some (BadRef x.reference)) None) (ap least_broken_rule (sym is) ∙ broken) ∙ ap (λ w. Some (BadRef w)) (sym is)

pub bad_not : (x : Command) (word : List ℕ) → word ≡ x.reference → IsRefName word → bad_ref x ≡ None
bad_not x word is right = ap (λ o. cond (is_some o) (Some (BadRef x.reference)) None) (ap least_broken_rule (sym is) ∙ right)

pub decided : (a b : Bool) → (a ≡ true → b ≡ true) → (b ≡ true → a ≡ true) → a ≡ b
decided true true f g = refl
decided false false f g = refl
decided true false f g = sym (f refl)
decided false true f g = g refl

-- two names tie if they are the same bytes
tie_is : (k q : List ℕ) → is_eq (name_cmp k q) ≡ bytes_eq q k
tie_is k q = decided (is_eq (name_cmp k q)) (bytes_eq q k)
    (λ tie. (bytes_eq-Decides q k).1 (sym (name_exact k q ((Equal-is (name_cmp k q)).0 tie))))
    (λ same. ap (λ n. is_eq (name_cmp k n)) ((bytes_eq-Decides q k).0 same) ∙ (eq_by_cmp_equiv name_total).refl k)

either_or : (a b : Bool) → cond a true b ≡ (a || b)
either_or true b = refl
either_or false b = refl

-- one more name was met
pub met_more : (earlier : List (List ℕ)) (k : List ℕ) (before after : List ℕ → Bool) → ((q : List ℕ) → before q ≡ list_any (bytes_eq q) earlier) → ((q : List ℕ) → after q ≡ cond (is_eq (name_cmp k q)) true (before q))
    → (q : List ℕ) → after q ≡ list_any (bytes_eq q) (k ∷ earlier)
met_more earlier k before after was updates q =
    updates q ∙ either_or (is_eq (name_cmp k q)) (before q) ∙ (λ i. tie_is k q i || was q i)

-- a command that does not repeat a reference
pub repeated_more : (commands : List Command) (i : ℕ) (x : Command) (whole : Option TxRefusal) (earlier : List (List ℕ)) (k : List ℕ) → i < length commands → x ≡ get_or commands i x → k ≡ x.reference
    → whole ≡ repeated_ref earlier (drop i commands) → list_any (bytes_eq k) earlier ≡ false → whole ≡ repeated_ref (k ∷ earlier) (drop (i + 1) commands)
repeated_more commands i x whole earlier k inside is k_is so_far new =
    let later = drop (i + 1) commands in
    so_far ∙ ap (repeated_ref earlier) (drop_more commands i x inside ∙ ap (λ y. y ∷ later) (sym is))
    ∙ ap (λ n. cond (list_any (bytes_eq n) earlier) (Some (RepeatedRef n)) (repeated_ref (n ∷ earlier) later)) (sym k_is)
    ∙ ap (λ b. cond b (Some (RepeatedRef k)) (repeated_ref (k ∷ earlier) later)) new
