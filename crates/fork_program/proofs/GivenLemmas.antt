-- Tenants are added one after another.
use Rattle.std.proofs.Common.{◌≡◌, ◌∙◌, sym, ap, subst, refl, ℕ, List, [], ◌∷◌, ◌++◌, Some, None, append_assoc, append-nil, length, arith}
use Rattle.std.proofs.lemmas.List.Sums.{fold-append}
use Rattle.fork_command.specs.declared.grant.Grant.{Grant}
use Rattle.fork_host.specs.Adding.{refusal_to_add}
use Rattle.fork_host.specs.declared.add_error.AddError.{AddError}
use Rattle.fork_host.specs.Shown.{HostState, Trusted, world_of}
use Rattle.fork_model.specs.World.{World}
use Rattle.fork_program.specs.Given.{AreFree, AreGiven, AreUngiven, IsFirstRefused, IsUnadded, with_grant, world_with}
use Rattle.fork_program.specs.declared.fault.Fault.{Fault}
use Rattle.fork_program.specs.declared.fault.Fault.TheVariants.{TooLarge, BadObject, BadFrame, Read, Write, Memory, Store, Socket, NoState, NotPacked, Unreadable, Journal, OtherJournal, NotKept, NotSaved, Line, Lost, Damaged, Unsound, OverLimit, There, TooManyTenants, NotThere, BelowUse}

-- some of the tenants were added to a world, and the rest is still to come
pub record Adding (grants rest : List Grant) (old world : World) : Type 0 where
  pub done : List Grant
  pub parts : grants ≡ done ++ rest
  pub free : AreFree old done
  pub made : world ≡ world_with old done

nothing_in : {X : Type 0} (before : List X) (y : X) (behind : List X) → [] ≡ before ++ y ∷ behind → ⊥
nothing_in [] y behind is = cc
nothing_in (b ∷ before) y behind is = cc

-- what holds of each element and those before it holds of a list with one more
each_more : {X : Type 0} (P : List X → X → Type 0) (xs : List X) (x : X) → ((before : List X) (y : X) (behind : List X) → xs ≡ before ++ y ∷ behind → P before y) → P xs x
    → (before : List X) (y : X) (behind : List X) → xs ++ x ∷ [] ≡ before ++ y ∷ behind → P before y
each_more P [] x each last [] y behind is = let same : x ≡ y = cc in subst (P []) same last
each_more P [] x each last (b ∷ before) y behind is = let rest : [] ≡ before ++ y ∷ behind = cc in absurd (nothing_in before y behind rest)
each_more P (z ∷ xs) x each last [] y behind is = let same : z ≡ y = cc in each [] y xs (ap (λ w. w ∷ xs) same)
each_more P (z ∷ xs) x each last (b ∷ before) y behind is =
    let head : z ≡ b = cc in
    let rest : xs ++ x ∷ [] ≡ before ++ y ∷ behind = cc in
    subst (λ h. P (h ∷ before) y) head (each_more (λ front w. P (z ∷ front) w) xs x (λ front w tail e. each (z ∷ front) w tail (ap (λ l. z ∷ l) e)) last before y behind rest)

pub none_added : (grants : List Grant) (old : World) → Adding grants grants old old
none_added grants old = record {
  done = [];
  parts = refl;
  free = λ before grant behind parts. absurd (nothing_in before grant behind parts);
  made = refl;
}

-- none were added to a host
pub no_grants : (host : HostState) → AreGiven [] host host
no_grants host = record { free = λ before grant behind parts. absurd (nothing_in before grant behind parts); trusted = λ trusted. trusted; shows = refl }

pub one_added : (grants rest : List Grant) (grant : Grant) (first old new : World) → Adding grants (grant ∷ rest) first old → refusal_to_add old grant.tenant grant.limit ≡ None → new ≡ with_grant old grant → Adding grants rest first new
one_added grants rest grant first old new so_far free made = record {
  done = so_far.done ++ grant ∷ [];
  parts = so_far.parts ∙ sym (append_assoc so_far.done (grant ∷ []) rest);
  free = each_more (λ before g. refusal_to_add (world_with first before) g.tenant g.limit ≡ None) so_far.done grant so_far.free (subst (λ w. refusal_to_add w grant.tenant grant.limit ≡ None) so_far.made free);
  made = made ∙ (ap (λ w. with_grant w grant) so_far.made ∙ sym (fold-append with_grant first so_far.done (grant ∷ [])));
}

-- nothing is left of a list without length
all_added : (grants rest : List Grant) (old world : World) (len : ℕ) → len ≡ length rest → len ≡ 0 → Adding grants rest old world → Adding grants [] old world
all_added grants [] old world len counted zero so_far = so_far
all_added grants (grant ∷ rest) old world len counted zero so_far = (let e : length (grant ∷ rest) ≡ 0 = sym counted ∙ zero in absurd (omega (arith, e)))

-- all of them
pub all_given : (grants rest : List Grant) (old new : HostState) (len : ℕ) → len ≡ length rest → len ≡ 0 → Adding grants rest (world_of old) (world_of new) → (Trusted old → Trusted new) → AreGiven grants old new
all_given grants rest old new len counted zero so_far trusted =
    let all = all_added grants rest (world_of old) (world_of new) len counted zero so_far in
    let whole : grants ≡ all.done = all.parts ∙ append-nil all.done in
    record {
      free = subst (AreFree (world_of old)) (sym whole) all.free;
      trusted = trusted;
      shows = all.made ∙ ap (world_with (world_of old)) (sym whole);
    }

-- the next is refused
first_refused : (grants rest : List Grant) (grant : Grant) (old world : World) (error : AddError) → Adding grants (grant ∷ rest) old world → refusal_to_add world grant.tenant grant.limit ≡ Some error → IsFirstRefused old grants error
first_refused grants rest grant old world error so_far refused = record {
  before = so_far.done;
  grant = grant;
  behind = rest;
  parts = so_far.parts;
  free = so_far.free;
  refused = subst (λ w. refusal_to_add w grant.tenant grant.limit ≡ Some error) so_far.made refused;
}

pub not_added : (grants rest : List Grant) (grant : Grant) (old world : World) (fault : Fault) → Adding grants (grant ∷ rest) old world → IsUnadded world grant fault → AreUngiven old grants fault
unfolding first_refused
not_added grants rest grant old world (There tenant) so_far why = (first_refused grants rest grant old world _ so_far why.1, why.0)
not_added grants rest grant old world TooManyTenants so_far why = first_refused grants rest grant old world _ so_far why
not_added grants rest grant old world Memory so_far why = tt
not_added grants rest grant old world TooLarge so_far why = absurd why
not_added grants rest grant old world BadObject so_far why = absurd why
not_added grants rest grant old world BadFrame so_far why = absurd why
not_added grants rest grant old world Read so_far why = absurd why
not_added grants rest grant old world Write so_far why = absurd why
not_added grants rest grant old world Store so_far why = absurd why
not_added grants rest grant old world Socket so_far why = absurd why
not_added grants rest grant old world NoState so_far why = absurd why
not_added grants rest grant old world NotPacked so_far why = absurd why
not_added grants rest grant old world Unreadable so_far why = absurd why
not_added grants rest grant old world Journal so_far why = absurd why
not_added grants rest grant old world OtherJournal so_far why = absurd why
not_added grants rest grant old world NotKept so_far why = absurd why
not_added grants rest grant old world NotSaved so_far why = absurd why
not_added grants rest grant old world (Line line) so_far why = absurd why
not_added grants rest grant old world (Lost name) so_far why = absurd why
not_added grants rest grant old world (Damaged name) so_far why = absurd why
not_added grants rest grant old world (Unsound name) so_far why = absurd why
not_added grants rest grant old world (OverLimit tenant) so_far why = absurd why
not_added grants rest grant old world (NotThere tenant) so_far why = absurd why
not_added grants rest grant old world (BelowUse tenant used) so_far why = absurd why
