-- What becomes of a folder's host whose tenants are changed.
use Rattle.std.proofs.Common.{◌≡◌, ◌<◌, ◌^◌, ℕ, List, [], ◌∷◌, ◌++◌, codes, decimal, Option, Some, None, refl, sym, ap, subst, ◌∙◌, arith, unwrap_or}
use Rattle.std.specs.Option.{option_and_then}
use Rattle.std.specs.FinMap.{get}
use Rattle.git_name.specs.Number.{number_in}
use Rattle.git_name.proofs.PlainLemmas.{decimal-plain}
use Rattle.git_name.proofs.ReadingLemmas.{number_in-decimal}
use Rattle.git_name.proofs.TextLemmas.{split_once-append}
use Rattle.fork_reach.specs.Objects.{use_of}
use Rattle.fork_request.specs.declared.reply.Reply.{Reply}
use Rattle.fork_request.specs.declared.reply.Reply.TheVariants as reply
use Rattle.fork_request.specs.Asked.{AsksUse}
use Rattle.fork_model.specs.Answer.{answer, quota_answer}
use Rattle.fork_model.specs.Runs.{Answered, Asks, Faulted, Unknown}
use Rattle.fork_model.specs.Sound.{IsOrderlyWorld}
use Rattle.fork_model.specs.View.{View}
use Rattle.fork_model.specs.World.{Steps, World}
use Rattle.fork_program.specs.Changing.{number_told}
use Rattle.fork_program.specs.Keeping.{IsUnkept, IsUnopened, IsUnrenewed}
use Rattle.fork_program.specs.declared.fault.Fault.{Fault}
use Rattle.fork_program.specs.declared.fault.Fault.TheVariants.{TooLarge, BadObject, BadFrame, Read, Write, Memory, Store, Socket, NoState, NotPacked, Unreadable, Journal, OtherJournal, NotKept, NotSaved, Line, Lost, Damaged, Unsound, OverLimit, There, TooManyTenants, NotThere, BelowUse}

-- what stands against opening a folder stands against saving it anew
pub unrenewed : (fault : Fault) → IsUnopened fault → IsUnrenewed fault
unrenewed TooLarge why = why
unrenewed BadObject why = why
unrenewed BadFrame why = why
unrenewed Read why = why
unrenewed Write why = why
unrenewed Memory why = why
unrenewed Store why = why
unrenewed Socket why = why
unrenewed NoState why = why
unrenewed NotPacked why = why
unrenewed Unreadable why = why
unrenewed Journal why = why
unrenewed OtherJournal why = why
unrenewed NotKept why = why
unrenewed NotSaved why = tt
unrenewed (Line line) why = why
unrenewed (Lost name) why = why
unrenewed (Damaged name) why = why
unrenewed (Unsound name) why = why
unrenewed (OverLimit tenant) why = why
unrenewed (There tenant) why = why
unrenewed TooManyTenants why = why
unrenewed (NotThere tenant) why = why
unrenewed (BelowUse tenant used) why = why

-- and so does what stands against its host
pub unkept : (fault : Fault) → IsUnkept fault → IsUnrenewed fault
unkept TooLarge why = why
unkept BadObject why = why
unkept BadFrame why = why
unkept Read why = why
unkept Write why = why
unkept Memory why = why
unkept Store why = why
unkept Socket why = why
unkept NoState why = tt
unkept NotPacked why = why
unkept Unreadable why = why
unkept Journal why = why
unkept OtherJournal why = why
unkept NotKept why = why
unkept NotSaved why = tt
unkept (Line line) why = why
unkept (Lost name) why = why
unkept (Damaged name) why = why
unkept (Unsound name) why = why
unkept (OverLimit tenant) why = why
unkept (There tenant) why = why
unkept TooManyTenants why = why
unkept (NotThere tenant) why = why
unkept (BelowUse tenant used) why = why

pub unsaved_told : (fault : Fault) → fault ≡ NotSaved → IsUnrenewed fault
unsaved_told fault is = subst IsUnrenewed (sym is) tt

-- ---- the use that `quota` tells
told_number : (used : ℕ) (rest : List ℕ) → used < 2 ^ 64 → number_told (decimal used ++ 32 ∷ rest) ≡ Some used
told_number used rest small =
    ap (option_and_then (λ (parts : List ℕ × List ℕ). number_in parts.0)) (split_once-append 32 (decimal used) rest (decimal-plain 32 (omega arith) used small)) ∙ number_in-decimal used small

-- what stands behind the first number, as one text
regroup : (d l n : List ℕ) → d ++ codes " " ++ l ++ n ≡ d ++ 32 ∷ (l ++ n)
regroup [] l n = refl
regroup (x ∷ d) l n = ap (λ (r : List ℕ). x ∷ r) (regroup d l n)

told_use : (used limit : ℕ) → used < 2 ^ 64 → number_told (decimal used ++ codes " " ++ decimal limit ++ codes "\n") ≡ Some used
told_use used limit small = ap number_told (regroup (decimal used) (decimal limit) (codes "\n")) ∙ told_number used (decimal limit ++ codes "\n") small

one_view : (o : Option View) (v w : View) → o ≡ Some v → o ≡ Some w → v ≡ w
one_view o v w first then = ap (λ (p : Option View). unwrap_or p v) (sym first ∙ then)

abbrev text_told : Reply → List ℕ
text_told (reply.Done text) = text
text_told reply.Unchanged = codes ""
text_told (reply.Refused refusal) = codes ""
text_told (reply.Failed fault) = codes ""

pub use_told : (old new : World) (tenant text : List ℕ) (used : ℕ) → IsOrderlyWorld old → Steps old (Asks tenant AsksUse) (reply.Done text) new → number_told text ≡ Some used
    → (view : View) → get old tenant ≡ Some view → used ≡ use_of view.objects
unfolding answer quota_answer
use_told old new tenant text used orderly (Answered shown found is made) told view there =
    let same : shown ≡ view = one_view (get old tenant) shown view found there in
    let spelled : text ≡ decimal (use_of shown.objects) ++ codes " " ++ decimal shown.limit ++ codes "\n" = ap text_told is in
    let fits = (orderly.views tenant shown found).within_limit in
    let most = (orderly.views tenant shown found).limit in
    let number : Some used ≡ Some (use_of shown.objects) = sym told ∙ ap number_told spelled ∙ told_use (use_of shown.objects) shown.limit (omega (arith, fits, most)) in
    ap (λ (o : Option ℕ). unwrap_or o 0) number ∙ ap (λ (v : View). use_of v.objects) same
use_told old new tenant text used orderly (Unknown none is made) told view there = (let both : None ≡ Some view = sym none ∙ there in absurd (cc both))
use_told old new tenant text used orderly (Faulted fault made) told view there = absurd (cc fault)
