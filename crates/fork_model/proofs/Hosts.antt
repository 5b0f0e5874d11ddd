-- A host's tenants as entries by name: what a look-up and a write do to their world.
use Rattle.std.proofs.Common.{◌≡◌, ℕ, cond, List, ◌∷◌, [], ◌++◌, Some, None, refl, ◌∙◌, sym, ap, length}
use Rattle.std.specs.List.Sorted.{IsStrictlySortedBy}
use Rattle.std.specs.Map.{lookup, keys_of}
use Rattle.std.specs.BTreeMap.{is_at}
use Rattle.std.specs.FinMap.{from_entries, get, insert, len, len-entries}
use Rattle.git_name.specs.Name.{name_cmp}
use Rattle.git_name.proofs.Names.{name_total, name_exact}
use Rattle.git_name.proofs.TreeMaps.{get_of_entries, entries_after_insert, entries_of_ordered}
use Rattle.fork_request.specs.Asked.{Ask}
use Rattle.fork_request.specs.Told.{is_host_fault}
use Rattle.fork_request.specs.declared.refusal.Refusal.TheVariants.{UnknownTenant}
use Rattle.fork_request.specs.declared.reply.Reply.{Reply}
use Rattle.fork_request.specs.declared.reply.Reply.TheVariants.{Refused}
use Rattle.fork_model.specs.Answer.{answer}
use Rattle.fork_model.specs.Context.{met_by}
use Rattle.fork_model.specs.Runs.{Asks, Unknown}
use Rattle.fork_model.specs.View.{View}
use Rattle.fork_model.specs.World.{World, HostSays, Event, Answers, Steps, Explains}
use Rattle.fork_model.proofs.Worlds.{answered, explains_more}

-- the tenant is found, answers, and is written back
pub step_answered : (old new : World) (es fs : List (List ℕ × View)) (t : List ℕ) (ask : Ask) (view : View) (reply : Reply) (view' : View) → from_entries es ≡ old → from_entries fs ≡ new → Some view ≡ lookup (is_at (name_cmp t)) es → Answers (met_by old t) view ask reply view'
    → ((q : List ℕ) → lookup (is_at (name_cmp q)) fs ≡ cond (is_at (name_cmp t) q) (Some view') (lookup (is_at (name_cmp q)) es)) → Steps old (Asks t ask) reply new
step_answered old new es fs t ask view reply view' is_old is_new here told set =
    answered name_cmp name_total name_exact met_by answer (Refused UnknownTenant) is_host_fault HostSays old new t ask view reply view'
    (ap (λ w. get w t) (sym is_old) ∙ (get_of_entries name_total es t ∙ sym here)) told
    (sym is_new ∙ (entries_after_insert name_total name_exact es fs t view' set ∙ ap (λ w. insert w t view') is_old))

-- no tenant is found, and nothing is written
pub step_unknown : (old new : World) (es : List (List ℕ × View)) (t : List ℕ) (ask : Ask) → from_entries es ≡ old → None ≡ lookup (is_at (name_cmp t)) es → new ≡ old → Steps old (Asks t ask) (Refused UnknownTenant) new
step_unknown old new es t ask is_old none stays =
    Unknown (ap (λ w. get w t) (sym is_old) ∙ (get_of_entries name_total es t ∙ sym none)) refl stays

-- a run goes on by one step
pub run_more : (old mid new : World) (steps : List Event) (replies : List Reply) (step : Event) (reply : Reply) → Explains old steps replies mid → Steps mid step reply new → Explains old (steps ++ step ∷ []) (replies ++ reply ∷ []) new
run_more old mid new steps replies step reply run more =
    explains_more name_cmp name_total name_exact met_by answer (Refused UnknownTenant) is_host_fault HostSays old mid new steps replies step reply run more

-- the world has the view of a tenant that the entries have
pub get_is : (w : World) (es : List (List ℕ × View)) (t : List ℕ) → from_entries es ≡ w → get w t ≡ lookup (is_at (name_cmp t)) es
get_is w es t is = ap (λ v. get v t) (sym is) ∙ get_of_entries name_total es t

-- the world after another value is set under one name
pub insert_is : (old : World) (es fs : List (List ℕ × View)) (t : List ℕ) (view : View) → from_entries es ≡ old
    → ((q : List ℕ) → lookup (is_at (name_cmp q)) fs ≡ cond (is_at (name_cmp t) q) (Some view) (lookup (is_at (name_cmp q)) es)) → from_entries fs ≡ insert old t view
insert_is old es fs t view is set = entries_after_insert name_total name_exact es fs t view set ∙ ap (λ w. insert w t view) is

-- the world has as many tenants as there are entries
pub len_is : (w : World) (es : List (List ℕ × View)) → from_entries es ≡ w → IsStrictlySortedBy name_cmp (keys_of es) → len w ≡ length es
len_is w es is sorted = ap len (sym is) ∙ (len-entries (from_entries es) ∙ ap length (entries_of_ordered name_total es sorted))
