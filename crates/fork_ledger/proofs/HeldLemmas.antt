-- What is known of a name, for callers: the kind of what is seen, and of both sides.
use Rattle.std.proofs.Common.{◌≡◌, ℕ, true, false, List, Option, None, Some, refl, sym, ap, ◌∙◌, is_some}
use Rattle.std.specs.Option.{option_map, option_or}
use Rattle.std.specs.FinMap.{contains_key, get}
use Rattle.git_name.specs.Object.{Object}
use Rattle.git_name.proofs.MapLemmas.{get_joined}
use Rattle.git_name.proofs.Names.{name_total}
use Rattle.fork_reach.specs.Source.{kind_in}
use Rattle.fork_ledger.specs.declared.held.Held.{Held}
use Rattle.fork_ledger.specs.Private.{Private, both_of, held_in, held_of, kind_seen}

-- what is known, by what is seen and what is staged under the name
known : Option Object → Option Object → Option Held
known seen waits = option_map (λ object. held_of object (is_some seen) (is_some waits)) (option_or seen waits)

held_known : (own : Private) (name : List ℕ) → held_in own name ≡ known (get own.visible name) (get own.staged name)
unfolding known
held_known own name = ap (option_map (λ object. held_of object (contains_key own.visible name) (contains_key own.staged name))) (get_joined name_total own.visible own.staged name)

seen_known : (seen waits : Option Object) → kind_seen (known seen waits) ≡ option_map (λ object. object.kind) seen
unfolding known
seen_known None None = refl
seen_known None (Some object) = refl
seen_known (Some object) waits = refl

-- the kind of what is seen
pub kind_visible : (own : Private) (name : List ℕ) → kind_seen (held_in own name) ≡ kind_in own.visible name
kind_visible own name = ap kind_seen (held_known own name) ∙ seen_known (get own.visible name) (get own.staged name)

-- the kind on either side
pub kind_both : (own : Private) (name : List ℕ) → option_map (λ held. held.kind) (held_in own name) ≡ kind_in (both_of own) name
kind_both own name = by (get (both_of own) name)
  where
    by : (o : Option Object) → option_map (λ (held : Held). held.kind) (option_map (λ object. held_of object (contains_key own.visible name) (contains_key own.staged name)) o) ≡ option_map (λ object. object.kind) o
    by None = refl
    by (Some object) = refl

both_at : (own : Private) (name : List ℕ) → get (both_of own) name ≡ option_or (get own.visible name) (get own.staged name)
both_at own name = get_joined name_total own.visible own.staged name

by_seen : (seen waits : Option Object) (held : Held) → known seen waits ≡ Some held → held.visible ≡ true → option_or seen waits ≡ seen
unfolding known
by_seen None None held is visible = absurd (cc)
by_seen None (Some object) held is visible = (let differs : false ≡ true = flag (held_of object false true) held is ∙ visible in absurd (cc))
  where
    flag : (a b : Held) → Some a ≡ Some b → a.visible ≡ b.visible
    flag a b same = (let one : a ≡ b = cc in ap (λ (h : Held). h.visible) one)
by_seen (Some object) waits held is visible = refl

by_staged : (seen waits : Option Object) (held : Held) → known seen waits ≡ Some held → held.visible ≡ false → option_or seen waits ≡ waits
unfolding known
by_staged None waits held is hidden = refl
by_staged (Some object) waits held is hidden = (let differs : true ≡ false = flag (held_of object true (is_some waits)) held is ∙ hidden in absurd (cc))
  where
    flag : (a b : Held) → Some a ≡ Some b → a.visible ≡ b.visible
    flag a b same = (let one : a ≡ b = cc in ap (λ (h : Held). h.visible) one)

by_none : (seen waits : Option Object) → known seen waits ≡ None → option_or seen waits ≡ None
unfolding known
by_none None None is = refl
by_none None (Some object) is = absurd (cc)
by_none (Some object) waits is = absurd (cc)

-- both sides, where the object is seen
pub both_seen : (own : Private) (name : List ℕ) (held : Held) → held_in own name ≡ Some held → held.visible ≡ true → get (both_of own) name ≡ get own.visible name
both_seen own name held is visible = both_at own name ∙ by_seen (get own.visible name) (get own.staged name) held (sym (held_known own name) ∙ is) visible

-- where it is staged and not seen
pub both_staged : (own : Private) (name : List ℕ) (held : Held) → held_in own name ≡ Some held → held.visible ≡ false → get (both_of own) name ≡ get own.staged name
both_staged own name held is hidden = both_at own name ∙ by_staged (get own.visible name) (get own.staged name) held (sym (held_known own name) ∙ is) hidden

-- where it is neither
pub both_none : (own : Private) (name : List ℕ) → held_in own name ≡ None → get (both_of own) name ≡ None
both_none own name is = both_at own name ∙ by_none (get own.visible name) (get own.staged name) (sym (held_known own name) ∙ is)
