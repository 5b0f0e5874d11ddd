-- Tags that are followed: the steps, where they end, and cycles.
use Rattle.std.proofs.Common.{◌≡◌, ◌≢◌, ℕ, zero, suc, Bool, true, false, List, Option, None, Some, is_some, refl, sym, ap, subst, ◌∙◌}
use Rattle.std.specs.FinMap.{contains_key, get, keys, len}
use Rattle.std.specs.Option.{option_map}
use Rattle.git_name.specs.Object.{Object}
use Rattle.git_name.specs.declared.kind.Kind.{Kind}
use Rattle.git_name.specs.declared.kind.Kind.TheVariants.{Blob, Tree, Commit, Tag}
use Rattle.fork_reach.specs.Source.{Objects, kind_in}
use Rattle.fork_reach.proofs.NameLemmas.{Contains-keys, len_keys}
use Rattle.fork_reach.proofs.RisingLemmas.{Rises, Stops, stops_end}
use Rattle.fork_query.specs.Peel.{LeadsTo, Ends, Follows, followed, peeled, peeled_within, tag_target, target_in, target_of_found}

-- what is no tag leads nowhere
pub no_target : (objects : Objects) (name : List ℕ) → kind_in objects name ≢ Some Tag → tag_target objects name ≡ None
no_target objects name other = by (get objects name) other
  where
    of_kind : (kind : Kind) (bytes : List ℕ) → Some kind ≢ Some Tag → target_in kind bytes ≡ None
    of_kind Blob bytes is = refl
    of_kind Tree bytes is = refl
    of_kind Commit bytes is = refl
    of_kind Tag bytes is = absurd (is refl)

    by : (found : Option Object) → option_map (λ object. object.kind) found ≢ Some Tag → target_of_found found ≡ None
    by None is = refl
    by (Some object) is = of_kind object.kind object.bytes is

-- where a name ends in so many steps, it ends there in one more
peeled_more : (objects : Objects) (most : ℕ) (name end : List ℕ) → peeled_within objects most name ≡ Some end → peeled_within objects (suc most) name ≡ Some end
peeled_more objects zero name end is = (let no : ⊥ = cc in absurd no)
peeled_more objects (suc most) name end is = by (tag_target objects name) is (λ target. peeled_more objects most target end)
  where
    by : (target : Option (List ℕ)) → followed (peeled_within objects most) name target ≡ Some end → ((target : List ℕ) → peeled_within objects most target ≡ Some end → peeled_within objects (suc most) target ≡ Some end)
        → followed (peeled_within objects (suc most)) name target ≡ Some end
    by None ends more = ends
    by (Some target) ends more = more target ends

some_of : {A : Type 0} (found : Option A) → is_some found ≡ true → (a : A) × (found ≡ Some a)
some_of None is = (let no : ⊥ = cc in absurd no)
some_of (Some a) is = (a, refl)

ends_more : (objects : Objects) (most : ℕ) (name : List ℕ) → is_some (peeled_within objects most name) ≡ true → is_some (peeled_within objects (suc most) name) ≡ true
ends_more objects most name is =
    let end = some_of (peeled_within objects most name) is in
    ap is_some (peeled_more objects most name end.0 end.1)

-- whether a name ends in at most so many steps
abbrev ends : Objects → ℕ → List ℕ → Bool
ends objects most name = is_some (peeled_within objects (suc most) name)

-- a name that does not end at once is that of an object
tagged : (objects : Objects) (most : ℕ) (name : List ℕ) → ends objects most name ≡ false → contains_key objects name ≡ true
tagged objects most name is = by (get objects name) is
  where
    by : (found : Option Object) → is_some (followed (peeled_within objects most) name (target_of_found found)) ≡ false → is_some found ≡ true
    by None ends_not = (let no : ⊥ = cc in absurd no)
    by (Some object) ends_not = refl

ends_stop : (objects : Objects) (most : ℕ) → Stops (ends objects) most → Stops (ends objects) (suc most)
ends_stop objects most stops name is = by (tag_target objects name) is
  where
    by : (target : Option (List ℕ)) → is_some (followed (peeled_within objects (suc (suc most))) name target) ≡ true → is_some (followed (peeled_within objects (suc most)) name target) ≡ true
    by None more = refl
    by (Some target) more = stops target more

ends_rise : (objects : Objects) → Rises (keys objects) (ends objects)
ends_rise objects = record {
  kept = λ most name. ends_more objects (suc most) name;
  among = λ most name before now. Contains-keys objects name (tagged objects most name before);
  stops = ends_stop objects;
}

-- as many steps as there are objects are enough
ends_end : (objects : Objects) → Stops (ends objects) (len objects)
ends_end objects = subst (Stops (ends objects)) (len_keys objects) (stops_end (keys objects) (ends objects) (ends_rise objects))

same_end : {A : Type 0} (more found : Option A) → ((a : A) → found ≡ Some a → more ≡ Some a) → (is_some more ≡ true → is_some found ≡ true) → more ≡ found
same_end more (Some a) up down = up a refl
same_end None None up down = refl
same_end (Some a) None up down = (let no : false ≡ true = down refl in absurd (cc))

one_more : (objects : Objects) (name : List ℕ) → peeled_within objects (suc (suc (len objects))) name ≡ peeled_within objects (suc (len objects)) name
one_more objects name = same_end _ _ (peeled_more objects (suc (len objects)) name) (ends_end objects name)

-- a name that is no tag's stands for itself
pub peeled_here : (objects : Objects) (name : List ℕ) → tag_target objects name ≡ None → peeled objects name ≡ Some name
unfolding peeled
peeled_here objects name none = ap (followed (peeled_within objects (len objects)) name) none

-- and a tag for what its target stands for
pub peeled_on : (objects : Objects) (name target : List ℕ) → tag_target objects name ≡ Some target → peeled objects name ≡ peeled objects target
unfolding peeled
peeled_on objects name target is = sym (one_more objects name) ∙ ap (followed (peeled_within objects (suc (len objects))) name) is

-- what the function finds is led to
leads_within : (objects : Objects) (most : ℕ) (name end : List ℕ) → peeled_within objects most name ≡ Some end → LeadsTo objects end name
leads_within objects zero name end is = (let no : ⊥ = cc in absurd no)
leads_within objects (suc most) name end is = by (tag_target objects name) refl is (λ target. leads_within objects most target end)
  where
    by : (target : Option (List ℕ)) → tag_target objects name ≡ target → followed (peeled_within objects most) name target ≡ Some end → ((target : List ℕ) → peeled_within objects most target ≡ Some end → LeadsTo objects end target) → LeadsTo objects end name
    by None none ends_here on =
        let same : name ≡ end = cc in
        subst (LeadsTo objects end) (sym same) (Ends (subst (λ n. tag_target objects n ≡ None) same none))
    by (Some target) some ends_there on = Follows name target some (on target ends_there)

pub peeled_leads : (objects : Objects) (name end : List ℕ) → peeled objects name ≡ Some end → LeadsTo objects end name
unfolding peeled
peeled_leads objects name end is = leads_within objects (suc (len objects)) name end is

-- and nothing else is
pub leads_peeled : (objects : Objects) (end name : List ℕ) → LeadsTo objects end name → peeled objects name ≡ Some end
leads_peeled objects end _ (Ends none) = peeled_here objects end none
leads_peeled objects end _ (Follows name target is leads) = peeled_on objects name target is ∙ leads_peeled objects end target leads

-- the one name is fewer steps from its end than the other
abbrev pub IsNearer : Objects → List ℕ → List ℕ → Type 0
IsNearer objects near far = (most : ℕ) → is_some (peeled_within objects (suc most) far) ≡ true → is_some (peeled_within objects most near) ≡ true

-- a tag's target is nearer than the tag
pub nearer_target : (objects : Objects) (name target : List ℕ) → tag_target objects name ≡ Some target → IsNearer objects target name
nearer_target objects name target is most ends_is = sym (ap (λ t. is_some (followed (peeled_within objects most) name t)) is) ∙ ends_is

-- and nearer than all that the tag is nearer than
pub nearer_on : (objects : Objects) (name target far : List ℕ) → tag_target objects name ≡ Some target → IsNearer objects name far → IsNearer objects target far
nearer_on objects name target far is nearer most ends_is = by most (nearer most ends_is)
  where
    by : (most : ℕ) → is_some (peeled_within objects most name) ≡ true → is_some (peeled_within objects most target) ≡ true
    by zero ends_now = (let no : ⊥ = cc in absurd no)
    by (suc most) ends_now = ends_more objects most target (nearer_target objects name target is most ends_now)

-- a name that is nearer than itself ends nowhere
nearer_none : (objects : Objects) (name : List ℕ) → IsNearer objects name name → (most : ℕ) → peeled_within objects most name ≡ None
nearer_none objects name nearer zero = refl
nearer_none objects name nearer (suc most) = none_of (peeled_within objects (suc most) name) (λ is. (let before : is_some (peeled_within objects most name) ≡ true = nearer most is in let none = nearer_none objects name nearer most in let no : false ≡ true = sym (ap is_some none) ∙ before in cc))
  where
    none_of : {A : Type 0} (found : Option A) → (is_some found ≡ true → ⊥) → found ≡ None
    none_of None absent = refl
    none_of (Some a) absent = absurd (absent refl)

pub circle_none : (objects : Objects) (name : List ℕ) → IsNearer objects name name → peeled objects name ≡ None
unfolding peeled
circle_none objects name nearer = nearer_none objects name nearer (suc (len objects))
