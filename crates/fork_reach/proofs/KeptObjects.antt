-- Objects that come leave those that are there, each under its own name.
use Rattle.std.proofs.Common.{◌≡◌, ℕ, Bool, true, false, cond, List, [], ◌∷◌, Option, Some, refl, sym, ap, ◌∙◌, is_some, inl, inr, ◌⊎◌}
use Rattle.std.specs.declared.cmp.Ordering.{Ordering}
use Rattle.std.specs.declared.cmp.Ordering.TheVariants.{Less, Equal, Greater}
use Rattle.std.specs.Ordering.{eq_by_cmp, is_eq}
use Rattle.std.specs.FinMap.{get, get-insert, insert, contains_key}
use Rattle.git_name.specs.Name.{name_cmp}
use Rattle.git_name.specs.Object.{Object, object_name}
use Rattle.git_name.proofs.Names.{name_total, name_exact}
use Rattle.fork_reach.specs.Source.{Objects}
use Rattle.fork_reach.specs.Objects.{IsNamed, with_object, with_objects}

is_equal : (o : Ordering) → is_eq o ≡ true → o ≡ Equal
is_equal Less e = cc
is_equal Equal e = refl
is_equal Greater e = cc

-- names that tie are the same
pub tied_names : (q k : List ℕ) → eq_by_cmp name_cmp q k ≡ true → q ≡ k
tied_names q k same = name_exact q k (is_equal (name_cmp q k) same)

-- what a look-up behind an insertion finds: the value that was put there, or what was found before
pub at_key : {X : Type 0} (b : Bool) (v x : X) (o : Option X) → cond b (Some v) o ≡ Some x → (b ≡ true) × (v ≡ x) ⊎ (o ≡ Some x)
at_key true v x o is = inl (refl, cc)
at_key false v x o is = inr is

-- an object that comes under its own name
pub named_more : (objects : Objects) (object : Object) → IsNamed objects → IsNamed (with_object objects object)
named_more objects object named = by (contains_key objects (object_name object))
  where
    by : (b : Bool) → IsNamed (cond b objects (insert objects (object_name object) object))
    by true = named
    by false = λ name found is.
        elim (at_key (eq_by_cmp name_cmp name (object_name object)) object found (get objects name) (sym (get-insert name_total objects (object_name object) object name) ∙ is)) [
          | inl here ↦ ap object_name (sym here.1) ∙ sym (tied_names name (object_name object) here.0)
          | inr there ↦ named name found there
        ]

pub named_all : (objects : Objects) (sent : List Object) → IsNamed objects → IsNamed (with_objects objects sent)
named_all objects [] named = named
named_all objects (object ∷ sent) named = named_all (with_object objects object) sent (named_more objects object named)

-- what is found under a name stays there
pub kept_more : (objects : Objects) (object : Object) (name : List ℕ) → contains_key objects name ≡ true → get (with_object objects object) name ≡ get objects name
kept_more objects object name here = by (contains_key objects (object_name object)) refl
  where
    absent_there : (b : Bool) → eq_by_cmp name_cmp name (object_name object) ≡ b → contains_key objects (object_name object) ≡ false → cond b (Some object) (get objects name) ≡ get objects name
    absent_there true same none = (let no : ⊥ = cc (ap (contains_key objects) (tied_names name (object_name object) same)) in absurd no)
    absent_there false same none = refl

    by : (b : Bool) → contains_key objects (object_name object) ≡ b → get (cond b objects (insert objects (object_name object) object)) name ≡ get objects name
    by true is = refl
    by false is = get-insert name_total objects (object_name object) object name ∙ absent_there (eq_by_cmp name_cmp name (object_name object)) refl is

pub kept_all : (objects : Objects) (sent : List Object) (name : List ℕ) → contains_key objects name ≡ true → get (with_objects objects sent) name ≡ get objects name
kept_all objects [] name here = refl
kept_all objects (object ∷ sent) name here =
    let first = kept_more objects object name here in
    kept_all (with_object objects object) sent name (ap is_some first ∙ here) ∙ first
