-- When a tenant is added.
use Rattle.std.proofs.Common.{◌≡◌, ℕ, ◌+◌, ◌<◌, ◌≤◌, Bool, true, false, cond, List, Option, Some, None, sym, ap, subst, ◌∙◌, arith, is_some, inl, inr, refl, ◌⊎◌}
use Rattle.std.specs.Prelude.{nat_le, nat_lt}
use Rattle.std.proofs.lemmas.Bool.Decides.{nat_tests}
use Rattle.std.specs.Ordering.{eq_by_cmp}
use Rattle.std.specs.Map.{lookup}
use Rattle.std.specs.BTreeMap.{is_at}
use Rattle.std.specs.FinMap.{get, get-insert, get-empty, insert, contains_key, len, len-insert, len-empty, empty, from_entries}
use Rattle.git_name.specs.Name.{name_cmp}
use Rattle.git_name.proofs.Names.{name_total}
use Rattle.git_reftx.specs.Repository.{Repository}
use Rattle.fork_reach.specs.Objects.{IsNamed}
use Rattle.fork_request.specs.Names.{IsTenantName}
use Rattle.fork_model.specs.Offer.{Offer, Pair, pair_cmp}
use Rattle.fork_model.specs.Sound.{AreToOthers, IsOrderly, IsOrderlyWorld, IsRight, IsRightWorld}
use Rattle.fork_model.specs.View.{View}
use Rattle.push_stream.specs.Upload.{UploadValue}
use Rattle.fork_model.specs.World.{World}
use Rattle.fork_model.proofs.Hosts.{get_is}
use Rattle.fork_reach.proofs.KeptObjects.{at_key, tied_names}
use Rattle.fork_reach.proofs.UseLemmas.{use_of-empty}
use Rattle.fork_host.specs.Adding.{new_view, refusal_to_add}
use Rattle.fork_host.specs.declared.add_error.AddError.TheVariants.{There, TooMany, Limit}

-- the world has the tenant if and only if the entries have it
pub known : (w : World) (es : List (List ℕ × View)) (t : List ℕ) (b : Bool) → from_entries es ≡ w → b ≡ is_some (lookup (is_at (name_cmp t)) es) → contains_key w t ≡ b
known w es t b is found = ap is_some (get_is w es t is) ∙ sym found

-- the world has no view of a tenant that it lacks
pub none_there : (w : World) (t : List ℕ) → contains_key w t ≡ false → get w t ≡ None
none_there w t absent = by (get w t) absent
  where
    by : (o : Option View) → is_some o ≡ false → o ≡ None
    by None is = refl
    by (Some view) is = absurd (cc)

pub refused_there : (w : World) (t : List ℕ) (limit : ℕ) → contains_key w t ≡ true → refusal_to_add w t limit ≡ Some There
refused_there w t limit here = ap (λ b. cond b (Some There) (cond (nat_le 64 (len w)) (Some TooMany) (cond (nat_lt 1099511627776 limit) (Some Limit) None))) here

not_there : (w : World) (t : List ℕ) (limit : ℕ) → contains_key w t ≡ false → refusal_to_add w t limit ≡ cond (nat_le 64 (len w)) (Some TooMany) (cond (nat_lt 1099511627776 limit) (Some Limit) None)
not_there w t limit absent = ap (λ b. cond b (Some There) (cond (nat_le 64 (len w)) (Some TooMany) (cond (nat_lt 1099511627776 limit) (Some Limit) None))) absent

fits : (a b : ℕ) → a ≤ b → nat_le a b ≡ true
fits a b is = grind (arith, nat_tests)

exceeds : (a b : ℕ) → b < a → nat_le a b ≡ false
exceeds a b is = grind (arith, nat_tests)

below : (a b : ℕ) → a < b → nat_lt a b ≡ true
below a b is = grind (arith, nat_tests)

within : (a b : ℕ) → b ≤ a → nat_lt a b ≡ false
within a b is = grind (arith, nat_tests)

pub refused_many : (w : World) (t : List ℕ) (limit : ℕ) → contains_key w t ≡ false → 64 ≤ len w → refusal_to_add w t limit ≡ Some TooMany
refused_many w t limit absent many = not_there w t limit absent ∙ ap (λ b. cond b (Some TooMany) (cond (nat_lt 1099511627776 limit) (Some Limit) None)) (fits 64 (len w) many)

few_tenants : (w : World) (t : List ℕ) (limit : ℕ) → contains_key w t ≡ false → len w < 64 → refusal_to_add w t limit ≡ cond (nat_lt 1099511627776 limit) (Some Limit) None
few_tenants w t limit absent few = not_there w t limit absent ∙ ap (λ b. cond b (Some TooMany) (cond (nat_lt 1099511627776 limit) (Some Limit) None)) (exceeds 64 (len w) few)

pub refused_limit : (w : World) (t : List ℕ) (limit : ℕ) → contains_key w t ≡ false → len w < 64 → 1099511627776 < limit → refusal_to_add w t limit ≡ Some Limit
refused_limit w t limit absent few high = few_tenants w t limit absent few ∙ ap (λ b. cond b (Some Limit) None) (below 1099511627776 limit high)

pub not_refused : (w : World) (t : List ℕ) (limit : ℕ) → contains_key w t ≡ false → len w < 64 → limit ≤ 1099511627776 → refusal_to_add w t limit ≡ None
not_refused w t limit absent few low = few_tenants w t limit absent few ∙ ap (λ b. cond b (Some Limit) None) (within 1099511627776 limit low)

nothing_at : {X : Type 0} (name : List ℕ) (x : X) → get (empty {X = X} {R = name_cmp}) name ≡ Some x → ⊥
nothing_at {X} name x is = (let no : ⊥ = cc (sym (get-empty {X = X} name_cmp name) ∙ is) in no)

no_offer : (pair : Pair) (offer : Offer) → get (empty {X = Offer} {R = pair_cmp}) pair ≡ Some offer → ⊥
no_offer pair offer is = (let no : ⊥ = cc (sym (get-empty {X = Offer} pair_cmp pair) ∙ is) in no)

-- an empty map of objects has each under its own name
pub none_named : IsNamed empty
none_named = λ name object is. absurd (nothing_at name object is)

no_upload : (upload : UploadValue) → None ≡ Some upload → ⊥
no_upload upload is = cc

-- a new tenant's view is in order and right
pub orderly_new_view : (limit : ℕ) → limit ≤ 1099511627776 → IsOrderly (new_view limit)
orderly_new_view limit low = record {
  upload = λ upload is. absurd (no_upload upload is);
  within_limit = (let none = use_of-empty in omega arith);
  limit = low;
  few_repositories = (let none = len-empty name_cmp Repository in omega arith);
  repositories = λ name repository is. absurd (nothing_at name repository is);
  heads = λ name repository is. absurd (nothing_at name repository is);
  references = λ name repository is. absurd (nothing_at name repository is);
  few_offers = (let none = len-empty pair_cmp Offer in omega arith);
  offers = λ pair offer is. absurd (no_offer pair offer is);
}

pub others_new_view : (t : List ℕ) (limit : ℕ) → AreToOthers t (new_view limit)
others_new_view t limit pair offer is = absurd (no_offer pair offer is)

pub right_new_view : (limit : ℕ) → IsRight (new_view limit)
right_new_view limit = record {
  named = none_named;
  right = λ name object is. absurd (nothing_at name object is);
  closed = λ name object is. absurd (nothing_at name object is);
  offered = λ pair offer is. absurd (no_offer pair offer is);
  upload = λ upload is. absurd (no_upload upload is);
}

-- what holds of each view also holds in a world with one more tenant
pub each_more : (P : View → Type 0) (w : World) (t : List ℕ) (view : View) → P view → ((q : List ℕ) (other : View) → get w q ≡ Some other → P other)
    → (q : List ℕ) (other : View) → get (insert w t view) q ≡ Some other → P other
each_more P w t view one all q other is = elim (at_key (eq_by_cmp name_cmp q t) view other (get w q) (sym (get-insert name_total w t view q) ∙ is)) [
  | inl set ↦ subst P set.1 one
  | inr stays ↦ all q other stays
]

known_more : (w : World) (t q : List ℕ) (view : View) → contains_key (insert w t view) q ≡ true → (q ≡ t) ⊎ (contains_key w q ≡ true)
known_more w t q view is = by (eq_by_cmp name_cmp q t) refl (sym (ap is_some (get-insert name_total w t view q)) ∙ is)
  where
    by : (b : Bool) → eq_by_cmp name_cmp q t ≡ b → is_some (cond b (Some view) (get w q)) ≡ true → (q ≡ t) ⊎ (contains_key w q ≡ true)
    by true same there = inl (tied_names q t same)
    by false apart there = inr there

-- a world with one more tenant
pub orderly_more : (w : World) (t : List ℕ) (limit : ℕ) → IsTenantName t → contains_key w t ≡ false → len w < 64 → limit ≤ 1099511627776 → IsOrderlyWorld w → IsOrderlyWorld (insert w t (new_view limit))
orderly_more w t limit of_tenant absent few low orderly = record {
  few = (let count = len-insert name_total w t (new_view limit) ∙ ap (λ b. cond b (len w) (len w + 1)) absent in omega arith);
  named = λ q is. elim (known_more w t q (new_view limit) is) [
    | inl same ↦ subst IsTenantName (sym same) of_tenant
    | inr before ↦ orderly.named q before
  ];
  views = each_more IsOrderly w t (new_view limit) (orderly_new_view limit low) orderly.views;
  to_others = λ q other is. elim (at_key (eq_by_cmp name_cmp q t) (new_view limit) other (get w q) (sym (get-insert name_total w t (new_view limit) q) ∙ is)) [
    | inl set ↦ subst (AreToOthers q) set.1 (others_new_view q limit)
    | inr stays ↦ orderly.to_others q other stays
  ];
}

pub right_more : (w : World) (t : List ℕ) (limit : ℕ) → IsRightWorld w → IsRightWorld (insert w t (new_view limit))
right_more w t limit right = each_more IsRight w t (new_view limit) (right_new_view limit) right

none_known : (q : List ℕ) → contains_key (empty {X = View} {R = name_cmp}) q ≡ true → ⊥
none_known q is = (let no : ⊥ = cc (sym (ap is_some (get-empty {X = View} name_cmp q)) ∙ is) in no)

-- a world without tenants is in order
pub orderly_none : IsOrderlyWorld empty
orderly_none = record {
  few = (let none = len-empty name_cmp View in omega arith);
  named = λ q is. absurd (none_known q is);
  views = λ q view is. absurd (nothing_at q view is);
  to_others = λ q view is. absurd (nothing_at q view is);
}

pub right_none : IsRightWorld empty
right_none = λ q view is. absurd (nothing_at q view is)
