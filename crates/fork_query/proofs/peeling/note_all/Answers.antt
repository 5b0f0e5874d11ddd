use Rattle.std.proofs.Common.{◌≡◌, ◌∷◌, ℕ, Bool, List, true, false, ◌||◌, refl, sym, ap, subst, ◌∙◌, rules}
use Rattle.std.specs.BTreeMap.{is_at}
use Rattle.std.specs.List.{list_any}
use Rattle.std.proofs.lemmas.Cmp.{eq_by_cmp_equiv}
use Rattle.git_name.specs.Name.{name_cmp}
use Rattle.git_name.proofs.Names.{name_total}
use Rattle.fork_query.specs.Followed.{AreEnds}
use Rattle.fork_query.proofs.FollowedLemmas.{one_followed}
use Rattle.fork_query.proofs.peeling.note_all.Goals as goal

-- the first name of a list is found, and what is found behind it is found
first_found : (name : List ℕ) (names : List (List ℕ)) → list_any (is_at (name_cmp name)) (name ∷ names) ≡ true
first_found name names = ap (λ b. b || list_any (is_at (name_cmp name)) names) ((eq_by_cmp_equiv name_total).refl name)

found_on : (name first : List ℕ) (names : List (List ℕ)) → list_any (is_at (name_cmp name)) names ≡ true → list_any (is_at (name_cmp name)) (first ∷ names) ≡ true
found_on name first names is = by (is_at (name_cmp name) first)
  where
    by : (b : Bool) → (b || list_any (is_at (name_cmp name)) names) ≡ true
    by true = refl
    by false = is

pub loop-tag-preserved : goal.loop-tag-preserved
loop-tag-preserved c =
    let next : c.loop-tag.tag-iterator ≡ c.in-Some.tag.now ∷ c.next.new.self = search rules in
    let before = c.loop-tag.invariant in
    record {
      known = λ objects ends all.
          let met = before.left c.in-Some.tag.now (ap (list_any (is_at (name_cmp c.in-Some.tag.now))) next ∙ first_found c.in-Some.tag.now c.next.new.self) in
          subst (AreEnds objects) (sym c.in_ok-note.ensures) (one_followed objects c.loop-tag.followed c.in-Some.tag.now c.args.end.now (before.known objects ends all) (all c.in-Some.tag.now met));
      left = λ tag is. before.left tag (ap (list_any (is_at (name_cmp tag))) next ∙ found_on tag c.in-Some.tag.now c.next.new.self is);
    }
