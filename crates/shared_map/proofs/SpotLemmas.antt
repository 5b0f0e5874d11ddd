-- Where a key is among entries.
use Rattle.std.proofs.Common.{◌≡◌, ◌≢◌, ℕ, ◌+◌, ◌<◌, ◌≤◌, List, ◌∷◌, ◌++◌, None, Some, sym, ap, subst, ◌∙◌, length, get_or, take, drop, arith, take-append-drop, drop_of_length-le}
use Rattle.std.proofs.lemmas.List.{drop_more}
use Rattle.shared_map.specs.Chunks.{Entry, Entries, Rises, AreBefore, AreNotBefore, AreBehind}
use Rattle.shared_map.specs.Spot.{IsSpot}
use Rattle.shared_map.proofs.SearchLemmas.{behind_own, behind_other, rises_from}

pub spot_past : (key : List ℕ) (es : Entries) (at : ℕ) → length es ≤ at → at ≤ length es → AreBefore key (take at es) → IsSpot key es (record { at = at; past = at; value = None })
spot_past key es at past within before =
    record { parts = sym (take-append-drop at es); ordered = omega arith; within = within; before = before; behind = subst (AreBehind key) (sym (drop_of_length-le es {i = at} past)) tt }

pub spot_none : (key : List ℕ) (es : Entries) (at : ℕ) (x : Entry) → Rises es → at < length es → x ≡ get_or es at x → AreBefore key (take at es) → AreNotBefore key (drop at es) → x.0 ≢ key
    → IsSpot key es (record { at = at; past = at; value = None })
spot_none key es at x rises within is before behind apart =
    let rest : drop at es ≡ x ∷ drop (at + 1) es = drop_more es at x within ∙ ap (λ k. k ∷ drop (at + 1) es) (sym is) in
    record {
      parts = sym (take-append-drop at es);
      ordered = omega arith;
      within = omega arith;
      before = before;
      behind = subst (AreBehind key) (sym rest) (behind_other key x (drop (at + 1) es) (subst Rises rest (rises_from at es rises)) (subst (AreNotBefore key) rest behind).0 apart);
    }

pub spot_some : (key : List ℕ) (es : Entries) (at : ℕ) (x : Entry) → Rises es → at < length es → x ≡ get_or es at x → AreBefore key (take at es) → x.0 ≡ key
    → IsSpot key es (record { at = at; past = at + 1; value = Some x.1 })
spot_some key es at x rises within is before own =
    let rest : drop at es ≡ x ∷ drop (at + 1) es = drop_more es at x within ∙ ap (λ k. k ∷ drop (at + 1) es) (sym is) in
    let named : drop at es ≡ (key, x.1) ∷ drop (at + 1) es = rest ∙ ap (λ k. (k, x.1) ∷ drop (at + 1) es) own in
    record {
      parts = sym (take-append-drop at es) ∙ ap (λ ds. take at es ++ ds) named;
      ordered = omega arith;
      within = omega arith;
      before = before;
      behind = behind_own key x (drop (at + 1) es) (subst Rises rest (rises_from at es rises)) own;
    }
