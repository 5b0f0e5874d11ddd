-- Records that are copied into another pool, one after another.
use Rattle.std.proofs.Common.{◌≡◌, ◌≢◌, ◌++◌, ◌+◌, ◌<◌, ◌≤◌, ◌⊎◌, ℕ, List, [], ◌∷◌, Some, None, length, map, get_or, refl, sym, ap, subst, ◌∙◌, arith, inl, inr}
use Rattle.std.proofs.lemmas.Bool.{cases_eq, cases_lt, cases_order}
use Rattle.std.proofs.lemmas.List.{append-nil, get_or_append_left, get_or_past, get_or_push, length_push}
use Rattle.number_links.specs.Known.{known}
use Rattle.number_links.specs.Records.{AreRecords, IsCopied, IsRecord, IsWritten, told}
use Rattle.number_links.proofs.RecordLemmas.{known_told, record_grown, record_written, told_grown, told_none, told_written, written_after}
use Rattle.number_links.proofs.RenewLemmas.{told_below}

-- the records of the first places were copied
pub record Packs (clock : ℕ) (renewed begins pool : List ℕ) (count : ℕ) (now_begins now_pool : List ℕ) : Type 0 where
  pub are : AreRecords clock renewed now_begins now_pool
  pub long : length now_begins ≡ count
  pub same : (q : ℕ) → q < count → told renewed now_pool (get_or now_begins q 4294967295) ≡ told renewed pool (get_or begins q 4294967295)

-- one more
pub packs_more : (clock : ℕ) (renewed begins pool : List ℕ) (count : ℕ) (now_begins now_pool new_pool : List ℕ) (begin now : ℕ) → Packs clock renewed begins pool count now_begins now_pool → begin ≡ get_or begins count 4294967295
    → IsCopied clock renewed pool begin now_pool new_pool now → Packs clock renewed begins pool (count + 1) (now_begins ++ now ∷ []) new_pool
packs_more clock renewed begins pool count now_begins now_pool new_pool begin now packs here copied = record {
  are = record {
    by_now = packs.are.by_now;
    few = copied.few;
    records = λ q. there q (cases_order q count);
  };
  long = (let long = packs.long in length_push now_begins now ∙ ap (λ n. n + 1) long);
  same = λ q below. (elim (cases_eq q count) [
    | inl last ↦
        ap (told renewed new_pool) (at_end q last) ∙ copied.same ∙ ap (told renewed pool) (here ∙ ap (λ k. get_or begins k 4294967295) (sym last))
    | inr apart ↦
        (let before : q < count = omega arith in
        ap (told renewed new_pool) (in_front q before) ∙ ap (λ p. told renewed p (get_or now_begins q 4294967295)) copied.after.1 ∙ told_grown clock (length renewed) renewed now_pool copied.after.0 (get_or now_begins q 4294967295) (packs.are.records q) ∙ packs.same q before)
  ]);
}
  where
    at_end : (q : ℕ) → q ≡ count → get_or (now_begins ++ now ∷ []) q 4294967295 ≡ now
    at_end q last = get_or_push now_begins now 4294967295 q (packs.long ∙ sym last)

    in_front : (q : ℕ) → q < count → get_or (now_begins ++ now ∷ []) q 4294967295 ≡ get_or now_begins q 4294967295
    in_front q before = (let long = packs.long in get_or_append_left now_begins (now ∷ []) 4294967295 q (omega arith))

    there : (q : ℕ) → (q ≡ count) ⊎ ((q < count) ⊎ (count < q)) → get_or (now_begins ++ now ∷ []) q 4294967295 ≢ 4294967295 → get_or (now_begins ++ now ∷ []) q 4294967295 ≢ 4294967294
        → IsRecord clock (length renewed) new_pool (get_or (now_begins ++ now ∷ []) q 4294967295)
    there q (inl last) one other = subst (IsRecord clock (length renewed) new_pool) (sym (at_end q last)) (copied.place (λ e. one (at_end q last ∙ e)) (λ e. other (at_end q last ∙ e)))
    there q (inr (inl before)) one other =
        subst (λ p. IsRecord clock (length renewed) p (get_or (now_begins ++ now ∷ []) q 4294967295)) (sym copied.after.1)
        (subst (IsRecord clock (length renewed) (now_pool ++ copied.after.0)) (sym (in_front q before))
        (record_grown clock (length renewed) now_pool copied.after.0 (get_or now_begins q 4294967295) (packs.are.records q (λ e. one (in_front q before ∙ e)) (λ e. other (in_front q before ∙ e)))))
    there q (inr (inr past)) one other = (let long : length (now_begins ++ now ∷ []) ≡ count + 1 = length_push now_begins now ∙ ap (λ n. n + 1) packs.long in absurd (one (get_or_past (now_begins ++ now ∷ []) q 4294967295 (omega arith))))

-- all were
pub packs_all : (clock : ℕ) (renewed begins pool : List ℕ) (count : ℕ) (now_begins now_pool : List ℕ) → Packs clock renewed begins pool count now_begins now_pool → length begins ≤ count
    → (q : ℕ) → told renewed now_pool (get_or now_begins q 4294967295) ≡ told renewed pool (get_or begins q 4294967295)
packs_all clock renewed begins pool count now_begins now_pool packs all q = elim (cases_lt q count) [
  | inl before ↦ packs.same q before
  | inr past ↦
      (let long = packs.long in
      ap (told renewed now_pool) (get_or_past now_begins q 4294967295 (omega arith)) ∙ told_none renewed now_pool ∙ sym (ap (told renewed pool) (get_or_past begins q 4294967295 (omega arith)) ∙ told_none renewed pool))
]

-- the same is known
pub known_packed : (renewed begins pool now_begins now_pool : List ℕ) → ((q : ℕ) → told renewed now_pool (get_or now_begins q 4294967295) ≡ told renewed pool (get_or begins q 4294967295))
    → (q : ℕ) → known (map (told renewed now_pool) now_begins) q ≡ known (map (told renewed pool) begins) q
known_packed renewed begins pool now_begins now_pool same q = known_told renewed now_pool now_begins q ∙ same q ∙ sym (known_told renewed pool begins q)

-- a record that is not known is copied to no place
pub copied_none : (clock : ℕ) (renewed pool : List ℕ) (begin : ℕ) (old : List ℕ) → length old ≤ 4294967294 → told renewed pool begin ≡ None → IsCopied clock renewed pool begin old old 4294967295
copied_none clock renewed pool begin old few none = record {
  few = few;
  after = ([], sym (append-nil old));
  same = told_none renewed old ∙ sym none;
  place = λ one other. absurd (one refl);
}

-- one that is known is written
pub copied_some : (clock : ℕ) (renewed pool : List ℕ) (begin : ℕ) (to old new : List ℕ) (now : ℕ) → ((n : ℕ) → get_or renewed n 0 ≤ clock) → (begin ≢ 4294967295 → begin ≢ 4294967294 → IsRecord clock (length renewed) pool begin)
    → told renewed pool begin ≡ Some to → IsWritten clock to old new now → IsCopied clock renewed pool begin old new now
copied_some clock renewed pool begin to old new now by_now there is written = record {
  few = written.few;
  after = written_after clock to old new now written;
  same = told_written renewed clock to old new now written by_now ∙ sym is;
  place = λ one other. record_written clock (length renewed) to old new now written (told_below clock renewed pool begin to there is) other;
}
