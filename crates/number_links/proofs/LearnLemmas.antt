-- What is known once a number's links are learned.
use Rattle.std.proofs.Common.{◌≡◌, ◌≢◌, ◌++◌, ℕ, ◌<◌, ◌≤◌, List, Some, All, length, set, map, get_or, sym, ap, subst, ◌∙◌, arith, inl, inr}
use Rattle.std.proofs.lemmas.Bool.{cases_eq}
use Rattle.std.proofs.lemmas.List.{get_or-set_other, get_or-set_same}
use Rattle.number_links.specs.Known.{known}
use Rattle.number_links.specs.Records.{AreRecords, IsRecord, IsWritten, told}
use Rattle.number_links.proofs.RecordLemmas.{known_told, record_grown, record_later, record_written, told_grown, told_noted, told_written, written_after}

-- places and renewals are as they were, by number: so is what is known
pub known_kept : (renewed pool begins now_renewed now_begins : List ℕ) → ((m : ℕ) → get_or now_renewed m 0 ≡ get_or renewed m 0) → ((q : ℕ) → get_or now_begins q 4294967295 ≡ get_or begins q 4294967295)
    → (q : ℕ) → known (map (told now_renewed pool) now_begins) q ≡ known (map (told renewed pool) begins) q
known_kept renewed pool begins now_renewed now_begins noted places q =
    known_told now_renewed pool now_begins q ∙ ap (told now_renewed pool) (places q) ∙ told_noted renewed now_renewed pool (get_or begins q 4294967295) noted ∙ sym (known_told renewed pool begins q)

-- and the records are sound
pub records_kept : (clock : ℕ) (renewed begins pool now_renewed now_begins : List ℕ) → ((m : ℕ) → get_or now_renewed m 0 ≡ get_or renewed m 0) → length renewed ≤ length now_renewed → ((q : ℕ) → get_or now_begins q 4294967295 ≡ get_or begins q 4294967295)
    → AreRecords clock renewed begins pool → AreRecords clock now_renewed now_begins pool
records_kept clock renewed begins pool now_renewed now_begins noted longer places are = record {
  by_now = λ m. subst (λ t. t ≤ clock) (sym (noted m)) (are.by_now m);
  few = are.few;
  records = λ q one other.
      (let same = places q in
      subst (IsRecord clock (length now_renewed) pool) (sym same)
      (record_later clock clock (length renewed) (length now_renewed) pool (get_or begins q 4294967295) (omega arith) longer (are.records q (λ e. one (same ∙ e)) (λ e. other (same ∙ e)))));
}

-- a record was written for a number: the others tell the same
pub known_beside : (clock : ℕ) (renewed begins pool : List ℕ) (to now : List ℕ) (n begin : ℕ) → AreRecords clock renewed begins pool → IsWritten clock to pool now begin
    → (q : ℕ) → q ≢ n → known (map (told renewed now) (set begins n begin)) q ≡ known (map (told renewed pool) begins) q
known_beside clock renewed begins pool to now n begin are written q apart =
    let after = written_after clock to pool now begin written in
    known_told renewed now (set begins n begin) q ∙ ap (told renewed now) (get_or-set_other begins n q begin 4294967295 apart) ∙ ap (λ p. told renewed p (get_or begins q 4294967295)) after.1
    ∙ told_grown clock (length renewed) renewed pool after.0 (get_or begins q 4294967295) (are.records q) ∙ sym (known_told renewed pool begins q)

-- and this one tells what was learned
pub known_now : (clock : ℕ) (renewed begins pool : List ℕ) (to now : List ℕ) (n begin : ℕ) → AreRecords clock renewed begins pool → IsWritten clock to pool now begin → n < length begins
    → known (map (told renewed now) (set begins n begin)) n ≡ Some to
known_now clock renewed begins pool to now n begin are written inside =
    known_told renewed now (set begins n begin) n ∙ ap (told renewed now) (get_or-set_same begins n begin 4294967295 inside) ∙ told_written renewed clock to pool now begin written are.by_now

-- all are records
pub records_now : (clock : ℕ) (renewed begins pool : List ℕ) (to now : List ℕ) (n begin : ℕ) → AreRecords clock renewed begins pool → IsWritten clock to pool now begin → n < length begins → All (λ m. m < length renewed) to
    → AreRecords clock renewed (set begins n begin) now
records_now clock renewed begins pool to now n begin are written inside below = record {
  by_now = are.by_now;
  few = written.few;
  records = λ q. elim (cases_eq q n) as (λ _. get_or (set begins n begin) q 4294967295 ≢ 4294967295 → get_or (set begins n begin) q 4294967295 ≢ 4294967294 → IsRecord clock (length renewed) now (get_or (set begins n begin) q 4294967295)) [
    | inl same ↦ λ one other.
        (let is : get_or (set begins n begin) q 4294967295 ≡ begin = ap (λ k. get_or (set begins n begin) k 4294967295) same ∙ get_or-set_same begins n begin 4294967295 inside in
        subst (IsRecord clock (length renewed) now) (sym is) (record_written clock (length renewed) to pool now begin written below (λ e. other (is ∙ e))))
    | inr apart ↦ λ one other.
        (let is : get_or (set begins n begin) q 4294967295 ≡ get_or begins q 4294967295 = get_or-set_other begins n q begin 4294967295 apart in
        let after = written_after clock to pool now begin written in
        subst (λ p. IsRecord clock (length renewed) p (get_or (set begins n begin) q 4294967295)) (sym after.1)
        (subst (IsRecord clock (length renewed) (pool ++ after.0)) (sym is) (record_grown clock (length renewed) pool after.0 (get_or begins q 4294967295) (are.records q (λ e. one (is ∙ e)) (λ e. other (is ∙ e))))))
  ];
}
