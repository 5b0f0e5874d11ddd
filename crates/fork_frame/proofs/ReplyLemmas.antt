-- The same bytes are the same replies.
use Rattle.std.proofs.Common.{◌≡◌, ◌≢◌, ℕ, ◌<◌, ◌^◌, All, List, ◌∷◌, ◌++◌, codes, length, refl, sym, ◌∙◌, arith}
use Rattle.std.specs.Fmt.{decimal}
use Rattle.std.proofs.lemmas.List.{append_assoc}
use Rattle.std.proofs.lemmas.List.Elements.{All-from_recursion, All-same, recursion_from_All}
use Rattle.fork_frame.specs.Reply.{OneReply, NoReplyIsLast}
use Rattle.fork_frame.proofs.LineLemmas.{decimal_unique, decimal_without, split_unique}
use Rattle.fork_frame.proofs.LawLemmas.{fronts}

length_first : (a r : List ℕ) → (decimal (length a) ++ 10 ∷ a) ++ r ≡ decimal (length a) ++ 10 ∷ (a ++ r)
length_first a r = append_assoc (decimal (length a)) (10 ∷ a) r

no_lf : (n : ℕ) → n < 2 ^ 64 → All (λ byte. byte ≢ 10) (decimal n)
no_lf n small = decimal_without 10 (omega arith) n small

pub one_reply : OneReply
one_reply a b r s small other is =
    let parts = split_unique 10 (decimal (length a)) (a ++ r) (decimal (length b)) (b ++ s) (no_lf (length a) small) (no_lf (length b) other) (sym (length_first a r) ∙ is ∙ length_first b s) in
    fronts a b r s (decimal_unique (length a) (length b) small other parts.0) parts.1

last_plain : All (λ byte. byte ≢ 10) (codes "! bad-frame")
last_plain = All-from_recursion (λ byte. byte ≢ 10) (codes "! bad-frame")
    (other 33 (omega arith), (other 32 (omega arith), (other 98 (omega arith), (other 97 (omega arith), (other 100 (omega arith), (other 45 (omega arith), (other 102 (omega arith), (other 114 (omega arith), (other 97 (omega arith), (other 109 (omega arith), (other 101 (omega arith), tt)))))))))))
  where
    other : (byte : ℕ) → 10 < byte → byte ≢ 10
    other byte above is = absurd (omega arith)

last_first : (s : List ℕ) → codes "! bad-frame\n" ++ s ≡ codes "! bad-frame" ++ 10 ∷ s
last_first s = refl

pub no_reply_is_last : NoReplyIsLast
no_reply_is_last a r s small is =
    let parts = split_unique 10 (decimal (length a)) (a ++ r) (codes "! bad-frame") s (no_lf (length a) small) last_plain (sym (length_first a r) ∙ is ∙ last_first s) in
    let no_mark : All (λ byte. byte ≢ 33) (decimal (length a)) = decimal_without 33 (omega arith) (length a) small in
    (recursion_from_All (λ byte. byte ≢ 33) (codes "! bad-frame") (All-same (λ byte. byte ≢ 33) _ _ (sym parts.0) no_mark)).0 refl
