-- What a title says of how long its record is.
use Rattle.std.proofs.Common.{◌≡◌, ◌≢◌, ℕ, ◌<◌, ◌≤◌, List, ◌++◌, Option, Some, None, length, sym, ◌∙◌, ap, append_assoc, arith}
use Rattle.packed_store.specs.Entry.{kind_and_length}
use Rattle.packed_store.specs.Reading.{CanSay, Claims, ClaimsNone, IsTitle, said_size, title_bytes}
use Rattle.packed_store.proofs.LawLemmas.{SameFront, same_front}

-- bytes begin with one title at the most
pub one_title : (bytes : List ℕ) (kind other len count : ℕ) (name named rest more : List ℕ) → IsTitle bytes kind len name rest → IsTitle bytes other count named more → SameFront kind other len count (name ++ rest) (named ++ more)
one_title bytes kind other len count name named rest more first second =
    same_front kind other len count (name ++ rest) (named ++ more) first.right second.right
    (sym (append_assoc (kind_and_length kind len) name rest) ∙ sym first.whole ∙ second.whole ∙ append_assoc (kind_and_length other count) named more)

-- where no title is, none says a length
pub no_title_claims : (bytes : List ℕ) → ((kind len : ℕ) (name rest : List ℕ) → length name ≡ 32 → CanSay kind len → bytes ≢ title_bytes kind len name ++ rest) → ClaimsNone bytes
no_title_claims bytes none size claims = none claims.kind claims.len claims.name claims.rest claims.title.named.length claims.title.right claims.title.whole

-- what the title says is the size
same_size : (bytes : List ℕ) (kind len size : ℕ) (name rest : List ℕ) → IsTitle bytes kind len name rest → Claims bytes size → said_size kind len ≡ Some size
same_size bytes kind len size name rest title claims =
    let same = one_title bytes kind claims.kind len claims.len name claims.name rest claims.rest title claims.title in
    ap (λ (k : ℕ). said_size k len) same.kinds ∙ ap (said_size claims.kind) same.counts ∙ claims.said

-- a title of no kind says none
pub other_claims : (bytes : List ℕ) (kind len : ℕ) (name rest : List ℕ) (o : Option ℕ) → IsTitle bytes kind len name rest → o ≡ said_size kind len → None ≡ o → ClaimsNone bytes
other_claims bytes kind len name rest o title is none size claims =
    let said = same_size bytes kind len size name rest title claims in
    let never : ⊥ = cc in
    never

pub some_of : (a b : ℕ) → Some a ≡ Some b → a ≡ b
some_of a b is = cc

-- one whose bytes are not all there says none
pub long_claims : (bytes : List ℕ) (kind len count : ℕ) (name rest : List ℕ) → IsTitle bytes kind len name rest → Some count ≡ said_size kind len → length bytes < count → ClaimsNone bytes
long_claims bytes kind len count name rest title is long size claims =
    let same : count ≡ size = some_of count size (is ∙ same_size bytes kind len size name rest title claims) in
    let never : ⊥ = omega (arith, same, long, claims.there) in
    never

-- one whose bytes are there says their number
pub claims_of : (bytes : List ℕ) (kind len count : ℕ) (name rest : List ℕ) → IsTitle bytes kind len name rest → Some count ≡ said_size kind len → count ≤ length bytes → Claims bytes count
claims_of bytes kind len count name rest title is there = record { kind = kind; len = len; name = name; rest = rest; title = title; said = sym is; there = there }
