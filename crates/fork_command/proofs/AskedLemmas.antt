-- Words that ask for a command are not refused.
use Rattle.std.proofs.Common.{◌≡◌, ◌≢◌, ◌∙◌, inl, inr, sym, ap, subst, arith, All, ℕ, List, [], ◌∷◌, ◌++◌, map, drop, get_or, codes, Option, Some, unwrap_or, refl}
use Rattle.std.proofs.lemmas.List.Elements.{All-drop}
use Rattle.clap.specs.Words.{Row, Text, first_of}
use Rattle.fork_request.specs.Names.{IsTenantName}
use Rattle.fork_command.specs.declared.command.Command.{Command}
use Rattle.fork_command.specs.declared.command.Command.TheVariants.{HashObject, Run, Serve, Check, Upgrade, AddTenant, SetLimit, RemoveTenant, Repack}
use Rattle.fork_command.specs.declared.error.CommandError.{CommandError}
use Rattle.fork_command.specs.declared.error.CommandError.TheVariants.{Help, Usage, BadTenant, Memory}
use Rattle.fork_command.specs.declared.grant.Grant.{Grant}
use Rattle.fork_command.specs.Grant.{AreGrants, IsBadGrant, IsFirstBad, IsGrant, grant_word}
use Rattle.fork_command.specs.Command.{Asks, BadOfAdd, BadOfLimit, BadOfRemove, BadOfRun, BadOfServe, IsBadTenant, IsBadType, IsGrantRefused, IsNoGrant, IsNoTenant, IsRefused, IsTenantRefused, tenants_given, type_given}
use Rattle.fork_command.proofs.MetLemmas.{rows_met, third_letter}

-- a word among the words of grants is one of them
word_of_grant : (grants before : List Grant) (word : List ℕ) (behind : List (List ℕ)) → All IsGrant grants → map grant_word grants ≡ map grant_word before ++ word ∷ behind
    → (grant : Grant) × IsGrant grant × (word ≡ grant_word grant)
word_of_grant [] [] word behind right is = absurd (cc)
word_of_grant [] (b ∷ before) word behind right is = absurd (cc)
word_of_grant (g ∷ grants) [] word behind right is = (g, right 0 g (omega arith), sym (ap (λ (words : List (List ℕ)). get_or words 0 []) is))
word_of_grant (g ∷ grants) (b ∷ before) word behind right is = word_of_grant grants before word behind (All-drop IsGrant 1 (g ∷ grants) right) (ap (drop 1) is)

none_is_bad : (grants : List Grant) (words : List (List ℕ)) (word : List ℕ) → AreGrants grants words → IsFirstBad word words → ⊥
none_is_bad grants words word given first =
    let found = word_of_grant grants first.before word first.behind given.right (sym given.spelled ∙ first.parts) in
    first.bad found.0 found.1 found.2

-- one place has one word
one_word : {x y : List ℕ} → Some x ≡ Some y → x ≡ y
one_word is = ap (λ (o : Option (List ℕ)). unwrap_or o []) is

apart : (met : Option (Text × List Row)) (n m : ℕ) → third_letter met ≡ n → third_letter met ≡ m → n ≢ m → ⊥
apart met n m one other differs = differs (sym one ∙ other)

-- TYPE is valid if an object is asked for, and otherwise there is none
type_is_good : (met : Option (Text × List Row)) (command : Command) → Asks met command → IsBadType met → ⊥
type_is_good met (HashObject kind) asked bad = bad.2 kind (ap (λ (m : Option (Text × List Row)). type_given (rows_met m)) (sym bad.1 ∙ asked.1) ∙ asked.2)
type_is_good met (Run hosting) asked bad = apart met 110 115 (ap third_letter asked.1) (ap third_letter bad.1) (omega arith)
type_is_good met (Serve socket connections at_once hosting) asked bad = apart met 114 115 (ap third_letter asked.1) (ap third_letter bad.1) (omega arith)
type_is_good met (Check dir) asked bad = apart met 101 115 (ap third_letter asked.1) (ap third_letter bad.1) (omega arith)
type_is_good met (Upgrade dir) asked bad = apart met 103 115 (ap third_letter asked.1) (ap third_letter bad.1) (omega arith)
type_is_good met (AddTenant dir grant) asked bad = apart met 100 115 (ap third_letter asked.0.1) (ap third_letter bad.1) (omega arith)
type_is_good met (SetLimit dir grant) asked bad = apart met 116 115 (ap third_letter asked.0.1) (ap third_letter bad.1) (omega arith)
type_is_good met (RemoveTenant dir tenant) asked bad = apart met 109 115 (ap third_letter asked.0.1) (ap third_letter bad.1) (omega arith)
type_is_good met (Repack dir packed) asked bad = apart met 112 115 (ap third_letter asked.met_is) (ap third_letter bad.1) (omega arith)

-- a word that is a grant is not refused as none
grant_is_good : (grant : Grant) (rows others : List Row) (word : List ℕ) → rows ≡ others → first_of (codes "tenant") rows ≡ Some (grant_word grant) → IsGrant grant → IsNoGrant others word → ⊥
grant_is_good grant rows others word same given right bad = bad.1 grant right (one_word (sym bad.0 ∙ ap (λ (rs : List Row). first_of (codes "tenant") rs) (sym same) ∙ given))

-- nor is one that is a name
tenant_is_good : (tenant : List ℕ) (rows others : List Row) (word : List ℕ) → rows ≡ others → first_of (codes "tenant") rows ≡ Some tenant → IsTenantName tenant → IsNoTenant others word → ⊥
tenant_is_good tenant rows others word same given right bad = bad.1 (subst IsTenantName (sym (one_word (sym bad.0 ∙ ap (λ (rs : List Row). first_of (codes "tenant") rs) (sym same) ∙ given))) right)

-- and so no word for a tenant is refused
tenants_are_good : (met : Option (Text × List Row)) (command : Command) (word : List ℕ) → Asks met command → IsBadTenant met word → ⊥
tenants_are_good met (HashObject kind) word asked (BadOfRun rows is bad) = apart met 115 110 (ap third_letter asked.1) (ap third_letter is) (omega arith)
tenants_are_good met (Run hosting) word asked (BadOfRun rows is bad) =
    none_is_bad hosting.tenants.items (tenants_given rows) word
    (subst (λ (rs : List Row). AreGrants hosting.tenants.items (tenants_given rs)) (ap rows_met (sym asked.1 ∙ is)) asked.2.tenants) bad
tenants_are_good met (Serve socket connections at_once hosting) word asked (BadOfRun rows is bad) = apart met 114 110 (ap third_letter asked.1) (ap third_letter is) (omega arith)
tenants_are_good met (Check dir) word asked (BadOfRun rows is bad) = apart met 101 110 (ap third_letter asked.1) (ap third_letter is) (omega arith)
tenants_are_good met (Upgrade dir) word asked (BadOfRun rows is bad) = apart met 103 110 (ap third_letter asked.1) (ap third_letter is) (omega arith)
tenants_are_good met (AddTenant dir grant) word asked (BadOfRun rows is bad) = apart met 100 110 (ap third_letter asked.0.1) (ap third_letter is) (omega arith)
tenants_are_good met (SetLimit dir grant) word asked (BadOfRun rows is bad) = apart met 116 110 (ap third_letter asked.0.1) (ap third_letter is) (omega arith)
tenants_are_good met (RemoveTenant dir tenant) word asked (BadOfRun rows is bad) = apart met 109 110 (ap third_letter asked.0.1) (ap third_letter is) (omega arith)
tenants_are_good met (Repack dir packed) word asked (BadOfRun rows is bad) = apart met 112 110 (ap third_letter asked.met_is) (ap third_letter is) (omega arith)
tenants_are_good met (HashObject kind) word asked (BadOfServe rows is bad) = apart met 115 114 (ap third_letter asked.1) (ap third_letter is) (omega arith)
tenants_are_good met (Run hosting) word asked (BadOfServe rows is bad) = apart met 110 114 (ap third_letter asked.1) (ap third_letter is) (omega arith)
tenants_are_good met (Serve socket connections at_once hosting) word asked (BadOfServe rows is bad) =
    none_is_bad hosting.tenants.items (tenants_given rows) word
    (subst (λ (rs : List Row). AreGrants hosting.tenants.items (tenants_given rs)) (ap rows_met (sym asked.1 ∙ is)) asked.2.hosted.tenants) bad
tenants_are_good met (Check dir) word asked (BadOfServe rows is bad) = apart met 101 114 (ap third_letter asked.1) (ap third_letter is) (omega arith)
tenants_are_good met (Upgrade dir) word asked (BadOfServe rows is bad) = apart met 103 114 (ap third_letter asked.1) (ap third_letter is) (omega arith)
tenants_are_good met (AddTenant dir grant) word asked (BadOfServe rows is bad) = apart met 100 114 (ap third_letter asked.0.1) (ap third_letter is) (omega arith)
tenants_are_good met (SetLimit dir grant) word asked (BadOfServe rows is bad) = apart met 116 114 (ap third_letter asked.0.1) (ap third_letter is) (omega arith)
tenants_are_good met (RemoveTenant dir tenant) word asked (BadOfServe rows is bad) = apart met 109 114 (ap third_letter asked.0.1) (ap third_letter is) (omega arith)
tenants_are_good met (Repack dir packed) word asked (BadOfServe rows is bad) = apart met 112 114 (ap third_letter asked.met_is) (ap third_letter is) (omega arith)
tenants_are_good met (HashObject kind) word asked (BadOfAdd rows is bad) = apart met 115 100 (ap third_letter asked.1) (ap third_letter is) (omega arith)
tenants_are_good met (Run hosting) word asked (BadOfAdd rows is bad) = apart met 110 100 (ap third_letter asked.1) (ap third_letter is) (omega arith)
tenants_are_good met (Serve socket connections at_once hosting) word asked (BadOfAdd rows is bad) = apart met 114 100 (ap third_letter asked.1) (ap third_letter is) (omega arith)
tenants_are_good met (Check dir) word asked (BadOfAdd rows is bad) = apart met 101 100 (ap third_letter asked.1) (ap third_letter is) (omega arith)
tenants_are_good met (Upgrade dir) word asked (BadOfAdd rows is bad) = apart met 103 100 (ap third_letter asked.1) (ap third_letter is) (omega arith)
tenants_are_good met (AddTenant dir grant) word asked (BadOfAdd rows is bad) = grant_is_good grant asked.0.0 rows word (ap rows_met (sym asked.0.1 ∙ is)) asked.0.3 asked.1 bad
tenants_are_good met (SetLimit dir grant) word asked (BadOfAdd rows is bad) = apart met 116 100 (ap third_letter asked.0.1) (ap third_letter is) (omega arith)
tenants_are_good met (RemoveTenant dir tenant) word asked (BadOfAdd rows is bad) = apart met 109 100 (ap third_letter asked.0.1) (ap third_letter is) (omega arith)
tenants_are_good met (Repack dir packed) word asked (BadOfAdd rows is bad) = apart met 112 100 (ap third_letter asked.met_is) (ap third_letter is) (omega arith)
tenants_are_good met (HashObject kind) word asked (BadOfLimit rows is bad) = apart met 115 116 (ap third_letter asked.1) (ap third_letter is) (omega arith)
tenants_are_good met (Run hosting) word asked (BadOfLimit rows is bad) = apart met 110 116 (ap third_letter asked.1) (ap third_letter is) (omega arith)
tenants_are_good met (Serve socket connections at_once hosting) word asked (BadOfLimit rows is bad) = apart met 114 116 (ap third_letter asked.1) (ap third_letter is) (omega arith)
tenants_are_good met (Check dir) word asked (BadOfLimit rows is bad) = apart met 101 116 (ap third_letter asked.1) (ap third_letter is) (omega arith)
tenants_are_good met (Upgrade dir) word asked (BadOfLimit rows is bad) = apart met 103 116 (ap third_letter asked.1) (ap third_letter is) (omega arith)
tenants_are_good met (AddTenant dir grant) word asked (BadOfLimit rows is bad) = apart met 100 116 (ap third_letter asked.0.1) (ap third_letter is) (omega arith)
tenants_are_good met (SetLimit dir grant) word asked (BadOfLimit rows is bad) = grant_is_good grant asked.0.0 rows word (ap rows_met (sym asked.0.1 ∙ is)) asked.0.3 asked.1 bad
tenants_are_good met (RemoveTenant dir tenant) word asked (BadOfLimit rows is bad) = apart met 109 116 (ap third_letter asked.0.1) (ap third_letter is) (omega arith)
tenants_are_good met (Repack dir packed) word asked (BadOfLimit rows is bad) = apart met 112 116 (ap third_letter asked.met_is) (ap third_letter is) (omega arith)
tenants_are_good met (HashObject kind) word asked (BadOfRemove rows is bad) = apart met 115 109 (ap third_letter asked.1) (ap third_letter is) (omega arith)
tenants_are_good met (Run hosting) word asked (BadOfRemove rows is bad) = apart met 110 109 (ap third_letter asked.1) (ap third_letter is) (omega arith)
tenants_are_good met (Serve socket connections at_once hosting) word asked (BadOfRemove rows is bad) = apart met 114 109 (ap third_letter asked.1) (ap third_letter is) (omega arith)
tenants_are_good met (Check dir) word asked (BadOfRemove rows is bad) = apart met 101 109 (ap third_letter asked.1) (ap third_letter is) (omega arith)
tenants_are_good met (Upgrade dir) word asked (BadOfRemove rows is bad) = apart met 103 109 (ap third_letter asked.1) (ap third_letter is) (omega arith)
tenants_are_good met (AddTenant dir grant) word asked (BadOfRemove rows is bad) = apart met 100 109 (ap third_letter asked.0.1) (ap third_letter is) (omega arith)
tenants_are_good met (SetLimit dir grant) word asked (BadOfRemove rows is bad) = apart met 116 109 (ap third_letter asked.0.1) (ap third_letter is) (omega arith)
tenants_are_good met (RemoveTenant dir tenant) word asked (BadOfRemove rows is bad) = tenant_is_good tenant asked.0.0 rows word (ap rows_met (sym asked.0.1 ∙ is)) asked.0.3 asked.1 bad
tenants_are_good met (Repack dir packed) word asked (BadOfRemove rows is bad) = apart met 112 109 (ap third_letter asked.met_is) (ap third_letter is) (omega arith)

pub only_memory : (met : Option (Text × List Row)) (command : Command) (error : CommandError) → Asks met command → IsRefused [] met error → error ≡ Memory
only_memory met command (Help error) asked refused = absurd refused.1
only_memory met command (Usage error) asked refused = elim refused.1 [ inl none ↦ absurd none | inr bad ↦ absurd (type_is_good met command asked bad.1) ]
only_memory met command (BadTenant word) asked refused = absurd (tenants_are_good met command word.now asked refused.1)
only_memory met command Memory asked refused = refl

-- why the word for a tenant and its limit is refused, in words that ask for one
pub grant_refused : (met : Option (Text × List Row)) (rows : List Row) (error : CommandError) → ((word : List ℕ) → IsNoGrant rows word → IsBadTenant met word) → IsGrantRefused rows error → IsRefused [] met error
grant_refused met rows (Help error) bad why = absurd why
grant_refused met rows (Usage error) bad why = absurd why
grant_refused met rows (BadTenant word) bad why = (refl, bad word.now why)
grant_refused met rows Memory bad why = absurd why

-- and why the word for a tenant is
pub tenant_refused : (met : Option (Text × List Row)) (rows : List Row) (error : CommandError) → ((word : List ℕ) → IsNoTenant rows word → IsBadTenant met word) → IsTenantRefused rows error → IsRefused [] met error
tenant_refused met rows (Help error) bad why = absurd why
tenant_refused met rows (Usage error) bad why = absurd why
tenant_refused met rows (BadTenant word) bad why = (refl, bad word.now why)
tenant_refused met rows Memory bad why = absurd why

-- and why the words for tenants and their limits are
pub grants_refused : (met : Option (Text × List Row)) (words : List (List ℕ)) (error : CommandError) → ((word : List ℕ) → IsFirstBad word words → IsBadTenant met word) → IsBadGrant words error → IsRefused [] met error
grants_refused met words (Help error) bad why = absurd why
grants_refused met words (Usage error) bad why = absurd why
grants_refused met words (BadTenant word) bad why = (refl, bad word.now why)
grants_refused met words Memory bad why = tt
