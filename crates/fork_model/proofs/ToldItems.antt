-- An item or a name that is reported as missing names what the tenant does not see.
use Rattle.std.proofs.Common.{◌≡◌, ℕ, ◌≤◌, Bool, true, false, cond, List, [], ◌∷◌, Option, None, Some, Result, Ok, Err, is_some, is_ok, refl, sym, ap, ◌∙◌, arith, length}
use Rattle.std.specs.Prelude.{nat_lt, map}
use Rattle.std.specs.FinMap.{get}
use Rattle.std.proofs.lemmas.Bool.Decides.{nat_tests}
use Rattle.git_name.specs.Object.{Object}
use Rattle.git_reftx.specs.Repository.{Repository}
use Rattle.git_reftx.specs.Transaction.{is_commit}
use Rattle.fork_reach.specs.Source.{Objects, kind_in}
use Rattle.fork_query.specs.Fetch.{fetched_of}
use Rattle.fork_query.specs.Items.{commit_behind, commit_of_item, found_commit, found_name, named_by, object_of_item}
use Rattle.fork_query.specs.MergeBase.{bases_of, bases_told}
use Rattle.fork_query.specs.Objects.{record_found}
use Rattle.fork_query.specs.RevList.{revisions_of}
use Rattle.fork_query.specs.Sides.{Selection, bare, is_excluded, selected, with_item, with_rest}
use Rattle.fork_query.specs.Trees.{rows_or}
use Rattle.fork_query.specs.Peel.{peeled}
use Rattle.fork_request.specs.Names.{is_plain_name}
use Rattle.fork_request.specs.declared.refusal.Refusal.{Refusal}
use Rattle.fork_request.specs.declared.refusal.Refusal.TheVariants.{BadName, Missing, NotACommit, TooMany}
use Rattle.fork_request.specs.declared.reply.Reply.{Reply}
use Rattle.fork_request.specs.declared.reply.Reply.TheVariants.{Refused}
use Rattle.fork_model.specs.Answer.{few_items, named_repository, reply_of}
use Rattle.fork_model.specs.Missing.{InRepository, LacksItem}
use Rattle.fork_model.specs.View.{View}

-- the item that decided
pub item_of : (objects : Objects) (repository : Repository) (judge : List ℕ → Result (List ℕ) Refusal) (items : List (List ℕ)) (name : List ℕ)
    → ((item : List ℕ) → judge item ≡ Err (Missing name) → (named_by repository item ≡ Some name) × (get objects name ≡ None))
    → selected judge items ≡ Err (Missing name) → LacksItem objects repository judge (map bare items) name
item_of objects repository judge [] name names is = absurd (cc)
item_of objects repository judge (one ∷ items) name names is = by (judge (bare one)) refl is (item_of objects repository judge items name names)
  where
    further : (r : Result Selection Refusal) (n : List ℕ) → with_rest (is_excluded one) n r ≡ Err (Missing name) → r ≡ Err (Missing name)
    further (Ok selection) n tells = absurd (cc)
    further (Err refusal) n tells = tells

    by : (r : Result (List ℕ) Refusal) → judge (bare one) ≡ r → with_item (is_excluded one) r (selected judge items) ≡ Err (Missing name)
        → (selected judge items ≡ Err (Missing name) → LacksItem objects repository judge (map bare items) name) → LacksItem objects repository judge (map bare (one ∷ items)) name
    by (Ok n) at tells rest =
        let lacks = rest (further (selected judge items) n tells) in
        record {
          item = lacks.item;
          first = record { before = bare one ∷ lacks.first.before; behind = lacks.first.behind; parts = ap (λ all. bare one ∷ all) lacks.first.parts; passed = (ap is_ok at, lacks.first.passed) };
          named = lacks.named;
          unseen = lacks.unseen;
        }
    by (Err refusal) at tells rest =
        let same : refusal ≡ Missing name = cc in
        let found = names (bare one) (at ∙ ap Err same) in
        record { item = bare one; first = record { before = []; behind = map bare items; parts = refl; passed = tt }; named = found.0; unseen = found.1 }

-- an item that is missing names what is not seen
pub unseen_of : (objects : Objects) (repository : Repository) (name item : List ℕ) → object_of_item objects repository item ≡ Err (Missing name) → (named_by repository item ≡ Some name) × (get objects name ≡ None)
unseen_of objects repository name item is = by (named_by repository item) refl is
  where
    at : (n : List ℕ) (o : Option Object) → get objects n ≡ o → ◌≡◌ {A = Result (List ℕ) Refusal} (cond (is_some o) (Ok n) (Err (Missing n))) (Err (Missing name)) → (Some n ≡ Some name) × (get objects name ≡ None)
    at n None absent tells = (let same : n ≡ name = cc in (ap Some same, ap (get objects) (sym same) ∙ absent))
    at n (Some object) there tells = absurd (cc)

    by : (o : Option (List ℕ)) → named_by repository item ≡ o → found_name objects item o ≡ Err (Missing name) → (named_by repository item ≡ Some name) × (get objects name ≡ None)
    by None named tells = absurd (cc)
    by (Some n) named tells = (let found = at n (get objects n) refl tells in (named ∙ found.0, found.1))

pub commit_unseen_of : (objects : Objects) (repository : Repository) (name item : List ℕ) → commit_of_item objects repository item ≡ Err (Missing name) → (named_by repository item ≡ Some name) × (get objects name ≡ None)
commit_unseen_of objects repository name item is = by (object_of_item objects repository item) refl is
  where
    no_commit : (n end : List ℕ) (b : Bool) → ◌≡◌ {A = Result (List ℕ) Refusal} (cond b (Ok end) (Err (NotACommit n))) (Err (Missing name)) → ⊥
    no_commit n end true tells = cc
    no_commit n end false tells = cc

    never : (n : List ℕ) (o : Option (List ℕ)) → found_commit objects n o ≡ Err (Missing name) → ⊥
    never n None tells = cc
    never n (Some end) tells = no_commit n end (is_commit (kind_in objects end)) tells

    by : (r : Result (List ℕ) Refusal) → object_of_item objects repository item ≡ r → commit_behind objects r ≡ Err (Missing name) → (named_by repository item ≡ Some name) × (get objects name ≡ None)
    by (Ok n) at tells = absurd (never n (peeled objects n) tells)
    by (Err refusal) at tells = unseen_of objects repository name item (at ∙ tells)

-- if the reply to what was found is a refusal, the refusal was found
pub refused_of : (r : Result (List ℕ) Refusal) (refusal : Refusal) → reply_of r ≡ Refused refusal → r ≡ Err refusal
refused_of (Ok text) refusal is = absurd (cc)
refused_of (Err other) refusal is = (let same : other ≡ refusal = cc in ap Err same)

-- a row over a repository
pub in_repository_of : (view : View) (word name : List ℕ) (Holds : Repository → Type 0) (row : Option Repository → Reply × View) → ((row None).0 ≡ Refused (Missing name) → ⊥)
    → ((repository : Repository) → (row (Some repository)).0 ≡ Refused (Missing name) → Holds repository) → (named_repository view word (row (get view.repositories word))).0 ≡ Refused (Missing name) → InRepository view word Holds
in_repository_of view word name Holds row none each is = by (is_plain_name 64 word) refl is
  where
    at : is_plain_name 64 word ≡ true → (o : Option Repository) → get view.repositories word ≡ o → (row o).0 ≡ Refused (Missing name) → InRepository view word Holds
    at plain None absent tells = absurd (none tells)
    at plain (Some repository) found tells = record { named = plain; repository = repository; found = found; holds = each repository tells }

    by : (b : Bool) → is_plain_name 64 word ≡ b → (cond b (row (get view.repositories word)) (Refused (BadName word), view)).0 ≡ Refused (Missing name) → InRepository view word Holds
    by true plain tells = at plain (get view.repositories word) refl tells
    by false plain tells = absurd (cc)

pub few_of : (items : List (List ℕ)) (reply : Reply) (name : List ℕ) → few_items items reply ≡ Refused (Missing name) → (length items ≤ 64) × (reply ≡ Refused (Missing name))
few_of items reply name is = by (nat_lt 64 (length items)) refl is
  where
    by : (b : Bool) → nat_lt 64 (length items) ≡ b → cond b (Refused TooMany) reply ≡ Refused (Missing name) → (length items ≤ 64) × (reply ≡ Refused (Missing name))
    by true many tells = absurd (cc)
    by false few tells = (grind (arith, nat_tests), tells)

pub selected_of : (r : Result Selection Refusal) (objects : Objects) (name : List ℕ) → revisions_of objects r ≡ Err (Missing name) → r ≡ Err (Missing name)
selected_of (Ok selection) objects name is = absurd (cc)
selected_of (Err refusal) objects name is = (let same : refusal ≡ Missing name = cc in ap Err same)

pub fetched_selected : (r : Result Selection Refusal) (objects : Objects) (name : List ℕ) → fetched_of objects r ≡ Err (Missing name) → r ≡ Err (Missing name)
fetched_selected (Ok selection) objects name is = absurd (cc)
fetched_selected (Err refusal) objects name is = (let same : refusal ≡ Missing name = cc in ap Err same)

-- the word of `merge-base` that decided
pub bases_lack_of : (objects : Objects) (repository : Repository) (a b name : List ℕ) → bases_told objects repository a b ≡ Err (Missing name) → LacksItem objects repository (commit_of_item objects repository) (a ∷ b ∷ []) name
unfolding bases_told
bases_lack_of objects repository a b name is = by (commit_of_item objects repository a) (commit_of_item objects repository b) refl refl is
  where
    by : (first second : Result (List ℕ) Refusal) → commit_of_item objects repository a ≡ first → commit_of_item objects repository b ≡ second → bases_of objects first second ≡ Err (Missing name)
        → LacksItem objects repository (commit_of_item objects repository) (a ∷ b ∷ []) name
    by (Ok one) (Ok other) at_a at_b tells = absurd (cc)
    by (Ok one) (Err refusal) at_a at_b tells =
        let found = commit_unseen_of objects repository name b (at_b ∙ tells) in
        record { item = b; first = record { before = a ∷ []; behind = []; parts = refl; passed = (ap is_ok at_a, tt) }; named = found.0; unseen = found.1 }
    by (Err refusal) second at_a at_b tells =
        let found = commit_unseen_of objects repository name a (at_a ∙ tells) in
        record { item = a; first = record { before = []; behind = b ∷ []; parts = refl; passed = tt }; named = found.0; unseen = found.1 }

pub object_of : (objects : Objects) (asked name : List ℕ) (o : Option Object) → get objects asked ≡ o → reply_of (record_found asked o) ≡ Refused (Missing name) → (asked ≡ name) × (get objects name ≡ None)
object_of objects asked name None at is = (let same : asked ≡ name = cc in (same, ap (get objects) (sym same) ∙ at))
object_of objects asked name (Some object) at is = absurd (cc)

no_tree : (asked name : List ℕ) (o : _) → reply_of (rows_or asked o) ≡ Refused (Missing name) → ⊥
no_tree asked name None is = cc
no_tree asked name (Some entries) is = cc

pub tree_of : (objects : Objects) (asked name : List ℕ) (entries : _) (o : Option Object) → get objects asked ≡ o → reply_of (cond (is_some o) (rows_or asked entries) (Err (Missing asked))) ≡ Refused (Missing name) → (asked ≡ name) × (get objects name ≡ None)
tree_of objects asked name entries None at is = (let same : asked ≡ name = cc in (same, ap (get objects) (sym same) ∙ at))
tree_of objects asked name entries (Some object) at is = absurd (no_tree asked name entries is)
