-- Uploads that are open, by a host's accounts and by the world that it shows.
use Rattle.std.proofs.Common.{◌≡◌, ◌∙◌, Bool, true, false, cond, T, ap, refl, subst, sym, ℕ, List, [], ◌∷◌, ◌++◌, append-nil, is_some, map, Option, Some, None}
use Rattle.std.specs.Prelude.{flat_map}
use Rattle.std.specs.List.{filter}
use Rattle.std.specs.Option.{option_and_then, option_map}
use Rattle.std.proofs.lemmas.List.{map-append}
use Rattle.std.proofs.lemmas.List.Concat.{flat_map-cons}
use Rattle.std.proofs.lemmas.List.Elements.{filter-append}
use Rattle.std.specs.FinMap.{entries, entries-from_sorted, entries_sorted, get}
use Rattle.git_name.specs.Name.{name_cmp}
use Rattle.push_stream.specs.Reading.{Reading}
use Rattle.push_stream.specs.Upload.{UploadValue, upload_of}
use Rattle.fork_reach.specs.Source.{Objects}
use Rattle.fork_ledger.specs.Tenants.{VaultState}
use Rattle.fork_model.specs.Uploads.{upload_among}
use Rattle.fork_model.specs.View.{View}
use Rattle.fork_host.specs.Own.{staged_in}
use Rattle.fork_host.specs.Shown.{Account, HostState, Trusted, entry_shown, shown, world_of}
use Rattle.fork_host.specs.Staged.{Came}
use Rattle.fork_host.specs.Uploads.{opened, upload_at, uploading_in, uploads_of}
use Rattle.fork_host.proofs.StagedLemmas.{came_upload}
use Rattle.fork_host.proofs.WorldLemmas.{get_world, same_sorted}

abbrev Rows : Type 0
Rows = List (List ℕ × Account)

abbrev names_of : List (List ℕ × UploadValue) → List (List ℕ)
names_of uploads = map (λ upload. upload.0) uploads

-- an upload is open in an account if and only if one is open in the view
open_among : (staged : Objects) (upload : Option Reading) → is_some upload ≡ is_some (option_map (upload_among staged) upload)
open_among staged None = refl
open_among staged (Some reading) = refl

open_shown : (vault : VaultState) (t : List ℕ) (account : Account) → is_some account.upload ≡ is_some (shown account vault t).upload
open_shown vault t account = open_among (staged_in vault t) account.upload

-- one account's name, if its upload is open
one_shown : (e : List ℕ × Account) (rest : Rows) (shows : Bool) (upload : Option UploadValue) → shows ≡ is_some upload
    → map (λ entry. entry.0) (cond shows (e ∷ rest) rest) ≡ names_of (opened e.0 upload) ++ map (λ entry. entry.0) rest
one_shown e rest true (Some upload) is = refl
one_shown e rest false None is = refl
one_shown e rest true None is = (let differs : ⊥ = cc in absurd differs)
one_shown e rest false (Some upload) is = (let differs : ⊥ = cc in absurd differs)

all_shown : (vault : VaultState) (es : Rows) → uploading_in es ≡ names_of (flat_map (λ entry. opened entry.0 entry.1.upload) (map (entry_shown vault) es))
all_shown vault [] = refl
all_shown vault (e ∷ es) =
    let view : View = shown e.1 vault e.0 in
    let rest = flat_map (λ (entry : List ℕ × View). opened entry.0 entry.1.upload) (map (entry_shown vault) es) in
    one_shown e (filter (λ entry. is_some entry.1.upload) es) (is_some e.1.upload) view.upload (open_shown vault e.0 e.1)
    ∙ ap (λ names. names_of (opened e.0 view.upload) ++ names) (all_shown vault es)
    ∙ sym (map-append (λ (upload : List ℕ × UploadValue). upload.0) (opened e.0 view.upload) rest)
    ∙ ap names_of (sym (flat_map-cons (λ (entry : List ℕ × View). opened entry.0 entry.1.upload) (entry_shown vault e) (map (entry_shown vault) es)))

-- the tenants whose accounts have an open upload are those of the world's uploads
pub uploading_shown : (state : HostState) → uploading_in (entries state.accounts) ≡ map (λ upload. upload.0) (uploads_of (world_of state))
unfolding world_of
uploading_shown state =
    all_shown state.vault (entries state.accounts)
    ∙ ap (λ es. names_of (flat_map (λ entry. opened entry.0 entry.1.upload) es)) (sym (entries-from_sorted name_cmp (map (entry_shown state.vault) (entries state.accounts)) (subst T (sym (same_sorted state.vault (entries state.accounts))) (entries_sorted state.accounts))))

-- one more account
uploading_more : (es : Rows) (e : List ℕ × Account) → uploading_in (es ++ e ∷ []) ≡ uploading_in es ++ cond (is_some e.1.upload) (e.0 ∷ []) []
uploading_more es e =
    ap (map (λ entry. entry.0)) (filter-append (λ (entry : List ℕ × Account). is_some entry.1.upload) es (e ∷ []))
    ∙ map-append (λ (entry : List ℕ × Account). entry.0) (filter (λ entry. is_some entry.1.upload) es) (filter (λ entry. is_some entry.1.upload) (e ∷ []))
    ∙ ap (λ last. uploading_in es ++ last) (by (is_some e.1.upload))
  where
    by : (shows : Bool) → map (λ (entry : List ℕ × Account). entry.0) (cond shows (e ∷ []) []) ≡ cond shows (e.0 ∷ []) []
    by true = refl
    by false = refl

-- with an open upload: a copy of its name comes after the others
pub more_uploading : (names more : List (List ℕ)) (copied : List ℕ) (es : Rows) (e : List ℕ × Account) → more ≡ names ++ copied ∷ [] → copied ≡ e.0 → names ≡ uploading_in es → is_some e.1.upload ≡ true → more ≡ uploading_in (es ++ e ∷ [])
more_uploading names more copied es e grown same is there =
    grown ∙ ap (λ name. names ++ name ∷ []) same ∙ ap (λ so_far. so_far ++ e.0 ∷ []) is ∙ ap (λ b. uploading_in es ++ cond b (e.0 ∷ []) []) (sym there) ∙ sym (uploading_more es e)

-- with no open upload
pub still_uploading : (names : List (List ℕ)) (es : Rows) (e : List ℕ × Account) → names ≡ uploading_in es → is_some e.1.upload ≡ false → names ≡ uploading_in (es ++ e ∷ [])
still_uploading names es e is absent =
    is ∙ sym (append-nil (uploading_in es)) ∙ ap (λ b. uploading_in es ++ cond b (e.0 ∷ []) []) (sym absent) ∙ sym (uploading_more es e)

-- a tenant's upload is its account's, with what it has staged
upload_shown : (state : HostState) (t : List ℕ) → option_and_then (λ account. (shown account state.vault t).upload) (get state.accounts t) ≡ upload_at (world_of state) t
upload_shown state t = by (get state.accounts t) ∙ ap (option_and_then (λ view. view.upload)) (sym (get_world state t))
  where
    by : (o : Option Account) → option_and_then (λ account. (shown account state.vault t).upload) o ≡ option_and_then (λ view. view.upload) (option_map (λ account. shown account state.vault t) o)
    by None = refl
    by (Some account) = refl

-- there is none if the tenant does not exist
pub upload_unknown : (state : HostState) (t : List ℕ) → get state.accounts t ≡ None → ◌≡◌ {A = Option UploadValue} None (upload_at (world_of state) t)
upload_unknown state t none = ap (option_and_then (λ account. (shown account state.vault t).upload)) (sym none) ∙ upload_shown state t

-- or has none open
pub upload_none : (state : HostState) (t : List ℕ) (account : Account) → get state.accounts t ≡ Some account → account.upload ≡ None → ◌≡◌ {A = Option UploadValue} None (upload_at (world_of state) t)
upload_none state t account here none =
    sym (ap (option_map (upload_among (staged_in state.vault t))) none) ∙ ap (option_and_then (λ a. (shown a state.vault t).upload)) (sym here) ∙ upload_shown state t

-- and one that is open is what was received
pub upload_some : (state : HostState) (t : List ℕ) (account : Account) (reading : Reading) (bytes : List ℕ) → Trusted state → get state.accounts t ≡ Some account → account.upload ≡ Some reading → Came state.vault.honest bytes reading (staged_in state.vault t)
    → Some (upload_of bytes) ≡ upload_at (world_of state) t
upload_some state t account reading bytes honest here is came =
    ap Some (sym (came_upload bytes reading state.vault.honest (staged_in state.vault t) honest came)) ∙ sym (ap (option_map (upload_among (staged_in state.vault t))) is)
    ∙ ap (option_and_then (λ a. (shown a state.vault t).upload)) (sym here) ∙ upload_shown state t
