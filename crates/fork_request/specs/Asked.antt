-- What a payload asks (own): a request line of words, LF, and for some requests a body.
use Rattle.std.specs.Prelude.{ℕ, List, [], ◌∷◌, Option, None, Some, option_map, length, nat_le, codes, if◌then◌else◌}
use Rattle.std.specs.Str.{bytes_eq}
use Rattle.git_name.specs.Name.{name_in}
use Rattle.git_name.specs.Number.{number_in}
use Rattle.git_name.specs.Text.{split_once, words_of}
use Rattle.fork_request.specs.declared.request.Request.{Request}
use Rattle.fork_request.specs.declared.request.Request.TheVariants.{Init, Drop, Fork, Push, Part, PartEnd, PartDrop, UpdateRefs, SetHead, Offer, Withdraw, ForkOffer, CatFile, LsTree, RevList, MergeBase, ForEachRef, Head, Offers, Repositories, Fetch, Quota, Prune, Bad}
use Rattle.fork_request.specs.declared.request.TheConstants.{MAX_PAYLOAD}
use Rattle.fork_request.specs.declared.host_request.HostRequest.{HostRequest}
use Rattle.fork_request.specs.declared.host_request.HostRequest.TheVariants.{Sweep, Collect, Census, Fsck, Tenants, Bad as Bad_host}
use Rattle.fork_request.specs.declared.host_request.TheConstants.{MAX_SWEEP}
use Rattle.fork_request.specs.Words.{one_or_two, pair, sole, three, word_and_items}

-- a tenant's request as a value: words and bodies are lists of bytes
pub data Ask : Type 0 where
  Inits : (repository : List ℕ) → Ask
  Drops : (repository : List ℕ) → Ask
  Forks : (source : List ℕ) (copy : List ℕ) → Ask
  Pushes : (repository : List ℕ) (body : List ℕ) → Ask
  SendsPart : (body : List ℕ) → Ask
  EndsParts : (repository : List ℕ) → Ask
  DropsParts : Ask
  Updates : (repository : List ℕ) (body : List ℕ) → Ask
  SetsHead : (repository : List ℕ) (reference : List ℕ) → Ask
  MakesOffer : (repository : List ℕ) (receiver : List ℕ) → Ask
  Withdraws : (repository : List ℕ) (receiver : List ℕ) → Ask
  ForksOffer : (giver : List ℕ) (repository : List ℕ) (copy : List ℕ) → Ask
  AsksObject : (name : List ℕ) → Ask
  AsksTree : (name : List ℕ) → Ask
  AsksRevisions : (repository : List ℕ) (items : List (List ℕ)) → Ask
  AsksBases : (repository : List ℕ) (first : List ℕ) (second : List ℕ) → Ask
  AsksReferences : (repository : List ℕ) (prefix : Option (List ℕ)) → Ask
  AsksHead : (repository : List ℕ) → Ask
  AsksOffers : Ask
  AsksRepositories : Ask
  Fetches : (repository : List ℕ) (items : List (List ℕ)) → Ask
  AsksUse : Ask
  Prunes : Ask
  NoRequest : Ask

-- the value of a request
abbrev pub ask_of : Request → Ask
ask_of (Init repository) = Inits repository.now
ask_of (Drop repository) = Drops repository.now
ask_of (Fork source copy) = Forks source.now copy.now
ask_of (Push repository body) = Pushes repository.now body.now
ask_of (Part body) = SendsPart body.now
ask_of (PartEnd repository) = EndsParts repository.now
ask_of PartDrop = DropsParts
ask_of (UpdateRefs repository body) = Updates repository.now body.now
ask_of (SetHead repository reference) = SetsHead repository.now reference.now
ask_of (Offer repository receiver) = MakesOffer repository.now receiver.now
ask_of (Withdraw repository receiver) = Withdraws repository.now receiver.now
ask_of (ForkOffer giver repository copy) = ForksOffer giver.now repository.now copy.now
ask_of (CatFile name) = AsksObject name
ask_of (LsTree name) = AsksTree name
ask_of (RevList repository items) = AsksRevisions repository.now (words_of items.now)
ask_of (MergeBase repository first second) = AsksBases repository.now first.now second.now
ask_of (ForEachRef repository prefix) = AsksReferences repository.now (option_map (λ word. word.now) prefix)
ask_of (Head repository) = AsksHead repository.now
ask_of Offers = AsksOffers
ask_of Repositories = AsksRepositories
ask_of (Fetch repository items) = Fetches repository.now (words_of items.now)
ask_of Quota = AsksUse
ask_of Prune = Prunes
ask_of Bad = NoRequest

-- `init REPO`
abbrev pub asked_init : Option (List ℕ) → List ℕ → Ask
asked_init (Some repository) [] = Inits repository
asked_init (Some repository) (b ∷ body) = NoRequest
asked_init None body = NoRequest

-- `drop REPO`
abbrev pub asked_drop : Option (List ℕ) → List ℕ → Ask
asked_drop (Some repository) [] = Drops repository
asked_drop (Some repository) (b ∷ body) = NoRequest
asked_drop None body = NoRequest

-- `fork SRC DST`
abbrev pub asked_fork : Option (List ℕ × List ℕ) → List ℕ → Ask
asked_fork (Some p) [] = Forks p.0 p.1
asked_fork (Some p) (b ∷ body) = NoRequest
asked_fork None body = NoRequest

-- `push REPO` and a body
abbrev pub asked_push : Option (List ℕ) → List ℕ → Ask
asked_push (Some repository) body = Pushes repository body
asked_push None body = NoRequest

-- `part-end REPO`
abbrev pub asked_part_end : Option (List ℕ) → List ℕ → Ask
asked_part_end (Some repository) [] = EndsParts repository
asked_part_end (Some repository) (b ∷ body) = NoRequest
asked_part_end None body = NoRequest

-- this request, if nothing follows its line
abbrev pub asked_plain : Ask → List ℕ → Ask
asked_plain ask [] = ask
asked_plain ask (b ∷ body) = NoRequest

-- `update-refs REPO` and a body
abbrev pub asked_update : Option (List ℕ) → List ℕ → Ask
asked_update (Some repository) body = Updates repository body
asked_update None body = NoRequest

-- `set-head REPO REF`
abbrev pub asked_set_head : Option (List ℕ × List ℕ) → List ℕ → Ask
asked_set_head (Some p) body = asked_plain (SetsHead p.0 p.1) body
asked_set_head None body = NoRequest

-- `offer REPO TENANT`
abbrev pub asked_offer : Option (List ℕ × List ℕ) → List ℕ → Ask
asked_offer (Some p) body = asked_plain (MakesOffer p.0 p.1) body
asked_offer None body = NoRequest

-- `withdraw REPO TENANT`
abbrev pub asked_withdraw : Option (List ℕ × List ℕ) → List ℕ → Ask
asked_withdraw (Some p) body = asked_plain (Withdraws p.0 p.1) body
asked_withdraw None body = NoRequest

-- `fork-offer GIVER REPO DST`
abbrev pub asked_fork_offer : Option (List ℕ × List ℕ × List ℕ) → List ℕ → Ask
asked_fork_offer (Some p) body = asked_plain (ForksOffer p.0 p.1 p.2) body
asked_fork_offer None body = NoRequest

-- the object of a name, if there is a name and nothing after it
abbrev pub asked_object : Option (List ℕ) → List ℕ → Ask
asked_object (Some name) [] = AsksObject name
asked_object (Some name) (b ∷ body) = NoRequest
asked_object None body = NoRequest

-- `cat-file NAME`
abbrev pub asked_cat_file : Option (List ℕ) → List ℕ → Ask
asked_cat_file (Some digits) body = asked_object (name_in digits) body
asked_cat_file None body = NoRequest

-- the tree that a name leads to, if there is a name and nothing after it
abbrev pub asked_tree : Option (List ℕ) → List ℕ → Ask
asked_tree (Some name) body = asked_plain (AsksTree name) body
asked_tree None body = NoRequest

-- `ls-tree NAME`
abbrev pub asked_ls_tree : Option (List ℕ) → List ℕ → Ask
asked_ls_tree (Some digits) body = asked_tree (name_in digits) body
asked_ls_tree None body = NoRequest

-- `rev-list REPO ITEM..`
abbrev pub asked_revisions : Option (List ℕ × List (List ℕ)) → List ℕ → Ask
asked_revisions (Some p) body = asked_plain (AsksRevisions p.0 p.1) body
asked_revisions None body = NoRequest

-- `merge-base REPO A B`
abbrev pub asked_bases : Option (List ℕ × List ℕ × List ℕ) → List ℕ → Ask
asked_bases (Some p) body = asked_plain (AsksBases p.0 p.1 p.2) body
asked_bases None body = NoRequest

-- `for-each-ref REPO [PREFIX]`
abbrev pub asked_references : Option (List ℕ × Option (List ℕ)) → List ℕ → Ask
asked_references (Some p) [] = AsksReferences p.0 p.1
asked_references (Some p) (b ∷ body) = NoRequest
asked_references None body = NoRequest

-- `head REPO`
abbrev pub asked_head : Option (List ℕ) → List ℕ → Ask
asked_head (Some repository) body = asked_plain (AsksHead repository) body
asked_head None body = NoRequest

-- `fetch REPO ITEM..`
abbrev pub asked_fetch : Option (List ℕ × List (List ℕ)) → List ℕ → Ask
asked_fetch (Some p) body = asked_plain (Fetches p.0 p.1) body
asked_fetch None body = NoRequest

-- a query, by its verb and the words after it
abbrev pub asked_query : List ℕ → List (List ℕ) → List ℕ → Ask
asked_query verb words body =
    if bytes_eq verb (codes "cat-file") then asked_cat_file (sole words) body
    else if bytes_eq verb (codes "ls-tree") then asked_ls_tree (sole words) body
    else if bytes_eq verb (codes "rev-list") then asked_revisions (word_and_items words) body
    else if bytes_eq verb (codes "merge-base") then asked_bases (three words) body
    else if bytes_eq verb (codes "for-each-ref") then asked_references (one_or_two words) body
    else if bytes_eq verb (codes "head") then asked_head (sole words) body
    else if bytes_eq verb (codes "fetch") then asked_fetch (word_and_items words) body
    else NoRequest

-- a change of offers, or a query, by its verb and the words after it
abbrev pub asked_offering : List ℕ → List (List ℕ) → List ℕ → Ask
asked_offering verb words body =
    if bytes_eq verb (codes "offer") then asked_offer (pair words) body
    else if bytes_eq verb (codes "withdraw") then asked_withdraw (pair words) body
    else if bytes_eq verb (codes "fork-offer") then asked_fork_offer (three words) body
    else asked_query verb words body

-- the request, depending on a verb and the words after it
abbrev pub asked_verb : List ℕ → List (List ℕ) → List ℕ → Ask
asked_verb verb words body =
    if bytes_eq verb (codes "init") then asked_init (sole words) body
    else if bytes_eq verb (codes "drop") then asked_drop (sole words) body
    else if bytes_eq verb (codes "fork") then asked_fork (pair words) body
    else if bytes_eq verb (codes "push") then asked_push (sole words) body
    else if bytes_eq verb (codes "part-end") then asked_part_end (sole words) body
    else if bytes_eq verb (codes "update-refs") then asked_update (sole words) body
    else if bytes_eq verb (codes "set-head") then asked_set_head (pair words) body
    else asked_offering verb words body

-- the request, depending on a verb without words after it: `part` and a body, `part-drop`, `offers`, `repos`,
-- `quota`, `prune`
abbrev pub asked_alone : List ℕ → List ℕ → Ask
asked_alone verb body =
    if bytes_eq verb (codes "part") then SendsPart body
    else if bytes_eq verb (codes "part-drop") then asked_plain DropsParts body
    else if bytes_eq verb (codes "offers") then asked_plain AsksOffers body
    else if bytes_eq verb (codes "repos") then asked_plain AsksRepositories body
    else if bytes_eq verb (codes "quota") then asked_plain AsksUse body
    else if bytes_eq verb (codes "prune") then asked_plain Prunes body
    else NoRequest

-- the request, depending on the line's first word
abbrev pub asked_words : List (List ℕ) → List ℕ → Ask
asked_words [] body = NoRequest
asked_words (verb ∷ []) body = asked_alone verb body
asked_words (verb ∷ word ∷ words) body = asked_verb verb (word ∷ words) body

-- the request, depending on the line and what follows its LF
abbrev pub asked_parts : Option (List ℕ × List ℕ) → Ask
asked_parts None = NoRequest
asked_parts (Some (line, body)) = asked_words (words_of line) body

-- what a payload asks
unfoldable pub asked : List ℕ → Ask
asked payload = if nat_le (length payload) MAX_PAYLOAD then asked_parts (split_once 10 payload) else NoRequest

-- ---- what is asked of the host itself

-- this request, if nothing follows its line
abbrev pub host_plain : HostRequest → List ℕ → HostRequest
host_plain request [] = request
host_plain request (b ∷ body) = Bad_host

-- this many looks, if there is a number, and no more than a sweep may make
abbrev pub host_looks : Option ℕ → List ℕ → HostRequest
host_looks (Some most) body = if nat_le most MAX_SWEEP then host_plain (Sweep most) body else Bad_host
host_looks None body = Bad_host

-- `sweep K`
abbrev pub host_sweep : Option (List ℕ) → List ℕ → HostRequest
host_sweep (Some digits) body = host_looks (number_in digits) body
host_sweep None body = Bad_host

-- the request, depending on a verb and the words after it
abbrev pub host_verb : List ℕ → List (List ℕ) → List ℕ → HostRequest
host_verb verb words body = if bytes_eq verb (codes "sweep") then host_sweep (sole words) body else Bad_host

-- the request, depending on a verb without words after it: `collect`, `census`, `fsck`, `tenants`
abbrev pub host_alone : List ℕ → List ℕ → HostRequest
host_alone verb body =
    if bytes_eq verb (codes "collect") then host_plain Collect body
    else if bytes_eq verb (codes "census") then host_plain Census body
    else if bytes_eq verb (codes "fsck") then host_plain Fsck body
    else if bytes_eq verb (codes "tenants") then host_plain Tenants body
    else Bad_host

-- the request, depending on the line's first word
abbrev pub host_words : List (List ℕ) → List ℕ → HostRequest
host_words [] body = Bad_host
host_words (verb ∷ []) body = host_alone verb body
host_words (verb ∷ word ∷ words) body = host_verb verb (word ∷ words) body

-- the request, depending on the line and what follows its LF
abbrev pub host_parts : Option (List ℕ × List ℕ) → HostRequest
host_parts None = Bad_host
host_parts (Some (line, body)) = host_words (words_of line) body

-- what a payload asks of the host itself
unfoldable pub asked_host : List ℕ → HostRequest
asked_host payload = if nat_le (length payload) MAX_PAYLOAD then host_parts (split_once 10 payload) else Bad_host
