-- The bytes of replies (own): `ok` and data, `no` and the refusal, or `host` and a fault of the host.
use Rattle.std.specs.Prelude.{ℕ, List, ◌++◌, Bool, true, false, codes}
use Rattle.hex.specs.Hex.{encode_lower}
use Rattle.fork_request.specs.declared.refusal.Refusal.{Refusal}
use Rattle.fork_request.specs.declared.refusal.Refusal.TheVariants.{BadRequest, UnknownTenant, BadName, RepositoryExists, NoRepository, NoRef, BadRef, RepeatedRef, Stale, RefConflict, NotACommit, Missing, WrongType, NotATree, OverQuota, TooMany, Syntax, WrongName, BadObject, Truncated, TooLarge, StagedTooLong, NoUpload, UploadOpen, OfferExists, NoOffer}
use Rattle.fork_request.specs.declared.host_fault.HostFault.{HostFault}
use Rattle.fork_request.specs.declared.host_fault.HostFault.TheVariants.{Memory, Store, Damaged, Collision}
use Rattle.fork_request.specs.declared.reply.Reply.{Reply}
use Rattle.fork_request.specs.declared.reply.Reply.TheVariants.{Done, Unchanged, Refused, Failed}

-- a refusal's word, and what it is about after a SP
abbrev pub refusal_text : Refusal → List ℕ
refusal_text BadRequest = codes "bad-request"
refusal_text UnknownTenant = codes "unknown-tenant"
refusal_text (BadName word) = codes "bad-name " ++ word
refusal_text (RepositoryExists repository) = codes "repository-exists " ++ repository
refusal_text (NoRepository repository) = codes "no-repository " ++ repository
refusal_text (NoRef item) = codes "no-ref " ++ item
refusal_text (BadRef word) = codes "bad-ref " ++ word
refusal_text (RepeatedRef reference) = codes "repeated-ref " ++ reference
refusal_text (Stale reference) = codes "stale " ++ reference
refusal_text (RefConflict reference) = codes "ref-conflict " ++ reference
refusal_text (NotACommit name) = codes "not-a-commit " ++ encode_lower name
refusal_text (Missing name) = codes "missing " ++ encode_lower name
refusal_text (WrongType name) = codes "wrong-type " ++ encode_lower name
refusal_text (NotATree name) = codes "not-a-tree " ++ encode_lower name
refusal_text OverQuota = codes "over-quota"
refusal_text TooMany = codes "too-many"
refusal_text Syntax = codes "syntax"
refusal_text (WrongName name) = codes "wrong-name " ++ encode_lower name
refusal_text (BadObject name) = codes "bad-object " ++ encode_lower name
refusal_text Truncated = codes "truncated"
refusal_text (TooLarge name) = codes "too-large " ++ encode_lower name
refusal_text StagedTooLong = codes "staged-too-long"
refusal_text NoUpload = codes "no-upload"
refusal_text UploadOpen = codes "upload-open"
refusal_text (OfferExists tenant repository) = codes "offer-exists " ++ tenant ++ codes "/" ++ repository
refusal_text (NoOffer tenant repository) = codes "no-offer " ++ tenant ++ codes "/" ++ repository

-- the word of a host fault
abbrev pub fault_word : HostFault → List ℕ
fault_word Memory = codes "memory"
fault_word Store = codes "store"
fault_word Damaged = codes "damaged"
fault_word Collision = codes "collision"

-- the bytes of a reply
abbrev pub bytes_of : Reply → List ℕ
bytes_of (Done text) = codes "ok\n" ++ text
bytes_of Unchanged = codes "ok\n"
bytes_of (Refused refusal) = codes "no " ++ refusal_text refusal ++ codes "\n"
bytes_of (Failed fault) = codes "host " ++ fault_word fault ++ codes "\n"

-- whether a reply is a host fault
abbrev pub is_host_fault : Reply → Bool
is_host_fault (Done text) = false
is_host_fault Unchanged = false
is_host_fault (Refused refusal) = false
is_host_fault (Failed fault) = true

-- whether a reply is `ok`
abbrev pub is_done : Reply → Bool
is_done (Done text) = true
is_done Unchanged = true
is_done (Refused refusal) = false
is_done (Failed fault) = false
