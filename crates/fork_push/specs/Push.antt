-- The verdict on a push: its links, its transaction and the limit, judged in this order (own).
use Rattle.std.specs.Prelude.{ℕ, Bool, true, false, not, nat_lt, List, Option, None, Some, Result, Ok, Err, is_none, if◌then◌else◌}
use Rattle.std.specs.List.{find, flat_map}
use Rattle.std.specs.Option.{option_map, option_or}
use Rattle.std.specs.FinMap.{get}
use Rattle.git_name.specs.declared.kind.Kind.{Kind}
use Rattle.git_name.specs.declared.kind.Kind.TheVariants.{Blob, Tree, Commit, Tag}
use Rattle.git_object.specs.declared.link.Link.{Link}
use Rattle.git_reftx.specs.declared.fault.TxRefusal.{TxRefusal}
use Rattle.git_reftx.specs.Transaction.{References, transacted}
use Rattle.push_stream.specs.declared.fault.StreamFault.{StreamFault}
use Rattle.push_stream.specs.Brief.{BriefValue}
use Rattle.fork_reach.specs.Objects.{use_of}
use Rattle.fork_reach.specs.Reach.{links_of_found}
use Rattle.fork_reach.specs.Source.{Objects, kind_in}
use Rattle.fork_push.specs.declared.refusal.PushRefusal.{PushRefusal}
use Rattle.fork_push.specs.declared.refusal.PushRefusal.TheVariants.{Stream, Missing, WrongType, Transaction, OverQuota}

-- the links of the objects of these names, in their order
abbrev pub links_under : Objects → List (List ℕ) → List Link
links_under both names = flat_map (λ name. links_of_found (get both name)) names

abbrev pub same_kind : Kind → Kind → Bool
same_kind Blob Blob = true
same_kind Tree Tree = true
same_kind Commit Commit = true
same_kind Tag Tag = true
same_kind kind other = false

abbrev pub has_kind : Kind → Option Kind → Bool
has_kind kind (Some found) = same_kind kind found
has_kind kind None = false

-- missing: the first link whose object is on neither side
abbrev pub is_missing : Objects → Link → Bool
is_missing both link = is_none (kind_in both link.name)

abbrev pub missing : Objects → List Link → Option PushRefusal
missing both links = option_map (λ link. Missing link.name) (find (is_missing both) links)

-- wrong-type: the first link whose object has another kind
abbrev pub is_wrong : Objects → Link → Bool
is_wrong both link = not (has_kind link.kind (kind_in both link.name))

abbrev pub wrong_type : Objects → List Link → Option PushRefusal
wrong_type both links = option_map (λ link. WrongType link.name) (find (is_wrong both) links)

-- what is wrong with the links
abbrev pub link_refusal : Objects → List Link → Option PushRefusal
link_refusal both links = option_or (missing both links) (wrong_type both links)

-- over-quota: both sides together use more than the limit
abbrev pub within_limit : Objects → ℕ → Result References TxRefusal → Result References PushRefusal
within_limit both limit (Ok new) = if nat_lt limit (use_of both) then Err OverQuota else Ok new
within_limit both limit (Err refusal) = Err (Transaction refusal)

abbrev pub refusal_or : Option PushRefusal → Result References PushRefusal → Result References PushRefusal
refusal_or (Some refusal) verdict = Err refusal
refusal_or None verdict = verdict

-- the references after a push over both sides' objects, or the first refusal. `both` are the objects that the tenant sees and those
-- sent. If several share a name, the one that the tenant sees counts, otherwise the first sent
unfoldable pub judged : Objects → References → ℕ → Result BriefValue StreamFault → Result References PushRefusal
judged both old limit (Err fault) = Err (Stream fault)
judged both old limit (Ok brief) =
    refusal_or (link_refusal both (links_under both brief.1)) (within_limit both limit (transacted old brief.0 (kind_in both)))
