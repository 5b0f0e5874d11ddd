-- The input of a push: the parts of a view, and what a stream holds.
use Rattle.std.specs.Prelude.{◌≡◌, ℕ, List, [], Result, Ok, Err, ⊤}
use Rattle.git_name.specs.Object.{Object}
use Rattle.fork_reach.specs.Source.{Objects}
use Rattle.push_stream.specs.declared.body.Body.{Body}
use Rattle.push_stream.specs.declared.fault.BodyError.{BodyError}
use Rattle.push_stream.specs.declared.fault.BodyError.TheVariants.{Fault, Memory}
use Rattle.push_stream.specs.Brief.{brief_of}
use Rattle.push_stream.specs.declared.brief.Brief.{Brief}
use Rattle.fork_request.specs.declared.reply.Reply.{Reply}
use Rattle.fork_request.specs.declared.reply.Reply.TheVariants.{Done}
use Rattle.fork_ledger.specs.Tenants.{VaultState}
use Rattle.fork_model.specs.Answer.{Finished}
use Rattle.fork_model.specs.View.{View, Repositories}
use Rattle.fork_host.specs.Own.{both_in, visible_in}

-- a view with these parts, otherwise like another
abbrev pub view_of : View → Repositories → Objects → ℕ → View
view_of rest repositories objects limit = record rest { repositories = repositories; objects = objects; limit = limit }

-- what was read from the bytes of a stream is these objects
abbrev pub Sends : List Object → Result Body BodyError → Type 0
Sends sent (Ok body) = body.objects.items ≡ sent
Sends sent (Err error) = ⊤

-- what was read from the bytes of a stream is what the stream holds; running out of memory reports nothing
abbrev pub TellsHeld : Finished → Result Body BodyError → Type 0
TellsHeld held (Ok body) = held ≡ Ok (body.commands.items, body.objects.items)
TellsHeld held (Err (Fault fault)) = held ≡ Err fault
TellsHeld held (Err Memory) = ⊤

-- the brief of a stream is that of what the stream holds; running out of memory reports nothing
abbrev pub TellsBrief : Finished → Result Brief BodyError → Type 0
TellsBrief held (Ok brief) = brief_of held ≡ Ok (brief.commands.items, brief.names.items)
TellsBrief held (Err (Fault fault)) = held ≡ Err fault
TellsBrief held (Err Memory) = ⊤

-- the repositories are these, and what is staged is seen
pub record IsTaken (tenant : List ℕ) (after : Repositories) (old : VaultState) (reply : Reply) (now : Repositories) (new : VaultState) : Type 0 where
  pub told : reply ≡ Done []
  pub set : now ≡ after
  pub seen : visible_in new tenant ≡ both_in old tenant
