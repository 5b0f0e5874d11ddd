use Rattle.std.proofs.Common.{◌≡◌, ◌++◌, [], IsTrue, map, take}
use Rattle.fork_request.specs.declared.reply.Reply.TheVariants.{Done}
use Rattle.push_stream.specs.Spelling.{records_of}
use Rattle.fork_model.specs.Uploads.{object_sent}
use Rattle.fork_host.specs.Handle.{staged_by}
use Rattle.fork_host.specs.Opening.{OnlyReads}
use Rattle.fork_host.proofs.opening.add_records.Given as goal

-- the records so far were added, and nothing but the bytes changed
abbrev pub invariant-loop-one : goal.invariant-loop-one
invariant-loop-one g l = record {
  reads : OnlyReads l.fn.own l.own (Done []);
  added : IsTrue l.fn.own.vault.now.honest → l.bytes.items ≡ l.fn.bytes.items ++ records_of (map (object_sent (staged_by l.fn.own)) (take l.one-index l.fn.sent));
}
