use Rattle.fork_push.specs.Push.{is_missing, is_wrong}
use Rattle.fork_push.proofs.LinkLemmas.{blob_found, blob_noted}
use Rattle.fork_push.proofs.sent.judge_object.Goals as goal

pub returns-then-is_blob-clause-missing : goal.returns-then-is_blob-clause-missing
returns-then-is_blob-clause-missing g c = λ honest.
    let both = (g.S.Source.state c.args.source.now).objects in
    blob_found (is_missing both) both c.args.name c.if-is_blob.ensures

pub returns-then-is_blob-clause-wrong : goal.returns-then-is_blob-clause-wrong
returns-then-is_blob-clause-wrong g c = λ honest.
    let both = (g.S.Source.state c.args.source.now).objects in
    blob_noted (is_wrong both) both c.args.name c.args.wrong.now c.if-is_blob.ensures
