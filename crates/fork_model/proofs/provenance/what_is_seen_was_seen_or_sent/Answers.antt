use Rattle.fork_model.proofs.ProvenanceLemmas.{object_from, upload_from}
use Rattle.fork_model.proofs.provenance.what_is_seen_was_seen_or_sent.Goals as goal

pub returns-clause-object : goal.returns-clause-object
returns-clause-object c = object_from

pub returns-clause-upload : goal.returns-clause-upload
returns-clause-upload c = upload_from
