use Rattle.fork_model.proofs.UploadLemmas.{beside_sent, upload_again}
use Rattle.fork_model.proofs.uploads.uploads_are_their_readings_and_objects.Goals as goal

pub returns-clause-upload : goal.returns-clause-upload
returns-clause-upload c = upload_again

pub returns-clause-both : goal.returns-clause-both
returns-clause-both c = beside_sent
