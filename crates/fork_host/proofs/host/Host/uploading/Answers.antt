use Rattle.std.proofs.Common.{◌∙◌, ap}
use Rattle.std.specs.FinMap.{entries}
use Rattle.fork_host.specs.Uploads.{uploading_in}
use Rattle.fork_host.proofs.UploadLemmas.{uploading_shown}
use Rattle.fork_host.proofs.host.Host.uploading.Goals as goal

pub returns : goal.returns
returns g c = c.in-Ok.ensures ∙ ap (λ state. uploading_in (entries state.accounts)) c.self.view_is ∙ uploading_shown c.args.self.now
