use Rattle.std.proofs.Common.{◌∙◌, ap, refl}
use Rattle.std.specs.FinMap as map
use Rattle.git_name.specs.Object.{object_name, typed_bytes}
use Rattle.fork_ledger.proofs.StoredLemmas.{file_inserted}
use Rattle.fork_ledger.proofs.arrival.put_whole.Goals as goal

pub returns-in-Ok-clause-whole : goal.returns-in-Ok-clause-whole
returns-in-Ok-clause-whole g c = λ h. record {
  file = ap (λ m. map.get m (object_name c.args.sealed)) (c.in-Ok.ensures.ok h) ∙ file_inserted c.args.files.now.contents (object_name c.args.sealed) (typed_bytes c.args.sealed);
  named = refl;
}
