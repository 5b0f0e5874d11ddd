use Rattle.std.proofs.Common.{◌≡◌, List, ℕ, IfOk, option_map, subst, ◌∙◌, Vec, Global, Option}
use Rattle.folder_store.proofs.EffectLemmas.{read_is}
use Rattle.folder_store.proofs.object_file.read_file.Goals as goal

pub returns-clause-found : goal.returns-clause-found
returns-clause-found g c honest =
    subst (λ (o : Option (List ℕ)). IfOk c.read.result (λ found. option_map {T = Vec ℕ Global} {U = List ℕ} (λ bytes. bytes.items) found ≡ o))
    (read_is (g.D.Device.honest c.args.device.now) (g.D.Device.past c.args.device.now) c.args.name c.as_str.result.now honest c.in_ok-path.ensures.name (c.as_str.ensures.value ∙ c.in_ok-path.ensures.path))
    (c.read.ensures honest)
