use Rattle.fork_state.proofs.LoadedLemmas.{accepts, loads, shows}
use Rattle.fork_state.proofs.laws.what_is_saved_is_loaded.Goals as goal

pub returns : goal.returns
returns c = record { accepted = accepts; shown = shows; loaded = loads }
