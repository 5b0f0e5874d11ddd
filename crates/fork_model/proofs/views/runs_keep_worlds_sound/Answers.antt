use Rattle.fork_model.proofs.SoundLemmas.{orderly_answer, right_answer}
use Rattle.fork_model.proofs.SoundWorlds.{orderly_run, sound_run}
use Rattle.fork_model.proofs.views.runs_keep_worlds_sound.Goals as goal

pub returns-clause-orderly : goal.returns-clause-orderly
returns-clause-orderly c = orderly_answer

pub returns-clause-right : goal.returns-clause-right
returns-clause-right c = right_answer

pub returns-clause-world : goal.returns-clause-world
returns-clause-world c = sound_run

pub returns-clause-orderly_world : goal.returns-clause-orderly_world
returns-clause-orderly_world c = orderly_run
