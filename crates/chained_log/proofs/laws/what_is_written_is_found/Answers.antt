use Rattle.chained_log.proofs.LawLemmas.{front_is_read, log_is_read, one_reading}
use Rattle.chained_log.proofs.laws.what_is_written_is_found.Goals as goal

pub returns-clause-one : goal.returns-clause-one
returns-clause-one c = one_reading

pub returns-clause-whole : goal.returns-clause-whole
returns-clause-whole c = log_is_read

pub returns-clause-front : goal.returns-clause-front
returns-clause-front c = front_is_read
