use Rattle.chained_log.proofs.ContentsLemmas.{contents_read, front_contents, synced_contents, written_contents}
use Rattle.chained_log.proofs.laws.contents_are_what_was_written.Goals as goal

pub returns-clause-read : goal.returns-clause-read
returns-clause-read c = contents_read

pub returns-clause-whole : goal.returns-clause-whole
returns-clause-whole c = written_contents

pub returns-clause-front : goal.returns-clause-front
returns-clause-front c = front_contents

pub returns-clause-synced : goal.returns-clause-synced
returns-clause-synced c = synced_contents
