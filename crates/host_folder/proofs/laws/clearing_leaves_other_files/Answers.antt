use Rattle.host_folder.proofs.ClearingLemmas.{leaves_journal, leaves_names, leaves_old, leaves_others}
use Rattle.host_folder.proofs.laws.clearing_leaves_other_files.Goals as goal

pub returns-clause-journal : goal.returns-clause-journal
returns-clause-journal c name old new clears = leaves_journal name old new clears

pub returns-clause-old : goal.returns-clause-old
returns-clause-old c name old new none clears = leaves_old name old new none clears

pub returns-clause-others : goal.returns-clause-others
returns-clause-others c name path old new outside clears = leaves_others name path old new outside clears

pub returns-clause-names : goal.returns-clause-names
returns-clause-names c name folder old new clears = leaves_names name folder old new clears
