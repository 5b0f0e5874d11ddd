-- What a ledger's word says about an object (own).
use Rattle.object_table.specs.Words.{is_staged, is_visible}
use Rattle.object_table.specs.declared.word.Word.{Word}
use Rattle.fork_ledger.specs.declared.held.Held.{Held}

-- its kind, its length, whether its tenant sees it, and whether its tenant has staged it
abbrev pub held_of_word : Word → Held
held_of_word word = record { kind = word.kind; length = word.length; visible = is_visible word; staged = is_staged word }
