-- What a ledger's word stands for, where the files are those of what tenants hold.
use Rattle.std.proofs.Common.{◌≡◌, ℕ, List, Option, None, Some, sym, ap, ◌∙◌}
use Rattle.std.specs.Option.{option_map, option_or}
use Rattle.std.specs.FinMap.{get}
use Rattle.git_name.specs.Object.{Object}
use Rattle.git_name.proofs.MapLemmas.{get_joined}
use Rattle.git_name.proofs.Names.{name_total}
use Rattle.object_table.specs.Ledgers.{AllWords, ledger_at, word_at}
use Rattle.object_table.specs.declared.word.Word.{Word}
use Rattle.loose_store.specs.Files.{Files}
use Rattle.loose_store.specs.Stored.{Whole}
use Rattle.fork_ledger.specs.Private.{Awaits, Holds, Private, Sees, both_of}
use Rattle.fork_ledger.specs.Shown.{object_at, tenants_of}
use Rattle.fork_ledger.specs.Store.{IsStored}
use Rattle.fork_ledger.specs.Tenants.{private_of}
use Rattle.fork_ledger.proofs.ShownLemmas.{both_shown, private_shown}

-- what stands on one of both sides is held
holds_both : (own : Private) (name : List ℕ) (object : Object) → get (both_of own) name ≡ Some object → Holds own name object
holds_both own name object is = by (get own.visible name) (get own.staged name) (λ seen. Sees seen) (λ waits. Awaits waits) (sym (get_joined name_total own.visible own.staged name) ∙ is)
  where
    by : (seen waits : Option Object) → (seen ≡ Some object → Holds own name object) → (waits ≡ Some object → Holds own name object) → option_or seen waits ≡ Some object → Holds own name object
    by None waits sees awaits found = awaits found
    by (Some other) waits sees awaits found = sees found

-- what a word stands for is held, and stands whole
pub word_whole : (files : Files) (m : AllWords) (t name : List ℕ) (word : Word) → IsStored (tenants_of files m) files → word_at m t name ≡ Some word
    → (object : Object) × (get (both_of (private_of (tenants_of files m) t)) name ≡ Some object) × Whole files name object
word_whole files m t name word stored there =
    let is = ap (λ own. get (both_of own) name) (private_shown files m t) ∙ both_shown files (ledger_at m t) name ∙ ap (option_map (object_at files name)) there in
    (object_at files name word, is, stored t name (object_at files name word) (holds_both (private_of (tenants_of files m) t) name (object_at files name word) is))
