use Rattle.std.proofs.Common.{ap, sym, ◌∙◌, codes, List, ℕ, Some}
use Rattle.clap.specs.Words.{found_of}
use Rattle.clap.proofs.WalkLemmas.{first_value-rows}
use Rattle.fork_command.proofs.ServeLemmas.{absent}
use Rattle.fork_command.proofs.command.granted.Goals as goal

pub unreachable-requires : goal.unreachable-requires
unreachable-requires c = absent _ (c.in_default.ensures ∙ first_value-rows (found_of c.args.matches.now) (codes "dir")) c.requires.words.dir

pub unreachable-requires-in_default-get_str : goal.unreachable-requires-in_default-get_str
unreachable-requires-in_default-get_str c = absent _ (c.in_default-get_str.ensures ∙ first_value-rows (found_of c.args.matches.now) (codes "tenant")) c.requires.words.tenant

pub returns-in_default-read-clause-err : goal.returns-in_default-read-clause-err
returns-in_default-read-clause-err c =
    (sym (c.in-Some-get_str.ensures ∙ first_value-rows (found_of c.args.matches.now) (codes "tenant")), rw c.as_bytes.ensures.value at c.in_default-read.ensures.none)

pub returns-clause-dir : goal.returns-clause-dir
returns-clause-dir c = sym (c.in-Some.ensures ∙ first_value-rows (found_of c.args.matches.now) (codes "dir"))

pub returns-clause-word : goal.returns-clause-word
returns-clause-word c =
    sym (c.in-Some-get_str.ensures ∙ first_value-rows (found_of c.args.matches.now) (codes "tenant"))
    ∙ ap (λ (word : List ℕ). Some word) (sym c.as_bytes.ensures.value ∙ c.in-Some-read.ensures.found.1)
