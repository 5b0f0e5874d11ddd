use Rattle.std.proofs.Common.{sym, ◌∙◌, codes, refl}
use Rattle.clap.specs.Words.{found_of, rows_of}
use Rattle.clap.proofs.WalkLemmas.{first_value-rows, one_text-rows}
use Rattle.fork_command.proofs.ServeLemmas.{absent}
use Rattle.fork_command.proofs.command.repacking.Goals as goal

pub unreachable-requires : goal.unreachable-requires
unreachable-requires c = absent _ (c.in_default.ensures ∙ first_value-rows (found_of c.args.matches.now) (codes "dir")) c.requires.dir

pub returns : goal.returns
returns c = record {
  rows = rows_of (found_of c.args.matches.now);
  met_is = refl;
  given = sym (c.in-Some.ensures ∙ first_value-rows (found_of c.args.matches.now) (codes "dir"));
  flag = record {
    given = λ is. c.get_flag-packed.ensures.value (one_text-rows (found_of c.args.matches.now) (codes "packed") ∙ is);
    omitted = λ is. c.get_flag-packed.ensures.other (one_text-rows (found_of c.args.matches.now) (codes "packed") ∙ is);
  };
}
