use Rattle.std.proofs.Common.{◌∙◌}
use Rattle.clap.specs.Words.{found_of}
use Rattle.clap.proofs.WalkLemmas.{first_value-rows, one_text-rows}
use Rattle.std.proofs.Common.{codes}
use Rattle.fork_command.proofs.hosting.hosting_of.Goals as goal

pub returns-clause-ok : goal.returns-clause-ok
returns-clause-ok c = record {
  dir = c.get_str-dir.ensures ∙ first_value-rows (found_of c.args.matches.now) (codes "dir");
  packed = record {
    given = λ is. c.get_flag-packed.ensures.value (one_text-rows (found_of c.args.matches.now) (codes "packed") ∙ is);
    omitted = λ is. c.get_flag-packed.ensures.other (one_text-rows (found_of c.args.matches.now) (codes "packed") ∙ is);
  };
  syncs = record {
    given = λ is. c.get_flag-syncs.ensures.value (one_text-rows (found_of c.args.matches.now) (codes "sync") ∙ is);
    omitted = λ is. c.get_flag-syncs.ensures.other (one_text-rows (found_of c.args.matches.now) (codes "sync") ∙ is);
  };
  tenants = c.in_ok-tenants.ensures.ok;
}
