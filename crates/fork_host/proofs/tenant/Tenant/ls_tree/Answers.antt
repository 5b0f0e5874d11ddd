use Rattle.fork_model.specs.Answer.{ls_tree_answer}
use Rattle.fork_query.specs.Trees.{tree_told}
use Rattle.fork_query.specs.Told.{query_fault}
use Rattle.fork_host.specs.Handle.{visible_by}
use Rattle.fork_host.proofs.QueryLemmas.{asked_uses, query_gives, query_safe}
use Rattle.fork_host.proofs.tenant.Tenant.ls_tree.Goals as goal

pub returns-clause-row : goal.returns-clause-row
unfolding ls_tree_answer
returns-clause-row g c honest =
    query_gives (λ text. text.items) c.args.self.now c.args.own.now c.ls_tree.new.source (tree_told (visible_by c.args.own.now) c.args.name) c.ls_tree.result c.told.result honest (c.ls_tree.ensures.told honest) c.ls_tree.ensures.asked c.told.ensures

pub returns-clause-safe : goal.returns-clause-safe
returns-clause-safe g c = query_safe (λ text. text.items) c.args.self.now c.args.own.now c.ls_tree.new.source c.ls_tree.result c.told.result c.ls_tree.ensures.asked c.told.ensures

pub returns-clause-own : goal.returns-clause-own
returns-clause-own g c = asked_uses c.args.own.now c.ls_tree.new.source (query_fault c.ls_tree.result) c.ls_tree.ensures.asked
