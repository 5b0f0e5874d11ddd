use Rattle.fork_model.specs.Answer.{cat_file_answer}
use Rattle.fork_query.specs.Objects.{object_told}
use Rattle.fork_query.specs.Told.{query_fault}
use Rattle.fork_host.specs.Handle.{visible_by}
use Rattle.fork_host.proofs.QueryLemmas.{asked_uses, query_gives, query_safe}
use Rattle.fork_host.proofs.tenant.Tenant.cat_file.Goals as goal

pub returns-clause-row : goal.returns-clause-row
unfolding cat_file_answer
returns-clause-row g c honest =
    query_gives (λ text. text.items) c.args.self.now c.args.own.now c.cat_file.new.source (object_told (visible_by c.args.own.now) c.args.name) c.cat_file.result c.told.result honest (c.cat_file.ensures.told honest) c.cat_file.ensures.asked c.told.ensures

pub returns-clause-safe : goal.returns-clause-safe
returns-clause-safe g c = query_safe (λ text. text.items) c.args.self.now c.args.own.now c.cat_file.new.source c.cat_file.result c.told.result c.cat_file.ensures.asked c.told.ensures

pub returns-clause-own : goal.returns-clause-own
returns-clause-own g c = asked_uses c.args.own.now c.cat_file.new.source (query_fault c.cat_file.result) c.cat_file.ensures.asked
