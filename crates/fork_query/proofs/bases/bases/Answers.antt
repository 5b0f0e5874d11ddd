use Rattle.std.proofs.Common.{ap, sym, ◌∙◌}
use Rattle.fork_query.specs.MergeBase.{merge_bases}
use Rattle.fork_query.specs.Objects.{name_lines}
use Rattle.fork_query.proofs.BaseLemmas.{best_names}
use Rattle.fork_query.proofs.bases.bases.Goals as goal

pub returns-in-Ok-write_names-clause-listed : goal.returns-in-Ok-write_names-clause-listed
unfolding merge_bases
returns-in-Ok-write_names-clause-listed g c = λ honest.
    let objects = (g.S.Source.state c.args.source.now).objects in
    c.in-Ok-write_names.ensures ∙ ap name_lines (c.as_slice.ensures.value ∙ best_names objects c.args.a c.args.b c.in-Ok.listed.items c.in-Ok.ensures.order (λ name. c.in-Ok.ensures.same name ∙ c.in_ok-best.ensures.best honest name))

pub returns-in-Ok-write_names-clause-seen : goal.returns-in-Ok-write_names-clause-seen
returns-in-Ok-write_names-clause-seen g c = record {
  names = c.in-Ok.listed.items;
  lines = c.in-Ok-write_names.ensures ∙ ap name_lines c.as_slice.ensures.value;
  ordered = c.in-Ok.ensures.order;
  seen = λ name among. c.in_ok-best.ensures.seen name (sym (c.in-Ok.ensures.same name) ∙ among);
}
