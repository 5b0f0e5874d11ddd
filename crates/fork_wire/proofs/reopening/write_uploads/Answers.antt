use Rattle.std.proofs.Common.{◌≡◌, [], ◌∷◌, ◌++◌, append_assoc, ap, map, refl, rules, subst, sym, ◌∙◌}
use Rattle.fork_model.specs.World.{World}
use Rattle.fork_host.specs.Shown.{world_of}
use Rattle.fork_host.specs.Uploads.{opened, upload_at, uploads_of}
use Rattle.fork_wire.proofs.ReopeningLemmas.{Written, all_written, next_written, none_written}
use Rattle.fork_wire.proofs.reopening.write_uploads.Goals as goal

pub loop-name-init : goal.loop-name-init
loop-name-init g c = record {
  done = [];
  parts = subst (λ items. items ≡ map (λ upload. upload.0) (uploads_of (world_of c.args.host.now))) (search rules) c.in-Ok.ensures;
  sent = λ trusted. none_written _;
  kept = λ trusted. refl;
  trusted = λ trusted. trusted;
  rest = refl;
  shape = λ name. refl;
}

pub loop-name-preserved : goal.loop-name-preserved
loop-name-preserved g c =
    let before = c.loop-name.invariant in
    let world = world_of c.args.host.now in
    record {
      done = before.done ++ c.in-Some.name ∷ [];
      parts = append_assoc before.done (c.in-Some.name ∷ []) c.next.new.self.rest.items ∙ ap (λ rest. before.done ++ rest) (sym c.in-Some.ensures.steps.0) ∙ before.parts;
      sent = λ trusted. next_written world before.done c.in-Some.name _ _ _ (before.sent trusted)
          (subst (λ (shown : World). Written (opened c.in-Some.name (upload_at shown c.in-Some.name)) (g.W.Sink.contents c.loop-name.writer) (g.W.Sink.contents c.write_upload_of.new.writer)) (before.kept trusted) (c.in_ok-bytes.ensures.sent (before.trusted trusted)));
      kept = λ trusted. c.in_ok-bytes.ensures.kept (before.trusted trusted) ∙ before.kept trusted;
      trusted = λ trusted. c.in_ok-bytes.ensures.trusted (before.trusted trusted);
      rest = c.in_ok-bytes.ensures.rest ∙ before.rest;
      shape = λ name. c.in_ok-bytes.ensures.shape name ∙ before.shape name;
    }

pub returns-clause-sent : goal.returns-clause-sent
returns-clause-sent g c = λ trusted.
    let so_far = c.loop-name.invariant in
    all_written (world_of c.args.host.now) so_far.done c.loop-name.name-iterator.rest.items _ _ _ c.loop-name.name-iterator.rest.ok.0 c.in-None.ensures.steps.0 so_far.parts (so_far.sent trusted)
