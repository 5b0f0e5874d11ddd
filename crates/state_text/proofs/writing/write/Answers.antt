use Rattle.std.proofs.Common.{◌≡◌, ◌++◌, ◌∙◌, [], ap, codes, refl, subst}
use Rattle.std.specs.List.{flat_map}
use Rattle.std.proofs.lemmas.Result.{IfOk-weaker}
use Rattle.git_name.specs.Text.{ended}
use Rattle.sha2.specs.Sha256.{sha256}
use Rattle.state_text.specs.declared.version.Version.TheVariants.{Two}
use Rattle.state_text.specs.Text.{state_text, tenant_lines}
use Rattle.state_text.specs.Writing.{IsUnderWay, Puts}
use Rattle.state_text.proofs.WritingLemmas.{if_ok_on, text_under}
use Rattle.state_text.proofs.writing.write.Given as given
use Rattle.state_text.proofs.writing.write.Goals as goal

-- the whole text is on its way before the end
under : (g : given.Over) (c : goal.After-end g) → IsUnderWay (g.W.Sink.contents c.args.writer.now) (g.W.Sink.contents c.put_tenants.new.writer) (record c.put_tenants.new.waiting { lines = c.extend_from_slice-2.new.self }) (state_text Two c.args.states.now)
under g c =
    text_under (g.W.Sink.contents c.args.writer.now) (g.W.Sink.contents c.put_tenants.new.writer) c.in_ok-waiting.waiting (record c.in_ok-waiting.waiting { lines = c.extend_from_slice.new.self }) c.put_tenants.new.waiting (record c.put_tenants.new.waiting { lines = c.extend_from_slice-2.new.self }) c.args.states.now
    (c.in_ok-waiting.ensures (g.W.Sink.contents c.args.writer.now)) refl c.in_ok-extend_from_slice.ensures.items
    (subst (λ tenants. Puts (g.W.Sink.contents c.args.writer.now) (g.W.Sink.contents c.put_tenants.new.writer) (record c.in_ok-waiting.waiting { lines = c.extend_from_slice.new.self }) c.put_tenants.new.waiting (flat_map ended (flat_map (tenant_lines Two) tenants))) c.as_slice-tenants.ensures.tenants c.in_ok-put_tenants.ensures.puts)
    refl c.in_ok-extend_from_slice-2.ensures.items

pub returns-clause-text : goal.returns-clause-text
returns-clause-text g c = if_ok_on c.end.result (λ spelled all. (all (g.W.Sink.contents c.args.writer.now) (state_text Two c.args.states.now) (under g c)).0) c.end.ensures.whole

pub returns-clause-name : goal.returns-clause-name
returns-clause-name g c = IfOk-weaker c.end.result _ _ (λ spelled all. (all (g.W.Sink.contents c.args.writer.now) (state_text Two c.args.states.now) (under g c)).1) c.end.ensures.whole
