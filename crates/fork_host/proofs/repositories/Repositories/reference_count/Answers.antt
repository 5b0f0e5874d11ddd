use Rattle.std.proofs.Common.{◌≡◌, List, map as map_list, length, sym, ap, ◌∙◌, arith}
use Rattle.std.proofs.lemmas.List.{length-map}
use Rattle.std.specs.Prelude.{sum_by}
use Rattle.std.specs.FinMap.{len, len-entries, from_entries}
use Rattle.git_name.proofs.Names.{name_total}
use Rattle.git_name.proofs.TreeMaps.{entries_of_ordered}
use Rattle.git_reftx.specs.Repository.{Repository}
use Rattle.fork_model.specs.Figures.{references_in}
use Rattle.fork_model.specs.View.{Repositories}
use Rattle.fork_host.proofs.repositories.Repositories.reference_count.Goals as goal

pub loop-repository-init : goal.loop-repository-init
loop-repository-init c =
    let entries = c.self.inside.repositories.entries in
    let ordered = entries_of_ordered name_total entries c.values-repository-items.ensures.ordered in
    let items = c.into_iter-repository-iterator.ensures.into_iter_gives ∙ c.values-repository-items.ensures.rest in
    let long : length c.into_iter-repository-iterator.result ≡ length entries = ap (λ (rs : List Repository). length rs) items ∙ length-map entries (λ e. e.1) in
    let many : length entries ≡ len c.args.self.now = ap length (sym ordered) ∙ sym (len-entries (from_entries entries)) ∙ ap (λ (m : Repositories). len m) c.self.view_is in
    let all : sum_by (λ (r : Repository). len r.references) c.into_iter-repository-iterator.result ≡ references_in c.args.self.now = ap (sum_by (λ (r : Repository). len r.references)) items ∙ ap (λ es. sum_by (λ (r : Repository). len r.references) (map_list (λ e. e.1) es)) (sym ordered) ∙ ap references_in c.self.view_is in
    record {
      counted = omega (arith, all);
      few = omega (arith, long, many);
    }

pub overflow_add-count : goal.overflow_add-count
overflow_add-count c =
    let entries = c.self.inside.repositories.entries in
    let ordered = entries_of_ordered name_total entries c.values-repository-items.ensures.ordered in
    let many : length entries ≡ len c.args.self.now = ap length (sym ordered) ∙ sym (len-entries (from_entries entries)) ∙ ap (λ (m : Repositories). len m) c.self.view_is in
    let most = c.len-most.ensures.len in
    let small = c.len-most.ensures.small in
    let few = c.loop-repository.invariant.few in
    let next = ap (λ (rs : List Repository). length rs) c.in-Some.ensures.steps in
    let least = c.len.ensures.sound.few in
    let is = c.len.ensures.len in
    omega (arith, many, most, small, few, next, least, is)
