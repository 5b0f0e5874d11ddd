use Rattle.std.proofs.Common.{rules, ◌≡◌, ◌∙◌, ◌∷◌, List, ℕ, refl, subst, sym}
use Rattle.loose_store.specs.Files.{Files}
use Rattle.packed_store.specs.Copied.{IsCopied}
use Rattle.packed_store.proofs.CopyLemmas.{AgreeBut, all_agree, copy_agrees, none_agree, none_left}
use Rattle.std.specs.FinMap.{keys}
use Rattle.packed_store.proofs.copying.copy_all.Goals as goal

pub loop-name-init : goal.loop-name-init
loop-name-init g c = (
  λ first second none.
      let old = g.A.LooseFiles.contents c.args.from.now in
      let new = g.B.LooseFiles.contents c.args.to.now in
      let listed : c.into_iter-name-iterator.result.rest.items ≡ keys old = search rules in
      subst (λ (names : List (List ℕ)). AgreeBut names old new) (sym listed) (none_agree old new none),
  (λ first. c.names.ensures.kept first),
  c.names.ensures.honest,
  refl,
)

pub loop-name-preserved : goal.loop-name-preserved
loop-name-preserved g c =
    let name = c.in-Some.name in
    let rest = c.next.new.self.rest.items in
    let so_far = c.loop-name.invariant in
    let old = g.A.LooseFiles.contents c.args.from.now in
    let before = g.B.LooseFiles.contents c.loop-name.to in
    let after = g.B.LooseFiles.contents c.copy_file.new.to in
    let left : c.loop-name.name-iterator.rest.items ≡ name ∷ rest = search rules in (
      λ first second none.
          copy_agrees name rest old before after
          (subst (λ (names : List (List ℕ)). AgreeBut names old before) left (so_far.0 first second none))
          (subst (λ (files : Files). IsCopied name files before after) (so_far.1 first) (c.in_ok-copy_file.ensures.copied (so_far.2 ∙ first) (so_far.3 ∙ second))),
      (λ first. c.copy_file.ensures.kept (so_far.2 ∙ first) ∙ so_far.1 first),
      c.copy_file.ensures.first ∙ so_far.2,
      c.copy_file.ensures.second ∙ so_far.3,
    )

pub returns-clause-copied : goal.returns-clause-copied
returns-clause-copied g c first second none =
    let rest = c.loop-name.name-iterator.rest in
    all_agree rest.items (g.A.LooseFiles.contents c.args.from.now) (g.B.LooseFiles.contents c.loop-name.to)
    (none_left rest.items (sym rest.ok.0 ∙ c.in-None.ensures.steps.0)) (c.loop-name.invariant.0 first second none)
