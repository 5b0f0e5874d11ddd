use Rattle.std.proofs.Common.{[], ap, subst, ◌∙◌}
use Rattle.fork_host.specs.Bounds.{IsBounded}
use Rattle.fork_host.specs.Opening.{reading_told}
use Rattle.fork_host.specs.Shape.{SameShape}
use Rattle.fork_host.specs.Shown.{HostState, state_of, world_of}
use Rattle.fork_host.proofs.TendingLemmas.{shape_tended, whole_tended, world_tended}
use Rattle.fork_host.proofs.host.Host.upload.Goals as goal

pub invariant_of-self : goal.invariant_of-self
invariant_of-self g c = whole_tended c.self.inside.accounts c.self.inside.vault c.upload.new.vault c.upload.ensures.shape c.upload.ensures.kept c.upload.ensures.faults.honest c.self.invariant

pub returns-clause-orderly : goal.returns-clause-orderly
returns-clause-orderly g c = (whole_tended c.self.inside.accounts c.self.inside.vault c.upload.new.vault c.upload.ensures.shape c.upload.ensures.kept c.upload.ensures.faults.honest c.self.invariant).orderly

pub returns-clause-right : goal.returns-clause-right
returns-clause-right g c trusted =
    (whole_tended c.self.inside.accounts c.self.inside.vault c.upload.new.vault c.upload.ensures.shape c.upload.ensures.kept c.upload.ensures.faults.honest c.self.invariant).right
    (c.upload.ensures.faults.honest ∙ ap (λ (s : HostState). s.vault.honest) c.self.view_is ∙ trusted)

pub returns-clause-kept : goal.returns-clause-kept
returns-clause-kept g c trusted =
    world_tended c.self.inside.accounts c.self.inside.vault c.upload.new.vault (c.upload.ensures.kept (ap (λ (s : HostState). s.vault.honest) c.self.view_is ∙ trusted)) ∙ ap world_of c.self.view_is

pub returns-clause-shape : goal.returns-clause-shape
returns-clause-shape g c t =
    let accounts = c.self.inside.accounts in
    subst (λ (s : HostState). SameShape t (world_of s) (world_of (state_of accounts c.upload.new.vault))) c.self.view_is (shape_tended accounts c.self.inside.vault c.upload.new.vault c.upload.ensures.shape t)

pub returns-clause-faults : goal.returns-clause-faults
returns-clause-faults g c = subst (λ (s : HostState). IsBounded [] s.vault c.upload.new.vault (reading_told c.upload.result)) c.self.view_is c.upload.ensures.faults
