use Rattle.std.proofs.Common.{◌≡◌, Bool, true, false, not, refl, sym, ap, ◌∙◌, is_some}
use Rattle.std.specs.HashSet.{contains}
use Rattle.git_name.specs.Same.{same_name}
use Rattle.fork_reach.specs.Along.{rests_in}
use Rattle.fork_reach.specs.Objects.{measures_of}
use Rattle.fork_reach.proofs.AlongLemmas.{rests_by_kind}
use Rattle.fork_reach.proofs.HiddenLemmas.{hidden_away, kind_shown}
use Rattle.fork_reach.proofs.names.OpenNames.leads.Goals as goal

was_so : (denied so : Bool) → denied ≡ not so → denied ≡ false → so ≡ true
was_so denied true is told = refl
was_so denied false is told = absurd (cc)

pub returns-then-is_hidden-clause-there : goal.returns-then-is_hidden-clause-there
returns-then-is_hidden-clause-there g c =
    sym (hidden_away (measures_of (g.S.Source.state c.args.self.now.source.now).objects) (contains same_name c.args.self.now.hidden.now) c.args.name (sym c.is_hidden.ensures ∙ c.if-is_hidden.true))

pub returns-in_default-clause-there : goal.returns-in_default-clause-there
returns-in_default-clause-there g c =
    ap is_some c.in_default.ensures ∙ sym (kind_shown (g.S.Source.state c.args.self.now.source.now).objects (contains same_name c.args.self.now.hidden.now) c.args.name (sym c.is_hidden.ensures ∙ c.if-is_hidden.false))

pub returns-clause-there : goal.returns-clause-there
returns-clause-there g c =
    ap is_some c.in-Some.ensures ∙ sym (kind_shown (g.S.Source.state c.args.self.now.source.now).objects (contains same_name c.args.self.now.hidden.now) c.args.name (sym c.is_hidden.ensures ∙ c.if-is_hidden.false))

pub returns-clause-ends : goal.returns-clause-ends
returns-clause-ends g c rests =
    rests_by_kind c.args.self.now.along (g.S.Source.state c.args.self.now.source.now).objects c.args.name c.in-Some.kind c.in-Some.ensures
    ∙ was_so c.goes_on_in.result (rests_in c.args.self.now.along c.in-Some.kind) c.goes_on_in.ensures rests
