use Rattle.std.proofs.Common.{[], ◌∷◌, ap, sym, ◌∙◌}
use Rattle.std.specs.HashSet.{contains}
use Rattle.git_name.specs.Maps.{map_values}
use Rattle.git_name.specs.Same.{same_name}
use Rattle.fork_reach.specs.Hidden.{without}
use Rattle.fork_reach.specs.History.{note_of}
use Rattle.fork_reach.specs.Reach.{is_reached, parent_names}
use Rattle.fork_reach.proofs.HiddenLemmas.{reached_all}
use Rattle.fork_reach.proofs.NameLemmas.{hashes_none}
use Rattle.fork_query.proofs.BaseLemmas.{best_noted, best_there}
use Rattle.fork_query.proofs.BeyondLemmas.{kept_alike}
use Rattle.fork_query.proofs.bases.read_bases.Goals as goal

pub returns-in-Ok-clause-best : goal.returns-in-Ok-clause-best
returns-in-Ok-clause-best g c = λ honest name.
    let objects = (g.S.Source.state c.args.source.now).objects in
    let roots = c.args.a ∷ c.args.b ∷ [] in
    let next = parent_names objects in
    let none = contains same_name c.with_hasher-none.result in
    let read = c.in_ok-history.ensures.found honest ∙ ap (map_values note_of) (kept_alike objects (is_reached next (without objects none) roots) (is_reached next objects roots) (reached_all next objects none roots (hashes_none c.with_hasher-none.result.keys c.with_hasher-none.ensures.empty))) in
    c.in-Ok.ensures name ∙ best_noted objects c.args.a c.args.b c.in_ok-history.history read name

pub returns-in-Ok-clause-seen : goal.returns-in-Ok-clause-seen
returns-in-Ok-clause-seen g c = λ name is. c.in_ok-history.ensures.seen name (best_there c.in_ok-history.history c.args.a c.args.b name (sym (c.in-Ok.ensures name) ∙ is))
