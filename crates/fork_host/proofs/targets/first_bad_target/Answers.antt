use Rattle.std.proofs.Common.{sym, ap, ◌∙◌, map}
use Rattle.std.specs.List.{find, flat_map}
use Rattle.std.specs.Option.{option_map}
use Rattle.state_text.specs.Offer.{Offer}
use Rattle.fork_host.specs.Restored.{is_bad_target, references_in, target_of}
use Rattle.fork_host.proofs.TargetLemmas.{found_first, found_second}
use Rattle.fork_host.proofs.targets.first_bad_target.Goals as goal

pub returns-then-is_some : goal.returns-then-is_some
returns-then-is_some g c =
    let bad = is_bad_target (g.K.Known.kinds c.args.known.now) in
    found_first bad (map (λ row. row.1) c.args.state.now.repositories) (map (λ (offer : Offer). offer.repository) c.args.state.now.offers) c.bad_in_repositories-bad.result
    (c.bad_in_repositories-bad.ensures ∙ ap (λ rows. option_map target_of (find bad (flat_map references_in (map (λ row. row.1) rows)))) c.repositories.ensures) (sym c.is_some.ensures ∙ c.if-is_some.true)

pub returns : goal.returns
returns g c =
    let bad = is_bad_target (g.K.Known.kinds c.args.known.now) in
    found_second bad (map (λ row. row.1) c.args.state.now.repositories) (map (λ (offer : Offer). offer.repository) c.args.state.now.offers) c.bad_in_repositories-bad.result c.bad_in_offers.result
    (c.bad_in_repositories-bad.ensures ∙ ap (λ rows. option_map target_of (find bad (flat_map references_in (map (λ row. row.1) rows)))) c.repositories.ensures) (sym c.is_some.ensures ∙ c.if-is_some.false)
    (c.bad_in_offers.ensures ∙ ap (λ offers. option_map target_of (find bad (flat_map references_in (map (λ (offer : Offer). offer.repository) offers)))) c.offers.ensures)
