use Rattle.std.proofs.Common.{◌≡◌, ◌++◌, drop}
use Rattle.std.specs.Prelude.{codes, decimal, flat_map}
use Rattle.fork_host.proofs.tenant.figures.add_figures.Given as goal

-- the figures so far, and then those that are left
abbrev pub invariant-loop-figure : goal.invariant-loop-figure
invariant-loop-figure l =
    l.text.items ++ flat_map (λ figure. codes " " ++ decimal figure) (drop l.figure-index l.figures) ≡ l.fn.text.items ++ flat_map (λ figure. codes " " ++ decimal figure) l.figures
