-- The figures that the host reports about its tenants.
use Rattle.std.proofs.Common.{◌≡◌, ℕ, List, [], ◌∷◌, ◌++◌, sym, ap, ◌∙◌, refl, map}
use Rattle.std.proofs.lemmas.List.{append-nil, append_assoc}
use Rattle.std.specs.List.{flat_map}
use Rattle.std.specs.FinMap.{entries}
use Rattle.fork_ledger.specs.Tenants.{VaultState}
use Rattle.fork_model.specs.Figures.{figure_line, figure_lines}
use Rattle.fork_model.specs.View.{View}
use Rattle.fork_host.specs.Shown.{Account, HostState, entry_shown, shown, world_of}
use Rattle.fork_host.proofs.WorldLemmas.{entries_world}

abbrev pub Rows : Type 0
Rows = List (List ℕ × Account)

-- the lines of these accounts over a vault
abbrev pub lines_by : VaultState → Rows → List ℕ
lines_by vault es = flat_map (λ (e : List ℕ × Account). figure_line e.0 (shown e.1 vault e.0)) es

shown_lines : (vault : VaultState) (es : Rows) → lines_by vault es ≡ flat_map (λ (e : List ℕ × View). figure_line e.0 e.1) (map (entry_shown vault) es)
shown_lines vault [] = refl
shown_lines vault (e ∷ es) = ap (λ rest. figure_line e.0 (shown e.1 vault e.0) ++ rest) (shown_lines vault es)

-- one more account
pub line_more : (vault : VaultState) (es : Rows) (e : List ℕ × Account) → lines_by vault (es ++ e ∷ []) ≡ lines_by vault es ++ figure_line e.0 (shown e.1 vault e.0)
line_more vault [] e = append-nil (figure_line e.0 (shown e.1 vault e.0))
line_more vault (x ∷ es) e = ap (λ rest. figure_line x.0 (shown x.1 vault x.0) ++ rest) (line_more vault es e) ∙ sym (append_assoc (figure_line x.0 (shown x.1 vault x.0)) (lines_by vault es) (figure_line e.0 (shown e.1 vault e.0)))

-- the lines of all accounts are those of the world
pub all_lines : (state : HostState) → lines_by state.vault (entries state.accounts) ≡ figure_lines (world_of state)
all_lines state = shown_lines state.vault (entries state.accounts) ∙ ap (flat_map (λ (e : List ℕ × View). figure_line e.0 e.1)) (sym (entries_world state))
