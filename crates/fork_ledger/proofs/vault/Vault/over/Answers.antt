use Rattle.std.proofs.Common.{ap, sym, subst, ◌∙◌}
use Rattle.std.specs.FinMap as map
use Rattle.git_name.proofs.MapLemmas.{map_values_empty}
use Rattle.git_name.proofs.Names.{name_total, name_exact}
use Rattle.git_name.specs.Same.{is_listed}
use Rattle.fork_ledger.specs.Shown.{own_of, tenants_of}
use Rattle.fork_ledger.specs.Store.{IsStored}
use Rattle.fork_ledger.proofs.CoverLemmas.{keys_listed}
use Rattle.fork_ledger.proofs.StoredLemmas.{stored_none}
use Rattle.fork_ledger.proofs.vault.Vault.over.Goals as goal

pub invariant_of-result : goal.invariant_of-result
invariant_of-result g c = λ h.
    let files = c.survey.inside.files.contents in
    let surveyed = c.survey.invariant in (
      record {
        stored = subst (λ m. IsStored m files) (sym (ap (tenants_of files) surveyed.ledgers ∙ map_values_empty name_total name_exact (own_of files))) (stored_none files);
        covers = λ q there. ap (λ names. is_listed names q) (surveyed.names h) ∙ keys_listed files q ∙ there;
      },
      surveyed.led h,
    )

pub returns-clause-empty : goal.returns-clause-empty
returns-clause-empty g c =
    let files = c.survey.inside.files.contents in
    ap (tenants_of files) c.survey.invariant.ledgers ∙ map_values_empty name_total name_exact (own_of files)

pub returns-clause-names : goal.returns-clause-names
returns-clause-names g c = λ h. c.survey.invariant.names (ap (λ s. s.honest) c.survey.view_is ∙ h) ∙ ap (λ s. map.keys s.contents) c.survey.view_is
