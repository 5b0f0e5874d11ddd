use Rattle.std.proofs.Common.{ap, ◌∙◌, sym, subst, Option, List, ℕ, unwrap_or, [], map, IfOk, IfErr}
use Rattle.std.proofs.lemmas.List.Elements.{All-nil, All-same}
use Rattle.clap.specs.Words.{Text, found_of}
use Rattle.clap.proofs.WalkLemmas.{raw_values-rows}
use Rattle.fork_command.specs.Grant.{AreGrants, IsBadGrant, IsGrant, grant_word}
use Rattle.fork_command.proofs.hosting.tenants_of.Goals as goal

pub returns-in-Some-clause-ok : goal.returns-in-Some-clause-ok
returns-in-Some-clause-ok c =
    let read = ap (λ (o : Option (List Text)). unwrap_or o []) (c.in-Some.ensures ∙ raw_values-rows (found_of c.args.matches.now) _) in
    subst (λ (words : List (List ℕ)). IfOk c.grants_of.result (λ grants. AreGrants grants.items words)) read c.grants_of.ensures.ok

pub returns-in-Some-clause-err : goal.returns-in-Some-clause-err
returns-in-Some-clause-err c =
    let read = ap (λ (o : Option (List Text)). unwrap_or o []) (c.in-Some.ensures ∙ raw_values-rows (found_of c.args.matches.now) _) in
    subst (λ (words : List (List ℕ)). IfErr c.grants_of.result (IsBadGrant words)) read c.grants_of.ensures.err

pub returns-in-None-clause-ok : goal.returns-in-None-clause-ok
returns-in-None-clause-ok c =
    let read = ap (λ (o : Option (List Text)). unwrap_or o []) (c.in-None.ensures ∙ raw_values-rows (found_of c.args.matches.now) _) in
    record {
      right = All-same IsGrant _ _ c.new.ensures.items (All-nil IsGrant);
      spelled = sym read ∙ ap (map grant_word) (sym c.new.ensures.items);
    }
