use Rattle.std.proofs.Common.{sym, subst, ◌∙◌, rules}
use Rattle.git_header.specs.Ident.{IsIdentValue, IsIdent}
use Rattle.git_header.proofs.Splits.{split_none}
use Rattle.git_header.proofs.IdentLemmas.{name_side, email_side, parts_are}
use Rattle.git_header.proofs.ident.Ident.read.Goals as goal

pub returns-in_default-clause-none : goal.returns-in_default-clause-none
returns-in_default-clause-none c v is = split_none 60 v.name _ c.args.text.now c.in_default.ensures.none is.spelling

pub returns-in_default-cut-clause-none : goal.returns-in_default-cut-clause-none
returns-in_default-cut-clause-none c v is =
    let one = name_side c.in-Some.name.now c.in-Some.rest.now v c.in-Some.ensures.first (subst (IsIdent v) c.in-Some.ensures.whole is) in
    split_none 62 v.email _ c.in-Some.rest.now c.in_default-cut.ensures.none one.1

pub returns-in_default-read_time-clause-none : goal.returns-in_default-read_time-clause-none
returns-in_default-read_time-clause-none c v is =
    let one = name_side c.in-Some.name.now c.in-Some.rest.now v c.in-Some.ensures.first (subst (IsIdent v) c.in-Some.ensures.whole is) in
    let two = email_side c.in-Some-cut.email.now c.in-Some-cut.rest.now v c.in-Some-cut.ensures.first is.right (sym c.in-Some-cut.ensures.whole ∙ one.1) in
    c.in_default-read_time.ensures.none v.seconds v.sign v.zone is.right.seconds two.1

pub returns-in_default-new-clause-none : goal.returns-in_default-new-clause-none
returns-in_default-new-clause-none c v is =
    let same = parts_are c.args.text.now c.in-Some.name.now c.in-Some-cut.email.now c.in-Some.rest.now c.in-Some-cut.rest.now c.in-Some-read_time.zone.now c.in-Some-read_time.seconds c.in-Some-read_time.sign v
    c.in-Some.ensures.whole c.in-Some.ensures.first c.in-Some-cut.ensures.whole c.in-Some-cut.ensures.first c.in-Some-read_time.ensures.found (search rules) is in
    c.in_default-new.ensures.exact.1 (subst IsIdentValue same is.right)
