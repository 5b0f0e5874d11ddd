use Rattle.std.proofs.Common.{◌≤◌, ◌+◌, ◌||◌, ◌∙◌, sym, ap, subst, refl, arith, cond}
use Rattle.number_links.specs.Numbers.{has}
use Rattle.object_table.specs.Views.{holds}
use Rattle.object_table.proofs.SettlingLemmas.{holders_fit, holders_some, is_one, moves, seen_within, size_fits, total_small, use_within, used_small, word_at}
use Rattle.object_table.proofs.settling.settle.Goals as goal

pub counted-holders-requires-clause-fits : goal.counted-holders-requires-clause-fits
counted-holders-requires-clause-fits c lacks some =
    holders_fit c.args.table.now.entries c.args.own.now c.requires.there.0 c.args.row c.invariant.ensures.rows c.requires.there.1 c.requires.one (sym c.holds-held.ensures ∙ lacks)

pub counted-holders-requires-clause-there : goal.counted-holders-requires-clause-there
counted-holders-requires-clause-there c held =
    holders_some c.args.table.now.entries c.args.own.now c.requires.there.0 c.args.row c.invariant.ensures.rows c.requires.there.1 c.requires.one (sym c.holds-held.ensures ∙ held)

pub mark-requires-clause-within : goal.mark-requires-clause-within
mark-requires-clause-within c =
    subst (λ n. cond (has c.args.own.now.visible c.args.row.number) n 0 ≤ c.args.own.now.used) (sym c.size_of.ensures)
    (seen_within c.args.table.now.entries c.args.own.now c.requires.there.0 c.args.row c.invariant.ensures.rows c.requires.there.1 c.requires.one)

pub mark-requires-clause-both : goal.mark-requires-clause-both
mark-requires-clause-both c =
    subst (λ n. cond (holds c.args.own.now c.args.row.number) n 0 ≤ c.args.own.now.total) (sym c.size_of.ensures)
    (use_within c.args.table.now.entries c.args.own.now c.requires.there.0 c.args.row c.invariant.ensures.rows c.requires.there.1 c.requires.one)

pub mark-requires-clause-fits : goal.mark-requires-clause-fits
mark-requires-clause-fits c =
    size_fits c.args.own.now.used c.size_of.result c.args.row.length c.args.visible (has c.args.own.now.visible c.args.row.number)
    (used_small c.args.table.now.entries c.args.own.now c.invariant.ensures.rows c.requires.one.own) (let s = c.invariant.ensures.rows.short c.requires.there.0 c.args.row c.requires.there.1 in let is = c.size_of.ensures in omega (arith, s, is))

pub mark-requires-clause-all_fit : goal.mark-requires-clause-all_fit
mark-requires-clause-all_fit c =
    size_fits c.args.own.now.total c.size_of.result c.args.row.length (c.args.visible || c.args.staged) (holds c.args.own.now c.args.row.number)
    (total_small c.args.table.now.entries c.args.own.now c.invariant.ensures.rows c.requires.one.own) (let s = c.invariant.ensures.rows.short c.requires.there.0 c.args.row c.requires.there.1 in let is = c.size_of.ensures in omega (arith, s, is))

pub write-requires : goal.write-requires
write-requires c = record { used = record { name = c.requires.there.0; row = c.args.row; here = c.requires.there.1; same = refl } }

pub returns-clause-words : goal.returns-clause-words
returns-clause-words c name here =
    word_at c.args.table.now c.write.new.self c.args.own.now c.mark.new.self name c.args.row (record { length = c.args.row.length; holders = c.counted-holders.result; number = c.args.row.number; kind = c.args.row.kind }) c.args.visible c.args.staged
    c.invariant.ensures.rows here c.requires.one refl
    (ap (λ b. c.counted-holders.result + cond b 1 0) (sym c.holds-held.ensures) ∙ c.counted-holders.ensures ∙ ap (λ b. c.args.row.holders + cond b 1 0) c.either.ensures)
    c.write.ensures.places (c.write.ensures.rows name c.args.row here refl) c.mark.ensures.visible c.mark.ensures.staged
    (ap (λ n. c.mark.new.self.used + cond (has c.args.own.now.visible c.args.row.number) n 0) (sym c.size_of.ensures) ∙ c.mark.ensures.used ∙ ap (λ n. c.args.own.now.used + cond c.args.visible n 0) c.size_of.ensures)
    (ap (λ n. c.mark.new.self.total + cond (holds c.args.own.now c.args.row.number) n 0) (sym c.size_of.ensures) ∙ c.mark.ensures.total ∙ ap (λ n. c.args.own.now.total + cond (c.args.visible || c.args.staged) n 0) c.size_of.ensures)

pub returns-clause-moves : goal.returns-clause-moves
returns-clause-moves c =
    moves c.args.table.now c.write.new.self c.args.own.now c.mark.new.self c.requires.there.0 c.args.row (record { length = c.args.row.length; holders = c.counted-holders.result; number = c.args.row.number; kind = c.args.row.kind }) c.args.visible c.args.staged
    c.invariant.ensures.rows c.requires.there.1 c.requires.one refl
    (ap (λ b. c.counted-holders.result + cond b 1 0) (sym c.holds-held.ensures) ∙ c.counted-holders.ensures ∙ ap (λ b. c.args.row.holders + cond b 1 0) c.either.ensures)
    c.write.ensures.places (c.write.ensures.rows c.requires.there.0 c.args.row c.requires.there.1 refl) c.mark.ensures.visible c.mark.ensures.staged
    (ap (λ n. c.mark.new.self.used + cond (has c.args.own.now.visible c.args.row.number) n 0) (sym c.size_of.ensures) ∙ c.mark.ensures.used ∙ ap (λ n. c.args.own.now.used + cond c.args.visible n 0) c.size_of.ensures)
    (ap (λ n. c.mark.new.self.total + cond (holds c.args.own.now c.args.row.number) n 0) (sym c.size_of.ensures) ∙ c.mark.ensures.total ∙ ap (λ n. c.args.own.now.total + cond (c.args.visible || c.args.staged) n 0) c.size_of.ensures)

pub returns-clause-one : goal.returns-clause-one
returns-clause-one c =
    is_one c.args.table.now c.write.new.self c.args.own.now c.mark.new.self c.requires.there.0 c.args.row (record { length = c.args.row.length; holders = c.counted-holders.result; number = c.args.row.number; kind = c.args.row.kind }) c.args.visible c.args.staged
    c.invariant.ensures.rows c.requires.there.1 c.requires.one refl
    (ap (λ b. c.counted-holders.result + cond b 1 0) (sym c.holds-held.ensures) ∙ c.counted-holders.ensures ∙ ap (λ b. c.args.row.holders + cond b 1 0) c.either.ensures)
    c.write.ensures.places (c.write.ensures.rows c.requires.there.0 c.args.row c.requires.there.1 refl) c.mark.ensures.visible c.mark.ensures.staged
    (ap (λ n. c.mark.new.self.used + cond (has c.args.own.now.visible c.args.row.number) n 0) (sym c.size_of.ensures) ∙ c.mark.ensures.used ∙ ap (λ n. c.args.own.now.used + cond c.args.visible n 0) c.size_of.ensures)
    (ap (λ n. c.mark.new.self.total + cond (holds c.args.own.now c.args.row.number) n 0) (sym c.size_of.ensures) ∙ c.mark.ensures.total ∙ ap (λ n. c.args.own.now.total + cond (c.args.visible || c.args.staged) n 0) c.size_of.ensures)
