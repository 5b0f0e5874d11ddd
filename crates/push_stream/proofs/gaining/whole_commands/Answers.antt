use Rattle.std.proofs.Common.{◌≡◌, ◌<◌, ◌-◌, length, arith, ap, List, subst, Ok, Err}
use Rattle.std.specs.Prelude.{IfNone, IfSome}
use Rattle.git_reftx.specs.Reading.{command_at}
use Rattle.git_reftx.specs.declared.fault.CommandFault.TheVariants.{Truncated}
use Rattle.std.proofs.lemmas.Bool.Decides.{nat_tests}
use Rattle.std.proofs.lemmas.Result.{err_from_is_err_and}
use Rattle.git_reftx.specs.declared.reading.TheConstants.{MAX_COMMANDS}
use Rattle.git_reftx.specs.declared.command.Command.{Command}
use Rattle.git_reftx.proofs.ReadingLemmas.{command_shorter}
use Rattle.push_stream.proofs.FrontLemmas.{front_begun, front_ends, front_more}
use Rattle.push_stream.proofs.GainingLemmas.{breaks_command, command_more, header_begun, headed_left, nothing_left, unfinished_left}
use Rattle.push_stream.proofs.RestLemmas.{cut_short}
use Rattle.push_stream.proofs.gaining.whole_commands.Goals as goal

pub loop-alloc-init : goal.loop-alloc-init
loop-alloc-init c =
    let none = c.new-commands.ensures.items in
    let empty : length c.new-commands.result.items ≡ 0 = ap (λ (l : List Command). length l) none in
    (MAX_COMMANDS - c.args.had, omega arith, header_begun (MAX_COMMANDS - c.args.had) c.args.text.now c.new-commands.result.items none, front_begun (MAX_COMMANDS - c.args.had) c.args.text.now c.new-commands.result.items none)

pub returns-in-Some-clause-found : goal.returns-in-Some-clause-found
returns-in-Some-clause-found c =
    let so_far = c.loop-alloc.invariant in
    headed_left _ so_far.0 c.loop-alloc.commands.items c.loop-alloc.left.now c.in-Some.records.now so_far.2 c.in-Some.ensures.found

pub returns-in-Some-clause-front : goal.returns-in-Some-clause-front
returns-in-Some-clause-front c = front_ends (MAX_COMMANDS - c.args.had) c.args.text.now c.loop-alloc.left.now c.in-Some.records.now c.loop-alloc.commands.items c.loop-alloc.invariant.3 c.in-Some.ensures.found

pub returns-in_default-2-clause-front : goal.returns-in_default-2-clause-front
returns-in_default-2-clause-front c = c.loop-alloc.invariant.3

pub returns-clause-front : goal.returns-clause-front
returns-clause-front c = c.loop-alloc.invariant.3

pub returns-in_default-2-clause-found : goal.returns-in_default-2-clause-found
returns-in_default-2-clause-found c =
    let so_far = c.loop-alloc.invariant in
    let some : 0 < length c.loop-alloc.left.now = grind (arith, nat_tests) in
    unfinished_left _ so_far.0 c.loop-alloc.commands.items c.loop-alloc.left.now some c.in_default.ensures.none so_far.2 (subst (λ o. IfNone o (command_at c.loop-alloc.left.now ≡ Err Truncated)) c.in_default-2.is c.in_ok-command.ensures.unfinished)

pub returns-in_default-2-clause-short : goal.returns-in_default-2-clause-short
returns-in_default-2-clause-short c = λ _. cut_short c.loop-alloc.left.now (subst (λ o. IfNone o (command_at c.loop-alloc.left.now ≡ Err Truncated)) c.in_default-2.is c.in_ok-command.ensures.unfinished)

pub returns-in_err-command-clause-exact : goal.returns-in_err-command-clause-exact
returns-in_err-command-clause-exact c =
    let so_far = c.loop-alloc.invariant in
    let some : 0 < length c.loop-alloc.left.now = grind (arith, nat_tests) in
    let told = err_from_is_err_and c.from_residual.result c.from_residual.ensures.1 in
    rw (told.1, told.2) (breaks_command _ so_far.0 c.loop-alloc.commands.items c.loop-alloc.left.now _ some c.in_default.ensures.none so_far.2 c.in_err-command.ensures.exact)

pub loop-alloc-smaller : goal.loop-alloc-smaller
loop-alloc-smaller c = command_shorter c.loop-alloc.left.now c.in-Some-2.command c.in-Some-2.others.now (subst (λ o. IfSome o (λ p. command_at c.loop-alloc.left.now ≡ Ok (p.0, p.1.now))) c.in-Some-2.is c.in_ok-command.ensures.taken)

pub loop-alloc-preserved : goal.loop-alloc-preserved
loop-alloc-preserved c =
    let so_far = c.loop-alloc.invariant in
    let some : 0 < length c.loop-alloc.left.now = grind (arith, nat_tests) in
    let few : length c.loop-alloc.commands.items < MAX_COMMANDS - c.args.had = grind (arith, nat_tests) in
    let taken = subst (λ o. IfSome o (λ p. command_at c.loop-alloc.left.now ≡ Ok (p.0, p.1.now))) c.in-Some-2.is c.in_ok-command.ensures.taken in
    let next = command_more (MAX_COMMANDS - c.args.had) _ so_far.0 c.loop-alloc.commands.items c.push.new.self.items c.loop-alloc.left.now c.in-Some-2.others.now c.in-Some-2.command some c.in_default.ensures.none so_far.1 few so_far.2 taken c.in-Ok.ensures.items in
    (next.0, next.1, next.2, front_more (MAX_COMMANDS - c.args.had) c.args.text.now c.loop-alloc.left.now c.in-Some-2.others.now c.loop-alloc.commands.items c.push.new.self.items c.in-Some-2.command few so_far.3 taken c.in-Ok.ensures.items)

pub returns-clause-found : goal.returns-clause-found
returns-clause-found c =
    let so_far = c.loop-alloc.invariant in
    let none : length c.loop-alloc.left.now ≡ 0 = grind (arith, nat_tests) in
    nothing_left _ so_far.0 c.loop-alloc.commands.items c.loop-alloc.left.now so_far.2 none
