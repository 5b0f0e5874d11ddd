use Rattle.std.proofs.Common.{◌≡◌, ◌<◌, length, arith, ap, List}
use Rattle.std.proofs.lemmas.Bool.Decides.{nat_tests}
use Rattle.std.proofs.lemmas.Result.{err_from_is_err_and}
use Rattle.git_reftx.specs.declared.reading.TheConstants.{MAX_COMMANDS}
use Rattle.git_reftx.specs.declared.command.Command.{Command}
use Rattle.git_reftx.proofs.ReadingLemmas.{command_shorter}
use Rattle.push_stream.proofs.HeaderLemmas.{header_none, header_more, header_fault}
use Rattle.push_stream.proofs.body.read_header.Goals as goal

pub loop-rest-init : goal.loop-rest-init
loop-rest-init c =
    let none = c.new-commands.ensures.items in
    let empty : length c.new-commands.result.items ≡ 0 = ap (λ (l : List Command). length l) none in
    (MAX_COMMANDS, omega arith, header_none c.args.bytes.now c.new-commands.result.items none)

pub returns-in_err-command-clause-exact : goal.returns-in_err-command-clause-exact
returns-in_err-command-clause-exact c =
    let so_far = c.loop-rest.invariant in
    let some : 0 < length c.loop-rest.rest.now = grind (arith, nat_tests) in
    let told = err_from_is_err_and c.from_residual.result c.from_residual.ensures.1 in
    rw (told.1, told.2) (header_fault _ so_far.0 c.loop-rest.commands.items c.loop-rest.rest.now _ some c.in_default.ensures.none so_far.2 c.in_err-command.ensures.exact)

pub loop-rest-smaller : goal.loop-rest-smaller
loop-rest-smaller c = command_shorter c.loop-rest.rest.now c.in_ok-command.command c.in_ok-command.behind.now c.in_ok-command.ensures.taken

pub loop-rest-preserved : goal.loop-rest-preserved
loop-rest-preserved c =
    let so_far = c.loop-rest.invariant in
    let some : 0 < length c.loop-rest.rest.now = grind (arith, nat_tests) in
    let few : length c.loop-rest.commands.items < MAX_COMMANDS = grind (arith, nat_tests) in
    header_more _ so_far.0 c.loop-rest.commands.items c.push.new.self.items c.loop-rest.rest.now c.in_ok-command.behind.now c.in_ok-command.command some c.in_default.ensures.none so_far.1 few so_far.2 c.in_ok-command.ensures.taken c.in-Ok.ensures.items
