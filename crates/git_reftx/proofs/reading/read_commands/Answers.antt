use Rattle.std.proofs.Common.{◌≡◌, ◌<◌, length, arith, ap, ◌∙◌, List, sym}
use Rattle.std.proofs.lemmas.Bool.Decides.{nat_tests}
use Rattle.git_reftx.specs.declared.command.Command.{Command}
use Rattle.git_reftx.specs.Reading.{commands_in}
use Rattle.git_reftx.proofs.ReadingLemmas.{onto, command_shorter, read_none, read_more}
use Rattle.git_reftx.proofs.reading.read_commands.Goals as goal
use Rattle.git_reftx.specs.declared.reading.TheConstants.{MAX_COMMANDS}

pub loop-rest-init : goal.loop-rest-init
loop-rest-init c =
    let none = c.new-commands.ensures.items in
    let empty : length c.new-commands.result.items ≡ 0 = ap (λ (l : List Command). length l) none in
    (MAX_COMMANDS, omega arith, read_none c.args.body.now ∙ ap (λ commands. onto commands (commands_in MAX_COMMANDS c.args.body.now)) (sym none))

pub loop-rest-smaller : goal.loop-rest-smaller
loop-rest-smaller c = command_shorter c.loop-rest.rest.now c.in_ok-command.command c.in_ok-command.behind.now c.in_ok-command.ensures.taken

pub loop-rest-preserved : goal.loop-rest-preserved
loop-rest-preserved c =
    let so_far = c.loop-rest.invariant in
    let some : 0 < length c.loop-rest.rest.now = grind (arith, nat_tests) in
    let few : length c.loop-rest.commands.items < 256 = grind (arith, nat_tests) in
    read_more _ so_far.0 c.loop-rest.commands.items c.push.new.self.items c.loop-rest.rest.now c.in_ok-command.behind.now c.in_ok-command.command some so_far.1 few so_far.2 c.in_ok-command.ensures.taken c.in-Ok.ensures.items
