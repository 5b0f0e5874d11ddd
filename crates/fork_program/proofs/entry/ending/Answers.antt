use Rattle.std.proofs.KnownBytes.{Keeps-refl}
use Rattle.fork_program.specs.Program.{Helped}
use Rattle.fork_program.proofs.EntryLemmas.{ends_so, unhelped}
use Rattle.fork_program.proofs.HostingLemmas.{untouched}
use Rattle.fork_program.proofs.entry.ending.Goals as goal

pub returns-in-Ok : goal.returns-in-Ok
returns-in-Ok g c =
    let asked = rw c.in-Ok.command-is at c.in-Ok.ensures.ok in
    ends_so _ c.in-Ok.command _ _ _ _ c.carried_out.result asked.0 asked.1 c.carried_out.ensures

pub returns-in-Ok-help : goal.returns-in-Ok-help
returns-in-Ok-help g c =
    let help = rw c.in-Err-Help.field-0-is at c.in-Err-Help.ensures.err in
    Helped _ help.0 help.1 (Keeps-refl _) c.in-Ok-help.ensures.ok.0 c.in-Ok-help.ensures.ok.1

pub returns-in-Err : goal.returns-in-Err
returns-in-Err g c =
    let help = rw c.in-Err-Help.field-0-is at c.in-Err-Help.ensures.err in
    unhelped _ _ _ _ _ _ c.in-Err.fault help.0 help.1 c.in-Err.ensures.kept

pub returns-in-Err-BadTenant : goal.returns-in-Err-BadTenant
returns-in-Err-BadTenant g c = (rw c.in-Err-BadTenant.field-0-is at c.in-Err-BadTenant.ensures.err, untouched _ _)
