use Rattle.std.proofs.Common.{IfErr, OnOk}
use Rattle.std.proofs.KnownBytes.{Keeps-refl}
use Rattle.std.proofs.lemmas.Result.{on_ok_weaker}
use Rattle.std.specs.Io.KnownBytes.{Keeps}
use Rattle.fork_command.specs.declared.command.Command.TheVariants.{AddTenant, RemoveTenant, Repack, Serve, SetLimit, Upgrade}
use Rattle.fork_program.specs.Changing.{IsLimitSet, IsLimitUnset, IsNotAdded, IsNotRemoved, IsTenantAdded, IsTenantRemoved}
use Rattle.fork_program.specs.Keeping.{IsNotUpgraded, IsUnopened, IsUntouched}
use Rattle.fork_program.specs.Serving.{IsListened, IsUnlistened}
use Rattle.fork_program.proofs.EntryLemmas.{carried}
use Rattle.fork_program.proofs.HostingLemmas.{if_err_more, on_ok_always, untouched}
use Rattle.fork_program.proofs.entry.carried_out.Goals as goal

pub returns-in-Serve : goal.returns-in-Serve
returns-in-Serve g c =
    let input = g.R.Read.remaining c.args.reader.now in
    let before = g.W.Write.contents c.args.writer.now in
    let hosting = c.in-Serve.hosting in
    let n = c.in-Serve.connections in
    let m = c.in-Serve.at_once in
    let right : OnOk c.serve.result (IsListened hosting m n × Keeps before before) = on_ok_weaker c.serve.result (λ served. (served, Keeps-refl before)) c.serve.ensures.ok in
    let why : IfErr c.serve.result (λ fault. IsUnlistened hosting m n fault × IsUntouched input input before before) = if_err_more c.serve.result (λ fault why. (why, untouched input before)) c.serve.ensures.err in
    rw c.in-Serve.is (carried (Serve c.in-Serve.socket n m hosting) input input before before c.serve.result c.done-in-Serve.result c.done-in-Serve.ensures right why)

pub returns-in-Upgrade : goal.returns-in-Upgrade
returns-in-Upgrade g c =
    let input = g.R.Read.remaining c.args.reader.now in
    let before = g.W.Write.contents c.args.writer.now in
    let after = g.W.Write.contents c.upgrade.new.writer in
    let why : IfErr c.upgrade.result (λ fault. IsNotUpgraded before after fault × Keeps input input) = if_err_more c.upgrade.result (λ fault why. (why, Keeps-refl input)) c.upgrade.ensures.err in
    rw c.in-Upgrade.is (carried (Upgrade c.in-Upgrade.dir) input input before after c.upgrade.result c.done-in-Upgrade.result c.done-in-Upgrade.ensures c.upgrade.ensures.ok why)

pub returns-in-AddTenant : goal.returns-in-AddTenant
returns-in-AddTenant g c =
    let input = g.R.Read.remaining c.args.reader.now in
    let before = g.W.Write.contents c.args.writer.now in
    let grant = c.in-AddTenant.grant in
    let right : OnOk c.add_tenant.result (IsTenantAdded grant × Keeps before before) = on_ok_weaker c.add_tenant.result (λ done. (done, Keeps-refl before)) c.add_tenant.ensures.ok in
    let why : IfErr c.add_tenant.result (λ fault. IsNotAdded grant fault × IsUntouched input input before before) = if_err_more c.add_tenant.result (λ fault why. (why, untouched input before)) c.add_tenant.ensures.err in
    rw c.in-AddTenant.is (carried (AddTenant c.in-AddTenant.dir grant) input input before before c.add_tenant.result c.done-in-AddTenant.result c.done-in-AddTenant.ensures right why)

pub returns-in-SetLimit : goal.returns-in-SetLimit
returns-in-SetLimit g c =
    let input = g.R.Read.remaining c.args.reader.now in
    let before = g.W.Write.contents c.args.writer.now in
    let grant = c.in-SetLimit.grant in
    let right : OnOk c.set_limit.result (IsLimitSet grant × Keeps before before) = on_ok_weaker c.set_limit.result (λ done. (done, Keeps-refl before)) c.set_limit.ensures.ok in
    let why : IfErr c.set_limit.result (λ fault. IsLimitUnset grant fault × IsUntouched input input before before) = if_err_more c.set_limit.result (λ fault why. (why, untouched input before)) c.set_limit.ensures.err in
    rw c.in-SetLimit.is (carried (SetLimit c.in-SetLimit.dir grant) input input before before c.set_limit.result c.done-in-SetLimit.result c.done-in-SetLimit.ensures right why)

pub returns-in-RemoveTenant : goal.returns-in-RemoveTenant
returns-in-RemoveTenant g c =
    let input = g.R.Read.remaining c.args.reader.now in
    let before = g.W.Write.contents c.args.writer.now in
    let tenant = c.in-RemoveTenant.tenant in
    let right : OnOk c.remove_tenant.result (IsTenantRemoved tenant × Keeps before before) = on_ok_weaker c.remove_tenant.result (λ done. (done, Keeps-refl before)) c.remove_tenant.ensures.ok in
    let why : IfErr c.remove_tenant.result (λ fault. IsNotRemoved tenant fault × IsUntouched input input before before) = if_err_more c.remove_tenant.result (λ fault why. (why, untouched input before)) c.remove_tenant.ensures.err in
    rw c.in-RemoveTenant.is (carried (RemoveTenant c.in-RemoveTenant.dir tenant) input input before before c.remove_tenant.result c.done-in-RemoveTenant.result c.done-in-RemoveTenant.ensures right why)

pub returns-in-Repack : goal.returns-in-Repack
returns-in-Repack g c =
    let input = g.R.Read.remaining c.args.reader.now in
    let before = g.W.Write.contents c.args.writer.now in
    let right : OnOk c.repack.result (Keeps before before) = on_ok_always c.repack.result (Keeps-refl before) in
    let why : IfErr c.repack.result (λ fault. IsUnopened fault × IsUntouched input input before before) = if_err_more c.repack.result (λ fault why. (why, untouched input before)) c.repack.ensures in
    rw c.in-Repack.is (carried (Repack c.in-Repack.dir c.in-Repack.packed) input input before before c.repack.result c.done-in-Repack.result c.done-in-Repack.ensures right why)
