-- How the objects of an open upload are read from the store (own), which changes nothing.
use Rattle.std.specs.Prelude.{◌≡◌, IsTrue, [], Result, Ok, Err}
use Rattle.fork_request.specs.declared.host_fault.HostFault.{HostFault}
use Rattle.fork_request.specs.declared.reply.Reply.{Reply}
use Rattle.fork_request.specs.declared.reply.Reply.TheVariants.{Done, Failed}
use Rattle.fork_ledger.specs.Tenants.{shape_of}
use Rattle.fork_host.specs.declared.own.Own.{Own}
use Rattle.fork_host.specs.Bounds.{IsBounded}
use Rattle.fork_host.specs.Handle.{IsSame}

-- how a reply would report that it was read, or the host fault
abbrev pub reading_told : {A : Type 0} → Result A HostFault → Reply
reading_told (Ok read) = Done []
reading_told (Err fault) = Failed fault

-- it still borrows the same vault, whose private maps are the same over an honest store, and over any store as far as no store can
-- change them; and the store keeps the bounds of a step in which nothing is sent
pub record OnlyReads {S : Type 0} (old new : Own S) (reply : Reply) : Type 0 where
  pub kept : IsTrue old.vault.now.honest → new.vault.now.tenants ≡ old.vault.now.tenants
  pub shape : shape_of new.vault.now.tenants ≡ shape_of old.vault.now.tenants
  pub bounded : IsBounded [] old.vault.now new.vault.now reply
  pub same : IsSame old new
