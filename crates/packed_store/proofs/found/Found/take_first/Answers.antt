use Rattle.std.proofs.Common.{◌+◌, refl}
use Rattle.packed_store.specs.declared.place.Place.{Place}
use Rattle.packed_store.proofs.ReadingLemmas.{begins_within}
use Rattle.packed_store.proofs.StoredLemmas.{begins_written, noted_or_not_written, undone_written}
use Rattle.packed_store.proofs.TakingLemmas.{damaged_takes, whole_takes}
use Rattle.packed_store.proofs.found.Found.take_first.Goals as goal

pub returns-clause-within : goal.returns-clause-within
returns-clause-within c = (begins_within _ _ _ _ _ _ c.in-Some.ensures.found).1

pub returns-in_default-clause-takes : goal.returns-in_default-clause-takes
returns-in_default-clause-takes c =
    damaged_takes c.args.bytes.now c.args.segment c.args.at c.args.self.now.live.entries c.args.self.now.pending.entries c.note_damage.new.self.live.entries c.note_damage.new.self.pending.entries
    c.note_damage.new.self.is_damaged c.args.self.now.is_damaged c.in-Some-claimed_size.size c.in_default.ensures.none c.in-Some-claimed_size.ensures.found c.in_ok-note_damage.ensures.shown c.in_ok-note_damage.ensures.damaged

pub returns-in_default-clause-written : goal.returns-in_default-clause-written
returns-in_default-clause-written c files part all = undone_written files _ _ c.in_ok-note_damage.ensures.shown all

pub returns-clause-takes : goal.returns-clause-takes
returns-clause-takes c =
    let one = c.in-Some.one in
    whole_takes c.args.bytes.now c.args.segment c.args.at c.args.self.now.live.entries c.args.self.now.pending.entries c.note_after.new.self.live.entries c.note_after.new.self.pending.entries
    c.note_after.new.self.is_damaged c.args.self.now.is_damaged one.word one.name one.title one.len one.size c.in-Some.ensures.found c.in_ok-note_after.ensures.noted c.note_after.ensures.same

pub returns-clause-written : goal.returns-clause-written
returns-clause-written c files part all =
    let one = c.in-Some.one in
    let place : Place = record { segment = c.args.segment; at = c.args.at + one.title; len = one.len } in
    noted_or_not_written _ files one.word one.name place _ _ c.in_ok-note_after.ensures.noted
    (begins_written files place c.args.at one.title c.args.bytes.now one.word one.name one.size part c.in-Some.ensures.found refl) all
