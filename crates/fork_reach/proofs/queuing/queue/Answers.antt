use Rattle.std.proofs.Common.{inl, inr, sym, ap, ◌∙◌, [], ◌∷◌, length, take}
use Rattle.std.proofs.Math.Seq.{take-append_seam}
use Rattle.git_name.specs.Same.{is_listed}
use Rattle.fork_reach.proofs.QueueLemmas.{joins_new, joins_old, queues_new, queues_same}
use Rattle.fork_reach.proofs.SeeingLemmas.{inserts_hashed, was_new, was_old}
use Rattle.fork_reach.proofs.queuing.queue.Goals as goal

pub returns-then-not-is_new : goal.returns-then-not-is_new
returns-then-not-is_new g c =
    let queue = c.args.names.now.keys in
    let first = c.args.name in
    let told = c.in-Ok.ensures in
    let known = was_old (is_listed queue first) told.added c.if-not-is_new.true in
    queues_same (g.N.Names.names c.args.there.now) first queue c.insert.new.self.keys (joins_old queue first c.insert.new.self.keys told.keys known) (inl known)

pub returns-in_default-leads : goal.returns-in_default-leads
returns-in_default-leads g c =
    let queue = c.args.names.now.keys in
    let first = c.args.name in
    let told = c.in-Ok.ensures in
    let new = was_new (is_listed queue first) told.added c.if-not-is_new.false in
    let joined = joins_new queue first c.insert.new.self.keys told.keys new in
    queues_same (g.N.Names.names c.args.there.now) first queue c.truncate.new.self.keys
    (c.truncate.ensures.keys ∙ ap (λ n. take n c.insert.new.self.keys) c.len-before.ensures.len ∙ ap (take (length queue)) joined ∙ take-append_seam queue (first ∷ [])) (inr (sym c.in_default-leads.ensures.there))

pub returns : goal.returns
returns g c =
    let queue = c.args.names.now.keys in
    let first = c.args.name in
    let told = c.in-Ok.ensures in
    let new = was_new (is_listed queue first) told.added c.if-not-is_new.false in
    queues_new (g.N.Names.names c.args.there.now) first queue c.insert.new.self.keys (joins_new queue first c.insert.new.self.keys told.keys new) new
    (inserts_hashed first (is_listed queue) (is_listed c.insert.new.self.keys) told.updates.0) told.updates.1 (sym c.in-Some.ensures.there)
