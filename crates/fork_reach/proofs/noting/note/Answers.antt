use Rattle.std.proofs.Common.{ap, length, take, sym, subst, ◌∙◌, [], ◌∷◌}
use Rattle.std.proofs.Math.Seq.{take-append_seam}
use Rattle.std.specs.List.{list_any}
use Rattle.std.specs.HashSet.{contains}
use Rattle.git_name.specs.Same.{same_name}
use Rattle.fork_reach.specs.Seeing.{Sees}
use Rattle.fork_reach.proofs.QueueLemmas.{joins_new, joins_old}
use Rattle.fork_reach.proofs.SeeingLemmas.{inserts_hashed, sees_absent, sees_end, sees_known, sees_new, was_new, was_old}
use Rattle.fork_reach.proofs.noting.note.Goals as goal

pub returns-then-not-is_new : goal.returns-then-not-is_new
returns-then-not-is_new g c =
    let first = c.args.name in
    let names = c.args.seen.now.keys in
    let seen = contains same_name c.args.seen.now in
    let told = c.in-Ok.ensures in
    let known = was_old (seen first) told.added c.if-not-is_new.true in
    subst (λ ks. Sees (g.N.Names.names c.args.there.now) (g.N.Names.ends c.args.there.now) (first ∷ []) seen c.args.waiting.now.items (λ name. list_any (same_name name) ks) c.args.waiting.now.items) (sym (joins_old names first c.insert.new.self.keys told.keys known))
    (sees_known (g.N.Names.names c.args.there.now) (g.N.Names.ends c.args.there.now) first seen c.args.waiting.now.items known)

pub returns-in_default-leads : goal.returns-in_default-leads
returns-in_default-leads g c =
    let first = c.args.name in
    let names = c.args.seen.now.keys in
    let seen = contains same_name c.args.seen.now in
    let told = c.in-Ok.ensures in
    let joined = joins_new names first c.insert.new.self.keys told.keys (was_new (seen first) told.added c.if-not-is_new.false) in
    let back = c.truncate.ensures.keys ∙ ap (λ n. take n c.insert.new.self.keys) c.len-before.ensures.len ∙ ap (take (length names)) joined ∙ take-append_seam names (first ∷ []) in
    subst (λ ks. Sees (g.N.Names.names c.args.there.now) (g.N.Names.ends c.args.there.now) (first ∷ []) seen c.args.waiting.now.items (λ name. list_any (same_name name) ks) c.args.waiting.now.items) (sym back)
    (sees_absent (g.N.Names.names c.args.there.now) (g.N.Names.ends c.args.there.now) first seen c.args.waiting.now.items (sym c.in_default-leads.ensures.there))

pub returns-then-not-leads : goal.returns-then-not-leads
returns-then-not-leads g c =
    let seen = contains same_name c.args.seen.now in
    let told = c.in-Ok.ensures in
    sees_end (g.N.Names.names c.args.there.now) (g.N.Names.ends c.args.there.now) c.args.name seen c.args.waiting.now.items (contains same_name c.insert.new.self) (was_new (seen c.args.name) told.added c.if-not-is_new.false) (inserts_hashed c.args.name seen (contains same_name c.insert.new.self) told.updates.0) told.updates.1
    (sym c.in-Some.ensures.there) (c.in-Some.ensures.ends c.if-not-leads.true)

pub returns : goal.returns
returns g c =
    let seen = contains same_name c.args.seen.now in
    let told = c.in-Ok.ensures in
    sees_new (g.N.Names.names c.args.there.now) (g.N.Names.ends c.args.there.now) c.args.name seen c.args.waiting.now.items (contains same_name c.insert.new.self) c.push.new.self.items (was_new (seen c.args.name) told.added c.if-not-is_new.false) (inserts_hashed c.args.name seen (contains same_name c.insert.new.self) told.updates.0) told.updates.1
    (sym c.in-Some.ensures.there) c.in_ok-push.ensures.items
