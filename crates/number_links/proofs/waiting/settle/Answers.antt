use Rattle.std.proofs.Common.{◌≡◌, ◌∙◌, ap, subst, sym}
use Rattle.std.proofs.lemmas.Result.{on_ok_weaker}
use Rattle.number_links.specs.Numbers.{has}
use Rattle.number_links.specs.Descent.{IsParent, SettlesKey, waits}
use Rattle.number_links.specs.Facts.{Facts, goes_on}
use Rattle.number_links.specs.Generations.{generation}
use Rattle.number_links.specs.declared.along.Along.TheVariants.{Parents}
use Rattle.number_links.proofs.KeyLemmas.{bounded, settles_given}
use Rattle.number_links.proofs.waiting.settle.Goals as goal

pub returns : goal.returns
returns c =
    let facts : Facts = record { links = c.args.ground.now.links.now; times = c.args.ground.now.times.now } in
    let next = goes_on Parents facts in
    let allowed = has c.args.ground.now.allowed.now in
    let gs = c.args.ground.now.generations.now in
    let key = c.requires.key in
    let number : c.number_of.result ≡ key.number = c.number_of.ensures (generation gs key.number) key.number key.of (bounded gs c.requires.few key.number key.high) in
    on_ok_weaker c.put_all.result (λ puts.
    subst (λ followed. SettlesKey (IsParent next allowed gs) c.args.at followed (waits c.args.keys.now) (waits c.put_all.new.keys)) (sym c.if-not-is_followed.false)
    (settles_given gs c.requires.few next allowed c.args.at key c.parents.result.now (waits c.args.keys.now) (waits c.remove.new.self) (waits c.put_all.new.keys) (c.parents.ensures ∙ ap next number) c.remove.ensures.updates.0 puts)) c.put_all.ensures
