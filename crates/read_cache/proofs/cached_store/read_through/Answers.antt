use Rattle.std.proofs.Common.{refl}
use Rattle.read_cache.proofs.WholeLemmas.{whole_less}
use Rattle.read_cache.proofs.cached_store.read_through.Goals as goal

pub returns-then-is_sure-clause-whole : goal.returns-then-is_sure-clause-whole
returns-then-is_sure-clause-whole g c = λ h.
    whole_less c.args.cache.now c.args.cache.now (g.S.LooseFiles.contents c.args.files.now) (g.S.LooseFiles.contents c.read_unhashed.new.files) (λ n o there. there) c.read_unhashed.ensures.kept (c.requires.kept h)

pub returns-in_default-clause-whole : goal.returns-in_default-clause-whole
returns-in_default-clause-whole g c = λ h.
    whole_less c.args.cache.now c.find.new.self (g.S.LooseFiles.contents c.args.files.now) (g.S.LooseFiles.contents c.args.files.now) c.find.ensures.kept refl (c.requires.kept h)

pub returns-in-Some-clause-whole : goal.returns-in-Some-clause-whole
returns-in-Some-clause-whole g c = λ h.
    whole_less c.args.cache.now c.find.new.self (g.S.LooseFiles.contents c.args.files.now) (g.S.LooseFiles.contents c.args.files.now) c.find.ensures.kept refl (c.requires.kept h)

pub read_and_keep-requires : goal.read_and_keep-requires
read_and_keep-requires g c = λ h.
    whole_less c.args.cache.now c.find.new.self (g.S.LooseFiles.contents c.args.files.now) (g.S.LooseFiles.contents c.args.files.now) c.find.ensures.kept refl (c.requires.kept h)
