use Rattle.std.proofs.Common.{Ok, sym, subst}
use Rattle.loose_store.specs.Stored.{ReadsTo, Whole}
use Rattle.read_cache.proofs.WholeLemmas.{whole_less, whole_more}
use Rattle.read_cache.proofs.cached_store.read_and_keep.Goals as goal

pub returns-in-Ok-Some-clause-whole : goal.returns-in-Ok-Some-clause-whole
returns-in-Ok-Some-clause-whole g c = λ h.
    let old = g.S.LooseFiles.contents c.args.files.now in
    let read = subst (λ o. ReadsTo old c.args.name (Ok o)) c.in-Ok-Some.field-0-is (c.in-Ok-Some.ensures.reads h) in
    whole_more c.args.cache.now c.keep.new.self old (g.S.LooseFiles.contents c.read_checked.new.files) c.in-Ok-Some.sealed c.keep.ensures (c.read_checked.ensures.kept h)
    (subst (λ m. Whole old m c.in-Ok-Some.sealed) (sym read.named) read) (c.requires h)

pub returns-in-Ok-None-clause-whole : goal.returns-in-Ok-None-clause-whole
returns-in-Ok-None-clause-whole g c = λ h.
    whole_less c.args.cache.now c.args.cache.now (g.S.LooseFiles.contents c.args.files.now) (g.S.LooseFiles.contents c.read_checked.new.files) (λ n o there. there) (c.read_checked.ensures.kept h) (c.requires h)

pub returns-in-Err-clause-whole : goal.returns-in-Err-clause-whole
returns-in-Err-clause-whole g c = λ h.
    whole_less c.args.cache.now c.args.cache.now (g.S.LooseFiles.contents c.args.files.now) (g.S.LooseFiles.contents c.read_checked.new.files) (λ n o there. there) (c.read_checked.ensures.kept h) (c.requires h)
