use Rattle.fork_program.proofs.RepeatingLemmas.{buffered, logged_of, plain_of}
use Rattle.fork_program.proofs.replaying.repeat.Goals as goal

pub returns-in_default-reference-clause-repeated : goal.returns-in_default-reference-clause-repeated
returns-in_default-reference-clause-repeated g c =
    plain_of _ _ _ _ _ _ _ _ (buffered (λ noting. g.R.Read.remaining noting.reader) c.in-Ok.reader _ c.in-Ok.ensures.inner c.in-Ok.ensures.empty c.in-Ok.ensures.capacity)
    (c.in-Ok-read_reference.ensures.none c.in_default-reference.is) c.in_ok-count.ensures.again c.counted.ensures.count

pub returns-clause-repeated : goal.returns-clause-repeated
returns-clause-repeated g c =
    logged_of _ _ _ _ _ _ _ _ _ _ _ _ _ (buffered (λ noting. g.R.Read.remaining noting.reader) c.in-Ok.reader _ c.in-Ok.ensures.inner c.in-Ok.ensures.empty c.in-Ok.ensures.capacity)
    (rw c.in-Some.is at c.in-Ok-read_reference.ensures.line) c.in_ok-before.ensures.again c.in_ok-count-2.ensures.again c.saturating_add.ensures
