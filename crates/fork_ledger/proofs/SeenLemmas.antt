-- What is kept of objects, at a key.
use Rattle.std.proofs.Common.{◌≡◌, ℕ, Bool, None, List, cond, ap, sym}
use Rattle.std.specs.FinMap.{get, get-retain_keys, retain_keys}
use Rattle.git_name.proofs.Names.{name_exact}
use Rattle.fork_reach.specs.Source.{Objects}

pub get_kept : (objects : Objects) (p : List ℕ → Bool) (q : List ℕ) → get (retain_keys objects p) q ≡ cond (p q) (get objects q) None
get_kept objects p q = get-retain_keys objects p q (λ x tied. ap p (sym (name_exact q x tied)))
