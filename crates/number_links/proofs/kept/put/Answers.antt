use Rattle.std.proofs.Common.{All, Bool, true, false, List, [], ◌∷◌, ◌++◌, if◌then◌else◌}
use Rattle.std.specs.Result.{is_ok}
use Rattle.std.proofs.lemmas.List.Elements.{All-push, All-same}
use Rattle.number_links.specs.Kept.{IsKept}
use Rattle.number_links.specs.Known.{Known}
use Rattle.number_links.specs.declared.kept.Kept.{Kept}
use Rattle.number_links.proofs.kept.put.Goals as goal

with_one : (links : Known) (ks : List Kept) (one : Kept) → All (IsKept links) ks → IsKept links one → (b : Bool) → All (IsKept links) (if b then ks ++ one ∷ [] else ks)
with_one links ks one are is true = All-push (IsKept links) ks one are is
with_one links ks one are is false = are

pub returns : goal.returns
returns c links are one =
    All-same (IsKept links) _ _ c.push.ensures.items (with_one links c.make_room.new.kept.items c.args.one (c.make_room.ensures links are) one (is_ok c.push.result))
