use Rattle.std.proofs.Common.{drop, take}
use Rattle.std.proofs.lemmas.List.Elements.{All-append, All-drop, All-same, All-take}
use Rattle.number_links.specs.Kept.{IsKept}
use Rattle.number_links.proofs.kept.make_room.Goals as goal

pub returns : goal.returns
returns c links are =
    let before = c.args.kept.now.items in
    All-same (IsKept links) c.remove.new.self.items _ c.remove.ensures.by_index.2 (All-append (IsKept links) (take 0 before) (drop 1 before) (All-take (IsKept links) 0 before are) (All-drop (IsKept links) 1 before are))
