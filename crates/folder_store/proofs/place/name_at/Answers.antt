use Rattle.std.proofs.Common.{◌≡◌, ◌++◌, ap, ◌∙◌, refl}
use Rattle.folder_store.proofs.PlaceLemmas.{joined_parts, part_lengths, if_found, if_none, of_parts}
use Rattle.folder_store.proofs.place.name_at.Goals as goal

pub returns-then-front-ne2-clause-none : goal.returns-then-front-ne2-clause-none
returns-then-front-ne2-clause-none c name is_name first others = c.if-front-ne2.true (part_lengths _ _ name is_name first others).0

pub returns-then-rest-ne62-clause-none : goal.returns-then-rest-ne62-clause-none
returns-then-rest-ne62-clause-none c name is_name first others = c.if-rest-ne62.true (part_lengths _ _ name is_name first others).1

joined : (c : goal.After-parse_hex) → c.as_slice.result.now ≡ c.args.front.now ++ c.args.rest.now
joined c =
    joined_parts c.copy_from_slice.new.self _ c.copy_from_slice-2.new.self c.as_slice.result.now 2 62 c.copy_from_slice.ensures.len refl c.as_slice.ensures
    ∙ ap (λ xs. xs ++ c.copy_from_slice-2.new.self) c.copy_from_slice.ensures.after
    ∙ ap (λ xs. c.args.front.now ++ xs) c.copy_from_slice-2.ensures.after

pub returns-clause-found : goal.returns-clause-found
returns-clause-found c = if_found _ _ _ c.parse_hex.result c.if-front-ne2.false c.if-rest-ne62.false (joined c) c.parse_hex.ensures.found

pub returns-clause-none : goal.returns-clause-none
returns-clause-none c = if_none _ _ _ c.parse_hex.result (joined c) c.parse_hex.ensures.none

pub returns-clause-value : goal.returns-clause-value
returns-clause-value c = c.parse_hex.ensures.value ∙ of_parts _ _ _ c.if-front-ne2.false c.if-rest-ne62.false (joined c)
