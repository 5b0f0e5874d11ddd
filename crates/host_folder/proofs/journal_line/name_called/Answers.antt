use Rattle.std.proofs.Common.{◌≡◌, sym, ◌∙◌}
use Rattle.host_folder.proofs.OtherLemmas.{called_digits, called_end, name_again, no_difference, other_length}
use Rattle.host_folder.proofs.journal_line.name_called.Goals as goal

pub returns-then-text-ne66-clause-named : goal.returns-then-text-ne66-clause-named
returns-then-text-ne66-clause-named c name is_name is = absurd (other_length c.args.text.now name c.if-text-ne66.true is_name is)

pub returns-then-ne-clause-named : goal.returns-then-ne-clause-named
returns-then-ne-clause-named c name is_name is =
    let same : c.split_at.result.1.now ≡ c.as_slice.result.now = c.split_at.ensures.back ∙ called_end c.args.text.now name is_name is ∙ sym c.as_slice.ensures in
    absurd (no_difference c.split_at.result.1.now c.as_slice.result.now same (c.if-ne.ensures))

pub returns-clause-named : goal.returns-clause-named
returns-clause-named c name is_name is =
    name_again c.split_at.result.0.now name c.parse_hex.result is_name c.parse_hex.ensures.value (c.split_at.ensures.front ∙ called_digits c.args.text.now name is_name is)
