use Rattle.std.proofs.Common.{[], sym, ap, ◌∙◌, arith}
use Rattle.std.specs.Prelude.{codes}
use Rattle.git_refname.specs.Rule.{is_unprintable, is_pattern}
use Rattle.git_refname.proofs.Holding.{met, met_byte, other_of_plain, unmet, unmet_byte}
use Rattle.git_refname.proofs.marks.Marks.with.Goals as goal

pub returns : goal.returns
returns c before is longer =
    let front = c.args.front.now in
    let byte = c.args.byte in
    let dot = met (codes "/.") before front byte _ _ (omega arith) (ap (λ m. m.dot) is) c.ends_with.ensures.value longer in
    let lock = met (codes ".lock/") before front byte _ _ (omega arith) (ap (λ m. m.lock) is) c.ends_with-2.ensures.value longer in
    let slash = met (codes "/") before front byte _ _ (omega arith) (ap (λ m. m.slash) is) c.ends_with-3.ensures.value longer in
    let two_dots = met (codes "..") before front byte _ _ (omega arith) (ap (λ m. m.two_dots) is) c.ends_with-4.ensures.value longer in
    let unprintable = met_byte is_unprintable before front byte _ _ (ap (λ m. m.unprintable) is) c.is_unprintable.ensures longer in
    let pattern = met_byte is_pattern before front byte _ _ (ap (λ m. m.pattern) is) c.is_pattern.ensures longer in
    let two_slashes = met (codes "//") before front byte _ _ (omega arith) (ap (λ m. m.two_slashes) is) c.ends_with-5.ensures.value longer in
    let at_brace = met (codes "@{") before front byte _ _ (omega arith) (ap (λ m. m.at_brace) is) c.ends_with-6.ensures.value longer in
    let backslash = met (codes "\\") before front byte _ _ (omega arith) (ap (λ m. m.backslash) is) c.ends_with-7.ensures.value longer in
    λ i. record {
      dot = dot i;
      lock = lock i;
      slash = slash i;
      two_dots = two_dots i;
      unprintable = unprintable i;
      pattern = pattern i;
      two_slashes = two_slashes i;
      at_brace = at_brace i;
      backslash = backslash i;
    }

pub returns-then-is_plain : goal.returns-then-is_plain
returns-then-is_plain c before is longer =
    let front = c.args.front.now in
    let byte = c.args.byte in
    let other = other_of_plain byte (sym c.is_plain.ensures ∙ c.if-is_plain.true) in
    let dot = unmet (codes "/") before front 46 byte _ other.dot (ap (λ m. m.dot) is) longer in
    let lock = unmet (codes ".lock") before front 47 byte _ other.slash (ap (λ m. m.lock) is) longer in
    let slash = unmet [] before front 47 byte _ other.slash (ap (λ m. m.slash) is) longer in
    let two_dots = unmet (codes ".") before front 46 byte _ other.dot (ap (λ m. m.two_dots) is) longer in
    let unprintable = unmet_byte is_unprintable before front byte _ other.printed (ap (λ m. m.unprintable) is) longer in
    let pattern = unmet_byte is_pattern before front byte _ other.plain (ap (λ m. m.pattern) is) longer in
    let two_slashes = unmet (codes "/") before front 47 byte _ other.slash (ap (λ m. m.two_slashes) is) longer in
    let at_brace = unmet (codes "@") before front 123 byte _ other.brace (ap (λ m. m.at_brace) is) longer in
    let backslash = unmet [] before front 92 byte _ other.backslash (ap (λ m. m.backslash) is) longer in
    λ i. record {
      dot = dot i;
      lock = lock i;
      slash = slash i;
      two_dots = two_dots i;
      unprintable = unprintable i;
      pattern = pattern i;
      two_slashes = two_slashes i;
      at_brace = at_brace i;
      backslash = backslash i;
    }
