use Rattle.std.proofs.Common.{◌≡◌, ◌≤◌, ◌+◌, ℕ, List, length, arith, subst, inl}
use Rattle.chained_log.specs.Next.{IsNextOf}
use Rattle.chained_log.specs.Reading.{length_told}
use Rattle.chained_log.proofs.FoundLemmas.{IsWholeLength, found_early, found_late}
use Rattle.chained_log.proofs.LeftLemmas.{stays_one, stays_whole}
use Rattle.chained_log.proofs.reader.next_in.Goals as goal

pub returns-in_default : goal.returns-in_default
returns-in_default g c =
    let bytes = c.fill.ensures.bytes in
    let next = subst (λ l. IsNextOf c.args.before.now l c.next_piece-found.result) c.as_slice.ensures.value c.next_piece-found.ensures in
    record {
      bytes = bytes;
      bound = λ one. stays_one c.args.came.now.items bytes.0 c.fill.new.came.items 36 bytes.2 c.fill.ensures.bound one (inl (omega arith));
      came = next;
      found = found_early c.args.before.now c.args.came.now.items c.fill.new.came.items bytes.0 (g.R.Read.remaining c.args.reader.now) (g.R.Read.remaining c.fill.new.reader) c.next_piece-found.result c.in_default.not-Cut bytes.2 bytes.1 next;
    }

pub returns-in_err-fill-2-clause-bound : goal.returns-in_err-fill-2-clause-bound
returns-in_err-fill-2-clause-bound g c one =
    let first = c.fill.ensures.bytes in
    let second = c.fill-2.ensures.bytes in
    let size = c.fill.new.came.ok.0 in
    let enough : 36 ≤ length c.fill.new.came.items = omega arith in
    let told = subst (λ (l : List ℕ). 4 ≤ length l → c.whole_length-whole.result ≡ length_told l + 68) c.as_slice-2.ensures.value c.whole_length-whole.ensures.told in
    stays_whole c.args.came.now.items first.0 c.fill.new.came.items second.0 c.fill-2.new.came.items c.whole_length-whole.result first.2 c.fill.ensures.bound enough second.2 c.fill-2.ensures.bound told one

pub returns-clause-bound : goal.returns-clause-bound
returns-clause-bound g c one =
    let first = c.fill.ensures.bytes in
    let second = c.fill-2.ensures.bytes in
    let size = c.fill.new.came.ok.0 in
    let enough : 36 ≤ length c.fill.new.came.items = omega arith in
    let told = subst (λ (l : List ℕ). 4 ≤ length l → c.whole_length-whole.result ≡ length_told l + 68) c.as_slice-2.ensures.value c.whole_length-whole.ensures.told in
    stays_whole c.args.came.now.items first.0 c.fill.new.came.items second.0 c.fill-2.new.came.items c.whole_length-whole.result first.2 c.fill.ensures.bound enough second.2 c.fill-2.ensures.bound told one

pub returns-clause-found : goal.returns-clause-found
returns-clause-found g c =
    let one = c.fill.ensures.bytes in
    let two = c.fill-2.ensures.bytes in
    found_late c.args.before.now c.args.came.now.items c.fill.new.came.items c.fill-2.new.came.items one.0 two.0
    (g.R.Read.remaining c.args.reader.now) (g.R.Read.remaining c.fill.new.reader) (g.R.Read.remaining c.fill-2.new.reader) c.whole_length-whole.result c.next_piece.result
    one.2 two.2 one.1 two.1 c.in_ok-fill.ensures.end c.in_ok-fill-2.ensures.end
    (subst (λ f. IsWholeLength f c.whole_length-whole.result) c.as_slice-2.ensures.value c.whole_length-whole.ensures.whole)
    (subst (λ l. IsNextOf c.args.before.now l c.next_piece.result) c.as_slice-3.ensures.value c.next_piece.ensures)
