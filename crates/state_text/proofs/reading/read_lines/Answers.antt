use Rattle.std.proofs.Common.{◌≡◌, [], true, false, sym, subst, ap, refl, ◌∙◌}
use Rattle.std.specs.Prelude.{IfSome, IfNone, Option}
use Rattle.state_text.specs.declared.line_fault.LineFault.TheVariants.{Wrong}
use Rattle.state_text.specs.Lines.{EndsAt, GoesBeyond, IsReadTo}
use Rattle.state_text.specs.Taking.{Adds, RefusesLine, Taken}
use Rattle.state_text.proofs.ReadingLemmas.{beyond_end, first_read, next_read, no_first, no_next, whole_read, wrong_first, wrong_next}
use Rattle.state_text.proofs.reading.read_lines.Goals as goal

pub returns-then-not-branch-clause-exact : goal.returns-then-not-branch-clause-exact
returns-then-not-branch-clause-exact g c = no_first (g.R.Read.remaining c.args.reader.now) (g.R.Read.remaining c.next.new.reader) c.new-lines.result c.next.new.self (c.new-lines.ensures (g.R.Read.remaining c.args.reader.now)) (c.in_ok-next.ensures.none c.if-not-branch.true)

pub returns-in_default-clause-exact : goal.returns-in_default-clause-exact
returns-in_default-clause-exact g c =
    wrong_first (g.R.Read.remaining c.args.reader.now) (g.R.Read.remaining c.next.new.reader) c.new-lines.result c.next.new.self (c.new-lines.ensures (g.R.Read.remaining c.args.reader.now)) (c.in_ok-next.ensures.line c.if-not-branch.false)
    (λ version is. c.in_default.ensures.none version (c.as_slice.ensures.value ∙ is))

pub lines-init : goal.lines-init
lines-init g c =
    subst (λ states. IsReadTo (g.R.Read.remaining c.args.reader.now) (g.R.Read.remaining c.next.new.reader) c.next.new.self c.in-Some.version (record { states = states; awaits = false }) 2) (sym c.new-states.ensures)
    (first_read (g.R.Read.remaining c.args.reader.now) (g.R.Read.remaining c.next.new.reader) c.new-lines.result c.next.new.self c.in-Some.version (c.new-lines.ensures (g.R.Read.remaining c.args.reader.now)) (c.in_ok-next.ensures.line c.if-not-branch.false) (sym c.as_slice.ensures.value ∙ c.in-Some.ensures.found))

pub returns-then-not-branch-2-clause-exact : goal.returns-then-not-branch-2-clause-exact
returns-then-not-branch-2-clause-exact g c =
    no_next (g.R.Read.remaining c.args.reader.now) (g.R.Read.remaining c.lines.reader) (g.R.Read.remaining c.next-in-lines.new.reader) c.lines.lines c.next-in-lines.new.self c.in-Some.version (record { states = c.lines.states; awaits = c.lines.awaits }) c.lines.number c.lines.invariant
    (c.in_ok-next-2.ensures.none c.if-not-branch-2.true)

pub returns-in_default-2-clause-exact : goal.returns-in_default-2-clause-exact
returns-in_default-2-clause-exact g c =
    let end = c.is_end.ensures.0 c.if-is_end.true in
    let beyond : GoesBeyond (g.R.Read.remaining c.next-in-lines.new.reader) c.next-in-lines.new.self = rw c.in_default-2.is at c.in_ok-name.ensures.none in
    let so_far = subst (λ a. IsReadTo (g.R.Read.remaining c.args.reader.now) (g.R.Read.remaining c.lines.reader) c.lines.lines c.in-Some.version (record { states = c.lines.states; awaits = a }) c.lines.number) end.1 c.lines.invariant in
    beyond_end (g.R.Read.remaining c.args.reader.now) (g.R.Read.remaining c.lines.reader) (g.R.Read.remaining c.next-in-lines.new.reader) c.lines.lines c.next-in-lines.new.self c.in-Some.version c.lines.states c.lines.number so_far (c.in_ok-next-2.ensures.line c.if-not-branch-2.false)
    (sym c.as_slice-in-lines-2.ensures.value ∙ end.0) beyond

pub returns-then-is_end-clause-found : goal.returns-then-is_end-clause-found
returns-then-is_end-clause-found g c =
    let end = c.is_end.ensures.0 c.if-is_end.true in
    let ends : EndsAt (g.R.Read.remaining c.next-in-lines.new.reader) (g.R.Read.remaining c.end.new.reader) c.next-in-lines.new.self c.in-Some-2.name = rw c.in-Some-2.is at c.in_ok-name.ensures.name in
    let shared = subst (λ s. IsReadTo (g.R.Read.remaining c.args.reader.now) (g.R.Read.remaining c.lines.reader) c.lines.lines c.in-Some.version (record { states = s; awaits = c.lines.awaits }) c.lines.number) (sym c.share_before.ensures) c.lines.invariant in
    let so_far = subst (λ a. IsReadTo (g.R.Read.remaining c.args.reader.now) (g.R.Read.remaining c.lines.reader) c.lines.lines c.in-Some.version (record { states = c.share_before.new.states; awaits = a }) c.lines.number) end.1 shared in
    whole_read (g.R.Read.remaining c.args.reader.now) (g.R.Read.remaining c.lines.reader) (g.R.Read.remaining c.next-in-lines.new.reader) (g.R.Read.remaining c.end.new.reader) c.lines.lines c.next-in-lines.new.self c.in-Some.version c.share_before.new.states c.lines.number c.in-Some-2.name so_far (c.in_ok-next-2.ensures.line c.if-not-branch-2.false)
    (sym c.as_slice-in-lines-2.ensures.value ∙ end.0) ends

pub returns-in-Err-Wrong-clause-exact : goal.returns-in-Err-Wrong-clause-exact
returns-in-Err-Wrong-clause-exact g c =
    let read : Taken = record { states = c.share_before.new.states; awaits = c.lines.awaits } in
    let so_far = subst (λ s. IsReadTo (g.R.Read.remaining c.args.reader.now) (g.R.Read.remaining c.lines.reader) c.lines.lines c.in-Some.version (record { states = s; awaits = c.lines.awaits }) c.lines.number) (sym c.share_before.ensures) c.lines.invariant in
    let refuses = subst (RefusesLine c.in-Some.version read c.as_slice-in-lines-3.result.now) c.in-Err-Wrong.field-0-is c.in-Err-Wrong.ensures.wrong in
    wrong_next (g.R.Read.remaining c.args.reader.now) (g.R.Read.remaining c.lines.reader) (g.R.Read.remaining c.next-in-lines.new.reader) c.lines.lines c.next-in-lines.new.self c.in-Some.version read c.lines.number so_far (c.in_ok-next-2.ensures.line c.if-not-branch-2.false)
    (λ is known. absurd (let bad : true ≡ false = sym (c.is_end.ensures.1 (c.as_slice-in-lines-2.ensures.value ∙ is, known)) ∙ c.if-is_end.false in cc bad))
    (subst (λ line. RefusesLine c.in-Some.version read line Wrong) c.as_slice-in-lines-3.ensures.value refuses)

pub lines-preserved : goal.lines-preserved
lines-preserved g c =
    let read : Taken = record { states = c.share_before.new.states; awaits = c.lines.awaits } in
    let next : Taken = record { states = c.take_line.new.states; awaits = c.in-Ok.more } in
    let so_far = subst (λ s. IsReadTo (g.R.Read.remaining c.args.reader.now) (g.R.Read.remaining c.lines.reader) c.lines.lines c.in-Some.version (record { states = s; awaits = c.lines.awaits }) c.lines.number) (sym c.share_before.ensures) c.lines.invariant in
    next_read (g.R.Read.remaining c.args.reader.now) (g.R.Read.remaining c.lines.reader) (g.R.Read.remaining c.next-in-lines.new.reader) c.lines.lines c.next-in-lines.new.self c.in-Some.version read next c.lines.number so_far (c.in_ok-next-2.ensures.line c.if-not-branch-2.false)
    (subst (λ line. Adds c.in-Some.version read line next) c.as_slice-in-lines-3.ensures.value c.in-Ok.ensures.ok) c.in-Ok.ensures.sound
