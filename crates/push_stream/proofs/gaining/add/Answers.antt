use Rattle.std.proofs.Common.{◌≡◌, ◌++◌, Bool, List, ℕ, [], ap, sym, ◌∙◌, rules}
use Rattle.push_stream.specs.Stream.{Flows}
use Rattle.push_stream.proofs.FrontLemmas.{headed_front, plain_front}
use Rattle.push_stream.proofs.gaining.add.Goals as goal

pub returns-then-is_headed-clause-header : goal.returns-then-is_headed-clause-header
returns-then-is_headed-clause-header c =
    let copied : c.in-Ok.header.items ≡ c.before-2.result.now = search rules in
    let parted = c.before-2.ensures ∙ ap (λ (l : List ℕ). l ++ c.in_ok-commands.left.now) (sym copied) in
    let front = plain_front c.args.headed c.args.had c.args.text.now c.in-Ok.header.items c.in_ok-commands.left.now c.in_ok-commands.commands.items c.in_ok-commands.is_headed c.if-headed.false c.in_ok-commands.ensures.front parted in
    headed_front c.add_objects-then-is_headed.result c.args.headed c.args.had c.in-Ok.header.items c.in_ok-commands.commands.items c.add_objects-then-is_headed.ensures.header c.add_objects-then-is_headed.ensures.commands c.add_objects-then-is_headed.ensures.headed
    (front ∙ ap (λ (h : Bool). Flows c.in_ok-commands.commands.items [] h []) c.if-is_headed.true)

pub returns-clause-header : goal.returns-clause-header
returns-clause-header c =
    let copied : c.in-Ok.header.items ≡ c.before-2.result.now = search rules in
    let parted = c.before-2.ensures ∙ ap (λ (l : List ℕ). l ++ c.in_ok-commands.left.now) (sym copied) in
    plain_front c.args.headed c.args.had c.args.text.now c.in-Ok.header.items c.in_ok-commands.left.now c.in_ok-commands.commands.items c.in_ok-commands.is_headed c.if-headed.false c.in_ok-commands.ensures.front parted
    ∙ ap (λ (h : Bool). Flows c.in_ok-commands.commands.items [] h []) c.if-is_headed.false
