use Rattle.std.proofs.Common.{◌≡◌, ◌++◌, ◌∷◌, [], true, false, sym, ap, subst, ◌∙◌, arith}
use Rattle.std.specs.FinMap as map
use Rattle.git_reftx.specs.Sound.{AreSound}
use Rattle.git_reftx.proofs.PushLemmas.{entries_behind, sound_behind}
use Rattle.git_reftx.proofs.refs.Refs.push.Goals as goal

pub invariant_of-self-2 : goal.invariant_of-self-2
invariant_of-self-2 c =
    let room = c.if-len-ge-MAX_REFERENCES.false in
    let count = c.len.ensures.len in
    subst AreSound (sym c.in-Ok.ensures.ok)
    (sound_behind c.self.inside.map c.args.name c.args.target c.self.invariant c.as_bytes-name.ensures.name (c.is_behind.ensures.0 c.if-not-is_behind.false)
    (λ above. (let bad : true ≡ false = sym above ∙ sym c.has_above.ensures ∙ c.if-has_above.false in absurd (cc))) (omega (arith, room, count)))

pub returns-clause-ok : goal.returns-clause-ok
returns-clause-ok c =
    ap map.entries c.in-Ok.ensures.ok ∙ entries_behind c.self.inside.map c.args.name c.args.target (c.is_behind.ensures.0 c.if-not-is_behind.false) ∙ ap (λ m. map.entries m ++ (c.args.name, c.args.target) ∷ []) c.self.view_is
