use Rattle.std.proofs.Common.{◌≡◌, All, map, take}
use Rattle.fork_command.specs.Grant.{IsGrant, grant_word}
use Rattle.fork_command.proofs.grants.grants_of.Given as goal

-- the words so far are the grants
abbrev pub invariant-loop-word : goal.invariant-loop-word
invariant-loop-word l = All IsGrant l.grants.items × (map grant_word l.grants.items ≡ map (λ word. word.now) (take l.word-index l.words))
