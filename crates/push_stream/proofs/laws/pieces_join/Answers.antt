use Rattle.push_stream.proofs.PieceLemmas as lemmas
use Rattle.push_stream.proofs.laws.pieces_join.Goals as goal

pub returns-clause-piece : goal.returns-clause-piece
returns-clause-piece c = λ bytes piece. lemmas.piece_joins bytes piece

pub returns-clause-pieces : goal.returns-clause-pieces
returns-clause-pieces c = λ bytes pieces. lemmas.pieces_join bytes pieces
