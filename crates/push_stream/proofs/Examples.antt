-- What some streams hold, as the definitions compute it.
use Rattle.std.proofs.Common.{◌≡◌, [], ◌∷◌, false, Ok, Err, codes, refl, arith}
use Rattle.git_reftx.specs.Command.{command}
use Rattle.git_reftx.specs.Line.{line_at}
use Rattle.git_reftx.specs.Reading.{command_at}
use Rattle.git_reftx.specs.declared.command.Change.TheVariants.{Keep}
use Rattle.git_reftx.specs.declared.command.Demand.TheVariants.{Absent}
use Rattle.push_stream.specs.declared.fault.StreamFault.TheVariants.{Syntax, Truncated}
use Rattle.push_stream.specs.Again.{OpensBroken, OpensGoing}
use Rattle.push_stream.specs.Stream.{Flows, finished, stream_of}
use Rattle.push_stream.specs.Upload.{continued, upload_of}

no_bytes_are_cut : finished (stream_of []) ≡ Err Truncated
unfolding stream_of
no_bytes_are_cut = refl

an_empty_line_is_whole : finished (stream_of (codes "\n")) ≡ Ok ([], [])
unfolding stream_of
an_empty_line_is_whole = refl

a_line_is_a_command : finished (stream_of (codes "verify refs/heads/a\n\n")) ≡ Ok (command (codes "refs/heads/a") Absent Keep ∷ [], [])
unfolding stream_of command_at line_at
a_line_is_a_command = refl

another_line_is_none : finished (stream_of (codes "x\n\n")) ≡ Err Syntax
unfolding stream_of command_at line_at
another_line_is_none = refl

an_unfinished_line_is_the_rest : stream_of (codes "ver") ≡ Flows [] [] false (codes "ver")
unfolding stream_of command_at line_at
an_unfinished_line_is_the_rest = refl

and_goes_on : continued (upload_of (codes "ver")) (codes "ify refs/heads/a\n\n") ≡ upload_of (codes "verify refs/heads/a\n\n")
unfolding continued stream_of command_at line_at
and_goes_on = refl

a_line_and_a_rest_open_again : OpensGoing (codes "verify refs/heads/a\n") (codes "ver") 23 (command (codes "refs/heads/a") Absent Keep ∷ []) [] false (codes "ver")
unfolding stream_of command_at line_at
a_line_and_a_rest_open_again = record { asks = refl; waits = refl; bare = λ _. refl; left = refl; counted = refl }

a_wrong_line_breaks_again : OpensBroken [] (codes "x\n") 5 Syntax
unfolding stream_of command_at line_at
a_wrong_line_breaks_again = record { breaks = refl; short = omega arith; within = omega arith }
