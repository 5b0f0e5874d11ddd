-- Rows of pushes: what a stream holds, and the result of a row that ends the upload.
use Rattle.std.proofs.Common.{◌≡◌, ℕ, true, false, cond, List, [], ◌∷◌, Option, Some, Result, Ok, Err, sym, ap, ◌∙◌, is_some, map}
use Rattle.std.specs.Prelude.{IfErr, IfOk}
use Rattle.git_name.specs.Object.{Object, object_name}
use Rattle.git_reftx.specs.declared.command.Command.{Command}
use Rattle.git_reftx.specs.Repository.{Repository}
use Rattle.push_stream.specs.Brief.{BriefValue, brief_of}
use Rattle.push_stream.specs.declared.body.Body.{Body}
use Rattle.push_stream.specs.declared.fault.BodyError.{BodyError}
use Rattle.push_stream.specs.declared.fault.BodyError.TheVariants.{Fault, Memory}
use Rattle.push_stream.specs.declared.fault.StreamFault.{StreamFault}
use Rattle.push_stream.specs.Shown.{TellsStreamFault}
use Rattle.push_stream.specs.Stream.{Stream, Flows, Breaks, finished, sent_in, stream_of}
use Rattle.push_stream.specs.Upload.{UploadValue}
use Rattle.fork_request.specs.Told.{is_host_fault}
use Rattle.fork_request.specs.declared.refusal.Refusal.TheVariants.{UploadOpen}
use Rattle.fork_request.specs.declared.reply.Reply.{Reply}
use Rattle.fork_request.specs.declared.reply.Reply.TheVariants.{Refused}
use Rattle.fork_model.specs.Answer.{end_in, upload_ended, push_into, pushed, upload_into}
use Rattle.fork_model.specs.View.{View}
use Rattle.fork_host.specs.Pushed.{Sends, TellsHeld}
use Rattle.fork_host.specs.Rows.{Yields, Yielded, Lacking, Faulted}

-- what was read from a stream is what the stream holds, and what was sent
pub tells_held : (stream : Stream) (r : Result Body BodyError) → IfOk r (λ body. finished stream ≡ Ok (body.commands.items, body.objects.items)) → IfErr r (TellsStreamFault stream) → TellsHeld (finished stream) r
tells_held stream (Ok body) found exact = found
tells_held stream (Err (Fault fault)) found exact = exact
tells_held stream (Err Memory) found exact = tt

finished_sent : (stream : Stream) (body : Body) → finished stream ≡ Ok (body.commands.items, body.objects.items) → body.objects.items ≡ sent_in stream
finished_sent (Flows commands objects true []) body is = sym (ap second is)
  where
    second : {A E : Type 0} → Result (A × List Object) E → List Object
    second (Ok p) = p.1
    second (Err e) = body.objects.items
finished_sent (Flows commands objects true (b ∷ rest)) body is = absurd (cc)
finished_sent (Flows commands objects false rest) body is = absurd (cc)
finished_sent (Breaks fault) body is = absurd (cc)

pub sends_held : (stream : Stream) (r : Result Body BodyError) → IfOk r (λ body. finished stream ≡ Ok (body.commands.items, body.objects.items)) → Sends (sent_in stream) r
sends_held stream (Ok body) found = finished_sent stream body found
sends_held stream (Err error) found = tt

-- a whole stream by its brief
pub held_by : (stream : Stream) (commands : List Command) (names : List (List ℕ)) → brief_of (finished stream) ≡ Ok (commands, names) → (finished stream ≡ Ok (commands, sent_in stream)) × (names ≡ map object_name (sent_in stream))
held_by (Flows asked objects true []) commands names is = (ap (λ cs. Ok (cs, objects)) (ap first is), sym (ap second is))
  where
    first : Result BriefValue StreamFault → List Command
    first (Ok p) = p.0
    first (Err e) = commands

    second : Result BriefValue StreamFault → List (List ℕ)
    second (Ok p) = p.1
    second (Err e) = names
held_by (Flows asked objects true (b ∷ rest)) commands names is = absurd (cc)
held_by (Flows asked objects false rest) commands names is = absurd (cc)
held_by (Breaks fault) commands names is = absurd (cc)

-- a push into an existing repository, while no upload is open
pub push_is : (view : View) (word body : List ℕ) (o : Option Repository) (was : Repository) → o ≡ Some was → is_some view.upload ≡ false → push_into view word body o ≡ pushed view word was (finished (stream_of body))
push_is view word body o was here none =
    ap (push_into view word body) here ∙ ap (λ b. cond b (Refused UploadOpen, view) (pushed view word was (finished (stream_of body)))) none

-- the end of an upload that is open
pub end_is : (view : View) (word : List ℕ) (o : Option Repository) (was : Repository) (upload : UploadValue) → o ≡ Some was → view.upload ≡ Some upload → end_in view word o ≡ pushed view word was (finished upload.stream)
end_is view word o was upload here waits = ap (end_in view word) here ∙ ap (upload_into view word was) waits

-- if a host fault answers a row that ends the upload, the upload stays
pub ended_failed : (row : Reply × View) (old : View) (reply : Reply) (new : View) → is_host_fault row.0 ≡ false → is_host_fault reply ≡ true → Yields row old reply new → Yields (upload_ended row) old reply new
ended_failed row old reply new model failed (Yielded told is) = (let differs : ⊥ = cc (sym failed ∙ ap is_host_fault told ∙ model) in absurd differs)
ended_failed row old reply new model failed (Lacking wanting stays) = Lacking wanting stays
ended_failed row old reply new model failed (Faulted fault is stays) = Faulted fault is stays
