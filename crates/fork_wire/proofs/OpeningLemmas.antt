-- Parts of an upload open it again.
use Rattle.std.proofs.Common.{◌≡◌, ◌∙◌, Bool, true, false, cond, ap, refl, subst, sym, ℕ, ◌+◌, ◌≤◌, List, [], ◌∷◌, ◌++◌, Option, Some, None, append_assoc, append-nil, length, length-append, map, arith}
use Rattle.std.specs.Prelude.{All, codes, nat_lt}
use Rattle.std.specs.List.{concat}
use Rattle.std.specs.FinMap.{get, get-insert, insert, same_map}
use Rattle.std.specs.Ordering.{eq_by_cmp}
use Rattle.std.specs.Cmp.{eq_by_cmp_equiv}
use Rattle.std.proofs.lemmas.Bool.Decides.{nat_tests}
use Rattle.std.proofs.lemmas.List.Elements.{All-head, All-tail}
use Rattle.git_name.specs.Name.{name_cmp}
use Rattle.git_name.proofs.Names.{name_exact, name_total}
use Rattle.fork_request.specs.Asked.{SendsPart}
use Rattle.fork_request.specs.declared.refusal.Refusal.TheVariants.{StagedTooLong}
use Rattle.fork_request.specs.declared.reply.Reply.{Reply}
use Rattle.fork_request.specs.declared.reply.Reply.TheVariants.{Done, Refused}
use Rattle.fork_request.proofs.SpellingLemmas.{spelled_asked}
use Rattle.push_stream.specs.Upload.{UploadValue, continued, upload_of}
use Rattle.push_stream.specs.declared.upload_limit.TheConstants.{MAX_UPLOAD}
use Rattle.push_stream.proofs.PieceLemmas.{piece_joins}
use Rattle.fork_model.specs.Answer.{answer, open_upload, part_answer}
use Rattle.fork_model.specs.Context.{Context, met_by}
use Rattle.fork_model.specs.Runs.{Answered}
use Rattle.fork_model.specs.View.{View}
use Rattle.fork_model.specs.World.{AreFine, Explains, Steps, World}
use Rattle.fork_frame.specs.Frame.{IsFrame}
use Rattle.fork_frame.specs.declared.frame.Frame.{Frame}
use Rattle.fork_wire.specs.Reopening.{ArePartFrames, part_frame, with_upload}
use Rattle.fork_wire.specs.Sessions.{event_of, events_of}

few_enough : (a b : ℕ) → a + b ≤ 33554432 → nat_lt 33554432 (a + b) ≡ false
few_enough a b fits = grind (arith, nat_tests)

by_count : (view : View) (piece : List ℕ) (upload : UploadValue) (b : Bool) → b ≡ false
    → cond {A = Reply × View} b (Refused StagedTooLong, view) (Done [], record view { upload = Some (continued upload piece) }) ≡ (Done [], record view { upload = Some (continued upload piece) })
by_count view piece upload true is = absurd (cc)
by_count view piece upload false is = refl

-- the answer to a part
part_told : (context : Context) (view : View) (front piece : List ℕ) → open_upload view.upload ≡ upload_of front → length front + length piece ≤ MAX_UPLOAD → answer context view (SendsPart piece) ≡ (Done [], with_upload view (front ++ piece))
unfolding answer part_answer
part_told context view front piece is fits =
    ap (λ (u : UploadValue). cond {A = Reply × View} (nat_lt 33554432 (u.count + length piece)) (Refused StagedTooLong, view) (Done [], record view { upload = Some (continued u piece) })) is
    ∙ by_count view piece (upload_of front) (nat_lt 33554432 (length front + length piece)) (few_enough (length front) (length piece) fits)
    ∙ ap (λ (u : UploadValue). (Done [], record view { upload = Some u })) (piece_joins front piece)

-- the step that a part makes
part_step : (world : World) (tenant front piece : List ℕ) (view : View) → get world tenant ≡ Some view → open_upload view.upload ≡ upload_of front → length front + length piece ≤ MAX_UPLOAD → IsFrame (part_frame tenant piece)
    → Steps world (event_of (part_frame tenant piece)) (Done []) (insert world tenant (with_upload view (front ++ piece)))
part_step world tenant front piece view here is fits right =
    let context = met_by world tenant in
    let told = ap (answer context view) (spelled_asked (codes "part\n" ++ piece) (SendsPart piece) right.fits refl) ∙ part_told context view front piece is fits in
    Answered view here (sym (ap (λ (row : Reply × View). row.0) told)) (sym (ap (λ (row : Reply × View). insert world tenant row.1) told))

pub written_there : (world : World) (tenant : List ℕ) (view : View) → get (insert world tenant view) tenant ≡ Some view
written_there world tenant view = get-insert name_total world tenant view tenant ∙ ap (λ b. cond b (Some view) (get world tenant)) ((eq_by_cmp_equiv name_total).refl tenant)

-- what is written twice at one place is what was written last
written_last : (world : World) (tenant : List ℕ) (one other : View) → insert (insert world tenant one) tenant other ≡ insert world tenant other
written_last world tenant one other =
    same_map name_total name_exact _ _ (λ q. get-insert name_total (insert world tenant one) tenant other q ∙ ap (cond (eq_by_cmp name_cmp q tenant) (Some other)) (get-insert name_total world tenant one q)
    ∙ twice (eq_by_cmp name_cmp q tenant) (get world q) ∙ sym (get-insert name_total world tenant other q))
  where
    twice : (b : Bool) (o : Option View) → cond b (Some other) (cond b (Some one) o) ≡ cond b (Some other) o
    twice true o = refl
    twice false o = refl

-- the parts of the rest of an upload lead to the whole of it
pub parts_open : (world : World) (tenant front : List ℕ) (view : View) (piece : List ℕ) (pieces : List (List ℕ)) → get world tenant ≡ Some view → open_upload view.upload ≡ upload_of front → length front + length (concat (piece ∷ pieces)) ≤ MAX_UPLOAD
    → All IsFrame (map (part_frame tenant) (piece ∷ pieces))
    → (replies : List Reply) × Explains world (events_of (map (part_frame tenant) (piece ∷ pieces))) replies (insert world tenant (with_upload view (front ++ concat (piece ∷ pieces)))) × AreFine replies
parts_open world tenant front view piece [] here is fits right =
    let long = length-append piece [] in
    let few : length front + length piece ≤ 33554432 = omega (arith, fits, long) in (
      Done [] ∷ [],
      (
        insert world tenant (with_upload view (front ++ piece)),
        part_step world tenant front piece view here is few (All-head IsFrame (part_frame tenant piece) [] right),
        ap (λ bytes. insert world tenant (with_upload view (front ++ bytes))) (append-nil piece),
      ),
      (refl, tt),
    )
parts_open world tenant front view piece (next ∷ pieces) here is fits right =
    let rest = concat (next ∷ pieces) in
    let long = length-append piece rest in
    let whole = length-append front piece in
    let few : length front + length piece ≤ 33554432 = omega (arith, fits, long) in
    let fewer : length (front ++ piece) + length rest ≤ 33554432 = omega (arith, fits, long, whole) in
    let middle = insert world tenant (with_upload view (front ++ piece)) in
    let more = parts_open middle tenant (front ++ piece) (with_upload view (front ++ piece)) next pieces (written_there world tenant (with_upload view (front ++ piece))) refl fewer
    (All-tail IsFrame (part_frame tenant piece) (map (part_frame tenant) (next ∷ pieces)) right) in
    let last : insert middle tenant (with_upload (with_upload view (front ++ piece)) ((front ++ piece) ++ rest)) ≡ insert world tenant (with_upload view (front ++ (piece ++ rest))) =
    written_last world tenant (with_upload view (front ++ piece)) (with_upload view ((front ++ piece) ++ rest)) ∙ ap (λ bytes. insert world tenant (with_upload view bytes)) (append_assoc front piece rest) in (
      Done [] ∷ more.0,
      (
        middle,
        part_step world tenant front piece view here is few (All-head IsFrame (part_frame tenant piece) (map (part_frame tenant) (next ∷ pieces)) right),
        subst (λ w. Explains middle (events_of (map (part_frame tenant) (next ∷ pieces))) more.0 w) last more.1,
      ),
      (refl, more.2),
    )

some_pieces : (world : World) (tenant : List ℕ) (view : View) (pieces : List (List ℕ)) → 1 ≤ length pieces → get world tenant ≡ Some view → view.upload ≡ None → length (concat pieces) ≤ MAX_UPLOAD → All IsFrame (map (part_frame tenant) pieces)
    → (replies : List Reply) × Explains world (events_of (map (part_frame tenant) pieces)) replies (insert world tenant (with_upload view (concat pieces))) × AreFine replies
some_pieces world tenant view [] some here none fits right = absurd (omega (arith, some))
some_pieces world tenant view (piece ∷ pieces) some here none fits right =
    parts_open world tenant [] view piece pieces here (ap open_upload none) (omega (arith, fits)) right

-- all parts of an upload open it again, where none is open
pub opened_again : (world : World) (tenant bytes : List ℕ) (view : View) (frames : List Frame) → get world tenant ≡ Some view → view.upload ≡ None → length bytes ≤ MAX_UPLOAD → ArePartFrames tenant bytes frames
    → (replies : List Reply) × Explains world (events_of frames) replies (insert world tenant (with_upload view bytes)) × AreFine replies
opened_again world tenant bytes view frames here none fits parts =
    let few = subst (λ b. length b ≤ MAX_UPLOAD) (sym parts.whole) fits in
    let done = some_pieces world tenant view parts.pieces parts.some here none few (subst (All IsFrame) parts.sent parts.right) in (
      done.0,
      subst (λ fs. Explains world (events_of fs) done.0 (insert world tenant (with_upload view bytes))) (sym parts.sent)
          (subst (λ b. Explains world (events_of (map (part_frame tenant) parts.pieces)) done.0 (insert world tenant (with_upload view b))) parts.whole done.1),
      done.2,
    )
