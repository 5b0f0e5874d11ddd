-- Frames that open uploads again, written one after another.
use Rattle.std.proofs.Common.{◌≡◌, ◌∙◌, ap, refl, subst, sym, ℕ, ◌+◌, ◌-◌, ◌≤◌, List, [], ◌∷◌, ◌++◌, Option, append_assoc, append-nil, length, length-append, map, take, drop, arith}
use Rattle.std.specs.Prelude.{All, codes, flat_map}
use Rattle.std.specs.List.{concat}
use Rattle.std.specs.Io.KnownBytes.{Appends}
use Rattle.std.proofs.KnownBytes.{Appends-nil, Appends-trans}
use Rattle.std.proofs.Math.Nat.{min-le_left}
use Rattle.std.proofs.Math.Seq.{take-add}
use Rattle.std.proofs.lemmas.List.{length-take, map-append}
use Rattle.std.proofs.lemmas.List.Concat.{flat_map-append, flat_map-cons}
use Rattle.std.proofs.lemmas.List.Elements.{All-append, All-cons, All-nil}
use Rattle.fork_request.specs.Names.{IsTenantName}
use Rattle.push_stream.specs.Upload.{UploadValue}
use Rattle.fork_model.specs.World.{World}
use Rattle.fork_host.specs.Uploads.{opened, upload_at, uploads_of}
use Rattle.fork_frame.specs.Frame.{IsFrame, frame_bytes}
use Rattle.fork_frame.specs.declared.frame.Frame.{Frame}
use Rattle.fork_wire.specs.Reopening.{ArePartFrames, Reopens, part_frame}
use Rattle.fork_wire.proofs.UploadsLemmas.{all_named, uploads_by}

one_frame : (frame : Frame) → flat_map frame_bytes (frame ∷ []) ≡ frame_bytes frame
one_frame frame = flat_map-cons frame_bytes frame [] ∙ append-nil (frame_bytes frame)

-- frames that were written
pub record Wrote (frames : List Frame) (before after : Option (List ℕ)) : Type 0 where
  pub right : All IsFrame frames
  pub written : Appends before after (flat_map frame_bytes frames)

wrote_more : (frames others : List Frame) (before during after : Option (List ℕ)) → Wrote frames before during → Wrote others during after → Wrote (frames ++ others) before after
wrote_more frames others before during after one other = record {
  right = All-append IsFrame frames others one.right other.right;
  written = subst (Appends before after) (sym (flat_map-append frame_bytes frames others)) (Appends-trans before during after (flat_map frame_bytes frames) (flat_map frame_bytes others) one.written other.written);
}

-- the frame of a piece is right
part_right : (tenant piece : List ℕ) → IsTenantName tenant → length piece ≤ 1048571 → IsFrame (part_frame tenant piece)
part_right tenant piece named few = record { named = named; fits = (let whole = length-append (codes "part\n") piece in omega (arith, few, whole)) }

wrote_part : (tenant piece : List ℕ) (before after : Option (List ℕ)) → IsTenantName tenant → length piece ≤ 1048571 → Appends before after (frame_bytes (part_frame tenant piece)) → Wrote (part_frame tenant piece ∷ []) before after
wrote_part tenant piece before after named few written = record {
  right = All-cons IsFrame (part_frame tenant piece) [] (part_right tenant piece named few) (All-nil IsFrame);
  written = subst (Appends before after) (sym (one_frame (part_frame tenant piece))) written;
}

-- the front of an upload was sent
pub record Sending (tenant front : List ℕ) (before after : Option (List ℕ)) : Type 0 where
  pub frames : List Frame
  pub pieces : List (List ℕ)
  pub some : 1 ≤ length pieces
  pub whole : concat pieces ≡ front
  pub sent : frames ≡ map (part_frame tenant) pieces
  pub wrote : Wrote frames before after

pub first_sent : (tenant piece : List ℕ) (before after : Option (List ℕ)) → IsTenantName tenant → length piece ≤ 1048571 → Appends before after (frame_bytes (part_frame tenant piece)) → Sending tenant piece before after
first_sent tenant piece before after named few written = record {
  frames = part_frame tenant piece ∷ [];
  pieces = piece ∷ [];
  some = omega arith;
  whole = append-nil piece;
  sent = refl;
  wrote = wrote_part tenant piece before after named few written;
}

concat_more : (pieces : List (List ℕ)) (piece : List ℕ) → concat (pieces ++ piece ∷ []) ≡ concat pieces ++ piece
concat_more [] piece = append-nil piece
concat_more (p ∷ pieces) piece = ap (λ rest. p ++ rest) (concat_more pieces piece) ∙ sym (append_assoc p (concat pieces) piece)

longer : (pieces : List (List ℕ)) (piece : List ℕ) → 1 ≤ length pieces → 1 ≤ length (pieces ++ piece ∷ [])
longer pieces piece some = (let whole = length-append pieces (piece ∷ []) in omega (arith, some, whole))

pub more_sent : (tenant front piece : List ℕ) (before during after : Option (List ℕ)) → Sending tenant front before during → IsTenantName tenant → length piece ≤ 1048571 → Appends during after (frame_bytes (part_frame tenant piece))
    → Sending tenant (front ++ piece) before after
more_sent tenant front piece before during after so_far named few written = record {
  frames = so_far.frames ++ part_frame tenant piece ∷ [];
  pieces = so_far.pieces ++ piece ∷ [];
  some = longer so_far.pieces piece so_far.some;
  whole = concat_more so_far.pieces piece ∙ ap (λ bytes. bytes ++ piece) so_far.whole;
  sent = ap (λ frames. frames ++ part_frame tenant piece ∷ []) so_far.sent ∙ sym (map-append (part_frame tenant) so_far.pieces (piece ∷ []));
  wrote = wrote_more so_far.frames (part_frame tenant piece ∷ []) before during after so_far.wrote (wrote_part tenant piece during after named few written);
}

pub fewer : (n most : ℕ) (xs : List ℕ) → n ≤ most → length (take n xs) ≤ most
fewer n most xs few = (let long = length-take n xs in let least = min-le_left n (length xs) in omega (arith, few, long, least))

just : (at next : ℕ) → at + next - at ≡ next
just at next = omega arith

-- the next bytes of an upload were sent
pub slice_sent : (tenant bytes : List ℕ) (at next : ℕ) (before during after : Option (List ℕ)) → Sending tenant (take at bytes) before during → IsTenantName tenant → next ≤ 1048571
    → Appends during after (frame_bytes (part_frame tenant (take (at + next - at) (drop at bytes)))) → Sending tenant (take (at + next) bytes) before after
slice_sent tenant bytes at next before during after so_far named few written =
    subst (λ front. Sending tenant front before after) (sym (take-add at next bytes))
    (more_sent tenant (take at bytes) (take next (drop at bytes)) before during after so_far named (fewer next 1048571 (drop at bytes) few)
    (subst (λ n. Appends during after (frame_bytes (part_frame tenant (take n (drop at bytes))))) (just at next) written))

-- all of it
pub all_sent : (tenant front bytes : List ℕ) (before after : Option (List ℕ)) → Sending tenant front before after → front ≡ bytes
    → (frames : List Frame) × ArePartFrames tenant bytes frames × Appends before after (flat_map frame_bytes frames)
all_sent tenant front bytes before after so_far is =
    (so_far.frames, record { pieces = so_far.pieces; some = so_far.some; whole = so_far.whole ∙ is; sent = so_far.sent; right = so_far.wrote.right }, so_far.wrote.written)

-- frames that open these uploads again were written
abbrev pub Written : List (List ℕ × UploadValue) → Option (List ℕ) → Option (List ℕ) → Type 0
Written uploads before after = (frames : List Frame) × Reopens uploads frames × All IsFrame frames × Appends before after (flat_map frame_bytes frames)

pub none_written : (before : Option (List ℕ)) → Written [] before before
none_written before = ([], refl, All-nil IsFrame, Appends-nil before)

reopens_both : (uploads : List (List ℕ × UploadValue)) (frames : List Frame) (others : List (List ℕ × UploadValue)) (more : List Frame) → Reopens uploads frames → Reopens others more → Reopens (uploads ++ others) (frames ++ more)
reopens_both [] frames others more one other = subst (λ fs. Reopens others (fs ++ more)) (sym one) other
reopens_both (u ∷ uploads) frames others more one other =
    (one.0, one.1 ++ more, ap (λ fs. fs ++ more) one.2 ∙ append_assoc one.0 one.1 more, one.3, reopens_both uploads one.1 others more one.4 other)

both_written : (uploads others : List (List ℕ × UploadValue)) (before during after : Option (List ℕ)) → Written uploads before during → Written others during after → Written (uploads ++ others) before after
both_written uploads others before during after one other =
    let wrote = wrote_more one.0 other.0 before during after (record { right = one.2; written = one.3 }) (record { right = other.2; written = other.3 }) in
    (one.0 ++ other.0, reopens_both uploads one.0 others other.0 one.1 other.1, wrote.right, wrote.written)

-- the upload of one more tenant
pub next_written : (world : World) (done : List (List ℕ)) (tenant : List ℕ) (before during after : Option (List ℕ)) → Written (uploads_by world done) before during → Written (opened tenant (upload_at world tenant)) during after
    → Written (uploads_by world (done ++ tenant ∷ [])) before after
next_written world done tenant before during after so_far one =
    subst (λ uploads. Written uploads before after)
    (sym (flat_map-append (λ name. opened name (upload_at world name)) done (tenant ∷ [])
    ∙ ap (λ last. uploads_by world done ++ last) (flat_map-cons (λ name. opened name (upload_at world name)) tenant [] ∙ append-nil (opened tenant (upload_at world tenant)))))
    (both_written (uploads_by world done) (opened tenant (upload_at world tenant)) before during after so_far one)

none_left : {X : Type 0} (rest : List X) (len : ℕ) → len ≡ length rest → len ≡ 0 → rest ≡ []
none_left [] len counted zero = refl
none_left (x ∷ rest) len counted zero = (let e : length (x ∷ rest) ≡ 0 = sym counted ∙ zero in absurd (omega (arith, e)))

-- all of them, where no more tenants are left
pub all_written : (world : World) (done rest : List (List ℕ)) (before after : Option (List ℕ)) (len : ℕ) → len ≡ length rest → len ≡ 0 → done ++ rest ≡ map (λ u. u.0) (uploads_of world) → Written (uploads_by world done) before after
    → Written (uploads_of world) before after
all_written world done rest before after len counted zero parts so_far =
    subst (λ uploads. Written uploads before after)
    (ap (uploads_by world) (sym (append-nil done) ∙ ap (λ r. done ++ r) (sym (none_left rest len counted zero)) ∙ parts) ∙ all_named world)
    so_far
