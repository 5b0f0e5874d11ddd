-- How a session ends: after its last frame, at what is not a frame, or by a fault.
use Rattle.std.proofs.Common.{◌≡◌, ◌≢◌, ◌∙◌, Option, Some, None, Result, Ok, Err, IfOk, IfErr, inl, inr, OnErr, refl, sym, subst, ℕ, List, [], ◌∷◌, ◌++◌}
use Rattle.std.specs.Prelude.{IfSome}
use Rattle.std.proofs.KnownBytes.{Appends-nil, Appends-trans}
use Rattle.std.specs.Io.KnownBytes.{Appends, Consumes, IsAtEnd}
use Rattle.fork_host.specs.Shown.{HostState}
use Rattle.fork_frame.specs.declared.session_end.Ended.{Ended}
use Rattle.fork_frame.specs.declared.session_end.Ended.TheVariants.{Clean, BadFrame}
use Rattle.fork_frame.specs.declared.frame.Frame.{Frame}
use Rattle.fork_frame.specs.Frame.{AreFrames, EndsAt, IsBad}
use Rattle.fork_frame.specs.Next.{BeginsFrame}
use Rattle.fork_frame.specs.Reply.{WritesFront, last_line}
use Rattle.fork_frame.proofs.StreamLemmas.{ends_clean, is_stream}
use Rattle.fork_wire.specs.declared.fault.SessionFault.{SessionFault}
use Rattle.fork_wire.specs.declared.fault.SessionFault.TheVariants.{Read, Write, Memory, Journal}
use Rattle.fork_wire.specs.Kept.{kept_bytes}
use Rattle.fork_wire.specs.Sessions.{IsServed, IsStopped, IsTelling, frames_of}
use Rattle.fork_wire.proofs.Going.{Going, answered_so_far, begins_with}

-- a session that was served, and what is kept of it
abbrev pub Served : HostState → HostState → Option (List ℕ) → Option (List ℕ) → Option (List ℕ) → Option (List ℕ) → Option (List ℕ) → Ended → Type 0
Served old new input before after first now ended = (session : IsServed old new input before after ended) × Appends first now (kept_bytes session.frames session.replies)

-- one that a fault stopped
abbrev pub Stopped : HostState → HostState → Option (List ℕ) → Option (List ℕ) → Option (List ℕ) → Option (List ℕ) → Option (List ℕ) → SessionFault → Type 0
Stopped old new input before after first now fault = (session : IsStopped old new input before after fault) × Appends first now (kept_bytes session.frames session.replies)

-- the input ends so
served_so : (old new : HostState) (input left before during after first now : Option (List ℕ)) (ended : Ended) → Going old new input left before during first now → IfSome left (EndsAt ended) → Appends during after (last_line ended)
    → Served old new input before after first now ended
served_so old new input left before during after first now ended so_far ends last = (
  record {
    frames = so_far.frames;
    replies = so_far.replies;
    answered = answered_so_far old new so_far.frames so_far.replies so_far.ran;
    read = is_stream input left so_far.came so_far.frames ended so_far.taken so_far.right ends;
    written = Appends-trans before during after (frames_of so_far.replies) (last_line ended) so_far.written last;
  },
  so_far.kept,
)

pub clean_end : (old new : HostState) (input left before after first now : Option (List ℕ)) → Going old new input left before after first now → IsAtEnd left → Served old new input before after first now Clean
clean_end old new input left before after first now so_far end = served_so old new input left before after after first now Clean so_far (ends_clean left end) (Appends-nil after)

pub bad_end : (old new : HostState) (input left before during after first now : Option (List ℕ)) (r : Result Ended SessionFault) → Going old new input left before during first now → IfSome left IsBad
    → IfOk r (λ ended. (ended ≡ BadFrame) × Appends during after (last_line ended)) → IfOk r (Served old new input before after first now)
bad_end old new input left before during after first now (Ok ended) so_far bad told =
    served_so old new input left before during after first now ended so_far (subst (λ e. IfSome left (EndsAt e)) (sym told.0) bad) told.1
bad_end old new input left before during after first now (Err fault) so_far bad told = tt

-- the frame that comes is to have a payload
payload_comes : (input left : Option (List ℕ)) (came : List ℕ) (frames : List Frame) → Consumes input left came → AreFrames frames came → IfSome left BeginsFrame
    → IfSome input (λ bytes. (came : List ℕ) × (rest : List ℕ) × AreFrames frames came × (bytes ≡ came ++ rest) × BeginsFrame rest)
payload_comes None left came frames taken right begins = tt
payload_comes (Some bytes) None came frames taken right begins = absurd taken
payload_comes (Some bytes) (Some rest) came frames taken right begins = (came, rest, right, taken, begins)

-- what comes behind the frames so far is no frame
bad_comes : (input left : Option (List ℕ)) (came : List ℕ) (frames : List Frame) → Consumes input left came → AreFrames frames came → IfSome left IsBad
    → IfSome input (λ bytes. (came : List ℕ) × (rest : List ℕ) × AreFrames frames came × (bytes ≡ came ++ rest) × IsBad rest)
bad_comes None left came frames taken right bad = tt
bad_comes (Some bytes) None came frames taken right bad = absurd taken
bad_comes (Some bytes) (Some rest) came frames taken right bad = (came, rest, right, taken, bad)

-- reading stopped it
pub unread : (old new : HostState) (input left before after first now : Option (List ℕ)) (fault : SessionFault) → Going old new input left before after first now → fault ≢ Write → fault ≢ Journal → (fault ≡ Memory → IfSome left BeginsFrame)
    → Stopped old new input before after first now fault
unread old new input left before after first now fault so_far unwritten unkept memory = (
  record {
    frames = so_far.frames;
    replies = so_far.replies;
    answered = answered_so_far old new so_far.frames so_far.replies so_far.ran;
    read = begins_with input left so_far.came so_far.frames so_far.taken so_far.right;
    written = λ is. so_far.written;
    told = λ is. absurd (unwritten is);
    broken = λ is. absurd (unwritten is);
    memory = λ is. inl (record { comes = payload_comes input left so_far.came so_far.frames so_far.taken so_far.right (memory is); written = so_far.written });
    unkept = λ is. absurd (unkept is);
  },
  so_far.kept,
)

-- something is to be told where what came is no frame
is_telling : (input left : Option (List ℕ)) (came : List ℕ) (frames : List Frame) → Consumes input left came → AreFrames frames came → IfSome left IsBad → IsTelling frames input
is_telling input left came (frame ∷ frames) taken right bad = tt
is_telling None left came [] taken right bad = tt
is_telling (Some bytes) None came [] taken right bad = absurd taken
is_telling (Some bytes) (Some rest) came [] taken right bad = subst IsBad (sym (taken ∙ front came right.spelled rest)) bad
  where
    front : (came : List ℕ) → came ≡ [] → (rest : List ℕ) → came ++ rest ≡ rest
    front [] is rest = refl
    front (b ∷ bytes) is rest = absurd (cc)

write_read : (fault : SessionFault) → fault ≡ Write → fault ≡ Read → ⊥
write_read fault is other = cc

write_memory : (fault : SessionFault) → fault ≡ Write → fault ≡ Memory → ⊥
write_memory fault is other = cc

write_journal : (fault : SessionFault) → fault ≡ Write → fault ≡ Journal → ⊥
write_journal fault is other = cc

-- writing the last line stopped it
pub untold : (old new : HostState) (input left before during after first now : Option (List ℕ)) (r : Result Ended SessionFault) → Going old new input left before during first now → IfSome left IsBad → IfErr r (λ fault. fault ≡ Write) → OnErr r (WritesFront during after (last_line BadFrame))
    → IfErr r (Stopped old new input before after first now)
untold old new input left before during after first now (Ok ended) so_far bad cause broken = tt
untold old new input left before during after first now (Err fault) so_far bad cause broken = (
  record {
    frames = so_far.frames;
    replies = so_far.replies;
    answered = answered_so_far old new so_far.frames so_far.replies so_far.ran;
    read = begins_with input left so_far.came so_far.frames so_far.taken so_far.right;
    written = λ is. absurd (write_read fault cause is);
    told = λ is. is_telling input left so_far.came so_far.frames so_far.taken so_far.right bad;
    broken = λ is. inr (record { comes = bad_comes input left so_far.came so_far.frames so_far.taken so_far.right bad; mid = during; written = so_far.written; broken = broken });
    memory = λ is. absurd (write_memory fault cause is);
    unkept = λ is. absurd (write_journal fault cause is);
  },
  so_far.kept,
)

read_write : Read ≡ Write → ⊥
read_write is = cc

read_journal : Read ≡ Journal → ⊥
read_journal is = cc

read_memory : Read ≡ Memory → ⊥
read_memory is = cc

-- so many frames were served that none more is read
pub spent : (old new : HostState) (input left before after first now : Option (List ℕ)) → Going old new input left before after first now → Stopped old new input before after first now Read
spent old new input left before after first now so_far = unread old new input left before after first now Read so_far read_write read_journal (λ is. absurd (read_memory is))

-- the session alone, without what is kept of it
pub served_alone : (old new : HostState) (input before after first now : Option (List ℕ)) (r : Result Ended SessionFault) → IfOk r (Served old new input before after first now) → IfOk r (IsServed old new input before after)
served_alone old new input before after first now (Ok ended) both = both.0
served_alone old new input before after first now (Err fault) both = tt

pub stopped_alone : (old new : HostState) (input before after first now : Option (List ℕ)) (r : Result Ended SessionFault) → IfErr r (Stopped old new input before after first now) → IfErr r (IsStopped old new input before after)
stopped_alone old new input before after first now (Ok ended) both = tt
stopped_alone old new input before after first now (Err fault) both = both.0

pub stopped_kept : (old new : HostState) (input before after first now : Option (List ℕ)) (r : Result Ended SessionFault) → IfErr r (Stopped old new input before after first now) → IfErr r (λ fault. fault ≢ Journal → Stopped old new input before after first now fault)
stopped_kept old new input before after first now (Ok ended) both = tt
stopped_kept old new input before after first now (Err fault) both = λ other. both

-- what holds however a session ends
pub at_end : (P : Type 0) (r : Result Ended SessionFault) → P → IfOk r (λ ended. P)
at_end P (Ok ended) held = held
at_end P (Err fault) held = tt

pub at_fault : (P : Type 0) (r : Result Ended SessionFault) → P → IfErr r (λ fault. fault ≢ Journal → P)
at_fault P (Ok ended) held = tt
at_fault P (Err fault) held = λ other. held
