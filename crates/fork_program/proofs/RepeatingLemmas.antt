-- What is repeated of a journal that a device shows.
use Rattle.std.proofs.Common.{◌≡◌, ℕ, OnOk, ◌+◌, ◌-◌, ◌^◌, min, Bool, true, false, IsTrue, IfOk, IfSome, List, [], Option, Some, None, Result, Ok, Err, option_map, is_some, if◌then◌else◌, ◌==◌, refl, sym, ap, ap₂, subst, ◌∙◌}
use Rattle.std.specs.FinMap.{contains_key, get}
use Rattle.std.specs.Io.Buffered.{reader_buffer, reader_capacity, reader_inner, reader_remaining}
use Rattle.std.specs.Io.KnownBytes.{Consumes, Keeps, prepend_known}
use Rattle.std.specs.declared.io.buffered.BufReader.{BufReader}
use Rattle.chained_log.specs.Reading.{log_contents}
use Rattle.devices.specs.Device.{Files, Past, bytes_or_none, files_of}
use Rattle.devices.specs.Source.{bytes_behind}
use Rattle.fork_host.specs.Shown.{HostState}
use Rattle.fork_program.specs.Repeating.{IsJournalRepeated, IsOldRepeated, IsRepeated, IsRestRepeated, IsStart, Plain, Logged}
use Rattle.fork_program.specs.Saving.{IsHostOfState}
use Rattle.fork_program.specs.UploadLog.{is_reference, reference_line}
use Rattle.fork_wire.specs.Again.{IsServedAgain}
use Rattle.git_name.specs.Name.{IsName}
use Rattle.host_folder.specs.Journal.{first_line}
use Rattle.host_folder.specs.OtherJournals.{HasNoOther}
use Rattle.host_folder.specs.State.{state_file}
use Rattle.loose_store.specs.Files.{Files as Objects}
use Rattle.sha2.specs.Sha256.{sha256}

nothing_before : (known : Option (List ℕ)) → prepend_known [] known ≡ known
nothing_before None = refl
nothing_before (Some bytes) = refl

-- a reader that was just buffered has the bytes of the one behind it
pub buffered : {T A : Type 0} (remaining : T → Option (List ℕ)) (r : BufReader T A) (inner : T) → reader_inner r ≡ inner → reader_buffer r ≡ [] → reader_capacity r ≡ 8192 → reader_remaining remaining r ≡ remaining inner
buffered {T} {A} remaining r inner is none room =
    ap (λ (n : ℕ). if n == 0 then None else prepend_known (reader_buffer r) (remaining (reader_inner r))) room
    ∙ ap₂ (λ (b : List ℕ) (t : T). prepend_known b (remaining t)) none is ∙ nothing_before (remaining inner)

unknown : (old new : HostState) (input : Option (List ℕ)) (count : ℕ) → IsServedAgain old new input count → IsServedAgain old new None count
unknown old new input count served = record { frames = served.frames; replies = served.replies; answered = served.answered; fine = served.fine; number = served.number; read = tt }

-- a journal that refers to no log
pub plain_of : (input first second : Option (List ℕ)) (name : List ℕ) (old new : HostState) (count total : ℕ) → first ≡ input → Keeps first second × IfSome first (λ bytes. is_reference bytes ≡ false)
    → IsServedAgain old new (option_map (log_contents name) second) count → total ≡ count → IsRestRepeated input name old new total
plain_of input None second name old new count total same none served is =
    subst (λ (i : Option (List ℕ)). IsRestRepeated i name old new total) same (subst (λ (n : ℕ). IsRestRepeated None name old new n) (sym is) (Plain tt (unknown old new (option_map (log_contents name) second) count served)))
plain_of input (Some bytes) None name old new count total same none served is = absurd none.0
plain_of input (Some bytes) (Some others) name old new count total same none served is =
    subst (λ (i : Option (List ℕ)). IsRestRepeated i name old new total) same
    (subst (λ (n : ℕ). IsRestRepeated (Some bytes) name old new n) (sym is) (Plain none.1 (subst (λ (b : List ℕ). IsServedAgain old new (Some (log_contents name b)) count) none.0 served)))

-- a journal that refers to a log
pub logged_of : (input first second : Option (List ℕ)) (name sum : List ℕ) (number len before more total : ℕ) (old mid new : HostState) → first ≡ input → Consumes first second (reference_line number len sum)
    → IsServedAgain old mid None before → IsServedAgain mid new (option_map (log_contents name) second) more → total ≡ min (before + more) (2 ^ 64 - 1) → IsRestRepeated input name old new total
logged_of input first second name sum number len before more total old mid new same line one two is =
    Logged number len before more sum second mid (subst (λ (i : Option (List ℕ)). Consumes i second (reference_line number len sum)) same line) one two is

-- no journal of version 1 is there
old_none : (found : Option (List ℕ)) (host : HostState) (count : ℕ) → false ≡ is_some found → count ≡ 0 → IsOldRepeated found host host count
old_none None host count is zero_count = (refl, zero_count)
old_none (Some text) host count is zero_count = absurd (cc)

pub no_old : {X : Type 0} (shown : Option X) (found : Option (List ℕ)) (host : HostState) (count : ℕ) → is_some shown ≡ is_some found → shown ≡ None → count ≡ 0 → IsOldRepeated found host host count
no_old {X} None found host count same none zero_count = old_none found host count same zero_count
no_old {X} (Some x) found host count same none zero_count = absurd (cc)

old_some : (found : Option (List ℕ)) (old new : HostState) (count : ℕ) → true ≡ is_some found → IsServedAgain old new (Some (bytes_or_none found)) count → IsOldRepeated found old new count
old_some None old new count is served = absurd (cc)
old_some (Some text) old new count is served = served

-- one of version 1 was repeated
pub old_served : {X : Type 0} (b : Bool) (past : Past) (path : List ℕ) (shown : Option X) (x : X) (input : Option (List ℕ)) (old new : HostState) (count total : ℕ) → IsTrue b → input ≡ bytes_behind b past path 0
    → is_some shown ≡ contains_key (files_of past) path → shown ≡ Some x → IsServedAgain old new input count → total ≡ count → IsOldRepeated (get (files_of past) path) old new total
old_served {X} false past path shown x input old new count total honest is there some served same = absurd (cc)
old_served {X} true past path shown x input old new count total honest is there some served same =
    let found : true ≡ is_some (get (files_of past) path) = ap (λ (s : Option X). is_some s) (sym some) ∙ there in
    subst (λ (n : ℕ). IsOldRepeated (get (files_of past) path) old new n) (sym same)
    (old_some (get (files_of past) path) old new count found (subst (λ (i : Option (List ℕ)). IsServedAgain old new i count) is served))

-- a journal that is there was repeated from behind its first line
journal_some : (found earlier left : Option (List ℕ)) (name before : List ℕ) (old new : HostState) (count : ℕ) → true ≡ is_some found → IsName before → Consumes (Some (bytes_or_none found)) left (first_line before)
    → IsRestRepeated left name old new count → IsJournalRepeated found earlier name old new count
journal_some None earlier left name before old new count is right line repeated = absurd (cc)
journal_some (Some text) earlier None name before old new count is right line repeated = absurd line
journal_some (Some text) earlier (Some rest) name before old new count is right line repeated = (before, rest, right, line, repeated)

pub journal_of : {X : Type 0} (b : Bool) (past : Past) (path name : List ℕ) (shown : Option X) (x : X) (earlier left : Option (List ℕ)) (old new : HostState) (count : ℕ) → IsTrue b
    → is_some shown ≡ contains_key (files_of past) path → shown ≡ Some x → ((before : List ℕ) × IsName before × Consumes (bytes_behind b past path 0) left (first_line before)) → IsRestRepeated left name old new count
    → IsJournalRepeated (get (files_of past) path) earlier name old new count
journal_of {X} false past path name shown x earlier left old new count honest there some line repeated = absurd (cc)
journal_of {X} true past path name shown x earlier left old new count honest there some line repeated =
    journal_some (get (files_of past) path) earlier left name line.0 old new count (ap (λ (s : Option X). is_some s) (sym some) ∙ there) line.1 line.2 repeated

journal_none : (found earlier : Option (List ℕ)) (name : List ℕ) (old new : HostState) (count : ℕ) → false ≡ is_some found → IsOldRepeated earlier old new count → IsJournalRepeated found earlier name old new count
journal_none None earlier name old new count is repeated = repeated
journal_none (Some text) earlier name old new count is repeated = absurd (cc)

-- there is none, and one of version 1 was repeated
pub no_journal : {X : Type 0} (shown : Option X) (found earlier : Option (List ℕ)) (name : List ℕ) (old new : HostState) (count : ℕ) → is_some shown ≡ is_some found → shown ≡ None → IsOldRepeated earlier old new count
    → IsJournalRepeated found earlier name old new count
no_journal {X} None found earlier name old new count same none repeated = journal_none found earlier name old new count same repeated
no_journal {X} (Some x) found earlier name old new count same none repeated = absurd (cc)

-- a start, by its parts
pub started : {X E : Type 0} (objects : Objects) (shown : Files) (first : HostState) (name : List ℕ) (result : Result X E) (host : X → HostState) (count : X → ℕ) → IsHostOfState objects (get shown state_file) first
    → OnOk result (HasNoOther shown name) → name ≡ sha256 (bytes_or_none (get shown state_file)) → IfOk result (λ found. IsRepeated shown name first (host found) (count found)) → IfOk result (λ found. IsStart objects shown (host found) (count found))
started {X} {E} objects shown first name (Ok found) host count loaded alone named repeated = record {
  first = first;
  loaded = loaded;
  alone = subst (HasNoOther shown) named alone;
  repeated = subst (λ (n : List ℕ). IsRepeated shown n first (host found) (count found)) named repeated;
}
started {X} {E} objects shown first name (Err fault) host count loaded alone named repeated = tt
