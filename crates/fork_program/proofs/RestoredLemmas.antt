-- What is known of a host that was loaded of the state that its folder shows.
use Rattle.std.proofs.Common.{◌≡◌, ℕ, Bool, true, false, IsTrue, List, ◌++◌, Option, Some, None, Result, Ok, Err, IfOk, append-nil, length, option_map, sym, ◌∙◌, ap, subst}
use Rattle.std.specs.FinMap.{empty, get}
use Rattle.std.specs.Io.KnownBytes.{Consumes, IsAtEnd}
use Rattle.devices.specs.Device.{Past, bytes_or_none, files_of}
use Rattle.devices.specs.Source.{bytes_behind}
use Rattle.fork_host.specs.Shown.{HostState, world_of}
use Rattle.fork_program.specs.Keeping.{IsNameOf}
use Rattle.fork_program.specs.Saving.{IsHostOfState, IsRestoredOf, IsShownAs, IsUnfailed}
use Rattle.fork_state.specs.Loaded.{IsLoaded, IsLoadedFrom, IsTextFrom}
use Rattle.host_folder.specs.State.{IsShown, state_file}
use Rattle.loose_store.specs.Files.{Files}
use Rattle.sha2.specs.Sha256.{sha256}
use Rattle.state_text.specs.States.{States}
use Rattle.state_text.specs.Text.{IsTextIn}
use Rattle.state_text.specs.declared.version.Version.{Version}
use Rattle.state_text.specs.declared.version.Version.TheVariants.{Two}

-- over a trusted store, a text of the newest version that was loaded is the host's own
own_of : (host : HostState) (name : List ℕ) (version : Version) (files : Files) (before after : Option (List ℕ)) → version ≡ Two → IsLoadedFrom before after files (world_of host) name version → IsNameOf host name
own_of host name version files before after newest it = record {
  text = it.text;
  saved = subst (λ (states : States). IsTextIn Two states it.text) (sym it.loaded.shown.states) (subst (λ (v : Version). IsTextIn v it.loaded.states it.text) newest it.loaded.tells);
  named = it.named;
}

-- all that was read is the text
all_read : (all text : List ℕ) (after : Option (List ℕ)) → Consumes (Some all) after text → IsAtEnd after → all ≡ text
all_read all text None consumed ends = absurd consumed
all_read all text (Some rest) consumed ends = consumed ∙ ap (λ more. text ++ more) ends ∙ append-nil text

-- a file that has a length has these bytes
there : (found : Option (List ℕ)) (text : List ℕ) (len : ℕ) → option_map length found ≡ Some len → bytes_or_none found ≡ text → found ≡ Some text
there None text len some is = absurd (cc)
there (Some bytes) text len some is = ap Some is

none_failed : (past : Past) (text : List ℕ) → IsUnfailed past → get (files_of past) state_file ≡ Some text → IsShown text past
none_failed past text unfailed shown = record { shown = shown; file = unfailed.file; folder = unfailed.folder }

shown_of : (b : Bool) (past : Past) (path : List ℕ) (at len : ℕ) (name : List ℕ) (version : Version) (after : Option (List ℕ)) → IsTrue b → path ≡ state_file → at ≡ 0 → IsUnfailed past → option_map length (get (files_of past) state_file) ≡ Some len
    → IsTextFrom (bytes_behind b past path at) after name version → IsShownAs name past
shown_of false past path at len name version after honest is none begun some it = absurd (cc)
shown_of true past path at len name version after honest is none begun some it =
    let same : bytes_behind true past path at ≡ Some (bytes_or_none (get (files_of past) state_file)) =
    ap (λ (k : ℕ). bytes_behind true past path k) none ∙ ap (λ (p : List ℕ). Some (bytes_or_none (get (files_of past) p))) is in
    let all = all_read (bytes_or_none (get (files_of past) state_file)) it.text after (subst (λ (before : Option (List ℕ)). Consumes before after it.text) same it.consumed) it.ends in
    record { text = it.text; named = it.named; shown = none_failed past it.text begun (there (get (files_of past) state_file) it.text len some all) }

-- what was loaded is the host of the state that the device shows
shown_as : (files : Files) (found : Option (List ℕ)) (text : List ℕ) (host : HostState) (version : Version) → found ≡ Some text → IsLoaded files version text (world_of host) → IsHostOfState files found host
shown_as files found text host version is loaded = subst (λ (state : Option (List ℕ)). IsHostOfState files state host) (sym is) (version, loaded)

pub host_of : (host : HostState) (name : List ℕ) (version : Version) (files : Files) (b : Bool) (past : Past) (path : List ℕ) (at len : ℕ) (after : Option (List ℕ)) → IsTrue b
    → IsLoadedFrom (bytes_behind b past path at) after files (world_of host) name version → path ≡ state_file → at ≡ 0 → option_map length (get (files_of past) state_file) ≡ Some len → IsHostOfState files (get (files_of past) state_file) host
host_of host name version files false past path at len after honest it is none some = absurd (cc)
host_of host name version files true past path at len after honest it is none some =
    let same : bytes_behind true past path at ≡ Some (bytes_or_none (get (files_of past) state_file)) =
    ap (λ (k : ℕ). bytes_behind true past path k) none ∙ ap (λ (p : List ℕ). Some (bytes_or_none (get (files_of past) p))) is in
    let all = all_read (bytes_or_none (get (files_of past) state_file)) it.text after (subst (λ (before : Option (List ℕ)). Consumes before after it.text) same it.consumed) it.ends in
    shown_as files (get (files_of past) state_file) it.text host version (there (get (files_of past) state_file) it.text len some all) it.loaded

-- the state's name is that of what the device shows
pub named_of : (name : List ℕ) (version : Version) (b : Bool) (past : Past) (path : List ℕ) (at : ℕ) (after : Option (List ℕ)) → IsTrue b
    → IsTextFrom (bytes_behind b past path at) after name version → path ≡ state_file → at ≡ 0 → name ≡ sha256 (bytes_or_none (get (files_of past) state_file))
named_of name version false past path at after honest it is none = absurd (cc)
named_of name version true past path at after honest it is none =
    let same : bytes_behind true past path at ≡ Some (bytes_or_none (get (files_of past) state_file)) =
    ap (λ (k : ℕ). bytes_behind true past path k) none ∙ ap (λ (p : List ℕ). Some (bytes_or_none (get (files_of past) p))) is in
    let all = all_read (bytes_or_none (get (files_of past) state_file)) it.text after (subst (λ (before : Option (List ℕ)). Consumes before after it.text) same it.consumed) it.ends in
    it.named ∙ ap (λ (text : List ℕ). sha256 text) (sym all)

-- a file that was found to have no length is not there
pub none_shown : {E : Type 0} (told : Result (Option ℕ) E) (value all : Option ℕ) → IfOk told (λ found. found ≡ all) → told ≡ Ok value → value ≡ None → all ≡ None
none_shown {E} (Ok found) value all is same none = cc
none_shown {E} (Err fault) value all is same none = absurd (cc)

-- without a state the host has no tenants
pub host_of_none : (files : Files) (found : Option (List ℕ)) (host : HostState) → option_map length found ≡ None → world_of host ≡ empty → IsHostOfState files found host
host_of_none files None host is none = none
host_of_none files (Some text) host is none = absurd (cc)

pub restored_of : (host : HostState) (name : List ℕ) (version : Version) (files : Files) (trusted b : Bool) (past : Past) (path : List ℕ) (at len : ℕ) (after : Option (List ℕ)) → version ≡ Two
    → host.vault.honest ≡ trusted → (IsTrue trusted → IsLoadedFrom (bytes_behind b past path at) after files (world_of host) name version) → IsTextFrom (bytes_behind b past path at) after name version
    → path ≡ state_file → at ≡ 0 → (IsTrue b → IsUnfailed past) → (IsTrue b → option_map length (get (files_of past) state_file) ≡ Some len) → IsRestoredOf host name b past
restored_of host name version files trusted b past path at len after newest same loaded text is none begun some = record {
  own = λ right. own_of host name version files (bytes_behind b past path at) after newest (loaded (sym same ∙ right));
  shown = λ honest. shown_of b past path at len name version after honest is none (begun honest) (some honest) text;
}
