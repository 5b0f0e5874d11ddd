-- What the command line asks for (own), by `clap`'s meaning of the words in the table below.
use Rattle.std.specs.Prelude.{◌≡◌, ◌≢◌, ◌⊎◌, ◌≤◌, ℕ, Bool, false, IfSome, List, [], codes, Option, Some, is_some, option_map, pos, true, unwrap_or}
use Rattle.std.specs.Str.Parse.{digits_value, without_leading_plus}
use Rattle.clap.specs.Words.{IsAmong, IsSignedIn, Kinds, Row, Text, all_of, first_of, kind_of, one_of, without_minus}
use Rattle.clap.specs.declared.error.kind.ErrorKind.{ErrorKind}
use Rattle.clap.specs.declared.error.kind.ErrorKind.TheVariants.{DisplayHelp, DisplayVersion}
use Rattle.git_name.specs.declared.kind.Kind.{Kind}
use Rattle.git_name.specs.Kind.{type_word}
use Rattle.fork_request.specs.Names.{IsTenantName}
use Rattle.fork_command.specs.declared.grant.Grant.{Grant}
use Rattle.fork_command.specs.declared.command.Command.{Command}
use Rattle.fork_command.specs.declared.command.Command.TheVariants.{HashObject, Run, Serve, Check, Upgrade, AddTenant, SetLimit, RemoveTenant, Repack}
use Rattle.fork_command.specs.declared.hosting.Hosting.{Hosting}
use Rattle.fork_command.specs.declared.error.CommandError.{CommandError}
use Rattle.fork_command.specs.declared.error.CommandError.TheVariants.{Help, Usage, BadTenant, Memory}
use Rattle.fork_command.specs.Grant.{AreGrants, IsFirstBad, IsGrant, grant_word}

-- the word given as TYPE
abbrev pub type_given : List Row → List ℕ
type_given rows = unwrap_or (first_of (codes "type") rows) (codes "blob")

-- the words given as TENANT=LIMIT
abbrev pub tenants_given : List Row → List (List ℕ)
tenants_given rows = unwrap_or (all_of (codes "tenants") rows) []

-- the number given as N, as `clap` reads it
abbrev pub connections_given : List Row → Option ℕ
connections_given rows = option_map (λ text. digits_value 10 (without_leading_plus text)) (one_of (codes "connections") rows)

-- the number given as M, as `clap` reads it
abbrev pub at_once_given : List Row → Option ℕ
at_once_given rows = option_map (λ text. digits_value 10 (without_leading_plus text)) (one_of (codes "at-once") rows)

-- whether a flag is given, as `clap` reads it
pub record IsFlag (name : Text) (rows : List Row) (is_given : Bool) : Type 0 where
  pub given : one_of name rows ≡ Some (codes "true") → is_given ≡ true
  pub omitted : one_of name rows ≡ Some (codes "false") → is_given ≡ false

-- what is hosted: the folder given by `--dir`, if any, whether it is packed and synced, and the tenants
pub record IsHosting (rows : List Row) (hosting : Hosting) : Type 0 where
  pub dir : option_map (λ dir. dir.now) hosting.dir ≡ first_of (codes "dir") rows
  pub packed : IsFlag (codes "packed") rows hosting.packed
  pub syncs : IsFlag (codes "sync") rows hosting.syncs
  pub tenants : AreGrants hosting.tenants.items (tenants_given rows)

-- what `serve` is asked for
pub record IsServing (rows : List Row) (path : Text) (n : ℕ) (m : Option ℕ) (hosting : Hosting) : Type 0 where
  pub socket : first_of (codes "socket") rows ≡ Some path
  pub connections : connections_given rows ≡ Some n
  pub least : 1 ≤ n
  pub most : n ≤ 1000000
  pub at_once : at_once_given rows ≡ m
  pub places : IfSome m (λ places. (1 ≤ places) × (places ≤ 256))
  pub hosted : IsHosting rows hosting

-- `clap` found a subcommand of this name, which was given this folder
abbrev pub AsksOfFolder : Text → Option (Text × List Row) → Text → Type 0
AsksOfFolder name met dir = (rows : List Row) × (met ≡ Some (name, rows)) × (first_of (codes "dir") rows ≡ Some dir)

-- the same, with this word for a tenant
abbrev pub AsksOfTenant : Text → Option (Text × List Row) → Text → Text → Type 0
AsksOfTenant name met dir word = (rows : List Row) × (met ≡ Some (name, rows)) × (first_of (codes "dir") rows ≡ Some dir) × (first_of (codes "tenant") rows ≡ Some word)

-- `clap` found `repack`, which was given this folder, and `--packed` or not
pub record AsksOfLayout (met : Option (Text × List Row)) (dir : Text) (packed : Bool) : Type 0 where
  pub rows : List Row
  pub met_is : met ≡ Some (codes "repack", rows)
  pub given : first_of (codes "dir") rows ≡ Some dir
  pub flag : IsFlag (codes "packed") rows packed

-- the subcommand that `clap` found, with the words given to it, asks for this command
abbrev pub Asks : Option (Text × List Row) → Command → Type 0
Asks met (HashObject kind) = (rows : List Row) × (met ≡ Some (codes "hash-object", rows)) × (type_given rows ≡ type_word kind)
Asks met (Run hosting) = (rows : List Row) × (met ≡ Some (codes "run", rows)) × IsHosting rows hosting
Asks met (Serve socket connections at_once hosting) = (rows : List Row) × (met ≡ Some (codes "serve", rows)) × IsServing rows socket.now connections at_once hosting
Asks met (Check dir) = AsksOfFolder (codes "check") met dir.now
Asks met (Upgrade dir) = AsksOfFolder (codes "upgrade") met dir.now
Asks met (AddTenant dir grant) = AsksOfTenant (codes "add-tenant") met dir.now (grant_word grant) × IsGrant grant
Asks met (SetLimit dir grant) = AsksOfTenant (codes "set-limit") met dir.now (grant_word grant) × IsGrant grant
Asks met (RemoveTenant dir tenant) = AsksOfTenant (codes "remove-tenant") met dir.now tenant × IsTenantName tenant
Asks met (Repack dir packed) = AsksOfLayout met dir.now packed

-- a word that `clap` reads as M
abbrev pub IsPlaces : Text → Type 0
IsPlaces word = (text : Text) × (word ≡ without_minus text) × IsSignedIn (pos 1) (pos 256) text

-- the words have what `serve` needs: a socket, and a text that `clap` reads as N; if M is given, it is read as M
pub record HasServeWords (rows : List Row) : Type 0 where
  pub socket : is_some (first_of (codes "socket") rows) ≡ true
  pub text : Text
  pub connections : one_of (codes "connections") rows ≡ Some (without_minus text)
  pub number : IsSignedIn (pos 1) (pos 1000000) text
  pub at_once : IfSome (one_of (codes "at-once") rows) IsPlaces

-- the words have what a change of a tenant needs
pub record HasTenantWords (rows : List Row) : Type 0 where
  pub dir : is_some (first_of (codes "dir") rows) ≡ true
  pub tenant : is_some (first_of (codes "tenant") rows) ≡ true

-- `clap` found a subcommand of the table with the words that it needs
pub data IsCommandMet (met : Option (Text × List Row)) : Type 0 where
  ToHash : (rows : List Row) → met ≡ Some (codes "hash-object", rows) → IsCommandMet met
  ToRun : (rows : List Row) → met ≡ Some (codes "run", rows) → IsCommandMet met
  ToServe : (rows : List Row) → met ≡ Some (codes "serve", rows) → HasServeWords rows → IsCommandMet met
  ToCheck : (rows : List Row) → met ≡ Some (codes "check", rows) → is_some (first_of (codes "dir") rows) ≡ true → IsCommandMet met
  ToUpgrade : (rows : List Row) → met ≡ Some (codes "upgrade", rows) → is_some (first_of (codes "dir") rows) ≡ true → IsCommandMet met
  ToAdd : (rows : List Row) → met ≡ Some (codes "add-tenant", rows) → HasTenantWords rows → IsCommandMet met
  ToLimit : (rows : List Row) → met ≡ Some (codes "set-limit", rows) → HasTenantWords rows → IsCommandMet met
  ToRemove : (rows : List Row) → met ≡ Some (codes "remove-tenant", rows) → HasTenantWords rows → IsCommandMet met
  ToRepack : (rows : List Row) → met ≡ Some (codes "repack", rows) → is_some (first_of (codes "dir") rows) ≡ true → IsCommandMet met

-- the word given as TYPE is not the type of an object
abbrev pub IsBadType : Option (Text × List Row) → Type 0
IsBadType met = (rows : List Row) × (met ≡ Some (codes "hash-object", rows)) × ((kind : Kind) → type_given rows ≢ type_word kind)

-- this word was given for a tenant and its limit, and is not a grant
abbrev pub IsNoGrant : List Row → List ℕ → Type 0
IsNoGrant rows word = (first_of (codes "tenant") rows ≡ Some word) × ((grant : Grant) → IsGrant grant → word ≢ grant_word grant)

-- this word was given for a tenant, and is not a tenant's name
abbrev pub IsNoTenant : List Row → List ℕ → Type 0
IsNoTenant rows word = (first_of (codes "tenant") rows ≡ Some word) × (IsTenantName word → ⊥)

-- this word is refused as a tenant
pub data IsBadTenant (met : Option (Text × List Row)) (word : List ℕ) : Type 0 where
  -- the first word given to `run` or `serve` that is not a grant
  BadOfRun : (rows : List Row) → met ≡ Some (codes "run", rows) → IsFirstBad word (tenants_given rows) → IsBadTenant met word
  BadOfServe : (rows : List Row) → met ≡ Some (codes "serve", rows) → IsFirstBad word (tenants_given rows) → IsBadTenant met word
  -- the word given to one of the others, which is not a grant or not a name
  BadOfAdd : (rows : List Row) → met ≡ Some (codes "add-tenant", rows) → IsNoGrant rows word → IsBadTenant met word
  BadOfLimit : (rows : List Row) → met ≡ Some (codes "set-limit", rows) → IsNoGrant rows word → IsBadTenant met word
  BadOfRemove : (rows : List Row) → met ≡ Some (codes "remove-tenant", rows) → IsNoTenant rows word → IsBadTenant met word

-- these kinds of error ask for a text of `clap`: its help, or the version
abbrev pub IsShown : ErrorKind → Type 0
IsShown kind = (kind ≡ DisplayHelp) ⊎ (kind ≡ DisplayVersion)

-- why the words are refused: `faults` are the kinds of error that `clap` finds in them; there are none if it takes them
abbrev pub IsRefused : Kinds → Option (Text × List Row) → CommandError → Type 0
IsRefused faults met (Help error) = IsShown (kind_of error) × IsAmong (kind_of error) faults
IsRefused faults met (Usage error) = (IsShown (kind_of error) → ⊥) × (IsAmong (kind_of error) faults ⊎ ((faults ≡ []) × IsBadType met))
IsRefused faults met (BadTenant word) = (faults ≡ []) × IsBadTenant met word.now
IsRefused faults met Memory = Unit {0}

-- `clap` reports an error only for words that it does not take, or for a bad TYPE
abbrev pub IsFaulty : Bool → Option (Text × List Row) → CommandError → Type 0
IsFaulty taken met (Help error) = taken ≡ false
IsFaulty taken met (Usage error) = (taken ≡ false) ⊎ IsBadType met
IsFaulty taken met (BadTenant word) = Unit {0}
IsFaulty taken met Memory = Unit {0}

-- why the word given for a tenant and its limit is refused
abbrev pub IsGrantRefused : List Row → CommandError → Type 0
IsGrantRefused rows (BadTenant word) = IsNoGrant rows word.now
IsGrantRefused rows error = ⊥

-- why the word given for a tenant is refused
abbrev pub IsTenantRefused : List Row → CommandError → Type 0
IsTenantRefused rows (BadTenant word) = IsNoTenant rows word.now
IsTenantRefused rows error = ⊥
