-- The host that the given tenants were added to, and what comes of it.
use Rattle.std.proofs.Common.{◌≡◌, ◌⊎◌, inl, inr, ℕ, Bool, true, false, List, [], Option, IfErr, OnErr, OnOk, Result, Ok, Err, is_some, refl, sym, subst, ◌∙◌}
use Rattle.std.proofs.KnownBytes.{Keeps-refl}
use Rattle.std.specs.FinMap.{empty}
use Rattle.fork_command.specs.declared.hosting.Hosting.{Hosting}
use Rattle.fork_host.specs.Shown.{HostState, Trusted, world_of}
use Rattle.fork_program.proofs.GivenLemmas.{no_grants}
use Rattle.fork_program.specs.Given.{AreGiven, AreUngiven}
use Rattle.fork_program.specs.Keeping.{IsSaved, IsUntouched}
use Rattle.fork_program.specs.Running.{IsBegun, IsHostOf, IsKeptHostOf, IsUnhosted, Ungiven}
use Rattle.fork_program.specs.Serving.{AreSomeServed, Deaf, IsLost, IsUnbound, IsUnlistened, Lost}
use Rattle.fork_program.specs.declared.fault.Fault.{Fault}

-- a new host is right for any words
begun_new : (hosting : Hosting) (begun : HostState) → Trusted begun → world_of begun ≡ empty → IsBegun hosting begun
begun_new hosting begun trusted shows none = record { trusted = trusted; shows = shows }

-- any host is right for words that name a folder
some_dir : (given : Bool) → given ≡ true → given ≡ false → ⊥
some_dir true is other = cc
some_dir false is other = cc

begun_kept : (hosting : Hosting) (begun : HostState) → is_some hosting.dir ≡ true → IsBegun hosting begun
begun_kept hosting begun kept none = absurd (some_dir (is_some hosting.dir) kept none)

-- a host whose state is not saved is as it was
pub unsaved : (host : HostState) → IsSaved host host
unsaved host = record { shape = λ tenant. refl; trusted = λ trusted. trusted; shows = λ trusted. refl }

pub new_host : (hosting : Hosting) (begun first : HostState) → Trusted begun → world_of begun ≡ empty → AreGiven hosting.tenants.items begun first → IsHostOf hosting first
new_host hosting begun first trusted shows given = record { begun = begun; added = first; right = begun_new hosting begun trusted shows; given = given; unkept = λ none. refl; saved = unsaved first }

pub kept_host : (hosting : Hosting) (begun added first : HostState) → is_some hosting.dir ≡ true → AreGiven hosting.tenants.items begun added → IsSaved added first → IsHostOf hosting first
kept_host hosting begun added first kept given saved = record { begun = begun; added = added; right = begun_kept hosting begun kept; given = given; unkept = λ none. absurd (some_dir (is_some hosting.dir) kept none); saved = saved }

-- where no tenants are given, the host is as it was
pub none_given : (hosting : Hosting) (begun : HostState) → is_some hosting.dir ≡ true → hosting.tenants.items ≡ [] → IsHostOf hosting begun
none_given hosting begun kept none = kept_host hosting begun begun begun kept given (unsaved begun)
  where
    given : AreGiven hosting.tenants.items begun begun
    given = subst (λ grants. AreGiven grants begun begun) (sym none) (no_grants begun)

-- saved twice is saved
pub saved_again : (old between new : HostState) → IsSaved old between → IsSaved between new → IsSaved old new
saved_again old between new first then = record {
  shape = λ tenant. then.shape tenant ∙ first.shape tenant;
  trusted = λ trusted. then.trusted (first.trusted trusted);
  shows = λ trusted. then.shows (first.trusted trusted) ∙ first.shows trusted;
}

-- and a host that a folder keeps is that host still
pub saved_host : (hosting : Hosting) (old new : HostState) → IsKeptHostOf hosting old → IsSaved old new → IsHostOf hosting new
saved_host hosting old new host saved = record {
  begun = host.of.begun;
  added = host.of.added;
  right = host.of.right;
  given = host.of.given;
  unkept = λ none. absurd (some_dir (is_some hosting.dir) host.kept none);
  saved = saved_again host.of.added old new host.of.saved saved;
}

pub ungiven_new : (hosting : Hosting) (begun : HostState) (fault : Fault) → Trusted begun → world_of begun ≡ empty → AreUngiven (world_of begun) hosting.tenants.items fault → IsUnhosted hosting fault
ungiven_new hosting begun fault trusted shows why = Ungiven begun (begun_new hosting begun trusted shows) why

pub ungiven_kept : (hosting : Hosting) (begun : HostState) (fault : Fault) → is_some hosting.dir ≡ true → AreUngiven (world_of begun) hosting.tenants.items fault → IsUnhosted hosting fault
ungiven_kept hosting begun fault kept why = Ungiven begun (begun_kept hosting begun kept) why

pub untouched : (input after : Option (List ℕ)) → IsUntouched input input after after
untouched input after = record { unread = Keeps-refl input; unwritten = Keeps-refl after }

-- what holds in any case holds where all went well
pub on_ok_always : {A E : Type 0} {P : Type 0} (r : Result A E) → P → OnOk r P
on_ok_always (Ok a) holds = holds
on_ok_always (Err e) holds = tt

-- what follows from each fault follows where there is one
pub if_err_more : {A E : Type 0} {P Q : E → Type 0} (r : Result A E) → ((e : E) → P e → Q e) → IfErr r P → IfErr r Q
if_err_more (Ok a) more why = tt
if_err_more (Err e) more why = more e why

-- connections were served up to a fault of the socket
pub deaf : {A : Type 0} (hosting : Hosting) (at_once : Option ℕ) (first last : HostState) (n : ℕ) (r : Result A Fault) → IsHostOf hosting first → OnErr r (AreSomeServed at_once first last n) → IfErr r IsUnbound → IfErr r (IsUnlistened hosting at_once n)
deaf hosting at_once first last n (Ok a) host visits cause = tt
deaf hosting at_once first last n (Err fault) host visits cause = Deaf first last host visits cause

-- what holds of each fault, by two accounts of it
pub if_err_both : {A E : Type 0} {P Q : E → Type 0} (R : E → Type 0) (r : Result A E) → ((e : E) → P e → Q e → R e) → IfErr r P → IfErr r Q → IfErr r R
if_err_both R (Ok a) both one other = tt
if_err_both R (Err e) both one other = both e one other

-- serving over a folder ended by a fault of the socket, or of what keeps the host
pub deaf_or_lost : (hosting : Hosting) (at_once : Option ℕ) (first last : HostState) (n : ℕ) (fault : Fault) → is_some hosting.dir ≡ true → IsHostOf hosting first → AreSomeServed at_once first last n → IsUnbound fault ⊎ IsLost fault → IsUnlistened hosting at_once n fault
deaf_or_lost hosting at_once first last n fault kept host visits (inl cause) = Deaf first last host visits cause
deaf_or_lost hosting at_once first last n fault kept host visits (inr lost) = Lost kept first last host visits lost
