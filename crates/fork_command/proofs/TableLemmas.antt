-- The table is a simple command to `clap`, so its meaning of the words is exact.
use Rattle.std.proofs.Common.{◌≡◌, ◌∙◌, inl, inr, sym, ap, subst, Bool, true, refl, [], Option, List}
use Rattle.clap.specs.Words.{App, HasKind, Kinds, Row, Text, fault_of, is_simple, is_simple_and_free, kind_of, subcommand_of, takes}
use Rattle.clap.specs.declared.error.Error.{Error}
use Rattle.clap.specs.declared.error.kind.ErrorKind.TheVariants.{OutOfMemory}
use Rattle.fork_command.specs.declared.error.CommandError.{CommandError}
use Rattle.fork_command.specs.declared.error.CommandError.TheVariants.{Help, Usage, BadTenant, Memory}
use Rattle.fork_command.specs.Command.{IsBadType, IsFaulty, IsRefused}
use Rattle.fork_command.specs.Table.{table_app}

pub table_simple : is_simple table_app ≡ true
unfolding table_app
table_simple = refl

pub table_free : is_simple_and_free table_app ≡ true
unfolding table_app
table_free = refl

pub simple_as_table : (a : App) → a ≡ table_app → is_simple a ≡ true
simple_as_table a same = ap is_simple same ∙ table_simple

pub free_as_table : (a : App) → a ≡ table_app → is_simple_and_free a ≡ true
free_as_table a same = ap is_simple_and_free same ∙ table_free

pub kind_as_table : (a : App) (texts : List Text) (error : Error) → a ≡ table_app → HasKind (fault_of a texts) error → HasKind (fault_of table_app texts) error
kind_as_table a texts error same known = subst (λ (b : App). HasKind (fault_of b texts) error) same known

pub passes_as_table : (a : App) (texts : List Text) (error : Error) → a ≡ table_app → (takes a texts ≡ true → kind_of error ≡ OutOfMemory) → takes table_app texts ≡ true → kind_of error ≡ OutOfMemory
passes_as_table a texts error same passes taken = passes (ap (λ (b : App). takes b texts) same ∙ taken)

pub none_as_table : (a : App) (texts : List Text) → a ≡ table_app → fault_of a texts ≡ [] → fault_of table_app texts ≡ []
none_as_table a texts same none = ap (λ (b : App). fault_of b texts) (sym same) ∙ none

pub met_as_table : (a : App) (texts : List Text) (met : Option (Text × List Row)) → a ≡ table_app → met ≡ subcommand_of a texts → met ≡ subcommand_of table_app texts
met_as_table a texts met same is = is ∙ ap (λ (b : App). subcommand_of b texts) same

-- what is refused if clap finds no fault
pub refused_as_table : (faults : Kinds) (met real : Option (Text × List Row)) (error : CommandError) → faults ≡ [] → met ≡ real → IsRefused [] met error → IsRefused faults real error
refused_as_table faults met real error none is refused =
    subst (λ (f : Kinds). IsRefused f real error) (sym none) (subst (λ (m : Option (Text × List Row)). IsRefused [] m error) is refused)

-- if clap finds no fault, an error of its own reports a bad TYPE
pub refused_faulty : (taken : Bool) (met real : Option (Text × List Row)) (why : CommandError) → met ≡ real → IsRefused [] met why → IsFaulty taken real why
refused_faulty taken met real (Help error) is refused = absurd refused.1
refused_faulty taken met real (Usage error) is refused = elim refused.1 [ inl none ↦ absurd none | inr bad ↦ inr (subst IsBadType is bad.1) ]
refused_faulty taken met real (BadTenant word) is refused = tt
refused_faulty taken met real Memory is refused = tt
