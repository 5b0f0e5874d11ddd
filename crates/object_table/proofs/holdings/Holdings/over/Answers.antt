use Rattle.std.proofs.Common.{◌∙◌, ap}
use Rattle.std.specs.FinMap.{get}
use Rattle.std.specs.Map.{keys_of}
use Rattle.git_name.specs.Same.{is_listed}
use Rattle.object_table.specs.Rows.{places_of}
use Rattle.object_table.proofs.ChangeLemmas.{no_ledgers, nothing_held}
use Rattle.object_table.proofs.HeldLemmas.{names_next}
use Rattle.object_table.proofs.LinkLemmas.{nothing_led, nothing_linked}
use Rattle.object_table.proofs.PlaceLemmas.{listed_next}
use Rattle.object_table.proofs.holdings.Holdings.over.Goals as goal

pub invariant_of-holdings : goal.invariant_of-holdings
invariant_of-holdings c = (nothing_held c.new.result.entries c.new-2.result c.new.ensures.entries c.new-2.ensures, nothing_linked c.new.result.entries c.new-3.result c.new-3.ensures)

pub loop-name-init : goal.loop-name-init
loop-name-init c = record {
  listed = λ q. ap (λ es. is_listed (keys_of es) q) c.new.ensures.entries;
  names = λ distinct. ap keys_of c.new.ensures.entries;
  ledgers = no_ledgers c.new.result.entries c.new-2.result c.new-2.ensures;
  place = c.new.ensures.place;
  links = λ q. nothing_led c.new.result.entries c.new-3.result q c.new.ensures.entries;
}

pub loop-name-preserved : goal.loop-name-preserved
loop-name-preserved c = record {
  listed = λ q. listed_next c.args.names.now c.loop-name.name-index c.name-item.result q (is_listed (places_of c.loop-name.holdings.catalogue).names q) (is_listed (places_of c.enter.new.self.catalogue).names q)
      c.loop-name-test.true c.name-item.is (c.loop-name.invariant.listed q) (c.in_ok-enter.ensures.listed q);
  names = λ distinct. names_next c.args.names.now c.loop-name.name-index c.name-item.result (places_of c.loop-name.holdings.catalogue) (places_of c.enter.new.self.catalogue) c.loop-name-test.true c.name-item.is distinct
      (c.loop-name.invariant.names distinct) c.enter.ensures.grows (c.in_ok-enter.ensures.listed c.name-item.result);
  ledgers = c.enter.ensures.ledgers ∙ c.loop-name.invariant.ledgers;
  place = c.enter.ensures.grows.place ∙ c.loop-name.invariant.place;
  links = λ q. ap (λ m. get m q) c.enter.ensures.links ∙ c.loop-name.invariant.links q;
}
