use Rattle.std.proofs.Common.{rules, ◌≡◌, [], ◌∷◌, ◌++◌, ap, map, refl, subst, sym, true, ◌∙◌}
use Rattle.std.specs.Prelude.{Contains}
use Rattle.std.proofs.lemmas.List.Elements.{All-nil, Contains-append_left}
use Rattle.git_name.specs.Object.{object_name}
use Rattle.git_name.specs.Same.{is_listed}
use Rattle.looks.proofs.GrowthLemmas.{grows_none}
use Rattle.object_table.specs.Rows.{places_of}
use Rattle.object_table.specs.AllStaged.{AreListed}
use Rattle.object_table.specs.Told.{entry_of}
use Rattle.object_table.specs.declared.entry.Entry.{Entry}
use Rattle.fork_ledger.specs.AllStaged.{StoresAmong}
use Rattle.fork_ledger.proofs.ReceivedLemmas.{among_front, grows_on, kept_more, listed_more, meets_among, receives_more, receives_none, regroup, told_more}
use Rattle.fork_ledger.proofs.receiving.receive_all.Goals as goal

pub loop-sealed-init : goal.loop-sealed-init
loop-sealed-init g c = (
  [],
  record {
    order = search rules;
    ledgers = refl;
    links = refl;
    listed = All-nil (λ (entry : Entry). is_listed (places_of c.args.holdings.now.catalogue).names entry.name ≡ true);
    grows = grows_none (map object_name c.args.objects.items) (places_of c.args.holdings.now.catalogue);
    receives = λ h. receives_none c.args.files.now.contents (places_of c.args.holdings.now.catalogue);
    honest = refl;
    failures = refl;
    kept = λ object is. search rules;
  },
)

pub returns-in-Err-clause-collision : goal.returns-in-Err-clause-collision
returns-in-Err-clause-collision g c = λ h is.
    let front = c.loop-sealed.invariant.0 in
    let before = c.loop-sealed.invariant.1 in
    let left : c.loop-sealed.sealed-iterator.rest.items ≡ c.in-Some.sealed ∷ c.next.new.self.rest.items = search rules in
    meets_among c.args.objects.items front c.in-Some.sealed c.next.new.self.rest.items c.args.files.now.contents c.loop-sealed.files.contents
    (before.order ∙ ap (λ xs. front ++ xs) left) (before.receives h).among (c.in-Err.ensures.collision (before.honest ∙ h) is)

pub returns-in-Err-clause-still : goal.returns-in-Err-clause-still
returns-in-Err-clause-still g c = λ h is.
    let front = c.loop-sealed.invariant.0 in
    let before = c.loop-sealed.invariant.1 in
    let first = c.args.files.now.contents in
    among_front c.args.objects.items front c.loop-sealed.sealed-iterator.rest.items first c.receive.new.files.contents before.order
    (subst (λ files. StoresAmong front first files) (sym (c.in-Err.ensures.still (before.honest ∙ h) is)) (before.receives h).among)

pub returns-in-Err-clause-grows : goal.returns-in-Err-clause-grows
returns-in-Err-clause-grows g c =
    let front = c.loop-sealed.invariant.0 in
    let before = c.loop-sealed.invariant.1 in
    let left : c.loop-sealed.sealed-iterator.rest.items ≡ c.in-Some.sealed ∷ c.next.new.self.rest.items = search rules in
    grows_on c.args.objects.items front c.in-Some.sealed c.next.new.self.rest.items (places_of c.args.holdings.now.catalogue) (places_of c.loop-sealed.holdings.catalogue) (places_of c.receive.new.holdings.catalogue)
    (before.order ∙ ap (λ xs. front ++ xs) left) before.grows c.receive.ensures.grows

pub loop-sealed-preserved : goal.loop-sealed-preserved
loop-sealed-preserved g c =
    let front = c.loop-sealed.invariant.0 in
    let before = c.loop-sealed.invariant.1 in
    let object = c.in-Some.sealed in
    let left : c.loop-sealed.sealed-iterator.rest.items ≡ object ∷ c.next.new.self.rest.items = search rules in
    let first = c.args.files.now in
    let mid = c.loop-sealed.files in
    let new = c.receive.new.files in
    let start = places_of c.args.holdings.now.catalogue in
    let old = places_of c.loop-sealed.holdings.catalogue in
    let last = places_of c.receive.new.holdings.catalogue in
    let told = c.in-Ok.ensures in (
      front ++ object ∷ [],
      record {
        order = before.order ∙ ap (λ xs. front ++ xs) left ∙ sym (regroup front object c.next.new.self.rest.items);
        ledgers = told.ledgers ∙ before.ledgers;
        links = told.links ∙ before.links;
        listed = subst (AreListed last) (sym (told_more front object)) (listed_more (map entry_of front) (entry_of object) old last told.listed before.listed);
        grows = grows_on c.args.objects.items front object c.next.new.self.rest.items start old last (before.order ∙ ap (λ xs. front ++ xs) left) before.grows told.grows;
        receives = λ h.
            let was = before.honest ∙ h in
            receives_more front object first.contents mid.contents new.contents start old last (before.receives h) (told.whole was) (told.stands was) (told.alone was) (told.covers was) (told.exact was);
        honest = told.honest ∙ before.honest;
        failures = told.cause ∙ before.failures;
        kept = λ other is. kept_more c.loop-sealed.kept.items front object c.in-Ok.back other (before.kept other) told.back (c.keep.ensures other is);
      },
    )

pub returns-clause-back : goal.returns-clause-back
returns-clause-back g c =
    let front = c.loop-sealed.invariant.0 in
    let before = c.loop-sealed.invariant.1 in
    λ object is. subst (λ xs. Contains xs object) (sym before.order) (Contains-append_left front c.loop-sealed.sealed-iterator.rest.items object (before.kept object is))
