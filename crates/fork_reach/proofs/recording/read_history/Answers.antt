use Rattle.std.proofs.Common.{◌≡◌, ◌+◌, ◌++◌, ◌≤◌, ◌∷◌, [], IsTrue, None, Some, drop, length, length-append, map, rules, slice_get, subst, sym, take, arith, refl, ◌∙◌, ap, false}
use Rattle.std.specs.HashSet.{contains}
use Rattle.std.specs.FinMap.{contains_key}
use Rattle.std.proofs.lemmas.Bool.{and_parts}
use Rattle.std.proofs.lemmas.List.{map-append}
use Rattle.std.proofs.lemmas.Option.{slice_get_within}
use Rattle.git_name.specs.Same.{is_listed, same_name}
use Rattle.fork_reach.specs.Hidden.{without}
use Rattle.fork_reach.specs.History.{note_at}
use Rattle.fork_reach.specs.Objects.{measures_of}
use Rattle.fork_reach.specs.Queuing.{Queues}
use Rattle.fork_reach.specs.Reach.{is_reached, parent_names}
use Rattle.fork_reach.proofs.AskedLemmas.{asked_again, not_asked}
use Rattle.fork_reach.proofs.HiddenLemmas.{measured_without, there_without}
use Rattle.fork_reach.proofs.HistoryLemmas.{note_parents, noted_queued, notes_end}
use Rattle.fork_reach.proofs.NameLemmas.{empty_holds_none}
use Rattle.fork_reach.proofs.QueueLemmas.{front_more, none_left, read_at, rest_more, sees_behind}
use Rattle.fork_reach.proofs.ReachLemmas.{reached_alike}
use Rattle.fork_reach.proofs.WalkLemmas.{Walks, walks_begin, walks_end, walks_first}
use Rattle.fork_reach.proofs.recording.read_history.Goals as goal

pub queued-init : goal.queued-init
queued-init g c =
    let old = g.S.Source.state c.args.source.now in
    let there = without (measures_of old.objects) (contains same_name c.args.hidden.now) in
    let none = c.with_hasher-names.result.keys in
    let queue = c.queue_open.new.names.keys in
    let came = c.in-Ok.ensures.came in
    let empty = c.new-notes.ensures.items in
    let waits : drop (length c.new-notes.result.items) queue ≡ came = ap (λ notes. drop (length notes) queue) empty ∙ c.in-Ok.ensures.behind ∙ ap (λ names. names ++ came) c.with_hasher-names.ensures.empty in
    record {
      asked = not_asked old;
      walks = subst (λ rest. Walks (parent_names old.objects) there c.args.commits.now old.honest (is_listed queue) rest) (sym waits)
          (walks_begin (parent_names old.objects) there (λ _. false) c.args.commits.now old.honest (is_listed none) [] (is_listed queue) came (λ honest from is. absurd (cc)) (empty_holds_none none c.with_hasher-names.ensures.empty) refl c.in-Ok.ensures.sees);
      within = subst (λ notes. length notes ≤ length queue) (sym empty) (omega arith);
      noted = λ honest. subst (λ notes. notes ≡ map (note_at old.objects) (take (length notes) queue)) (sym empty) refl;
    }

pub queued-preserved : goal.queued-preserved
queued-preserved g c =
    let old = g.S.Source.state c.args.source.now in
    let mid = g.S.Source.state c.queued.source in
    let next = parent_names old.objects in
    let hides = contains same_name c.args.hidden.now in
    let there = without (measures_of old.objects) hides in
    let before = c.queued.invariant in
    let told = c.in_ok-noted.ensures in
    let asked = asked_again old mid (g.S.Source.state c.noted.new.source) None before.asked told.asked in
    let queue = c.queued.names.keys in
    let notes = c.queued.notes.items in
    let at = length notes in
    let name = c.in-Some.name in
    let note = c.in_ok-noted.noted in
    let names = c.parents.result.now in
    let now = c.queue_open-in-Some.new.names.keys in
    let pushed = c.push.new.self.items in
    let place : c.len.result ≡ at = search rules in
    let found : slice_get queue at ≡ Some name = ap (slice_get queue) (sym place) ∙ sym c.get_index.ensures.key ∙ sym c.copied.ensures ∙ c.in-Some.is in
    let inside = slice_get_within queue at name found in
    let rest = drop (at + 1) queue in
    let queued = subst (λ measures. Queues (without measures hides) names queue now) asked.measures c.in-Ok-queue_open.ensures in
    let longer : length pushed ≡ at + 1 = ap length c.in-Ok-push.ensures.items ∙ length-append notes (note ∷ []) in
    let waits : drop (length pushed) now ≡ rest ++ queued.came = ap (λ n. drop n now) longer ∙ ap (drop (at + 1)) queued.behind ∙ rest_more queue queued.came at name found in
    let right = (λ (honest : IsTrue old.honest). told.noted (subst IsTrue (sym before.asked.honest) honest) ∙ ap (λ all. note_at all name) (before.asked.objects honest)) in
    record {
      asked = asked;
      walks = subst (λ left. Walks next there c.args.commits.now old.honest (is_listed now) left) (sym waits)
          (walks_first next there (λ _. false) c.args.commits.now old.honest (is_listed queue) name rest names (is_listed now) (rest ++ queued.came) (λ honest from is. absurd (cc))
          (subst (λ left. Walks next there c.args.commits.now old.honest (is_listed queue) left) (read_at queue at name found) before.walks)
          (λ honest. c.parents.ensures ∙ ap (λ n. n.parents) (right honest) ∙ note_parents old.objects name)
          (sees_behind there (λ _. false) names (is_listed queue) (is_listed now) rest queued.came queued.sees));
      within = (let grown : length now ≡ length queue + length queued.came = ap length queued.behind ∙ length-append queue queued.came in omega arith);
      noted = λ honest.
          c.in-Ok-push.ensures.items ∙ ap (λ ns. ns ++ note ∷ []) (before.noted honest) ∙ ap (λ n. map (note_at old.objects) (take at queue) ++ n ∷ []) (right honest)
          ∙ sym (map-append (note_at old.objects) (take at queue) (name ∷ []))
          ∙ ap (map (note_at old.objects)) (sym (ap (λ n. take n now) longer ∙ ap (take (at + 1)) queued.behind ∙ front_more queue queued.came at name found));
    }

pub returns-clause-found : goal.returns-clause-found
returns-clause-found g c = λ honest.
    let old = g.S.Source.state c.args.source.now in
    let next = parent_names old.objects in
    let hides = contains same_name c.args.hidden.now in
    let there = without (measures_of old.objects) hides in
    let before = c.queued.invariant in
    let queue = c.queued.names.keys in
    let notes = c.queued.notes.items in
    let at = length notes in
    let place : c.len.result ≡ at = search rules in
    let past : slice_get queue at ≡ None = ap (slice_get queue) (sym place) ∙ sym c.get_index.ensures.key ∙ sym c.copied.ensures ∙ c.in_default-copied.is in
    let ended = none_left queue at past in
    c.of.ensures
    ∙ notes_end old.objects queue notes (is_reached next (without old.objects hides) c.args.commits.now) (before.noted honest ∙ ap (map (note_at old.objects)) ended.1)
    (λ name. walks_end next there c.args.commits.now old.honest (is_listed queue) (drop at queue) ended.0 before.walks honest name
    ∙ reached_alike next there (without old.objects hides) c.args.commits.now (measured_without old.objects hides) name)
    (λ name is. (and_parts (contains_key old.objects name) _ (sym (there_without old.objects hides name) ∙ sym (measured_without old.objects hides name) ∙ before.walks.there name is)).0)

pub returns-clause-seen : goal.returns-clause-seen
returns-clause-seen g c = λ name noted.
    let old = g.S.Source.state c.args.source.now in
    let hides = contains same_name c.args.hidden.now in
    let queue = c.queued.names.keys in
    let stands = noted_queued queue c.queued.notes.items name (ap (λ notes. contains_key notes name) (sym c.of.ensures) ∙ noted) in
    (and_parts (contains_key old.objects name) _ (sym (there_without old.objects hides name) ∙ sym (measured_without old.objects hides name) ∙ c.queued.invariant.walks.there name stands)).0
