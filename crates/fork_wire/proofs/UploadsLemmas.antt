-- All uploads of a world open again.
use Rattle.std.proofs.Common.{◌≡◌, ◌∙◌, Bool, true, false, cond, ap, refl, subst, sym, ℕ, ◌≤◌, List, [], ◌∷◌, ◌++◌, Option, Some, None, map}
use Rattle.std.specs.Prelude.{flat_map, is_some, ◌||◌}
use Rattle.std.specs.List.{AllByRecursion, list_any}
use Rattle.std.specs.List.Sorted.{IsStrictlySortedBy}
use Rattle.std.specs.FinMap.{contains_key, contains_key-keys, entries, find, get, get-entries, get-insert, insert, keys, same_map}
use Rattle.std.specs.Option.{option_and_then, option_map}
use Rattle.std.specs.Ordering.{eq_by_cmp}
use Rattle.std.specs.Cmp.{eq_by_cmp_equiv}
use Rattle.std.specs.declared.cmp.Ordering.TheVariants.{Less}
use Rattle.std.proofs.lemmas.List.{map-append}
use Rattle.std.proofs.lemmas.List.Concat.{flat_map-cons}
use Rattle.git_name.specs.Name.{name_cmp}
use Rattle.git_name.proofs.MapLemmas.{get_map_values}
use Rattle.git_name.proofs.Names.{name_exact, name_total}
use Rattle.git_reftx.proofs.PushLemmas.{keys_ascend}
use Rattle.push_stream.specs.Upload.{UploadValue, upload_of}
use Rattle.push_stream.specs.declared.upload_limit.TheConstants.{MAX_UPLOAD}
use Rattle.fork_request.specs.Told.{is_host_fault}
use Rattle.fork_request.specs.declared.reply.Reply.{Reply}
use Rattle.fork_model.specs.Sound.{IsOrderlyWorld}
use Rattle.fork_model.specs.View.{View}
use Rattle.fork_model.specs.World.{AreFine, Explains, World}
use Rattle.fork_model.proofs.ClosedLemmas.{joined}
use Rattle.fork_model.specs.Answer.{without_upload}
use Rattle.fork_reach.proofs.KeptObjects.{tied_names}
use Rattle.fork_host.specs.Shown.{HostState, Trusted, world_of}
use Rattle.fork_host.specs.Uploads.{without_uploads, opened, upload_at, uploads_of}
use Rattle.fork_frame.specs.declared.frame.Frame.{Frame}
use Rattle.fork_wire.specs.Reopening.{Reopens, with_upload}
use Rattle.fork_wire.specs.Sessions.{IsAnswered, event_of, events_of}
use Rattle.fork_wire.proofs.AgainLemmas.{explained_of, run_joined, same_world_run}
use Rattle.fork_wire.proofs.OpeningLemmas.{opened_again}

-- whether this is one of these names
abbrev is_left : List (List ℕ) → List ℕ → Bool
is_left names q = list_any (eq_by_cmp name_cmp q) names

-- on the way to a world: the views of these tenants have their uploads still closed, and all others are its own
abbrev IsOnTheWay : World → List (List ℕ) → World → Type 0
IsOnTheWay world names now = (q : List ℕ) → get now q ≡ cond (is_left names q) (option_map without_upload (get world q)) (get world q)

abbrev names_of : List (List ℕ × View) → List (List ℕ)
names_of es = map (λ e. e.0) es

-- the name at the front is none of those behind it
front_apart : (t : List ℕ) (names : List (List ℕ)) → AllByRecursion (λ k. name_cmp t k ≡ Less) names → is_left names t ≡ false
front_apart t [] above = refl
front_apart t (k ∷ names) above = rw above.0 (front_apart t names above.1)

none_is : {X : Type 0} (o : Option X) → is_some o ≡ false → o ≡ None
none_is None is = refl
none_is (Some x) is = absurd (cc)

-- at first all are closed, and at last none is
way_begins : (world : World) → IsOnTheWay world (keys world) (without_uploads world)
way_begins world = λ q. get_map_values name_total without_upload world q ∙ by q (is_left (keys world) q) (contains_key-keys world q)
  where
    by : (q : List ℕ) (b : Bool) → contains_key world q ≡ b → option_map without_upload (get world q) ≡ cond b (option_map without_upload (get world q)) (get world q)
    by q true there = refl
    by q false absent = (let none = none_is (get world q) absent in ap (option_map without_upload) none ∙ sym none)

way_ends : (world now : World) → IsOnTheWay world [] now → world ≡ now
way_ends world now way = same_map name_total name_exact world now (λ q. sym (way q))

-- the first of those that are closed
first_closed : (world now : World) (t : List ℕ) (view : View) (names : List (List ℕ)) → get world t ≡ Some view → IsOnTheWay world (t ∷ names) now → get now t ≡ Some (without_upload view)
first_closed world now t view names here way =
    way t ∙ ap (λ b. cond (b || is_left names t) (option_map without_upload (get world t)) (get world t)) ((eq_by_cmp_equiv name_total).refl t) ∙ ap (option_map without_upload) here

-- one that has no open upload is its own already
way_still : (world now : World) (t : List ℕ) (view : View) (names : List (List ℕ)) → get world t ≡ Some view → without_upload view ≡ view → AllByRecursion (λ k. name_cmp t k ≡ Less) names → IsOnTheWay world (t ∷ names) now → IsOnTheWay world names now
way_still world now t view names here same above way = λ q. way q ∙ by q (eq_by_cmp name_cmp q t) refl
  where
    itself : option_map without_upload (get world t) ≡ cond (is_left names t) (option_map without_upload (get world t)) (get world t)
    itself = ap (option_map without_upload) here ∙ ap Some same ∙ sym here ∙ ap (λ b. cond b (option_map without_upload (get world t)) (get world t)) (sym (front_apart t names above))

    by : (q : List ℕ) (b : Bool) → eq_by_cmp name_cmp q t ≡ b → cond (b || is_left names q) (option_map without_upload (get world q)) (get world q) ≡ cond (is_left names q) (option_map without_upload (get world q)) (get world q)
    by q true tied = subst (λ k. option_map without_upload (get world k) ≡ cond (is_left names k) (option_map without_upload (get world k)) (get world k)) (sym (tied_names q t tied)) itself
    by q false apart = refl

-- and one whose upload was opened is its own then
way_more : (world now : World) (t : List ℕ) (view : View) (names : List (List ℕ)) → get world t ≡ Some view → AllByRecursion (λ k. name_cmp t k ≡ Less) names → IsOnTheWay world (t ∷ names) now → IsOnTheWay world names (insert now t view)
way_more world now t view names here above way = λ q. get-insert name_total now t view q ∙ by q (eq_by_cmp name_cmp q t) refl
  where
    itself : Some view ≡ cond (is_left names t) (option_map without_upload (get world t)) (get world t)
    itself = sym here ∙ ap (λ b. cond b (option_map without_upload (get world t)) (get world t)) (sym (front_apart t names above))

    by : (q : List ℕ) (b : Bool) → eq_by_cmp name_cmp q t ≡ b → cond b (Some view) (get now q) ≡ cond (is_left names q) (option_map without_upload (get world q)) (get world q)
    by q true tied = subst (λ k. Some view ≡ cond (is_left names k) (option_map without_upload (get world k)) (get world k)) (sym (tied_names q t tied)) itself
    by q false apart = way q ∙ ap (λ b. cond (b || is_left names q) (option_map without_upload (get world q)) (get world q)) apart

-- frames that are served without a host fault
pub record IsServedFine (old : World) (frames : List Frame) (new : World) : Type 0 where
  pub replies : List Reply
  pub run : Explains old (events_of frames) replies new
  pub fine : AreFine replies

served_none : (old new : World) (frames : List Frame) → frames ≡ [] → new ≡ old → IsServedFine old frames new
served_none old new frames none same = record {
  replies = [];
  run = subst (λ (fs : List Frame). Explains old (events_of fs) [] new) (sym none) same;
  fine = tt;
}

served_both : (old mid new : World) (frames first others : List Frame) → frames ≡ first ++ others → (replies : List Reply) → Explains old (events_of first) replies mid → AreFine replies → IsServedFine mid others new → IsServedFine old frames new
served_both old mid new frames first others parts replies run fine other = record {
  replies = replies ++ other.replies;
  run = subst (λ fs. Explains old (events_of fs) (replies ++ other.replies) new) (sym parts)
      (subst (λ es. Explains old es (replies ++ other.replies) new) (sym (map-append event_of first others)) (run_joined old mid new (events_of first) (events_of others) replies other.replies run other.run));
  fine = joined (λ reply. is_host_fault reply ≡ false) replies other.replies fine other.fine;
}

-- a view of which no upload is open
closed_still : (view : View) → view.upload ≡ None → without_upload view ≡ view
closed_still view none = λ i. (let is = sym none in record view { upload = is i })

-- and one of which one is, as it was opened
opened_view : (view : View) (upload : UploadValue) (bytes : List ℕ) → view.upload ≡ Some upload → upload_of bytes ≡ upload → with_upload (without_upload view) bytes ≡ view
opened_view view upload bytes open_is stands =
    let is = ap Some stands ∙ sym open_is in
    λ i. record view { upload = is i }

-- the next tenant has no open upload, or its upload is opened first; those behind it are opened then
one_more : (world now : World) (t : List ℕ) (view : View) (names : List (List ℕ)) (uploads : List (List ℕ × UploadValue)) (frames : List Frame) (o : Option UploadValue) → view.upload ≡ o → get world t ≡ Some view
    → ((upload : UploadValue) → view.upload ≡ Some upload → upload.count ≤ MAX_UPLOAD) → AllByRecursion (λ k. name_cmp t k ≡ Less) names → IsOnTheWay world (t ∷ names) now → Reopens (opened t o ++ uploads) frames
    → ((mid : World) (others : List Frame) → IsOnTheWay world names mid → Reopens uploads others → IsServedFine mid others world) → IsServedFine now frames world
one_more world now t view names uploads frames None none here few above way opens rest = rest now frames (way_still world now t view names here (closed_still view none) above way) opens
one_more world now t view names uploads frames (Some upload) open_is here few above way (first, others, parts, one, more) rest =
    let fits = subst (λ (u : UploadValue). u.count ≤ MAX_UPLOAD) (sym one.stands) (few upload open_is) in
    let done = opened_again now t one.bytes (without_upload view) first (first_closed world now t view names here way) refl fits one.parts in
    let mid = insert now t view in
    served_both now mid world frames first others parts done.0 (subst (λ v. Explains now (events_of first) done.0 (insert now t v)) (opened_view view upload one.bytes open_is one.stands) done.1) done.2
    (rest mid others (way_more world now t view names here above way) more)

-- what is found among entries, the world has
abbrev Has : World → List (List ℕ × View) → Type 0
Has world es = (q : List ℕ) (view : View) → find name_cmp q es ≡ Some view → get world q ≡ Some view

found_none : (t : List ℕ) (es : List (List ℕ × View)) → AllByRecursion (λ k. name_cmp t k ≡ Less) (names_of es) → find name_cmp t es ≡ None
found_none t [] above = refl
found_none t (e ∷ es) above = rw above.0 (found_none t es above.1)

has_first : (world : World) (e : List ℕ × View) (es : List (List ℕ × View)) → Has world (e ∷ es) → get world e.0 ≡ Some e.1
has_first world e es has = has e.0 e.1 (ap (λ b. cond b (Some e.1) (find name_cmp e.0 es)) ((eq_by_cmp_equiv name_total).refl e.0))

has_rest : (world : World) (e : List ℕ × View) (es : List (List ℕ × View)) → AllByRecursion (λ k. name_cmp e.0 k ≡ Less) (names_of es) → Has world (e ∷ es) → Has world es
has_rest world e es above has q view found = has q view (by (eq_by_cmp name_cmp q e.0) refl)
  where
    never : find name_cmp q es ≡ None → cond true (Some e.1) (find name_cmp q es) ≡ Some view
    never none = absurd (cc (sym none ∙ found))

    by : (b : Bool) → eq_by_cmp name_cmp q e.0 ≡ b → cond b (Some e.1) (find name_cmp q es) ≡ Some view
    by true tied = never (ap (λ k. find name_cmp k es) (tied_names q e.0 tied) ∙ found_none e.0 es above)
    by false apart = found

opened_along : (world : World) (es : List (List ℕ × View)) (now : World) (frames : List Frame) → IsStrictlySortedBy name_cmp (names_of es) → Has world es
    → ((t : List ℕ) (view : View) (upload : UploadValue) → get world t ≡ Some view → view.upload ≡ Some upload → upload.count ≤ MAX_UPLOAD) → IsOnTheWay world (names_of es) now
    → Reopens (flat_map (λ e. opened e.0 e.1.upload) es) frames → IsServedFine now frames world
unfolding IsStrictlySortedBy
opened_along world [] now frames sorted has few way opens = served_none now world frames opens (way_ends world now way)
opened_along world (e ∷ es) now frames sorted has few way opens =
    (let first = has_first world e es has in one_more world now e.0 e.1 (names_of es) (flat_map (λ x. opened x.0 x.1.upload) es) frames e.1.upload refl first (λ upload is. few e.0 e.1 upload first is) sorted.0 way
    (subst (λ uploads. Reopens uploads frames) (flat_map-cons (λ x. opened x.0 x.1.upload) e es) opens)
    (λ mid others on more. opened_along world es mid others sorted.1 (has_rest world e es sorted.0 has) few on more))

-- all uploads of a world
pub all_opened : (world : World) (frames : List Frame) → IsOrderlyWorld world → Reopens (uploads_of world) frames → (replies : List Reply) × Explains (without_uploads world) (events_of frames) replies world × AreFine replies
all_opened world frames orderly opens =
    let served = opened_along world (entries world) (without_uploads world) frames (keys_ascend world) (λ q view is. get-entries world q ∙ is) (λ t view upload here is. (orderly.views t view here).upload upload is) (way_begins world) opens in
    (served.replies, served.run, served.fine)

-- and whatever serves them without a host fault
pub all_served : (world : World) (frames : List Frame) (old new : HostState) (replies : List Reply) → IsOrderlyWorld world → Reopens (uploads_of world) frames → IsAnswered old new frames replies → AreFine replies → Trusted old
    → world_of old ≡ without_uploads world → world_of new ≡ world
all_served world frames old new replies orderly opens answered fine trusted same =
    let told = all_opened world frames orderly opens in
    same_world_run (world_of old) (world_of new) (without_uploads world) world (events_of frames) replies told.0 same (explained_of old new frames replies answered trusted) told.1 fine told.2

-- the uploads that these tenants have open
abbrev pub uploads_by : World → List (List ℕ) → List (List ℕ × UploadValue)
uploads_by world names = flat_map (λ name. opened name (upload_at world name)) names

one_named : (world : World) (t : List ℕ) (view : View) (o : Option UploadValue) (rest : List (List ℕ × UploadValue)) → view.upload ≡ o → get world t ≡ Some view → uploads_by world (map (λ u. u.0) rest) ≡ rest
    → uploads_by world (map (λ u. u.0) (opened t o ++ rest)) ≡ opened t o ++ rest
one_named world t view None rest is here more = more
one_named world t view (Some upload) rest is here more =
    flat_map-cons (λ name. opened name (upload_at world name)) t (map (λ u. u.0) rest)
    ∙ ap (λ o. opened t o ++ uploads_by world (map (λ u. u.0) rest)) (ap (option_and_then (λ (v : View). v.upload)) here ∙ is)
    ∙ ap (λ uploads. opened t (Some upload) ++ uploads) more

named_along : (world : World) (es : List (List ℕ × View)) → IsStrictlySortedBy name_cmp (names_of es) → Has world es
    → uploads_by world (map (λ u. u.0) (flat_map (λ e. opened e.0 e.1.upload) es)) ≡ flat_map (λ e. opened e.0 e.1.upload) es
unfolding IsStrictlySortedBy
named_along world [] sorted has = refl
named_along world (e ∷ es) sorted has =
    subst (λ (uploads : List (List ℕ × UploadValue)). uploads_by world (map (λ u. u.0) uploads) ≡ uploads) (sym (flat_map-cons (λ x. opened x.0 x.1.upload) e es))
    (one_named world e.0 e.1 e.1.upload (flat_map (λ x. opened x.0 x.1.upload) es) refl (has_first world e es has) (named_along world es sorted.1 (has_rest world e es sorted.0 has)))

-- all uploads of a world are those of their tenants
pub all_named : (world : World) → uploads_by world (map (λ u. u.0) (uploads_of world)) ≡ uploads_of world
all_named world = named_along world (entries world) (keys_ascend world) (λ q view is. get-entries world q ∙ is)
