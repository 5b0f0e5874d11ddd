-- What a walk along known links reaches is what links of the objects reach, where the store is honest.
use Rattle.std.proofs.Common.{◌≡◌, ◌⊎◌, inl, inr, ◌&&◌, not, Bool, true, false, cond, List, [], ◌∷◌, ℕ, ◌+◌, ◌-◌, Option, None, Some, Result, Ok, Err, is_some, map, nat_eq, refl, sym, ap, subst, ◌∙◌, arith}
use Rattle.std.specs.Prelude.{Contains, IfOk, IfSome}
use Rattle.std.specs.Option.{option_and_then, option_map, option_map_or}
use Rattle.std.specs.FinMap.{contains_key, get}
use Rattle.git_name.specs.declared.kind.Kind.{Kind}
use Rattle.git_name.specs.declared.kind.Kind.TheVariants.{Blob, Tree, Commit, Tag}
use Rattle.git_name.specs.Object.{Object}
use Rattle.git_name.proofs.Names.{name_exact, name_total}
use Rattle.git_object.specs.declared.link.Link.{Link}
use Rattle.git_object.specs.Links.{commit_link}
use Rattle.git_object.specs.Object.{CommitOf}
use Rattle.git_object.specs.ObjectIn.{links_in, links_or_none, object_in}
use Rattle.git_commit.specs.Commit.{CommitValue}
use Rattle.git_commit.specs.CommitIn.{commit_in}
use Rattle.fork_reach.specs.ParentNames.{parents_in, parents_or_none}
use Rattle.fork_reach.specs.History.{note_at, note_of_found, seconds_in, seconds_or_zero, time_in, time_or_zero}
use Rattle.fork_reach.specs.Reach.{IsReached, Root, Next, is_between, is_reached, links_of_found, parents_of_found}
use Rattle.number_links.specs.Facts.{Learned, goes_from, nothing, parents_from, time_beside, told}
use Rattle.number_links.specs.declared.along.Along.{Along}
use Rattle.number_links.specs.declared.along.Along.TheVariants.{Links, Parents}
use Rattle.fork_reach.specs.Source.{Objects}
use Rattle.fork_reach.proofs.ReachLemmas.{led_to_reached, reached_led_to}
use Rattle.loose_store.specs.Files.{Files}
use Rattle.loose_store.specs.Stored.{Whole}
use Rattle.object_table.specs.declared.word.Word.{Word}
use Rattle.object_table.specs.Ledgers.{AllWords, ledger_at, word_at}
use Rattle.object_table.specs.Links.{NamedLinks, leads_nowhere, next_along}
use Rattle.object_table.specs.Walked.{IsBetween, IsLedTo, IsMet}
use Rattle.object_table.specs.Words.{Words, is_visible, kept_as, words_that}
use Rattle.object_table.proofs.ChosenLemmas.{get_chosen}
use Rattle.fork_ledger.specs.Led.{AreLed, LeadsTo, learned_of}
use Rattle.fork_ledger.specs.Shown.{object_at, tenants_of}
use Rattle.fork_ledger.specs.Store.{IsStored}
use Rattle.fork_ledger.specs.Tenants.{private_of}
use Rattle.fork_ledger.proofs.StoreLemmas.{one_whole}
use Rattle.fork_ledger.proofs.ToldLemmas.{seen_there, seen_whole}
use Rattle.fork_ledger.proofs.ShownLemmas.{kind_at, seen_at, shown_at}

-- what a tenant sees, in words and in objects
abbrev pub Seen : AllWords → List ℕ → Words
Seen m t = words_that is_visible (ledger_at m t)

abbrev pub Shown : Files → AllWords → List ℕ → Objects
Shown files m t = (private_of (tenants_of files m) t).visible

get_seen : (m : AllWords) (t q : List ℕ) → get (Seen m t) q ≡ option_and_then (λ word. kept_as (is_visible word) word) (word_at m t q)
get_seen m t q = get_chosen name_total name_exact (λ _ word. kept_as (is_visible word) word) (ledger_at m t) q

kept_there : (o : Option Word) → is_some (option_and_then (λ word. kept_as (is_visible word) word) o) ≡ option_map_or is_visible o false
kept_there None = refl
kept_there (Some word) = by (is_visible word)
  where
    by : (b : Bool) → is_some (kept_as b word) ≡ b
    by true = refl
    by false = refl

pub seen_word : (m : AllWords) (t q : List ℕ) → contains_key (Seen m t) q ≡ option_map_or is_visible (word_at m t q) false
seen_word m t q = ap is_some (get_seen m t q) ∙ kept_there (word_at m t q)

-- both have the same names
pub same_keys : (files : Files) (m : AllWords) (t q : List ℕ) → contains_key (Seen m t) q ≡ contains_key (Shown files m t) q
same_keys files m t q = seen_word m t q ∙ sym (seen_there files m t q)

-- a word that is seen, with its object
seen_both : (files : Files) (m : AllWords) (t q : List ℕ) → contains_key (Seen m t) q ≡ true → (word : Word) × (get (Seen m t) q ≡ Some word) × (get (Shown files m t) q ≡ Some (object_at files q word))
seen_both files m t q there = by (word_at m t q) refl (sym (seen_word m t q) ∙ there)
  where
    by : (o : Option Word) → word_at m t q ≡ o → option_map_or is_visible o false ≡ true → (word : Word) × (get (Seen m t) q ≡ Some word) × (get (Shown files m t) q ≡ Some (object_at files q word))
    by None none shows = (let differs : ⊥ = cc in absurd differs)
    by (Some word) is shows = (
      word,
      get_seen m t q ∙ ap (option_and_then (λ word. kept_as (is_visible word) word)) is ∙ ap (λ b. kept_as b word) shows,
      seen_at files m t q ∙ ap (shown_at is_visible files q) is ∙ ap (λ b. cond b (Some (object_at files q word)) None) shows,
    )

leaf_is : (kind : Kind) → leads_nowhere kind ≡ true → kind ≡ Blob
leaf_is Blob is = refl
leaf_is Tree is = absurd (let differs : ⊥ = cc in differs)
leaf_is Commit is = absurd (let differs : ⊥ = cc in differs)
leaf_is Tag is = absurd (let differs : ⊥ = cc in differs)

no_links : (bytes : List ℕ) → links_in Blob bytes ≡ []
unfolding links_in object_in
no_links bytes = refl

leaf_links : (object : Object) → leads_nowhere object.kind ≡ true → map (λ link. link.name) (links_in object.kind object.bytes) ≡ []
leaf_links object is = ap (λ kind. map (λ link. link.name) (links_in kind object.bytes)) (leaf_is object.kind is) ∙ ap (map (λ link. link.name)) (no_links object.bytes)

-- ---- what a walk goes on to from an object, by its links and its time
-- the names of what an object leads to, or of its parents
abbrev pub names_from : Along → Option Object → List (List ℕ)
names_from Links found = map (λ link. link.name) (links_of_found found)
names_from Parents found = parents_of_found found

abbrev pub names_along : Along → Objects → List ℕ → List (List ℕ)
names_along along objects name = names_from along (get objects name)

without_time : {A : Type 0} (links : List A) → parents_from links 0 ≡ []
without_time [] = refl
without_time (to ∷ more) = refl

beside_none : {A : Type 0} (links : List A) → time_beside links 0 ≡ 0
beside_none [] = refl
beside_none (to ∷ more) = refl

names_of_links : (names : List (List ℕ)) → map (λ (link : Link). link.name) (map commit_link names) ≡ names
names_of_links [] = refl
names_of_links (name ∷ names) = ap (λ rest. name ∷ rest) (names_of_links names)

beside_same : {A : Type 0} (links : List A) (time : ℕ) → parents_from links (time_beside links time) ≡ parents_from links time
beside_same [] time = refl
beside_same (to ∷ more) time = refl

-- all links of a commit but the first are its parents
parents_told : (kind : Kind) (bytes : List ℕ) → parents_from (map (λ link. link.name) (links_in kind bytes)) (time_in kind bytes) ≡ parents_in kind bytes
unfolding links_in object_in
parents_told Blob bytes = refl
parents_told Tree bytes = without_time (map (λ link. link.name) (links_in Tree bytes))
parents_told Tag bytes = without_time (map (λ link. link.name) (links_in Tag bytes))
parents_told Commit bytes = by (commit_in bytes)
  where
    by : (o : Option CommitValue) → parents_from (map (λ (link : Link). link.name) (links_or_none (option_map (λ commit. CommitOf commit) o))) (time_or_zero o) ≡ parents_or_none o
    by None = refl
    by (Some commit) =
        (let apart : nat_eq (commit.committer.seconds + 1) 0 ≡ false = search arith in
        ap (λ b. cond b [] (map (λ (link : Link). link.name) (map commit_link commit.parents))) apart ∙ names_of_links commit.parents)

-- and the time tells its seconds
seconds_told : (kind : Kind) (bytes : List ℕ) → time_beside (map (λ link. link.name) (links_in kind bytes)) (time_in kind bytes) - 1 ≡ seconds_in kind bytes
unfolding links_in object_in
seconds_told Blob bytes = refl
seconds_told Tree bytes = ap (λ n. n - 1) (beside_none (map (λ link. link.name) (links_in Tree bytes)))
seconds_told Tag bytes = ap (λ n. n - 1) (beside_none (map (λ link. link.name) (links_in Tag bytes)))
seconds_told Commit bytes = by (commit_in bytes)
  where
    by : (o : Option CommitValue) → time_beside (map (λ (link : Link). link.name) (links_or_none (option_map (λ commit. CommitOf commit) o))) (time_or_zero o) - 1 ≡ seconds_or_zero o
    by None = refl
    by (Some commit) = (let one : commit.committer.seconds + 1 - 1 ≡ commit.committer.seconds = omega arith in one)

goes_told : (along : Along) (object : Object) → goes_from along (learned_of object).links (learned_of object).time ≡ names_from along (Some object)
goes_told Links object = refl
goes_told Parents object = beside_same (map (λ link. link.name) (links_in object.kind object.bytes)) (time_in object.kind object.bytes) ∙ parents_told object.kind object.bytes

-- from a blob to nothing
leaf_goes : (along : Along) (object : Object) → leads_nowhere object.kind ≡ true → names_from along (Some object) ≡ []
leaf_goes Links object is = leaf_links object is
leaf_goes Parents object is = ap (λ kind. parents_in kind object.bytes) (leaf_is object.kind is)

nothing_goes : (along : Along) → [] ≡ goes_from {A = List ℕ} along [] 0
nothing_goes Links = refl
nothing_goes Parents = refl

-- who has a time is known
pub timed : (o : Option (Learned (List ℕ))) (time : ℕ) → Some time ≡ option_map (λ (one : Learned (List ℕ)). one.time) o → (one : Learned (List ℕ)) × (o ≡ Some one) × (one.time ≡ time)
timed None time is = absurd (let wrong : ⊥ = cc in wrong)
timed (Some one) time is = (one, refl, (let same : one.time ≡ time = cc in same))

-- there is nothing to know of it
leaf_learned : (object : Object) → leads_nowhere object.kind ≡ true → learned_of object ≡ nothing
leaf_learned object is = ap (λ links. told links (time_in object.kind object.bytes)) (leaf_links object is)

module _ (files : Files) (m : AllWords) (t : List ℕ) (links : NamedLinks) (along : Along) where
  abbrev pub next : List ℕ → List (List ℕ)
  next = next_along along links

  abbrev pub words : Words
  words = Seen m t

  abbrev pub objects : Objects
  objects = Shown files m t

  abbrev pub Rests : List ℕ → Type 0
  Rests q = (option_map_or (λ (word : Word). leads_nowhere word.kind) (get words q) false ≡ true) ⊎ (contains_key links q ≡ true)

  -- ---- over any store
  no_roots : (q : List ℕ) → IsReached next words [] q → ⊥
  no_roots _ (Root q root there) = (let l = root.1 in absurd (omega (arith, l)))
  no_roots _ (Next from q before leads there) = no_roots from before

  pub word_there : (roots : List (List ℕ)) (q : List ℕ) → IsReached next words roots q → contains_key words q ≡ true
  word_there roots _ (Root q root there) = there
  word_there roots _ (Next from q before leads there) = there

  pub between_there : (wanted excluded : List (List ℕ)) (q : List ℕ) → IsBetween words next wanted excluded q → contains_key objects q ≡ true
  between_there wanted excluded q is = sym (same_keys files m t q) ∙ word_there wanted q is.led

  pub between_root : (wanted excluded : List (List ℕ)) (q : List ℕ) → excluded ≡ [] → Contains wanted q → contains_key objects q ≡ true → IsBetween words next wanted excluded q
  between_root wanted excluded q none among there = record {
    led = Root q among (same_keys files m t q ∙ there);
    left = λ out. no_roots q (subst (λ roots. IsReached next words roots q) none out);
  }

  -- ---- over an honest one
  module _ (stored : IsStored (tenants_of files m) files) (led : AreLed links files) where
    pub same_next : (q : List ℕ) → contains_key words q ≡ true → Rests q → next q ≡ names_along along objects q
    same_next q there rests = by (get links q) refl rests ∙ sym (ap (names_from along) both.2)
      where
        both : (word : Word) × (get words q ≡ Some word) × (get objects q ≡ Some (object_at files q word))
        both = seen_both files m t q there

        by : (o : Option (Learned (List ℕ))) → get links q ≡ o → (option_map_or (λ (word : Word). leads_nowhere word.kind) (get words q) false ≡ true) ⊎ (is_some o ≡ true)
            → option_map_or (λ (one : Learned (List ℕ)). goes_from along one.links one.time) o [] ≡ names_from along (Some (object_at files q both.0))
        by (Some one) is known =
            (let stands = led.each q one is in
            let whole = seen_whole files m t q stored (sym (seen_word m t q) ∙ there) in
            let same : Some whole.0 ≡ Some (object_at files q both.0) = sym whole.1 ∙ both.2 in
            let it : whole.0 ≡ object_at files q both.0 = cc in
            ap (λ (l : Learned (List ℕ)). goes_from along l.links l.time) (sym stands.2) ∙ goes_told along stands.0
            ∙ ap (λ (o : Object). names_from along (Some o)) (one_whole files q stands.0 whole.0 stands.1 whole.2 ∙ it))
        by None is (inr some) = absurd (let wrong : ⊥ = cc in wrong)
        by None is (inl rest) =
            sym (leaf_goes along (object_at files q both.0) (ap leads_nowhere (kind_at files q both.0) ∙ sym (ap (λ o. option_map_or (λ (word : Word). leads_nowhere word.kind) o false) both.1) ∙ rest))

    -- the time that is known of a name tells its seconds
    pub seconds_is : (q : List ℕ) (one : Learned (List ℕ)) → contains_key words q ≡ true → get links q ≡ Some one → one.time - 1 ≡ (note_at objects q).seconds
    seconds_is q one there is =
        let both = seen_both files m t q there in
        let stands = led.each q one is in
        let whole = seen_whole files m t q stored (sym (seen_word m t q) ∙ there) in
        let same : Some whole.0 ≡ Some (object_at files q both.0) = sym whole.1 ∙ both.2 in
        let it : whole.0 ≡ object_at files q both.0 = cc in
        ap (λ (l : Learned (List ℕ)). l.time - 1) (sym stands.2) ∙ seconds_told stands.0.kind stands.0.bytes
        ∙ ap (λ (o : Object). seconds_in o.kind o.bytes) (one_whole files q stands.0 whole.0 stands.1 whole.2 ∙ it) ∙ sym (ap (λ o. (note_of_found o).seconds) both.2)

    pub forth : (roots : List (List ℕ)) → ((q : List ℕ) → IsLedTo words next roots q → Rests q) → (q : List ℕ) → IsLedTo words next roots q → IsReached (names_along along objects) objects roots q
    forth roots known _ (Root q root there) = Root q root (sym (same_keys files m t q) ∙ there)
    forth roots known _ (Next from q before leads there) =
        Next from q (forth roots known from before) (subst (λ ns. Contains ns q) (same_next from (word_there roots from before) (known from before)) leads) (sym (same_keys files m t q) ∙ there)

    pub back : (roots : List (List ℕ)) → ((q : List ℕ) → IsLedTo words next roots q → Rests q) → (q : List ℕ) → IsReached (names_along along objects) objects roots q → IsLedTo words next roots q
    back roots known _ (Root q root there) = Root q root (same_keys files m t q ∙ there)
    back roots known _ (Next from q before leads there) =
        (let earlier = back roots known from before in
        Next from q earlier (subst (λ ns. Contains ns q) (sym (same_next from (word_there roots from earlier) (known from earlier))) leads) (same_keys files m t q ∙ there))

    -- what some names reach, along known links or along links of the objects
    pub reached_is : (roots : List (List ℕ)) → ((q : List ℕ) → IsLedTo words next roots q → Rests q) → (q : List ℕ) (b : Bool) → (b ≡ true → IsLedTo words next roots q) → (IsLedTo words next roots q → b ≡ true)
        → b ≡ is_reached (names_along along objects) objects roots q
    reached_is roots known q b only all = by (is_reached (names_along along objects) objects roots q) refl b refl
      where
        clash : {G : Type 0} (x : Bool) → x ≡ true → x ≡ false → G
        clash x one other = (let differs : true ≡ false = sym one ∙ other in absurd (let wrong : ⊥ = cc in wrong))

        by : (w : Bool) → is_reached (names_along along objects) objects roots q ≡ w → (c : Bool) → b ≡ c → c ≡ w
        by true w true is = refl
        by true w false is = clash b (all (back roots known q (reached_led_to (names_along along objects) objects roots q w))) is
        by false w true is = clash (is_reached (names_along along objects) objects roots q) (led_to_reached (names_along along objects) objects roots q (forth roots known q (only is))) w
        by false w false is = refl

    pub between_is : (wanted excluded : List (List ℕ)) → ((q : List ℕ) → IsMet words next wanted excluded q → Rests q)
        → (q : List ℕ) (b : Bool) → (b ≡ true → IsBetween words next wanted excluded q) → (IsBetween words next wanted excluded q → b ≡ true) → b ≡ is_between (names_along along objects) objects wanted excluded q
    between_is wanted excluded known q b only all = by (is_reached (names_along along objects) objects wanted q) refl (is_reached (names_along along objects) objects excluded q) refl b refl
      where
        wanted_forth : IsLedTo words next wanted q → is_reached (names_along along objects) objects wanted q ≡ true
        wanted_forth is = led_to_reached (names_along along objects) objects wanted q (forth wanted (λ p is. known p (inl is)) q is)

        excluded_forth : IsLedTo words next excluded q → is_reached (names_along along objects) objects excluded q ≡ true
        excluded_forth is = led_to_reached (names_along along objects) objects excluded q (forth excluded (λ p is. known p (inr is)) q is)

        wanted_back : is_reached (names_along along objects) objects wanted q ≡ true → IsLedTo words next wanted q
        wanted_back is = back wanted (λ p is. known p (inl is)) q (reached_led_to (names_along along objects) objects wanted q is)

        excluded_back : is_reached (names_along along objects) objects excluded q ≡ true → IsLedTo words next excluded q
        excluded_back is = back excluded (λ p is. known p (inr is)) q (reached_led_to (names_along along objects) objects excluded q is)

        clash : {G : Type 0} (x : Bool) → x ≡ true → x ≡ false → G
        clash x one other = (let differs : true ≡ false = sym one ∙ other in absurd (let wrong : ⊥ = cc in wrong))

        by : (w : Bool) → is_reached (names_along along objects) objects wanted q ≡ w → (e : Bool) → is_reached (names_along along objects) objects excluded q ≡ e → (c : Bool) → b ≡ c → c ≡ w && not e
        by true w true e true is = absurd ((only is).left (excluded_back e))
        by true w true e false is = refl
        by true w false e true is = refl
        by true w false e false is = clash b (all (record { led = wanted_back w; left = λ out. clash (is_reached (names_along along objects) objects excluded q) (excluded_forth out) e })) is
        by false w e out true is = clash (is_reached (names_along along objects) objects wanted q) (wanted_forth (only is).led) w
        by false w e out false is = refl

    -- ---- a name of a kind that leads nowhere is known to lead to nothing
    some_tested : (o : Option Word) → option_map_or (λ (word : Word). leads_nowhere word.kind) o false ≡ true → is_some o ≡ true
    some_tested None is = (let differs : ⊥ = cc in absurd differs)
    some_tested (Some word) is = refl

    rested_leads : (q : List ℕ) → option_map_or (λ (word : Word). leads_nowhere word.kind) (get words q) false ≡ true → LeadsTo files q nothing
    rested_leads q rests =
        let there : contains_key words q ≡ true = some_tested (get words q) rests in
        let both = seen_both files m t q there in
        let whole = seen_whole files m t q stored (sym (seen_word m t q) ∙ there) in
        let same : Some whole.0 ≡ Some (object_at files q both.0) = sym whole.1 ∙ both.2 in
        let one : whole.0 ≡ object_at files q both.0 = cc in (
          object_at files q both.0,
          subst (Whole files q) one whole.2,
          leaf_learned (object_at files q both.0) (ap leads_nowhere (kind_at files q both.0) ∙ sym (ap (λ o. option_map_or (λ (word : Word). leads_nowhere word.kind) o false) both.1) ∙ rests),
        )

    pub led_rested : (now : NamedLinks)
        → ((q : List ℕ) (to : Learned (List ℕ)) → get now q ≡ Some to → (get links q ≡ Some to) ⊎ ((to ≡ nothing) × (option_map_or (λ (word : Word). leads_nowhere word.kind) (get words q) false ≡ true))) → AreLed now files
    led_rested now only = record {
      each = λ q to is. elim (only q to is) [
        | inl before ↦ led.each q to before
        | inr rests ↦ subst (LeadsTo files q) (sym rests.0) (rested_leads q rests.1)
      ];
    }

-- facts of a result, name by name
pub told_each : {F E : Type 0} (P Q R S : F → Type 0) (r : Result (Option F) E) → ((x : F) → P x → Q x → R x → S x) → IfOk r (λ o. IfSome o P) → IfOk r (λ o. IfSome o Q) → IfOk r (λ o. IfSome o R) → IfOk r (λ o. IfSome o S)
told_each P Q R S (Ok None) f p q r = p
told_each P Q R S (Ok (Some x)) f p q r = f x p q r
told_each P Q R S (Err e) f p q r = p
