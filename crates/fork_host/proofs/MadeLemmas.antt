-- Offers as they are kept, as they are shown, and as a state describes them.
use Rattle.std.proofs.Common.{◌≡◌, ℕ, Bool, true, false, cond, List, [], ◌∷◌, ◌++◌, Option, None, Some, refl, sym, ap, ◌∙◌, is_some, length, map, suc, codes, nat_le, not, ◌&&◌, ◌<◌, ◌≤◌, le-leb}
use Rattle.std.proofs.lemmas.Bool.{lt-leb}
use Rattle.std.specs.Option.{option_map}
use Rattle.std.specs.Ordering.{eq_by_cmp}
use Rattle.std.specs.List.{flat_map}
use Rattle.std.specs.FinMap.{contains_key, empty, entries, get, get-remove, insert, keys, len, len-entries, remove, same_entries_map, same_map, values}
use Rattle.git_name.specs.Maps.{mapped}
use Rattle.git_name.specs.Same.{same_name}
use Rattle.git_name.proofs.MapLemmas.{entries_map_values, get_map_values, map_values_empty, map_values_insert}
use Rattle.git_reftx.specs.Repository.{Repository}
use Rattle.fork_reach.specs.Source.{Objects}
use Rattle.fork_ledger.specs.Private.{Private}
use Rattle.fork_request.specs.declared.name.TheConstants.{MAX_TENANT_NAME}
use Rattle.fork_request.specs.declared.refusal.Refusal.TheVariants.{BadName, NoOffer, OfferExists, TooMany}
use Rattle.fork_request.specs.declared.reply.Reply.{Reply}
use Rattle.fork_request.specs.declared.reply.Reply.TheVariants.{Done, Refused}
use Rattle.fork_request.specs.Names.{is_plain_name}
use Rattle.fork_model.specs.declared.limits.TheConstants.{MAX_OFFERS}
use Rattle.fork_model.specs.Answer.{named_receiver, offer_added, offer_row, offer_rows, offers_answer, targets_made, withdrawn}
use Rattle.fork_model.specs.Context.{Context}
use Rattle.fork_model.specs.Offer.{Offer, Offers, Pair, offered, pair_cmp}
use Rattle.fork_model.specs.Sound.{IsReach, IsRight}
use Rattle.fork_model.specs.View.{View}
use Rattle.fork_model.proofs.EntryLemmas.{pair_exact, pair_total}
use Rattle.state_text.specs.Kept.{offer_kept}
use Rattle.state_text.specs.Offer as text
use Rattle.fork_host.specs.Made.{Made, entry_of, made_of, made_shown, offer_told, targets_kept}
use Rattle.fork_host.specs.Rows.{Gives, Given, plain}
use Rattle.fork_host.specs.Shown.{Account, seen_by}

-- ---- what is shown, and its repositories
abbrev repository_of : Offer → Repository
repository_of offer = offer.repository

pub get_made : (offers : Offers) (pair : Pair) → get (made_of offers) pair ≡ option_map repository_of (get offers pair)
get_made offers pair = get_map_values pair_total repository_of offers pair

pub get_shown : (objects : Objects) (made : Made) (pair : Pair) → get (made_shown objects made) pair ≡ option_map (offered objects) (get made pair)
get_shown objects made pair = get_map_values pair_total (offered objects) made pair

-- offers that are shown have the repositories that are kept
pub made_again : (objects : Objects) (made : Made) → made_of (made_shown objects made) ≡ made
made_again objects made = same_map pair_total pair_exact _ _ (λ pair. get_made (made_shown objects made) pair ∙ ap (option_map repository_of) (get_shown objects made pair) ∙ again (get made pair))
  where
    again : (o : Option Repository) → option_map repository_of (option_map (offered objects) o) ≡ o
    again None = refl
    again (Some repository) = refl

-- so they are the same, whichever objects are seen
pub same_made : (made : Made) (objects others : Objects) → made_of (made_shown others made) ≡ made_of (made_shown objects made)
same_made made objects others = made_again others made ∙ sym (made_again objects made)

pub none_shown : (objects : Objects) → made_shown objects empty ≡ empty
none_shown objects = map_values_empty pair_total pair_exact (offered objects)

-- if none are shown, none are kept, and so none are shown whatever is seen
pub none_made : (objects others : Objects) (made : Made) → made_shown objects made ≡ empty → made_shown others made ≡ empty
none_made objects others made none =
    ap (made_shown others) (sym (made_again objects made) ∙ ap made_of none ∙ map_values_empty pair_total pair_exact repository_of) ∙ none_shown others

same_length : {K X Y : Type 0} (f : X → Y) (es : List (K × X)) → length (mapped f es) ≡ length es
same_length f [] = refl
same_length f (e ∷ es) = ap (λ n. suc n) (same_length f es)

-- as many offers as repositories
pub len_made : (offers : Offers) → len (made_of offers) ≡ len offers
len_made offers = len-entries (made_of offers) ∙ ap length (entries_map_values repository_of offers) ∙ same_length repository_of (entries offers) ∙ sym (len-entries offers)

pub len_shown : (objects : Objects) (made : Made) → len (made_shown objects made) ≡ len made
len_shown objects made = len-entries (made_shown objects made) ∙ ap length (entries_map_values (offered objects) made) ∙ same_length (offered objects) (entries made) ∙ sym (len-entries made)

-- an offer that is shown is of a repository that is kept
pub shown_kept : (objects : Objects) (made : Made) (pair : Pair) (offer : Offer) → get (made_shown objects made) pair ≡ Some offer → (repository : Repository) × (get made pair ≡ Some repository) × (offered objects repository ≡ offer)
shown_kept objects made pair offer is = by (get made pair) refl (sym (get_shown objects made pair) ∙ is)
  where
    by : (o : Option Repository) → get made pair ≡ o → option_map (offered objects) o ≡ Some offer → (repository : Repository) × (get made pair ≡ Some repository) × (offered objects repository ≡ offer)
    by None found same = absurd (cc)
    by (Some repository) found same = (repository, found, (let one : offered objects repository ≡ offer = cc in one))

-- and one that is kept is shown
pub kept_shown : (objects : Objects) (made : Made) (pair : Pair) (repository : Repository) → get made pair ≡ Some repository → get (made_shown objects made) pair ≡ Some (offered objects repository)
kept_shown objects made pair repository is = get_shown objects made pair ∙ ap (option_map (offered objects)) is

-- one more offer, and one less
pub shown_insert : (objects : Objects) (made : Made) (pair : Pair) (repository : Repository) → made_shown objects (insert made pair repository) ≡ insert (made_shown objects made) pair (offered objects repository)
shown_insert objects made pair repository = map_values_insert pair_total pair_exact (offered objects) made pair repository

pub shown_remove : (objects : Objects) (made : Made) (pair : Pair) → made_shown objects (remove made pair) ≡ remove (made_shown objects made) pair
shown_remove objects made pair = same_map pair_total pair_exact _ _ (λ key.
    get_shown objects (remove made pair) key ∙ ap (option_map (offered objects)) (get-remove pair_total made pair key) ∙ none_at (eq_by_cmp pair_cmp key pair) (get made key)
    ∙ ap (cond (eq_by_cmp pair_cmp key pair) None) (sym (get_shown objects made key)) ∙ sym (get-remove pair_total (made_shown objects made) pair key))
  where
    none_at : (b : Bool) (o : Option Repository) → option_map (offered objects) (cond b None o) ≡ cond b None (option_map (offered objects) o)
    none_at true o = refl
    none_at false o = refl

same_keys : {K X Y : Type 0} (f : X → Y) (es : List (K × X)) → map (λ e. e.0) (mapped f es) ≡ map (λ e. e.0) es
same_keys f [] = refl
same_keys f (e ∷ es) = ap (λ ks. e.0 ∷ ks) (same_keys f es)

-- the same pairs are keys of both
pub keys_shown : (objects : Objects) (made : Made) → keys (made_shown objects made) ≡ keys made
keys_shown objects made = ap (map (λ e. e.0)) (entries_map_values (offered objects) made) ∙ same_keys (offered objects) (entries made)

pub known_shown : (objects : Objects) (made : Made) (pair : Pair) → contains_key (made_shown objects made) pair ≡ contains_key made pair
known_shown objects made pair = ap is_some (get_shown objects made pair) ∙ by (get made pair)
  where
    by : (o : Option Repository) → is_some (option_map (offered objects) o) ≡ is_some o
    by None = refl
    by (Some repository) = refl

-- an offer among others of the same repositories
pub found_made : (offers others : Offers) (pair : Pair) (offer : Offer) → made_of others ≡ made_of offers → get others pair ≡ Some offer → (was : Offer) × (get offers pair ≡ Some was) × (was.repository ≡ offer.repository)
found_made offers others pair offer same is =
    by (get offers pair) refl (sym (get_made offers pair) ∙ ap (λ (m : Made). get m pair) (sym same) ∙ get_made others pair ∙ ap (option_map repository_of) is)
  where
    by : (o : Option Offer) → get offers pair ≡ o → option_map repository_of o ≡ Some offer.repository → (was : Offer) × (get offers pair ≡ Some was) × (was.repository ≡ offer.repository)
    by None found repository = absurd (cc)
    by (Some was) found repository = (was, found, (let one : was.repository ≡ offer.repository = cc in one))

there_of : (o : Option Offer) → is_some (option_map repository_of o) ≡ is_some o
there_of None = refl
there_of (Some offer) = refl

-- if the repositories are the same, offers have the same pairs as keys
pub still_made : (offers others : Offers) (pair : Pair) → made_of others ≡ made_of offers → contains_key others pair ≡ contains_key offers pair
still_made offers others pair same =
    sym (there_of (get others pair)) ∙ ap is_some (sym (get_made others pair)) ∙ ap (λ (m : Made). contains_key m pair) same ∙ ap is_some (get_made offers pair) ∙ there_of (get offers pair)

values_mapped : {K X Y : Type 0} (f : X → Y) (es : List (K × X)) → map (λ e. e.1) (mapped f es) ≡ map f (map (λ e. e.1) es)
values_mapped f [] = refl
values_mapped f (e ∷ es) = ap (λ ys. f e.1 ∷ ys) (values_mapped f es)

flat_mapped : {X Y Z : Type 0} (f : X → Y) (g : Y → List Z) (xs : List X) → flat_map g (map f xs) ≡ flat_map (λ x. g (f x)) xs
flat_mapped f g [] = refl
flat_mapped f g (x ∷ xs) = ap (λ zs. g (f x) ++ zs) (flat_mapped f g xs)

-- the targets of the references of offers
pub targets_shown : (objects : Objects) (made : Made) → targets_made (made_shown objects made) ≡ targets_kept made
targets_shown objects made =
    ap (λ es. flat_map (λ (offer : Offer). values offer.repository.references) (map (λ e. e.1) es)) (entries_map_values (offered objects) made)
    ∙ ap (flat_map (λ (offer : Offer). values offer.repository.references)) (values_mapped (offered objects) (entries made))
    ∙ flat_mapped (offered objects) (λ (offer : Offer). values offer.repository.references) (values made)

kept_mapped : (objects : Objects) (es : List (Pair × Repository)) → map offer_kept (mapped (offered objects) es) ≡ map offer_told es
kept_mapped objects [] = refl
kept_mapped objects (e ∷ es) = ap (λ os. offer_told e ∷ os) (kept_mapped objects es)

-- a state's list of offers that are shown
pub told_shown : (objects : Objects) (made : Made) → map offer_kept (entries (made_shown objects made)) ≡ map offer_told (entries made)
told_shown objects made = ap (map offer_kept) (entries_map_values (offered objects) made) ∙ kept_mapped objects (entries made)

-- and of the offers that were gathered from a state: these offers
pub told_again : (offers : List text.Offer) → map offer_told (map entry_of offers) ≡ offers
told_again [] = refl
told_again (offer ∷ offers) = ap (λ os. offer ∷ os) (told_again offers)

-- ---- rows about offers
-- a reply and a view that are those of the row
pub given_as : (row : Reply × View) (old : View) (reply : Reply) (new : View) → row ≡ (reply, new) → Gives row old reply new
given_as row old reply new is = Given (ap (λ r. r.0) (sym is)) (ap (λ r. r.1) (sym is))

-- the result of adding an offer if there is none of it yet and there is room
abbrev offer_put_in : Account → Private → Pair → Repository → Reply × View
offer_put_in account own pair repository = (Done [], record (seen_by account own) { made = insert (made_shown own.visible account.made) pair (offered own.visible repository) })

abbrev offer_beside : Account → Private → Pair → Repository → Reply × View
offer_beside account own pair repository = cond (nat_le MAX_OFFERS (len (made_shown own.visible account.made))) (Refused TooMany, seen_by account own) (offer_put_in account own pair repository)

-- an existing offer is not made again
pub offer_stands : (account : Account) (own : Private) (pair : Pair) (repository : Repository) → contains_key account.made pair ≡ true
    → offer_added (seen_by account own) pair repository ≡ (Refused (OfferExists pair.0 pair.1), seen_by account own)
offer_stands account own pair repository there =
    ap (λ b. cond {A = Reply × View} b (Refused (OfferExists pair.0 pair.1), seen_by account own) (offer_beside account own pair repository)) (known_shown own.visible account.made pair ∙ there)

-- nor one more than a tenant may have
pub offers_full : (account : Account) (own : Private) (pair : Pair) (repository : Repository) → contains_key account.made pair ≡ false → MAX_OFFERS ≤ len account.made
    → offer_added (seen_by account own) pair repository ≡ (Refused TooMany, seen_by account own)
offers_full account own pair repository none full =
    ap (λ b. cond {A = Reply × View} b (Refused (OfferExists pair.0 pair.1), seen_by account own) (offer_beside account own pair repository)) (known_shown own.visible account.made pair ∙ none)
    ∙ ap (λ b. cond {A = Reply × View} b (Refused TooMany, seen_by account own) (offer_put_in account own pair repository)) (ap (nat_le MAX_OFFERS) (len_shown own.visible account.made) ∙ le-leb MAX_OFFERS (len account.made) full)

pub offer_made : (account : Account) (own : Private) (pair : Pair) (repository : Repository) → contains_key account.made pair ≡ false → len account.made < MAX_OFFERS
    → offer_added (seen_by account own) pair repository ≡ (Done [], seen_by (record account { made = insert account.made pair repository }) own)
offer_made account own pair repository none room =
    ap (λ b. cond {A = Reply × View} b (Refused (OfferExists pair.0 pair.1), seen_by account own) (offer_beside account own pair repository)) (known_shown own.visible account.made pair ∙ none)
    ∙ ap (λ b. cond {A = Reply × View} b (Refused TooMany, seen_by account own) (offer_put_in account own pair repository)) (ap (nat_le MAX_OFFERS) (len_shown own.visible account.made) ∙ lt-leb MAX_OFFERS (len account.made) room)
    ∙ ap (λ (offers : Offers). (Done [], record (seen_by account own) { made = offers })) (sym (shown_insert own.visible account.made pair repository))

-- a receiver's word that names another tenant
pub receiver_is : (context : Context) (view : View) (word : List ℕ) (row : Reply × View) → (is_plain_name MAX_TENANT_NAME word && not (same_name word context.own)) ≡ true → named_receiver context view word row ≡ row
receiver_is context view word row is = ap (λ b. cond b row (Refused (BadName word), view)) is

-- an offer that does not exist cannot be withdrawn
pub no_such_offer : (account : Account) (own : Private) (pair : Pair) → contains_key account.made pair ≡ false → withdrawn (seen_by account own) pair ≡ (Refused (NoOffer pair.0 pair.1), seen_by account own)
no_such_offer account own pair none =
    ap (λ b. cond {A = Reply × View} b (Done [], record (seen_by account own) { made = remove (made_shown own.visible account.made) pair }) (Refused (NoOffer pair.0 pair.1), seen_by account own)) (known_shown own.visible account.made pair ∙ none)

pub offer_gone : (account : Account) (own : Private) (pair : Pair) → contains_key account.made pair ≡ true → withdrawn (seen_by account own) pair ≡ (Done [], seen_by (record account { made = remove account.made pair }) own)
offer_gone account own pair there =
    ap (λ b. cond {A = Reply × View} b (Done [], record (seen_by account own) { made = remove (made_shown own.visible account.made) pair }) (Refused (NoOffer pair.0 pair.1), seen_by account own)) (known_shown own.visible account.made pair ∙ there)
    ∙ ap (λ (offers : Offers). (Done [], record (seen_by account own) { made = offers })) (sym (shown_remove own.visible account.made pair))

-- the list of offers
pub offers_told : (context : Context) (account : Account) (own : Private) (text : List ℕ) → text ≡ offer_rows (codes "from ") context.offered ++ flat_map (offer_row (codes "to ")) (keys account.made)
    → Gives (offers_answer context (seen_by account own)) (seen_by account own) (Done text) (seen_by account own)
unfolding offers_answer
offers_told context account own text is =
    Given (ap Done (is ∙ ap (λ pairs. offer_rows (codes "from ") context.offered ++ flat_map (offer_row (codes "to ")) pairs) (sym (keys_shown own.visible account.made)))) refl

-- ---- views by their plain parts
-- each offer holds what its references reach among what is seen
abbrev pub IsShown : View → Type 0
IsShown view = made_shown view.objects (made_of view.made) ≡ view.made

pub shown_itself : (account : Account) (own : Private) → IsShown (seen_by account own)
shown_itself account own = ap (made_shown own.visible) (made_again own.visible account.made)

pub shown_reach : (objects : Objects) (offers : Offers) → ((pair : Pair) (offer : Offer) → get offers pair ≡ Some offer → IsReach objects offer) → made_shown objects (made_of offers) ≡ offers
shown_reach objects offers reach =
    same_map pair_total pair_exact _ _ (λ pair. get_shown objects (made_of offers) pair ∙ ap (option_map (offered objects)) (get_made offers pair) ∙ by pair (get offers pair) refl)
  where
    by : (pair : Pair) (o : Option Offer) → get offers pair ≡ o → option_map (offered objects) (option_map repository_of o) ≡ o
    by pair None is = refl
    by pair (Some offer) is = ap Some (λ i. record { repository = offer.repository; objects = sym (reach pair offer is).objects i })

pub shown_right : (view : View) → IsRight view → IsShown view
shown_right view right = shown_reach view.objects view.made right.offered

entries_kept : (es : List (Pair × Offer)) → mapped repository_of es ≡ map entry_of (map offer_kept es)
entries_kept [] = refl
entries_kept (e ∷ es) = ap (λ rows. (e.0, e.1.repository) ∷ rows) (entries_kept es)

-- offers with the same list in a state have the same repositories
pub same_told : (offers others : Offers) → map offer_kept (entries offers) ≡ map offer_kept (entries others) → made_of offers ≡ made_of others
same_told offers others told =
    same_entries_map (made_of offers) (made_of others)
    (entries_map_values repository_of offers ∙ entries_kept (entries offers) ∙ ap (map entry_of) told ∙ sym (entries_kept (entries others)) ∙ sym (entries_map_values repository_of others))

-- such views are equal if their plain parts are
pub same_plain : (a b : View) → IsShown a → IsShown b → plain a ≡ plain b → a ≡ b
same_plain a b of_a of_b same =
    let made : a.made ≡ b.made = sym of_a ∙ (λ i. made_shown (same i).0.objects (same i).1) ∙ of_b in
    λ i. record (same i).0 { made = made i }

-- a view has the plain part of another one if the rest agrees
pub plain_as : (rest now : View) → now.upload ≡ rest.upload → made_of now.made ≡ made_of rest.made → plain now ≡ plain (record now { made = rest.made; upload = rest.upload })
plain_as rest now upload made = λ i. (record now { made = empty; upload = upload i }, made i)
