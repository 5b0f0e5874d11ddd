-- What names, kinds and lengths determine of an answer.
use Rattle.std.proofs.Common.{◌≡◌, ℕ, ◌≤◌, true, IsTrue, List, [], Option, None, Some, refl, sym, ap, subst, ◌∙◌}
use Rattle.std.specs.Option.{option_map}
use Rattle.std.specs.FinMap.{contains_key, get, insert, len, retain_keys}
use Rattle.git_reftx.specs.Repository.{Repository}
use Rattle.git_reftx.specs.Transaction.{References, is_commit}
use Rattle.push_stream.specs.declared.upload_limit.TheConstants.{MAX_UPLOAD}
use Rattle.push_stream.specs.Reading.{Reading}
use Rattle.push_stream.specs.Upload.{UploadValue}
use Rattle.git_reftx.specs.Repository.{IsBranch}
use Rattle.fork_reach.specs.Objects.{Measures, measures_of}
use Rattle.fork_reach.specs.Source.{Objects}
use Rattle.fork_reach.proofs.MeasureLemmas.{same_kinds, same_there, same_use}
use Rattle.fork_push.specs.Verdict as verdict
use Rattle.fork_request.specs.Asked.{Ask}
use Rattle.fork_host.proofs.PruneLemmas.{pruned_done}
use Rattle.fork_request.specs.Told.{is_done}
use Rattle.fork_request.specs.declared.reply.Reply.{Reply}
use Rattle.fork_request.specs.declared.reply.Reply.TheVariants.{Done}
use Rattle.fork_model.specs.Answer.{answer, left_by, roots_of, without_upload}
use Rattle.fork_model.specs.Offer.{Offer, Pair}
use Rattle.fork_model.specs.Sound.{AreReferences, IsOffer, IsOrderly}
use Rattle.fork_model.specs.declared.limits.TheConstants.{MAX_OFFERS}
use Rattle.fork_model.specs.Uploads.{upload_among}
use Rattle.fork_model.specs.Context.{nothing_offered}
use Rattle.fork_model.proofs.AlikeLemmas.{none_taken}
use Rattle.fork_model.specs.View.{View, Repositories}
use Rattle.fork_model.proofs.Rows.{orderly_kept, orderly_pushed, orderly_without}
use Rattle.fork_model.proofs.SoundLemmas.{orderly_answer}
use Rattle.fork_model.proofs.StepLemmas.{left_but_upload, undone}
use Rattle.fork_ledger.specs.Private.{Private}
use Rattle.fork_ledger.specs.Tenants.{private_of, shape_of as vault_shape}
use Rattle.fork_ledger.proofs.BothLemmas.{same_measures}
use Rattle.looks.proofs.GrowthLemmas.{grows_same}
use Rattle.fork_host.specs.declared.own.Own.{Own}
use Rattle.fork_host.specs.Handle.{IsSame, Uses, shown_by}
use Rattle.fork_host.specs.Made.{made_of}
use Rattle.fork_host.specs.Own.{visible_in}
use Rattle.fork_host.specs.Pushed.{view_of}
use Rattle.fork_host.specs.Rows.{Gives, Given, Wanting, IsPruned, Pruned, Unpruned}
use Rattle.fork_host.specs.Safe.{IsSafe}
use Rattle.fork_host.specs.Shape.{view_shape}
use Rattle.fork_host.specs.Shown.{Account, seen_by, shown}
use Rattle.fork_host.proofs.MadeLemmas.{found_made, len_made, same_made}
use Rattle.fork_host.proofs.OwnLemmas.{own_read, staged_read}
use Rattle.fork_host.proofs.ShapeLemmas.{shape_but_upload}

-- how many bytes an open upload has
abbrev pub count_in : Option UploadValue → Option ℕ
count_in upload = option_map (λ waits. waits.count) upload

-- whichever objects are staged
pub same_count : (upload : Option Reading) (objects others : Objects) → count_in (option_map (upload_among objects) upload) ≡ count_in (option_map (upload_among others) upload)
same_count None objects others = refl
same_count (Some reading) objects others = refl

-- references that are valid over objects are valid over others of the same measures
references_measured : (objects others : Objects) (references : References) → measures_of others ≡ measures_of objects → AreReferences objects references → AreReferences others references
references_measured objects others references same right = record {
  each = λ reference target is.
      let at = right.each reference target is in
      record {
        named = at.named;
        there = same_there others objects target same ∙ at.there;
        commit = λ branch. ap is_commit (same_kinds others objects target same) ∙ at.commit branch;
      };
  apart = right.apart;
  few = right.few;
}

-- an open upload stays within its limit if it has the same number of bytes
upload_counted : (upload other : Option UploadValue) → count_in other ≡ count_in upload → ((waits : UploadValue) → upload ≡ Some waits → waits.count ≤ MAX_UPLOAD) → (waits : UploadValue) → other ≡ Some waits → waits.count ≤ MAX_UPLOAD
upload_counted upload None counted each waits is = absurd (cc)
upload_counted None (Some other) counted each waits is = (let differs : ⊥ = cc (sym counted) in absurd differs)
upload_counted (Some upload) (Some other) counted each waits is =
    let same : upload.count ≡ waits.count = cc in
    subst (λ n. n ≤ MAX_UPLOAD) same (each upload refl)

-- views that agree in how many bytes an upload has and in which repositories are offered
pub record AreAlike (rest other : View) : Type 0 where
  pub counted : count_in other.upload ≡ count_in rest.upload
  pub made : made_of other.made ≡ made_of rest.made

pub alike_itself : (view : View) → AreAlike view view
alike_itself view = record { counted = refl; made = refl }

-- the views of one account agree in this, whatever is seen
pub alike_shown : (account : Account) (before after : Private) → AreAlike (seen_by account before) (seen_by account after)
alike_shown account before after = record { counted = same_count account.upload after.staged before.staged; made = same_made account.made before.visible after.visible }

-- an offer that may have been made, and another of the same repository
offer_measured : (seen objects : Objects) (pair : Pair) (was offer : Offer) → measures_of objects ≡ measures_of seen → was.repository ≡ offer.repository → IsOffer seen pair was → IsOffer objects pair offer
offer_measured seen objects pair was offer same is right = record {
  receiver = right.receiver;
  named = right.named;
  head = subst (λ (r : Repository). IsBranch r.head) is right.head;
  references = references_measured seen objects offer.repository.references same (subst (λ (r : Repository). AreReferences seen r.references) is right.references);
}

-- the measures of objects, the upload's count and the offers' repositories determine whether a view is in order
pub orderly_measured : (repositories : Repositories) (seen objects : Objects) (rest other : View) (limit : ℕ) → measures_of objects ≡ measures_of seen → AreAlike rest other
    → IsOrderly (view_of rest repositories seen limit) → IsOrderly (view_of other repositories objects limit)
orderly_measured repositories seen objects rest other limit same alike orderly = record {
  upload = upload_counted rest.upload other.upload alike.counted orderly.upload;
  within_limit = subst (λ n. n ≤ limit) (sym (same_use objects seen same)) orderly.within_limit;
  limit = orderly.limit;
  few_repositories = orderly.few_repositories;
  repositories = orderly.repositories;
  heads = orderly.heads;
  references = λ name repository is. references_measured seen objects repository.references same (orderly.references name repository is);
  few_offers = subst (λ n. n ≤ MAX_OFFERS) (sym (len_made rest.made) ∙ ap len (sym alike.made) ∙ len_made other.made) orderly.few_offers;
  offers = λ pair offer is. (let was = found_made rest.made other.made pair offer alike.made is in offer_measured seen objects pair was.0 offer same was.2 (orderly.offers pair was.0 was.1));
}

pub shape_measured : (repositories : Repositories) (seen objects : Objects) (rest other : View) (limit : ℕ) → measures_of objects ≡ measures_of seen → made_of other.made ≡ made_of rest.made
    → view_shape (view_of other repositories objects limit) ≡ view_shape (view_of rest repositories seen limit)
shape_measured repositories seen objects rest other limit same made = λ i. record { repositories = repositories; made = made i; objects = same i; limit = limit }

-- an answer that leaves the repositories, the measures of what is seen, and the rest as in these views
pub safe_left : (Within : Reply → Type 0) (repositories now : Repositories) (seen objects : Objects) (rest other : View) (limit : ℕ) (reply : Reply) → now ≡ repositories → measures_of objects ≡ measures_of seen → AreAlike rest other
    → Within reply → IsSafe Within (view_of rest repositories seen limit) reply (view_of other now objects limit)
safe_left Within repositories now seen objects rest other limit reply stays same alike faults =
    subst (λ r. IsSafe Within (view_of rest repositories seen limit) reply (view_of other r objects limit)) (sym stays) (record {
      orderly = orderly_measured repositories seen objects rest other limit same alike;
      kept = λ _. shape_measured repositories seen objects rest other limit same alike.made;
      faults = faults;
    })

-- an answer that is safe from a view is safe from each view of the same measures
pub safe_from : (Within Over : Reply → Type 0) (repositories : Repositories) (seen objects : Objects) (rest : View) (limit : ℕ) (reply : Reply) (new : View) → measures_of objects ≡ measures_of seen → (Over reply → Within reply)
    → IsSafe Over (view_of rest repositories objects limit) reply new → IsSafe Within (view_of rest repositories seen limit) reply new
safe_from Within Over repositories seen objects rest limit reply new same within safe = record {
  orderly = λ before. safe.orderly (orderly_measured repositories seen objects rest rest limit same (alike_itself rest) before);
  kept = λ not_done. safe.kept not_done ∙ shape_measured repositories seen objects rest rest limit same refl;
  faults = within safe.faults;
}

-- and with each rest that agrees
pub safe_rest : (Within : Reply → Type 0) (old : View) (repositories : Repositories) (objects : Objects) (rest other : View) (limit : ℕ) (reply : Reply) → AreAlike rest other → IsSafe Within old reply (view_of rest repositories objects limit)
    → IsSafe Within old reply (view_of other repositories objects limit)
safe_rest Within old repositories objects rest other limit reply alike safe = record {
  orderly = λ before. orderly_measured repositories objects objects rest other limit refl alike (safe.orderly before);
  kept = λ not_done. shape_measured repositories objects objects rest other limit refl alike.made ∙ safe.kept not_done;
  faults = safe.faults;
}

-- the upload is discarded
pub safe_ended : (Within : Reply → Type 0) (old new : View) (reply : Reply) → IsSafe Within old reply new → IsSafe Within old reply (without_upload new)
safe_ended Within old new reply safe = record {
  orderly = λ before. orderly_without new (safe.orderly before);
  kept = safe.kept;
  faults = safe.faults;
}

-- an answer of the model that looks at no offer is safe, and so is lack of memory
pub safe_gives : (Within : Reply → Type 0) (tenant : List ℕ) (view new : View) (ask : Ask) (reply : Reply) → Within reply → Gives (answer (nothing_offered tenant) view ask) view reply new → IsSafe Within view reply new
safe_gives Within tenant view new ask reply within (Given told is) = record {
  orderly = λ before. subst IsOrderly (sym is) (orderly_answer (nothing_offered tenant) view ask (none_taken tenant view.objects) before);
  kept = λ not_done. ap view_shape (is ∙ undone (nothing_offered tenant) view ask reply told not_done) ∙ shape_but_upload (left_by view ask) view (left_but_upload view ask);
  faults = within;
}
safe_gives Within tenant view new ask reply within (Wanting wanting stays) = record {
  orderly = λ before. subst IsOrderly (sym stays) before;
  kept = λ _. ap view_shape stays;
  faults = within;
}

pub safe_pruned : (Within : Reply → Type 0) (view : View) (objects : Objects) (other : View) (reply : Reply) → AreAlike view other → Within reply → IsPruned (roots_of view) view.objects reply objects
    → IsSafe Within view reply (view_of other view.repositories objects view.limit)
safe_pruned Within view objects other reply alike within (Pruned kept done same rooted) = record {
  orderly = λ before. orderly_measured view.repositories (retain_keys view.objects kept) objects view other view.limit same alike (orderly_kept view kept rooted before);
  kept = λ not_done. (let differs : ⊥ = cc (ap is_done done, pruned_done view.objects (retain_keys view.objects kept)) in absurd differs);
  faults = within;
}
safe_pruned Within view objects other reply alike within (Unpruned fault failed same) = safe_left Within view.repositories view.repositories view.objects objects view other view.limit reply refl same alike within

-- an accepted push that succeeds: what was staged is seen
pub safe_taken : (Within : Reply → Type 0) (repositories now : Repositories) (seen both objects : Objects) (rest : View) (limit : ℕ) (name : List ℕ) (old : Repository) (new : References) (reply : Reply) (text : List ℕ)
    → ((q : List ℕ) → contains_key seen q ≡ true → get both q ≡ get seen q) → Within reply → reply ≡ Done text → get repositories name ≡ Some old → now ≡ insert repositories name (record old { references = new }) → measures_of objects ≡ measures_of both
    → verdict.IsAcceptable both old.references limit new → IsSafe Within (view_of rest repositories seen limit) reply (view_of rest now objects limit)
safe_taken Within repositories now seen both objects rest limit name old new reply text grown within done here set measured accepted =
    subst (λ r. IsSafe Within (view_of rest repositories seen limit) reply (view_of rest r objects limit)) (sym set) (record {
      orderly = λ before.
          orderly_measured (insert repositories name (record old { references = new })) both objects rest rest limit measured (alike_itself rest)
          (orderly_pushed (view_of rest repositories seen limit) name old new accepted.commands both grown here (before.repositories name old here) accepted.carried accepted.within before);
      kept = λ not_done. (let differs : ⊥ = cc (ap is_done done) in absurd differs);
      faults = within;
    })

-- a vault that is only read: the handle was used, and the answer is safe
pub read_uses : {S : Type 0} (old new : Own S) → vault_shape new.vault.now.tenants ≡ vault_shape old.vault.now.tenants → (IsTrue old.vault.now.honest → new.vault.now.tenants ≡ old.vault.now.tenants)
    → new.vault.now.honest ≡ old.vault.now.honest → new.vault.now.places ≡ old.vault.now.places → IsSame old new → Uses [] old new
read_uses old new shape kept honest places same = record {
  same = same;
  own = own_read old.vault.now new.vault.now old.tenant.now shape kept honest;
  grows = grows_same [] old.vault.now.places new.vault.now.places places;
  staged = staged_read old.vault.now new.vault.now old.tenant.now shape kept;
}

pub read_safe : {S : Type 0} (Within : Reply → Type 0) (account : Account) (old new : Own S) (reply : Reply) → vault_shape new.vault.now.tenants ≡ vault_shape old.vault.now.tenants → Within reply
    → IsSafe Within (shown_by account old) reply (shown account new.vault.now old.tenant.now)
read_safe Within account old new reply shape faults =
    safe_left Within account.repositories account.repositories (visible_in old.vault.now old.tenant.now) (visible_in new.vault.now old.tenant.now) (shown_by account old) (shown account new.vault.now old.tenant.now) account.limit reply refl
    (ap (λ (p : Measures × Measures). p.0) (same_measures old.vault.now.tenants new.vault.now.tenants old.tenant.now shape)) (alike_shown account (private_of old.vault.now.tenants old.tenant.now) (private_of new.vault.now.tenants old.tenant.now)) faults

-- an answer that leaves the view
pub safe_still : (Within : Reply → Type 0) (view : View) (reply : Reply) → Within reply → IsSafe Within view reply view
safe_still Within view reply within = record { orderly = λ before. before; kept = λ _. refl; faults = within }
