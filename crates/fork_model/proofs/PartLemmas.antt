-- An upload is all its parts, from where it continues to its end.
use Rattle.std.proofs.Common.{◌≡◌, ℕ, true, false, List, [], ◌∷◌, ◌++◌, ap, ap₂, refl, sym, ◌∙◌}
use Rattle.std.specs.List.{AllByRecursion}
use Rattle.fork_request.specs.Asked.{DropsParts, EndsParts}
use Rattle.fork_request.specs.declared.reply.Reply.TheVariants.{Done}
use Rattle.fork_model.specs.Provenance.{AreParts, ends_upload, part_in, parts_in}
use Rattle.fork_model.specs.World.{Exchange}

abbrev Unended : List Exchange → Type 0
Unended exchanges = AllByRecursion (λ exchange. ends_upload exchange ≡ false) exchanges

-- the end that publishes an upload
abbrev published : List ℕ → Exchange
published repository = (EndsParts repository, Done [])

pub head_is : (x y : Exchange) (xs ys : List Exchange) → x ∷ xs ≡ y ∷ ys → x ≡ y
head_is x y xs ys is = cc

pub tail_is : (x y : Exchange) (xs ys : List Exchange) → x ∷ xs ≡ y ∷ ys → xs ≡ ys
tail_is x y xs ys is = cc

-- a part is no end
pub part_or_end : (exchange : Exchange) (body : List ℕ) → part_in exchange ≡ body ∷ [] → ends_upload exchange ≡ false
part_or_end (EndsParts repository, reply) body is = absurd (cc)
part_or_end (DropsParts, reply) body is = absurd (cc)
part_or_end exchange body is = refl

-- an end does not occur during an upload
pub unlike : (exchange end : Exchange) → exchange ≡ end → ends_upload end ≡ true → ends_upload exchange ≡ false → ⊥
unlike exchange end is ended no_end = (let both : true ≡ false = sym (ap ends_upload is ∙ ended) ∙ no_end in absurd (cc))

same_parts : (during other behind beyond : List Exchange) (repository word : List ℕ) → during ++ published repository ∷ behind ≡ other ++ published word ∷ beyond → Unended during → Unended other → parts_in during ≡ parts_in other
same_parts [] [] behind beyond repository word is first second = refl
same_parts [] (x ∷ other) behind beyond repository word is first second = absurd (unlike x (published repository) (sym (head_is (published repository) x _ _ is)) refl second.0)
same_parts (x ∷ during) [] behind beyond repository word is first second = absurd (unlike x (published word) (head_is x (published word) _ _ is) refl first.0)
same_parts (x ∷ during) (y ∷ other) behind beyond repository word is first second =
    ap₂ (λ (front rest : List (List ℕ)). front ++ rest) (ap part_in (head_is x y _ _ is)) (same_parts during other behind beyond repository word (tail_is x y _ _ is) first.1 second.1)

-- so there is at most one list of parts: none can be left out, and none occurs twice
pub one_list : (exchanges : List Exchange) (bodies others : List (List ℕ)) → AreParts exchanges bodies → AreParts exchanges others → bodies ≡ others
one_list exchanges bodies others first second =
    first.whole ∙ same_parts first.during second.during first.behind second.behind first.repository second.repository (sym first.parts ∙ second.parts) first.no_end second.no_end ∙ sym second.whole

-- what comes after an end adds nothing
cut : (front behind during beyond : List Exchange) (end : Exchange) (repository : List ℕ) → ends_upload end ≡ true → front ++ end ∷ behind ≡ during ++ published repository ∷ beyond → Unended during → AreParts (front ++ end ∷ []) (parts_in during)
cut [] behind [] beyond end repository ended is no_end = record {
  during = [];
  behind = [];
  repository = repository;
  parts = ap (λ x. x ∷ []) (head_is end (published repository) behind beyond is);
  no_end = tt;
  whole = refl;
}
cut [] behind (y ∷ during) beyond end repository ended is no_end = absurd (unlike y end (sym (head_is end y _ _ is)) ended no_end.0)
cut (x ∷ front) behind [] beyond end repository ended is no_end = record {
  during = [];
  behind = front ++ end ∷ [];
  repository = repository;
  parts = ap (λ y. y ∷ front ++ end ∷ []) (head_is x (published repository) _ _ is);
  no_end = tt;
  whole = refl;
}
cut (x ∷ front) behind (y ∷ during) beyond end repository ended is no_end =
    let rest = cut front behind during beyond end repository ended (tail_is x y _ _ is) no_end.1 in
    record {
      during = y ∷ rest.during;
      behind = rest.behind;
      repository = rest.repository;
      parts = ap₂ (λ (first : Exchange) (later : List Exchange). first ∷ later) (head_is x y _ _ is) rest.parts;
      no_end = (no_end.0, rest.no_end);
      whole = ap (λ later. part_in y ++ later) rest.whole;
    }

pub nothing_behind : (front behind : List Exchange) (end : Exchange) (bodies : List (List ℕ)) → ends_upload end ≡ true → AreParts (front ++ end ∷ behind) bodies → AreParts (front ++ end ∷ []) bodies
nothing_behind front behind end bodies ended are = rw are.whole (cut front behind are.during are.behind end are.repository ended are.parts are.no_end)
