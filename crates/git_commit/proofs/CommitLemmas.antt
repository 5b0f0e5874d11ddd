-- The lines of a commit are valid lines, in one way only.
use Rattle.std.proofs.Common.{◌≡◌, ◌≢◌, inl, inr, ℕ, ◌<◌, List, [], ◌∷◌, ◌++◌, map, length, refl, sym, ap, ◌∙◌, arith, rules, codes, append_assoc}
use Rattle.std.specs.List.{AllByRecursion, flat_map}
use Rattle.std.proofs.lemmas.List.Elements.{All-from_recursion, All-append, All-same}
use Rattle.hex.specs.Hex.{encode_lower}
use Rattle.git_name.specs.Name.{IsName}
use Rattle.git_name.specs.declared.kind.Kind.TheVariants.{Commit}
use Rattle.git_header.specs.declared.fault.HeaderFault.{HeaderFault}
use Rattle.git_header.specs.declared.fault.HeaderFault.TheVariants as fault
use Rattle.git_name.specs.Text.{Begins, Lacks, ended}
use Rattle.git_header.specs.Line.{IsLine, IsOther, ending}
use Rattle.git_header.specs.Ident.{spelled_ident}
use Rattle.git_header.specs.Header.{NoHeader, header_grammar, header_lines}
use Rattle.git_commit.specs.Commit.{CommitValue, IsCommitValue, IsCommit, parent_line, commit_lines}
use Rattle.git_header.specs.Judging.{AreRightLines, Misplaced, IsBroken, Bad, IsFirstFault}
use Rattle.git_header.specs.Value.{IsNameText, IsIdentLine, HoldsValue, IsNoValue}
use Rattle.git_commit.specs.Fault.{Place, First, AfterTree, AfterAuthor, Further, commit_grammar, IsCommitFault}
use Rattle.git_commit.specs.Parents.{parents_spelled, AreParentLines}
use Rattle.git_header.proofs.Splits.{split_unique, same_rest, heads}
use Rattle.git_commit.proofs.ParentLemmas.{parents_of}
use Rattle.git_header.proofs.JudgingLemmas.{itself, IsUsual, IsSound, IsWithin, right_within, fault_within, fault_here, fault_behind, right_lines, right_not_broken, one_fault, no_fault}
use Rattle.git_header.proofs.ValueLemmas.{ident_value_no_end, ident_value_no_zero, name_same, drop_front, value_broken, held_value, name_value_lacks}
use Rattle.git_header.proofs.FurtherLemmas.{further_no_end, further_no_zero, further_stands, further_some}
use Rattle.git_header.proofs.FieldLemmas.{differ, headers_right, place_behind, one_line, lines_push}

pub usual_commit : IsUsual itself commit_grammar
usual_commit = record { order = refl; unended = refl; zero_byte = refl }

-- ---- the lines are lines

-- the required words
pub data IsWord (word : List ℕ) : Type 0 where
  TreeWord : word ≡ codes "tree " → IsWord word
  ParentWord : word ≡ codes "parent " → IsWord word
  AuthorWord : word ≡ codes "author " → IsWord word
  CommitterWord : word ≡ codes "committer " → IsWord word

word_lacks : (byte : ℕ) → byte < 32 → (word : List ℕ) → IsWord word → Lacks byte word
word_lacks byte low word (TreeWord is) = All-same (λ b. b ≢ byte) _ _ is (All-from_recursion (λ b. b ≢ byte) (codes "tree ") (search (rules, arith)))
word_lacks byte low word (ParentWord is) = All-same (λ b. b ≢ byte) _ _ is (All-from_recursion (λ b. b ≢ byte) (codes "parent ") (search (rules, arith)))
word_lacks byte low word (AuthorWord is) = All-same (λ b. b ≢ byte) _ _ is (All-from_recursion (λ b. b ≢ byte) (codes "author ") (search (rules, arith)))
word_lacks byte low word (CommitterWord is) = All-same (λ b. b ≢ byte) _ _ is (All-from_recursion (λ b. b ≢ byte) (codes "committer ") (search (rules, arith)))

held : (byte : ℕ) → byte < 32 → (word : List ℕ) → IsWord word → (IsValue : List ℕ → Type 0) (line : List ℕ) → ((value : List ℕ) → IsValue value → Lacks byte value) → HoldsValue word IsValue line → Lacks byte line
held byte low word is IsValue line lack h = All-same (λ b. b ≢ byte) _ _ h.spelling (All-append (λ b. b ≢ byte) word h.value (word_lacks byte low word is) (lack h.value h.is))

no_zero_at : (p : Place) (line : List ℕ) → commit_grammar.Right p line → Lacks 0 line
no_zero_at First line h = held 0 (omega arith) (codes "tree ") (TreeWord refl) IsNameText line (name_value_lacks 0 (omega arith)) h
no_zero_at AfterTree line (inl h) = held 0 (omega arith) (codes "parent ") (ParentWord refl) IsNameText line (name_value_lacks 0 (omega arith)) h
no_zero_at AfterTree line (inr h) = held 0 (omega arith) (codes "author ") (AuthorWord refl) IsIdentLine line ident_value_no_zero h
no_zero_at AfterAuthor line h = held 0 (omega arith) (codes "committer ") (CommitterWord refl) IsIdentLine line ident_value_no_zero h
no_zero_at (Further p) line h = further_no_zero Commit p line h

no_end_at : (p : Place) (line : List ℕ) → commit_grammar.Right p line → Lacks 10 line
no_end_at First line h = held 10 (omega arith) (codes "tree ") (TreeWord refl) IsNameText line (name_value_lacks 10 (omega arith)) h
no_end_at AfterTree line (inl h) = held 10 (omega arith) (codes "parent ") (ParentWord refl) IsNameText line (name_value_lacks 10 (omega arith)) h
no_end_at AfterTree line (inr h) = held 10 (omega arith) (codes "author ") (AuthorWord refl) IsIdentLine line ident_value_no_end h
no_end_at AfterAuthor line h = held 10 (omega arith) (codes "committer ") (CommitterWord refl) IsIdentLine line ident_value_no_end h
no_end_at (Further p) line h = further_no_end Commit p line h

some_at : (p : Place) (line : List ℕ) → commit_grammar.Right p line → line ≢ []
some_at First line h e = let same = sym h.spelling ∙ e in let no_such : ⊥ = cc same in no_such
some_at AfterTree line (inl h) e = let same = sym h.spelling ∙ e in let no_such : ⊥ = cc same in no_such
some_at AfterTree line (inr h) e = let same = sym h.spelling ∙ e in let no_such : ⊥ = cc same in no_such
some_at AfterAuthor line h e = let same = sym h.spelling ∙ e in let no_such : ⊥ = cc same in no_such
some_at (Further p) line h e = further_some Commit p line h e

stands_at : (p : Place) (line : List ℕ) → commit_grammar.Right p line → commit_grammar.Stands p line
stands_at First line h = (h.value, h.spelling)
stands_at AfterTree line (inl h) = inl (h.value, h.spelling)
stands_at AfterTree line (inr h) = inr (h.value, h.spelling)
stands_at AfterAuthor line h = (h.value, h.spelling)
stands_at (Further p) line h = further_stands Commit p line h

pub sound_commit : IsSound commit_grammar
sound_commit = record { no_zero = no_zero_at; no_end = no_end_at; some = some_at; stands = stands_at }

-- ---- a required value is missing

parent_value : (value : List ℕ) → commit_grammar.Right AfterTree (codes "parent " ++ value) → IsNameText value
parent_value value (inl h) = held_value (codes "parent ") value IsNameText h
parent_value value (inr h) = absurd (differ 112 97 (heads 112 97 _ _ h.spelling) (omega arith))

author_value : (value : List ℕ) → commit_grammar.Right AfterTree (codes "author " ++ value) → IsIdentLine value
author_value value (inl h) = absurd (differ 112 97 (sym (heads 97 112 _ _ h.spelling)) (omega arith))
author_value value (inr h) = held_value (codes "author ") value IsIdentLine h

pub tree_fault : (why : HeaderFault) (text : List ℕ) → IsNoValue (codes "tree ") IsNameText fault.Name why text → IsCommitFault why text
tree_fault why text wrong = fault_here commit_grammar First why text (value_broken itself commit_grammar usual_commit why fault.Name First (codes "tree ") text IsNameText wrong
    (λ _ may. may) (λ o. Bad o.line o.after o.is (Misplaced o.plain o.other refl)) (λ value. (value, refl)) (λ value h. held_value (codes "tree ") value IsNameText h) (λ value. refl))

pub parent_broken : (why : HeaderFault) (text x : List ℕ) → text ≡ codes "parent " ++ x → IsNoValue (codes "parent ") IsNameText fault.Name why text → IsBroken commit_grammar why AfterTree text
parent_broken why text x begins wrong = value_broken itself commit_grammar usual_commit why fault.Name AfterTree (codes "parent ") text IsNameText wrong
    (λ _ may. may) (λ o. absurd (o.other (from o.line o.after o.is))) (λ value. inl (value, refl)) parent_value (λ value. refl)
  where
    from : (line after : List ℕ) → IsLine line after text → Begins (codes "parent ") line
    from line after is = drop_front (codes "parent ") line after x (word_lacks 10 (omega arith) (codes "parent ") (ParentWord refl)) (sym is.parts ∙ begins)

pub author_fault : (why : HeaderFault) (text : List ℕ) → ((line : List ℕ) → text ≢ codes "parent " ++ line) → IsNoValue (codes "author ") IsIdentLine fault.Ident why text → IsFirstFault commit_grammar AfterTree why text
author_fault why text no_parent wrong = fault_here commit_grammar AfterTree why text (value_broken itself commit_grammar usual_commit why fault.Ident AfterTree (codes "author ") text IsIdentLine wrong
    (λ _ may. may) (λ o. Bad o.line o.after o.is (Misplaced o.plain (stands o) refl)) (λ value. inr (value, refl)) author_value (λ value. refl))
  where
    stands : (o : IsOther (codes "author ") text) → commit_grammar.Stands AfterTree o.line → ⊥
    stands o (inl parent) = no_parent (parent.0 ++ 10 ∷ o.after) (o.is.parts ∙ ap (λ (l : List ℕ). l ++ 10 ∷ o.after) parent.1)
    stands o (inr author) = o.other author

pub committer_fault : (why : HeaderFault) (text : List ℕ) → IsNoValue (codes "committer ") IsIdentLine fault.Ident why text → IsFirstFault commit_grammar AfterAuthor why text
committer_fault why text wrong = fault_here commit_grammar AfterAuthor why text (value_broken itself commit_grammar usual_commit why fault.Ident AfterAuthor (codes "committer ") text IsIdentLine wrong
    (λ _ may. may) (λ o. Bad o.line o.after o.is (Misplaced o.plain o.other refl)) (λ value. (value, refl)) (λ value h. held_value (codes "committer ") value IsIdentLine h) (λ value. refl))

-- ---- further headers of a commit

further_within : IsWithin itself Further (header_grammar Commit) commit_grammar
further_within = record {
  right = λ p line right. right;
  only = λ p line right. right;
  stands = λ p line stands. stands;
  may = λ p line stands. stands;
  ends = λ p may. may;
  next = λ p line. refl;
  order = refl;
  unended = refl;
  zero_byte = refl;
  form = λ p line. refl;
}

pub headers_fault : (why : HeaderFault) (text : List ℕ) → IsFirstFault (header_grammar Commit) NoHeader why text → IsFirstFault commit_grammar (Further NoHeader) why text
headers_fault why text wrong = fault_within itself Further (header_grammar Commit) commit_grammar further_within NoHeader why text wrong

-- ---- a whole commit

pub parents_right : (names : List (List ℕ)) → AllByRecursion IsName names → AreRightLines commit_grammar AfterTree (map parent_line names) AfterTree
parents_right [] are = refl
parents_right (n ∷ names) are = (inl (record { value = encode_lower n; spelling = refl; is = (n, are.0, refl) }), parents_right names are.1)

abbrev pub last_place : CommitValue → Place
last_place v = Further (place_behind v.headers)

pub commit_right : (v : CommitValue) → IsCommitValue v → AreRightLines commit_grammar First (commit_lines v) (last_place v)
commit_right v is = (
  record { value = encode_lower v.tree; spelling = refl; is = (v.tree, is.tree, refl) },
  right_lines commit_grammar AfterTree AfterTree (last_place v) (map parent_line v.parents) _ (parents_right v.parents is.parents) (
    inr (record { value = spelled_ident v.author; spelling = refl; is = (v.author, record { right = is.author; spelling = refl }) }),
    (
      record { value = spelled_ident v.committer; spelling = refl; is = (v.committer, record { right = is.committer; spelling = refl }) },
      right_within itself Further (header_grammar Commit) commit_grammar further_within NoHeader (place_behind v.headers) (flat_map header_lines v.headers) (headers_right Commit v.headers is.headers),
    ),
  ),
)

-- bytes with a fault are no commit
pub no_commit : (why : HeaderFault) (bytes : List ℕ) (v : CommitValue) → IsCommit v bytes → IsCommitFault why bytes → ⊥
no_commit why bytes v is wrong = no_fault commit_grammar sound_commit First (last_place v) why (commit_lines v) (ending v.message) bytes (commit_right v is.right) tt (v.message, refl) is.spelling wrong

pub one_commit_fault : (bytes : List ℕ) (f h : HeaderFault) → IsCommitFault f bytes → IsCommitFault h bytes → f ≡ h
one_commit_fault bytes f h one two = one_fault commit_grammar sound_commit First f h bytes one two

-- ---- lines of parents

parents_first : (names : List (List ℕ)) (name : List ℕ) (bytes after : List ℕ) → AllByRecursion IsName names → IsName name → bytes ≡ flat_map ended (map parent_line names) → bytes ≡ parent_line name ++ 10 ∷ after
    → (others : List (List ℕ)) × (names ≡ name ∷ others) × (after ≡ flat_map ended (map parent_line others)) × AllByRecursion IsName others
parents_first [] name bytes after are is spelled begins = let same = sym spelled ∙ begins in let no_such : ⊥ = cc same in absurd no_such
parents_first (n ∷ names) name bytes after are is spelled begins =
    let whole : bytes ≡ parent_line n ++ 10 ∷ flat_map ended (map parent_line names) = spelled ∙ append_assoc (parent_line n) (10 ∷ []) (flat_map ended (map parent_line names)) in
    let parts = split_unique 10 (parent_line n) (flat_map ended (map parent_line names)) (parent_line name) after (parent_no_end n are.0) (parent_no_end name is) (sym whole ∙ begins) in
    (names, ap (λ (h : List ℕ). h ∷ names) (name_same n name are.0 is (same_rest (codes "parent ") (encode_lower n) (encode_lower name) parts.0)), sym parts.1, are.1)
  where
    parent_no_end : (m : List ℕ) → IsName m → Lacks 10 (parent_line m)
    parent_no_end m is_name = no_end_at AfterTree (parent_line m) (inl (record { value = encode_lower m; spelling = refl; is = (m, is_name, refl) }))

-- what follows the first line of parents
pub parents_step : (name bytes after : List ℕ) → AreParentLines bytes → IsName name → IsLine (parent_line name) after bytes → (parents_spelled bytes ≡ name ∷ parents_spelled after) × AreParentLines after
parents_step name bytes after row is line =
    let cut = parents_first (parents_spelled bytes) name bytes after row.each is row.spelling line.parts in
    let rest = parents_of cut.0 after cut.3 cut.2 in
    (cut.1 ∙ ap (λ (t : List (List ℕ)). name ∷ t) (sym rest.0), rest.1)

parents_no_fault : (names : List (List ℕ)) (why : HeaderFault) (bytes : List ℕ) → AllByRecursion IsName names → bytes ≡ flat_map ended (map parent_line names) → 0 < length bytes → IsNoValue (codes "parent ") IsNameText fault.Name why bytes → ⊥
parents_no_fault [] why bytes are spelled some wrong = let len : length bytes ≡ 0 = ap length spelled in absurd (omega arith)
parents_no_fault (n ∷ names) why bytes are spelled some wrong =
    let rest = flat_map ended (map parent_line names) in
    let whole : bytes ≡ parent_line n ++ 10 ∷ rest = spelled ∙ append_assoc (parent_line n) (10 ∷ []) rest in
    right_not_broken commit_grammar sound_commit why AfterTree (parent_line n) rest bytes (inl (record { value = encode_lower n; spelling = refl; is = (n, are.0, refl) })) whole
    (parent_broken why bytes (encode_lower n ++ 10 ∷ rest) whole wrong)

-- bytes of lines of parents begin with such a line
pub row_no_fault : (why : HeaderFault) (bytes : List ℕ) → AreParentLines bytes → 0 < length bytes → IsNoValue (codes "parent ") IsNameText fault.Name why bytes → ⊥
row_no_fault why bytes row some wrong = parents_no_fault (parents_spelled bytes) why bytes row.each row.spelling some wrong

pub row_none : (bytes : List ℕ) → length bytes ≡ 0 → parents_spelled bytes ≡ []
row_none [] none = (parents_of [] [] tt refl).0
row_none (b ∷ bytes) none = absurd (omega arith)

abbrev pub ParentsSoFar : List ℕ → List ℕ → Type 0
ParentsSoFar text rest = (names : List (List ℕ)) × AllByRecursion IsName names × (text ≡ flat_map ended (map parent_line names) ++ rest)

names_push : (names : List (List ℕ)) (n : List ℕ) → map parent_line (names ++ n ∷ []) ≡ map parent_line names ++ parent_line n ∷ []
names_push [] n = refl
names_push (m ∷ names) n = ap (λ (t : List (List ℕ)). parent_line m ∷ t) (names_push names n)

pub all_push : (names : List (List ℕ)) (n : List ℕ) → AllByRecursion IsName names → IsName n → AllByRecursion IsName (names ++ n ∷ [])
all_push [] n all one = (one, tt)
all_push (m ∷ names) n all one = (all.0, all_push names n all.1 one)

pub parents_more : (names : List (List ℕ)) (name text rest after : List ℕ) → AllByRecursion IsName names → text ≡ flat_map ended (map parent_line names) ++ rest → IsName name → IsLine (parent_line name) after rest → ParentsSoFar text after
parents_more names name text rest after are parts is line = (
  names ++ name ∷ [],
  all_push names name are is,
  lines_push (map parent_line names) (parent_line name ∷ []) text rest after parts (one_line (parent_line name) after rest line.parts) ∙ ap (λ (ls : List (List ℕ)). flat_map ended ls ++ after) (sym (names_push names name)),
)

pub parents_fault : (names : List (List ℕ)) (why : HeaderFault) (text rest x : List ℕ) → AllByRecursion IsName names → text ≡ flat_map ended (map parent_line names) ++ rest → rest ≡ codes "parent " ++ x → IsNoValue (codes "parent ") IsNameText fault.Name why rest
    → IsFirstFault commit_grammar AfterTree why text
parents_fault names why text rest x are parts begins wrong =
    fault_behind commit_grammar AfterTree AfterTree why (map parent_line names) rest text (parents_right names are) parts (fault_here commit_grammar AfterTree why rest (parent_broken why rest x begins wrong))
