-- Examples of trees: what the definitions say of bytes that Git wrote, and of wrong ones.
use Rattle.std.proofs.Common.{◌≡◌, ◌≢◌, ℕ, List, [], ◌∷◌, ◌++◌, codes, length, Some, None, refl, inl, inr, arith}
use Rattle.std.specs.List.{flat_map}
use Rattle.git_tree.specs.declared.mode.Mode.{Mode}
use Rattle.git_tree.specs.declared.mode.Mode.TheVariants.{Tree, File, Executable, Link, Gitlink}
use Rattle.git_tree.specs.declared.fault.TreeFault.TheVariants as fault
use Rattle.git_tree.specs.Mode.{digits}
use Rattle.git_tree.specs.Entry.{Entry, spelled}
use Rattle.git_tree.specs.Fault.{IsTreeFault}
use Rattle.git_tree.specs.Fault.IsCutShort.{NoSpace, ShortName}
use Rattle.git_tree.specs.Row.{entries_in, first_entries}
use Rattle.git_tree.specs.TreeIn.{tree_in}
use Rattle.git_tree.specs.Tree.{IsBelow, AreEntries}
use Rattle.git_tree.proofs.ListLemmas.{any_here, none_of_any}
use Rattle.git_tree.proofs.TestLemmas.{is_tree_in, entry_decides, file_name_decides, differ_decides, lacks_decides}

-- the names of the empty blob and of the empty tree
abbrev blob : List ℕ
blob = 71 ∷ 58 ∷ 15 ∷ 76 ∷ 59 ∷ 232 ∷ 169 ∷ 54 ∷ 129 ∷ 162 ∷ 103 ∷ 227 ∷ 177 ∷ 233 ∷ 167 ∷ 220 ∷ 218 ∷ 17 ∷ 133 ∷ 67 ∷ 111 ∷ 225 ∷ 65 ∷ 247 ∷ 116 ∷ 145 ∷ 32 ∷ 163 ∷ 3 ∷ 114 ∷ 24 ∷ 19 ∷ []

abbrev empty : List ℕ
empty = 110 ∷ 241 ∷ 155 ∷ 65 ∷ 34 ∷ 92 ∷ 83 ∷ 105 ∷ 241 ∷ 193 ∷ 4 ∷ 212 ∷ 93 ∷ 141 ∷ 133 ∷ 239 ∷ 169 ∷ 176 ∷ 87 ∷ 181 ∷ 59 ∷ 20 ∷ 180 ∷ 185 ∷ 185 ∷ 57 ∷ 221 ∷ 116 ∷ 222 ∷ 204 ∷ 83 ∷ 33 ∷ []

abbrev file : List ℕ → Entry
file file_name = record { mode = File; file_name = file_name; name = blob }

abbrev folder : List ℕ → Entry
folder file_name = record { mode = Tree; file_name = file_name; name = empty }

-- what `git mktree` wrote for the file `a.b`, the tree `a` and the file `a0`
abbrev written : List ℕ
written = 49 ∷ 48 ∷ 48 ∷ 54 ∷ 52 ∷ 52 ∷ 32 ∷ 97 ∷ 46 ∷ 98 ∷ 0 ∷ 71 ∷ 58 ∷ 15 ∷ 76 ∷ 59 ∷ 232 ∷ 169 ∷ 54 ∷ 129 ∷ 162 ∷ 103 ∷ 227 ∷ 177 ∷ 233 ∷ 167 ∷ 220 ∷ 218 ∷ 17 ∷ 133 ∷ 67 ∷ 111 ∷ 225 ∷ 65 ∷ 247 ∷ 116 ∷ 145 ∷ 32 ∷ 163 ∷ 3 ∷ 114 ∷ 24 ∷ 19 ∷ 52 ∷ 48 ∷ 48 ∷ 48 ∷ 48 ∷ 32 ∷ 97 ∷ 0 ∷ 110 ∷ 241 ∷ 155 ∷ 65 ∷ 34 ∷ 92 ∷ 83 ∷ 105 ∷ 241 ∷ 193 ∷ 4 ∷ 212 ∷ 93 ∷ 141 ∷ 133 ∷ 239 ∷ 169 ∷ 176 ∷ 87 ∷ 181 ∷ 59 ∷ 20 ∷ 180 ∷ 185 ∷ 185 ∷ 57 ∷ 221 ∷ 116 ∷ 222 ∷ 204 ∷ 83 ∷ 33 ∷ 49 ∷ 48 ∷ 48 ∷ 54 ∷ 52 ∷ 52 ∷ 32 ∷ 97 ∷ 48 ∷ 0 ∷ 71 ∷ 58 ∷ 15 ∷ 76 ∷ 59 ∷ 232 ∷ 169 ∷ 54 ∷ 129 ∷ 162 ∷ 103 ∷ 227 ∷ 177 ∷ 233 ∷ 167 ∷ 220 ∷ 218 ∷ 17 ∷ 133 ∷ 67 ∷ 111 ∷ 225 ∷ 65 ∷ 247 ∷ 116 ∷ 145 ∷ 32 ∷ 163 ∷ 3 ∷ 114 ∷ 24 ∷ 19 ∷ []

abbrev three : List Entry
three = file (codes "a.b") ∷ folder (codes "a") ∷ file (codes "a0") ∷ []

pub three_spelled : flat_map spelled three ≡ written
three_spelled = refl

pub three_found : tree_in written ≡ Some three
unfolding tree_in entries_in first_entries
three_found = refl

pub none_found : tree_in [] ≡ Some []
unfolding tree_in entries_in first_entries
none_found = refl

-- valid entries that repeat a file name, and others out of order
abbrev comes_back : List Entry
comes_back = file (codes "a") ∷ file (codes "a.b") ∷ folder (codes "a") ∷ []

pub comes_back_refused : tree_in (flat_map spelled comes_back) ≡ None
unfolding tree_in entries_in first_entries
comes_back_refused = refl

pub out_of_order_refused : tree_in (flat_map spelled (folder (codes "a") ∷ file (codes "a.b") ∷ [])) ≡ None
unfolding tree_in entries_in first_entries
out_of_order_refused = refl

are_two : AreEntries (file (codes "a") ∷ file (codes "a.b") ∷ [])
unfolding tree_in entries_in first_entries
are_two = (is_tree_in (flat_map spelled (file (codes "a") ∷ file (codes "a.b") ∷ [])) (file (codes "a") ∷ file (codes "a.b") ∷ []) refl).are

are_one : AreEntries (folder (codes "a") ∷ [])
unfolding tree_in entries_in first_entries
are_one = (is_tree_in (flat_map spelled (folder (codes "a") ∷ [])) (folder (codes "a") ∷ []) refl).are

are_none : AreEntries []
unfolding tree_in entries_in first_entries
are_none = (is_tree_in [] [] refl).are

-- the file `a`, the file `a.b`, the tree `a`: repeated, though the keys ascend
pub comes_back_is_repeated : IsTreeFault fault.Repeated (flat_map spelled comes_back)
comes_back_is_repeated = record {
  front = file (codes "a") ∷ file (codes "a.b") ∷ [];
  rest = spelled (folder (codes "a"));
  are = are_two;
  parts = refl;
  some = λ none. cc;
  wrong = inr (record {
    entry = folder (codes "a");
    after = [];
    is = (entry_decides (folder (codes "a"))).0 refl;
    parts = refl;
    wrong = any_here (λ (e : Entry). e.file_name ≡ codes "a") (file (codes "a")) (file (codes "a.b") ∷ []) refl;
  });
}

not_below : IsBelow (folder (codes "a")) (file (codes "a.b")) → ⊥
not_below h = cc

-- the tree `a`, the file `a.b`: out of order
pub slash_is_above_dot : IsTreeFault fault.Order (flat_map spelled (folder (codes "a") ∷ file (codes "a.b") ∷ []))
slash_is_above_dot = record {
  front = folder (codes "a") ∷ [];
  rest = spelled (file (codes "a.b"));
  are = are_one;
  parts = refl;
  some = λ none. cc;
  wrong = inr (record {
    entry = file (codes "a.b");
    after = [];
    is = (entry_decides (file (codes "a.b"))).0 refl;
    parts = refl;
    wrong = (
      none_of_any (λ (e : Entry). e.file_name ≡ codes "a.b") (folder (codes "a") ∷ []) ((differ_decides (codes "a") (codes "a.b")).0 refl, tt),
      any_here (λ (e : Entry). IsBelow e (file (codes "a.b")) → ⊥) (folder (codes "a")) [] not_below,
    );
  });
}

no_mode : (mode : Mode) → codes "040000" ≢ digits mode
no_mode Tree = (differ_decides (codes "040000") (codes "40000")).0 refl
no_mode File = (differ_decides (codes "040000") (codes "100644")).0 refl
no_mode Executable = (differ_decides (codes "040000") (codes "100755")).0 refl
no_mode Link = (differ_decides (codes "040000") (codes "120000")).0 refl
no_mode Gitlink = (differ_decides (codes "040000") (codes "160000")).0 refl

-- a mode with a leading zero is none, whatever follows the space
pub padded_mode_is_none : (after : List ℕ) → IsTreeFault fault.Mode (codes "040000 " ++ after)
padded_mode_is_none after = record {
  front = [];
  rest = codes "040000 " ++ after;
  are = are_none;
  parts = refl;
  some = λ none. cc;
  wrong = inl (record { word = codes "040000"; after = after; parts = refl; first = (lacks_decides 32 (codes "040000")).0 refl; bad = no_mode });
}

-- `.git` is refused before the name after it is read
pub git_is_no_file_name : (after : List ℕ) → IsTreeFault fault.Name (codes "100644 .git" ++ 0 ∷ after)
git_is_no_file_name after = record {
  front = [];
  rest = codes "100644 .git" ++ 0 ∷ after;
  are = are_none;
  parts = refl;
  some = λ none. cc;
  wrong = inl (record { mode = File; file_name = codes ".git"; after = after; parts = refl; first = (lacks_decides 0 (codes ".git")).0 refl; bad = λ is. let test = (file_name_decides (codes ".git")).1 is in cc });
}

-- fewer than 32 bytes of a name
pub short_name_is_truncated : (after : List ℕ) → length after ≡ 31 → IsTreeFault fault.Truncated (codes "100644 a" ++ 0 ∷ after)
short_name_is_truncated after short = record {
  front = [];
  rest = codes "100644 a" ++ 0 ∷ after;
  are = are_none;
  parts = refl;
  some = λ none. cc;
  wrong = inl (ShortName (record { mode = File; file_name = codes "a"; after = after; parts = refl; file_name_is = (file_name_decides (codes "a")).0 refl; short = omega (arith, short) }));
}

-- a mode alone
pub mode_alone_is_truncated : IsTreeFault fault.Truncated (codes "100644")
mode_alone_is_truncated = record {
  front = [];
  rest = codes "100644";
  are = are_none;
  parts = refl;
  some = λ none. cc;
  wrong = inl (NoSpace ((lacks_decides 32 (codes "100644")).0 refl));
}
