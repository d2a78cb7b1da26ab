-- The content of a tree fits, and is that of one tree.
use Rattle.std.proofs.Common.{◌≡◌, ◌≤◌, ◌&&◌, ℕ, Bool, true, false, not, List, [], ◌∷◌, ◌++◌, length, Some, None, Ok, refl, sym, ap, subst, ◌∙◌, arith, append_assoc, append-nil, length-append, bytes_eq, nat_lt}
use Rattle.std.specs.Prelude.{IsTrue}
use Rattle.std.specs.List.{list_any}
use Rattle.std.proofs.lemmas.Bool.Decides.{nat_tests}
use Rattle.std.proofs.lemmas.List.{take_at, drop_at}
use Rattle.text_model.specs.Lists.{rises}
use Rattle.text_model.specs.Text.{Bytes, IsBytes, sp, nul, has_byte, is_below}
use Rattle.text_model.specs.Id.{IsId}
use Rattle.text_model.specs.Cuts.{Lacks}
use Rattle.text_model.specs.Path.{is_fit_path, is_fit_name}
use Rattle.text_model.proofs.EachLemmas.{Each-rest}
use Rattle.text_model.proofs.TestLemmas.{both}
use Rattle.text_model.proofs.CutLemmas.{cut_of-at}
use Rattle.text_model.proofs.LackLemmas.{Lacks-by_test}
use Rattle.text_model.proofs.Options.{not_true, or_parts}
use Rattle.git_model.specs.Tree.{Mode, File, GroupFile, Exec, Link, Directory, Gitlink, mode_text, mode_of, TreeEntry, tree_entry_text, tree_text, is_entry_below, has_distinct, IsTree, IsTreeText, RawEntry, first_entry, is_octal, rises_behind, has_name, judged, tree_fault, tree_entries, order_name, sort_name}
use Rattle.git_model.proofs.TreeOrderLemmas.{last_of_more}
use Rattle.git_model.proofs.TreeLemmas.{judged-ok}
use Rattle.git_model.proofs.TreeReadLemmas.{directory_is, ReadTo, read_none, read_more, read_all_fits, read_all_entries, names_of}

-- an entry as it stands in a content
abbrev pub raw_of : TreeEntry → RawEntry
raw_of e = record { mode = mode_text e.mode; name = e.name; id = e.id }

mode_lacks : (mode : Mode) → Lacks sp (mode_text mode)
mode_lacks File = Lacks-by_test sp (mode_text File) refl
mode_lacks GroupFile = Lacks-by_test sp (mode_text GroupFile) refl
mode_lacks Exec = Lacks-by_test sp (mode_text Exec) refl
mode_lacks Link = Lacks-by_test sp (mode_text Link) refl
mode_lacks Directory = Lacks-by_test sp (mode_text Directory) refl
mode_lacks Gitlink = Lacks-by_test sp (mode_text Gitlink) refl

mode_of-text : (mode : Mode) → Some mode ≡ mode_of (mode_text mode)
mode_of-text File = refl
mode_of-text GroupFile = refl
mode_of-text Exec = refl
mode_of-text Link = refl
mode_of-text Directory = refl
mode_of-text Gitlink = refl

is_octal-text : (mode : Mode) → is_octal (mode_text mode) ≡ true
is_octal-text File = refl
is_octal-text GroupFile = refl
is_octal-text Exec = refl
is_octal-text Link = refl
is_octal-text Directory = refl
is_octal-text Gitlink = refl

-- a fit name has no NUL
fit-lacks : (name : Bytes) → is_fit_name name ≡ true → Lacks nul name
unfolding is_fit_path
fit-lacks name h =
    let path = both (is_fit_path name) (not (has_byte 47 name)) h in
    let six = both _ _ path.0 in
    let five = both _ _ six.0 in
    let four = both _ _ five.0 in
    let three = both _ _ four.0 in
    Lacks-by_test nul name (not_true (has_byte 0 name) three.1)

enough : (n : ℕ) → 20 ≤ n → nat_lt n 20 ≡ false
enough n h = grind (arith, h, nat_tests)

pub first_entry-text : (e : TreeEntry) (rest : Bytes) → is_fit_name e.name ≡ true → IsId e.id → first_entry (tree_entry_text e ++ rest) ≡ Some (raw_of e, rest)
unfolding first_entry
first_entry-text e rest fit id =
    let regroup : tree_entry_text e ++ rest ≡ mode_text e.mode ++ sp ∷ (e.name ++ nul ∷ (e.id ++ rest)) =
    append_assoc (mode_text e.mode ++ sp ∷ e.name) (nul ∷ e.id) rest ∙ append_assoc (mode_text e.mode) (sp ∷ e.name) (nul ∷ (e.id ++ rest)) in
    let long : nat_lt (length (e.id ++ rest)) 20 ≡ false = enough (length (e.id ++ rest)) (omega (arith, length-append e.id rest, id.0)) in
    rw (
      regroup,
      cut_of-at sp (mode_text e.mode) (e.name ++ nul ∷ (e.id ++ rest)) (mode_lacks e.mode),
      cut_of-at nul e.name (e.id ++ rest) (fit-lacks e.name fit),
      long,
      take_at e.id rest 20 id.0,
      drop_at e.id rest 20 id.0,
    ) refl

-- ---- an entry of a tree behind those before it

above_last : (before : List TreeEntry) (e : TreeEntry) (later : List TreeEntry) → rises is_entry_below (before ++ e ∷ later) ≡ true → rises_behind before (raw_of e) ≡ true
above_last [] e later h = refl
above_last (x ∷ []) e later h = by later h
  where
    key : is_entry_below x e ≡ rises_behind (x ∷ []) (raw_of e)
    key = ap (λ (d : Bool). is_below (sort_name x.mode x.name) (order_name d e.name)) (sym (directory_is e.mode))

    by : (later : List TreeEntry) → rises is_entry_below (x ∷ e ∷ later) ≡ true → rises_behind (x ∷ []) (raw_of e) ≡ true
    by later h = sym key ∙ (both (is_entry_below x e) (rises is_entry_below (e ∷ later)) h).0
above_last (x ∷ y ∷ ys) e later h =
    last_of_more x y ys (raw_of e) ∙ above_last (y ∷ ys) e later (both (is_entry_below x y) (rises is_entry_below (y ∷ (ys ++ e ∷ later))) h).1

not_among : (name : Bytes) (xs : List TreeEntry) (e : TreeEntry) (later : List TreeEntry) → list_any (bytes_eq name) (names_of (xs ++ e ∷ later)) ≡ false → bytes_eq name e.name ≡ false
not_among name [] e later h = (or_parts (bytes_eq name e.name) (list_any (bytes_eq name) (names_of later)) h).0
not_among name (x ∷ xs) e later h = not_among name xs e later (or_parts (bytes_eq name x.name) (list_any (bytes_eq name) (names_of (xs ++ e ∷ later))) h).1

new_name : (before : List TreeEntry) (e : TreeEntry) (later : List TreeEntry) → has_distinct (names_of (before ++ e ∷ later)) ≡ true → has_name before e.name ≡ false
new_name [] e later h = refl
new_name (x ∷ xs) e later h =
    let parts = both (not (list_any (bytes_eq x.name) (names_of (xs ++ e ∷ later)))) (has_distinct (names_of (xs ++ e ∷ later))) h in
    rw (not_among x.name xs e later (not_true (list_any (bytes_eq x.name) (names_of (xs ++ e ∷ later))) parts.0)) (new_name xs e later parts.1)

judged-text : (before : List TreeEntry) (e : TreeEntry) (later : List TreeEntry) → IsTree (before ++ e ∷ later) → is_fit_name e.name ≡ true → judged before (raw_of e) ≡ Ok e
judged-text before e later is fit =
    let shape : (is_octal (mode_text e.mode) && rises_behind before (raw_of e) && not (has_name before e.name)) ≡ true =
    rw (is_octal-text e.mode, above_last before e later is.1, new_name before e later is.2) refl in
    judged-ok before (raw_of e) e.mode shape (mode_of-text e.mode) fit

-- ---- all entries of a tree

pass : (content : Bytes) (later before : List TreeEntry) → ReadTo content before (tree_text later) → IsTree (before ++ later) → ReadTo content (before ++ later) []
unfolding tree_text
pass content [] before so_far is = subst (λ (entries : List TreeEntry). ReadTo content entries []) (sym (append-nil before)) so_far
pass content (e ∷ later) before so_far is =
    let here = Each-rest (λ (x : TreeEntry). IsTrue (is_fit_name x.name) × IsBytes x.name × IsId x.id) before (e ∷ later) is.0 in
    let next = read_more content before (tree_entry_text e ++ tree_text later) (raw_of e) (tree_text later) e so_far (first_entry-text e (tree_text later) here.0.0 here.0.2) (judged-text before e later is here.0.0) in
    let whole : (before ++ e ∷ []) ++ later ≡ before ++ e ∷ later = append_assoc before (e ∷ []) later in
    subst (λ (entries : List TreeEntry). ReadTo content entries []) whole (pass content later (before ++ e ∷ []) next (subst IsTree (sym whole) is))

all_read : (content : Bytes) (entries : List TreeEntry) → IsTreeText content entries → ReadTo content entries []
all_read content entries is = pass content entries [] (subst (ReadTo content []) is.1 (read_none content)) is.0

pub tree_fault-text : (content : Bytes) (entries : List TreeEntry) → IsTreeText content entries → tree_fault content ≡ None
tree_fault-text content entries is = read_all_fits content entries (all_read content entries is)

pub tree_entries-text : (content : Bytes) (entries : List TreeEntry) → IsTreeText content entries → tree_entries content ≡ entries
tree_entries-text content entries is = read_all_entries content entries (all_read content entries is)

pub one_tree : (content : Bytes) (entries others : List TreeEntry) → IsTreeText content entries → IsTreeText content others → entries ≡ others
one_tree content entries others is are = sym (tree_entries-text content entries is) ∙ tree_entries-text content others are
