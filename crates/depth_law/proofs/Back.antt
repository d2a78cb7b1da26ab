-- The plain rules there and back: descriptions, parents, rows.
use Rattle.std.proofs.Common.{◌≡◌, ℕ, ◌≤◌, Bool, true, false, List, [], ◌∷◌, ◌++◌, length, map, refl, sym, ap, subst, ◌∙◌, arith}
use Rattle.std.specs.Prelude.{if◌then◌else◌}
use Rattle.std.specs.List.{flat_map, AllZip}
use Rattle.std.proofs.lemmas.Bool.Decides.{when_true}
use Rattle.std.proofs.lemmas.Slice.Eq.{bytes_eq-Decides}
use Rattle.text_model.specs.Text.{Bytes}
use Rattle.text_model.specs.Id.{Id, null, is_null}
use Rattle.hg_model.specs.Manifest.{Flag, Regular, Executable, Symlink}
use Rattle.git_model.specs.Tree.{is_blob_mode}
use Rattle.pair_model.specs.Block.{Block, not_null, changesets_in, Parents, parents_among}
use Rattle.pair_model.specs.User.{message_of, description_of}
use Rattle.pair_model.proofs.MessageLemmas.{description_of-message_of}
use Rattle.view_model.specs.View.{Row, TreeRow, CommitView, commit_id, changeset_node}
use Rattle.pair_model.specs.Rule.{mode_of_flag, flag_of_mode, ruled_row}
use Rattle.pair_model.specs.Octopus.{links_of, links_by, links_over, last_id, first_of, second_of, partners_of_parents, parents_of_commit}
use Rattle.partner_model.specs.Mark.{is_ruled, entry_marks, rename_source, revision_mark}
use Rattle.partner_model.specs.Partner.{IsUnmarkedRow}
use Rattle.unmark_law.proofs.Tables.{eq_true}
use Rattle.unmark_law.proofs.TreeRows.{IsFileOf}

-- a description comes back from its message
pub description_back : (d : Bytes) → description_of (message_of d) ≡ d
description_back d = description_of-message_of d

-- ---- flags and modes

pub flag_back : (f : Flag) → flag_of_mode (mode_of_flag f) ≡ f
flag_back Regular = refl
flag_back Executable = refl
flag_back Symlink = refl

pub flag_is_file : (f : Flag) → is_blob_mode (mode_of_flag f) ≡ true
flag_is_file Regular = refl
flag_is_file Executable = refl
flag_is_file Symlink = refl

-- ---- lists without elements

pub nil_front : {X : Type 0} (xs ys : List X) → xs ++ ys ≡ [] → xs ≡ []
nil_front [] ys e = refl
nil_front (x ∷ xs) ys e = absurd cc

pub nil_back : {X : Type 0} (xs ys : List X) → xs ++ ys ≡ [] → ys ≡ []
nil_back [] ys e = e
nil_back (x ∷ xs) ys e = absurd cc

-- ---- rows without marks are those of the rule

pub ruled_from : (ps : Parents) (row : Row) → entry_marks ps row ≡ [] → is_ruled ps row ≡ true
unfolding entry_marks
ruled_from ps row e = by (is_ruled ps row) refl e
  where
    by : (t : Bool) → is_ruled ps row ≡ t → (if t then [] else revision_mark row.path row.revision (rename_source ps row.revision) ∷ []) ≡ [] → is_ruled ps row ≡ true
    by true f g = f
    by false f g = absurd cc

pub ruled_rows_are : (ps : Parents) (hs : List Row) (cs : List TreeRow) → AllZip IsFileOf hs cs → AllZip (IsUnmarkedRow ps) hs cs → flat_map (entry_marks ps) hs ≡ [] → map (ruled_row ps) cs ≡ hs
ruled_rows_are ps [] [] s u e = refl
ruled_rows_are ps [] (c ∷ cs) s u e = absurd s
ruled_rows_are ps (h ∷ hs) [] s u e = absurd s
ruled_rows_are ps (h ∷ hs) (c ∷ cs) s u e =
    let r = ruled_from ps h (nil_front (entry_marks ps h) (flat_map (entry_marks ps) hs) e) in
    let revision = sym (when_true (h.revision ≡ (ruled_row ps c).revision) ((h.revision).body ≡ c.content) r u.0) in
    let path : c.path ≡ h.path = sym (s.0).path in
    let flag : flag_of_mode c.mode ≡ h.flag = (s.0).flag in
    let rest = ruled_rows_are ps hs cs s.1 u.1 (nil_back (entry_marks ps h) (flat_map (entry_marks ps) hs) e) in
    λ i. record { path = path i; flag = flag i; revision = revision i } ∷ rest i

-- ---- parents

first_back : (p q : Id) → (p ≡ null → q ≡ null) → first_of (not_null (p ∷ q ∷ [])) ≡ p
first_back p q h = by (is_null p) (is_null q) refl refl
  where
    by : (s t : Bool) → is_null p ≡ s → is_null q ≡ t → first_of (not_null (p ∷ q ∷ [])) ≡ p
    by true t e f =
        let a = eq_true p null e in
        let g : is_null q ≡ true = (bytes_eq-Decides q null).1 (h a) in
        rw (e, g) (sym a)
    by false true e f = rw e refl
    by false false e f = rw e refl

second_back : (p q : Id) → (p ≡ null → q ≡ null) → second_of (not_null (p ∷ q ∷ [])) ≡ q
second_back p q h = by (is_null p) (is_null q) refl refl
  where
    by : (s t : Bool) → is_null p ≡ s → is_null q ≡ t → second_of (not_null (p ∷ q ∷ [])) ≡ q
    by true t e f =
        let b = h (eq_true p null e) in
        let g : is_null q ≡ true = (bytes_eq-Decides q null).1 b in
        rw (e, g) (sym b)
    by false true e f = rw (e, f) (sym (eq_true q null f))
    by false false e f = rw (e, f) refl

pub few_parents : (p q : Id) → length (not_null (p ∷ q ∷ [])) ≤ 2
few_parents p q = by (is_null p) (is_null q) refl refl
  where
    by : (s t : Bool) → is_null p ≡ s → is_null q ≡ t → length (not_null (p ∷ q ∷ [])) ≤ 2
    by true true e f = rw (e, f) (omega arith)
    by true false e f = rw (e, f) (omega arith)
    by false true e f = rw (e, f) (omega arith)
    by false false e f = rw (e, f) (omega arith)

-- at most two partners have no links
pub no_links : (blocks : List Block) (id : Id) (n : ℕ) (xs : List Id) → length xs ≤ 2 → links_by blocks id n xs ≡ []
unfolding links_over
no_links blocks id n [] l = refl
no_links blocks id n (x ∷ []) l = refl
no_links blocks id n (x ∷ y ∷ []) l = refl
no_links blocks id n (x ∷ y ∷ z ∷ xs) l = absurd (omega arith)

pub links_none : (blocks : List Block) (c : CommitView) → length (partners_of_parents blocks c) ≤ 2 → links_of blocks c ≡ []
unfolding links_of
links_none blocks c l = no_links blocks (commit_id c) (length (c.value).parents) (partners_of_parents blocks c) l

-- the parents of a commit whose partners are these
pub parents_back : (blocks : List Block) (c : CommitView) (p q : Id) → (p ≡ null → q ≡ null) → partners_of_parents blocks c ≡ not_null (p ∷ q ∷ []) → parents_of_commit blocks c ≡ parents_among (changesets_in blocks) p q
unfolding parents_of_commit
parents_back blocks c p q h e =
    let l : length (partners_of_parents blocks c) ≤ 2 = subst (λ (x : List Id). length x ≤ 2) (sym e) (few_parents p q) in
    let none = links_none blocks c l in
    let a : first_of (partners_of_parents blocks c) ≡ p = ap first_of e ∙ first_back p q h in
    let b : second_of (partners_of_parents blocks c) ≡ q = ap second_of e ∙ second_back p q h in
    λ i. parents_among (none i ++ changesets_in blocks) (last_id (a i ∷ map changeset_node (none i))) (b i)
