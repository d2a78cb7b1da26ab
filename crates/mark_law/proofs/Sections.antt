-- The marks files_within a changeset fall apart by their kinds, so equal lists have equal parts.
use Rattle.std.proofs.Common.{◌≡◌, ℕ, ◌+◌, ◌≤◌, Bool, true, false, List, [], ◌∷◌, ◌++◌, map, Option, Some, None, refl, sym, ap, subst, ◌∙◌, append_assoc, arith}
use Rattle.std.specs.Prelude.{if◌then◌else◌, bytes_eq}
use Rattle.std.specs.List.{flat_map}
use Rattle.text_model.proofs.EachLemmas.{Each-append}
use Rattle.text_model.specs.Lists.{Each}
use Rattle.text_model.specs.Text.{Bytes}
use Rattle.hg_model.specs.Changeset.{DateLine, Plain, Raw, Extra}
use Rattle.pair_model.specs.Block.{Parents}
use Rattle.pair_model.specs.User.{UserDate, user_of_line}
use Rattle.view_model.specs.View.{Row, ChangesetView}
use Rattle.pair_model.specs.Rule.{author_by, ruled_manifest, ruled_files}
use Rattle.pair_model.specs.MarkList.{Mark, Manifest, Files, User, Date, OneExtra, mark_rank}
use Rattle.partner_model.specs.Mark.{rename_source, revision_mark, is_ruled, entry_marks, manifest_marks, same_manifest, files_marks, same_paths, user_marks, same_numbers, date_marks, commit_marks}

-- each kind lies between the two
abbrev pub Within : ℕ → ℕ → List Mark → Type 0
Within low high ms = Each (λ m. (low ≤ mark_rank m) × (mark_rank m ≤ high)) ms

pub wider : (a b low high : ℕ) (ms : List Mark) → low ≤ a → b ≤ high → Within a b ms → Within low high ms
wider a b low high [] l h w = tt
wider a b low high (m ∷ ms) l h w = ((omega (arith, w.0.0), omega (arith, w.0.1)), wider a b low high ms l h w.1)

pub cut_at_kind : (low k high : ℕ) (xs ys r s : List Mark) → Within low k xs → Within low k ys → Within (k + 1) high r → Within (k + 1) high s → xs ++ r ≡ ys ++ s → (xs ≡ ys) × (r ≡ s)
cut_at_kind low k high [] [] r s a b c d e = (refl, e)
cut_at_kind low k high [] (y ∷ ys) r s a b c d e =
    let t = subst (λ (x : List Mark). Within (k + 1) high x) e c in absurd (omega (arith, t.0.0, b.0.1))
cut_at_kind low k high (x ∷ xs) [] r s a b c d e =
    let t = subst (λ (x : List Mark). Within (k + 1) high x) (sym e) d in absurd (omega (arith, t.0.0, a.0.1))
cut_at_kind low k high (x ∷ xs) (y ∷ ys) r s a b c d e =
    let h : x ≡ y = cc in
    let t : xs ++ r ≡ ys ++ s = cc in
    let k = cut_at_kind low k high xs ys r s a.1 b.1 c d t in
    ((λ i. h i ∷ k.0 i), k.1)

entry_within : (ps : Parents) (row : Row) → Within 0 0 (entry_marks ps row)
unfolding entry_marks
entry_within ps row = by (is_ruled ps row) (rename_source ps row.revision)
  where
    by : (t : Bool) (o : Option Bytes) → Within 0 0 (if t then [] else revision_mark row.path row.revision o ∷ [])
    by true o = tt
    by false None = ((omega arith, omega arith), tt)
    by false (Some s) = ((omega arith, omega arith), tt)

pub entries_within : (ps : Parents) (rows : List Row) → Within 0 0 (flat_map (entry_marks ps) rows)
entries_within ps [] = tt
entries_within ps (row ∷ rows) = Each-append (λ m. (0 ≤ mark_rank m) × (mark_rank m ≤ 0)) (entry_marks ps row) (flat_map (entry_marks ps) rows) (entry_within ps row) (entries_within ps rows)

pub one_within : (n : ℕ) (t : Bool) (m : Mark) → mark_rank m ≡ n → Within n n (if t then [] else m ∷ [])
one_within n true m e = tt
one_within n false m e = ((omega arith, omega arith), tt)

pub extras_within : (es : List Extra) → Within 5 5 (map OneExtra es)
extras_within [] = tt
extras_within (e ∷ es) = ((omega arith, omega arith), extras_within es)

pub date_within : (d : DateLine) (given : UserDate) → Within 4 6 (date_marks d given)
date_within (Plain time tz es) given =
    Each-append (λ m. (4 ≤ mark_rank m) × (mark_rank m ≤ 6)) (if same_numbers time tz given then [] else Date time tz ∷ []) (map OneExtra es)
    (wider 4 4 4 6 (if same_numbers time tz given then [] else Date time tz ∷ []) (omega arith) (omega arith) (one_within 4 (same_numbers time tz given) (Date time tz) refl))
    (wider 5 5 4 6 (map OneExtra es) (omega arith) (omega arith) (extras_within es))
date_within (Raw text) given = ((omega arith, omega arith), tt)

abbrev pub given_of : ChangesetView → UserDate
given_of h = user_of_line (author_by (h.fields).user (h.fields).date)

-- the marks from the user on, from the files on, from the manifest on
abbrev pub from_user : UserDate → ChangesetView → List Mark
from_user given x = user_marks (x.fields).user given ++ date_marks (x.fields).date given

abbrev pub from_files : Parents → UserDate → ChangesetView → List Mark
from_files ps given x = files_marks ps x ++ from_user given x

abbrev pub from_manifest : Parents → UserDate → ChangesetView → List Mark
from_manifest ps given x = manifest_marks ps x ++ from_files ps given x

pub manifest_within : (ps : Parents) (x : ChangesetView) → Within 1 1 (manifest_marks ps x)
manifest_within ps x = one_within 1 (same_manifest x.manifest (ruled_manifest ps x.rows)) (Manifest x.manifest) refl

pub files_within : (ps : Parents) (x : ChangesetView) → Within 2 2 (files_marks ps x)
files_within ps x = one_within 2 (same_paths (x.fields).files (ruled_files ps x.rows)) (Files (x.fields).files) refl

pub user_within : (given : UserDate) (x : ChangesetView) → Within 3 3 (user_marks (x.fields).user given)
user_within given x = one_within 3 (bytes_eq (x.fields).user given.user) (User (x.fields).user) refl

pub from_user_within : (given : UserDate) (x : ChangesetView) → Within 3 6 (from_user given x)
from_user_within given x = Each-append (λ m. (3 ≤ mark_rank m) × (mark_rank m ≤ 6)) (user_marks (x.fields).user given) (date_marks (x.fields).date given)
    (wider 3 3 3 6 (user_marks (x.fields).user given) (omega arith) (omega arith) (user_within given x)) (wider 4 6 3 6 (date_marks (x.fields).date given) (omega arith) (omega arith) (date_within (x.fields).date given))

pub from_files_within : (ps : Parents) (given : UserDate) (x : ChangesetView) → Within 2 6 (from_files ps given x)
from_files_within ps given x = Each-append (λ m. (2 ≤ mark_rank m) × (mark_rank m ≤ 6)) (files_marks ps x) (from_user given x)
    (wider 2 2 2 6 (files_marks ps x) (omega arith) (omega arith) (files_within ps x)) (wider 3 6 2 6 (from_user given x) (omega arith) (omega arith) (from_user_within given x))

pub from_manifest_within : (ps : Parents) (given : UserDate) (x : ChangesetView) → Within 1 6 (from_manifest ps given x)
from_manifest_within ps given x = Each-append (λ m. (1 ≤ mark_rank m) × (mark_rank m ≤ 6)) (manifest_marks ps x) (from_files ps given x)
    (wider 1 1 1 6 (manifest_marks ps x) (omega arith) (omega arith) (manifest_within ps x)) (wider 2 6 1 6 (from_files ps given x) (omega arith) (omega arith) (from_files_within ps given x))

-- equal marks have equal parts
pub record SameParts (ps : Parents) (given : UserDate) (h k : ChangesetView) : Type 0 where
  pub entries : flat_map (entry_marks ps) h.rows ≡ flat_map (entry_marks ps) k.rows
  pub manifest : manifest_marks ps h ≡ manifest_marks ps k
  pub files : files_marks ps h ≡ files_marks ps k
  pub user : user_marks (h.fields).user given ≡ user_marks (k.fields).user given
  pub date : date_marks (h.fields).date given ≡ date_marks (k.fields).date given

pub turned : (ps : Parents) (given : UserDate) (h : ChangesetView) → given_of h ≡ given → commit_marks ps h ≡ flat_map (entry_marks ps) h.rows ++ from_manifest ps given h
unfolding commit_marks
turned ps given h g = simp append_assoc (ap (λ (x : UserDate). flat_map (entry_marks ps) h.rows ++ from_manifest ps x h) g)

pub parts_same : (ps : Parents) (given : UserDate) (h k : ChangesetView) → given_of h ≡ given → given_of k ≡ given → commit_marks ps h ≡ commit_marks ps k → SameParts ps given h k
parts_same ps given h k g l e =
    let a = cut_at_kind 0 0 6 (flat_map (entry_marks ps) h.rows) (flat_map (entry_marks ps) k.rows) (from_manifest ps given h) (from_manifest ps given k) (entries_within ps h.rows) (entries_within ps k.rows) (from_manifest_within ps given h) (from_manifest_within ps given k) (sym (turned ps given h g) ∙ e ∙ turned ps given k l) in
    let b = cut_at_kind 1 1 6 (manifest_marks ps h) (manifest_marks ps k) (from_files ps given h) (from_files ps given k) (manifest_within ps h) (manifest_within ps k) (from_files_within ps given h) (from_files_within ps given k) a.1 in
    let c = cut_at_kind 2 2 6 (files_marks ps h) (files_marks ps k) (from_user given h) (from_user given k) (files_within ps h) (files_within ps k) (from_user_within given h) (from_user_within given k) b.1 in
    let d = cut_at_kind 3 3 6 (user_marks (h.fields).user given) (user_marks (k.fields).user given) (date_marks (h.fields).date given) (date_marks (k.fields).date given) (user_within given h) (user_within given k) (date_within (h.fields).date given) (date_within (k.fields).date given) c.1 in
    record { entries = a.0; manifest = b.0; files = c.0; user = d.0; date = d.1 }
