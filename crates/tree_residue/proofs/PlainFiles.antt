-- The files among rows, as a changeset has them, are rows of files in their order.
use Rattle.std.proofs.Common.{◌≡◌, Bool, true, false, true≢false, List, [], ◌∷◌, refl, sym}
use Rattle.text_model.specs.Lists.{Each}
use Rattle.text_model.specs.Text.{is_below}
use Rattle.git_model.specs.Tree.{Mode, File, GroupFile, Exec, Link, Directory, Gitlink, is_directory, is_blob_mode}
use Rattle.git_model.specs.Unfold.{FileRow}
use Rattle.git_model.specs.Residue.{plain_mode, plain_file, plain_files}
use Rattle.git_model.proofs.SortLemmas.{Ascends, rises-ascends, ascends-rises}
use Rattle.git_model.proofs.ResidueLemmas.{path_of, IsPlainRow}
use Rattle.tree_shape.specs.Sets.{IsFileRow, IsFiles}

-- what each file has, as a changeset has it, where each row has it
module _ (P Q : FileRow → Type 0) (one : (row : FileRow) → is_blob_mode row.mode ≡ true → P row → Q (plain_file row)) where
  pub each-plain : (rows : List FileRow) → Each P rows → Each Q (plain_files rows)
  each-plain [] h = tt
  each-plain (row ∷ rows) h = by (is_blob_mode row.mode) refl (each-plain rows h.1)
    where
      by : (t : Bool) → is_blob_mode row.mode ≡ t → Each Q (plain_files rows) → Each Q (plain_files (row ∷ rows))
      by true e rest = rw e (one row e h.0, rest)
      by false e rest = rw e rest

pub plain-rows : (rows : List FileRow) → Each IsPlainRow (plain_files rows)
plain-rows [] = tt
plain-rows (row ∷ rows) = by row.mode refl (plain-rows rows)
  where
    by : (m : Mode) → row.mode ≡ m → Each IsPlainRow (plain_files rows) → Each IsPlainRow (plain_files (row ∷ rows))
    by File e rest = rw e ((refl, refl), rest)
    by GroupFile e rest = rw e ((refl, refl), rest)
    by Exec e rest = rw e ((refl, refl), rest)
    by Link e rest = rw e ((refl, refl), rest)
    by Directory e rest = rw e rest
    by Gitlink e rest = rw e rest

pub plain-up : (rows : List FileRow) → Ascends path_of rows → Ascends path_of (plain_files rows)
plain-up [] up = tt
plain-up (row ∷ rows) up = by (is_blob_mode row.mode) refl (plain-up rows up.1)
  where
    by : (t : Bool) → is_blob_mode row.mode ≡ t → Ascends path_of (plain_files rows) → Ascends path_of (plain_files (row ∷ rows))
    by true e rest =
        let behind = each-plain (λ r. is_below row.path r.path ≡ true) (λ r. is_below row.path r.path ≡ true) (λ r file b. b) rows up.0 in
        rw e (behind, rest)
    by false e rest = rw e rest

file-row : (row : FileRow) → is_blob_mode row.mode ≡ true → IsFileRow row → IsFileRow (plain_file row)
file-row row file is = record { fit = is.fit; bytes = is.bytes; empty = λ d. absurd (none row.mode file d); id = is.id }
  where
    none : (m : Mode) → is_blob_mode m ≡ true → is_directory (plain_mode m) ≡ true → ⊥
    none File b d = true≢false (sym d)
    none GroupFile b d = true≢false (sym d)
    none Exec b d = true≢false (sym d)
    none Link b d = true≢false (sym d)
    none Directory b d = true≢false (sym b)
    none Gitlink b d = true≢false (sym b)

pub are-files : (rows : List FileRow) → IsFiles rows → IsFiles (plain_files rows)
are-files rows is = record {
  each = each-plain IsFileRow IsFileRow file-row rows is.each;
  in_order = ascends-rises path_of (plain_files rows) (plain-up rows (rises-ascends path_of rows is.in_order));
}
