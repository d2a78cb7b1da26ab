-- The files of a changeset's commit come back as those of its files alone, whatever its first parent's commit hands on.
use Rattle.std.proofs.Common.{◌≡◌, Bool, true, false, List, [], ◌∷◌, map, refl, sym, ap, ◌∙◌}
use Rattle.std.specs.Prelude.{IsTrue}
use Rattle.std.specs.List.{list_any}
use Rattle.text_model.specs.Lists.{Each, rises}
use Rattle.text_model.specs.Text.{Bytes, is_below}
use Rattle.git_model.specs.Tree.{Mode, File}
use Rattle.git_model.specs.Residue.{ResidueItem, is_group_at, mode_with}
use Rattle.git_model.proofs.SortLemmas.{rises-ascends}
use Rattle.git_model.proofs.ResidueLemmas.{GroupsFit}
use Rattle.view_model.specs.View.{TreeRow, files_among, tree_paths}
use Rattle.view_model.specs.Held.{file_row_of}
use Rattle.pair_model.specs.Block.{Parents}
use Rattle.pair_model.specs.Rule.{flag_of_mode, ruled_revision, ruled_row, ruled_rows, tree_row_with, tree_rows_with}
use Rattle.commit_rule.proofs.FileLemmas.{IsBlobRow}
use Rattle.commit_rule.proofs.Handed.{files-with}

-- the mode of a group is that of a plain file to a changeset
flag-with : (items : List ResidueItem) (path : Bytes) (mode : Mode) → (list_any (is_group_at path) items ≡ true → mode ≡ File) → flag_of_mode (mode_with items path mode) ≡ flag_of_mode mode
flag-with items path mode fit = by (list_any (is_group_at path) items) refl
  where
    by : (t : Bool) → list_any (is_group_at path) items ≡ t → flag_of_mode (mode_with items path mode) ≡ flag_of_mode mode
    by true e = rw e (ap flag_of_mode (sym (fit e)))
    by false e = rw e refl

rows-with : (ps : Parents) (items : List ResidueItem) (ts : List TreeRow) → GroupsFit items (map file_row_of ts) → map (ruled_row ps) (map (tree_row_with items) ts) ≡ map (ruled_row ps) ts
unfolding ruled_revision
rows-with ps items [] fit = refl
rows-with ps items (t ∷ ts) fit = λ i. record (ruled_row ps t) { flag = flag-with items t.path t.mode fit.0 i } ∷ rows-with ps items ts fit.1 i

files-alone : (ts : List TreeRow) → Each IsBlobRow ts → files_among ts ≡ ts
files-alone [] h = refl
files-alone (t ∷ ts) h = rw (h.0) (ap (λ (l : List TreeRow). t ∷ l) (files-alone ts h.1))

pub ruled-with : (ps : Parents) (items : List ResidueItem) (ts : List TreeRow) → IsTrue (rises is_below (tree_paths ts)) → Each IsBlobRow ts → GroupsFit items (map file_row_of ts)
    → ruled_rows ps (tree_rows_with items ts) ≡ ruled_rows ps ts
ruled-with ps items ts rises blobs fit =
    ap (map (ruled_row ps)) (files-with items ts (rises-ascends (λ (row : TreeRow). row.path) ts rises) blobs)
    ∙ rows-with ps items ts fit ∙ ap (map (ruled_row ps)) (sym (files-alone ts blobs))
