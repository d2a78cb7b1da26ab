use Rattle.std.proofs.Common.{◌≡◌, ◌<◌, ℕ, false, List, map, take, get_or}
use Rattle.text_model.specs.Lists.{Each}
use Rattle.hg_model.specs.Manifest.{ManifestEntry}
use Rattle.hg_store.specs.Views.{is_unknown}
use Rattle.view_model.specs.View.{Row, entry_of_row}
use Rattle.view_model.specs.Held.{IsFileHeld}
use Rattle.pair_known.specs.Rows.{row_value}
use Rattle.pair_known.specs.Drafts.{IsRowKnown}
use Rattle.pair_known.proofs.hg_draft.rows_of.Given as goal

-- the walk is one through the near rows; the file revisions of the lines so far are known, and the rows so far are the first ones of any view
abbrev pub invariant-loop-line : goal.invariant-loop-line
invariant-loop-line l = record {
  near : l.walk ≡ l.near;
  known : (k : ℕ) (d : ManifestEntry) → k < l.line → is_unknown l.store (get_or l.manifest k d) ≡ false;
  rows : (rows : List Row) → map entry_of_row rows ≡ l.manifest → Each (IsFileHeld l.store) rows → l.rows ≡ map row_value (take l.line rows);
  blobs : Each (IsRowKnown l.store) l.rows;
}
