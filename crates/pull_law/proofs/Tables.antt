-- A table of blocks with one block more.
use Rattle.std.proofs.Common.{◌≡◌, ◌≢◌, Bool, true, false, true≢false, not, ◌&&◌, List, [], ◌∷◌, ◌++◌, map, Option, Some, None, refl, sym, ap, ◌∙◌, inl, inr}
use Rattle.std.specs.Prelude.{is_some, bytes_eq}
use Rattle.std.specs.List.{list_any}
use Rattle.std.proofs.lemmas.List.{map-append}
use Rattle.std.proofs.lemmas.List.Folds.{list_any-append}
use Rattle.std.proofs.lemmas.Slice.Eq.{bytes_eq-Decides}
use Rattle.text_model.specs.Lists.{rises}
use Rattle.text_model.specs.Text.{Bytes, is_below}
use Rattle.text_model.specs.Id.{Id, null, is_null}
use Rattle.text_model.proofs.EachLemmas.{Each-push}
use Rattle.text_model.proofs.Elements.{each_in}
use Rattle.text_model.proofs.Options.{or_parts}
use Rattle.git_model.specs.Tree.{has_distinct}
use Rattle.git_model.specs.Residue.{fits, rows_with}
use Rattle.git_model.proofs.FitLemmas.{carried-up}
use Rattle.git_model.proofs.ResidueLemmas.{path_of, path_of_item, up_filter, up_residue, carried_fits}
use Rattle.git_model.proofs.SortLemmas.{Ascends, ascends-rises}
use Rattle.git_store.proofs.DistinctLemmas.{has_distinct-push, has_distinct-front}
use Rattle.hg_model.specs.Revision.{Revision}
use Rattle.view_model.specs.View.{ChangesetView, CommitView, Row, TreeRow, ManifestParents, NoManifest, Over, changeset_node, entry_of_row, paths_of, tree_paths}
use Rattle.view_model.specs.Held.{IsManifestHeld, IsChangesetHeld, file_row_of}
use Rattle.pair_model.specs.Block.{Block, node_of, id_of, view_at, block_of_node, changesets_in}
use Rattle.pair_model.specs.Rule.{tree_row_of, old_residue, carried_to}
use Rattle.partner_model.specs.Mark.{mark_commit}
use Rattle.partner_model.specs.Partner.{IsHeldView}
use Rattle.partner_model.specs.Given.{IsCommitFor}
use Rattle.partner_model.specs.Table.{IsTable}
use Rattle.unmark_law.proofs.Tables.{finds}
use Rattle.unmark_law.proofs.TreeRows.{files_of, files_up, paths_joined, marked_rows, rows_joined}
use Rattle.pull_law.proofs.Searches.{not-among}

-- ---- ids that are distinct

pub distinct-push : (xs : List Id) (x : Id) → has_distinct xs ≡ true → list_any (bytes_eq x) xs ≡ false → has_distinct (xs ++ x ∷ []) ≡ true
distinct-push xs x distinct none = has_distinct-push xs x ∙ (λ i. distinct i && not (none i))

pub distinct-front : (xs ys : List Id) → has_distinct (xs ++ ys) ≡ true → has_distinct xs ≡ true
distinct-front xs ys h = by (has_distinct xs) refl
  where
    by : (t : Bool) → has_distinct xs ≡ t → has_distinct xs ≡ true
    by true e = e
    by false e = absurd (true≢false (sym h ∙ has_distinct-front xs ys e))

-- ---- one block more

pub push : (blocks : List Block) (b : Block) → IsTable blocks → list_any (bytes_eq (node_of b)) (map node_of blocks) ≡ false
    → has_distinct (map id_of (blocks ++ b ∷ [])) ≡ true → is_null (node_of b) ≡ false → rises is_below (tree_paths (b.commit).rows) ≡ true
    → IsTable (blocks ++ b ∷ [])
push blocks b table fresh ids some up = record {
  nodes = ap has_distinct (map-append node_of blocks (b ∷ [])) ∙ distinct-push (map node_of blocks) (node_of b) table.nodes fresh;
  ids = ids;
  there = Each-push (λ b. node_of b ≢ null) blocks b table.there (λ e. true≢false (sym ((bytes_eq-Decides (node_of b) null).1 e) ∙ some));
  rows = Each-push (λ b. rises is_below (tree_paths (b.commit).rows) ≡ true) blocks b table.rows up;
}

-- a changeset that stands in no block is that of none
pub not-saved : (blocks : List Block) (node : Id) → is_some (view_at (changesets_in blocks) node) ≡ false
    → list_any (bytes_eq node) (map node_of blocks) ≡ false
not-saved blocks node h = by blocks (not-among changeset_node node (changesets_in blocks) h)
  where
    by : (bs : List Block) → list_any (bytes_eq node) (map changeset_node (changesets_in bs)) ≡ false → list_any (bytes_eq node) (map node_of bs) ≡ false
    by [] h = refl
    by (b ∷ bs) h =
        let front = map changeset_node (b.links ++ b.changeset ∷ []) in
        let all = or_parts (list_any (bytes_eq node) front) (list_any (bytes_eq node) (map changeset_node (changesets_in bs)))
        (sym (ap (list_any (bytes_eq node)) (map-append changeset_node (b.links ++ b.changeset ∷ []) (changesets_in bs))
        ∙ list_any-append (bytes_eq node) front (map changeset_node (changesets_in bs))) ∙ h) in
        let own = or_parts (list_any (bytes_eq node) (map changeset_node b.links)) (list_any (bytes_eq node) (node_of b ∷ []))
        (sym (ap (list_any (bytes_eq node)) (map-append changeset_node b.links (b.changeset ∷ []))
        ∙ list_any-append (bytes_eq node) (map changeset_node b.links) (node_of b ∷ [])) ∙ all.0) in
        rw ((or_parts (bytes_eq node (node_of b)) false own.1).0, by bs all.1) refl

-- ---- the rows of a changeset's commit

paths-held : (rows : List Row) → map (λ e. e.path) (map entry_of_row rows) ≡ paths_of rows
paths-held [] = refl
paths-held (r ∷ rs) = ap (λ (ps : List Bytes). r.path ∷ ps) (paths-held rs)

pub paths-joined : (rows : List TreeRow) → map path_of (map file_row_of rows) ≡ tree_paths rows
paths-joined [] = refl
paths-joined (r ∷ rs) = ap (λ (ps : List Bytes). r.path ∷ ps) (paths-joined rs)

-- the files of a changeset that is held stand in order
held-rise : (known : List Revision) (node : Id) (h : ChangesetView) → IsChangesetHeld known node h → rises is_below (paths_of h.rows) ≡ true
held-rise known node h held = by h.manifest h.rows held.manifest
  where
    by : (m : ManifestParents) (rows : List Row) → IsManifestHeld known (h.fields).manifest m rows → rises is_below (paths_of rows) ≡ true
    by NoManifest rows k = ap (λ (rs : List Row). rises is_below (paths_of rs)) k.1
    by (Over p q) rows k = ap (rises is_below) (sym (paths-held rows)) ∙ (k.text).0.1

-- what the partner of a parent hands on rises
old-up : (blocks : List Block) → IsTable blocks → (node : Id) → Ascends path_of_item (old_residue blocks node)
old-up blocks table node = by (block_of_node blocks node) refl
  where
    by : (o : Option Block) → block_of_node blocks node ≡ o → Ascends path_of_item (old_residue blocks node)
    by None e = rw e tt
    by (Some b) e =
        let at = finds node_of node blocks (ap is_some e) in
        rw at.found (up_residue (map file_row_of ((at.it).commit).rows)
        (paths_joined ((at.it).commit).rows (each_in (λ b. rises is_below (tree_paths (b.commit).rows) ≡ true) blocks at.it table.rows at.among)))

marked-rise : (blocks : List Block) → IsTable blocks → (h : ChangesetView) → rises is_below (paths_of h.rows) ≡ true
    → rises is_below (tree_paths (mark_commit blocks h).rows) ≡ true
marked-rise blocks table h up =
    let items = carried_to blocks h in
    let files = files_of h.rows in
    let ascends = carried-up items files (files_up h.rows up) (up_filter (fits files) (old_residue blocks h.p) (old-up blocks table h.p))
    (carried_fits (old_residue blocks h.p) files) in
    let same : map file_row_of (mark_commit blocks h).rows ≡ rows_with items files =
    ap (map file_row_of) (marked_rows blocks h) ∙ rows_joined items (map tree_row_of h.rows) in
    ap (rises is_below) (sym (paths-joined (mark_commit blocks h).rows) ∙ ap (map path_of) same) ∙ ascends-rises path_of (rows_with items files) ascends

-- the rows of the partner of a changeset that is held stand in order
pub partner-rises : (known : List Revision) (node : Id) (blocks : List Block) → IsTable blocks → (h : ChangesetView) (c : CommitView)
    → IsChangesetHeld known node h → IsCommitFor blocks (IsHeldView known) h c → rises is_below (tree_paths c.rows) ≡ true
partner-rises known node blocks table h c held (inl even) =
    ap (λ (d : CommitView). rises is_below (tree_paths d.rows)) even.2 ∙ marked-rise blocks table h (held-rise known node h held)
partner-rises known node blocks table h c held (inr odd) = (odd.1).view.in_order
