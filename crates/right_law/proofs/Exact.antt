-- The partner of a right block is the block itself: commits that are the same and have the bodies of one changeset are equal with all contents.
use Rattle.std.proofs.Common.{◌≡◌, List, [], ◌∷◌, map, refl, sym, ap, subst, ◌∙◌, inl, inr}
use Rattle.std.specs.Prelude.{filter}
use Rattle.std.specs.List.{AllZip}
use Rattle.text_model.specs.Lists.{Each}
use Rattle.git_model.specs.Residue.{residue_of}
use Rattle.git_model.proofs.ResidueLemmas.{is_file}
use Rattle.hg_model.specs.Revision.{Revision}
use Rattle.git_model.specs.Object.{Object}
use Rattle.view_model.specs.View.{Row, TreeRow, ChangesetView, CommitView, IsChangesetView, IsCommitView, SameCommit, SameTreeRows, HaveSameBodies, HasBodiesOf, files_among}
use Rattle.pair_model.specs.Block.{Block}
use Rattle.pair_model.specs.Rule.{tree_row_of, tree_rows_with, mode_of_flag}
use Rattle.partner_model.specs.Mark.{mark_commit}
use Rattle.partner_model.specs.Partner.{IsHeldView}
use Rattle.partner_model.specs.Given.{IsCommitFor}
use Rattle.partner_model.specs.Table.{IsTable}
use Rattle.unmark_law.proofs.TreeRows.{IsFileOf, joined_from, joined_to, among_joined, plain_row, plain_rows, rows_split, marked_rows, files_marked, residue_marked}
use Rattle.unmark_law.proofs.ChangesetOne.{IsFileRow, file_rows, tree_rows, plain_is}
use Rattle.unmark_law.proofs.Same.{same_commit}
use Rattle.residue_law.proofs.Fits.{hands_on}
use Rattle.verify_model.specs.Holds.{HasPartner, IsRight}
use Rattle.frame_law.specs.Ground.{IsGround}
use Rattle.frame_law.proofs.Frame.{ground_table}

-- ---- rows

same_among : (xs ys : List TreeRow) → SameTreeRows xs ys → SameTreeRows (files_among xs) (files_among ys)
same_among xs ys s = joined_to (files_among xs) (files_among ys) (among_joined xs ∙ ap (filter is_file) (joined_from xs ys s) ∙ sym (among_joined ys))

-- files that are the same and have the same bodies are equal
files_one : (hs : List Row) (xs ys : List TreeRow) → SameTreeRows xs ys → HaveSameBodies hs xs → HaveSameBodies hs ys → xs ≡ ys
files_one [] [] ys s a b = by ys s
  where
    by : (ys : List TreeRow) → SameTreeRows [] ys → [] ≡ ys
    by [] s = refl
    by (y ∷ ys) s = absurd s
files_one [] (x ∷ xs) ys s a b = absurd a
files_one (h ∷ hs) [] ys s a b = absurd a
files_one (h ∷ hs) (x ∷ xs) [] s a b = absurd s
files_one (h ∷ hs) (x ∷ xs) (y ∷ ys) s a b =
    let content = sym a.1 ∙ b.1 in
    let rest = files_one hs xs ys s.3 a.2 b.2 in
    λ i. record { path = s.0 i; mode = s.1 i; id = s.2 i; content = content i } ∷ rest i

-- the files of a commit, as its changeset holds them
files_plain_are : (hs : List Row) (cs : List TreeRow) → AllZip IsFileOf hs cs → Each IsFileRow cs → HaveSameBodies hs cs → map tree_row_of hs ≡ map plain_row cs
files_plain_are [] [] z f b = refl
files_plain_are [] (c ∷ cs) z f b = absurd b
files_plain_are (h ∷ hs) [] z f b = absurd b
files_plain_are (h ∷ hs) (c ∷ cs) z f b =
    let mode : mode_of_flag h.flag ≡ (plain_row c).mode = ap mode_of_flag (sym (z.0).flag) ∙ plain_is c.mode (f.0).0 in
    let rest = files_plain_are hs cs z.1 f.1 b.2 in
    λ i. record { path = (z.0).path i; mode = mode i; id = (z.0).id i; content = b.1 i } ∷ rest i

turned : (c p : CommitView) → SameCommit c p → SameCommit p c
turned c p s = record { value = sym s.value; rows = joined_to p.rows c.rows (sym (joined_from c.rows p.rows s.rows)) }

-- ---- the commit of a changeset

module _ (before : List Block) (K : ChangesetView → Type 0) (t : IsTable before) (h : ChangesetView) (view : IsChangesetView h) (c : CommitView) (sound : IsCommitView c) (bodies : HasBodiesOf h.rows c.rows) where
  marked_is : SameCommit c (mark_commit before h) → c ≡ mark_commit before h
  marked_is s =
      let back = turned c (mark_commit before h) s in
      let files = files_marked before h c view.in_order back in
      let plain : map tree_row_of h.rows ≡ plain_rows c.rows = files_plain_are h.rows (files_among c.rows) files (file_rows c.rows sound.rows) bodies in
      let residue = residue_marked before t h c view.in_order back in
      let rows : c.rows ≡ (mark_commit before h).rows =
      sym (rows_split c.rows sound.in_order (tree_rows c.rows sound.rows)) ∙ (λ i. tree_rows_with (residue i) (sym plain i)) ∙ sym (marked_rows before h) in
      λ i. record { value = s.value i; rows = rows i }

  unmarked_is : (p : CommitView) → IsCommitView p → HasBodiesOf h.rows p.rows → SameCommit c p → c ≡ p
  unmarked_is p other own s =
      let files = files_one h.rows (files_among c.rows) (files_among p.rows) (same_among c.rows p.rows s.rows) bodies own in
      let joined = joined_from c.rows p.rows s.rows in
      let rows : c.rows ≡ p.rows =
      sym (rows_split c.rows sound.in_order (tree_rows c.rows sound.rows)) ∙ (λ i. tree_rows_with (residue_of (joined i)) (map plain_row (files i))) ∙ rows_split p.rows other.in_order (tree_rows p.rows other.rows) in
      λ i. record { value = s.value i; rows = rows i }

  pub commit_is : (p : CommitView) → IsCommitFor before K h p → SameCommit c p → c ≡ p
  commit_is p (inl x) s = marked_is (subst (SameCommit c) x.2 s) ∙ sym x.2
  commit_is p (inr x) s = unmarked_is p (x.1).view (x.1).bodies s

-- a partner has the bodies of its changeset
pub bodies_of : (before : List Block) (K : ChangesetView → Type 0) → IsTable before → (h : ChangesetView) (c : CommitView) → IsChangesetView h → IsCommitFor before K h c → HasBodiesOf h.rows c.rows
bodies_of before K t h c view (inl x) = subst (λ (z : CommitView). HasBodiesOf h.rows z.rows) (sym x.2) (hands_on before t h view).1
bodies_of before K t h c view (inr x) = (x.1).bodies

-- ---- the block

module _ (known : List Revision) (objects : List Object) (before : List Block) (b : Block) (g : IsGround before (IsHeldView known)) (view : IsChangesetView b.changeset) (sound : IsCommitView b.commit) where
  block_is : (r : IsRight known objects before b) → b ≡ r.partner
  block_is r =
      let x = (r.gets).block in
      let own : (r.partner).commit ≡ x.0 = ap (λ (d : Block). d.commit) x.2 in
      let changeset : b.changeset ≡ (r.partner).changeset = sym (ap (λ (d : Block). d.changeset) x.2) in
      let commit : b.commit ≡ x.0 = commit_is before (IsHeldView known) (ground_table before (IsHeldView known) g) b.changeset view b.commit sound r.bodies x.0 x.1 (subst (SameCommit b.commit) own r.commit) in
      let same : b.commit ≡ (r.partner).commit = commit ∙ sym own in
      λ i. record { links = r.links i; changeset = changeset i; commit = same i }

  -- a right block is that of its changeset
  pub own_partner : IsRight known objects before b → HasPartner known objects before b.changeset b
  own_partner r = subst (HasPartner known objects before b.changeset) (sym (block_is r)) r.gets

-- and the other way
pub right_by : (known : List Revision) (objects : List Object) (before : List Block) (b : Block) → IsGround before (IsHeldView known) → IsChangesetView b.changeset → HasPartner known objects before b.changeset b → IsRight known objects before b
right_by known objects before b g view p =
    let x = p.block in
    let own : b.commit ≡ x.0 = ap (λ (d : Block). d.commit) x.2 in
    record {
      partner = b;
      gets = p;
      commit = same_commit b.commit;
      links = refl;
      bodies = subst (λ (c : CommitView). HasBodiesOf (b.changeset).rows c.rows) (sym own) (bodies_of before (IsHeldView known) (ground_table before (IsHeldView known) g) b.changeset x.0 view x.1);
    }
