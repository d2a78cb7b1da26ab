-- The bodies of a changeset's files and the blobs of a commit that is held.
use Rattle.std.proofs.Common.{◌≡◌, Bool, true, false, List, [], ◌∷◌, Some, refl, sym, ap, ◌∙◌}
use Rattle.std.specs.Prelude.{is_some, if◌then◌else◌, IsTrue}
use Rattle.text_model.specs.Lists.{Each}
use Rattle.text_model.specs.Text.{IsBytes}
use Rattle.text_model.specs.Path.{is_fit_path}
use Rattle.text_model.specs.Id.{Id, blob_id}
use Rattle.text_model.proofs.Options.{some_is}
use Rattle.git_model.specs.Object.{Object, object_at, knows_object}
use Rattle.git_model.specs.Tree.{is_blob_mode}
use Rattle.view_model.specs.View.{Row, TreeRow, CommitView, IsCommitView, SameCommit, SameTreeRows, IsRowId, HasBodiesOf, HaveSameBodies, files_among}
use Rattle.view_model.specs.Held.{IsCommitHeld, IsRowHeld, IsBlobHeld}
use Rattle.pair_choice.specs.Bodies.{IsBodyHeld}
use Rattle.pair_state.specs.Blocks.{body_blob}
use Rattle.pair_state.proofs.CommitParts.{blob-id}

-- ---- the files among rows

blobs-among : (known : List Object) (rows : List TreeRow) → Each (IsRowHeld known) rows → Each (IsBlobHeld known) (files_among rows)
blobs-among known [] held = tt
blobs-among known (row ∷ rows) held = by (is_blob_mode row.mode) refl (blobs-among known rows held.1)
  where
    by : (t : Bool) → is_blob_mode row.mode ≡ t → Each (IsBlobHeld known) (files_among rows) → Each (IsBlobHeld known) (if t then row ∷ files_among rows else files_among rows)
    by true e more = ((held.0).blob e, more)
    by false e more = more

-- the id of each is that of its content
abbrev HasBlobId : TreeRow → Type 0
HasBlobId row = row.id ≡ blob_id row.content

-- what a view says of a row
abbrev IsSound : TreeRow → Type 0
IsSound row = IsTrue (is_fit_path row.path) × IsBytes row.path × IsBytes row.content × IsRowId row.mode row.id row.content

ids-among : (c : CommitView) → IsCommitView c → Each HasBlobId (files_among c.rows)
ids-among c view = by c.rows view.rows
  where
    by : (rows : List TreeRow) → Each IsSound rows → Each HasBlobId (files_among rows)
    by [] each = tt
    by (row ∷ rows) each = go (is_blob_mode row.mode) refl (by rows each.1)
      where
        go : (t : Bool) → is_blob_mode row.mode ≡ t → Each HasBlobId (files_among rows) → Each HasBlobId (if t then row ∷ files_among rows else files_among rows)
        go true e more = (blob-id row.mode row.id row.content (each.0).3 e, more)
        go false e more = more

same-among : (as' bs : List TreeRow) → SameTreeRows as' bs → SameTreeRows (files_among as') (files_among bs)
same-among [] [] s = tt
same-among [] (b ∷ bs) s = absurd s
same-among (a ∷ as') [] s = absurd s
same-among (a ∷ as') (b ∷ bs) s = by (is_blob_mode a.mode) (is_blob_mode b.mode) (ap is_blob_mode s.1) (same-among as' bs s.3)
  where
    by : (t u : Bool) → t ≡ u → SameTreeRows (files_among as') (files_among bs) → SameTreeRows (if t then a ∷ files_among as' else files_among as') (if u then b ∷ files_among bs else files_among bs)
    by true true e more = (s.0, s.1, s.2, more)
    by true false e more = absurd cc
    by false true e more = absurd cc
    by false false e more = more

-- ---- the bodies, one by one

bodies-there : (known : List Object) (rows : List Row) (files : List TreeRow) → Each (IsBlobHeld known) files → Each HasBlobId files → HaveSameBodies rows files → Each (IsBodyHeld known) rows
bodies-there known [] [] held ids same = tt
bodies-there known [] (f ∷ files) held ids same = absurd same
bodies-there known (row ∷ rows) [] held ids same = absurd same
bodies-there known (row ∷ rows) (f ∷ files) held ids same =
    let o = held.0 in
    ((o.0, ap (object_at known) (ap blob_id same.1 ∙ sym ids.0) ∙ o.1, o.2 ∙ sym same.1), bodies-there known rows files held.1 ids.1 same.2)

bodies-back : (known : List Object) (rows : List Row) (files made : List TreeRow) → Each (IsBlobHeld known) files → Each HasBlobId made → SameTreeRows files made → HaveSameBodies rows made → Each (IsBodyHeld known) rows → HaveSameBodies rows files
bodies-back known [] [] [] held ids like same each = tt
bodies-back known [] (f ∷ files) [] held ids like same each = absurd like
bodies-back known [] files (g ∷ made) held ids like same each = absurd same
bodies-back known (row ∷ rows) files [] held ids like same each = absurd same
bodies-back known (row ∷ rows) [] (g ∷ made) held ids like same each = absurd like
bodies-back known (row ∷ rows) (f ∷ files) (g ∷ made) held ids like same each =
    let o = held.0 in
    let b = each.0 in
    let at : object_at known f.id ≡ Some b.0 = ap (object_at known) (like.2 ∙ ids.0 ∙ ap blob_id (sym same.1)) ∙ b.1 in
    let one : b.0 ≡ o.0 = some_is (sym at ∙ o.1) in
    (same.0 ∙ sym like.0, sym b.2 ∙ ap (λ (x : Object). x.content) one ∙ o.2, bodies-back known rows files made held.1 ids.1 like.3 same.2 each.1)

bodies-here : (known : List Object) (rows : List Row) (files made : List TreeRow) → Each (IsBlobHeld known) files → Each HasBlobId made → SameTreeRows files made → HaveSameBodies rows made → HaveSameBodies rows files → Each (IsBodyHeld known) rows
bodies-here known [] [] [] held ids like same has = tt
bodies-here known [] (f ∷ files) [] held ids like same has = absurd like
bodies-here known [] files (g ∷ made) held ids like same has = absurd same
bodies-here known (row ∷ rows) files [] held ids like same has = absurd same
bodies-here known (row ∷ rows) [] (g ∷ made) held ids like same has = absurd like
bodies-here known (row ∷ rows) (f ∷ files) (g ∷ made) held ids like same has =
    let o = held.0 in
    ((o.0, ap (object_at known) (ap blob_id same.1 ∙ sym ids.0 ∙ sym like.2) ∙ o.1, o.2 ∙ sym has.1), bodies-here known rows files made held.1 ids.1 like.3 same.2 has.2)

known-ids : (known : List Object) (rows : List Row) (files made : List TreeRow) → Each (IsBlobHeld known) files → Each HasBlobId made → SameTreeRows files made → HaveSameBodies rows made → Each (λ row. knows_object known (body_blob row).id ≡ true) rows
known-ids known [] [] [] held ids like same = tt
known-ids known [] (f ∷ files) [] held ids like same = absurd like
known-ids known [] files (g ∷ made) held ids like same = absurd same
known-ids known (row ∷ rows) files [] held ids like same = absurd same
known-ids known (row ∷ rows) [] (g ∷ made) held ids like same = absurd like
known-ids known (row ∷ rows) (f ∷ files) (g ∷ made) held ids like same =
    (ap is_some (ap (object_at known) (ap blob_id same.1 ∙ sym ids.0 ∙ sym like.2) ∙ (held.0).1), known-ids known rows files made held.1 ids.1 like.3 same.2)

-- ---- of a commit that is held

-- the files of a commit with the bodies of a changeset
pub bodies-held : (known : List Object) (id : Id) (e : CommitView) (rows : List Row) → IsCommitHeld known id e → IsCommitView e → HasBodiesOf rows e.rows → Each (IsBodyHeld known) rows
bodies-held known id e rows held view same = bodies-there known rows (files_among e.rows) (blobs-among known e.rows held.blobs) (ids-among e view) same

module _ (known : List Object) (id : Id) (e c : CommitView) (rows : List Row) (held : IsCommitHeld known id e) (view : IsCommitView c) (same : SameCommit e c) (made : HasBodiesOf rows c.rows) where
  pub ids-known : Each (λ row. knows_object known (body_blob row).id ≡ true) rows
  ids-known = known-ids known rows (files_among e.rows) (files_among c.rows) (blobs-among known e.rows held.blobs) (ids-among c view) (same-among e.rows c.rows same.rows) made

  pub bodies-same : Each (IsBodyHeld known) rows → HasBodiesOf rows e.rows
  bodies-same each = bodies-back known rows (files_among e.rows) (files_among c.rows) (blobs-among known e.rows held.blobs) (ids-among c view) (same-among e.rows c.rows same.rows) made each

  pub bodies-too : HasBodiesOf rows e.rows → Each (IsBodyHeld known) rows
  bodies-too has = bodies-here known rows (files_among e.rows) (files_among c.rows) (blobs-among known e.rows held.blobs) (ids-among c view) (same-among e.rows c.rows same.rows) made has
