-- The rows of a changeset, walked beside its marks: they are those that the marks name exactly where they are the commit's.
use Rattle.std.proofs.Common.{◌≡◌, ◌≢◌, Bool, true, false, true≢false, List, [], ◌∷◌, ◌++◌, map, Option, Some, None, refl, sym, ap, subst, ◌∙◌, bytes_eq, append_assoc}
use Rattle.std.specs.Prelude.{◌&&◌, not, if◌then◌else◌, option_map, is_some}
use Rattle.std.specs.List.{flat_map, AllZip}
use Rattle.std.proofs.lemmas.Bool.{and_parts, not-true}
use Rattle.std.proofs.lemmas.Bool.Decides.{when_true, when_false}
use Rattle.std.proofs.lemmas.Slice.Eq.{bytes_eq-Decides}
use Rattle.text_model.specs.Lists.{Each, rises}
use Rattle.text_model.specs.Text.{Bytes, is_below}
use Rattle.text_model.specs.Id.{Id, null, is_null}
use Rattle.text_model.proofs.Options.{none_some, some_is}
use Rattle.hg_model.specs.FileText.{copy_meta}
use Rattle.pair_model.specs.Block.{Parents}
use Rattle.view_model.specs.View.{FileRevision, Row, TreeRow, paths_of}
use Rattle.pair_model.specs.Rule.{ruled_row}
use Rattle.pair_model.specs.MarkList.{Mark, Rename, File, Manifest, Files, User, Date, RawDate, OneExtra}
use Rattle.partner_model.specs.Mark.{node_in_parents, copy_in, named_source, rename_source, revision_mark, is_ruled, entry_marks}
use Rattle.partner_model.specs.Partner.{IsUnmarkedRow}
use Rattle.partner_model.specs.Filled.{entry_path, renamed, revision_of_mark, row_with_revision}
use Rattle.mark_law.proofs.MarkTypes.{named}
use Rattle.unmark_law.proofs.Rows.{apart, rises_rest}
use Rattle.unmark_law.proofs.TreeRows.{IsFileOf}
use Rattle.filled_law.specs.Walks.{named_row, mark_at, behind, starts_entry}
use Rattle.filled_law.proofs.Walk.{put, walk, at-none, at-other, at-own}

-- ---- one mark

-- a mark names a source that a parent has
source_there : (ps : Parents) (r : FileRevision) (s : Bytes) → rename_source ps r ≡ Some s → is_null (node_in_parents ps s) ≡ false
source_there ps r s e = by (is_null r.p && is_null r.q) e
  where
    by-copy : (o : Option (Bytes × Id)) → named_source ps o ≡ Some s → is_null (node_in_parents ps s) ≡ false
    by-copy None h = absurd (none_some h)
    by-copy (Some c) h = by-test (not (is_null c.1) && bytes_eq (node_in_parents ps c.0) c.1) refl h
      where
        by-test : (t : Bool) → (not (is_null c.1) && bytes_eq (node_in_parents ps c.0) c.1) ≡ t → (if t then Some c.0 else None) ≡ Some s → is_null (node_in_parents ps s) ≡ false
        by-test false f h = absurd (none_some h)
        by-test true f h =
            let p = and_parts (not (is_null c.1)) (bytes_eq (node_in_parents ps c.0) c.1) f in
            let node : node_in_parents ps s ≡ c.1 = ap (node_in_parents ps) (sym (some_is h)) ∙ (bytes_eq-Decides (node_in_parents ps c.0) c.1).0 p.1 in
            ap is_null node ∙ not-true (is_null c.1) p.0

    by : (t : Bool) → (if t then named_source ps (copy_in r.meta) else None) ≡ Some s → is_null (node_in_parents ps s) ≡ false
    by true h = by-copy (copy_in r.meta) h
    by false h = absurd (none_some h)

-- the mark of a revision names it, over its body
mark-names : (ps : Parents) (path : Bytes) (r : FileRevision) → revision_of_mark ps r.body (revision_mark path r (rename_source ps r)) ≡ Some r
mark-names ps path r = by (rename_source ps r) refl
  where
    by : (o : Option Bytes) → rename_source ps r ≡ o → revision_of_mark ps r.body (revision_mark path r o) ≡ Some r
    by None e = refl
    by (Some s) e =
        let n = named ps r s e in
        let there : renamed (node_in_parents ps s) s r.body ≡ Some (record { p = null; q = null; meta = Some (copy_meta s (node_in_parents ps s)); body = r.body }) = rw (source_there ps r s e) refl in
        there ∙ (λ i. Some (record { p = sym n.p i; q = sym n.q i; meta = sym n.meta i; body = r.body }))

-- and what a mark names has the body
mark-body : (ps : Parents) (body : Bytes) (m : Mark) (r : FileRevision) → revision_of_mark ps body m ≡ Some r → r.body ≡ body
mark-body ps body (Rename path s) r e = by (is_null (node_in_parents ps s)) e
  where
    by : (t : Bool) → (if t then None else Some (record { p = null; q = null; meta = Some (copy_meta s (node_in_parents ps s)); body = body })) ≡ Some r → r.body ≡ body
    by true h = absurd (none_some h)
    by false h = ap (λ (x : FileRevision). x.body) (sym (some_is h))
mark-body ps body (File path p q meta) r e = ap (λ (x : FileRevision). x.body) (sym (some_is e))
mark-body ps body (Manifest m) r e = absurd (none_some e)
mark-body ps body (Files m) r e = absurd (none_some e)
mark-body ps body (User m) r e = absurd (none_some e)
mark-body ps body (Date x y) r e = absurd (none_some e)
mark-body ps body (RawDate m) r e = absurd (none_some e)
mark-body ps body (OneExtra m) r e = absurd (none_some e)

-- the path of a revision's mark
mark-path : (path : Bytes) (r : FileRevision) (o : Option Bytes) → entry_path (revision_mark path r o) ≡ Some path
mark-path path r None = refl
mark-path path r (Some s) = refl

-- what a mark names at a row, is the row's but for the revision
pub named-row : (ps : Parents) (o : Option Mark) (t : TreeRow) (row : Row) → named_row ps o t ≡ Some row → (row.path ≡ t.path) × (row.flag ≡ (ruled_row ps t).flag)
named-row ps None t row e = (ap (λ (x : Row). x.path) (sym (some_is e)), ap (λ (x : Row). x.flag) (sym (some_is e)))
named-row ps (Some m) t row e = by (revision_of_mark ps t.content m) e
  where
    by : (o : Option FileRevision) → option_map (row_with_revision (ruled_row ps t)) o ≡ Some row → (row.path ≡ t.path) × (row.flag ≡ (ruled_row ps t).flag)
    by None h = absurd (none_some h)
    by (Some r) h = (ap (λ (x : Row). x.path) (sym (some_is h)), ap (λ (x : Row). x.flag) (sym (some_is h)))

-- and a marked one has the body
pub named-body : (ps : Parents) (m : Mark) (t : TreeRow) (row : Row) → named_row ps (Some m) t ≡ Some row → (row.revision).body ≡ t.content
named-body ps m t row e = by (revision_of_mark ps t.content m) refl e
  where
    by : (o : Option FileRevision) → revision_of_mark ps t.content m ≡ o → option_map (row_with_revision (ruled_row ps t)) o ≡ Some row → (row.revision).body ≡ t.content
    by None f h = absurd (none_some h)
    by (Some r) f h = ap (λ (x : Row). (x.revision).body) (sym (some_is h)) ∙ mark-body ps t.content m r f

-- the row and the rows that were put together
pub put-parts : (o : Option Row) (more : Option (List Row)) (row : Row) (rows : List Row) → put o more ≡ Some (row ∷ rows) → (o ≡ Some row) × (more ≡ Some rows)
put-parts None more row rows e = absurd (none_some e)
put-parts (Some r) None row rows e = absurd (none_some e)
put-parts (Some r) (Some rs) row rows e =
    let s : r ∷ rs ≡ row ∷ rows = some_is e in
    let a : r ≡ row = cc in
    let b : rs ≡ rows = cc in
    (ap Some a, ap Some b)

pub put-some : (o : Option Row) (more : Option (List Row)) → put o more ≡ Some [] → ⊥
put-some None more e = none_some e
put-some (Some r) None e = none_some e
put-some (Some r) (Some rs) e =
    let s : r ∷ rs ≡ [] = some_is e in cc

-- ---- the marks of a changeset's files, one after the other

pub no_marks : (ps : Parents) (row : Row) → is_ruled ps row ≡ true → entry_marks ps row ≡ []
unfolding entry_marks
no_marks ps row e = rw e refl

abbrev the_mark : Parents → Row → Mark
the_mark ps row = revision_mark row.path row.revision (rename_source ps row.revision)

one_mark : (ps : Parents) (row : Row) → is_ruled ps row ≡ false → entry_marks ps row ≡ the_mark ps row ∷ []
unfolding entry_marks
one_mark ps row e = rw e refl

-- no mark at the path stands first
abbrev pub IsFree : Bytes → List Mark → Type 0
IsFree path ms = (mark_at path ms ≡ None) × (behind path ms ≡ ms)

free-none : (path : Bytes) (ms : List Mark) → starts_entry ms ≡ false → IsFree path ms
free-none path [] h = (refl, refl)
free-none path (m ∷ ms) h = by (entry_path m) refl
  where
    by : (o : Option Bytes) → entry_path m ≡ o → IsFree path (m ∷ ms)
    by None e = (rw (at-none path m e) refl, rw (at-none path m e) refl)
    by (Some q) e = absurd (true≢false (rw e at h))

module _ (ps : Parents) (rest : List Mark) (no_entry : starts_entry rest ≡ false) where
  abbrev pub marks_from : List Row → List Mark
  marks_from rows = flat_map (entry_marks ps) rows ++ rest

  more-free : (row : Row) (rows : List Row) → is_ruled ps row ≡ true → marks_from (row ∷ rows) ≡ marks_from rows
  more-free row rows e = rw (no_marks ps row e) refl

  more-marked : (row : Row) (rows : List Row) → is_ruled ps row ≡ false → marks_from (row ∷ rows) ≡ the_mark ps row ∷ marks_from rows
  more-marked row rows e = rw (one_mark ps row e) refl

  free-at : (path : Bytes) (rows : List Row) → Each (λ p. p ≢ path) (paths_of rows) → IsFree path (marks_from rows)
  free-at path [] a = free-none path rest no_entry
  free-at path (row ∷ rows) a = by (is_ruled ps row) refl (free-at path rows a.1)
    where
      by : (t : Bool) → is_ruled ps row ≡ t → IsFree path (marks_from rows) → IsFree path (marks_from (row ∷ rows))
      by true e go = subst (IsFree path) (sym (more-free row rows e)) go
      by false e go =
          let off = at-other path row.path (the_mark ps row) (mark-path row.path row.revision (rename_source ps row.revision)) a.0 in
          subst (IsFree path) (sym (more-marked row rows e)) (rw off refl, rw off refl)

  -- at an unmarked row, and at a marked one
  walk-free : (t : TreeRow) (ts : List TreeRow) (row : Row) (rows : List Row) → is_ruled ps row ≡ true → row.path ≡ t.path → Each (λ p. p ≢ row.path) (paths_of rows)
      → walk ps (marks_from (row ∷ rows)) (t ∷ ts) ≡ put (Some (ruled_row ps t)) (walk ps (marks_from rows) ts)
  walk-free t ts row rows e path a =
      let f = free-at t.path rows (subst (λ (x : Bytes). Each (λ p. p ≢ x) (paths_of rows)) path a) in
      ap (λ ms. walk ps ms (t ∷ ts)) (more-free row rows e) ∙ (λ i. put (named_row ps (f.0 i) t) (walk ps (f.1 i) ts))

  walk-marked : (t : TreeRow) (ts : List TreeRow) (row : Row) (rows : List Row) → is_ruled ps row ≡ false → row.path ≡ t.path
      → walk ps (marks_from (row ∷ rows)) (t ∷ ts) ≡ put (named_row ps (Some (the_mark ps row)) t) (walk ps (marks_from rows) ts)
  walk-marked t ts row rows e path =
      let on = at-own t.path row.path (the_mark ps row) (mark-path row.path row.revision (rename_source ps row.revision)) path in
      ap (λ ms. walk ps ms (t ∷ ts)) (more-marked row rows e) ∙ rw on refl

  -- an unmarking's rows are those that the marks name
  pub rows-named : (rows : List Row) (ts : List TreeRow) → rises is_below (paths_of rows) ≡ true → AllZip IsFileOf rows ts → AllZip (IsUnmarkedRow ps) rows ts → walk ps (marks_from rows) ts ≡ Some rows
  rows-named [] [] up f u = rw no_entry refl
  rows-named [] (t ∷ ts) up f u = absurd f
  rows-named (row ∷ rows) [] up f u = absurd f
  rows-named (row ∷ rows) (t ∷ ts) up f u = by (is_ruled ps row) refl (rows-named rows ts (rises_rest row.path (paths_of rows) up) f.1 u.1)
    where
      by : (b : Bool) → is_ruled ps row ≡ b → walk ps (marks_from rows) ts ≡ Some rows → walk ps (marks_from (row ∷ rows)) (t ∷ ts) ≡ Some (row ∷ rows)
      by true e go =
          let revision = when_true (row.revision ≡ (ruled_row ps t).revision) ((row.revision).body ≡ t.content) e u.0 in
          walk-free t ts row rows e (f.0).path (apart row.path (paths_of rows) up)
          ∙ ap (put (Some (ruled_row ps t))) go ∙ (λ i. Some (record { path = sym (f.0).path i; flag = (f.0).flag i; revision = sym revision i } ∷ rows))
      by false e go =
          let body = when_false (row.revision ≡ (ruled_row ps t).revision) ((row.revision).body ≡ t.content) e u.0 in
          let names : revision_of_mark ps t.content (the_mark ps row) ≡ Some row.revision = ap (λ b. revision_of_mark ps b (the_mark ps row)) (sym body) ∙ mark-names ps row.path row.revision in
          walk-marked t ts row rows e (f.0).path
          ∙ (λ i. put (option_map (row_with_revision (ruled_row ps t)) (names i)) (go i)) ∙ (λ i. Some (record { path = sym (f.0).path i; flag = (f.0).flag i; revision = row.revision } ∷ rows))

  -- rows that their own marks name have the commit's bodies, but for those of the rule
  pub rows-unmarked : (rows : List Row) (ts : List TreeRow) → rises is_below (paths_of rows) ≡ true → walk ps (marks_from rows) ts ≡ Some rows → AllZip (IsUnmarkedRow ps) rows ts
  rows-unmarked [] [] up w = tt
  rows-unmarked [] (t ∷ ts) up w = absurd (put-some (named_row ps (mark_at t.path (marks_from [])) t) (walk ps (behind t.path (marks_from [])) ts) w)
  rows-unmarked (row ∷ rows) [] up w = absurd (by (starts_entry (marks_from (row ∷ rows))) w)
    where
      by : (b : Bool) → (if b then None else Some []) ≡ Some (row ∷ rows) → ⊥
      by true e = none_some e
      by false e = let s : [] ≡ row ∷ rows = some_is e in cc
  rows-unmarked (row ∷ rows) (t ∷ ts) up w = by (is_ruled ps row) refl (rows-unmarked rows ts (rises_rest row.path (paths_of rows) up))
    where
      path : row.path ≡ t.path
      path = (named-row ps (mark_at t.path (marks_from (row ∷ rows))) t row (put-parts (named_row ps (mark_at t.path (marks_from (row ∷ rows))) t) (walk ps (behind t.path (marks_from (row ∷ rows))) ts) row rows w).0).0

      by : (b : Bool) → is_ruled ps row ≡ b → (walk ps (marks_from rows) ts ≡ Some rows → AllZip (IsUnmarkedRow ps) rows ts) → AllZip (IsUnmarkedRow ps) (row ∷ rows) (t ∷ ts)
      by true e go =
          let p = put-parts (Some (ruled_row ps t)) (walk ps (marks_from rows) ts) row rows (sym (walk-free t ts row rows e path (apart row.path (paths_of rows) up)) ∙ w) in
          (rw e (ap (λ (x : Row). x.revision) (sym (some_is p.0))), go p.1)
      by false e go =
          let p = put-parts (named_row ps (Some (the_mark ps row)) t) (walk ps (marks_from rows) ts) row rows (sym (walk-marked t ts row rows e path) ∙ w) in
          (rw e (named-body ps (the_mark ps row) t row p.0), go p.1)
