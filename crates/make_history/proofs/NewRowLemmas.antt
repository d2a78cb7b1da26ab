-- The file that the next changeset brings: it is a revision, its parents are known and its text is short.
use Rattle.std.proofs.Common.{◌≡◌, ◌≤◌, ◌<◌, ◌+◌, ◌++◌, ◌==◌, ℕ, Bool, true, false, arith, List, [], ◌∷◌, length, Option, Some, None, refl, sym, ap, subst, inl}
use Rattle.std.specs.Prelude.{bytes_eq, codes, decimal, if◌then◌else◌, option_map, ◌^◌}
use Rattle.std.specs.Option.{option_or}
use Rattle.std.proofs.lemmas.Fmt.{length-decimal-le, IsAscii-decimal}
use Rattle.std.proofs.lemmas.List.{length-append}
use Rattle.std.proofs.lemmas.Slice.Eq.{bytes_eq-Decides}
use Rattle.text_model.specs.Lists.{Each, In}
use Rattle.text_model.specs.Text.{Bytes, IsBytes, lf, line}
use Rattle.text_model.specs.Id.{Id, null, hex, blob, blob_id}
use Rattle.text_model.proofs.ByteLemmas.{IsBytes-by_index, IsBytes-append}
use Rattle.text_model.proofs.Digests.{IsId-node_id, IsId-object_id}
use Rattle.text_model.proofs.Elements.{each_in}
use Rattle.text_model.proofs.HexLemmas.{IsId-null, length-hex}
use Rattle.hg_model.specs.FileText.{mark, begins_with_mark, file_text, IsFile, plain_meta, copy_meta}
use Rattle.hg_model.specs.Manifest.{Regular}
use Rattle.hg_model.specs.Revision.{Revision}
use Rattle.hg_model.proofs.ParentOrder.{file_order-either}
use Rattle.git_model.specs.Tree.{File}
use Rattle.hg_store.specs.Known.{AreAdded, text_limit}
use Rattle.view_model.specs.View.{FileRevision, file_node, Row, TreeRow, IsRevision}
use Rattle.pair_model.specs.Block.{Parents}
use Rattle.pair_model.specs.Rule.{revision_at, with_body, ruled_revision}
use Rattle.pair_known.specs.Ruled.{HasFileParents}
use Rattle.file_rule.specs.Parents.{row_with}
use Rattle.file_rule.proofs.RowLemmas.{not-kept}
use Rattle.changeset_rule.proofs.FitsLemmas.{HasShortText}
use Rattle.changeset_rule.proofs.RowViews.{IsRightRow, row-parents, row-revision}
use Rattle.make_model.specs.Numbers.{Numbers}
use Rattle.make_model.specs.History.{first_other, copy_or, made_body, made_revision, made_row}
use Rattle.make_history.specs.Rows.{new_at, copy_with}
use Rattle.make_history.proofs.PathLemmas.{IsGoodPath, bytes-by}

-- ---- the two cases

-- what holds of the new revision of a path, and of a copy of each row, holds of the one that is made
made-either : (P : FileRevision → Type 0) (ps : Parents) (number : ℕ) (path body : Bytes) → P (new_at ps path body) → ((row : Row) → In row (ps.first).rows → P (copy_with (copy_meta row.path (file_node row.revision)) body)) → P (made_revision ps number path body)
unfolding made_revision
made-either P ps number path body new copy = by (number == 0)
  where
    other : (rows : List Row) → ((row : Row) → In row rows → P (copy_with (copy_meta row.path (file_node row.revision)) body)) → P (copy_or (new_at ps path body) body (first_other path rows))
    other [] f = new
    other (row ∷ rows) f = test (bytes_eq row.path path)
      where
        test : (t : Bool) → P (copy_or (new_at ps path body) body (if t then None else Some row))
        test true = new
        test false = f row (inl refl)

    by : (t : Bool) → P (copy_or (new_at ps path body) body (if t then first_other path (ps.first).rows else None))
    by true = other (ps.first).rows copy
    by false = new

-- ---- a new revision is the one that the rule gives for a file that neither parent has

no-body : (e : Option FileRevision) → with_body [] e ≡ None
no-body None = refl
no-body (Some r) = by (bytes_eq (blob_id r.body) []) refl
  where
    by : (t : Bool) → bytes_eq (blob_id r.body) [] ≡ t → with_body [] (Some r) ≡ None
    by true e = absurd (omega (arith, ap length ((bytes_eq-Decides (blob_id r.body) []).0 e), (IsId-object_id blob r.body).0))
    by false e = rw e refl

abbrev file_with : Bytes → Bytes → TreeRow
file_with path body = record { path = path; mode = File; id = []; content = body }

ruled-new : (ps : Parents) (path body : Bytes) → ruled_revision (revision_at (ps.first).rows path) (revision_at (ps.second).rows path) (file_with path body) ≡ new_at ps path body
ruled-new ps path body =
    let r = revision_at (ps.first).rows path in
    let s = revision_at (ps.second).rows path in
    not-kept (record { path = path; mode = File; id = [] }) r s (file_with path body) refl (λ i. option_map file_node (option_or (sym (no-body r) i) (sym (no-body s) i)))

module _ (known : List Revision) (added : AreAdded known) (ps : Parents) (first : Each (IsRightRow known) (ps.first).rows) (second : Each (IsRightRow known) (ps.second).rows) where
  new-parents : (path body : Bytes) → HasFileParents known (row_with path Regular (new_at ps path body))
  new-parents path body = subst (λ (r : FileRevision). HasFileParents known (row_with path Regular r)) (ruled-new ps path body) (row-parents known added ps first second (file_with path body))

  new-revision : (path body : Bytes) → IsBytes body → IsRevision (new_at ps path body)
  new-revision path body bytes = subst IsRevision (ruled-new ps path body) (row-revision known added ps first second (file_with path body) bytes)

  -- the parents of the file are known
  pub made-parents : (x : Numbers) (n : ℕ) → HasFileParents known (made_row ps x n)
  made-parents x n =
      let row = made_row ps x n in
      made-either (λ r. HasFileParents known (row_with row.path row.flag r)) ps x.copied row.path (made_body n) (new-parents row.path (made_body n)) (λ source there. (refl, refl))

  -- it is a revision, where its text is one of a file
  pub made-is_revision : (x : Numbers) (n : ℕ) → IsBytes (made_body n) → IsFile ((made_row ps x n).revision).meta ((made_row ps x n).revision).body → IsRevision (made_row ps x n).revision
  made-is_revision x n bytes =
      let row = made_row ps x n in
      made-either (λ r. IsFile r.meta r.body → IsRevision r) ps x.copied row.path (made_body n) (λ file. new-revision row.path (made_body n) bytes)
      (λ source there file. (IsId-null, IsId-null, file, file_order-either (λ o. o ≡ (null, null)) (Some (copy_meta source.path (file_node source.revision))) null null refl refl))

-- ---- what it holds

pub decimal-bytes : (n : ℕ) → n < 2 ^ 64 → IsBytes (decimal n)
decimal-bytes n h = IsBytes-by_index (decimal n) (λ i. let ascii = IsAscii-decimal n h i in omega (arith, ascii))

pub body-bytes : (n : ℕ) → n < 20000 → IsBytes (made_body n)
body-bytes n few = IsBytes-append (decimal n) (lf ∷ []) (decimal-bytes n (omega (arith, few))) (bytes-by (lf ∷ []) refl)

pub decimal-short : (n : ℕ) → n < 20000 → length (decimal n) ≤ 5
decimal-short n few = length-decimal-le 5 n (omega arith) (omega (arith, few)) (omega (arith, few))

pub length-line : (text : Bytes) → length (line text) ≡ length text + 1
length-line text = length-append text (lf ∷ [])

plain-length : (body : Bytes) → length (file_text (plain_meta body) body) ≤ length body + 4
plain-length body = by (begins_with_mark body)
  where
    by : (t : Bool) → length (file_text (if t then Some [] else None) body) ≤ length body + 4
    by true =
        let front : length (mark ++ [] ++ mark) ≡ 4 = refl in
        omega (arith, length-append (mark ++ [] ++ mark) body, front)
    by false = omega arith

copy-length : (path : Bytes) (node : Id) → length node ≡ 20 → length (copy_meta path node) ≡ length path + 57
copy-length path node id =
    let first : length (codes "copy: ") ≡ 6 = refl in
    let second : length (codes "copyrev: ") ≡ 9 = refl in
    omega (
      arith,
      length-append (line (codes "copy: " ++ path)) (line (codes "copyrev: " ++ hex node)),
      length-line (codes "copy: " ++ path),
      length-line (codes "copyrev: " ++ hex node),
      length-append (codes "copy: ") path,
      length-append (codes "copyrev: ") (hex node),
      length-hex node,
      id,
      first,
      second,
    )

marked-length : (meta body : Bytes) → length (file_text (Some meta) body) ≡ length meta + length body + 4
marked-length meta body =
    let two : length mark ≡ 2 = refl in
    omega (arith, length-append (mark ++ meta ++ mark) body, length-append (mark ++ meta) mark, length-append mark meta, two)

pub made-short : (ps : Parents) (x : Numbers) (n : ℕ) → n < 20000 → Each (λ row. IsGoodPath row.path) (ps.first).rows → HasShortText (made_row ps x n)
made-short ps x n few good =
    let row = made_row ps x n in
    let body = made_body n in
    let some : length body ≤ 6 = omega (arith, length-line (decimal n), decimal-short n few) in
    made-either (λ r. length (file_text r.meta r.body) ≤ text_limit) ps x.copied row.path body (omega (arith, plain-length body, some))
    (λ source there.
    let path = each_in (λ (r : Row). IsGoodPath r.path) (ps.first).rows source good there in
    let r = source.revision in
    let id = IsId-node_id r.p r.q (file_text r.meta r.body) in
    omega (arith, marked-length (copy_meta source.path (file_node r)) body, copy-length source.path (file_node r) id.0, path.five, some))
