-- The rows that the rule gives are right, and the parents of their revisions are known.
use Rattle.std.proofs.Common.{◌≡◌, Bool, true, false, List, [], ◌∷◌, map, Option, Some, None, refl, subst, ◌∙◌}
use Rattle.std.proofs.lemmas.Option.{same_Some, none-some}
use Rattle.std.specs.Prelude.{bytes_eq, option_map, unwrap_or, if◌then◌else◌, IsTrue}
use Rattle.std.specs.List.{find}
use Rattle.std.specs.Option.{option_or}
use Rattle.std.proofs.lemmas.Slice.Eq.{bytes_eq-Decides}
use Rattle.text_model.specs.Lists.{Each}
use Rattle.text_model.specs.Text.{Bytes, IsBytes}
use Rattle.text_model.specs.Path.{is_fit_path}
use Rattle.text_model.specs.Id.{Id, IsId, null, blob_id}
use Rattle.text_model.proofs.HexLemmas.{IsId-null}
use Rattle.text_model.proofs.Digests.{IsId-node_id}
use Rattle.hg_model.proofs.ParentOrder.{file_order-again, file_order-either, file_order-ids}
use Rattle.hg_model.specs.FileText.{plain_meta, file_text}
use Rattle.hg_model.specs.Revision.{Revision, FilesAt, is_known_parent}
use Rattle.hg_store.specs.Known.{AreAdded}
use Rattle.view_model.specs.View.{FileRevision, file_node, Row, IsRevision, TreeRow}
use Rattle.view_model.specs.Held.{IsFileHeld}
use Rattle.pair_model.specs.Block.{Parents}
use Rattle.pair_model.specs.Rule.{flag_of_mode, revision_at, with_body, node_or_null, one_or_two, new_revision, ruled_revision, ruled_row}
use Rattle.pair_known.specs.Ruled.{HasFileParents}
use Rattle.file_rule.specs.Parents.{row_with}
use Rattle.file_rule.proofs.RowLemmas.{plain-splits}
use Rattle.changeset_rule.proofs.KnownParents.{node-known, file-parents}

-- ---- the three cases of the rule

ruled-either : (P : FileRevision → Type 0) (e1 e2 : Option FileRevision) (t : TreeRow) → ((r : FileRevision) → e1 ≡ Some r → P r) → ((r : FileRevision) → e2 ≡ Some r → P r) → P (new_revision e1 e2 t.content) → P (ruled_revision e1 e2 t)
unfolding ruled_revision
ruled-either P e1 e2 t first second new = by e1 e2 refl refl
  where
    last : (e : Option FileRevision) → ((r : FileRevision) → e ≡ Some r → P r) → P (unwrap_or (with_body t.id e) (new_revision e1 e2 t.content))
    last None holds = new
    last (Some r) holds = test (bytes_eq (blob_id r.body) t.id)
      where
        test : (b : Bool) → P (unwrap_or (if b then Some r else None) (new_revision e1 e2 t.content))
        test true = holds r refl
        test false = new

    by : (a b : Option FileRevision) → e1 ≡ a → e2 ≡ b → P (unwrap_or (option_or (with_body t.id a) (with_body t.id b)) (new_revision e1 e2 t.content))
    by None b p q = last b (λ r e. second r (q ∙ e))
    by (Some r) b p q = test (bytes_eq (blob_id r.body) t.id)
      where
        test : (x : Bool) → P (unwrap_or (option_or (if x then Some r else None) (with_body t.id b)) (new_revision e1 e2 t.content))
        test true = first r p
        test false = last b (λ s e. second s (q ∙ e))

-- what a parent has at a path
at-row : (Q : Row → Type 0) (rows : List Row) (path : Bytes) (r : FileRevision) → Each Q rows → revision_at rows path ≡ Some r → (row : Row) × Q row × (row.path ≡ path) × (row.revision ≡ r)
at-row Q [] path r each at = absurd (none-some _ at)
at-row Q (row ∷ rows) path r each at = by (bytes_eq row.path path) refl at (at-row Q rows path r each.1)
  where
    by : (t : Bool) → bytes_eq row.path path ≡ t → option_map (λ (x : Row). x.revision) (if t then Some row else find (λ (x : Row). bytes_eq x.path path) rows) ≡ Some r
        → (revision_at rows path ≡ Some r → (x : Row) × Q x × (x.path ≡ path) × (x.revision ≡ r)) → (x : Row) × Q x × (x.path ≡ path) × (x.revision ≡ r)
    by true e k rec = (row, each.0, (bytes_eq-Decides row.path path).0 e, same_Some _ _ k)
    by false e k rec = rec k

-- ---- a new revision

IsId-file_node : (r : FileRevision) → IsId (file_node r)
IsId-file_node r = IsId-node_id r.p r.q (file_text r.meta r.body)

node-id : (e : Option FileRevision) → IsId (node_or_null e)
node-id None = IsId-null
node-id (Some r) = IsId-file_node r

one-or-two : (P : Id → Type 0) (p q : Id) → P null → P p → P q → P (one_or_two p q).0 × P (one_or_two p q).1
one-or-two P p q n a b = by (bytes_eq p q)
  where
    pick : Bool → Id × Id
    pick t = if t then (p, null) else (p, q)

    by : (t : Bool) → P (pick t).0 × P (pick t).1
    by true = (a, n)
    by false = (a, b)

pub new-is_revision : (e1 e2 : Option FileRevision) (body : Bytes) → IsBytes body → IsRevision (new_revision e1 e2 body)
new-is_revision e1 e2 body bytes =
    let both = one_or_two (node_or_null e1) (node_or_null e2) in
    let ids = one-or-two IsId (node_or_null e1) (node_or_null e2) IsId-null (node-id e1) (node-id e2) in
    let ordered = file_order-ids (plain_meta body) both.0 both.1 ids.0 ids.1 in
    (ordered.0, ordered.1, (plain-splits body (file_text (plain_meta body) body) bytes refl).0, file_order-again (plain_meta body) both.0 both.1)

-- ---- over the rows of parents

pub record IsRightRow (known : List Revision) (row : Row) : Type 0 where
  pub held : IsFileHeld known row
  pub fit : IsTrue (is_fit_path row.path)
  pub bytes : IsBytes row.path
  pub revision : IsRevision row.revision

module _ (known : List Revision) (added : AreAdded known) (ps : Parents) (first : Each (IsRightRow known) (ps.first).rows) (second : Each (IsRightRow known) (ps.second).rows) where
  known-at : (rows : List Row) (path : Bytes) → Each (IsRightRow known) rows → (e : Option FileRevision) → revision_at rows path ≡ e → is_known_parent known (FilesAt path) (node_or_null e) ≡ true
  known-at rows path each None at = refl
  known-at rows path each (Some r) at =
      let x = at-row (IsRightRow known) rows path r each at in
      let h = (x.1).held in
      subst (λ (p : Bytes). is_known_parent known (FilesAt p) (file_node r) ≡ true) x.2
      (subst (λ (s : FileRevision). is_known_parent known (FilesAt (x.0).path) (file_node s) ≡ true) x.3 (node-known known added (FilesAt (x.0).path) (file_node (x.0).revision) h.revision h.is_held))

  new-parents : (path : Bytes) (flag : _) (e1 e2 : Option FileRevision) (body : Bytes) → is_known_parent known (FilesAt path) (node_or_null e1) ≡ true → is_known_parent known (FilesAt path) (node_or_null e2) ≡ true
      → HasFileParents known (row_with path flag (new_revision e1 e2 body))
  new-parents path flag e1 e2 body a b =
      let both = one_or_two (node_or_null e1) (node_or_null e2) in
      let k = one-or-two (λ p. is_known_parent known (FilesAt path) p ≡ true) (node_or_null e1) (node_or_null e2) refl a b in
      file_order-either (λ o. IsTrue (is_known_parent known (FilesAt path) o.0) × IsTrue (is_known_parent known (FilesAt path) o.1)) (plain_meta body) both.0 both.1 k (k.1, k.0)

  kept-parents : (rows : List Row) (path : Bytes) (flag : _) (r : FileRevision) → Each (IsRightRow known) rows → revision_at rows path ≡ Some r → HasFileParents known (row_with path flag r)
  kept-parents rows path flag r each at =
      let x = at-row (IsRightRow known) rows path r each at in
      subst (λ (p : Bytes). HasFileParents known (row_with p flag r)) x.2
      (subst (λ (s : FileRevision). HasFileParents known (row_with (x.0).path flag s)) x.3 (file-parents known added x.0 (x.1).held))

  kept-revision : (rows : List Row) (path : Bytes) (r : FileRevision) → Each (IsRightRow known) rows → revision_at rows path ≡ Some r → IsRevision r
  kept-revision rows path r each at = let x = at-row (IsRightRow known) rows path r each at in subst IsRevision x.3 (x.1).revision

  pub row-parents : (t : TreeRow) → HasFileParents known (ruled_row ps t)
  row-parents t =
      let e1 = revision_at (ps.first).rows t.path in
      let e2 = revision_at (ps.second).rows t.path in
      let flag = flag_of_mode t.mode in
      ruled-either (λ r. HasFileParents known (row_with t.path flag r)) e1 e2 t
      (λ r at. kept-parents (ps.first).rows t.path flag r first at)
      (λ r at. kept-parents (ps.second).rows t.path flag r second at)
      (new-parents t.path flag e1 e2 t.content (known-at (ps.first).rows t.path first e1 refl) (known-at (ps.second).rows t.path second e2 refl))

  pub row-revision : (t : TreeRow) → IsBytes t.content → IsRevision (ruled_row ps t).revision
  row-revision t bytes =
      let e1 = revision_at (ps.first).rows t.path in
      let e2 = revision_at (ps.second).rows t.path in
      ruled-either IsRevision e1 e2 t (λ r at. kept-revision (ps.first).rows t.path r first at) (λ r at. kept-revision (ps.second).rows t.path r second at) (new-is_revision e1 e2 t.content bytes)

  pub rows-parents : (ts : List TreeRow) → Each (HasFileParents known) (map (ruled_row ps) ts)
  rows-parents [] = tt
  rows-parents (t ∷ ts) = (row-parents t, rows-parents ts)
