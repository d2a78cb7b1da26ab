-- What the rule gives for one file.
use Rattle.std.proofs.Common.{◌≡◌, ◌++◌, ℕ, Bool, true, false, true≢false, List, [], ◌∷◌, Option, Some, None, refl, sym, ap, subst, ◌∙◌, bytes_eq}
use Rattle.std.proofs.lemmas.Option.{same_Some, none-some}
use Rattle.std.specs.Prelude.{option_map, if◌then◌else◌, unwrap_or, ◌&&◌, ◌||◌}
use Rattle.std.specs.Option.{option_or}
use Rattle.std.proofs.lemmas.Slice.Eq.{bytes_eq-Decides}
use Rattle.text_model.specs.Lists.{Each}
use Rattle.text_model.specs.Text.{Bytes, IsBytes}
use Rattle.text_model.specs.Id.{Id, null, blob_id}
use Rattle.text_model.proofs.TestLemmas.{both, bytes_eq-is}
use Rattle.text_model.proofs.Options.{some_none}
use Rattle.git_model.specs.Object.{Object, object_at, has_id}
use Rattle.git_model.specs.Unfold.{FileRow}
use Rattle.hg_model.specs.FileText.{file_text, IsFile, IsFileText, plain_meta, begins_with_mark, file_order, manifest_order}
use Rattle.hg_model.specs.Manifest.{ManifestEntry, Flag}
use Rattle.hg_model.specs.Revision.{Revision, FilesAt, revision_of, same_parents}
use Rattle.hg_filelog.proofs.MarkLemmas.{one_pair}
use Rattle.hg_store.specs.Known.{IsFileBlob, AreAdded, AreFileParents, knows_same, is_same_as}
use Rattle.view_model.specs.View.{FileRevision, file_node, Row, TreeRow}
use Rattle.view_model.specs.Dump.{file_revision}
use Rattle.view_model.specs.Held.{IsFileHeld, IsBlobHeld}
use Rattle.pair_model.specs.Rule.{with_body, node_or_null, new_revision, ruled_revision}
use Rattle.pair_known.specs.Fresh.{fresh_revision}
use Rattle.pair_known.specs.declared.fresh_files.FreshFile.{FreshFile}
use Rattle.pair_known.proofs.HeldViews.{blob-of_row}
use Rattle.file_rule.specs.Parents.{row_with, IsRevisionAt}
use Rattle.file_rule.specs.Made.{IsRowOf, IsMadeRow, IsKnownAs, revision_with, fresh_list}
use Rattle.file_rule.specs.declared.revision.RuledRow.{RuledRow}
use Rattle.hg_model.proofs.ParentOrder.{file_order-turned, manifest_order-again}
use Rattle.file_rule.proofs.OrderLemmas.{plain-order}

-- ---- a parent's revision

module _ (known : List Revision) (path : Bytes) where
  pub blob-kept : (e : ManifestEntry) (r : Option FileRevision) (found blob : Id) (t : Bool) → IsRevisionAt known path (Some e) r → IsFileBlob known e.path e.node found → bytes_eq found blob ≡ t
      → (if t then Some e.node else None) ≡ option_map file_node (with_body blob r)
  blob-kept e None found blob t h b test = absurd h
  blob-kept e (Some r) found blob t h b test =
      let b' : IsFileBlob known path (file_node r) found = subst (λ (x : Id). IsFileBlob known path x found) h.1 (subst (λ (p : Bytes). IsFileBlob known p e.node found) h.0 b) in
      let is = blob-of_row known (row_with path e.flag r) found h.2 b' in
      ap (λ (x : Bool). if x then Some e.node else None) (sym test ∙ ap (λ (i : Id). bytes_eq i blob) is)
      ∙ by (bytes_eq (blob_id r.body) blob) refl
    where
      by : (x : Bool) → bytes_eq (blob_id r.body) blob ≡ x → (if bytes_eq (blob_id r.body) blob then Some e.node else None) ≡ option_map file_node (with_body blob (Some r))
      by true e' = rw e' (ap Some h.1)
      by false e' = rw e' refl

-- ---- what a draft brings comes first

pub object-front : (xs ys : List Object) (id : Id) (o : Object) → object_at xs id ≡ Some o → object_at (xs ++ ys) id ≡ Some o
object-front [] ys id o h = absurd (none-some _ h)
object-front (x ∷ xs) ys id o h = by (has_id id x) refl (object-front xs ys id o)
  where
    by : (t : Bool) → has_id id x ≡ t → (object_at xs id ≡ Some o → object_at (xs ++ ys) id ≡ Some o) → object_at (x ∷ (xs ++ ys)) id ≡ Some o
    by true e go = rw e (sym (rw e refl) ∙ h)
    by false e go = rw e (go (sym (rw e refl) ∙ h))

pub object-behind : (xs ys : List Object) (id : Id) → object_at xs id ≡ None → object_at (xs ++ ys) id ≡ object_at ys id
object-behind [] ys id h = refl
object-behind (x ∷ xs) ys id h = by (has_id id x) refl (object-behind xs ys id)
  where
    by : (t : Bool) → has_id id x ≡ t → (object_at xs id ≡ None → object_at (xs ++ ys) id ≡ object_at ys id) → object_at (x ∷ (xs ++ ys)) id ≡ object_at ys id
    by true e go = absurd (some_none {x = x} (sym (rw e refl) ∙ h))
    by false e go = rw e (go (sym (rw e refl) ∙ h))

-- ---- a kept revision

module _ (known : List Revision) where
  pub kept-row : (path : Bytes) (flag : Flag) (blob : Id) (e : Option ManifestEntry) (r : Option FileRevision) (rev : FileRevision) → IsRevisionAt known path e r → with_body blob r ≡ Some rev
      → (blob_id rev.body ≡ blob) × IsFileHeld known (row_with path flag rev)
  kept-row path flag blob None None rev h is = absurd (none-some _ is)
  kept-row path flag blob None (Some r) rev h is = absurd h
  kept-row path flag blob (Some e) None rev h is = absurd h
  kept-row path flag blob (Some e) (Some r) rev h is = by (bytes_eq (blob_id r.body) blob) refl
    where
      by : (t : Bool) → bytes_eq (blob_id r.body) blob ≡ t → (blob_id rev.body ≡ blob) × IsFileHeld known (row_with path flag rev)
      by true t =
          let same : r ≡ rev = same_Some _ _ (sym (rw t refl) ∙ is) in
          let held : IsFileHeld known (row_with path flag r) = record { revision = h.2.revision; is_held = h.2.is_held; parents = h.2.parents; text = h.2.text } in
          (ap (λ (x : FileRevision). blob_id x.body) (sym same) ∙ bytes_eq-is (blob_id r.body) blob t, subst (λ (x : FileRevision). IsFileHeld known (row_with path flag x)) same held)
      by false t = absurd (none-some _ (sym (rw t refl) ∙ is))

  -- one of the two, the first before the second
  pub kept : (objects : List Object) (file : FileRow) (flag : Flag) (first second : Option ManifestEntry) (r s : Option FileRevision) (t : TreeRow) → IsRowOf known objects file first second r s t
      → (node : Id) → Some node ≡ option_map file_node (option_or (with_body file.id r) (with_body file.id s))
      → (rev : FileRevision) × (ruled_revision r s t ≡ rev) × (node ≡ file_node rev) × (blob_id rev.body ≡ file.id) × IsFileHeld known (row_with file.path flag rev)
  unfolding ruled_revision
  kept objects file flag first second r s t is node at = by (with_body file.id r) (with_body file.id s) refl refl at
    where
      id_is : t.id ≡ file.id
      id_is = ap (λ (x : FileRow). x.id) is.of_file

      rule_is : (a b : Option FileRevision) → with_body file.id r ≡ a → with_body file.id s ≡ b → ruled_revision r s t ≡ unwrap_or (option_or a b) (new_revision r s t.content)
      rule_is a b e f = λ i. unwrap_or (option_or ((ap (λ (x : Id). with_body x r) id_is ∙ e) i) ((ap (λ (x : Id). with_body x s) id_is ∙ f) i)) (new_revision r s t.content)

      by : (a b : Option FileRevision) → with_body file.id r ≡ a → with_body file.id s ≡ b → Some node ≡ option_map file_node (option_or a b)
          → (rev : FileRevision) × (ruled_revision r s t ≡ rev) × (node ≡ file_node rev) × (blob_id rev.body ≡ file.id) × IsFileHeld known (row_with file.path flag rev)
      by (Some rev) b e f at =
          let k = kept-row file.path flag file.id first r rev is.in_first e in
          (rev, rule_is (Some rev) b e f, same_Some _ _ at, k.0, k.1)
      by None (Some rev) e f at =
          let k = kept-row file.path flag file.id second s rev is.in_second f in
          (rev, rule_is None (Some rev) e f, same_Some _ _ at, k.0, k.1)
      by None None e f at = absurd (none-some _ (sym at))

  pub kept-ruled : (objects : List Object) (file : FileRow) (flag : Flag) (first second : Option ManifestEntry) (r s : Option FileRevision) (t : TreeRow) → IsRowOf known objects file first second r s t
      → (node : Id) → Some node ≡ option_map file_node (option_or (with_body file.id r) (with_body file.id s)) → (made : RuledRow) → made.row ≡ (record { path = file.path; flag = flag; node = node; blob = file.id })
      → made.fresh ≡ None → IsMadeRow known made (row_with file.path flag (ruled_revision r s t))
  kept-ruled objects file flag first second r s t is node at made row none =
      let k = kept objects file flag first second r s t is node at in
      let held : IsFileHeld known (row_with file.path flag (ruled_revision r s t)) = subst (λ (x : FileRevision). IsFileHeld known (row_with file.path flag x)) (sym k.1) k.4 in
      record {
        value = row ∙ (λ i. record { path = file.path; flag = flag; node = (k.2 ∙ ap file_node (sym k.1)) i; blob = (sym k.3 ∙ ap (λ (x : FileRevision). blob_id x.body) (sym k.1)) i });
        held = subst (λ (f : Option FreshFile). IsFileHeld (fresh_list f ++ known) (row_with file.path flag (ruled_revision r s t))) (sym none) held;
        of_row = subst (λ (f : Option FreshFile). Each (λ x. x ≡ file_revision null (row_with file.path flag (ruled_revision r s t))) (fresh_list f)) (sym none) tt;
      }

pub kept-one : (known : List Revision) → AreAdded known → (path : Bytes) (flag : Flag) (blob : Id) (e : Option ManifestEntry) (r : Option FileRevision) (rev : FileRevision) → IsRevisionAt known path e r → with_body blob r ≡ Some rev
    → (blob_id rev.body ≡ blob) × IsFileHeld known (row_with path flag rev)
kept-one known added = kept-row known

-- the first is kept
pub first-kept : (a b : Option FileRevision) (node : Id) → Some node ≡ option_map file_node a → Some node ≡ option_map file_node (option_or a b)
first-kept (Some x) b node at = at
first-kept None b node at = absurd (none-some _ (sym at))

-- none of the two is kept
pub not-kept : (file : FileRow) (r s : Option FileRevision) (t : TreeRow) → t.id ≡ file.id → None ≡ option_map file_node (option_or (with_body file.id r) (with_body file.id s)) → ruled_revision r s t ≡ new_revision r s t.content
unfolding ruled_revision
not-kept file r s t id_is at = by (option_or (with_body file.id r) (with_body file.id s)) refl at
  where
    by : (o : Option FileRevision) → option_or (with_body file.id r) (with_body file.id s) ≡ o → None ≡ option_map file_node o → ruled_revision r s t ≡ new_revision r s t.content
    by None e at = λ i. unwrap_or ((ap (λ (x : Id). option_or (with_body x r) (with_body x s)) id_is ∙ e) i) (new_revision r s t.content)
    by (Some x) e at = absurd (none-some _ at)

-- ---- a new revision

pub node-or_null : (known : List Revision) (path : Bytes) (e : Option ManifestEntry) (r : Option FileRevision) → IsRevisionAt known path e r → unwrap_or (option_map (λ x. x.node) e) null ≡ node_or_null r
node-or_null known path None None h = refl
node-or_null known path None (Some r) h = absurd h
node-or_null known path (Some e) None h = absurd h
node-or_null known path (Some e) (Some r) h = h.1

-- the text of a body that has no metadata splits into these again
pub plain-splits : (body text : Bytes) → IsBytes body → text ≡ file_text (plain_meta body) body → IsFileText text (plain_meta body) body
plain-splits body text bytes is = (by (begins_with_mark body) refl, is)
  where
    by : (t : Bool) → begins_with_mark body ≡ t → IsFile (plain_meta body) body
    by true e = rw e (bytes, tt, refl)
    by false e = rw e (bytes, e)

-- two parents in their order, again
pub parents-again : (body : Bytes) (p q : Id) (pq : Id × Id) → pq ≡ manifest_order p q → pq ≡ file_order (plain_meta body) pq.0 pq.1
parents-again body p q pq is =
    is ∙ sym (manifest_order-again p q) ∙ (λ i. manifest_order (sym is i).0 (sym is i).1) ∙ sym (plain-order body pq.0 pq.1)

pub fresh-held : (known : List Revision) (row : Row) (f : FreshFile) → f.path ≡ row.path → f.node ≡ file_node row.revision → ◌≡◌ {A = Id × Id} ((row.revision).p, (row.revision).q) (file_order (row.revision).meta f.p f.q)
    → IsFileText f.text (row.revision).meta (row.revision).body → IsFileHeld (fresh_revision f ∷ known) row
fresh-held known row f path node parents text =
    let test : (bytes_eq row.path f.path && bytes_eq (file_node row.revision) f.node) ≡ true =
    rw ((bytes_eq-Decides row.path f.path).1 (sym path), (bytes_eq-Decides (file_node row.revision) f.node).1 (sym node)) refl in
    record { revision = fresh_revision f; is_held = rw test refl; parents = parents; text = text }

pub known-held : (known : List Revision) (row : Row) (p q : Id) (text : Bytes) → (row.revision).p ≡ p → (row.revision).q ≡ q → IsFileText text (row.revision).meta (row.revision).body
    → IsKnownAs known row.path (file_node row.revision) p q text → IsFileHeld known row
known-held known row p q text p_is q_is spells k = record {
  revision = k.revision;
  is_held = k.is_held;
  parents = (λ i. (p_is i, q_is i)) ∙ k.parents (row.revision).meta (row.revision).body spells;
  text = subst (λ (t : Bytes). IsFileText t (row.revision).meta (row.revision).body) (sym k.text_is) spells;
}

-- the same revision isn't known where it isn't found with this text and these parents
pub not_known : (known : List Revision) (path : Bytes) (node : Id) (pq : Id × Id) (text : Bytes) (meta : Option Bytes) (body : Bytes) → IsFileText text meta body → pq ≡ file_order meta pq.0 pq.1
    → ((r : Revision) → revision_of known (FilesAt path) node ≡ Some r → r.text ≡ text → file_order meta r.p r.q ≡ pq → ⊥) → knows_same known (revision_with path node pq.0 pq.1 text) ≡ false
not_known known path node pq text meta body spells order none = by (revision_of known (FilesAt path) node) refl
  where
    given : Revision
    given = revision_with path node pq.0 pq.1 text

    or_cases : (a b : Bool) → (a || b) ≡ true → (b ≡ false → a ≡ true)
    or_cases true b h = λ _. refl
    or_cases false b h = λ f. absurd (true≢false (sym h ∙ f))

    ordered : (r : Revision) → same_parents (FilesAt path) pq.0 pq.1 r.p r.q ≡ true → file_order meta r.p r.q ≡ pq
    ordered r h = cases (bytes_eq pq.0 r.q && bytes_eq pq.1 r.p) refl
      where
        cases : (t : Bool) → (bytes_eq pq.0 r.q && bytes_eq pq.1 r.p) ≡ t → file_order meta r.p r.q ≡ pq
        cases true e =
            let parts = both (bytes_eq pq.0 r.q) (bytes_eq pq.1 r.p) e in
            file_order-turned meta r.p r.q ∙ (λ i. file_order meta (sym (bytes_eq-is pq.0 r.q parts.0) i) (sym (bytes_eq-is pq.1 r.p parts.1) i)) ∙ sym order
        cases false e =
            let parts = both (bytes_eq pq.0 r.p) (bytes_eq pq.1 r.q) (or_cases (bytes_eq pq.0 r.p && bytes_eq pq.1 r.q) (bytes_eq pq.0 r.q && bytes_eq pq.1 r.p) h e) in
            (λ i. file_order meta (sym (bytes_eq-is pq.0 r.p parts.0) i) (sym (bytes_eq-is pq.1 r.q parts.1) i)) ∙ sym order

    by : (o : Option Revision) → revision_of known (FilesAt path) node ≡ o → knows_same known (revision_with path node pq.0 pq.1 text) ≡ false
    by None e = ap (is_same_as given) e
    by (Some r) e = ap (is_same_as given) e ∙ test (bytes_eq text r.text && same_parents (FilesAt path) pq.0 pq.1 r.p r.q) refl
      where
        test : (t : Bool) → (bytes_eq text r.text && same_parents (FilesAt path) pq.0 pq.1 r.p r.q) ≡ t → (bytes_eq text r.text && same_parents (FilesAt path) pq.0 pq.1 r.p r.q) ≡ false
        test false h = h
        test true h =
            let parts = both (bytes_eq text r.text) (same_parents (FilesAt path) pq.0 pq.1 r.p r.q) h in
            absurd (none r e (sym (bytes_eq-is text r.text parts.0)) (ordered r parts.1))

-- the parents that are found are those of the text
pub found-parents : (known : List Revision) (path : Bytes) (node : Id) (found : Id × Id) (meta : Option Bytes) (body : Bytes) (r : Revision) → AreFileParents known path node found
    → revision_of known (FilesAt path) node ≡ Some r → IsFileText r.text meta body → found ≡ file_order meta r.p r.q
found-parents known path node found meta body r a at spells =
    let same : a.revision ≡ r = same_Some _ _ (sym a.is_held ∙ at) in
    let text : file_text a.meta a.body ≡ file_text meta body = sym (a.spells).1 ∙ ap (λ (x : Revision). x.text) same ∙ spells.1 in
    a.in_order ∙ (λ i. file_order ((one_pair a.meta meta a.body body (a.spells).0 spells.0 text).0 i) (same i).p (same i).q)

pub one_parents : (known : List Revision) (path : Bytes) (node : Id) (a b : Id × Id) → AreFileParents known path node a → AreFileParents known path node b → a ≡ b
one_parents known path node a b h k =
    found-parents known path node a k.meta k.body k.revision h k.is_held k.spells ∙ sym k.in_order

pub known-as : (known : List Revision) (path : Bytes) (node : Id) (pq : Id × Id) (text found : Bytes) → AreFileParents known path node pq → Some found ≡ option_map (λ r. r.text) (revision_of known (FilesAt path) node) → found ≡ text
    → IsKnownAs known path node pq.0 pq.1 text
known-as known path node pq text found a at same =
    let is : (a.revision).text ≡ text = sym (same_Some _ _ (at ∙ ap (option_map (λ (r : Revision). r.text)) a.is_held)) ∙ same in
    record {
      revision = a.revision;
      is_held = a.is_held;
      text_is = is;
      parents = λ meta body spells. found-parents known path node pq meta body a.revision a a.is_held (subst (λ (t : Bytes). IsFileText t meta body) (sym is) spells);
    }

pub not_parents : (known : List Revision) (path : Bytes) (node : Id) (pq : Id × Id) (text : Bytes) (meta : Option Bytes) (body : Bytes) → IsFileText text meta body → pq ≡ file_order meta pq.0 pq.1
    → (AreFileParents known path node pq → ⊥) → knows_same known (revision_with path node pq.0 pq.1 text) ≡ false
not_parents known path node pq text meta body spells order none =
    not_known known path node pq text meta body spells order (λ r at is in_order. none (record {
      revision = r;
      is_held = at;
      meta = meta;
      body = body;
      spells = subst (λ (t : Bytes). IsFileText t meta body) (sym is) spells;
      in_order = sym in_order;
    }))

pub other_text : (known : List Revision) (path : Bytes) (node : Id) (pq : Id × Id) (text found : Bytes) (meta : Option Bytes) (body : Bytes) → IsFileText text meta body → pq ≡ file_order meta pq.0 pq.1
    → Some found ≡ option_map (λ r. r.text) (revision_of known (FilesAt path) node) → bytes_eq found text ≡ false → knows_same known (revision_with path node pq.0 pq.1 text) ≡ false
other_text known path node pq text found meta body spells order at differs =
    not_known known path node pq text meta body spells order (λ r held is in_order.
    let same : found ≡ text = same_Some _ _ (at ∙ ap (option_map (λ (r : Revision). r.text)) held) ∙ is in
    true≢false (sym ((bytes_eq-Decides found text).1 same) ∙ differs))

pub no_text : (known : List Revision) (path : Bytes) (node : Id) (pq : Id × Id) (text : Bytes) → None ≡ option_map {U = List ℕ} (λ r. r.text) (revision_of known (FilesAt path) node)
    → knows_same known (revision_with path node pq.0 pq.1 text) ≡ false
no_text known path node pq text at = by (revision_of known (FilesAt path) node) refl at
  where
    by : (o : Option Revision) → revision_of known (FilesAt path) node ≡ o → None ≡ option_map {U = List ℕ} (λ r. r.text) o → knows_same known (revision_with path node pq.0 pq.1 text) ≡ false
    by None e at = ap (is_same_as (revision_with path node pq.0 pq.1 text)) e
    by (Some r) e at = absurd (none-some _ at)

-- ---- contents

pub brought : (xs ys : List Object) (t : TreeRow) (id : Id) (o : Object) → t.id ≡ id → IsBlobHeld (xs ++ ys) t → Some o ≡ object_at xs id → o.content ≡ t.content
brought xs ys t id o is h at =
    let front : object_at (xs ++ ys) t.id ≡ Some o = object-front xs ys t.id o (ap (object_at xs) is ∙ sym at) in
    ap (λ (x : Object). x.content) (same_Some _ _ (sym front ∙ h.1)) ∙ h.2

pub stored : (xs ys : List Object) (t : TreeRow) (id : Id) → t.id ≡ id → IsBlobHeld (xs ++ ys) t → None ≡ object_at xs id → (o : Object) × (object_at ys id ≡ Some o) × (o.content ≡ t.content)
stored xs ys t id is h none =
    let behind : object_at (xs ++ ys) t.id ≡ object_at ys id = object-behind xs ys t.id (ap (object_at xs) is ∙ sym none) ∙ ap (object_at ys) is in
    (h.0, sym behind ∙ h.1, h.2)
