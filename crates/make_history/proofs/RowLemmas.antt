-- The file that a changeset changes or copies.
use Rattle.std.proofs.Common.{◌≡◌, ◌++◌, ◌==◌, ℕ, Bool, false, true≢false, List, [], ◌∷◌, Option, Some, None, refl, sym, ap, ◌∙◌, arith}
use Rattle.std.specs.Prelude.{codes, option_map, unwrap_or, bytes_eq, if◌then◌else◌}
use Rattle.std.specs.Borrow.{Bor}
use Rattle.std.specs.List.{find}
use Rattle.std.specs.Option.{option_copied}
use Rattle.text_model.specs.Text.{Bytes, IsBytes, lf, line, has_byte, has_piece}
use Rattle.text_model.specs.Id.{Id, IsId, null, hex, blob_id}
use Rattle.text_model.proofs.HexLemmas.{hex-lacks}
use Rattle.text_model.proofs.LackLemmas.{has_byte-lacks, Lacks-by_test, Lacks-append}
use Rattle.text_model.proofs.Options.{or_parts}
use Rattle.text_model.proofs.TestLemmas.{differs}
use Rattle.hg_model.specs.FileText.{mark, file_text, copy_meta, plain_meta}
use Rattle.hg_model.specs.Manifest.{ManifestEntry}
use Rattle.hg_model.specs.Revision.{Revision}
use Rattle.hg_manifest.specs.Values.{manifest_entry}
use Rattle.hg_manifest.specs.declared.entry.Entry.{Entry}
use Rattle.view_model.specs.View.{FileRevision, Row, entry_of_row, ChangesetView}
use Rattle.pair_model.specs.Block.{Parents}
use Rattle.pair_model.specs.Rule.{revision_at, node_or_null, one_or_two, new_revision}
use Rattle.file_rule.proofs.NewRow.{ordered}
use Rattle.file_rule.specs.declared.parents.Parent.{Parent}
use Rattle.file_rule.specs.Parents.{IsParent}
use Rattle.file_rule.specs.Made.{IsTextOver, IsRevisionOver}
use Rattle.file_rule.proofs.RowLemmas.{node-or_null, plain-splits, parents-again}
use Rattle.file_rule.proofs.RowsLoop.{entry-in}
use Rattle.file_rule.proofs.RowsStep.{copied}
use Rattle.file_rule.proofs.OrderLemmas.{plain-order}
use Rattle.hg_model.proofs.ParentOrder.{file_order-either}
use Rattle.make_model.specs.History.{made_revision, first_other, copy_or}
use Rattle.make_history.specs.Rows.{new_at, copied_revision, copy_with}

-- ---- a revision over those of the parents

pub node-at : (known : List Revision) (parent : Parent) (v : ChangesetView) (path : Bytes) (o : Option (Bor Entry)) (p : Id) → IsParent known parent v
    → option_map (λ e. manifest_entry e.now) o ≡ find (λ (e : ManifestEntry). bytes_eq e.path path) (parent.manifest).now
    → p ≡ unwrap_or (option_map (λ (e : ManifestEntry). e.node) (option_map manifest_entry (option_copied o))) null → p ≡ node_or_null (revision_at v.rows path)
node-at known parent v path o p is got at =
    at ∙ ap (λ (e : Option ManifestEntry). unwrap_or (option_map (λ (x : ManifestEntry). x.node) e) null) (copied o)
    ∙ node-or_null known path _ _ (entry-in known (parent.manifest).now v.rows path _ is.entries is.files got)

pub new-over : (e1 e2 : Option FileRevision) (body : Bytes) (pq : Id × Id) (text : Bytes) → IsBytes body → pq ≡ ordered (node_or_null e1) (node_or_null e2) → text ≡ file_text (plain_meta body) body
    → IsRevisionOver (new_revision e1 e2 body) (blob_id body) pq.0 pq.1 text
new-over e1 e2 body pq text bytes parents text_is =
    let both = one_or_two (node_or_null e1) (node_or_null e2) in
    let order : ◌≡◌ {A = Id × Id} ((new_revision e1 e2 body).p, (new_revision e1 e2 body).q) pq = plain-order body both.0 both.1 ∙ sym parents in
    record {
      parents = (ap (λ (x : Id × Id). x.0) order, ap (λ (x : Id × Id). x.1) order);
      text_is = record { spells = plain-splits body text bytes text_is; order = parents-again body both.0 both.1 pq parents };
      blob_is = refl;
    }

-- ---- a copy

-- where there is no first byte of the mark there is no mark
no-mark : (text : Bytes) → has_byte 1 text ≡ false → has_piece mark text ≡ false
no-mark [] h = refl
no-mark (b ∷ text) h =
    let parts = or_parts (b == 1) (has_byte 1 text) h in
    let flip : (1 == b) ≡ false = flipped b parts.0 in
    rw (flip, no-mark text parts.1) refl
  where
    flipped : (b : ℕ) → (b == 1) ≡ false → (1 == b) ≡ false
    flipped b e = differs 1 b (λ is. true≢false (ap (λ (n : ℕ). n == 1) is ∙ e))

meta-lacks : (path : Bytes) (node : Id) → has_byte 1 path ≡ false → IsId node → has_piece mark (copy_meta path node) ≡ false
meta-lacks path node h id = no-mark (copy_meta path node) (has_byte-lacks 1 (copy_meta path node)
    (Lacks-append 1 (line (codes "copy: " ++ path)) (line (codes "copyrev: " ++ hex node))
    (Lacks-append 1 (codes "copy: " ++ path) (lf ∷ []) (Lacks-append 1 (codes "copy: ") path (Lacks-by_test 1 (codes "copy: ") refl) (Lacks-by_test 1 path h)) (Lacks-by_test 1 (lf ∷ []) refl))
    (Lacks-append 1 (codes "copyrev: " ++ hex node) (lf ∷ []) (Lacks-append 1 (codes "copyrev: ") (hex node) (Lacks-by_test 1 (codes "copyrev: ") refl) (hex-lacks 1 node (omega arith) id.1)) (Lacks-by_test 1 (lf ∷ []) refl))))

pub copy-over : (path : Bytes) (node : Id) (body text : Bytes) → has_byte 1 path ≡ false → IsId node → IsBytes (copy_meta path node) → IsBytes body → text ≡ file_text (Some (copy_meta path node)) body
    → IsRevisionOver (copy_with (copy_meta path node) body) (blob_id body) null null text
copy-over path node body text h id meta bytes text_is = record {
  parents = (refl, refl);
  text_is = record {
    spells = ((bytes, meta, meta-lacks path node h id), text_is);
    order = file_order-either (λ (o : Id × Id). (null, null) ≡ o) (Some (copy_meta path node)) null null refl refl;
  };
  blob_is = refl;
}

-- the text that was written piece by piece
pub text-of : (a0 a1 a2 a3 a4 r m body meta : Bytes) → a0 ≡ [] → a1 ≡ a0 ++ mark → a2 ≡ a1 ++ m → a3 ≡ a2 ++ mark → a4 ≡ a3 ++ body → r ≡ a4 → m ≡ meta → r ≡ file_text (Some meta) body
text-of a0 a1 a2 a3 a4 r m body meta e0 e1 e2 e3 e4 er em =
    er ∙ e4 ∙ ap (λ (l : Bytes). l ++ body) (e3 ∙ ap (λ (l : Bytes). l ++ mark) (e2 ∙ (λ i. (e1 ∙ ap (λ (l : Bytes). l ++ mark) e0) i ++ em i)))

-- a text has metadata and a body
pub over-text : (r : FileRevision) (blob p q : Id) (text : Bytes) → IsRevisionOver r blob p q text → (meta : Option Bytes) × (body : Bytes) × IsTextOver text meta body p q
over-text r blob p q text is = (r.meta, r.body, is.text_is)

-- the entry that is copied is that of a row
pub copied-is : (ps : Parents) (path body : Bytes) (e : ManifestEntry) → Some e ≡ option_map entry_of_row (first_other path (ps.first).rows) → copy_with (copy_meta e.path e.node) body ≡ copied_revision ps path body
copied-is ps path body e at = by (first_other path (ps.first).rows) at
  where
    by : (o : Option Row) → Some e ≡ option_map entry_of_row o → copy_with (copy_meta e.path e.node) body ≡ copy_or (new_at ps path body) body o
    by None at = absurd cc
    by (Some row) at = let is : e ≡ entry_of_row row = cc in (λ i. copy_with (copy_meta (is i).path (is i).node) body)

pub not-copied : (ps : Parents) (path body : Bytes) → None ≡ option_map entry_of_row (first_other path (ps.first).rows) → new_at ps path body ≡ copied_revision ps path body
not-copied ps path body at = by (first_other path (ps.first).rows) at
  where
    by : (o : Option Row) → None ≡ option_map entry_of_row o → new_at ps path body ≡ copy_or (new_at ps path body) body o
    by None at = refl
    by (Some row) at = absurd cc

-- which of both is made
pub made-copied : (ps : Parents) (number : ℕ) (path body : Bytes) → number ≡ 0 → copied_revision ps path body ≡ made_revision ps number path body
unfolding made_revision
made-copied ps number path body is = sym (ap (λ (n : ℕ). copy_or (new_at ps path body) body (if n == 0 then first_other path (ps.first).rows else None)) is)

pub made-new : (ps : Parents) (number : ℕ) (path body : Bytes) → (number ≡ 0 → ⊥) → new_at ps path body ≡ made_revision ps number path body
unfolding made_revision
made-new ps number path body other = sym (ap (λ (b : Bool). copy_or (new_at ps path body) body (if b then first_other path (ps.first).rows else None)) (differs number 0 other))
