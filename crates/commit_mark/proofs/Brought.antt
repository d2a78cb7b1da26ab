-- Whether the rule gives a file, whose revision a draft brings, the revision that it has.
use Rattle.std.proofs.Common.{◌≡◌, Bool, true, List, Option, Some, None, refl, sym, ap, ◌∙◌}
use Rattle.std.proofs.lemmas.Option.{same_Some, none-some}
use Rattle.std.specs.Prelude.{option_map, unwrap_or, ◌↔◌, ◌&&◌, IsTrue}
use Rattle.std.specs.Option.{option_or}
use Rattle.text_model.specs.Id.{Id, blob_id}
use Rattle.text_model.proofs.TestLemmas.{both}
use Rattle.hg_model.specs.Manifest.{ManifestEntry}
use Rattle.hg_model.specs.Revision.{Revision}
use Rattle.hg_store.specs.Known.{AreAdded}
use Rattle.view_model.specs.View.{FileRevision, file_node, Row, Compared, compared_revision, SameRow}
use Rattle.view_model.specs.Held.{IsFileHeld}
use Rattle.pair_model.specs.Block.{Parents}
use Rattle.pair_model.specs.Rule.{with_body, new_revision, ruled_revision, ruled_row, revision_at, tree_row_of}
use Rattle.pair_known.specs.Rows.{RowValue, row_value}
use Rattle.file_rule.specs.Parents.{row_with}
use Rattle.file_rule.proofs.BackLemmas.{flag-back}
use Rattle.file_rule.proofs.RowLemmas.{kept-one}
use Rattle.commit_rule.specs.Parts.{IsRowOf}
use Rattle.partner_model.specs.Mark.{is_ruled}
use Rattle.mark_law.proofs.Decided.{one-answer, is_ruled-decides}
use Rattle.commit_mark.specs.Parts.{AreEntriesAt, SaysTheSame}

module _ (ps : Parents) (w : Row) where
  abbrev first : Option FileRevision
  first = revision_at (ps.first).rows w.path

  abbrev second : Option FileRevision
  second = revision_at (ps.second).rows w.path

  abbrev pub kept_of : Id → Option FileRevision
  kept_of blob = option_or (with_body blob first) (with_body blob second)

  -- the test tells whether the rule gives the row back
  pub by-same : (t : Bool) → (IsTrue t ↔ SameRow (ruled_row ps (tree_row_of w)) w) → t ≡ is_ruled ps w
  by-same t h = one-answer t (is_ruled ps w) h (is_ruled-decides ps w)

  rule-is : (o : Option FileRevision) → kept_of (blob_id (w.revision).body) ≡ o → ruled_revision first second (tree_row_of w) ≡ unwrap_or o (new_revision first second (w.revision).body)
  unfolding ruled_revision
  rule-is o e = ap (λ (x : Option FileRevision). unwrap_or x (new_revision first second (w.revision).body)) e

  same-row : compared_revision (ruled_revision first second (tree_row_of w)) ≡ compared_revision w.revision → SameRow (ruled_row ps (tree_row_of w)) w
  same-row is = (refl, flag-back w.flag, is)

  module _ (row : RowValue) (of_row : row_value w ≡ row) where
    blob-is : row.blob ≡ blob_id (w.revision).body
    blob-is = ap (λ (x : RowValue). x.blob) (sym of_row)

    -- no parent's revision has the body
    pub by-new : None ≡ option_map file_node (kept_of row.blob) → (t : Bool) → (IsTrue t ↔ new_revision first second (w.revision).body ≡ w.revision) → t ≡ is_ruled ps w
    by-new none t test = by-same t (there, back)
      where
        absent : (o : Option FileRevision) → None ≡ option_map file_node o → o ≡ None
        absent None h = refl
        absent (Some r) h = absurd (none-some _ h)

        rule : ruled_revision first second (tree_row_of w) ≡ new_revision first second (w.revision).body
        rule = rule-is None (ap kept_of (sym blob-is) ∙ absent (kept_of row.blob) none)

        there : IsTrue t → SameRow (ruled_row ps (tree_row_of w)) w
        there h = same-row (ap compared_revision (rule ∙ test.0 h))

        back : SameRow (ruled_row ps (tree_row_of w)) w → IsTrue t
        back same =
            let c : compared_revision (new_revision first second (w.revision).body) ≡ compared_revision w.revision = ap compared_revision (sym rule) ∙ same.2 in
            test.1 (λ i. record { p = (c i).p; q = (c i).q; meta = (c i).meta; body = (w.revision).body })

    module _ (known : List Revision) (added : AreAdded known) (e f : Option ManifestEntry) (entries : AreEntriesAt known e f ps w) (node : Id) (at : Some node ≡ option_map file_node (kept_of row.blob)) where
      -- the parent's revision that has the body
      pub record Kept : Type 0 where
        pub rev : FileRevision
        pub is_kept : kept_of row.blob ≡ Some rev
        pub node_is : node ≡ file_node rev
        pub blob : blob_id rev.body ≡ row.blob
        pub held : IsFileHeld known (row_with w.path w.flag rev)

      pub kept : Kept
      kept = by (with_body row.blob first) (with_body row.blob second) refl refl at
        where
          by : (a b : Option FileRevision) → with_body row.blob first ≡ a → with_body row.blob second ≡ b → Some node ≡ option_map file_node (option_or a b) → Kept
          by (Some rev) b ea eb at =
              let k = kept-one known added w.path w.flag row.blob e first rev entries.in_first ea in
              record { rev = rev; is_kept = λ i. option_or (ea i) (eb i); node_is = same_Some _ _ at; blob = k.0; held = k.1 }
          by None (Some rev) ea eb at =
              let k = kept-one known added w.path w.flag row.blob f second rev entries.in_second eb in
              record { rev = rev; is_kept = λ i. option_or (ea i) (eb i); node_is = same_Some _ _ at; blob = k.0; held = k.1 }
          by None None ea eb at = absurd (none-some _ (sym at))

      -- where it has the row's node, the store has it at the row
      pub kept-row : node ≡ row.node → IsRowOf known row (row_with w.path w.flag kept.rev)
      kept-row same = ((λ i. record { path = (of_row i).path; flag = (of_row i).flag; node = (sym kept.node_is ∙ same) i; blob = kept.blob i }), kept.held)

      pub by-kept : (t s : Bool) → (IsTrue t ↔ node ≡ row.node) → (t ≡ true → (IsTrue s ↔ SaysTheSame kept.rev w.revision)) → (t && s) ≡ is_ruled ps w
      by-kept t s nodes says = by-same (t && s) (there t s nodes says, back t s nodes says)
        where
          node_of : row.node ≡ file_node w.revision
          node_of = ap (λ (x : RowValue). x.node) (sym of_row)

          rule : ruled_revision first second (tree_row_of w) ≡ kept.rev
          rule = rule-is (Some kept.rev) (ap kept_of (sym blob-is) ∙ kept.is_kept)

          there : (t s : Bool) → (IsTrue t ↔ node ≡ row.node) → (t ≡ true → (IsTrue s ↔ SaysTheSame kept.rev w.revision)) → IsTrue (t && s) → SameRow (ruled_row ps (tree_row_of w)) w
          there t s nodes says h =
              let parts = both t s h in
              let n = sym kept.node_is ∙ nodes.0 parts.0 ∙ node_of in
              let same = (says parts.0).0 parts.1 in
              let blob = kept.blob ∙ blob-is in
              same-row (ap compared_revision rule ∙ (λ i. record { node = n i; p = same.p i; q = same.q i; meta = same.meta i; body = blob i }))

          back : (t s : Bool) → (IsTrue t ↔ node ≡ row.node) → (t ≡ true → (IsTrue s ↔ SaysTheSame kept.rev w.revision)) → SameRow (ruled_row ps (tree_row_of w)) w → IsTrue (t && s)
          back t s nodes says same =
              let c : compared_revision kept.rev ≡ compared_revision w.revision = ap compared_revision (sym rule) ∙ same.2 in
              let t_is = nodes.1 (kept.node_is ∙ ap (λ (x : Compared). x.node) c ∙ sym node_of) in
              let s_is = (says t_is).1 (record { p = ap (λ (x : Compared). x.p) c; q = ap (λ (x : Compared). x.q) c; meta = ap (λ (x : Compared). x.meta) c }) in
              λ i. t_is i && s_is i
