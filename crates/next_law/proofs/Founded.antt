-- What each known revision shows by itself, and that a changeset which is held by such revisions is a view within its limits. Unlike in a store
-- nothing is asked of the bytes of a text: what is held spells its text.
use Rattle.std.proofs.Common.{◌≡◌, ◌≤◌, ◌+◌, ℕ, Bool, true, false, true≢false, not, ◌&&◌, ◌||◌, List, [], ◌∷◌, length, Option, Some, None, refl, sym, ap, subst, ◌∙◌, arith}
use Rattle.std.specs.Prelude.{bytes_eq, is_some}
use Rattle.std.specs.List.{list_any}
use Rattle.text_model.specs.Limits as limits
use Rattle.text_model.specs.Lists.{Each}
use Rattle.text_model.specs.Text.{Bytes}
use Rattle.text_model.specs.Id.{Id, IsId, is_null, node_id}
use Rattle.text_model.specs.Fault as fault
use Rattle.text_model.proofs.Digests.{IsId-node_id}
use Rattle.text_model.proofs.HexLemmas.{IsId-null}
use Rattle.text_model.proofs.Options.{not_false}
use Rattle.text_model.proofs.TestLemmas.{both, bytes_eq-is}
use Rattle.hg_model.specs.FileText.{file_text}
use Rattle.hg_model.specs.Reading.{text_limit}
use Rattle.hg_model.specs.Revision.{Group, Changesets, Manifests, FilesAt, Revision, is_of, revision_of, knows, same_group, is_otherwise, has_bad_order, is_known_parent, is_bad_link, order_fault, named_if, shape_fault, ancestry_fault, text_fault, addition_fault, known_after, known_after_all}
use Rattle.hg_model.proofs.ManifestLemmas.{manifest_text-none}
use Rattle.hg_model.proofs.RevisionLemmas.{first_name-two, first_name-three, named_if-None, same_group-is}
use Rattle.hg_view.proofs.Right.{IsNamed, named-is_view}
use Rattle.hg_bundle.specs.Brought.{AreAdditions}
use Rattle.view_model.specs.View.{Row, ManifestParents, NoManifest, Over, ChangesetView, IsChangesetView, ChangesetFits, file_node, rows_text}
use Rattle.view_model.specs.Held.{IsFileHeld, IsManifestHeld, IsChangesetHeld}
use Rattle.pull_law.proofs.Known.{after-all}
use Rattle.pull_law.proofs.Searches.{found}

-- the revision stands in order, has its own node, and ids for parents, and its text is within its limit
pub record IsFounded (r : Revision) : Type 0 where
  pub order : order_fault r.group r ≡ None
  pub hash : r.node ≡ node_id r.p r.q r.text
  pub parents : IsId r.p × IsId r.q
  pub short : length r.text ≤ text_limit r.group

-- ---- what is found

pub record IsThere (group : Group) (node : Id) (r : Revision) : Type 0 where
  pub founded : IsFounded r
  pub group_is : r.group ≡ group
  pub node_is : r.node ≡ node

pub there : (known : List Revision) → Each IsFounded known → (group : Group) (node : Id) (r : Revision) → revision_of known group node ≡ Some r → IsThere group node r
there known all group node r at =
    let of = found IsFounded (is_of group node) known r all at in
    let parts = both (same_group group r.group) (bytes_eq node r.node) of.1 in
    record { founded = of.0; group_is = sym (same_group-is group r.group parts.0); node_is = sym (bytes_eq-is node r.node parts.1) }

parent-id : (known : List Revision) → Each IsFounded known → (group : Group) (p : Id) → is_known_parent known group p ≡ true → IsId p
parent-id known all group p h = by (is_null p) refl (revision_of known group p) refl
  where
    by : (t : Bool) → is_null p ≡ t → (o : Option Revision) → revision_of known group p ≡ o → IsId p
    by true e o at = subst IsId (sym (bytes_eq-is p _ e)) IsId-null
    by false e None at = let k : knows known group p ≡ true = rw e at h in absurd (true≢false (sym k ∙ ap is_some at))
    by false e (Some r) at =
        let t = there known all group p r at in
        subst IsId t.node_is (subst IsId (sym (t.founded).hash) (IsId-node_id r.p r.q r.text))

-- ---- what an addition shows

founded-of : (known : List Revision) (r : Revision) → Each IsFounded known → addition_fault known r ≡ None → length r.text ≤ text_limit r.group → IsFounded r
unfolding ancestry_fault text_fault
founded-of known r all h short =
    let parts = first_name-two (ancestry_fault known r) (text_fault known r) h in
    let ancestry = first_name-three (order_fault r.group r) (named_if (not (is_known_parent known r.group r.p && is_known_parent known r.group r.q)) fault.ParentUnknown)
    (named_if (is_bad_link known r.group r) fault.LinkUnknown) parts.0 in
    let text = first_name-three (named_if (not (bytes_eq r.node (node_id r.p r.q r.text))) fault.NodeWrong) (shape_fault r.group r.text)
    (named_if (is_null r.node || list_any (is_otherwise r) known) fault.Collision) parts.1 in
    let known-both = both (is_known_parent known r.group r.p) (is_known_parent known r.group r.q)
    (not_false (is_known_parent known r.group r.p && is_known_parent known r.group r.q)
    (named_if-None (not (is_known_parent known r.group r.p && is_known_parent known r.group r.q)) fault.ParentUnknown ancestry.1)) in
    record {
      order = ancestry.0;
      hash = bytes_eq-is r.node (node_id r.p r.q r.text)
          (not_false (bytes_eq r.node (node_id r.p r.q r.text)) (named_if-None (not (bytes_eq r.node (node_id r.p r.q r.text))) fault.NodeWrong text.0));
      parents = (parent-id known all r.group r.p known-both.0, parent-id known all r.group r.q known-both.1);
      short = short;
    }

pub founded-after : (known : List Revision) (sum : ℕ) (rs : List Revision) → Each IsFounded known → AreAdditions known sum rs → Each IsFounded (known_after_all known rs)
founded-after known sum [] all are = all
founded-after known sum (r ∷ rs) all are =
    founded-after (known_after known r) (sum + length r.text) rs (after-all IsFounded known (r ∷ []) all (founded-of known r all are.0 are.1, tt)) are.2

-- ---- a changeset that is held

module _ (known : List Revision) (all : Each IsFounded known) where
  named : (group : Group) (node : Id) (r : Revision) → revision_of known group node ≡ Some r → IsNamed node r
  named group node r at =
      let of = there known all group node r at in
      record { parents = (of.founded).parents; hash = sym of.node_is ∙ (of.founded).hash }

  in-order : (node : Id) (r : Revision) → revision_of known Changesets node ≡ Some r → has_bad_order r ≡ false
  in-order node r at =
      let of = there known all Changesets node r at in
      named_if-None (has_bad_order r) fault.ParentOrder (sym (ap (λ (g : Group). order_fault g r) of.group_is) ∙ (of.founded).order)

  pub held-view : (node : Id) (h : ChangesetView) → IsChangesetHeld known node h → IsChangesetView h
  held-view = named-is_view known named in-order

  -- ---- its limits

  short-at : (group : Group) (node : Id) (r : Revision) → revision_of known group node ≡ Some r → length r.text ≤ text_limit group
  short-at group node r at =
      let of = there known all group node r at in
      subst (λ (g : Group). length r.text ≤ text_limit g) of.group_is (of.founded).short

  manifest-short : (m : ManifestParents) (node : Id) (rows : List Row) → IsManifestHeld known node m rows → length (rows_text rows) ≤ limits.text_limit
  manifest-short NoManifest node rows held =
      subst (λ (l : List Row). length (rows_text l) ≤ limits.text_limit) (sym held.1) (subst (λ (bytes : Bytes). length bytes ≤ limits.text_limit) (sym manifest_text-none) (omega arith))
  manifest-short (Over p q) node rows held =
      subst (λ (bytes : Bytes). length bytes ≤ limits.text_limit) (held.text).1 (short-at Manifests node held.revision held.is_held)

  files-short : (rows : List Row) → Each (IsFileHeld known) rows → Each (λ row. length (file_text (row.revision).meta (row.revision).body) ≤ limits.text_limit) rows
  files-short [] held = tt
  files-short (row ∷ rows) held =
      let one = held.0 in (
        subst (λ (bytes : Bytes). length bytes ≤ limits.text_limit) (one.text).1 (short-at (FilesAt row.path) (file_node row.revision) one.revision one.is_held),
        files-short rows held.1,
      )

  pub held-fits : (node : Id) (h : ChangesetView) → IsChangesetHeld known node h → ChangesetFits h
  held-fits node h held = record {
    text = subst (λ (bytes : Bytes). length bytes ≤ limits.commit_limit) (held.fields).1 (short-at Changesets node held.revision held.is_held);
    manifest = manifest-short h.manifest (h.fields).manifest h.rows held.manifest;
    files = files-short h.rows held.files;
  }
