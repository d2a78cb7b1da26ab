-- Known revisions, and what stays held as more come.
use Rattle.std.proofs.Common.{◌≡◌, ◌⊎◌, inl, inr, Bool, true, false, true≢false, List, [], ◌∷◌, ◌++◌, Option, Some, None, refl, sym, ap, ◌∙◌, append_assoc, append-nil}
use Rattle.std.specs.Prelude.{is_some, bytes_eq, IsTrue}
use Rattle.std.proofs.lemmas.Slice.Eq.{bytes_eq-Decides}
use Rattle.text_model.specs.Id.{Id}
use Rattle.text_model.proofs.EachLemmas.{Each-append, Each-weaker}
use Rattle.hg_model.specs.Revision.{Group, Changesets, Manifests, FilesAt, Revision, is_of, revision_of, knows, known_after, known_after_all}
use Rattle.hg_model.proofs.RevisionLemmas.{is_of-self}
use Rattle.view_model.specs.View.{Row, file_node, ManifestParents, NoManifest, Over, ChangesetView}
use Rattle.view_model.specs.Held.{IsFileHeld, IsManifestHeld, IsChangesetHeld, AreChangesetsHeld}
use Rattle.pair_model.specs.Block.{Block, node_of}
use Rattle.history_model.specs.Pull.{IsKnownLink, is_saved}
use Rattle.pair_state.specs.AllBlocks.{stands_in}
use Rattle.pair_state.proofs.AllBlocks.{stands-more}
use Rattle.pair_state.proofs.CameLemmas.{find-front}
use Rattle.pull_bundle.specs.Takes.{AreStanding}

grown-one : (known : List Revision) (r : Revision) → (more : List Revision) × (known_after known r ≡ known ++ more)
grown-one known r = by (knows known r.group r.node) refl
  where
    by : (b : Bool) → knows known r.group r.node ≡ b → (more : List Revision) × (known_after known r ≡ known ++ more)
    by true e = ([], rw e (sym (append-nil known)))
    by false e = (r ∷ [], rw e refl)

pub grown : (known rs : List Revision) → (more : List Revision) × (known_after_all known rs ≡ known ++ more)
grown known [] = ([], sym (append-nil known))
grown known (r ∷ rs) =
    let one = grown-one known r in
    let all = grown (known_after known r) rs in
    (one.0 ++ all.0, all.1 ∙ ap (λ (l : List Revision). l ++ all.0) one.1 ∙ append_assoc known one.0 all.0)

-- ---- looking up among more

pub revision-last : (known : List Revision) (group : Group) (node : Id) (r : Revision) → knows known group node ≡ false → is_of group node r ≡ true → revision_of (known ++ r ∷ []) group node ≡ Some r
revision-last [] group node r h is = rw is refl
revision-last (x ∷ known) group node r h is = by (is_of group node x) refl (revision-last known group node r)
  where
    by : (t : Bool) → is_of group node x ≡ t → (knows known group node ≡ false → is_of group node r ≡ true → revision_of (known ++ r ∷ []) group node ≡ Some r) → revision_of (x ∷ (known ++ r ∷ [])) group node ≡ Some r
    by true e later = absurd (true≢false (sym (rw e refl) ∙ h))
    by false e later = rw e (later (sym (rw e refl) ∙ h) is)

-- ---- what is held stays held

module _ (known more : List Revision) where
  file-more : (row : Row) → IsFileHeld known row → IsFileHeld (known ++ more) row
  file-more row h = record { revision = h.revision; is_held = find-front known more (FilesAt row.path) (file_node row.revision) h.revision h.is_held; parents = h.parents; text = h.text }

  manifest-more : (node : Id) (m : ManifestParents) (rows : List Row) → IsManifestHeld known node m rows → IsManifestHeld (known ++ more) node m rows
  manifest-more node NoManifest rows h = h
  manifest-more node (Over p q) rows h = record { revision = h.revision; is_held = find-front known more Manifests node h.revision h.is_held; parents = h.parents; text = h.text }

  pub changeset-more : (node : Id) (h : ChangesetView) → IsChangesetHeld known node h → IsChangesetHeld (known ++ more) node h
  changeset-more node h held = record {
    revision = held.revision;
    is_held = find-front known more Changesets node held.revision held.is_held;
    parents = held.parents;
    fields = held.fields;
    manifest = manifest-more (h.fields).manifest h.manifest h.rows held.manifest;
    files = Each-weaker (IsFileHeld known) (IsFileHeld (known ++ more)) file-more h.rows held.files;
  }

  pub changesets-more : (nodes : List Id) (hs : List ChangesetView) → AreChangesetsHeld known nodes hs → AreChangesetsHeld (known ++ more) nodes hs
  changesets-more [] [] are = are
  changesets-more [] (h ∷ hs) are = are
  changesets-more (node ∷ nodes) [] are = are
  changesets-more (node ∷ nodes) (h ∷ hs) are = (changeset-more node h are.0, changesets-more nodes hs are.1)

-- ---- changesets that stand in blocks

pub saved-last : (blocks : List Block) (b : Block) (node : Id) → node_of b ≡ node → is_saved (blocks ++ b ∷ []) node ≡ true
saved-last [] b node is = rw ((bytes_eq-Decides (node_of b) node).1 is) refl
saved-last (x ∷ blocks) b node is = by (bytes_eq (node_of x) node) refl (saved-last blocks b node is)
  where
    by : (t : Bool) → bytes_eq (node_of x) node ≡ t → is_saved (blocks ++ b ∷ []) node ≡ true → is_saved (x ∷ (blocks ++ b ∷ [])) node ≡ true
    by true e later = rw e refl
    by false e later = rw e later

-- the changeset stands in a block, or has the form of a link
abbrev Stands : List Revision → List Block → Revision → Type 0
Stands known blocks r = r.group ≡ Changesets → IsTrue (stands_in blocks r.node) ⊎ IsKnownLink known r.node

pub standing-more : (known : List Revision) (blocks new : List Block) (rs : List Revision) → AreStanding known blocks rs → AreStanding known (blocks ++ new) rs
standing-more known blocks new rs h = Each-weaker (Stands known blocks) (Stands known (blocks ++ new)) (λ r f g. more r (f g)) rs h
  where
    more : (r : Revision) → IsTrue (stands_in blocks r.node) ⊎ IsKnownLink known r.node → IsTrue (stands_in (blocks ++ new) r.node) ⊎ IsKnownLink known r.node
    more r (inl there) = inl (stands-more blocks new r.node there)
    more r (inr link) = inr link

pub standing-after : (known : List Revision) (blocks : List Block) (rs : List Revision) (r : Revision) → AreStanding known blocks rs → (r.group ≡ Changesets → IsTrue (stands_in blocks r.node) ⊎ IsKnownLink known r.node)
    → AreStanding known blocks (known_after rs r)
standing-after known blocks rs r h f = by (knows rs r.group r.node) refl
  where
    by : (b : Bool) → knows rs r.group r.node ≡ b → AreStanding known blocks (known_after rs r)
    by true e = rw e h
    by false e = rw e (Each-append (Stands known blocks) rs (r ∷ []) h (f, tt))

-- ---- a revision that came is known

-- what is found under the group and the node of a revision that came
pub came-found : (known later : List Revision) (r : Revision) → (found : Revision) × (revision_of (known_after known r ++ later) r.group r.node ≡ Some found)
came-found known later r = by (revision_of known r.group r.node) refl
  where
    self : is_of r.group r.node r ≡ true
    self = is_of-self r

    by : (o : Option Revision) → revision_of known r.group r.node ≡ o → (found : Revision) × (revision_of (known_after known r ++ later) r.group r.node ≡ Some found)
    by (Some found) e = (found, rw e (find-front known later r.group r.node found e))
    by None e = (r, rw e (find-front (known ++ r ∷ []) later r.group r.node r (revision-last known r.group r.node r (ap is_some e) self)))
