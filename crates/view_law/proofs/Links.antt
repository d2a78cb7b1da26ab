-- The links of a commit are views, where the changesets of the blocks are.
use Rattle.std.proofs.Common.{◌≡◌, ◌≢◌, ◌+◌, ℕ, true, false, true≢false, List, [], ◌∷◌, ◌++◌, length, Option, Some, None, refl, sym, ap, subst, ◌∙◌, arith}
use Rattle.std.specs.Prelude.{IsTrue, is_some, unwrap_or, decimal, pos, ⊤}
use Rattle.text_model.specs.Lists.{Each, rises}
use Rattle.text_model.specs.Text.{IsBytes, is_below}
use Rattle.text_model.specs.Id.{Id, IsId, null, is_null, hex}
use Rattle.text_model.specs.Path.{is_fit_path}
use Rattle.text_model.proofs.ByteLemmas.{IsBytes-append}
use Rattle.text_model.proofs.Elements.{each_in}
use Rattle.text_model.proofs.HexLemmas.{IsId-null}
use Rattle.text_model.proofs.TextBytes.{hex-bytes, small-bytes}
use Rattle.hg_model.specs.Changeset.{IsChangeset, IsDateLine, Plain}
use Rattle.hg_model.specs.Revision.{Revision}
use Rattle.dump_law.proofs.Brought.{node_is_id}
use Rattle.view_model.specs.View.{ChangesetView, IsChangesetView, CommitView, IsRevision, AreManifestParents, manifest_node, changeset_node, commit_id, paths_of}
use Rattle.pair_model.specs.Block.{Block, changesets_in, view_at, view_or_none, no_changeset}
use Rattle.pair_model.specs.Octopus.{link_user, link_key, link_value, link_description, link_view, links_over, links_by, links_of, partners_of_parents}
use Rattle.partner_model.specs.Partner.{IsHeldView, IsKnownAs}
use Rattle.mark_law.proofs.TextFacts.{IsBytes-decimal}
use Rattle.link_rule.proofs.LinkDates.{one-date}
use Rattle.next_law.proofs.LikeNew.{find-in}
use Rattle.next_law.proofs.Founded.{IsFounded, held-view}

-- what the files of a changeset show that is a view, or of none
pub record HasFiles (h : ChangesetView) : Type 0 where
  pub id : IsId (h.fields).manifest
  pub manifest : AreManifestParents h.manifest h.rows
  pub rows : Each (λ row. IsTrue (is_fit_path row.path) × IsBytes row.path × IsRevision row.revision) h.rows
  pub in_order : IsTrue (rises is_below (paths_of h.rows))
  pub agrees : (h.fields).manifest ≡ manifest_node h.manifest h.rows

view-files : (h : ChangesetView) → IsChangesetView h → HasFiles h
view-files h is = record { id = (is.fields).manifest; manifest = is.manifest; rows = is.rows; in_order = is.in_order; agrees = is.agrees }

no-files : HasFiles no_changeset
unfolding manifest_node
no-files = record { id = IsId-null; manifest = refl; rows = tt; in_order = refl; agrees = refl }

pub files-at : (hs : List ChangesetView) → Each IsChangesetView hs → (node : Id) → HasFiles (view_or_none hs node)
files-at hs all node = by (view_at hs node) refl
  where
    by : (o : Option ChangesetView) → view_at hs node ≡ o → HasFiles (unwrap_or o no_changeset)
    by None e = no-files
    by (Some v) e = view-files v (each_in IsChangesetView hs v all (find-in _ hs v e).0)

-- ---- links that are known

module _ (known : List Revision) (all : Each IsFounded known) (id : Id) (base : ChangesetView) (files : HasFiles base) where
  known-link : (n k : ℕ) (p q : Id) → IsKnownAs (IsHeldView known) (link_view id base n k p q) → IsChangesetView (link_view id base n k p q)
  unfolding link_view
  known-link n k p q (v, held, same) =
      let view = held-view known all (changeset_node v) v held in
      record {
        parents = (subst IsId same.p (view.parents).0, subst IsId same.q (view.parents).1);
        first = λ e. sym same.q ∙ view.first (same.p ∙ e);
        distinct = λ e. sym same.p ∙ view.distinct (same.p ∙ e ∙ sym same.q);
        fields = subst IsChangeset same.fields view.fields;
        manifest = files.manifest;
        rows = files.rows;
        in_order = files.in_order;
        agrees = files.agrees;
      }

  known-over : (n k : ℕ) (before : Id) (xs : List Id) → Each (IsKnownAs (IsHeldView known)) (links_over id base n k before xs) → Each IsChangesetView (links_over id base n k before xs)
  unfolding links_over
  known-over n k before [] each = tt
  known-over n k before (x ∷ []) each = tt
  known-over n k before (x ∷ y ∷ rest) each = (known-link n k before x each.0, known-over n (k + 1) (changeset_node (link_view id base n k before x)) (y ∷ rest) each.1)

pub known-links : (known : List Revision) → Each IsFounded known → (blocks : List Block) → Each IsChangesetView (changesets_in blocks) → (c : CommitView) → Each (IsKnownAs (IsHeldView known)) (links_of blocks c) → Each IsChangesetView (links_of blocks c)
unfolding links_of
known-links known all blocks views c each = by (partners_of_parents blocks c) each
  where
    by : (xs : List Id) → Each (IsKnownAs (IsHeldView known)) (links_by blocks (commit_id c) (length (c.value).parents) xs) → Each IsChangesetView (links_by blocks (commit_id c) (length (c.value).parents) xs)
    by [] k = tt
    by (x ∷ rest) k = known-over known all (commit_id c) (view_or_none (changesets_in blocks) x) (files-at (changesets_in blocks) views x) (length (c.value).parents) 1 x rest k

-- ---- links that are new

-- a changeset of the blocks has this node, or none has
abbrev pub IsSaved : List Block → Id → Type 0
IsSaved blocks node = is_some (view_at (changesets_in blocks) node) ≡ true

abbrev pub IsUnsaved : List Block → Id → Type 0
IsUnsaved blocks node = is_some (view_at (changesets_in blocks) node) ≡ false

pub saved-apart : (blocks : List Block) (x y : Id) → IsUnsaved blocks x → IsSaved blocks y → x ≢ y
saved-apart blocks x y u s e = true≢false (sym s ∙ ap (λ (n : Id). is_some (view_at (changesets_in blocks) n)) (sym e) ∙ u)

-- the node of a link that is new
pub record IsNewNode (blocks : List Block) (node : Id) : Type 0 where
  pub some : is_null node ≡ false
  pub unsaved : IsUnsaved blocks node

-- the node of a parent
pub record IsParentNode (blocks : List Block) (node : Id) : Type 0 where
  pub some : is_null node ≡ false
  pub id : IsId node
  pub saved : IsSaved blocks node

pub not-null : (x : Id) → is_null x ≡ false → x ≢ null
not-null x some e = true≢false (sym (ap is_null e) ∙ some)

link-date : (id : Id) → IsId id → (k n : ℕ) → IsDateLine (Plain (pos 0) (pos 0) (record { key = link_key; value = link_value id k n } ∷ []))
link-date id is k n = one-date (link_value id k n)
    (IsBytes-append (hex id ++ 58 ∷ decimal k) (58 ∷ decimal n) (IsBytes-append (hex id) (58 ∷ decimal k) (hex-bytes id is) (omega arith, IsBytes-decimal k)) (omega arith, IsBytes-decimal n))

module _ (blocks : List Block) (id : Id) (is : IsId id) (base : ChangesetView) (files : HasFiles base) where
  new-link : (n k : ℕ) (p q : Id) → IsId p → IsId q → is_null p ≡ false → p ≢ q → IsChangesetView (link_view id base n k p q)
  unfolding link_view
  new-link n k p q a b some apart = record {
    parents = (a, b);
    first = λ e. absurd (not-null p some e);
    distinct = λ e. absurd (apart e);
    fields = record {
      manifest = files.id;
      user = ((λ e. cc), refl, small-bytes link_user refl);
      date = link-date id is k n;
      files = tt;
      description = small-bytes link_description refl;
    };
    manifest = files.manifest;
    rows = files.rows;
    in_order = files.in_order;
    agrees = files.agrees;
  }

  apart-all : (x : Id) → IsUnsaved blocks x → (ys : List Id) → Each (IsParentNode blocks) ys → Each (λ y. x ≢ y) ys
  apart-all x u [] each = tt
  apart-all x u (y ∷ ys) each = (saved-apart blocks x y u (each.0).saved, apart-all x u ys each.1)

  new-over : (n k : ℕ) (before : Id) (xs : List Id) → IsId before → is_null before ≡ false → Each (λ x. before ≢ x) xs → Each (IsParentNode blocks) xs
      → Each (λ l. IsNewNode blocks (changeset_node l)) (links_over id base n k before xs) → Each IsChangesetView (links_over id base n k before xs)
  unfolding links_over
  new-over n k before [] a some apart each nodes = tt
  new-over n k before (x ∷ []) a some apart each nodes = tt
  new-over n k before (x ∷ y ∷ rest) a some apart each nodes =
      let l = link_view id base n k before x in (
        new-link n k before x a (each.0).id some apart.0,
        new-over n (k + 1) (changeset_node l) (y ∷ rest) (node_is_id l) (nodes.0).some (apart-all (changeset_node l) (nodes.0).unsaved (y ∷ rest) each.1) each.1 nodes.1,
      )

-- the first is none of the others
abbrev pub IsFirstApart : List Id → Type 0
IsFirstApart [] = ⊤
IsFirstApart (x ∷ xs) = Each (λ y. x ≢ y) xs

pub new-links : (blocks : List Block) → Each IsChangesetView (changesets_in blocks) → (id : Id) → IsId id → (n : ℕ) (xs : List Id) → IsFirstApart xs → Each (IsParentNode blocks) xs
    → Each (λ l. IsNewNode blocks (changeset_node l)) (links_by blocks id n xs) → Each IsChangesetView (links_by blocks id n xs)
new-links blocks views id is n [] apart each nodes = tt
new-links blocks views id is n (x ∷ rest) apart each nodes =
    new-over blocks id is (view_or_none (changesets_in blocks) x) (files-at (changesets_in blocks) views x) n 1 x rest (each.0).id (each.0).some apart each.1 nodes
