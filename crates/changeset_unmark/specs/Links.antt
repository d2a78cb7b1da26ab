-- Links of a commit that are known.
use Rattle.std.specs.Prelude.{◌≡◌, ◌-◌, Bool, false, ◌&&◌, List, length, map, slice_get, Option, None, Some, bytes_eq}
use Rattle.text_model.specs.Lists.{Each}
use Rattle.text_model.specs.Id.{Id}
use Rattle.hg_model.specs.Changeset.{IsDateLine, changeset_text}
use Rattle.hg_model.specs.Revision.{Revision, Changesets, revision_of}
use Rattle.view_model.specs.View.{ChangesetView, changeset_node}
use Rattle.link_rule.specs.declared.link.Link.{Link}

-- the revision has the parents and the text of the link
abbrev pub is_its : Link → Option Revision → Bool
is_its link None = false
is_its link (Some r) = bytes_eq r.p link.p && bytes_eq r.q link.q && bytes_eq r.text link.text

-- the link is known
abbrev pub is_known_link : List Revision → Link → Bool
is_known_link known link = is_its link (revision_of known Changesets link.node)

abbrev pub has_node : Id → Option Link → Bool
has_node node None = false
has_node node (Some link) = bytes_eq link.node node

-- the changeset is known with its parents and its text
pub record IsKnownLink (known : List Revision) (h : ChangesetView) : Type 0 where
  pub revision : Revision
  pub is_held : revision_of known Changesets (changeset_node h) ≡ Some revision
  pub parents : (revision.p ≡ h.p) × (revision.q ≡ h.q)
  pub text : revision.text ≡ changeset_text h.fields
  pub date : IsDateLine (h.fields).date

-- the links are known, and the last one has this node
pub record AreLinksThere (revisions : List Revision) (node : Id) (links : List ChangesetView) : Type 0 where
  pub known : Each (IsKnownLink revisions) links
  pub last : slice_get (map changeset_node links) (length links - 1) ≡ Some node
