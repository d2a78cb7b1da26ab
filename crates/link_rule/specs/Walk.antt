-- A step of the walk from a changeset's first parent through its links.
use Rattle.std.specs.Prelude.{◌≡◌, ◌&&◌, ℕ, List, Some, IsTrue}
use Rattle.text_model.specs.Id.{Id}
use Rattle.hg_model.specs.Changeset.{Changeset, IsChangesetText}
use Rattle.hg_model.specs.Revision.{Revision, Changesets, revision_of}
use Rattle.pair_model.specs.Octopus.{is_link}
use Rattle.partner_model.specs.Filled.{is_numbered}

-- the node is that of a known changeset, link k of n, with these parents
pub record IsLinkAt (known : List Revision) (n k : ℕ) (node : Id) (parents : Id × Id) : Type 0 where
  pub revision : Revision
  pub is_held : revision_of known Changesets node ≡ Some revision
  pub fields : Changeset
  pub text : IsChangesetText revision.text fields
  pub link : IsTrue (is_link fields revision.p revision.q && is_numbered k n fields.date)
  pub are : parents ≡ (revision.p, revision.q)
