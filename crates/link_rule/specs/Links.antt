-- The links of a commit: what they say, and their drafts.
use Rattle.std.specs.Prelude.{◌≡◌, ℕ, List, [], ◌∷◌, ⊤}
use Rattle.text_model.specs.Id.{Id, IsId}
use Rattle.hg_model.specs.Changeset.{IsDateLine, changeset_text}
use Rattle.hg_model.specs.Revision.{Revision}
use Rattle.hg_changeset.specs.Values.{changeset_value}
use Rattle.view_model.specs.View.{ChangesetView, changeset_node}
use Rattle.pair_model.specs.Octopus.{link_view, links_over}
use Rattle.pair_known.specs.Ruled.{IsMadeChangeset}
use Rattle.pair_known.specs.declared.hg_draft.HgDraft.{HgDraft}
use Rattle.link_rule.specs.declared.link.Link.{Link}

-- the link is this changeset, but for its files
pub record IsLinkOf (link : Link) (h : ChangesetView) : Type 0 where
  pub parents : (link.p ≡ h.p) × (link.q ≡ h.q)
  pub fields : changeset_value link.changeset ≡ h.fields
  pub text : link.text ≡ changeset_text h.fields
  pub node : link.node ≡ changeset_node h
  pub date : IsDateLine (h.fields).date

-- the links over the first id, each with one of the others but the last as its second parent
abbrev pub links_along : Id → ChangesetView → ℕ → List Id → List ChangesetView
links_along id base n [] = []
links_along id base n (x ∷ rest) = links_over id base n 1 x rest

-- the changeset is a link with the files of the base
pub record IsLinkOver (base h : ChangesetView) : Type 0 where
  pub id : Id
  pub number : ℕ
  pub count : ℕ
  pub p : Id
  pub q : Id
  pub are_ids : IsId p × IsId q
  pub is : h ≡ link_view id base count number p q

-- the drafts of links, which bring no file revisions
abbrev pub AreLinksMade : List Revision → List HgDraft → List ChangesetView → Type 0
AreLinksMade known [] [] = ⊤
AreLinksMade known (d ∷ ds) (l ∷ ls) = IsMadeChangeset known d l × (d.fresh ≡ []) × AreLinksMade known ds ls
AreLinksMade known _ _ = ⊥
