-- A block is the pair of a changeset and a commit, with the links of an octopus commit. A history is a list of blocks.
use Rattle.std.specs.Prelude.{not, List, [], ◌∷◌, ◌++◌, map, filter, Option, option_map, unwrap_or, bytes_eq, pos}
use Rattle.std.specs.List.{flat_map, find}
use Rattle.text_model.specs.Id.{Id, null, is_null}
use Rattle.hg_model.specs.Changeset.{Plain}
use Rattle.view_model.specs.View.{ChangesetView, CommitView, changeset_node, commit_id, NoManifest}

pub record Block : Type 0 where
  pub links : List ChangesetView
  pub changeset : ChangesetView
  pub commit : CommitView

abbrev pub node_of : Block → Id
node_of b = changeset_node b.changeset

abbrev pub id_of : Block → Id
id_of b = commit_id b.commit

-- the changesets of the blocks, links just before their changeset
abbrev pub changesets_in : List Block → List ChangesetView
changesets_in blocks = flat_map (λ b. b.links ++ b.changeset ∷ []) blocks

abbrev pub commits_in : List Block → List CommitView
commits_in blocks = map (λ b. b.commit) blocks

abbrev pub view_at : List ChangesetView → Id → Option ChangesetView
view_at views node = find (λ v. bytes_eq (changeset_node v) node) views

abbrev pub block_of_node : List Block → Id → Option Block
block_of_node blocks node = find (λ b. bytes_eq (node_of b) node) blocks

abbrev pub block_of_id : List Block → Id → Option Block
block_of_id blocks id = find (λ b. bytes_eq (id_of b) id) blocks

-- the partner of a changeset and of a commit; null where there is none
abbrev pub git_partner : List Block → Id → Id
git_partner blocks node = unwrap_or (option_map id_of (block_of_node blocks node)) null

abbrev pub hg_partner : List Block → Id → Id
hg_partner blocks id = unwrap_or (option_map node_of (block_of_id blocks id)) null

-- what stands in the place of a parent that isn't there: no files and no manifest
abbrev pub no_changeset : ChangesetView
no_changeset = record {
  p = null;
  q = null;
  fields = record { manifest = null; user = []; date = Plain (pos 0) (pos 0) []; files = []; description = [] };
  manifest = NoManifest;
  rows = [];
}

abbrev pub view_or_none : List ChangesetView → Id → ChangesetView
view_or_none views node = unwrap_or (view_at views node) no_changeset

abbrev pub not_null : List Id → List Id
not_null ids = filter (λ id. not (is_null id)) ids

-- the two parents of a changeset with their views
pub record Parents : Type 0 where
  pub p : Id
  pub q : Id
  pub first : ChangesetView
  pub second : ChangesetView

abbrev pub parents_among : List ChangesetView → Id → Id → Parents
parents_among views p q = record { p = p; q = q; first = view_or_none views p; second = view_or_none views q }
