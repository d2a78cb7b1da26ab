-- The block of a changeset and its partner, which comes behind the others.
use Rattle.std.specs.Prelude.{◌≡◌, false, List, [], ◌∷◌, ◌++◌, map, None}
use Rattle.text_model.specs.Id.{Id}
use Rattle.text_model.specs.Lists.{Each}
use Rattle.view_model.specs.View.{ChangesetView, CommitView, changeset_node}
use Rattle.view_model.specs.Held.{IsChangesetHeld}
use Rattle.view_model.specs.Dump.{objects_in}
use Rattle.pair_model.specs.Block.{Block, block_of_node, commits_in}
use Rattle.pair_model.specs.Octopus.{is_link_view, links_of}
use Rattle.partner_model.specs.Clash.{commit_side_collides}
use Rattle.partner_model.specs.Given.{has_late_file, has_late_manifest}
use Rattle.pair_choice.specs.Chosen.{IsChosenCommit}
use Rattle.pair_known.specs.Drafts.{IsHgDraft, IsRowKnown}
use Rattle.pair_state.specs.Push.{HaveSame}
use Rattle.pull_bundle.specs.declared.take.Pair.{Pair}
use Rattle.pull_bundle.specs.declared.taking.Taking.{Taking}
use Rattle.pull_bundle.specs.Takes.{IsTaking}

-- A changeset that is held, stands in no block and is no link, and its partner with the nodes of its links. Neither a parent of a file revision
-- nor one of the manifest comes too late.
pub record IsPairFor (t : Taking) (node : Id) (p : Pair) (blocks : List Block) (v : ChangesetView) (c : CommitView) : Type 0 where
  pub taking : IsTaking t blocks
  pub draft : IsHgDraft (t.state).known.hg p.draft v
  pub rows : Each (IsRowKnown (t.state).known.hg) p.draft.rows
  pub is_held : IsChangesetHeld (t.state).known.hg node v
  pub no_link : is_link_view v ≡ false
  pub free : block_of_node blocks node ≡ None
  pub files_in_time : has_late_file blocks v.rows ≡ false
  pub manifest_in_time : has_late_manifest blocks v.manifest ≡ false
  pub chosen : IsChosenCommit (t.state).known blocks v p.commit c
  pub links_are : p.links ≡ map changeset_node (links_of blocks c)

-- the block came behind the others
pub record IsPut (t next : Taking) (blocks : List Block) (b : Block) : Type 0 where
  pub apart : commit_side_collides (t.state).known.git blocks b ≡ false
  pub taking : IsTaking next (blocks ++ b ∷ [])
  pub revisions : (next.state).known.hg ≡ (t.state).known.hg
  pub objects : HaveSame (next.state).known.git ((t.state).known.git ++ objects_in (commits_in (b ∷ [])))
  pub tags : (next.state).tags ≡ (t.state).tags
  pub names : (next.state).names ≡ (t.state).names
