-- What names may name in a saved state.
use Rattle.std.proofs.Common.{◌≡◌, List, [], ◌∷◌, map, refl, sym, ap, subst, ◌∙◌, arith}
use Rattle.std.specs.List.{zip}
use Rattle.text_model.specs.Lists.{Each}
use Rattle.text_model.specs.Id.{Id, IsId, commit}
use Rattle.text_model.proofs.Digests.{IsId-object_id, IsId-node_id}
use Rattle.hg_model.specs.Changeset.{changeset_text}
use Rattle.git_model.specs.Commit.{commit_text}
use Rattle.git_model.specs.Object.{Object}
use Rattle.git_model.specs.Tree.{has_distinct}
use Rattle.view_model.specs.View.{ChangesetView, CommitView, changeset_node, commit_id}
use Rattle.view_model.specs.Dump.{objects_in}
use Rattle.pair_model.specs.Block.{Block, node_of, id_of, changesets_in, commits_in}
use Rattle.state_model.specs.Kept.{State, Kept, kept_of, ids_of}
use Rattle.state_model.specs.Text.{sections_of}
use Rattle.state_model.specs.Names.{Targets, targets_in, targets_of, AreNames}
use Rattle.state_model.specs.Saved.{AreDumped, AreCommitsSaved, AreTagsSaved, AreBlocks, IsState}
use Rattle.name_model.specs.Targets.{AreTargets}
use Rattle.dump_law.proofs.Blocks.{no_links-blocks, nodes-distinct, ids-blocks}
use Rattle.dump_law.proofs.StreamRead.{stream_is_read}

abbrev pair_of : Block → Id × Id
pair_of b = (node_of b, id_of b)

abbrev pair_in : CommitView × ChangesetView → Id × Id
pair_in p = (changeset_node p.1, commit_id p.0)

-- section 3 pairs the changesets and commits of the blocks
pairs-same : (bs : List Block) → map pair_in (zip (commits_in bs) (map (λ b. b.changeset) bs)) ≡ map pair_of bs
pairs-same [] = refl
pairs-same (b ∷ bs) = ap (λ (l : List (Id × Id)). (node_of b, id_of b) ∷ l) (pairs-same bs)

-- names may name the same by the sections of a state as by the state
pub targets-same : (s : State) → AreBlocks s.blocks → targets_of (sections_of s) ≡ targets_in (kept_of s)
targets-same s are =
    let pairs = ap (λ (hs : List ChangesetView). map pair_in (zip (commits_in s.blocks) hs)) (no_links-blocks s.blocks are) ∙ pairs-same s.blocks in
    (λ i. record { pairs = pairs i; tags = ids_of s.tags })

node-is : (h : ChangesetView) → IsId (changeset_node h)
unfolding changeset_node
node-is h = IsId-node_id h.p h.q (changeset_text h.fields)

commit-is : (c : CommitView) → IsId (commit_id c)
unfolding commit_id
commit-is c = IsId-object_id commit (commit_text c.value)

pairs-are : (bs : List Block) → Each (λ (e : Id × Id). IsId e.0 × IsId e.1) (map pair_of bs)
pairs-are [] = tt
pairs-are (b ∷ bs) = ((node-is b.changeset, commit-is b.commit), pairs-are bs)

tags-are : (tags : List Object) → Each (λ (o : Object). IsId o.id) tags → Each IsId (ids_of tags)
tags-are [] h = tt
tags-are (o ∷ tags) h = (h.0, tags-are tags h.1)

firsts : (bs : List Block) → map (λ (e : Id × Id). e.0) (map pair_of bs) ≡ map node_of bs
firsts [] = refl
firsts (b ∷ bs) = ap (λ (l : List Id). node_of b ∷ l) (firsts bs)

seconds : (bs : List Block) → map (λ (e : Id × Id). e.1) (map pair_of bs) ≡ map id_of bs
seconds [] = refl
seconds (b ∷ bs) = ap (λ (l : List Id). id_of b ∷ l) (seconds bs)

-- what a history and its tags have to name are ids, of which no node and no commit stands twice
pub targets-are : (k : Kept) → AreDumped (changesets_in k.blocks) → AreCommitsSaved (commits_in k.blocks) → AreTagsSaved (commits_in k.blocks) k.tags → AreTargets (targets_in k)
targets-are k changesets commits tags = record {
  pair_ids = pairs-are k.blocks;
  tag_ids = tags-are k.tags (stream_is_read (objects_in (commits_in k.blocks)) k.tags (omega (arith, tags.short)) tags.read).ids;
  nodes = ap has_distinct (firsts k.blocks) ∙ nodes-distinct k.blocks changesets.distinct;
  commits = ap has_distinct (seconds k.blocks ∙ sym (ids-blocks k.blocks)) ∙ commits.distinct;
}

pub targets-saved : (s : State) → IsState s → AreTargets (targets_in (kept_of s))
targets-saved s is = let sections = is.1 in targets-are (kept_of s) (sections.0.0.0.0.1).dumped sections.0.0.0.1 sections.0.1

-- its names can be kept
pub names-saved : (s : State) → IsState s → AreNames (targets_in (kept_of s)) s.names
names-saved s is = subst (λ (t : Targets). AreNames t s.names) (targets-same s is.0) is.1.1.0
