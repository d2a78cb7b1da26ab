-- What a state writes.
use Rattle.std.proofs.Common.{◌≡◌, ℕ, suc, List, [], ◌∷◌, ◌++◌, map, take, drop, length, codes, Option, Some, None, refl, sym, ap, subst, ◌∙◌, append_assoc}
use Rattle.text_model.specs.Lists.{Each}
use Rattle.text_model.specs.Text.{Bytes}
use Rattle.text_model.specs.Id.{Id}
use Rattle.git_model.specs.Object.{Object, object_at}
use Rattle.git_model.specs.Stream.{stream_text}
use Rattle.git_model.specs.Unfold.{walk_fault}
use Rattle.view_model.specs.View.{ChangesetView, CommitView}
use Rattle.view_model.specs.Held.{AreChangesetsHeld, AreCommitsHeld}
use Rattle.view_model.specs.Dump.{hg_increment, git_increment}
use Rattle.git_dump.specs.Commits.{HasWalk, AreWalkableCommits}
use Rattle.git_dump.specs.Walks.{object_list, objects_of}
use Rattle.pair_model.specs.Block.{Block, changesets_in, commits_in}
use Rattle.pair_known.specs.declared.known.Known.{Known}
use Rattle.state_model.specs.Saved.{AreBlocks}
use Rattle.state_model.specs.Kept.{State, hg_dump, git_dump, ids_of}
use Rattle.state_model.specs.Text.{Sections, sections_of, section_text, text_up_to, state_text, refs_text, sized}
use Rattle.dump_law.proofs.Blocks.{ids-blocks}
use Rattle.pair_state.specs.declared.blocks.Block as pair
use Rattle.pair_state.specs.declared.state_parts.StateParts.{StateParts}
use Rattle.pair_state.specs.AllBlocks.{HasAllBlocks}
use Rattle.pair_state.specs.Blocks.{BlockValue, value_of, block_value}
use Rattle.state_part.specs.declared.pairs.IdPair.{IdPair}
use Rattle.state_part.specs.Form.{head_line}
use Rattle.state_part.specs.Pairs.{map_section}
use Rattle.state_text.specs.Sections.{pair_in}
use Rattle.state_text.specs.Stands.{Stands, AreAt, pair_of}
use Rattle.state_text.specs.Whole.{block_in}
use Rattle.state_text.proofs.BlockLemmas.{pairs-section, pairs-of}
use Rattle.state_text.proofs.Dumps.{dump-written}
use Rattle.state_text.proofs.SectionLemmas.{first-is}

-- ---- the parts of a state that stands for one

from_value : BlockValue → pair.Block
from_value v = record { node = v.node; commit = v.commit; links = v.links }

back : (bs : List pair.Block) → map from_value (map value_of bs) ≡ bs
unfolding from_value
back [] = refl
back (b ∷ bs) = ap (λ (l : List pair.Block). b ∷ l) (back bs)

from-blocks : (bs : List Block) → map from_value (map block_value bs) ≡ map block_in bs
unfolding from_value
from-blocks [] = refl
from-blocks (b ∷ bs) = ap (λ (l : List pair.Block). block_in b ∷ l) (from-blocks bs)

walks-commits : (git : List Object) (bs : List Block) → Each (λ b. walk_fault git ((b.commit).value).tree_id ≡ None) bs → Each (HasWalk git) (commits_in bs)
walks-commits git [] h = tt
walks-commits git (b ∷ bs) h = (h.0, walks-commits git bs h.1)

module _ (s : StateParts) (blocks : List Block) (h : HasAllBlocks s blocks) where
  pub pairs-are : s.blocks ≡ map block_in blocks
  pairs-are = sym (back s.blocks) ∙ ap (map from_value) (h.state).blocks_are ∙ from-blocks blocks

  held : AreChangesetsHeld s.known.hg s.changesets (changesets_in blocks)
  held = subst (λ (l : List Id). AreChangesetsHeld s.known.hg l (changesets_in blocks)) (sym (h.state).changesets) (((h.state).held).held).changesets

  hg-written : hg_increment s.known.hg [] (changesets_in blocks) ≡ hg_dump (changesets_in blocks)
  hg-written = dump-written s.known.hg (changesets_in blocks) (((h.state).held).held).changesets h.saved

  walkable : AreWalkableCommits s.known.git s.commits (commits_in blocks)
  walkable = (
    subst (λ (l : List Id). AreCommitsHeld s.known.git l (commits_in blocks)) (ids-blocks blocks ∙ sym (h.state).commits) (((h.state).held).held).commits,
    walks-commits s.known.git blocks (((h.state).held).held).walks,
  )

  pub map-pairs : map pair_in s.blocks ≡ map pair_of blocks
  map-pairs = ap (map pair_in) pairs-are ∙ pairs-of blocks

-- ---- what the writers of a bundle and of a stream are given, and what they give

module _ (s : StateParts) (blocks : List Block) (h : HasAllBlocks s blocks) (known : Known) (same : known ≡ s.known) where
  pub held-in : (nodes : List Id) → nodes ≡ s.changesets → AreChangesetsHeld known.hg nodes (changesets_in blocks)
  held-in nodes list = rw (same, list) (held s blocks h)

  pub bundle-of : hg_increment known.hg [] (changesets_in blocks) ≡ hg_dump (changesets_in blocks)
  bundle-of = ap (λ (k : Known). hg_increment k.hg [] (changesets_in blocks)) same ∙ hg-written s blocks h

  pub bundle-is : (nodes : List Id) (bytes : Bytes) → nodes ≡ s.changesets
      → ((hs : List ChangesetView) → AreChangesetsHeld known.hg nodes hs → bytes ≡ hg_increment known.hg (take 0 hs) (drop 0 hs)) → bytes ≡ hg_dump (changesets_in blocks)
  bundle-is nodes bytes list written =
      written (changesets_in blocks) (held-in nodes list) ∙ bundle-of

  pub bundle-len : (nodes : List Id) (size : ℕ) → nodes ≡ s.changesets
      → ((hs : List ChangesetView) → AreChangesetsHeld known.hg nodes hs → size ≡ length (hg_increment known.hg [] hs)) → size ≡ length (hg_dump (changesets_in blocks))
  bundle-len nodes size list told = told (changesets_in blocks) (held-in nodes list) ∙ ap (λ (l : Bytes). length l) bundle-of

  pub walkable-in : (ids : List Id) → ids ≡ s.commits → AreWalkableCommits known.git ids (commits_in blocks)
  walkable-in ids list = rw (same, list) (walkable s blocks h)

  pub stream-is : (ids : List Id) (bytes : Bytes) → ids ≡ s.commits
      → ((cs : List CommitView) → AreWalkableCommits known.git ids cs → bytes ≡ git_increment (take 0 cs) (drop 0 cs)) → bytes ≡ git_dump (commits_in blocks)
  stream-is ids bytes list written = written (commits_in blocks) (walkable-in ids list)

-- the ids of the tags, each of which is known
pub tags-at : (s : StateParts) (m : State) → Stands s m → (known : Known) → known ≡ s.known → (ids : List Id) → ids ≡ s.tags → AreAt known.git ids m.tags
tags-at s m h known same ids list = rw (same, list) (h.tags, h.tags_held)

-- ---- the objects that are known under ids

module _ (known : List Object) where
  all-of : (os : List Object) → Each (λ o. object_at known o.id ≡ Some o) os → objects_of known (ids_of os) ≡ os
  all-of [] h = refl
  all-of (o ∷ os) h = ap (λ (found : Option Object). object_list found ++ objects_of known (ids_of os)) h.0 ∙ ap (λ (l : List Object). o ∷ l) (all-of os h.1)

  pub objects-are : (ids : List Id) (os : List Object) → AreAt known ids os → objects_of known ids ≡ os
  objects-are ids os at = ap (objects_of known) at.0 ∙ all-of os at.1

  -- what is written of the ids is the text of the objects
  pub objects-text : (ids : List Id) (os : List Object) (old now : Bytes) → AreAt known ids os → now ≡ old ++ stream_text (objects_of known ids) → now ≡ old ++ stream_text os
  objects-text ids os old now at written = written ∙ ap (λ (l : List Object). old ++ stream_text l) (objects-are ids os at)

-- ---- the text

grown : (k : ℕ) (s : Sections) (old out : Bytes) → out ≡ old ++ text_up_to k s → out ++ section_text (suc k) s ≡ old ++ text_up_to (suc k) s
unfolding text_up_to
grown k s old out e = ap (λ (l : Bytes). l ++ section_text (suc k) s) e ∙ append_assoc old (text_up_to k s) (section_text (suc k) s)

-- what the parts of a state's text append, one after another
pub record AreAppended (old text hg git tags names : Bytes) (pairs : List IdPair) : Type 0 where
  pub first : Bytes
  pub second : Bytes
  pub third : Bytes
  pub fourth : Bytes
  pub fifth : Bytes
  pub head : first ≡ old ++ head_line
  pub changesets : second ≡ first ++ sized (codes "hg") hg
  pub commits : third ≡ second ++ sized (codes "git") git
  pub map_is : fourth ≡ third ++ map_section pairs
  pub tags_are : fifth ≡ fourth ++ sized (codes "tags") tags
  pub names_are : text ≡ fifth ++ sized (codes "names") names

pub written : (old text hg git tags names : Bytes) (pairs : List IdPair) (m : State) → AreAppended old text hg git tags names pairs → AreBlocks m.blocks → names ≡ refs_text m.names
    → hg ≡ hg_dump (changesets_in m.blocks) → git ≡ git_dump (commits_in m.blocks) → tags ≡ stream_text m.tags → pairs ≡ map pair_in (map block_in m.blocks) → text ≡ old ++ state_text m
unfolding state_text
written old text hg git tags names pairs m a are names_is hg_is git_is tags_is pairs_are =
    let s = sections_of m in
    let e0 : a.first ≡ old ++ text_up_to 0 s = a.head ∙ ap (λ (l : Bytes). old ++ l) (sym (first-is s)) in
    let e1 : a.second ≡ old ++ text_up_to 1 s = a.changesets ∙ ap (λ (l : Bytes). a.first ++ sized (codes "hg") l) hg_is ∙ grown 0 s old a.first e0 in
    let e2 : a.third ≡ old ++ text_up_to 2 s = a.commits ∙ ap (λ (l : Bytes). a.second ++ sized (codes "git") l) git_is ∙ grown 1 s old a.second e1 in
    let map_same : map_section pairs ≡ section_text 3 s = ap map_section pairs_are ∙ pairs-section m.blocks are in
    let e3 : a.fourth ≡ old ++ text_up_to 3 s = a.map_is ∙ ap (λ (l : Bytes). a.third ++ l) map_same ∙ grown 2 s old a.third e2 in
    let e4 : a.fifth ≡ old ++ text_up_to 4 s = a.tags_are ∙ ap (λ (l : Bytes). a.fourth ++ sized (codes "tags") l) tags_is ∙ grown 3 s old a.fourth e3 in
    a.names_are ∙ ap (λ (l : Bytes). a.fifth ++ sized (codes "names") l) names_is ∙ grown 4 s old a.fifth e4

-- the same of the parts that stand for the state
pub state-text : (s : StateParts) (m : State) → Stands s m → AreBlocks m.blocks → (old text hg git tags names : Bytes) (pairs : List IdPair) → AreAppended old text hg git tags names pairs → names ≡ refs_text s.names
    → hg ≡ hg_dump (changesets_in m.blocks) → git ≡ git_dump (commits_in m.blocks) → tags ≡ stream_text m.tags → pairs ≡ map pair_in s.blocks → text ≡ old ++ state_text m
state-text s m h are old text hg git tags names pairs a names_is hg_is git_is tags_is pairs_are =
    written old text hg git tags names pairs m a are (names_is ∙ ap refs_text h.names) hg_is git_is tags_is (pairs_are ∙ ap (map pair_in) (pairs-are s m.blocks h.blocks))
