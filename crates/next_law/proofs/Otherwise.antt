-- What the changesets of the blocks refer to is known behind the new blocks, so none of it is known otherwise.
use Rattle.std.proofs.Common.{◌≡◌, List, [], ◌∷◌, ◌++◌, sym, ap, subst, ◌∙◌, append_assoc, append-nil}
use Rattle.std.specs.Prelude.{◌||◌}
use Rattle.std.specs.List.{list_any}
use Rattle.text_model.specs.Lists.{Each}
use Rattle.text_model.specs.Id.{Id, is_null}
use Rattle.text_model.proofs.EachLemmas.{Each-append, Each-weaker}
use Rattle.text_model.proofs.Elements.{flat_map_append}
use Rattle.text_model.proofs.Options.{or_parts}
use Rattle.hg_model.specs.Revision.{Revision, is_otherwise, known_after_all}
use Rattle.git_model.specs.Object.{Object}
use Rattle.view_model.specs.View.{ChangesetView}
use Rattle.view_model.specs.Held.{IsChangesetHeld}
use Rattle.view_model.specs.Dump.{revisions_of, revisions_in}
use Rattle.pair_model.specs.Block.{Block, changesets_in}
use Rattle.partner_model.specs.Clash.{is_any_saved}
use Rattle.history_model.specs.Pull.{State}
use Rattle.hg_view.proofs.Grown.{more-all}
use Rattle.pull_law.specs.Sound.{HasOwnNode}
use Rattle.pull_law.proofs.Known.{held-node}
use Rattle.next_law.proofs.Alike.{IsLike, like-more, held-like}
use Rattle.next_law.proofs.Apart.{own_of}
use Rattle.next_law.proofs.Linked.{bundle-known}
use Rattle.next_law.proofs.LikeNew.{added-like, links-like}
use Rattle.next_law.proofs.NewBlocks.{AreNew, IsOfBundle, IsOfStream, known_behind, changesets-more}

-- what the changesets of blocks refer to
abbrev pub referred : List Block → List Revision
referred blocks = revisions_in (changesets_in blocks)

pub referred-append : (old new : List Block) → referred (old ++ new) ≡ referred old ++ referred new
referred-append old new = ap revisions_in (flat_map_append own_of old new) ∙ flat_map_append revisions_of (changesets_in old) (changesets_in new)

referred-one : (b : Block) → referred (b ∷ []) ≡ revisions_in (own_of b)
referred-one b = ap revisions_in (append-nil (own_of b))

-- one block more
like-push : (known : List Revision) (blocks : List Block) (b : Block) → Each (IsLike known) (referred blocks) → Each (IsLike known) (revisions_in (own_of b)) → Each (IsLike known) (referred (blocks ++ b ∷ []))
like-push known blocks b each own =
    subst (Each (IsLike known)) (sym (referred-append blocks (b ∷ [])))
    (Each-append (IsLike known) (referred blocks) (referred (b ∷ [])) each (subst (Each (IsLike known)) (sym (referred-one b)) own))

-- ---- a bundle

module _ (s : State) (known : List Revision) (own : Each HasOwnNode known) where
  block-like : (front : List Block) (b : Block) → IsOfBundle s known front b → Each (IsLike known) (referred (s.blocks ++ front)) → Each (IsLike known) (revisions_in (own_of b))
  block-like front b x each =
      let gives = x.gives in
      let blocks = s.blocks ++ front in
      let for = (gives.passes).block in
      let links : Each (IsLike known) (revisions_in b.links) = subst (λ (ls : List ChangesetView). Each (IsLike known) (revisions_in ls)) (sym (ap (λ (d : Block). d.links) for.2))
      (links-like known blocks for.0 each
      (subst (Each _) (ap (λ (d : Block). d.links) for.2) (bundle-known known own _ blocks x.table x.node b x.no_link gives).known_as)) in
      let changeset = ap (λ (d : Block). d.changeset) for.2 in
      let held = subst (IsChangesetHeld known x.node) (sym changeset) gives.is_held in
      let node = (held-node known x.node b.changeset own held).0 in
      let its = held-like known b.changeset (subst (λ (n : Id). IsChangesetHeld known n b.changeset) (sym node) held) in
      subst (Each (IsLike known)) (sym (flat_map_append revisions_of b.links (b.changeset ∷ [])))
      (Each-append (IsLike known) (revisions_in b.links) (revisions_in (b.changeset ∷ [])) links (subst (Each (IsLike known)) (sym (append-nil (revisions_of b.changeset))) its))

  pub bundle-like : (front new : List Block) → AreNew (IsOfBundle s known) front new → Each (IsLike known) (referred (s.blocks ++ front)) → Each (IsLike known) (referred (s.blocks ++ (front ++ new)))
  bundle-like front [] h each = subst (λ (l : List Block). Each (IsLike known) (referred (s.blocks ++ l))) (sym (append-nil front)) each
  bundle-like front (b ∷ new) h each =
      let more = like-push known (s.blocks ++ front) b each (block-like front b h.0 each) in
      subst (λ (l : List Block). Each (IsLike known) (referred (s.blocks ++ l))) (append_assoc front (b ∷ []) new)
      (bundle-like (front ++ b ∷ []) new h.1 (subst (λ (l : List Block). Each (IsLike known) (referred l)) (append_assoc s.blocks front (b ∷ [])) more))

-- ---- a stream

module _ (s : State) (objects : List Object) where
  pub stream-like : (front new : List Block) → AreNew (IsOfStream s objects) front new → Each (IsLike (known_behind s front)) (referred (s.blocks ++ front))
      → Each (IsLike (known_behind s (front ++ new))) (referred (s.blocks ++ (front ++ new)))
  stream-like front [] h each = subst (λ (l : List Block). Each (IsLike (known_behind s l)) (referred (s.blocks ++ l))) (sym (append-nil front)) each
  stream-like front (b ∷ new) h each =
      let known = known_behind s front in
      let own = revisions_in (own_of b) in
      let apart = (or_parts (list_any (λ r. is_null r.node || list_any (is_otherwise r) (known ++ own)) own) (is_any_saved (s.blocks ++ front) (own_of b)) (((h.0).gives).passes).apart).0 in
      let after = known_after_all known own in
      let old = Each-weaker (IsLike known) (IsLike after) (λ r l. like-more known after (more-all known own) r l) (referred (s.blocks ++ front)) each in
      let more = like-push after (s.blocks ++ front) b old (added-like known own apart) in
      let turned = subst (λ (k : List Revision). Each (IsLike k) (referred ((s.blocks ++ front) ++ b ∷ []))) (changesets-more s front b) more in
      subst (λ (l : List Block). Each (IsLike (known_behind s l)) (referred (s.blocks ++ l))) (append_assoc front (b ∷ []) new)
      (stream-like (front ++ b ∷ []) new h.1 (subst (λ (l : List Block). Each (IsLike (known_behind s (front ++ b ∷ []))) (referred l)) (append_assoc s.blocks front (b ∷ [])) turned))
