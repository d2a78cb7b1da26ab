-- The revisions that are known behind the first new blocks: all that the history with these blocks refers to, and nothing else.
use Rattle.std.proofs.Common.{◌≡◌, Bool, true, false, List, [], ◌∷◌, ◌++◌, Option, refl, sym, ap, subst, ◌∙◌, inl, inr}
use Rattle.std.specs.Prelude.{is_some}
use Rattle.std.specs.Option.{option_or}
use Rattle.std.proofs.lemmas.List.Folds.{find-append}
use Rattle.text_model.specs.Lists.{In}
use Rattle.text_model.specs.Id.{Id}
use Rattle.text_model.proofs.EachLemmas.{Each-weaker}
use Rattle.text_model.proofs.Elements.{each_from, each_in, in_left, in_right}
use Rattle.hg_model.specs.Revision.{Group, Revision, is_of, revision_of, knows, known_after, known_after_all}
use Rattle.hg_model.proofs.RevisionLemmas.{known_after_all-append}
use Rattle.view_model.specs.View.{ChangesetView, changeset_node}
use Rattle.view_model.specs.Dump.{revisions_in}
use Rattle.pair_model.specs.Block.{Block, changesets_in}
use Rattle.partner_model.specs.Partner.{IsHeldView}
use Rattle.state_model.specs.Kept.{Kept}
use Rattle.saved_model.specs.Step.{dump_revisions, known_of}
use Rattle.dump_law.proofs.Grows.{revisions_in-append}
use Rattle.dump_law.proofs.Order.{found_after}
use Rattle.dump_law.proofs.Saved.{views-moved}
use Rattle.dump_law.proofs.Streams.{of_append}
use Rattle.history_law.proofs.Dumps.{each-dumped}
use Rattle.next_law.proofs.Known.{IsSaved}
use Rattle.next_law.proofs.LikeNew.{in-all}
use Rattle.frame_law.specs.Ground.{IsGround}
use Rattle.frame_law.proofs.Fronts.{changesets_front}
use Rattle.closure_model.specs.Shaped.{known_brought}
use Rattle.arrival_law.proofs.Views.{referred}
use Rattle.stream_return_law.proofs.Parts.{known_behind}

-- ---- lists in which the same is found

abbrev pub FindSame : List Revision → List Revision → Type 0
FindSame xs ys = (group : Group) (node : Id) → revision_of xs group node ≡ revision_of ys group node

one_more : (xs ys : List Revision) (r : Revision) → FindSame xs ys → FindSame (known_after xs r) (known_after ys r)
one_more xs ys r same group node = by (knows ys r.group r.node) refl
  where
    by : (t : Bool) → knows ys r.group r.node ≡ t → revision_of (known_after xs r) group node ≡ revision_of (known_after ys r) group node
    by true e = rw (ap is_some (same r.group r.node) ∙ e, e) (same group node)
    by false e =
        let more = find-append (is_of group node) xs (r ∷ []) ∙ ap (λ (o : Option Revision). option_or o (revision_of (r ∷ []) group node)) (same group node) ∙ sym (find-append (is_of group node) ys (r ∷ [])) in
        rw (ap is_some (same r.group r.node) ∙ e, e) more

all_more : (xs ys rs : List Revision) → FindSame xs ys → FindSame (known_after_all xs rs) (known_after_all ys rs)
all_more xs ys [] same = same
all_more xs ys (r ∷ rs) same = all_more (known_after xs r) (known_after ys r) rs (one_more xs ys r same)

held_too : (xs ys : List Revision) → FindSame xs ys → (v : ChangesetView) → IsHeldView xs v → IsHeldView ys v
held_too xs ys same v x = (views-moved xs ys same (changeset_node v ∷ []) (v ∷ []) (x, tt)).0

-- a history of known changesets is one over others among which the same is found
pub ground_moved : (blocks : List Block) (xs ys : List Revision) → FindSame xs ys → IsGround blocks (IsHeldView xs) → IsGround blocks (IsHeldView ys)
ground_moved blocks xs ys same g = record {
  nodes = g.nodes;
  ids = g.ids;
  rows = g.rows;
  known = Each-weaker (IsHeldView xs) (IsHeldView ys) (held_too xs ys same) (changesets_in blocks) g.known;
  no_links = g.no_links;
  apart = λ k l x y. g.apart k l (from k x) (from l y);
  real = λ v x. g.real v (from v x);
}
  where
    from : (v : ChangesetView) → IsHeldView ys v → IsHeldView xs v
    from = held_too ys xs (λ group node. sym (same group node))

-- ---- behind the first new blocks

all_revisions : (blocks front : List Block) → revisions_in (changesets_in (blocks ++ front)) ≡ revisions_in (changesets_in blocks) ++ revisions_in (changesets_in front)
all_revisions blocks front = ap revisions_in (changesets_front blocks front) ∙ revisions_in-append (changesets_in blocks) (changesets_in front)

module _ (k : Kept) (saved : IsSaved k) (front : List Block) where
  pub behind_same : FindSame (known_behind (known_of k).revisions front) (known_brought (k.blocks ++ front))
  behind_same group node =
      all_more (known_of k).revisions (known_brought k.blocks) (revisions_in (changesets_in front))
      (λ g n. referred k saved g n ∙ sym (found_after (revisions_in (changesets_in k.blocks)) g n)) group node
      ∙ ap (λ (rs : List Revision). revision_of rs group node)
      (sym (known_after_all-append [] (revisions_in (changesets_in k.blocks)) (revisions_in (changesets_in front))) ∙ ap (known_after_all []) (sym (all_revisions k.blocks front)))

  pub behind_in : (r : Revision) → In r (known_behind (known_of k).revisions front) → In r (revisions_in (changesets_in (k.blocks ++ front)))
  behind_in r i =
      let old = revisions_in (changesets_in k.blocks) in
      let more = revisions_in (changesets_in front) in
      let dumped = each-dumped (λ r. In r old) (changesets_in k.blocks) (each_from (λ r. In r old) old (λ r i. i)) in
      subst (In r) (sym (all_revisions k.blocks front)) (elim (of_append r (known_of k).revisions more (in-all (known_of k).revisions more r i)) [
        | inl j ↦ in_left r old more (each_in (λ r. In r old) (dump_revisions (changesets_in k.blocks)) r dumped (in-all [] (dump_revisions (changesets_in k.blocks)) r j))
        | inr j ↦ in_right r old more j
      ])
