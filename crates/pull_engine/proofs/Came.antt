-- Where new members and new tags came first.
use Rattle.std.proofs.Common.{◌≡◌, ℕ, Bool, true, false, ◌&&◌, List, [], ◌∷◌, ◌++◌, map, filter, take, Option, Some, None, refl, sym, ap, subst, ◌∙◌, inl, inr}
use Rattle.std.specs.Prelude.{bytes_eq, if◌then◌else◌, option_map, not}
use Rattle.std.specs.List.{find}
use Rattle.text_model.specs.Lists.{In, Each}
use Rattle.text_model.specs.Id.{Id}
use Rattle.text_model.proofs.Options.{none_some, some_is}
use Rattle.text_model.proofs.TestLemmas.{bytes_eq-self}
use Rattle.hg_model.specs.Revision.{Group, Changesets, Manifests, FilesAt, Revision, known_after_all}
use Rattle.hg_model.specs.Reading.{Arrival}
use Rattle.hg_bundle.specs.declared.arrival.Arrival as listed
use Rattle.hg_bundle.specs.declared.arrival.RevKind.TheVariants.{Changeset}
use Rattle.hg_bundle.specs.Arrivals.{arrival_of, kind_of, same_kind}
use Rattle.git_model.specs.Object.{Object, same_object}
use Rattle.git_model.specs.Order.{Ancestry, IsOrder}
use Rattle.git_model.specs.Stream.{Placed, IsChecked}
use Rattle.view_model.specs.View.{commit_objects, changeset_node, commit_id}
use Rattle.view_model.specs.Dump.{revisions_in}
use Rattle.pair_model.specs.Block.{Block, node_of, id_of}
use Rattle.history_model.specs.Pull.{BringBlocks, CommitsBring, is_changesets, changesets_among, revisions_among, objects_among, ancestries, place_of}
use Rattle.state_model.specs.Kept.{Kept, is_tag, ids_of}
use Rattle.state_model.specs.Tags.{leads}
use Rattle.state_model.specs.Saved.{passes_limit}
use Rattle.saved_model.specs.Step.{first_large_block, first_large_tag, with_blocks, with_tags, new_tags, tags_came, place_of_node}
use Rattle.git_model.specs.Order.{has}
use Rattle.dump_law.proofs.Elements.{of-map, of-first}
use Rattle.tree_shape.proofs.Elements.{of-filter}
use Rattle.pull_law.specs.Sound.{HasOwnNode}
use Rattle.pull_law.proofs.Known.{held-node, held-id}
use Rattle.pull_stream.proofs.Orders.{has-place, next-is}
use Rattle.pull_engine.specs.Places.{is_changeset, node_place}
use Rattle.pull_engine.proofs.Lookups.{some-found, at-place}

-- ---- the first that is too large is one of the new ones

pub block-among : (k : Kept) (new : List Block) (b : Block) → first_large_block k new ≡ Some b → In b new
unfolding first_large_block
block-among k [] b h = absurd (none_some h)
block-among k (x ∷ new) b h = by (passes_limit (with_blocks k (x ∷ []))) h (block-among (with_blocks k (x ∷ [])) new b)
  where
    by : (t : Bool) → (if t then Some x else first_large_block (with_blocks k (x ∷ [])) new) ≡ Some b → (first_large_block (with_blocks k (x ∷ [])) new ≡ Some b → In b new) → In b (x ∷ new)
    by true e later = inl (sym (some_is e))
    by false e later = inr (later e)

pub tag-among : (k : Kept) (new : List Object) (t : Object) → first_large_tag k new ≡ Some t → In t new
unfolding first_large_tag
tag-among k [] t h = absurd (none_some h)
tag-among k (x ∷ new) t h = by (passes_limit (with_tags k (x ∷ []))) h (tag-among (with_tags k (x ∷ [])) new t)
  where
    by : (b : Bool) → (if b then Some x else first_large_tag (with_tags k (x ∷ [])) new) ≡ Some t → (first_large_tag (with_tags k (x ∷ [])) new ≡ Some t → In t new) → In t (x ∷ new)
    by true e later = inl (sym (some_is e))
    by false e later = inr (later e)

-- ---- changesets

-- the entry is a changeset with the node
abbrev has_node : Id → Arrival → Bool
has_node node a = is_changesets (a.revision).group && bytes_eq (a.revision).node node

same-group : (g : Group) → same_kind (kind_of g) Changeset ≡ is_changesets g
same-group Changesets = refl
same-group Manifests = refl
same-group (FilesAt path) = refl

found-same : (came : List Arrival) (node : Id) → find (is_changeset node) (map arrival_of came) ≡ option_map arrival_of (find (has_node node) came)
found-same [] node = refl
found-same (a ∷ came) node =
    ap (λ (t : Bool). if t && bytes_eq (a.revision).node node then Some (arrival_of a) else find (is_changeset node) (map arrival_of came)) (same-group (a.revision).group)
    ∙ by (has_node node a) (found-same came node)
  where
    by : (t : Bool) → find (is_changeset node) (map arrival_of came) ≡ option_map arrival_of (find (has_node node) came)
        → (if t then Some (arrival_of a) else find (is_changeset node) (map arrival_of came)) ≡ option_map arrival_of (if t then Some a else find (has_node node) came)
    by true rest = refl
    by false rest = rest

pub node-same : (came : List Arrival) (node : Id) → node_place (map arrival_of came) node ≡ place_of_node came node
node-same came node = ap (option_map (λ (a : listed.Arrival). a.at)) (found-same came node) ∙ placed (find (has_node node) came)
  where
    placed : (o : Option Arrival) → option_map (λ (a : listed.Arrival). a.at) (option_map arrival_of o) ≡ option_map (λ (a : Arrival). a.at) o
    placed None = refl
    placed (Some a) = refl

-- the changeset of a new block came
module _ (known : List Revision) (own : Each HasOwnNode known) where
  brought-node : (objects : List Object) (blocks : List Block) (rs : List Revision) (new : List Block) → BringBlocks known objects blocks rs new → (b : Block) → In b new
      → (r : Revision) × In r rs × (r.node ≡ node_of b)
  unfolding BringBlocks
  brought-node objects blocks [] new h b i = absurd (subst (In b) h i)
  brought-node objects blocks (r ∷ rs) new (inl h) b i = let x = brought-node objects blocks rs new h.1 b i in (x.0, inr x.1, x.2)
  brought-node objects blocks (r ∷ rs) new (inr (inl h)) b i = let x = brought-node objects blocks rs new h.2 b i in (x.0, inr x.1, x.2)
  brought-node objects blocks (r ∷ rs) new (inr (inr (no_link, free, d, rest, is, gives, later))) b i =
      by (subst (In b) is i) (λ j. brought-node (objects ++ commit_objects d.commit) (blocks ++ d ∷ []) rs rest later b j)
    where
      by : In b (d ∷ rest) → (In b rest → (s : Revision) × In s rs × (s.node ≡ node_of b)) → (s : Revision) × In s (r ∷ rs) × (s.node ≡ node_of b)
      by (inl same) more =
          let view : d.changeset ≡ gives.view = ap (λ (x : Block). x.changeset) ((gives.passes).block).2 in
          (r, inl refl, sym (held-node known r.node gives.view own gives.is_held).0 ∙ sym (ap changeset_node view) ∙ sym (ap node_of same))
      by (inr j) more = let x = more j in (x.0, inr x.1, x.2)

  pub changeset-came : (objects : List Object) (blocks : List Block) (came : List Arrival) (new : List Block) → BringBlocks known objects blocks (revisions_among (changesets_among came)) new
      → (b : Block) → In b new → (at : ℕ) × (place_of_node came (node_of b) ≡ Some at)
  changeset-came objects blocks came new brings b i =
      let r = brought-node objects blocks (revisions_among (changesets_among came)) new brings b i in
      let m = of-map (λ (a : Arrival). a.revision) r.0 (changesets_among came) r.1 in
      found m.0 m.1 (ap (λ (x : Revision). x.node) (sym m.2) ∙ r.2)
    where
      found : (a : Arrival) → In a (changesets_among came) → (a.revision).node ≡ node_of b → (at : ℕ) × (place_of_node came (node_of b) ≡ Some at)
      found a among same =
          let c = of-filter (λ (a : Arrival). is_changesets (a.revision).group) a came among in
          let is : has_node (node_of b) a ≡ true = ap (λ (t : Bool). t && bytes_eq (a.revision).node (node_of b)) c.1 ∙ ap (λ (n : Id). bytes_eq n (node_of b)) same ∙ bytes_eq-self (node_of b) in
          placed (some-found (has_node (node_of b)) came a c.0 is)
        where
          placed : ((x : Arrival) × (find (has_node (node_of b)) came ≡ Some x)) → (at : ℕ) × (place_of_node came (node_of b) ≡ Some at)
          placed (x, is) = (x.at, ap (option_map (λ (a : Arrival). a.at)) is)

-- ---- commits and tags

module _ (objects : List Object) (checked : IsChecked objects) where
  given-id : (known : List Revision) (blocks : List Block) (ids : List Id) (new : List Block) → CommitsBring known objects blocks ids new → (b : Block) → In b new → In (id_of b) ids
  unfolding CommitsBring
  given-id known blocks [] new h b i = absurd (subst (In b) h i)
  given-id known blocks (id ∷ ids) new (d, rest, is, gives, later) b i =
      by (subst (In b) is i) (λ j. given-id (known_after_all known (revisions_in (d.links ++ d.changeset ∷ []))) (blocks ++ d ∷ []) ids rest later b j)
    where
      by : In b (d ∷ rest) → (In b rest → In (id_of b) ids) → In (id_of b) (id ∷ ids)
      by (inl same) more =
          let view : d.commit ≡ gives.view = ap (λ (x : Block). x.commit) ((gives.passes).block).2 in
          inl (ap id_of same ∙ ap commit_id view ∙ held-id objects id gives.view checked gives.is_held)
      by (inr j) more = inr (more j)

  -- the commit of a new block came
  pub commit-came : (known : List Revision) (blocks : List Block) (came : List Placed) (saved ordered : List Id) (new : List Block) → IsOrder (ancestries came) saved ordered → CommitsBring known objects blocks ordered new
      → (b : Block) → In b new → (at : ℕ) × (place_of came (id_of b) ≡ Some at)
  commit-came known blocks came saved ordered new order brings b i =
      let p = at-place ordered (id_of b) (given-id known blocks ordered new brings b i) in
      let next = next-is came saved (take p.0 ordered) (id_of b) (sym p.2 ∙ order.places p.0 p.1) in
      let at = has-place came (next.of).placed (next.of).among in
      (at.0, ap (place_of came) (ap (λ (a : Ancestry). a.id) (next.of).is) ∙ at.1)

-- a new tag is one of the objects that came
pub tag-of : (kept : List Object) (came : List Placed) (t : Object) → In t (new_tags kept came) → (o : Placed) × In o came × (t ≡ o.object)
tag-of kept came t i =
    let once = of-filter (λ (o : Object). not (has (ids_of kept) o.id) && leads (ids_of kept) (tags_came came) o) t (tags_came came) i in
    let all = of-first same_object t (filter is_tag (objects_among came)) once.0 in
    of-map (λ (p : Placed). p.object) t came (of-filter is_tag t (objects_among came) all).0

pub tag-came : (kept : List Object) (came : List Placed) (t : Object) → In t (new_tags kept came) → (at : ℕ) × (place_of came t.id ≡ Some at)
tag-came kept came t i =
    let o = tag-of kept came t i in
    let at = has-place came o.0 o.1 in
    (at.0, ap (λ (x : Object). place_of came x.id) o.2 ∙ at.1)
