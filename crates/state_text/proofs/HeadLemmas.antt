-- The changesets of a store that are no links.
use Rattle.std.proofs.Common.{◌≡◌, ◌<◌, ◌≤◌, ◌==◌, ℕ, ◌+◌, Bool, true, false, true≢false, is_some, List, [], ◌∷◌, ◌++◌, length, drop, get_or, Some, nat_lt, slice_get, refl, sym, ap, subst, ◌∙◌, arith, append_assoc, append-nil, drop_of_length-le}
use Rattle.std.proofs.lemmas.Option.{slice_get-get_or}
use Rattle.text_model.proofs.Options.{some_is}
use Rattle.text_model.proofs.Elements.{drop_next, get_unmap}
use Rattle.hg_model.specs.Changeset.{Changeset, IsChangesetText}
use Rattle.hg_model.specs.Revision.{Revision, Changesets, knows}
use Rattle.hg_model.proofs.ChangesetLemmas.{one_changeset}
use Rattle.hg_store.specs.Views.{IsChangesetOf}
use Rattle.text_model.specs.Id.{Id}
use Rattle.view_model.specs.View.{ChangesetView, changeset_node}
use Rattle.view_model.specs.Held.{IsChangesetHeld}
use Rattle.pair_model.specs.Octopus.{is_link, is_link_view}
use Rattle.state_model.specs.Limits.{link_limit}
use Rattle.state_model.specs.Saved.{links_lead}
use Rattle.hg_dump.proofs.HeldLemmas.{held-at, held-length}
use Rattle.state_text.specs.declared.heads.Head.{Head}
use Rattle.state_text.specs.Heads.{AreHeldAt, head_of, heads_of}

-- what is found under a node has the fields and the parents of the view
pub same-link : (known : List Revision) (node p q : Id) (x : Changeset) (h : ChangesetView) → IsChangesetOf known node p q x → IsChangesetHeld known node h → is_link x p q ≡ is_link_view h
same-link known node p q x h of held =
    let same : of.revision ≡ held.revision = some_is (sym of.is_held ∙ held.is_held) in
    let first : p ≡ h.p = of.first ∙ ap (λ (r : Revision). r.p) same ∙ sym held.parents.0 in
    let second : q ≡ h.q = of.second ∙ ap (λ (r : Revision). r.q) same ∙ sym held.parents.1 in
    let fields : x ≡ h.fields = one_changeset (held.revision).text x h.fields (subst (λ (r : Revision). IsChangesetText r.text x) same of.fields) held.fields in
    (λ i. is_link (fields i) (first i) (second i))

-- a node under which a view is held is known
pub never-unknown : (known : List Revision) (node : Id) (h : ChangesetView) → knows known Changesets node ≡ false → IsChangesetHeld known node h → ⊥
never-unknown known node h none held = true≢false (sym (ap is_some held.is_held) ∙ none)

-- ---- one changeset more

module _ (hs : List ChangesetView) (i : ℕ) (h : ChangesetView) (at : slice_get hs i ≡ Some h) where
  pub head-next : (n : ℕ) → is_link_view h ≡ false → heads_of n (drop i hs) ≡ head_of n h ∷ heads_of 0 (drop (i + 1) hs)
  unfolding heads_of
  head-next n none = ap (heads_of n) (drop_next hs i h at) ∙ rw none refl

  pub lead-next : (n : ℕ) → is_link_view h ≡ false → links_lead n (drop i hs) ≡ links_lead 0 (drop (i + 1) hs)
  unfolding links_lead
  lead-next n none = ap (links_lead n) (drop_next hs i h at) ∙ rw none refl

  pub link-next : (n : ℕ) → is_link_view h ≡ true → heads_of n (drop i hs) ≡ heads_of (n + 1) (drop (i + 1) hs)
  unfolding heads_of
  link-next n link = ap (heads_of n) (drop_next hs i h at) ∙ rw link refl

  pub lead-link : (n : ℕ) → is_link_view h ≡ true → nat_lt n link_limit ≡ true → links_lead n (drop i hs) ≡ links_lead (n + 1) (drop (i + 1) hs)
  unfolding links_lead
  lead-link n link few = ap (links_lead n) (drop_next hs i h at) ∙ rw (link, few) refl

  pub too-many : (n : ℕ) → is_link_view h ≡ true → nat_lt n link_limit ≡ false → links_lead n (drop i hs) ≡ false
  unfolding links_lead
  too-many n link many = ap (links_lead n) (drop_next hs i h at) ∙ rw (link, many) refl

-- ---- a turn of the loop

-- what is left to be told of the changesets from a place on
pub record IsSoFar (known : List Revision) (nodes : List Id) (heads : List Head) (n : ℕ) (i : ℕ) : Type 0 where
  pub heads_are : (hs : List ChangesetView) → AreHeldAt known nodes hs → heads_of 0 hs ≡ heads ++ heads_of n (drop i hs)
  pub lead : (hs : List ChangesetView) → AreHeldAt known nodes hs → links_lead 0 hs ≡ links_lead n (drop i hs)

-- the changeset of a place, with its node
pub record Placed (known : List Revision) (hs : List ChangesetView) (i : ℕ) (node : Id) : Type 0 where
  pub view : ChangesetView
  pub held : IsChangesetHeld known node view
  pub at : slice_get hs i ≡ Some view
  pub named : changeset_node view ≡ node

pub placed : (known : List Revision) (nodes : List Id) (hs : List ChangesetView) (i : ℕ) (node : Id) → AreHeldAt known nodes hs → i < length nodes → node ≡ get_or nodes i node → Placed known hs i node
placed known nodes hs i node held below is =
    let at = held-at known nodes hs held.1 i node node below is in
    let there : slice_get nodes i ≡ Some node = slice_get-get_or nodes i node below ∙ ap Some (sym is) in
    let found = get_unmap changeset_node hs i node (ap (λ (l : List Id). slice_get l i) (sym held.0) ∙ there) in
    let same : found.0 ≡ at.view = some_is (sym found.1 ∙ at.at_place) in
    record { view = at.view; held = at.held; at = at.at_place; named = ap changeset_node (sym same) ∙ found.2 }

module _ (known : List Revision) (nodes : List Id) (heads : List Head) (n i : ℕ) (node : Id) (so_far : IsSoFar known nodes heads n i) (below : i < length nodes) (is : node ≡ get_or nodes i node) (link : Bool)
    (told : (h : ChangesetView) → IsChangesetHeld known node h → link ≡ is_link_view h) where
  pub after-head : link ≡ false → IsSoFar known nodes (heads ++ record { node = node; links = n } ∷ []) 0 (i + 1)
  after-head none = record {
    heads_are = λ hs held.
        let at = placed known nodes hs i node held below is in
        let no : is_link_view at.view ≡ false = sym (told at.view at.held) ∙ none in
        so_far.heads_are hs held
        ∙ ap (λ (l : List Head). heads ++ l) (head-next hs i at.view at.at n no ∙ (λ j. record { node = at.named j; links = n } ∷ heads_of 0 (drop (i + 1) hs)))
        ∙ sym (append_assoc heads (record { node = node; links = n } ∷ []) (heads_of 0 (drop (i + 1) hs)));
    lead = λ hs held.
        let at = placed known nodes hs i node held below is in
        so_far.lead hs held ∙ lead-next hs i at.view at.at n (sym (told at.view at.held) ∙ none);
  }

  pub after-link : link ≡ true → nat_lt n link_limit ≡ true → IsSoFar known nodes heads (n + 1) (i + 1)
  after-link link_is few = record {
    heads_are = λ hs held.
        let at = placed known nodes hs i node held below is in
        so_far.heads_are hs held ∙ ap (λ (l : List Head). heads ++ l) (link-next hs i at.view at.at n (sym (told at.view at.held) ∙ link_is));
    lead = λ hs held.
        let at = placed known nodes hs i node held below is in
        so_far.lead hs held ∙ lead-link hs i at.view at.at n (sym (told at.view at.held) ∙ link_is) few;
  }

  pub after-many : link ≡ true → nat_lt n link_limit ≡ false → (hs : List ChangesetView) → AreHeldAt known nodes hs → links_lead 0 hs ≡ false
  after-many link_is many hs held =
      let at = placed known nodes hs i node held below is in
      so_far.lead hs held ∙ too-many hs i at.view at.at n (sym (told at.view at.held) ∙ link_is) many

-- where all are told
module _ (known : List Revision) (nodes : List Id) (heads : List Head) (n i : ℕ) (so_far : IsSoFar known nodes heads n i) (past : length nodes ≤ i) (hs : List ChangesetView) (held : AreHeldAt known nodes hs) where
  none-left : drop i hs ≡ []
  none-left = drop_of_length-le hs (omega (arith, past, held-length known nodes hs held.1))

  pub all-heads : heads ≡ heads_of 0 hs
  unfolding heads_of
  all-heads = sym (so_far.heads_are hs held ∙ ap (λ (l : List ChangesetView). heads ++ heads_of n l) none-left ∙ append-nil heads)

  pub all-lead : links_lead 0 hs ≡ (n == 0)
  unfolding links_lead
  all-lead = so_far.lead hs held ∙ ap (links_lead n) none-left
