-- What is found of a block whose changeset has a partner, test by test. The stores are those of the state by an equation.
use Rattle.std.proofs.Common.{◌≡◌, ℕ, Bool, false, List, [], ◌++◌, length, map, take, drop, Option, Some, None, sym, ap, subst, ◌∙◌}
use Rattle.std.specs.Prelude.{◌↔◌, ◌||◌, slice_get, IsTrue, MatchOption}
use Rattle.text_model.specs.Lists.{Each}
use Rattle.text_model.specs.Id.{Id, commit, object_id}
use Rattle.text_model.specs.Text.{Bytes}
use Rattle.hg_model.specs.Revision.{Revision}
use Rattle.git_model.specs.Commit.{commit_text}
use Rattle.git_model.specs.Unfold.{walk_fault}
use Rattle.hg_manifest.specs.Values.{manifest_value}
use Rattle.hg_store.specs.Known.{AreAdded}
use Rattle.view_model.specs.View.{ChangesetView, CommitView, Row, SameCommit, HasBodiesOf, changeset_node, commit_id}
use Rattle.view_model.specs.Held.{IsFileHeld, IsChangesetHeld, IsCommitHeld}
use Rattle.pair_model.specs.Block.{Block, id_of}
use Rattle.pair_model.specs.Octopus.{links_of}
use Rattle.partner_model.specs.Given.{has_late_file, has_late_manifest}
use Rattle.state_model.specs.Kept.{State}
use Rattle.hg_view.proofs.Right.{held-is_view}
use Rattle.link_rule.proofs.HasViews.{has-view}
use Rattle.pair_known.specs.Blocks.{IsHistoryHeld}
use Rattle.pair_known.specs.Over.{IsChangesetIn}
use Rattle.pair_known.specs.Drafts.{HasView, IsHgDraft}
use Rattle.pair_known.specs.Rows.{RowValue}
use Rattle.pair_known.specs.Ruled.{IsMadeCommit}
use Rattle.pair_known.specs.declared.known.Known.{Known}
use Rattle.pair_known.specs.declared.hg_draft.HgDraft.{HgDraft}
use Rattle.pair_known.specs.declared.git_draft.GitDraft.{GitDraft}
use Rattle.pair_choice.specs.Bodies.{IsBodyHeld}
use Rattle.pair_choice.specs.Chosen.{IsChosenCommit}
use Rattle.pair_state.specs.declared.blocks.Block as pair
use Rattle.pair_state.specs.declared.state_parts.StateParts.{StateParts}
use Rattle.pair_state.specs.Blocks.{BlockValue}
use Rattle.pair_state.specs.Step.{AreAsked}
use Rattle.pull_bundle.specs.Late.{RefersIn}
use Rattle.state_audit.specs.declared.checked.Checked.{Checked}
use Rattle.state_audit.specs.Before.{IsBefore, HasNone, IsPartnerHere}
use Rattle.state_audit.specs.declared.seen.Seen.{Seen}
use Rattle.state_audit.specs.Audited.{AreInTime, AreCompared, IsFileRight, IsTurn, IsWalked}
use Rattle.state_audit.specs.Seen.{AreSeen}
use Rattle.state_audit.proofs.Rows.{files-right}
use Rattle.state_audit.proofs.SameBodies.{ids-known, bodies-same, bodies-too}
use Rattle.state_audit.proofs.Turns.{history, is-before, changeset-held, commit-held, walk, block-at, link-nodes}

-- what a draft stands for, over stores that are the same
pub draft-over : (k l : Known) → k ≡ l → (node : Id) (h : HgDraft) → ((v : ChangesetView) → IsChangesetHeld k.hg node v → IsHgDraft k.hg h v) → (v : ChangesetView) → IsChangesetHeld l.hg node v → IsHgDraft l.hg h v
draft-over k l same node h of = subst (λ (known : Known). (v : ChangesetView) → IsChangesetHeld known.hg node v → IsHgDraft known.hg h v) same of

module _ (s : StateParts) (place : ℕ) (ck : Checked) (m : State) (front : List Block) (b : Block) (rest : List Block) (t : IsTurn s place ck m front b rest) (k : Known) (same : k ≡ s.known) where
  abbrev v : ChangesetView
  v = b.changeset

  -- ---- the commit of the block

  module _ (x : pair.Block) (at : slice_get s.blocks place ≡ Some x) where
    id-at : x.commit ≡ id_of b
    id-at = ap (λ (y : BlockValue). y.commit) (block-at s place ck m front b rest t x at)

    pub kept-held : IsCommitHeld k.git x.commit b.commit × (walk_fault k.git ((b.commit).value).tree_id ≡ None)
    kept-held = (
      subst (λ (known : Known). IsCommitHeld known.git x.commit b.commit) (sym same) (subst (λ (id : Id). IsCommitHeld s.known.git id b.commit) (sym id-at) (commit-held s place ck m front b rest t)),
      subst (λ (known : Known). walk_fault known.git ((b.commit).value).tree_id ≡ None) (sym same) (walk s place ck m front b rest t),
    )

    -- ---- its changeset

    changeset-at : IsChangesetHeld k.hg x.node v
    changeset-at =
        subst (λ (known : Known). IsChangesetHeld known.hg x.node v) (sym same)
        (subst (λ (id : Id). IsChangesetHeld s.known.hg id v) (sym (ap (λ (y : BlockValue). y.node) (block-at s place ck m front b rest t x at))) (changeset-held s place ck m front b rest t))

    added-here : AreAdded k.hg
    added-here = subst (λ (known : Known). AreAdded known.hg) (sym same) (history s place ck m front b rest t).added

    pub view-there : HasView k.hg x.node
    view-there = has-view k.hg added-here x.node v changeset-at

    module _ (h : HgDraft) (of : (v : ChangesetView) → IsChangesetHeld k.hg x.node v → IsHgDraft k.hg h v) where
      pub draft-here : IsHgDraft s.known.hg h v
      draft-here = subst (λ (known : Known). IsHgDraft known.hg h v) same (of v changeset-at)

      pub inside-here : IsChangesetIn k m.blocks h v
      inside-here = record {
        history = subst (λ (known : Known). IsHistoryHeld known m.blocks) (sym same) (history s place ck m front b rest t);
        draft = of v changeset-at;
        view = held-is_view k.hg added-here x.node v changeset-at;
      }

      module _ (found : Option GitDraft) (answer : (blocks front : List Block) (v : ChangesetView) → IsChangesetIn k blocks h v → IsBefore k blocks front ck.nodes
          → MatchOption found (HasNone k front v) (λ d. (c : CommitView) × IsPartnerHere k blocks front v d c)) where
        at-front : MatchOption found (HasNone k front v) (λ d. (c : CommitView) × IsPartnerHere k m.blocks front v d c)
        at-front = answer m.blocks front v inside-here (subst (λ (known : Known). IsBefore known m.blocks front ck.nodes) (sym same) (is-before s place ck m front b rest t))

        pub some-here : (d : GitDraft) → found ≡ Some d → (c : CommitView) × IsPartnerHere s.known m.blocks front v d c
        some-here d is =
            subst (λ (known : Known). (c : CommitView) × IsPartnerHere known m.blocks front v d c) same
            (subst (λ (o : Option GitDraft). MatchOption o (HasNone k front v) (λ d. (c : CommitView) × IsPartnerHere k m.blocks front v d c)) is at-front)

        pub none-here : found ≡ None → HasNone s.known front v
        none-here is =
            subst (λ (known : Known). HasNone known front v) same
            (subst (λ (o : Option GitDraft). MatchOption o (HasNone k front v) (λ d. (c : CommitView) × IsPartnerHere k m.blocks front v d c)) is at-front)

  module _ (h : HgDraft) (draft : IsHgDraft s.known.hg h v) (d : GitDraft) (c : CommitView) (here : IsPartnerHere s.known m.blocks front v d c) where
    -- ---- late parents

    pub late-is : (seen : Seen) → ((front : List Block) → IsWalked k.hg ck front → AreSeen k.hg seen front) → (late : Bool)
        → ((front : List Block) (v : ChangesetView) → AreSeen k.hg seen front → AreInTime front → IsHgDraft k.hg h v → late ≡ (has_late_file front v.rows || has_late_manifest front v.manifest))
        → (has_late_file front v.rows || has_late_manifest front v.manifest) ≡ late
    late-is seen of late answer =
        sym (answer front v (of front (subst (λ (known : Known). IsWalked known.hg ck front) (sym same) t.walked)) ((t.right).compared).in_time (subst (λ (known : Known). IsHgDraft known.hg h v) (sym same) draft))

    pub manifest-is : (seen : Seen) → ((front : List Block) → IsWalked k.hg ck front → AreSeen k.hg seen front) → (late : Bool)
        → ((known : List Revision) (blocks : List Block) → RefersIn known seen.referred.now blocks → late ≡ has_late_manifest blocks (manifest_value h.manifest)) → has_late_manifest front v.manifest ≡ late
    manifest-is seen of late answer =
        ap (has_late_manifest front) draft.manifest ∙ sym (answer k.hg front (of front (subst (λ (known : Known). IsWalked known.hg ck front) (sym same) t.walked)).refers)

    -- ---- the commit

    made-here : IsMadeCommit s.known.git d c
    made-here = ((here.chosen).ruled).made

    pub kept-is : (x : pair.Block) → slice_get s.blocks place ≡ Some x → (kept : Bool) → ((e c : CommitView) → IsCommitHeld k.git x.commit e → IsMadeCommit k.git d c → (IsTrue kept ↔ SameCommit e c)) → IsTrue kept ↔ SameCommit b.commit c
    kept-is x at kept answer = answer b.commit c (kept-held x at).0 (subst (λ (known : Known). IsMadeCommit known.git d c) (sym same) made-here)

    pub id-is : (id : Id) (text : Bytes) → id ≡ object_id commit text → text ≡ commit_text d.commit → id ≡ commit_id c
    unfolding commit_id
    id-is id text of is = of ∙ ap (object_id commit) (is ∙ ap commit_text (sym made-here.value))

    -- ---- the links

    pub links-is : (links : List Id) (n : ℕ) → n ≡ length b.links → links ≡ take n (drop ck.changesets s.changesets) → (right : Bool)
        → ((blocks : List Block) (v : ChangesetView) (c : CommitView) → IsChosenCommit k blocks v d c → (IsTrue right ↔ (links ≡ map changeset_node (links_of blocks c))))
        → IsTrue right ↔ (map changeset_node b.links ≡ map changeset_node (links_of m.blocks c))
    links-is links n count are right answer =
        let own : links ≡ map changeset_node b.links = are ∙ link-nodes s place ck m front b rest t n count in
        let a = answer m.blocks v c (subst (λ (known : Known). IsChosenCommit known m.blocks v d c) (sym same) here.chosen) in
        ((λ e. sym own ∙ a.0 e), (λ e. a.1 (own ∙ e)))

    -- ---- the bodies

    module _ (alike : SameCommit b.commit c) (fresh : h.fresh ≡ []) where
      files-held : Each (IsFileHeld s.known.hg) v.rows
      files-held = subst (λ (rs : List Revision). Each (IsFileHeld (rs ++ s.known.hg)) v.rows) fresh draft.files

      pub asked-is : (rows : List RowValue) → rows ≡ h.rows → AreAsked k.hg k.git rows v.rows
      asked-is rows are = subst (λ (known : Known). AreAsked known.hg known.git rows v.rows) (sym same) (record {
        are = are ∙ draft.rows;
        held = files-held;
        blobs = ids-known s.known.git _ b.commit c v.rows (commit-held s place ck m front b rest t) made-here.view alike (here.chosen).bodies;
      })

      pub files-are : (seen : Seen) → ((front : List Block) → IsWalked k.hg ck front → AreSeen k.hg seen front) → (rows : List RowValue) → rows ≡ h.rows → (right : Bool)
          → ((front : List Block) (files : List Row) → AreSeen k.hg seen front → AreCompared k.git front → AreAsked k.hg k.git rows files → (IsTrue right ↔ Each (IsFileRight k.git front) files))
          → IsTrue right ↔ ((has_late_file front v.rows ≡ false) × HasBodiesOf v.rows (b.commit).rows)
      files-are seen of rows are right answer =
          let a = answer front v.rows (of front (subst (λ (known : Known). IsWalked known.hg ck front) (sym same) t.walked))
          (subst (λ (known : Known). AreCompared known.git front) (sym same) (t.right).compared) (asked-is rows are) in
          let each = files-right k.git front v.rows in
          let held = commit-held s place ck m front b rest t in (
            (λ e.
                let found = each.0 (a.0 e) in
                (found.0, bodies-same s.known.git _ b.commit c v.rows held made-here.view alike (here.chosen).bodies (subst (λ (known : Known). Each (IsBodyHeld known.git) v.rows) same found.1))),
            (λ h. a.1 (each.1 (h.0, subst (λ (known : Known). Each (IsBodyHeld known.git) v.rows) (sym same) (bodies-too s.known.git _ b.commit c v.rows held made-here.view alike (here.chosen).bodies h.1)))),
          )
