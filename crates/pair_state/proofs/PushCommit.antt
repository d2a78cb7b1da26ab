-- The commit of a changeset comes to the store.
use Rattle.std.proofs.Common.{◌≡◌, ◌⊎◌, ◌||◌, Bool, true, false, List, [], ◌∷◌, ◌++◌, map, None, sym, ap, subst, ◌∙◌, inl, inr}
use Rattle.std.specs.Prelude.{is_some, IsTrue}
use Rattle.std.specs.List.{list_any}
use Rattle.text_model.specs.Lists.{In, Each, SomeOf}
use Rattle.text_model.specs.Id.{Id, has_id}
use Rattle.text_model.proofs.TestLemmas.{or_true}
use Rattle.text_model.proofs.Elements.{each_in, each_from}
use Rattle.hg_model.specs.Revision.{Revision}
use Rattle.git_model.specs.Object.{Object, knows_object, is_other_content}
use Rattle.git_store.specs.Known.{AreKnown}
use Rattle.tree_shape.specs.Laws.{IsKnown}
use Rattle.view_model.specs.View.{TreeRow, ChangesetView, CommitView, IsCommitView, changeset_node, commit_id, commit_objects, files_among}
use Rattle.view_model.specs.Held.{IsChangesetHeld, AreChangesetsHeld}
use Rattle.pair_model.specs.Block.{Block, block_of_id, commits_in}
use Rattle.pair_model.specs.Collision.{commit_collides}
use Rattle.partner_model.specs.Clash.{commit_side_collides, is_any_saved}
use Rattle.pair_known.specs.Ruled.{blob_of_row}
use Rattle.pair_known.specs.declared.hg_draft.HgDraft.{HgDraft}
use Rattle.pair_known.specs.declared.git_draft.GitDraft.{GitDraft}
use Rattle.pair_state.specs.Blocks.{body_blob, IsAgreed}
use Rattle.git_store.specs.Growth.{HasGrown, Clash}
use Rattle.pair_state.specs.Push.{HaveSame, PushesCommit, CommitPushed}
use Rattle.pair_state.specs.Step.{IsAskedOf, IsElse, IsPushed}
use Rattle.pair_state.specs.declared.state_parts.StateParts.{StateParts}
use Rattle.pair_state.proofs.BlockLemmas.{HoldMore, HasMore, has-more, held-append, any-saved, state-more}
use Rattle.pair_state.proofs.CommitParts.{own, blob-of, HoldsAll, new-walk, new-held, new-apart, clash-collides, of-map}
use Rattle.pair_state.proofs.KeptLemmas.{blobs-on}
use Rattle.pair_state.proofs.MadeCommit.{some-body, each-of_map, each-to_map, same-blobs, with_objects, file-id, parts-clash, among-all, knows-new, all, all-among, old-walks, new-walks}
use Rattle.git_view.proofs.WalkGrowth.{commits-on}

module _ (s : StateParts) (h : HgDraft) (links : List Id) (d : GitDraft) (node : Id) (blocks : List Block) (b : Block) (p : PushesCommit s h links d node blocks b) where
  abbrev c : CommitView
  c = b.commit

  abbrev v : ChangesetView
  v = b.changeset

  abbrev pub parts : List Object
  parts = d.fresh ++ d.trees ++ own c ∷ []

  abbrev view : IsCommitView c
  view = p.ruled.made.view

  blobs-are : map body_blob v.rows ≡ map blob_of_row (files_among c.rows)
  blobs-are = same-blobs v.rows (files_among c.rows) p.bodies (file-id s.known.git d c p.ruled.made)

  -- ---- collisions

  pub saved-collides : list_any (has_id s.changesets) links ≡ true → IsTrue (commit_side_collides s.known.git blocks b)
  saved-collides some =
      ap (λ (t : Bool). commit_collides s.known.git blocks c || t) (sym (links-saved) ∙ some) ∙ or_true (commit_collides s.known.git blocks c)
    where
      links-saved : list_any (has_id s.changesets) links ≡ is_any_saved blocks b.links
      links-saved = ap (list_any (has_id s.changesets)) p.links_are ∙ any-saved s.changesets blocks p.state.changesets b.links

  by-commit : IsTrue (commit_collides s.known.git blocks c) → IsTrue (commit_side_collides s.known.git blocks b)
  by-commit collides = ap (λ (t : Bool). t || is_any_saved blocks b.links) collides

  pub partner-collides : is_some (block_of_id blocks (commit_id c)) ≡ true → IsTrue (commit_side_collides s.known.git blocks b)
  partner-collides some = by-commit (ap (λ (t : Bool). list_any (λ o. list_any (is_other_content o) (s.known.git ++ commit_objects c)) (commit_objects c) || t) some ∙ or_true _)

  pub parts-collide : Clash s.known.git parts → IsTrue (commit_side_collides s.known.git blocks b)
  parts-collide k = by-commit (parts-clash s.known.git d c p.ruled.made blocks k)

  module _ (new : List Object) (grown : HasGrown s.known.git new parts) where
    pub body-collides : SomeOf v.rows (λ x. IsElse new (body_blob x)) → IsTrue (commit_side_collides s.known.git blocks b)
    body-collides some =
        let r = some-body v.rows (IsElse new) some in
        let m = of-map blob_of_row r.0 (files_among c.rows) (subst (In r.0) blobs-are r.1) in
        by-commit (clash-collides c s.known.git (commit_objects c) blocks (λ o i. i) (record {
          object = r.0;
          other = r.2.0;
          is_new = subst (λ (o : Object). In o (commit_objects c)) (sym m.2) (blob-of c view m.0 m.1);
          is_there = among-all s.known.git d c p.ruled.made new grown r.2.0 r.2.1;
          differs = r.2.2;
        }))

    pub asked : IsAskedOf s.known.hg new node v
    asked = record {
      held = p.held;
      blobs = each-of_map (λ (o : Object). knows_object new o.id ≡ true) body_blob v.rows (subst (Each (λ (o : Object). knows_object new o.id ≡ true)) (sym blobs-are)
          (each-to_map (λ (o : Object). knows_object new o.id ≡ true) blob_of_row (files_among c.rows) (each_from (λ (row : TreeRow). knows_object new row.id ≡ true) (files_among c.rows) (λ row i.
          knows-new s.known.git d c p.ruled.made new grown row.id
          (each_in (λ row. IsTrue (knows_object (d.fresh ++ s.known.git) row.id)) (files_among c.rows) row p.ruled.made.all i)))));
    }

    -- ---- all came

    module _ (before : AreKnown s.known.git) (are : AreKnown new) (bodies : Each (λ x. IsKnown new (body_blob x)) v.rows) where
      blobs : Each (λ row. IsKnown new (blob_of_row row)) (files_among c.rows)
      blobs = each-of_map (IsKnown new) blob_of_row (files_among c.rows) (subst (Each (IsKnown new)) blobs-are (each-to_map (IsKnown new) body_blob v.rows bodies))

      holds : HoldsAll c view new
      holds = all s.known.git d c p.ruled.made new grown before are blobs

      -- the agreed changesets and this one
      agreed-more : (next : StateParts) → next.known.hg ≡ s.known.hg → next.known.git ≡ new → (x : Id) → (has_id s.agreed x ≡ true) ⊎ (x ≡ node) → IsAgreed next.known.hg next.known.git x
      agreed-more next hg git x known =
          subst (λ (os : List Object). IsAgreed next.known.hg os x) (sym git) (subst (λ (rs : List Revision). IsAgreed rs new x) (sym hg) (by known))
        where
          by : (has_id s.agreed x ≡ true) ⊎ (x ≡ node) → IsAgreed s.known.hg new x
          by (inl old) = let a = p.state.agreed x old in record { view = a.view; held = a.held; blobs = blobs-on s.known.git new grown.kept (a.view).rows a.blobs }
          by (inr q) = subst (IsAgreed s.known.hg new) (sym q) (record { view = v; held = p.held; blobs = bodies })

      pub pushed : changeset_node v ≡ node → block_of_id blocks (commit_id c) ≡ None → list_any (has_id s.changesets) links ≡ false → (id : Id) → id ≡ commit_id c
          → (ids : List Id) → ((x : Id) → has_id ids x ≡ true → (has_id s.agreed x ≡ true) ⊎ (x ≡ node))
          → (next : StateParts) → IsPushed (with_objects s new ids) next links node id → CommitPushed s next blocks b
      pushed node_is free apart id id_is ids agreed next is =
          let held = p.state.held.held in
          let more : HoldMore s.known.hg new blocks b = record {
            changesets = held.changesets;
            parts = held-append s.known.hg b.links (v ∷ []) (subst (λ (ns : List Id). AreChangesetsHeld s.known.hg ns b.links) p.links_are p.links_held)
                (subst (λ (n : Id). IsChangesetHeld s.known.hg n v) (sym node_is) p.held, tt);
            commits = commits-on s.known.git new grown.kept before are (map commit_id (commits_in blocks)) (commits_in blocks) (old-walks s.known.git blocks held.walks) held.commits;
            commit = new-held c view new are holds p.ruled.fits.rows;
            walks = new-walks s.known.git new grown.kept before blocks held.walks;
            walk = new-walk c view new are holds p.ruled.fits.rows;
            no_link = p.no_link;
            sound = are;
          } in
          let m = has-more (with_objects s new ids) next b links node id is p.state.held.added p.links_are (sym node_is) id_is (λ x i. agreed-more next is.hg is.git x (agreed x (sym (ap (λ (l : List Id). has_id l x) is.agreed) ∙ i))) in
          let has : HasMore s next b = record { partners = m.partners; blocks = m.blocks; changesets = m.changesets; commits = m.commits; added = m.added; one = m.one; agreed = m.agreed } in
          record {
            apart = (λ i. new-apart c view new are holds s.known.git blocks grown.older free i || (sym (ap (list_any (has_id s.changesets)) p.links_are ∙ any-saved s.changesets blocks p.state.changesets b.links) ∙ apart) i);
            state = state-more s next blocks b p.state (subst (λ (rs : List Revision). HoldMore rs next.known.git blocks b) (sym is.hg) (subst (λ (os : List Object). HoldMore s.known.hg os blocks b) (sym is.git) more)) has;
            tags = is.tags;
            names = is.names;
            revisions = is.hg;
            objects = subst (λ (os : List Object). HaveSame os (s.known.git ++ commit_objects c)) (sym is.git)
                (among-all s.known.git d c p.ruled.made new grown, all-among s.known.git d c p.ruled.made new grown before are blobs);
          }
