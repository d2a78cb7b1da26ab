-- A block comes to the stores, either side of which may be there already.
use Rattle.std.proofs.Common.{◌≡◌, ◌⊎◌, ◌&&◌, ◌||◌, not, Bool, true, false, List, [], ◌∷◌, ◌++◌, map, None, refl, sym, ap, subst, ◌∙◌, inl, inr}
use Rattle.std.specs.Prelude.{is_some, IsTrue}
use Rattle.std.specs.List.{list_any}
use Rattle.text_model.specs.Lists.{In, Each, SomeOf}
use Rattle.text_model.specs.Id.{Id, has_id}
use Rattle.text_model.proofs.TestLemmas.{or_true}
use Rattle.text_model.proofs.Elements.{each_in, in_any, each_from, none_all}
use Rattle.hg_model.specs.Revision.{Revision}
use Rattle.git_model.specs.Object.{Object, knows_object, is_other_content}
use Rattle.git_store.specs.Known.{AreKnown}
use Rattle.hg_store.specs.Known.{AreAdded}
use Rattle.tree_shape.specs.Laws.{IsKnown}
use Rattle.view_model.specs.View.{Row, TreeRow, CommitView, changeset_node, commit_id, commit_objects, files_among}
use Rattle.view_model.specs.Held.{IsChangesetHeld}
use Rattle.pair_model.specs.Block.{Block, id_of, block_of_id, commits_in}
use Rattle.pair_model.specs.Collision.{commit_collides}
use Rattle.partner_model.specs.Clash.{changeset_side_collides}
use Rattle.pair_known.specs.Ruled.{blob_of_row}
use Rattle.pair_known.specs.declared.hg_block.HgBlock.{HgBlock}
use Rattle.pair_known.specs.declared.git_draft.GitDraft.{GitDraft}
use Rattle.pair_state.specs.Blocks.{body_blob, IsAgreed}
use Rattle.pair_state.specs.Came.{PartsCame, PartsCollide}
use Rattle.git_store.specs.Growth.{HasGrown, Clash}
use Rattle.pair_state.specs.Push.{HaveSame, PushesBlock, BlockPushed, block_collides, bodies_collide}
use Rattle.pair_state.specs.Step.{IsAskedOf, IsElse, HaveBlobs, IsPushed}
use Rattle.pair_state.specs.declared.state_parts.StateParts.{StateParts}
use Rattle.pair_state.proofs.BlockLemmas.{HoldMore, HasMore, has-more, parts_of, state-more}
use Rattle.pair_state.proofs.CommitParts.{none-else, new-held, new-walk, new-apart, HoldsAll}
use Rattle.pair_state.proofs.KeptLemmas.{blobs-on, agreed-blobs}
use Rattle.pair_state.proofs.MadeCommit.{view, parts, parts-clash, knows-new, known-new, among-all, all, all-among, old-walks, new-walks, each-to_map}
use Rattle.pair_state.proofs.PushChangeset.{collides, none-collides, agreed-on, held-parts, held-last, held-old}
use Rattle.git_view.proofs.WalkGrowth.{commits-on}

-- the state with these revisions, objects and agreed changesets
abbrev pub with_all : StateParts → List Revision → List Object → List Id → StateParts
with_all s hg git ids = record {
  known = record { hg = hg; git = git; partners = s.known.partners };
  blocks = s.blocks;
  changesets = s.changesets;
  commits = s.commits;
  tags = s.tags;
  names = s.names;
  agreed = ids;
  alloc = s.alloc;
}

some-row : (rows : List Row) (P : Row → Type 0) → SomeOf rows P → (row : Row) × In row rows × P row
some-row [] P s = absurd s
some-row (row ∷ rows) P (inl p) = (row, inl refl, p)
some-row (row ∷ rows) P (inr s) = let r = some-row rows P s in (r.0, inr r.1, r.2)

-- the bodies agree, or the commit is stored
pub known-of : (agreed : Bool) (git : List Object) (stored : Bool) (id other : Id) → id ≡ other → stored ≡ knows_object git id → (agreed ≡ true) ⊎ (stored ≡ true) → (agreed ≡ true) ⊎ (knows_object git other ≡ true)
known-of agreed git stored id other same is (inl e) = inl e
known-of agreed git stored id other same is (inr e) = inr (ap (knows_object git) (sym same) ∙ sym is ∙ e)

module _ (s : StateParts) (h : HgBlock) (d : GitDraft) (blocks : List Block) (b : Block) (p : PushesBlock s h d blocks b) where
  abbrev c : CommitView
  c = b.commit

  abbrev rows : List Row
  rows = (b.changeset).rows

  -- ---- collisions

  by-parts : IsTrue (changeset_side_collides s.known.hg blocks b) → IsTrue (block_collides s.known.hg s.known.git blocks b)
  by-parts e = ap (λ (t : Bool). t || (commit_collides s.known.git blocks c || (not (knows_object s.known.git (id_of b)) && bodies_collide s.known.git b))) e

  by-commit : IsTrue (commit_collides s.known.git blocks c) → IsTrue (block_collides s.known.hg s.known.git blocks b)
  by-commit e =
      ap (λ (t : Bool). changeset_side_collides s.known.hg blocks b || (t || (not (knows_object s.known.git (id_of b)) && bodies_collide s.known.git b))) e
      ∙ or_true (changeset_side_collides s.known.hg blocks b)

  pub parts-collide : PartsCollide s.known.hg s.changesets (parts_of b) → IsTrue (block_collides s.known.hg s.known.git blocks b)
  parts-collide e = by-parts (collides s h blocks b p.brings e)

  pub commit-saved : is_some (block_of_id blocks (commit_id c)) ≡ true → IsTrue (block_collides s.known.hg s.known.git blocks b)
  commit-saved some = by-commit (ap (λ (t : Bool). list_any (λ o. list_any (is_other_content o) (s.known.git ++ commit_objects c)) (commit_objects c) || t) some ∙ or_true _)

  pub objects-clash : Clash s.known.git (parts s.known.git d c p.made) → IsTrue (block_collides s.known.hg s.known.git blocks b)
  objects-clash k = by-commit (parts-clash s.known.git d c p.made blocks k)

  -- ---- what came

  module _ (hg : List Revision) (came : PartsCame s.known.hg hg s.changesets (parts_of b)) (new : List Object) (grown : HasGrown s.known.git new (parts s.known.git d c p.made)) where
    pub asked : (node : Id) → node ≡ changeset_node b.changeset → IsAskedOf hg new node b.changeset
    asked node is = record {
      held = subst (λ (n : Id). IsChangesetHeld hg n b.changeset) (sym is) (held-last s h blocks b p.brings hg came);
      blobs = each_from (λ (row : Row). knows_object new (body_blob row).id ≡ true) rows (λ row i.
          knows-new s.known.git d c p.made new grown (body_blob row).id (each_in (λ (row : Row). knows_object (d.fresh ++ s.known.git) (body_blob row).id ≡ true) rows row p.blobs i));
    }

    agreed-here : (x : Id) → IsTrue (has_id s.agreed x) → IsAgreed hg new x
    agreed-here x some = let a = agreed-on s h blocks b p.brings hg came x some in record { view = a.view; held = a.held; blobs = blobs-on s.known.git new grown.kept (a.view).rows a.blobs }

    pub agreed-there : HaveBlobs hg new s.agreed
    agreed-there = agreed-blobs hg new new (λ id o e. e) s.agreed agreed-here

    pub body-collides : knows_object s.known.git (id_of b) ≡ false → SomeOf rows (λ x. IsElse new (body_blob x)) → IsTrue (block_collides s.known.hg s.known.git blocks b)
    body-collides free some =
        let r = some-row rows (λ x. IsElse new (body_blob x)) some in
        let any : bodies_collide s.known.git b ≡ true = in_any (λ row. list_any (is_other_content (body_blob row)) (s.known.git ++ commit_objects c)) rows r.0 r.1
        (in_any (is_other_content (body_blob r.0)) (s.known.git ++ commit_objects c) r.2.0 (among-all s.known.git d c p.made new grown r.2.0 r.2.1) r.2.2) in
        (λ i. changeset_side_collides s.known.hg blocks b || (commit_collides s.known.git blocks c || (not (free i) && any i)))
        ∙ ap (λ (t : Bool). changeset_side_collides s.known.hg blocks b || t) (or_true (commit_collides s.known.git blocks c)) ∙ or_true (changeset_side_collides s.known.hg blocks b)

    module _ (before : AreKnown s.known.git) (are : AreKnown new) (agreed : Bool) (yes : agreed ≡ true → Each (λ x. IsKnown new (body_blob x)) rows)
        (either : (agreed ≡ true) ⊎ (knows_object s.known.git (id_of b) ≡ true)) where
      blobs : Each (λ row. IsKnown new (blob_of_row row)) (files_among c.rows)
      blobs = by either
        where
          content : agreed ≡ true → (t : TreeRow) → IsKnown (d.fresh ++ s.known.git) (blob_of_row t) ⊎ In (blob_of_row t) (map body_blob rows) → IsKnown new (blob_of_row t)
          content e t (inl k) = known-new s.known.git d c p.made new grown (blob_of_row t) k
          content e t (inr i) = each_in (IsKnown new) (map body_blob rows) (blob_of_row t) (each-to_map (IsKnown new) body_blob rows (yes e)) i

          by : (agreed ≡ true) ⊎ (knows_object s.known.git (id_of b) ≡ true) → Each (λ row. IsKnown new (blob_of_row row)) (files_among c.rows)
          by (inl e) = each_from (λ row. IsKnown new (blob_of_row row)) (files_among c.rows) (λ t i.
              content e t (each_in (λ t. IsKnown (d.fresh ++ s.known.git) (blob_of_row t) ⊎ In (blob_of_row t) (map body_blob rows)) (files_among c.rows) t p.contents i))
          by (inr k) = each_from (λ row. IsKnown new (blob_of_row row)) (files_among c.rows) (λ t i.
              known-new s.known.git d c p.made new grown (blob_of_row t) (each_in (λ t. IsKnown (d.fresh ++ s.known.git) (blob_of_row t)) (files_among c.rows) t (p.stored k) i))

      holds : HoldsAll c (view s.known.git d c p.made) new
      holds = all s.known.git d c p.made new grown before are blobs

      no-body : (not (knows_object s.known.git (id_of b)) && bodies_collide s.known.git b) ≡ false
      no-body = by either
        where
          and-false : (t : Bool) → (t && false) ≡ false
          and-false true = refl
          and-false false = refl

          by : (agreed ≡ true) ⊎ (knows_object s.known.git (id_of b) ≡ true) → (not (knows_object s.known.git (id_of b)) && bodies_collide s.known.git b) ≡ false
          by (inr k) = ap (λ (t : Bool). not t && bodies_collide s.known.git b) k
          by (inl e) = ap (λ (t : Bool). not (knows_object s.known.git (id_of b)) && t)
              (none_all (λ row. list_any (is_other_content (body_blob row)) (s.known.git ++ commit_objects c)) rows (λ row i.
              none_all (is_other_content (body_blob row)) (s.known.git ++ commit_objects c) (λ x j.
              none-else c (view s.known.git d c p.made) new are holds (body_blob row) x (each_in (λ x. IsKnown new (body_blob x)) rows row (yes e) i) (all-among s.known.git d c p.made new grown before are blobs x j))))
              ∙ and-false (not (knows_object s.known.git (id_of b)))

      pub pushed : block_of_id blocks (commit_id c) ≡ None → (links : List Id) → links ≡ map changeset_node b.links → (node : Id) → node ≡ changeset_node b.changeset → (id : Id) → id ≡ commit_id c
          → (ids : List Id) → ((x : Id) → has_id ids x ≡ true → (has_id s.agreed x ≡ true) ⊎ ((agreed ≡ true) × (x ≡ node)))
          → AreAdded hg → (next : StateParts) → IsPushed (with_all s hg new ids) next links node id → BlockPushed s next blocks b
      pushed free links links_are node node_is id id_is ids known added next is =
          let held = p.brings.state.held.held in
          let more : HoldMore hg new blocks b = record {
            changesets = held-old s h blocks b p.brings hg came;
            parts = held-parts s h blocks b p.brings hg came;
            commits = commits-on s.known.git new grown.kept before are (map commit_id (commits_in blocks)) (commits_in blocks) (old-walks s.known.git blocks held.walks) held.commits;
            commit = new-held c (view s.known.git d c p.made) new are holds p.within;
            walks = new-walks s.known.git new grown.kept before blocks held.walks;
            walk = new-walk c (view s.known.git d c p.made) new are holds p.within;
            no_link = p.brings.no_link;
            sound = are;
          } in
          let m = has-more (with_all s hg new ids) next b links node id is added links_are node_is id_is (λ x i.
          subst (λ (os : List Object). IsAgreed next.known.hg os x) (sym is.git) (subst (λ (rs : List Revision). IsAgreed rs new x) (sym is.hg)
          (agreed-by x (known x (sym (ap (λ (l : List Id). has_id l x) is.agreed) ∙ i))))) in
          let has : HasMore s next b = record { partners = m.partners; blocks = m.blocks; changesets = m.changesets; commits = m.commits; added = m.added; one = m.one; agreed = m.agreed } in
          record {
            apart = (λ i. none-collides s h blocks b p.brings hg came i || (new-apart c (view s.known.git d c p.made) new are holds s.known.git blocks grown.older free i || no-body i));
            state = state-more s next blocks b p.brings.state (subst (λ (rs : List Revision). HoldMore rs next.known.git blocks b) (sym is.hg) (subst (λ (os : List Object). HoldMore hg os blocks b) (sym is.git) more)) has;
            tags = is.tags;
            names = is.names;
            revisions = is.hg ∙ came.came.are;
            objects = subst (λ (os : List Object). HaveSame os (s.known.git ++ commit_objects c)) (sym is.git)
                (among-all s.known.git d c p.made new grown, all-among s.known.git d c p.made new grown before are blobs);
          }
        where
          agreed-by : (x : Id) → (has_id s.agreed x ≡ true) ⊎ ((agreed ≡ true) × (x ≡ node)) → IsAgreed hg new x
          agreed-by x (inl old) = agreed-here x old
          agreed-by x (inr q) = subst (IsAgreed hg new) (sym (q.1 ∙ node_is)) (record { view = b.changeset; held = held-last s h blocks b p.brings hg came; blobs = yes q.0 })
