-- The block of a changeset and its partner comes behind the others.
use Rattle.std.proofs.Common.{◌≡◌, ◌≤◌, ◌||◌, ◌&&◌, ℕ, Bool, true, false, not, List, [], ◌∷◌, ◌++◌, length, map, Option, Some, None, refl, sym, ap, subst, ◌∙◌, append-nil, arith}
use Rattle.std.specs.Prelude.{IfSome, is_some, IsTrue}
use Rattle.std.specs.Borrow.{Bor}
use Rattle.std.specs.List.{list_any}
use Rattle.std.proofs.lemmas.List.Folds.{list_any-append}
use Rattle.text_model.specs.Lists.{Each, In}
use Rattle.text_model.specs.Text.{Bytes}
use Rattle.text_model.specs.Fault.{FaultName}
use Rattle.text_model.specs.Fault as fault
use Rattle.text_model.specs.Id.{Id, is_null}
use Rattle.text_model.proofs.EachLemmas.{Each-append, Each-weaker}
use Rattle.text_model.proofs.Elements.{flat_map_append, map_append, each_from, in_map, in_right}
use Rattle.text_model.proofs.Options.{or_parts, or_neither}
use Rattle.hg_model.specs.Revision.{Revision}
use Rattle.git_model.specs.Object.{Object}
use Rattle.view_model.specs.View.{ChangesetView, CommitView, Row, changeset_node, commit_objects, files_among}
use Rattle.view_model.specs.Held.{IsChangesetHeld, AreChangesetsHeld}
use Rattle.view_model.specs.Dump.{revisions_of, revisions_in}
use Rattle.pair_model.specs.Block.{Block, changesets_in}
use Rattle.pair_model.specs.Octopus.{links_of}
use Rattle.partner_model.specs.Clash.{commit_side_collides}
use Rattle.partner_model.specs.Given.{block_with, has_file, is_late_file, has_late_file}
use Rattle.hg_dump.specs.declared.refers.Refers.{Refers}
use Rattle.hg_dump.specs.Refers.{RefersTo, HasFilesOf}
use Rattle.hg_dump.proofs.HeldLemmas.{node-is}
use Rattle.pair_choice.specs.Chosen.{IsChosenCommit}
use Rattle.pair_known.specs.Drafts.{IsRowKnown}
use Rattle.pair_known.specs.Over.{IsCommitOver}
use Rattle.pair_known.specs.Rows.{RowValue, row_value}
use Rattle.pair_known.specs.Ruled.{blob_of_row}
use Rattle.commit_rule.specs.Parts.{HasStoredBlob}
use Rattle.pair_known.specs.declared.known.Known.{Known}
use Rattle.pair_known.specs.Partners.{git_at}
use Rattle.pair_known.specs.declared.git_draft.GitDraft.{GitDraft}
use Rattle.pair_state.specs.declared.state_parts.StateParts.{StateParts}
use Rattle.pair_state.specs.declared.fault.PushFault.{PushFault}
use Rattle.pair_state.specs.declared.fault.PushFault.TheVariants as push
use Rattle.pair_state.specs.Blocks.{body_blob}
use Rattle.pair_state.specs.Push.{HaveSame, PushesCommit, CommitPushed}
use Rattle.pair_state.proofs.BlockLemmas.{parts_of, held-append}
use Rattle.pair_state.proofs.CommitParts.{blob-of, of-map}
use Rattle.git_store.proofs.Places.{found-one}
use Rattle.pair_state.proofs.MadeCommit.{each-to_map, same-blobs, file-id}
use Rattle.pull_outcome.specs.declared.take_fault.TakeFault.{TakeFault}
use Rattle.pull_outcome.specs.Takes.{IsTakeFault, push_refused}
use Rattle.pull_bundle.specs.Faults.{IsOfChangeset}
use Rattle.pull_bundle.specs.declared.take.Pair.{Pair}
use Rattle.pull_bundle.specs.declared.taking.Taking.{Taking}
use Rattle.pull_bundle.specs.Late.{is_late_row}
use Rattle.pull_bundle.specs.Puts.{IsPairFor, IsPut}
use Rattle.pull_bundle.specs.Takes.{IsTaking, AreFilesInTime}
use Rattle.pull_bundle.proofs.LateLemmas.{near-view}
use Rattle.pull_bundle.proofs.LinkLemmas.{links-count, links-none, links-some, partner-links}
use Rattle.pull_bundle.proofs.Referred.{has-files}

-- ---- what is in time stays so

has-more : (blocks more : List Block) (path : Bytes) (node : Id) → has_file (blocks ++ more) path node ≡ (has_file blocks path node || has_file more path node)
has-more blocks more path node =
    ap (list_any (λ v. list_any _ v.rows)) (flat_map_append (λ (b : Block). b.links ++ b.changeset ∷ []) blocks more)
    ∙ list_any-append (λ v. list_any _ v.rows) (changesets_in blocks) (changesets_in more)

file-more : (blocks more : List Block) (path : Bytes) (node : Id) → is_late_file blocks path node ≡ false → is_late_file (blocks ++ more) path node ≡ false
file-more blocks more path node h = ap (λ (t : Bool). not (is_null node) && not t) (has-more blocks more path node) ∙ by (is_null node) (has_file blocks path node) (has_file more path node) h
  where
    by : (n a b : Bool) → (not n && not a) ≡ false → (not n && not (a || b)) ≡ false
    by true a b e = refl
    by false true b e = refl
    by false false b e = absurd cc

pub rows-more : (blocks more : List Block) (rows : List Row) → has_late_file blocks rows ≡ false → has_late_file (blocks ++ more) rows ≡ false
rows-more blocks more [] h = refl
rows-more blocks more (row ∷ rows) h =
    let parts = or_parts (is_late_row blocks row) (has_late_file blocks rows) h in
    let both = or_parts (is_late_file blocks row.path (row.revision).p) (is_late_file blocks row.path (row.revision).q) parts.0 in
    or_neither (is_late_row (blocks ++ more) row) (has_late_file (blocks ++ more) rows)
    (or_neither (is_late_file (blocks ++ more) row.path (row.revision).p) (is_late_file (blocks ++ more) row.path (row.revision).q)
    (file-more blocks more row.path (row.revision).p both.0) (file-more blocks more row.path (row.revision).q both.1))
    (rows-more blocks more rows parts.1)

in-time : (blocks : List Block) (b : Block) → AreFilesInTime blocks → has_late_file blocks (b.changeset).rows ≡ false → AreFilesInTime (blocks ++ b ∷ [])
in-time blocks b all own =
    Each-append (λ x. has_late_file (blocks ++ b ∷ []) (x.changeset).rows ≡ false) blocks (b ∷ [])
    (Each-weaker (λ x. has_late_file blocks (x.changeset).rows ≡ false) (λ x. has_late_file (blocks ++ b ∷ []) (x.changeset).rows ≡ false) (λ x h. rows-more blocks (b ∷ []) (x.changeset).rows h) blocks all)
    (rows-more blocks (b ∷ []) (b.changeset).rows own, tt)

all-revisions : (blocks : List Block) (b : Block) → revisions_in (changesets_in (blocks ++ b ∷ [])) ≡ revisions_in (changesets_in blocks) ++ revisions_in (parts_of b)
all-revisions blocks b =
    ap revisions_in (flat_map_append parts_of blocks (b ∷ []) ∙ ap (λ (l : List ChangesetView). changesets_in blocks ++ l) (append-nil (parts_of b)))
    ∙ flat_map_append revisions_of (changesets_in blocks) (parts_of b)

-- ---- the block

module _ (t : Taking) (node : Id) (p : Pair) (blocks : List Block) (v : ChangesetView) (c : CommitView) (is : IsPairFor t node p blocks v c) where
  links-held : AreChangesetsHeld (t.state).known.hg (map changeset_node (links_of blocks c)) (links_of blocks c)
  links-held = partner-links (t.state).known blocks ((is.taking).state).held v c (is.chosen).partner

  own : changeset_node v ≡ node
  own = node-is (t.state).known.hg (((is.taking).state).held).added node v is.is_held

  pub pushes : PushesCommit t.state p.draft p.links p.commit node blocks (block_with blocks v c)
  pushes = record {
    state = (is.taking).state;
    draft = is.draft;
    held = is.is_held;
    links_held = subst (λ (ids : List Id). AreChangesetsHeld (t.state).known.hg ids (links_of blocks c)) (sym is.links_are) links-held;
    links_are = is.links_are;
    few = omega (arith, links-count blocks c, ((((is.chosen).ruled).made).view).few);
    no_link = is.no_link;
    free = is.free;
    ruled = (is.chosen).ruled;
    bodies = (is.chosen).bodies;
  }

  blobs-are : map body_blob v.rows ≡ map blob_of_row (files_among c.rows)
  blobs-are = same-blobs v.rows (files_among c.rows) (is.chosen).bodies (file-id (t.state).known.git p.commit c ((is.chosen).ruled).made)

  body-in : (row : Row) → In row v.rows → In (body_blob row) (commit_objects c)
  body-in row i =
      let m = of-map blob_of_row (body_blob row) (files_among c.rows) (subst (In (body_blob row)) blobs-are (in_map body_blob row v.rows i)) in
      subst (λ (o : Object). In o (commit_objects c)) (sym m.2) (blob-of c (((is.chosen).ruled).made).view m.0 m.1)

  module _ (s : StateParts) (pushed : CommitPushed t.state s blocks (block_with blocks v c)) where
    parts-held : AreChangesetsHeld s.known.hg (map changeset_node (parts_of (block_with blocks v c))) (parts_of (block_with blocks v c))
    parts-held =
        subst (λ (known : List Revision). AreChangesetsHeld known (map changeset_node (parts_of (block_with blocks v c))) (parts_of (block_with blocks v c))) (sym pushed.revisions)
        (held-append (t.state).known.hg (links_of blocks c) (v ∷ []) links-held (subst (λ (n : Id). IsChangesetHeld (t.state).known.hg n v) (sym own) is.is_held, tt))

    -- the nodes of the links, and that of the changeset
    pub new-held : AreChangesetsHeld s.known.hg (p.links ++ node ∷ []) (parts_of (block_with blocks v c))
    new-held =
        subst (λ (ids : List Id). AreChangesetsHeld s.known.hg ids (parts_of (block_with blocks v c)))
        (map_append changeset_node (links_of blocks c) (v ∷ []) ∙ (λ i. sym is.links_are i ++ own i ∷ [])) parts-held

    -- the bodies of the changeset's files are blobs of the commit, all of whose objects came
    stored-rows : Each (HasStoredBlob s.known.git) (map row_value v.rows)
    stored-rows =
        each-to_map (HasStoredBlob s.known.git) row_value v.rows (each_from (λ row. HasStoredBlob s.known.git (row_value row)) v.rows (λ row i.
        ap is_some (found-one s.known.git (((pushed.state).sound).are).distinct (body_blob row) (pushed.objects.1 (body_blob row) (in_right (body_blob row) (t.state).known.git (commit_objects c) (body-in row i))))))

    pub put : (referred : Refers) → RefersTo referred (revisions_in (changesets_in blocks) ++ revisions_in (parts_of (block_with blocks v c)))
        → (near : List RowValue) → near ≡ p.draft.rows → IsPut t (record { state = s; referred = referred; near = near }) blocks (block_with blocks v c)
    put referred to near rows = record {
      apart = pushed.apart;
      taking = record {
        state = pushed.state;
        referred = subst (RefersTo referred) (sym (all-revisions blocks (block_with blocks v c))) to;
        in_time = in-time blocks (block_with blocks v c) (is.taking).in_time is.files_in_time;
        stored = subst (Each (HasStoredBlob s.known.git)) (sym (rows ∙ (is.draft).rows)) stored-rows;
        near = subst (Each (IsRowKnown s.known.hg)) (sym rows) (subst (λ (known : List Revision). Each (IsRowKnown known) p.draft.rows) (sym pushed.revisions) is.rows);
      };
      revisions = pushed.revisions;
      objects = subst (λ (l : List Object). HaveSame s.known.git ((t.state).known.git ++ l)) (sym (append-nil (commit_objects c))) pushed.objects;
      tags = pushed.tags;
      names = pushed.names;
    }

-- ---- the changeset that is near

pub near-files : (t : Taking) (blocks : List Block) (s : StateParts) → IsTaking t blocks → s.known.hg ≡ (t.state).known.hg → (near : Option (Bor Id)) → IfSome near (λ node. IsTrue (is_some (git_at (t.state).known.partners node.now)))
    → IfSome near (λ node. (v : ChangesetView) × IsChangesetHeld s.known.hg node.now v × ((rs : List Revision) → RefersTo t.referred rs → HasFilesOf rs v))
near-files t blocks s taking same None h = tt
near-files t blocks s taking same (Some node) h =
    let n = near-view t blocks node.now taking h in (
      n.0,
      subst (λ (known : List Revision). IsChangesetHeld known node.now n.0) (sym same) (n.1).is_held,
      has-files t.referred (changesets_in blocks) n.0 (n.1).among taking.referred,
    )

-- ---- the nodes of the links

pub link-nodes : (k : Known) (blocks : List Block) (v : ChangesetView) (d : GitDraft) (c : CommitView) → IsChosenCommit k blocks v d c → 3 ≤ length (d.commit).parents → IsCommitOver k blocks d c
link-nodes k blocks v d c chosen some = chosen.over (links-some blocks c (subst (λ (n : ℕ). 3 ≤ n) (ap (λ x. length x.parents) (sym ((chosen.ruled).made).value)) some))

pub no-nodes : (k : Known) (blocks : List Block) (v : ChangesetView) (d : GitDraft) (c : CommitView) → IsChosenCommit k blocks v d c → length (d.commit).parents ≤ 2 → (ids : List Id) → ids ≡ [] → ids ≡ map changeset_node (links_of blocks c)
no-nodes k blocks v d c chosen few ids none =
    none ∙ ap (map changeset_node) (sym (links-none blocks c (subst (λ (n : ℕ). n ≤ 2) (ap (λ x. length x.parents) (sym ((chosen.ruled).made).value)) few)))

-- ---- what a fault says

abbrev pub PutDue : Taking → Id → Pair → FaultName → Type 0
PutDue t node p name =
    (blocks : List Block) (v : ChangesetView) (c : CommitView) → IsPairFor t node p blocks v c → (name ≡ fault.Collision) × IsTrue (commit_side_collides (t.state).known.git blocks (block_with blocks v c))

pub push-fault : (t : Taking) (node : Id) (p : Pair) (f : PushFault)
    → (f ≡ push.Collision → (blocks : List Block) (b : Block) → PushesCommit t.state p.draft p.links p.commit node blocks b → IsTrue (commit_side_collides (t.state).known.git blocks b)) → (e : TakeFault) → e ≡ push_refused f → IsTakeFault (PutDue t node p) e
push-fault t node p push.Collision why e is = subst (IsTakeFault (PutDue t node p)) (sym is) (λ blocks v c for. (refl, why refl blocks (block_with blocks v c) (pushes t node p blocks v c for)))
push-fault t node p push.Memory why e is = subst (IsTakeFault (PutDue t node p)) (sym is) tt

push-name : (f : PushFault) → IsOfChangeset (push_refused f)
push-name push.Collision = tt
push-name push.Memory = tt

pub push-named : (f : PushFault) (e : TakeFault) → e ≡ push_refused f → IsOfChangeset e
push-named f e is = subst IsOfChangeset (sym is) (push-name f)
