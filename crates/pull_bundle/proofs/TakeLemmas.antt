-- One changeset: why it is refused, and the block that it gets.
use Rattle.std.proofs.Common.{◌≡◌, ◌≤◌, ◌+◌, ◌*◌, ℕ, inl, inr, Bool, true, false, true≢false, List, [], ◌∷◌, ◌++◌, length, map, Option, Some, refl, sym, ap, subst, ◌∙◌, append-nil, arith}
use Rattle.std.specs.Prelude.{Result, Ok, Err, IfOk, IfErr, is_some, IsTrue}
use Rattle.std.proofs.lemmas.List.{length-map, length-append}
use Rattle.text_model.specs.Lists.{Each}
use Rattle.text_model.specs.Id.{Id}
use Rattle.text_model.specs.Fault.{FaultName}
use Rattle.text_model.specs.Fault as fault
use Rattle.text_model.proofs.Options.{none_is}
use Rattle.hg_model.specs.Revision.{Revision, Changesets, revision_of}
use Rattle.hg_store.specs.Known.{AreAdded}
use Rattle.hg_view.proofs.Held.{view-is_held}
use Rattle.hg_view.proofs.Right.{held-is_view}
use Rattle.view_model.specs.View.{ChangesetView, CommitView, CommitFits, changeset_node}
use Rattle.view_model.specs.Held.{IsChangesetHeld}
use Rattle.pair_model.specs.Block.{Block, block_of_node}
use Rattle.pair_model.specs.Octopus.{is_link_view, links_of}
use Rattle.partner_model.specs.Clash.{commit_side_collides}
use Rattle.partner_model.specs.Given.{block_with, has_late_file, has_late_manifest}
use Rattle.history_model.specs.Pull.{BringBlocks, ChangesetRefused, ViewRefused, BlockRefused, IsKnownLink, is_saved}
use Rattle.bridge_text.specs.Refusals.{fault_name}
use Rattle.pair_known.specs.declared.choice_fault.ChoiceFault.{ChoiceFault}
use Rattle.pair_known.specs.declared.choice_fault.ChoiceFault.TheVariants as choice
use Rattle.pair_choice.specs.Chosen.{IsChosenCommit, ChangesetRefuses}
use Rattle.pair_known.specs.declared.hg_draft.HgDraft.{HgDraft}
use Rattle.pair_known.specs.declared.git_draft.GitDraft.{GitDraft}
use Rattle.pair_known.specs.Drafts.{HasView, IsHgDraft, IsRowKnown}
use Rattle.pair_known.specs.Over.{IsChangesetIn}
use Rattle.pair_known.specs.Partners.{git_at}
use Rattle.pair_state.specs.Blocks.{value_of, block_value}
use Rattle.pair_state.proofs.BlockLemmas.{git-some}
use Rattle.pair_state.specs.Push.{HaveSame}
use Rattle.pull_outcome.specs.declared.take_fault.TakeFault.{TakeFault}
use Rattle.pull_outcome.specs.declared.take_fault.TakeFault.TheVariants.{Refused, Memory}
use Rattle.pull_bundle.specs.declared.take.Pair.{Pair}
use Rattle.pull_bundle.specs.declared.taking.Taking.{Taking}
use Rattle.pull_outcome.specs.Takes.{IsTakeFault, choice_refused}
use Rattle.pull_bundle.specs.Faults.{IsOfChangeset, ViewLacks, IsLate}
use Rattle.pull_bundle.specs.Puts.{IsPairFor, IsPut}
use Rattle.pull_bundle.specs.Takes.{IsTaking, Comes, IsNew, GetsBlock, Takes, IsRefusedNew}
use Rattle.pull_bundle.proofs.ArrivalLemmas.{ComesDue}
use Rattle.pull_bundle.proofs.Known.{came-found}
use Rattle.pull_bundle.proofs.Lacks.{no-manifest_lacks, no-file_lacks}
use Rattle.pull_bundle.proofs.LinkLemmas.{not-link}
use Rattle.pull_bundle.proofs.PutLemmas.{PutDue}

pub fault-map : (P Q : FaultName → Type 0) → ((name : FaultName) → P name → Q name) → (f : TakeFault) → IsTakeFault P f → IsTakeFault Q f
fault-map P Q g (Refused why) h = g (fault_name why) h
fault-map P Q g Memory h = tt

clash : {b : Bool} → b ≡ true → b ≡ false → ⊥
clash t f = true≢false (sym t ∙ f)

-- ---- a changeset that is new

module _ (t : Taking) (node : Id) (blocks : List Block) (r : Revision) (is : r.node ≡ node) (new : IsNew t blocks r) where
  at : revision_of (t.state).known.hg Changesets node ≡ Some new.found
  at = ap (revision_of (t.state).known.hg Changesets) (sym is) ∙ new.is_held

  added : AreAdded (t.state).known.hg
  added = (((new.taking).state).held).added

  -- what the store lends as its view
  pub held-there : HasView (t.state).known.hg node → (v : ChangesetView) × IsChangesetHeld (t.state).known.hg node v
  held-there view = view-is_held (t.state).known.hg added node view.0 view.1

  refused-as : (name : FaultName) → ChangesetRefused (t.state).known.hg (t.state).known.git blocks r.node name → IsRefusedNew t blocks r name
  refused-as name why = record { no_link = new.no_link; is_new = ap is_some new.free; fault = why }

  pub view-refused : (name : FaultName) → ((r' : Revision) → revision_of (t.state).known.hg Changesets node ≡ Some r' → ViewLacks (t.state).known.hg r' name) → IsRefusedNew t blocks r name
  view-refused name lacks = refused-as name (by (lacks new.found at))
    where
      by : ViewLacks (t.state).known.hg new.found name → ChangesetRefused (t.state).known.hg (t.state).known.git blocks r.node name
      by (inl a) = (new.found, new.is_held, inl a)
      by (inr (na, inl b)) = (new.found, new.is_held, inr (na, inl b))
      by (inr (na, inr b)) = absurd b.1

  module _ (v : ChangesetView) (held : IsChangesetHeld (t.state).known.hg node v) where
    held-here : IsChangesetHeld (t.state).known.hg r.node v
    held-here = subst (λ (n : Id). IsChangesetHeld (t.state).known.hg n v) (sym is) held

    pub link-none : is_link_view v ≡ false
    link-none = not-link (t.state).known.hg r.node v held-here new.no_link

    pub inside-it : (d : HgDraft) → IsHgDraft (t.state).known.hg d v → IsChangesetIn (t.state).known blocks d v
    inside-it d draft = record { history = ((new.taking).state).held; draft = draft; view = held-is_view (t.state).known.hg added node v held }

    refused-by : (name : FaultName) → ViewRefused (t.state).known.hg (t.state).known.git blocks v name → IsRefusedNew t blocks r name
    refused-by name why = refused-as name (
      new.found,
      new.is_held,
      inr (no-manifest_lacks (t.state).known.hg node new.found v held at, inr (no-file_lacks (t.state).known.hg node new.found v held at, (v, held-here, why))),
    )

    -- it has no partner
    pub choice-refused : (f : ChoiceFault) → ChangesetRefuses (t.state).known blocks v f → IsTakeFault (IsRefusedNew t blocks r) (choice_refused f)
    choice-refused choice.PathClash h = refused-by fault.PathClash (inl (h, refl))
    choice-refused choice.ParentIsLink h = refused-by fault.ParentIsLink (inr ((λ e. clash e h.0), inl (h.1, refl)))
    choice-refused choice.Collision h = refused-by fault.Collision (inr ((λ e. clash e h.0), inr (h.1, inl (h.2, refl))))
    choice-refused choice.NestLimit h = refused-by fault.NestLimit (inr ((λ e. clash e h.0), inr (h.1, inr (h.2, inl (h.3, refl)))))
    choice-refused choice.PairLimit h =
        refused-by fault.PairLimit (inr ((λ e. clash e h.0), inr (h.1, inr (h.2, inr (h.3, (block_with blocks v h.4, (h.4, h.5, refl), inl (h.6, refl)))))))
    choice-refused choice.Memory h = tt

    module _ (d : GitDraft) (c : CommitView) (chosen : IsChosenCommit (t.state).known blocks v d c) where
      block-refused : (name : FaultName)
          → BlockRefused (¬ (CommitFits c)) (IsTrue (commit_side_collides (t.state).known.git blocks (block_with blocks v c))) blocks (block_with blocks v c) name → IsRefusedNew t blocks r name
      block-refused name why =
          refused-by name (inr ((λ e. clash e chosen.no_clash), inr (chosen.on_no_link, inr (chosen.apart, inr (chosen.not_deep, (block_with blocks v c, (c, chosen.partner, refl), why))))))

      -- a parent comes too late
      pub late-refused : (name : FaultName) → IsLate blocks v name → IsRefusedNew t blocks r name
      late-refused name (inl a) = block-refused name (inr ((λ k. k (chosen.ruled).fits), inl a))
      late-refused name (inr (na, inl b)) = block-refused name (inr ((λ k. k (chosen.ruled).fits), inr (na, inl b)))
      late-refused name (inr (na, inr b)) = absurd b.1

      pub pair-it : (p : Pair) → p.commit ≡ d → IsHgDraft (t.state).known.hg p.draft v → Each (IsRowKnown (t.state).known.hg) p.draft.rows → has_late_file blocks v.rows ≡ false → has_late_manifest blocks v.manifest ≡ false → p.links ≡ map changeset_node (links_of blocks c) → IsPairFor t node p blocks v c
      pair-it p same draft rows files manifest links = record {
        taking = new.taking;
        draft = draft;
        rows = rows;
        is_held = held;
        no_link = link-none;
        free = ap (block_of_node blocks) (sym is) ∙ new.free;
        files_in_time = files;
        manifest_in_time = manifest;
        chosen = subst (λ (x : GitDraft). IsChosenCommit (t.state).known blocks v x c) (sym same) chosen;
        links_are = links;
      }

  module _ (p : Pair) (v : ChangesetView) (c : CommitView) (for : IsPairFor t node p blocks v c) where
    pub collision-refused : (name : FaultName) → (name ≡ fault.Collision) × IsTrue (commit_side_collides (t.state).known.git blocks (block_with blocks v c)) → IsRefusedNew t blocks r name
    collision-refused name h =
        block-refused v for.is_held p.commit c for.chosen name
        (inr ((λ k. k ((for.chosen).ruled).fits), inr ((λ e. clash e for.files_in_time), inr ((λ e. clash e for.manifest_in_time), inl (h.1, h.0)))))

    pub gets-block : (next : Taking) → IsPut t next blocks (block_with blocks v c) → GetsBlock t next blocks r
    gets-block next put = record {
      block = block_with blocks v c;
      gives = record {
        view = v;
        is_held = held-here v for.is_held;
        passes = record {
          no_clash = (for.chosen).no_clash;
          on_no_link = (for.chosen).on_no_link;
          no_collision = (for.chosen).apart;
          not_deep = (for.chosen).not_deep;
          block = (c, (for.chosen).partner, refl);
          fits = ((for.chosen).ruled).fits;
          files_in_time = for.files_in_time;
          manifest_in_time = for.manifest_in_time;
          apart = put.apart;
        };
      };
      taking = put.taking;
      revisions = put.revisions;
      objects = put.objects;
      tags = put.tags;
      names = put.names;
    }

-- ---- what faults say

abbrev pub NewDue : Taking → Id → FaultName → Type 0
NewDue t node name = (blocks : List Block) (r : Revision) → r.node ≡ node → IsNew t blocks r → IsRefusedNew t blocks r name

pub view-fault : (t : Taking) (node : Id) (f : TakeFault) → IsTakeFault (λ name. (r : Revision) → revision_of (t.state).known.hg Changesets node ≡ Some r → ViewLacks (t.state).known.hg r name) f → IsTakeFault (NewDue t node) f
view-fault t node f h =
    fault-map (λ name. (r : Revision) → revision_of (t.state).known.hg Changesets node ≡ Some r → ViewLacks (t.state).known.hg r name) (NewDue t node) (λ name lacks blocks r is new. view-refused t node blocks r is new name lacks) f h

-- a fault that is due for each block list is due
due-all : (t : Taking) (node : Id) (f : TakeFault) → ((blocks : List Block) (r : Revision) → r.node ≡ node → IsNew t blocks r → IsTakeFault (IsRefusedNew t blocks r) f) → IsTakeFault (NewDue t node) f
due-all t node (Refused why) h = h
due-all t node Memory h = tt

choice-name : (f : ChoiceFault) → IsOfChangeset (choice_refused f)
choice-name choice.PathClash = tt
choice-name choice.ParentIsLink = tt
choice-name choice.Collision = tt
choice-name choice.NestLimit = tt
choice-name choice.PairLimit = tt
choice-name choice.Memory = tt

pub choice-named : (f : ChoiceFault) (e : TakeFault) → e ≡ choice_refused f → IsOfChangeset e
choice-named f e is = subst IsOfChangeset (sym is) (choice-name f)

module _ (t : Taking) (node : Id) (v : ChangesetView) (held : IsChangesetHeld (t.state).known.hg node v) (h : HgDraft) (draft : IsHgDraft (t.state).known.hg h v) where
  pub choice-fault : (f : ChoiceFault) → ((blocks : List Block) (w : ChangesetView) → IsChangesetIn (t.state).known blocks h w → ChangesetRefuses (t.state).known blocks w f)
      → (e : TakeFault) → e ≡ choice_refused f → IsTakeFault (NewDue t node) e
  choice-fault f why e same =
      subst (IsTakeFault (NewDue t node)) (sym same) (due-all t node (choice_refused f) (λ blocks r is new.
      choice-refused t node blocks r is new v held f (why blocks v (inside-it t node blocks r is new v held h draft))))

  module _ (d : GitDraft) (all : (blocks : List Block) (w : ChangesetView) → IsChangesetIn (t.state).known blocks h w → (c : CommitView) × IsChosenCommit (t.state).known blocks w d c) where
    pub chosen-here : (blocks : List Block) (r : Revision) (is : r.node ≡ node) → IsNew t blocks r → (c : CommitView) × IsChosenCommit (t.state).known blocks v d c
    chosen-here blocks r is new = all blocks v (inside-it t node blocks r is new v held h draft)

    pub late-fault : (f : TakeFault) → IsTakeFault (λ name. (blocks : List Block) (w : ChangesetView) → IsTaking t blocks → IsChangesetHeld (t.state).known.hg node w → IsHgDraft (t.state).known.hg h w → IsLate blocks w name) f → IsTakeFault (NewDue t node) f
    late-fault f why =
        fault-map (λ name. (blocks : List Block) (w : ChangesetView) → IsTaking t blocks → IsChangesetHeld (t.state).known.hg node w → IsHgDraft (t.state).known.hg h w → IsLate blocks w name) (NewDue t node) (λ name late blocks r is new.
        let c = chosen-here blocks r is new in late-refused t node blocks r is new v held d c.0 c.1 name (late blocks v new.taking held draft)) f why

    pub pair-here : (p : Pair) → p.commit ≡ d → p.draft ≡ h → Each (IsRowKnown (t.state).known.hg) h.rows → ((blocks : List Block) (w : ChangesetView) → IsTaking t blocks → IsChangesetHeld (t.state).known.hg node w → has_late_file blocks w.rows ≡ false)
        → ((blocks : List Block) (w : ChangesetView) → IsTaking t blocks → IsHgDraft (t.state).known.hg h w → has_late_manifest blocks w.manifest ≡ false)
        → ((blocks : List Block) (w : ChangesetView) (c : CommitView) → IsChosenCommit (t.state).known blocks w d c → p.links ≡ map changeset_node (links_of blocks c))
        → (blocks : List Block) (r : Revision) → r.node ≡ node → IsNew t blocks r → (w : ChangesetView) × (c : CommitView) × IsPairFor t node p blocks w c
    pair-here p commit of rows files manifest links blocks r is new =
        let c = chosen-here blocks r is new in (
          v,
          c.0,
          pair-it t node blocks r is new v held d c.0 c.1 p commit (subst (λ (x : HgDraft). IsHgDraft (t.state).known.hg x v) (sym of) draft)
              (subst (λ (x : HgDraft). Each (IsRowKnown (t.state).known.hg) x.rows) (sym of) rows) (files blocks v new.taking held) (manifest blocks v new.taking draft) (links blocks v c.0 c.1),
        )

-- ---- the block is put

module _ (t : Taking) (node : Id) (p : Pair) (for : (blocks : List Block) (r : Revision) → r.node ≡ node → IsNew t blocks r → (v : ChangesetView) × (c : CommitView) × IsPairFor t node p blocks v c) where
  pub all-put : (o : Result Taking TakeFault) → IfOk o (λ next. (blocks : List Block) (v : ChangesetView) (c : CommitView) → IsPairFor t node p blocks v c → IsPut t next blocks (block_with blocks v c))
      → IfOk o (λ next. (blocks : List Block) (r : Revision) → r.node ≡ node → IsNew t blocks r → GetsBlock t next blocks r)
  all-put (Ok next) put = λ blocks r is new.
      let q = for blocks r is new in
      gets-block t node blocks r is new p q.0 q.1 q.2 next (put blocks q.0 q.1 q.2)
  all-put (Err e) put = put

  pub all-collide : (o : Result Taking TakeFault) → IfErr o (IsTakeFault (PutDue t node p)) → IfErr o (IsTakeFault (NewDue t node))
  all-collide (Ok next) why = why
  all-collide (Err f) why = fault-map (PutDue t node p) (NewDue t node) (λ name due blocks r is new.
      let q = for blocks r is new in
      collision-refused t node blocks r is new p q.0 q.1 q.2 name (due blocks q.0 q.1 q.2)) f why

-- ---- a changeset that stands in a block or is a link, and one that doesn't

pub is-saved : (t : Taking) (blocks : List Block) (node node' : Id) (o : Option Id) → IsTaking t blocks → node' ≡ node → o ≡ git_at (t.state).known.partners node → is_saved blocks node' ≡ is_some o
is-saved t blocks node node' o taking is found =
    ap (is_saved blocks) is ∙ sym (git-some (t.state).known blocks (taking.state).held node) ∙ ap is_some (sym found)

takes-none : (t : Taking) (blocks : List Block) (r : Revision) → IsTaking t blocks → BringBlocks (t.state).known.hg (t.state).known.git blocks (r ∷ []) [] → Takes t t blocks (r ∷ [])
takes-none t blocks r taking brings = record {
  new = [];
  brings = brings;
  taking = subst (IsTaking t) (sym (append-nil blocks)) taking;
  revisions = refl;
  objects = subst (HaveSame (t.state).known.git) (sym (append-nil (t.state).known.git)) ((λ x i. i), (λ x i. i));
  tags = refl;
  names = refl;
}

pub takes-link : (t : Taking) (blocks : List Block) (r : Revision) → IsTaking t blocks → IsKnownLink (t.state).known.hg r.node → Takes t t blocks (r ∷ [])
unfolding BringBlocks
takes-link t blocks r taking link = takes-none t blocks r taking (inl (link, refl))

pub takes-saved : (t : Taking) (blocks : List Block) (r : Revision) → IsTaking t blocks → (¬ (IsKnownLink (t.state).known.hg r.node)) → is_saved blocks r.node ≡ true → Takes t t blocks (r ∷ [])
unfolding BringBlocks
takes-saved t blocks r taking unlinked saved = takes-none t blocks r taking (inr (inl (unlinked, saved, refl)))

takes-new : (t next : Taking) (blocks : List Block) (r : Revision) → (¬ (IsKnownLink (t.state).known.hg r.node)) → is_saved blocks r.node ≡ false → GetsBlock t next blocks r → Takes t next blocks (r ∷ [])
unfolding BringBlocks
takes-new t next blocks r unlinked free got = record {
  new = got.block ∷ [];
  brings = inr (inr (unlinked, free, got.block, [], refl, got.gives, refl));
  taking = got.taking;
  revisions = got.revisions;
  objects = got.objects;
  tags = got.tags;
  names = got.names;
}

pub is-new : (t : Taking) (blocks : List Block) (before : List Revision) (r : Revision) → Comes t blocks before r → r.group ≡ Changesets → (¬ (IsKnownLink (t.state).known.hg r.node)) → is_saved blocks r.node ≡ false → IsNew t blocks r
is-new t blocks before r comes group unlinked free =
    let known = came-found before comes.later r in
    record {
      taking = comes.taking;
      free = none_is (block_of_node blocks r.node) free;
      found = known.0;
      is_held = (λ i. revision_of (comes.store i) (sym group i) r.node) ∙ known.1;
      no_link = unlinked;
    }

ok-map : {T E : Type 0} (P Q : T → Type 0) → ((t : T) → P t → Q t) → (o : Result T E) → IfOk o P → IfOk o Q
ok-map P Q f (Ok t) h = f t h
ok-map P Q f (Err e) h = h

err-map : {T E : Type 0} (P Q : E → Type 0) → ((e : E) → P e → Q e) → (o : Result T E) → IfErr o P → IfErr o Q
err-map P Q f (Ok t) h = h
err-map P Q f (Err e) h = f e h

-- one block more
blocks-more : (t next : Taking) (blocks : List Block) (b : Block) → IsTaking t blocks → IsTaking next (blocks ++ b ∷ []) → length (next.state).blocks ≡ length (t.state).blocks + 1
blocks-more t next blocks b old new =
    let a : length (t.state).blocks ≡ length blocks = sym (length-map (t.state).blocks value_of) ∙ ap length (old.state).blocks_are ∙ length-map blocks block_value in
    let z : length (next.state).blocks ≡ length (blocks ++ b ∷ []) = sym (length-map (next.state).blocks value_of) ∙ ap length (new.state).blocks_are ∙ length-map (blocks ++ b ∷ []) block_value in
    omega (arith, a, z, length-append blocks (b ∷ []))

module _ (t : Taking) (node : Id) (unlinked : (r : Revision) → r.node ≡ node → ¬ (IsKnownLink (t.state).known.hg r.node)) (free : (blocks : List Block) (r : Revision) → IsTaking t blocks → r.node ≡ node → is_saved blocks r.node ≡ false) where
  new-here : (blocks : List Block) (before : List Revision) (r : Revision) → r.node ≡ node → r.group ≡ Changesets → Comes t blocks before r → IsNew t blocks r
  new-here blocks before r is group comes = is-new t blocks before r comes group (unlinked r is) (free blocks r comes.taking is)

  abbrev GetsDue : Taking → Type 0
  GetsDue next = (blocks : List Block) (r : Revision) → r.node ≡ node → IsNew t blocks r → GetsBlock t next blocks r

  abbrev TakesDue : Taking → Type 0
  TakesDue next = (blocks : List Block) (before : List Revision) (r : Revision) → r.node ≡ node → r.group ≡ Changesets → Comes t blocks before r → Takes t next blocks (r ∷ [])

  abbrev StepsDue : ℕ → ℕ → Taking → Type 0
  StepsDue old now next = (blocks : List Block) (before : List Revision) (r : Revision) → r.node ≡ node → r.group ≡ Changesets → Comes t blocks before r
      → now + 18 * length (t.state).blocks ≤ old + 18 * length (next.state).blocks

  pub all-taken : (o : Result Taking TakeFault) → IfOk o GetsDue → IfOk o TakesDue
  all-taken o h = ok-map GetsDue TakesDue (λ next f blocks before r is group comes.
      takes-new t next blocks r (unlinked r is) (free blocks r comes.taking is) (f blocks r is (new-here blocks before r is group comes))) o h

  pub all-steps : (old now : ℕ) → now ≤ old + 18 → (o : Result Taking TakeFault) → IfOk o GetsDue → IfOk o (StepsDue old now)
  all-steps old now few o h = ok-map GetsDue (StepsDue old now) (λ next f blocks before r is group comes.
      let got = f blocks r is (new-here blocks before r is group comes) in
      omega (arith, few, blocks-more t next blocks got.block comes.taking got.taking)) o h

  pub all-refused : (o : Result Taking TakeFault) → IfErr o (IsTakeFault (NewDue t node)) → IfErr o (IsTakeFault (ComesDue t node))
  all-refused o h = err-map (IsTakeFault (NewDue t node)) (IsTakeFault (ComesDue t node)) (λ e k. fault-map (NewDue t node) (ComesDue t node) (λ name f blocks before r is group comes.
      f blocks r is (new-here blocks before r is group comes)) e k) o h
