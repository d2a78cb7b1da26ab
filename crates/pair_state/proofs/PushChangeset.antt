-- A commit's changesets come to the store.
use Rattle.std.proofs.Common.{◌≡◌, ◌≤◌, ◌||◌, Bool, true, false, true≢false, arith, List, [], ◌∷◌, ◌++◌, length, map, Option, Some, None, refl, sym, ap, subst, ◌∙◌, inl, inr}
use Rattle.std.specs.Prelude.{bytes_eq, is_some, if◌then◌else◌, IfSome, IsTrue}
use Rattle.std.specs.List.{flat_map, list_any}
use Rattle.std.proofs.lemmas.List.{length-map}
use Rattle.std.proofs.lemmas.Slice.Eq.{bytes_eq-Decides}
use Rattle.text_model.specs.Lists.{Each}
use Rattle.text_model.specs.Text.{Bytes}
use Rattle.text_model.specs.Id.{Id, is_null, has_id}
use Rattle.hg_model.specs.Changeset.{changeset_text}
use Rattle.hg_changeset.specs.Values.{changeset_value}
use Rattle.text_model.proofs.EachLemmas.{Each-front, Each-rest}
use Rattle.text_model.proofs.TestLemmas.{or_true}
use Rattle.text_model.proofs.Elements.{in_any}
use Rattle.text_model.proofs.Options.{or_parts, none_is}
use Rattle.hg_model.specs.Revision.{Revision, Changesets, knows, is_otherwise}
use Rattle.git_model.specs.Object.{Object}
use Rattle.git_model.specs.Unfold.{walk_fault}
use Rattle.hg_store.specs.Known.{AreAdded}
use Rattle.view_model.specs.View.{ChangesetView, changeset_node, commit_id, rows_text}
use Rattle.view_model.specs.Held.{IsCommitHeld, IsChangesetHeld, AreChangesetsHeld}
use Rattle.view_model.specs.Dump.{revisions_of, revisions_in}
use Rattle.pair_model.specs.Block.{Block, node_of, block_of_node, changesets_in}
use Rattle.partner_model.specs.Clash.{changeset_side_collides, is_any_saved}
use Rattle.pair_known.specs.Partners.{git_at}
use Rattle.pair_known.specs.Ruled.{IsLooseView}
use Rattle.pair_known.specs.declared.draft_texts.DraftTexts.{DraftTexts}
use Rattle.pair_known.specs.declared.hg_draft.HgDraft.{HgDraft}
use Rattle.pair_known.specs.Drafts.{IsHgDraft}
use Rattle.pair_known.specs.declared.hg_block.HgBlock.{HgBlock}
use Rattle.pair_state.specs.Blocks.{IsAgreed}
use Rattle.pair_state.specs.Came.{IsWithinHg, ArePartsOf, PartsCame, PartsCollide, is_any_among}
use Rattle.pair_state.proofs.PartLemmas.{no-text}
use Rattle.pair_state.specs.Push.{IsPart, AreLinkParts, BringsParts, ChangesetPushed}
use Rattle.pair_state.specs.Step.{AreItsTexts, IsPushed, line_of}
use Rattle.pair_state.specs.declared.state_parts.StateParts.{StateParts}
use Rattle.pair_state.proofs.BlockLemmas.{HoldMore, HasMore, has-more, has-view, parts_of, state-more, git-some}
use Rattle.pair_state.proofs.CameLemmas.{lines-are, within-all}
use Rattle.pair_state.proofs.ChangesetHeld.{CameAs, all-as, changesets-on, new-changeset}
use Rattle.pair_state.proofs.SlotLemmas.{none-bad}
use Rattle.hg_view.proofs.Grown.{view-more}

-- a block of a node has its changeset among those of the blocks
pub block-saved : (blocks : List Block) (node : Id) → is_some (block_of_node blocks node) ≡ true → has_id (map changeset_node (changesets_in blocks)) node ≡ true
block-saved [] node h = absurd (true≢false (sym h))
block-saved (b ∷ blocks) node h = by (bytes_eq (node_of b) node) refl h (block-saved blocks node)
  where
    some-left : (xs ys : List ChangesetView) → has_id (map changeset_node xs) node ≡ true → has_id (map changeset_node (xs ++ ys)) node ≡ true
    some-left [] ys e = absurd (true≢false (sym e))
    some-left (x ∷ xs) ys e = either (bytes_eq node (changeset_node x)) e (some-left xs ys)
      where
        either : (t : Bool) → (t || has_id (map changeset_node xs) node) ≡ true → (has_id (map changeset_node xs) node ≡ true → has_id (map changeset_node (xs ++ ys)) node ≡ true)
            → (t || has_id (map changeset_node (xs ++ ys)) node) ≡ true
        either true e later = refl
        either false e later = later e

    some-right : (xs ys : List ChangesetView) → has_id (map changeset_node ys) node ≡ true → has_id (map changeset_node (xs ++ ys)) node ≡ true
    some-right [] ys e = e
    some-right (x ∷ xs) ys e = ap (λ (t : Bool). bytes_eq node (changeset_node x) || t) (some-right xs ys e) ∙ or_true (bytes_eq node (changeset_node x))

    by : (t : Bool) → bytes_eq (node_of b) node ≡ t → is_some (if t then Some b else block_of_node blocks node) ≡ true
        → (is_some (block_of_node blocks node) ≡ true → has_id (map changeset_node (changesets_in blocks)) node ≡ true) → has_id (map changeset_node (changesets_in (b ∷ blocks))) node ≡ true
    by true e is later =
        some-left (parts_of b) (changesets_in blocks) (some-right b.links (b.changeset ∷ [])
        (ap (λ (t : Bool). t || false) ((bytes_eq-Decides node (node_of b)).1 (sym ((bytes_eq-Decides (node_of b) node).0 e)))))
    by false e is later = some-right (parts_of b) (changesets_in blocks) (later is)

-- the changesets among these are known
saved-known : (known : List Revision) (vs : List ChangesetView) (node : Id) → AreChangesetsHeld known (map changeset_node vs) vs → has_id (map changeset_node vs) node ≡ true → knows known Changesets node ≡ true
saved-known known [] node held h = absurd (true≢false (sym h))
saved-known known (v ∷ vs) node held h = by (bytes_eq node (changeset_node v)) refl h (saved-known known vs node held.1)
  where
    by : (t : Bool) → bytes_eq node (changeset_node v) ≡ t → (t || has_id (map changeset_node vs) node) ≡ true → (has_id (map changeset_node vs) node ≡ true → knows known Changesets node ≡ true) → knows known Changesets node ≡ true
    by true e i later = ap (knows known Changesets) ((bytes_eq-Decides node (changeset_node v)).0 e) ∙ ap is_some held.0.is_held
    by false e i later = later i

any-same : (saved : List Id) (blocks : List Block) → saved ≡ map changeset_node (changesets_in blocks) → (hs : List ChangesetView) → is_any_among saved hs ≡ is_any_saved blocks hs
any-same saved blocks are [] = refl
any-same saved blocks are (h ∷ hs) =
    (λ i. (ap (λ (ns : List Id). has_id ns (changeset_node h)) are ∙ has-view (changesets_in blocks) (changeset_node h)) i || any-same saved blocks are hs i)

-- changesets whose revisions came are stored
parts-held : (new : List Revision) (hs : List ChangesetView) → Each IsLooseView hs → Each (CameAs new) (revisions_in hs) → AreChangesetsHeld new (map changeset_node hs) hs
parts-held new [] views came = tt
parts-held new (h ∷ hs) views came =
    (new-changeset new h views.0 (Each-front (CameAs new) (revisions_of h) (revisions_in hs) came), parts-held new hs views.1 (Each-rest (CameAs new) (revisions_of h) (revisions_in hs) came))

last-held : (new : List Revision) (ls : List ChangesetView) (h : ChangesetView) → AreChangesetsHeld new (map changeset_node (ls ++ h ∷ [])) (ls ++ h ∷ []) → IsChangesetHeld new (changeset_node h) h
last-held new [] h held = held.0
last-held new (l ∷ ls) h held = last-held new ls h held.1

link-views : (known : List Revision) (ds : List HgDraft) (ls : List ChangesetView) (h : ChangesetView) → AreLinkParts known ds ls → IsLooseView h → Each IsLooseView (ls ++ h ∷ [])
link-views known [] [] h a v = (v, tt)
link-views known [] (l ∷ ls) h a v = absurd a
link-views known (d ∷ ds) [] h a v = absurd a
link-views known (d ∷ ds) (l ∷ ls) h a v = (a.0.made.view, link-views known ds ls h a.2 v)

-- ---- texts that were made already

-- the draft with other texts
abbrev pub bare-draft : HgDraft → DraftTexts → HgDraft
bare-draft d texts = record { p1 = d.p1; p2 = d.p2; changeset = d.changeset; manifest = d.manifest; rows = d.rows; fresh = d.fresh; texts = texts }

bare-part : (known : List Revision) (d : HgDraft) (h : ChangesetView) → IsPart known d h → (texts : DraftTexts) → texts.changeset ≡ None → texts.manifest ≡ None → IsPart known (bare-draft d texts) h
bare-part known d h p texts none none' =
    let draft = p.made.draft in
    record {
      made = record {
        draft = record {
          parents = draft.parents;
          fields = draft.fields;
          manifest = draft.manifest;
          rows = draft.rows;
          files = draft.files;
          texts = record { changeset = no-text texts.changeset _ none; manifest = no-text texts.manifest _ none' };
        };
        of_rows = p.made.of_rows;
        are_new = p.made.are_new;
        view = p.made.view;
      };
      file_parents = p.file_parents;
      manifest_parents = p.manifest_parents;
      fits = p.fits;
    }

same-text : (o : Option Bytes) (a b : Bytes) → a ≡ b → IfSome o (λ text. text ≡ a) → IfSome o (λ text. text ≡ b)
same-text None a b e h = tt
same-text (Some text) a b e h = h ∙ e

made-texts : (known : List Revision) (d : HgDraft) (h : ChangesetView) → IsHgDraft known d h → AreItsTexts d d.texts
made-texts known d h draft = record {
  changeset = same-text (d.texts).changeset (changeset_text h.fields) (changeset_text (changeset_value d.changeset)) (ap changeset_text draft.fields) draft.texts.changeset;
  manifest = same-text (d.texts).manifest (rows_text h.rows) (flat_map line_of d.rows) (sym (ap (flat_map line_of) draft.rows ∙ lines-are h.rows)) draft.texts.manifest;
}

module _ (s : StateParts) (d : HgBlock) (blocks : List Block) (b : Block) (p : BringsParts s d blocks b) where
  abbrev hs : List ChangesetView
  hs = parts_of b

  -- the block without the texts that were made for its changeset
  abbrev pub bare : DraftTexts → HgBlock
  bare texts = record { links = d.links; last = bare-draft d.last texts }

  -- a changeset of a block is known
  known-parents : (q : Id) → IsTrue (is_some (block_of_node blocks q)) → (has_id s.changesets q ≡ true) × (knows s.known.hg Changesets q ≡ true)
  known-parents q some =
      let there = block-saved blocks q some in
      (ap (λ (ns : List Id). has_id ns q) p.state.changesets ∙ there, saved-known s.known.hg (changesets_in blocks) q (p.state.held.held).changesets there)

  pub parts : (texts none : DraftTexts) → texts ≡ none → none.changeset ≡ None → none.manifest ≡ None → ArePartsOf s.known.hg s.changesets (bare texts) blocks b.links b.changeset
  parts texts none is no_changeset no_manifest = record {
    links = p.links;
    last = bare-part s.known.hg d.last b.changeset p.last texts (ap (λ (t : DraftTexts). t.changeset) is ∙ no_changeset) (ap (λ (t : DraftTexts). t.manifest) is ∙ no_manifest);
    linked = p.parents;
    stands = known-parents;
  }

  pub whole-parts : ArePartsOf s.known.hg s.changesets d blocks b.links b.changeset
  whole-parts = record {
    links = p.links;
    last = p.last;
    linked = p.parents;
    stands = known-parents;
  }

  pub its-texts : (texts : DraftTexts) → AreItsTexts (bare texts).last (d.last).texts
  its-texts texts =
      let made = made-texts s.known.hg d.last b.changeset p.last.made.draft in
      record { changeset = made.changeset; manifest = made.manifest }

  -- ---- collisions

  pub collides : PartsCollide s.known.hg s.changesets hs → IsTrue (changeset_side_collides s.known.hg blocks b)
  collides (inl bad) =
      ap (λ (t : Bool). t || is_any_saved blocks hs)
      (in_any (λ r. is_null r.node || list_any (is_otherwise r) (s.known.hg ++ revisions_in hs)) (revisions_in hs) bad.revision bad.is_new bad.bad)
  collides (inr some) =
      ap (λ (t : Bool). list_any (λ r. is_null r.node || list_any (is_otherwise r) (s.known.hg ++ revisions_in hs)) (revisions_in hs) || t) (sym (any-same s.changesets blocks p.state.changesets hs) ∙ some)
      ∙ or_true _

  pub few-nodes : (links : List Id) → links ≡ map changeset_node b.links → length links ≤ 62
  few-nodes links e = omega (arith, p.few, ap (λ (l : List Id). length l) e, length-map b.links changeset_node)

  -- ---- all came

  -- the state with these revisions
  abbrev pub with_revisions : List Revision → StateParts
  with_revisions hg = record {
    known = record { hg = hg; git = s.known.git; partners = s.known.partners };
    blocks = s.blocks;
    changesets = s.changesets;
    commits = s.commits;
    tags = s.tags;
    names = s.names;
    agreed = s.agreed;
    alloc = s.alloc;
  }

  module _ (new : List Revision) (came : PartsCame s.known.hg new s.changesets hs) where
    within : IsWithinHg s.known.hg new
    within = subst (IsWithinHg s.known.hg) (sym came.came.are) (within-all s.known.hg (revisions_in hs))

    all-came : Each (CameAs new) (revisions_in hs)
    all-came = subst (λ (l : List Revision). Each (CameAs l) (revisions_in hs)) (sym came.came.are) (all-as s.known.hg (revisions_in hs) came.came.clean)

    -- no block has the changeset
    pub node-free : (node : Id) → node ≡ changeset_node b.changeset → git_at s.known.partners node ≡ None
    node-free node e = none_is (git_at s.known.partners node) (git-some s.known blocks p.state.held node ∙ by (is_some (block_of_node blocks node)) refl)
      where
        last : (ls : List ChangesetView) → is_any_among s.changesets (ls ++ b.changeset ∷ []) ≡ false → has_id s.changesets (changeset_node b.changeset) ≡ false
        last [] a = (or_parts (has_id s.changesets (changeset_node b.changeset)) false a).0
        last (l ∷ ls) a = last ls (or_parts (has_id s.changesets (changeset_node l)) (is_any_among s.changesets (ls ++ b.changeset ∷ [])) a).1

        by : (t : Bool) → is_some (block_of_node blocks node) ≡ t → is_some (block_of_node blocks node) ≡ false
        by false f = f
        by true f = absurd (true≢false (sym (ap (λ (ns : List Id). has_id ns node) p.state.changesets ∙ block-saved blocks node f) ∙ ap (has_id s.changesets) e ∙ last b.links came.apart))

    -- the changesets are stored
    pub held-parts : AreChangesetsHeld new (map changeset_node hs) hs
    held-parts = parts-held new hs (link-views s.known.hg d.links b.links b.changeset p.links p.last.made.view) all-came

    pub held-last : IsChangesetHeld new (changeset_node b.changeset) b.changeset
    held-last = last-held new b.links b.changeset held-parts

    pub held-old : AreChangesetsHeld new (map changeset_node (changesets_in blocks)) (changesets_in blocks)
    held-old = changesets-on s.known.hg new within (map changeset_node (changesets_in blocks)) (changesets_in blocks) (p.state.held.held).changesets

    pub none-collides : changeset_side_collides s.known.hg blocks b ≡ false
    none-collides = (λ i. none-bad s.known.hg (revisions_in hs) came.came.clean i || (sym (any-same s.changesets blocks p.state.changesets hs) ∙ came.apart) i)

    pub agreed-on : (x : Id) → IsTrue (has_id s.agreed x) → IsAgreed new s.known.git x
    agreed-on x some = let a = p.state.agreed x some in record { view = a.view; held = view-more s.known.hg new within x a.view a.held; blobs = a.blobs }

    -- the block of a commit that is stored
    pub pushed : (id : Id) → IsCommitHeld s.known.git id b.commit → walk_fault s.known.git ((b.commit).value).tree_id ≡ None → commit_id b.commit ≡ id
        → (links : List Id) → links ≡ map changeset_node b.links → (node : Id) → node ≡ changeset_node b.changeset
        → AreAdded new → (next : StateParts) → IsPushed (with_revisions new) next links node id → ChangesetPushed s next blocks b
    pushed id commit_held walk id_is links links_are node node_is added next is =
        let held = p.state.held.held in
        let more : HoldMore new s.known.git blocks b = record {
          changesets = held-old;
          parts = held-parts;
          commits = held.commits;
          commit = subst (λ (i : Id). IsCommitHeld s.known.git i b.commit) (sym id_is) commit_held;
          walks = held.walks;
          walk = walk;
          no_link = p.no_link;
          sound = p.state.sound;
        } in
        let m = has-more (with_revisions new) next b links node id is added links_are node_is (sym id_is) (λ x i.
        subst (λ (os : List Object). IsAgreed next.known.hg os x) (sym is.git) (subst (λ (rs : List Revision). IsAgreed rs s.known.git x) (sym is.hg)
        (agreed-on x (sym (ap (λ (l : List Id). has_id l x) is.agreed) ∙ i)))) in
        let has : HasMore s next b = record { partners = m.partners; blocks = m.blocks; changesets = m.changesets; commits = m.commits; added = m.added; one = m.one; agreed = m.agreed } in
        record {
          apart = none-collides;
          state = state-more s next blocks b p.state (subst (λ (rs : List Revision). HoldMore rs next.known.git blocks b) (sym is.hg) (subst (λ (os : List Object). HoldMore new os blocks b) (sym is.git) more)) has;
          tags = is.tags;
          names = is.names;
          revisions = is.hg ∙ came.came.are;
          objects = is.git;
        }
