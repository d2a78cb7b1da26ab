-- Blocks of members one behind another.
use Rattle.std.proofs.Common.{◌≡◌, Bool, true, false, true≢false, List, [], ◌∷◌, ◌++◌, Some, refl, sym, ap, subst, ◌∙◌, inl, inr}
use Rattle.std.specs.Prelude.{is_some, IsTrue, bytes_eq, if◌then◌else◌}
use Rattle.std.proofs.lemmas.Slice.Eq.{bytes_eq-Decides}
use Rattle.std.proofs.lemmas.List.{append_assoc, append-nil}
use Rattle.text_model.specs.Lists.{Each}
use Rattle.text_model.specs.Id.{Id}
use Rattle.hg_model.specs.Revision.{Revision}
use Rattle.git_model.specs.Object.{Object}
use Rattle.view_model.specs.View.{ChangesetView, changeset_node, commit_objects}
use Rattle.view_model.specs.Held.{IsChangesetHeld}
use Rattle.pair_model.specs.Block.{Block, node_of, block_of_node}
use Rattle.history_model.specs.Pull.{BringBlocks, GivesBlock, is_saved}
use Rattle.text_model.specs.Fault.{Refusal}
use Rattle.state_model.specs.Kept.{Kept}
use Rattle.saved_model.specs.Step.{Pull, Refuses}
use Rattle.saved_model.specs.History.{HaveBrought, IsHistory, kept, Came, Changeset, AreChangesetsOf, AreBlocksOf, is_in}
use Rattle.history_law.specs.Sound.{AreRight}

pub blocks-both : (blocks xs ys : List Block) (ms ns : List Came) → AreBlocksOf blocks ms xs → AreBlocksOf (blocks ++ xs) ns ys → AreBlocksOf blocks (ms ++ ns) (xs ++ ys)
unfolding AreBlocksOf
blocks-both blocks xs ys [] ns h k =
    subst (λ (l : List Block). AreBlocksOf blocks ns (l ++ ys)) (sym h) (subst (λ (l : List Block). AreBlocksOf l ns ys) (ap (λ (l : List Block). blocks ++ l) h ∙ append-nil blocks) k)
blocks-both blocks xs ys (m ∷ ms) ns (inl h) k = inl (h.0, blocks-both blocks xs ys ms ns h.1 k)
blocks-both blocks xs ys (m ∷ ms) ns (inr h) k =
    let b : Block = h.1 in
    let rest : List Block = h.2 in
    let over : AreBlocksOf ((blocks ++ b ∷ []) ++ rest) ns ys = subst (λ (l : List Block). AreBlocksOf l ns ys) (ap (λ (l : List Block). blocks ++ l) h.3 ∙ sym (append_assoc blocks (b ∷ []) rest)) k in
    inr (h.0, b, rest ++ ys, ap (λ (l : List Block). l ++ ys) h.3, h.4, blocks-both (blocks ++ b ∷ []) rest ys ms ns h.5 over)

-- ---- the members of a bundle

not_in : (blocks : List Block) (known : List Revision) (h : ChangesetView) (node : Id) (t : Bool) → changeset_node h ≡ node → is_saved blocks node ≡ t → is_in blocks (Changeset known h) ≡ t
not_in blocks known h node t n e = ap (λ (i : Id). is_some (block_of_node blocks i)) n ∙ e

-- the changeset of a saved node is known
saved-held : (known : List Revision) (blocks : List Block) (node : Id) → Each (λ b. IsChangesetHeld known (node_of b) b.changeset) blocks → IsTrue (is_saved blocks node) → (h : ChangesetView) × IsChangesetHeld known node h
saved-held known [] node each h = absurd (true≢false (sym h))
saved-held known (b ∷ blocks) node each h = by (bytes_eq (node_of b) node) refl h (λ k. saved-held known blocks node each.1 k)
  where
    by : (t : Bool) → bytes_eq (node_of b) node ≡ t → is_some (if t then Some b else block_of_node blocks node) ≡ true → (is_some (block_of_node blocks node) ≡ true → (h : ChangesetView) × IsChangesetHeld known node h)
        → (h : ChangesetView) × IsChangesetHeld known node h
    by true e k rec = (b.changeset, subst (λ (n : Id). IsChangesetHeld known n b.changeset) ((bytes_eq-Decides (node_of b) node).0 e) each.0)
    by false e k rec = rec k

one-more : (known : List Revision) (blocks : List Block) (b : Block) → Each (λ b. IsChangesetHeld known (node_of b) b.changeset) blocks → IsChangesetHeld known (node_of b) b.changeset → Each (λ b. IsChangesetHeld known (node_of b) b.changeset) (blocks ++ b ∷ [])
one-more known [] b each h = (h, tt)
one-more known (x ∷ blocks) b each h = (each.0, one-more known blocks b each.1 h)

pub bundle-members : (known : List Revision) (objects : List Object) (blocks new : List Block) (rs : List Revision) → AreRight known blocks → BringBlocks known objects blocks rs new
    → (ms : List Came) × AreChangesetsOf known rs ms × AreBlocksOf blocks ms new
unfolding BringBlocks AreBlocksOf
bundle-members known objects blocks new [] right brings = ([], refl, brings)
bundle-members known objects blocks new (r ∷ rs) right (inl h) =
    let rest = bundle-members known objects blocks new rs right h.1 in
    (rest.0, inl (h.0, rest.1), rest.2)
bundle-members known objects blocks new (r ∷ rs) right (inr (inl h)) =
    let rest = bundle-members known objects blocks new rs right h.2 in
    let view = saved-held known blocks r.node right.saved h.1 in
    let there = not_in blocks known view.0 r.node true (right.nodes r.node view.0 view.1) h.1 in
    (Changeset known view.0 ∷ rest.0, inr (h.0, view.0, rest.0, view.1, refl, rest.1), inl (there, rest.2))
bundle-members known objects blocks new (r ∷ rs) right (inr (inr h)) =
    let b : Block = h.2 in
    let more : List Block = h.3 in
    let gives : GivesBlock known objects blocks r.node b = h.5 in
    let view : ChangesetView = gives.view in
    let node : changeset_node view ≡ r.node = right.nodes r.node view gives.is_held in
    let its : b.changeset ≡ view = ap (λ (x : Block). x.changeset) (gives.passes.block).2 in
    let held : IsChangesetHeld known (node_of b) b.changeset =
    subst (λ (v : ChangesetView). IsChangesetHeld known (changeset_node v) v) (sym its) (subst (λ (n : Id). IsChangesetHeld known n view) (sym node) gives.is_held) in
    let rest = bundle-members known (objects ++ commit_objects b.commit) (blocks ++ b ∷ []) more rs (record { nodes = right.nodes; saved = one-more known blocks b right.saved held }) h.6 in
    let free = not_in blocks known view r.node false node h.1 in
    (Changeset known view ∷ rest.0, inr (h.0, view, rest.0, gives.is_held, refl, rest.1), inr (free, b, more, h.4, gives.passes.block, rest.2))

-- ---- a refused pull

pub refused : (pulls : List Pull) (k : Kept) (pull : Pull) (why : Refusal) → IsHistory pulls k → Refuses k pull why → IsHistory (pull ∷ pulls) k
unfolding HaveBrought
refused pulls k pull why h r = record {
  brought = h.brought;
  accepted = (h.brought, h.accepted, k.blocks, h.converted, inr (why, subst (λ (tags : List Object). Refuses (kept k.blocks tags) pull why) h.tags_are r, refl));
  converted = h.converted;
  tags_are = h.tags_are;
}
