-- The members of a stream.
use Rattle.std.proofs.Common.{◌≡◌, true, false, not, List, [], ◌∷◌, ◌++◌, map, Option, refl, sym, ap, subst, ◌∙◌, append_assoc, inr}
use Rattle.std.specs.Prelude.{is_some, bytes_eq}
use Rattle.std.specs.List.{list_any}
use Rattle.std.proofs.lemmas.List.{map-append}
use Rattle.text_model.specs.Lists.{Each}
use Rattle.text_model.specs.Id.{Id}
use Rattle.text_model.proofs.EachLemmas.{Each-front, Each-rest}
use Rattle.text_model.proofs.TestLemmas.{both, bytes_eq-sym}
use Rattle.text_model.proofs.Options.{not_true, or_parts}
use Rattle.hg_model.specs.Revision.{Revision, known_after_all}
use Rattle.git_model.specs.Object.{Object}
use Rattle.git_model.specs.Stream.{IsChecked}
use Rattle.git_model.specs.Tree.{has_distinct}
use Rattle.view_model.specs.View.{IsChangesetView, CommitView, commit_id}
use Rattle.view_model.specs.Dump.{revisions_in}
use Rattle.pair_model.specs.Block.{Block, id_of, block_of_id, changesets_in}
use Rattle.partner_model.specs.Partner.{OfGit, IsHeldView}
use Rattle.history_model.specs.Pull.{CommitsBring, CommitGives}
use Rattle.saved_model.specs.History.{Came, Commit, IsOfBlocks, AreCommitsOf, AreBlocksOf}
use Rattle.git_store.proofs.DistinctLemmas.{has_distinct-push}
use Rattle.pull_law.proofs.Known.{held-id}
use Rattle.pull_law.proofs.Searches.{none-found}
use Rattle.pull_law.proofs.Tables.{distinct-front}
use Rattle.history_law.specs.Sound.{AreOfBlocks}
use Rattle.history_law.proofs.Sames.{block-for}
use Rattle.history_law.proofs.Known.{changesets_of, block-more, to-blocks, from-blocks}

-- ---- ids

-- an id that stands behind others is none of theirs
behind-others : (ids : List Id) (id : Id) (rest : List Id) → has_distinct (ids ++ id ∷ rest) ≡ true → list_any (bytes_eq id) ids ≡ false
behind-others ids id rest h =
    let front = distinct-front (ids ++ id ∷ []) rest (ap has_distinct (append_assoc ids (id ∷ []) rest) ∙ h) in
    not_true (list_any (bytes_eq id) ids) (both (has_distinct ids) (not (list_any (bytes_eq id) ids)) (sym (has_distinct-push ids id) ∙ front)).1

-- such an id is that of none of the blocks
is-free : (blocks : List Block) (id : Id) → list_any (bytes_eq id) (map id_of blocks) ≡ false → is_some (block_of_id blocks id) ≡ false
is-free blocks id h = ap (λ (o : Option Block). is_some o) (none-found (λ b. bytes_eq (id_of b) id) blocks (each blocks h))
  where
    each : (bs : List Block) → list_any (bytes_eq id) (map id_of bs) ≡ false → Each (λ b. bytes_eq (id_of b) id ≡ false) bs
    each [] h = tt
    each (b ∷ bs) h =
        let parts = or_parts (bytes_eq id (id_of b)) (list_any (bytes_eq id) (map id_of bs)) h in
        (bytes_eq-sym (id_of b) id ∙ parts.0, each bs parts.1)

-- ---- the members

module _ (objects : List Object) (checked : IsChecked objects) where
  pub stream-members : (known : List Revision) (blocks new : List Block) (ids : List Id) → AreOfBlocks known blocks → has_distinct (map id_of blocks ++ ids) ≡ true
      → Each IsChangesetView (changesets_in new) → CommitsBring known objects blocks ids new → (ms : List Came) × AreCommitsOf objects ids ms × AreBlocksOf blocks ms new
  unfolding CommitsBring AreBlocksOf
  stream-members known blocks new [] are distinct views brings = ([], refl, brings)
  stream-members known blocks new (id ∷ ids) are distinct views h =
      let b : Block = h.0 in
      let more : List Block = h.1 in
      let gives : CommitGives known objects blocks id b = h.3 in
      let view : CommitView = gives.view in
      let node : commit_id view ≡ id = held-id objects id view checked gives.is_held in
      let is : id_of b ≡ id = ap (λ (x : Block). commit_id x.commit) (gives.passes.block).2 ∙ node in
      let all : Each IsChangesetView (changesets_of b ++ changesets_in more) = subst (λ (l : List Block). Each IsChangesetView (changesets_in l)) h.2 views in
      let next = block-more known blocks b gives.passes.apart are (Each-front IsChangesetView (changesets_of b) (changesets_in more) all) in
      let apart : has_distinct (map id_of (blocks ++ b ∷ []) ++ ids) ≡ true =
      ap (λ (l : List Id). has_distinct (l ++ ids)) (map-append id_of blocks (b ∷ []) ∙ ap (λ (i : Id). map id_of blocks ++ i ∷ []) is)
      ∙ ap has_distinct (append_assoc (map id_of blocks) (id ∷ []) ids) ∙ distinct in
      let rest = stream-members (known_after_all known (revisions_in (changesets_of b))) (blocks ++ b ∷ []) more ids next apart
      (Each-rest IsChangesetView (changesets_of b) (changesets_in more) all) h.4 in
      let free : is_some (block_of_id blocks (commit_id view)) ≡ false =
      ap (λ (i : Id). is_some (block_of_id blocks i)) node ∙ is-free blocks id (behind-others (map id_of blocks) id ids distinct) in
      let block = block-for blocks (IsHeldView known) (IsOfBlocks blocks) (to-blocks known blocks are) (from-blocks known blocks are) (OfGit view) b gives.passes.block in
      (Commit view ∷ rest.0, (view, rest.0, gives.is_held, refl, rest.1), inr (free, b, more, h.2, block, rest.2))
