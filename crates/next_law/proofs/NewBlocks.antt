-- The new blocks of a pull, one behind another, each with what is known in front of it.
use Rattle.std.proofs.Common.{◌≡◌, false, List, [], ◌∷◌, ◌++◌, refl, sym, ap, subst, ◌∙◌, append_assoc, append-nil, inl, inr}
use Rattle.std.specs.Prelude.{⊤}
use Rattle.text_model.specs.Lists.{Each}
use Rattle.text_model.specs.Id.{Id}
use Rattle.text_model.proofs.EachLemmas.{Each-push}
use Rattle.text_model.proofs.Elements.{flat_map_append, map_append}
use Rattle.hg_model.specs.Revision.{Revision, known_after_all}
use Rattle.hg_model.proofs.RevisionLemmas.{known_after_all-append}
use Rattle.git_model.specs.Object.{Object}
use Rattle.git_model.specs.Stream.{IsChecked}
use Rattle.view_model.specs.View.{commit_objects}
use Rattle.view_model.specs.Dump.{revisions_of, revisions_in, objects_in}
use Rattle.pair_model.specs.Block.{Block, changesets_in, commits_in}
use Rattle.partner_model.specs.Table.{IsTable}
use Rattle.history_model.specs.Pull.{State, IsKnownLink, BringBlocks, GivesBlock, CommitsBring, CommitGives, is_saved}
use Rattle.pull_law.specs.Sound.{HasOwnNode}
use Rattle.pull_law.proofs.Blocks.{brings-table}
use Rattle.pull_law.proofs.CommitBlocks.{GoesOn, brings-on}
use Rattle.next_law.proofs.Linked.{AreKnownLinks, bundle-known}

-- each new block has this behind the new ones in front of it
abbrev pub AreNew : (List Block → Block → Type 0) → List Block → List Block → Type 0
AreNew P front [] = ⊤
AreNew P front (b ∷ new) = P front b × AreNew P (front ++ b ∷ []) new

pub each-new : (P : List Block → Block → Type 0) (Q : Block → Type 0) → ((front : List Block) (b : Block) → P front b → Q b) → (front new : List Block) → AreNew P front new → Each Q new
each-new P Q go front [] h = tt
each-new P Q go front (b ∷ new) h = (go front b h.0, each-new P Q go (front ++ b ∷ []) new h.1)

pub each-turned : (P Q : List Block → Block → Type 0) → ((front : List Block) (b : Block) → P front b → Q front b) → (front new : List Block) → AreNew P front new → AreNew Q front new
each-turned P Q go front [] h = tt
each-turned P Q go front (b ∷ new) h = (go front b h.0, each-turned P Q go (front ++ b ∷ []) new h.1)

-- ---- the blocks of a bundle

pub record IsOfBundle (s : State) (known : List Revision) (front : List Block) (b : Block) : Type 0 where
  pub table : IsTable (s.blocks ++ front)
  pub links : Each (AreKnownLinks known) front
  pub node : Id
  pub no_link : ¬ (IsKnownLink known node)
  pub free : is_saved (s.blocks ++ front) node ≡ false
  pub gives : GivesBlock known (s.objects ++ objects_in (commits_in front)) (s.blocks ++ front) node b

pub commits-more : (front : List Block) (b : Block) → objects_in (commits_in (front ++ b ∷ [])) ≡ objects_in (commits_in front) ++ commit_objects b.commit
commits-more front b =
    ap objects_in (map_append (λ (b : Block). b.commit) front (b ∷ [])) ∙ flat_map_append commit_objects (commits_in front) (b.commit ∷ [])
    ∙ ap (λ (l : List Object). objects_in (commits_in front) ++ l) (append-nil (commit_objects b.commit))

module _ (s : State) (known : List Revision) (own : Each HasOwnNode known) where
  of-bundle : (front : List Block) (rs : List Revision) (new : List Block) → IsTable (s.blocks ++ front) → Each (AreKnownLinks known) front
      → BringBlocks known (s.objects ++ objects_in (commits_in front)) (s.blocks ++ front) rs new → AreNew (IsOfBundle s known) front new
  unfolding BringBlocks
  of-bundle front [] new table links h = subst (AreNew (IsOfBundle s known) front) (sym h) tt
  of-bundle front (r ∷ rs) new table links (inl h) = of-bundle front rs new table links h.1
  of-bundle front (r ∷ rs) new table links (inr (inl h)) = of-bundle front rs new table links h.2
  of-bundle front (r ∷ rs) new table links (inr (inr (no_link, free, b, rest, is, gives, later))) =
      let objects = s.objects ++ objects_in (commits_in front) in
      let one : BringBlocks known objects (s.blocks ++ front) (r ∷ []) (b ∷ []) = inr (inr (no_link, free, b, [], refl, gives, refl)) in
      let longer : (s.blocks ++ front) ++ b ∷ [] ≡ s.blocks ++ (front ++ b ∷ []) = append_assoc s.blocks front (b ∷ []) in
      let table' = subst IsTable longer (brings-table known own objects (s.blocks ++ front) (r ∷ []) (b ∷ []) table one) in
      let more : objects ++ commit_objects b.commit ≡ s.objects ++ objects_in (commits_in (front ++ b ∷ [])) =
      append_assoc s.objects (objects_in (commits_in front)) (commit_objects b.commit) ∙ ap (λ (l : List Object). s.objects ++ l) (sym (commits-more front b)) in
      let links' = Each-push (AreKnownLinks known) front b links (bundle-known known own objects (s.blocks ++ front) table r.node b no_link gives) in
      let later' = subst (λ (os : List Object). BringBlocks known os (s.blocks ++ (front ++ b ∷ [])) rs rest) more
      (subst (λ (bs : List Block). BringBlocks known (objects ++ commit_objects b.commit) bs rs rest) longer later) in
      subst (AreNew (IsOfBundle s known) front) (sym is)
      (record { table = table; links = links; node = r.node; no_link = no_link; free = free; gives = gives }, of-bundle (front ++ b ∷ []) rs rest table' links' later')

  pub bundle-blocks : (rs : List Revision) (new : List Block) → IsTable s.blocks → BringBlocks known s.objects s.blocks rs new → AreNew (IsOfBundle s known) [] new
  bundle-blocks rs new table h =
      of-bundle [] rs new (subst IsTable (sym (append-nil s.blocks)) table) tt
      (subst (λ (os : List Object). BringBlocks known os (s.blocks ++ []) rs new) (sym (append-nil s.objects))
      (subst (λ (bs : List Block). BringBlocks known s.objects bs rs new) (sym (append-nil s.blocks)) h))

-- ---- the blocks of a stream

-- what is known behind new blocks
abbrev pub known_behind : State → List Block → List Revision
known_behind s front = known_after_all s.revisions (revisions_in (changesets_in front))

pub record IsOfStream (s : State) (objects : List Object) (front : List Block) (b : Block) : Type 0 where
  pub id : Id
  pub ids : List Id
  pub goes_on : GoesOn (known_behind s front) (s.blocks ++ front) (id ∷ ids)
  pub gives : CommitGives (known_behind s front) objects (s.blocks ++ front) id b

pub changesets-more : (s : State) (front : List Block) (b : Block) → known_after_all (known_behind s front) (revisions_in (b.links ++ b.changeset ∷ [])) ≡ known_behind s (front ++ b ∷ [])
changesets-more s front b =
    let own = b.links ++ b.changeset ∷ [] in
    sym (known_after_all-append s.revisions (revisions_in (changesets_in front)) (revisions_in own))
    ∙ ap (known_after_all s.revisions) (sym (flat_map_append revisions_of (changesets_in front) own)
    ∙ ap revisions_in (ap (λ (l : List _). changesets_in front ++ l) (sym (append-nil own)) ∙ sym (flat_map_append (λ (b : Block). b.links ++ b.changeset ∷ []) front (b ∷ []))))

module _ (s : State) (objects : List Object) (checked : IsChecked objects) where
  of-stream : (front : List Block) (ids : List Id) (new : List Block) → GoesOn (known_behind s front) (s.blocks ++ front) ids
      → CommitsBring (known_behind s front) objects (s.blocks ++ front) ids new → AreNew (IsOfStream s objects) front new
  unfolding CommitsBring
  of-stream front [] new on h = subst (AreNew (IsOfStream s objects) front) (sym h) tt
  of-stream front (id ∷ ids) new on (b, rest, is, gives, later) =
      let known = known_behind s front in
      let one : CommitsBring known objects (s.blocks ++ front) (id ∷ []) (b ∷ []) = (b, [], refl, gives, refl) in
      let longer : (s.blocks ++ front) ++ b ∷ [] ≡ s.blocks ++ (front ++ b ∷ []) = append_assoc s.blocks front (b ∷ []) in
      let behind = brings-on objects checked known (s.blocks ++ front) (id ∷ []) ids (b ∷ []) on one in
      let more = changesets-more s front b in
      let alone : revisions_in (changesets_in (b ∷ [])) ≡ revisions_in (b.links ++ b.changeset ∷ []) = ap revisions_in (append-nil (b.links ++ b.changeset ∷ [])) in
      let on' = subst (λ (k : List Revision). GoesOn k (s.blocks ++ (front ++ b ∷ [])) ids) (ap (known_after_all known) alone ∙ more)
      (subst (λ (bs : List Block). GoesOn (known_after_all known (revisions_in (changesets_in (b ∷ [])))) bs ids) longer behind) in
      let later' = subst (λ (k : List Revision). CommitsBring k objects (s.blocks ++ (front ++ b ∷ [])) ids rest) more
      (subst (λ (bs : List Block). CommitsBring (known_after_all known (revisions_in (b.links ++ b.changeset ∷ []))) objects bs ids rest) longer later) in
      subst (AreNew (IsOfStream s objects) front) (sym is)
      (record { id = id; ids = ids; goes_on = on; gives = gives }, of-stream (front ++ b ∷ []) ids rest on' later')

  pub stream-blocks : (ids : List Id) (new : List Block) → GoesOn s.revisions s.blocks ids → CommitsBring s.revisions objects s.blocks ids new → AreNew (IsOfStream s objects) [] new
  stream-blocks ids new on h =
      of-stream [] ids new (subst (λ (bs : List Block). GoesOn s.revisions bs ids) (sym (append-nil s.blocks)) on)
      (subst (λ (bs : List Block). CommitsBring s.revisions objects bs ids new) (sym (append-nil s.blocks)) h)
