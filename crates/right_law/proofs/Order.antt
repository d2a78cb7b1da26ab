-- Two histories of the same changesets have the same blocks.
use Rattle.std.proofs.Common.{◌≡◌, true, false, List, [], ◌∷◌, ◌++◌, refl, sym, ap, subst, ◌∙◌, inl, inr, ◌⊎◌, append_assoc}
use Rattle.std.specs.Prelude.{IsTrue}
use Rattle.std.proofs.lemmas.Bool.{true≢false}
use Rattle.text_model.specs.Lists.{Each, In}
use Rattle.text_model.proofs.Elements.{each_from, each_in, in_left, in_right}
use Rattle.hg_model.specs.Revision.{Revision}
use Rattle.git_model.specs.Object.{Object}
use Rattle.view_model.specs.View.{ChangesetView, IsChangesetView, IsCommitView}
use Rattle.pair_model.specs.Block.{Block, changesets_in}
use Rattle.pair_model.specs.Octopus.{is_link_view}
use Rattle.partner_model.specs.Partner.{OfHg, IsHeldView, IsKnownAs}
use Rattle.partner_model.specs.Given.{IsBlockFor}
use Rattle.state_model.specs.Saved.{AreBlocks}
use Rattle.unmark_law.proofs.Same.{same_changeset}
use Rattle.partner_law.proofs.Choices.{block_for_one}
use Rattle.verify_model.specs.Holds.{HasPartner, IsRight, Holds}
use Rattle.frame_law.specs.Ground.{IsGround, AreAmong}
use Rattle.frame_law.proofs.Frame.{AreTwo, ground_table, block_in}
use Rattle.frame_law.proofs.Kept.{block_for_down}
use Rattle.frame_law.proofs.Fronts.{ground_front, front_among, holds_at}
use Rattle.right_law.specs.Views.{AreViews}
use Rattle.right_law.proofs.Exact.{own_partner}

-- ---- a block of a history with those before it

pub record Stands (known : List Revision) (objects : List Object) (blocks : List Block) (b : Block) : Type 0 where
  pub before : List Block
  pub after : List Block
  pub split : blocks ≡ before ++ b ∷ after
  pub gets : HasPartner known objects before b.changeset b

record SplitsAt (blocks : List Block) (b : Block) : Type 0 where
  pub before : List Block
  pub after : List Block
  pub split : blocks ≡ before ++ b ∷ after

splits_at : (blocks : List Block) (b : Block) → In b blocks → SplitsAt blocks b
splits_at [] b i = absurd i
splits_at (d ∷ blocks) b (inl e) = record { before = []; after = blocks; split = ap (λ (x : Block). x ∷ blocks) (sym e) }
splits_at (d ∷ blocks) b (inr i) =
    let r = splits_at blocks b i in
    record { before = d ∷ r.before; after = r.after; split = ap (λ (bs : List Block). d ∷ bs) r.split }

pub behind : (zs : List Block) (d : Block) (more : List Block) → zs ++ d ∷ more ≡ (zs ++ d ∷ []) ++ more
behind zs d more = sym (append_assoc zs (d ∷ []) more)

pub split_in : (blocks before after : List Block) (b : Block) → blocks ≡ before ++ b ∷ after → In b blocks
split_in blocks before after b e = subst (λ (x : List Block). In b x) (sym e) (in_right b before (b ∷ after) (inl refl))

module _ (known : List Revision) (objects : List Object) (blocks : List Block) (g : IsGround blocks (IsHeldView known)) (v : AreViews blocks) where
  pub front_ground : (before after : List Block) → blocks ≡ before ++ after → IsGround before (IsHeldView known)
  front_ground before after e = ground_front before after (IsHeldView known) (subst (λ (x : List Block). IsGround x (IsHeldView known)) e g)

  -- a right block is that of its changeset
  pub own_at : (before after : List Block) (b : Block) → blocks ≡ before ++ b ∷ after → IsRight known objects before b → HasPartner known objects before b.changeset b
  own_at before after b e r =
      let among = split_in blocks before after b e in
      own_partner known objects before b (front_ground before (b ∷ after) e) (each_in IsChangesetView (changesets_in blocks) b.changeset v.changesets (block_in blocks b among)) (each_in (λ (d : Block). IsCommitView d.commit) blocks b v.commits among) r

  pub stands : Holds known objects [] blocks → (b : Block) → In b blocks → Stands known objects blocks b
  stands h b i =
      let s = splits_at blocks b i in
      let right = holds_at known objects [] s.before b s.after (subst (Holds known objects []) s.split h) in
      record { before = s.before; after = s.after; split = s.split; gets = own_at s.before s.after b s.split right }

-- ---- the block of a changeset over the whole history

pub link_in : (blocks : List Block) (b : Block) → In b blocks → (l : ChangesetView) → In l b.links → In l (changesets_in blocks)
link_in [] b i l j = absurd i
link_in (d ∷ ds) b (inl e) l j =
    in_left l (d.links ++ d.changeset ∷ []) (changesets_in ds) (in_left l d.links (d.changeset ∷ []) (subst (λ (x : Block). In l x.links) e j))
link_in (d ∷ ds) b (inr i) l j = in_right l (d.links ++ d.changeset ∷ []) (changesets_in ds) (link_in ds b i l j)

known_as : (Known : ChangesetView → Type 0) (v : ChangesetView) → Known v → IsKnownAs Known v
known_as Known v k = (v, k, same_changeset v)

pub links_known : (blocks : List Block) (Known : ChangesetView → Type 0) → IsGround blocks Known → (b : Block) → In b blocks → Each (IsKnownAs Known) b.links
links_known blocks Known g b i = each_from (IsKnownAs Known) b.links (λ l j. known_as Known l (each_in Known (changesets_in blocks) l g.known (link_in blocks b i l j)))

whole_block : (known : List Revision) (objects : List Object) (blocks : List Block) → IsGround blocks (IsHeldView known) → AreViews blocks → Holds known objects [] blocks → (b : Block) → In b blocks
    → IsBlockFor blocks (IsHeldView known) (OfHg b.changeset) b
whole_block known objects blocks g v h b i =
    let s = stands known objects blocks g v h b i in
    let first = front_ground known objects blocks g v s.before (b ∷ s.after) s.split in
    let among = subst (AreAmong s.before) (sym s.split) (front_among s.before (b ∷ s.after)) in
    let two : AreTwo s.before (IsHeldView known) blocks (IsHeldView known) = record { first = first; second = g; among = among } in
    block_for_down s.before (IsHeldView known) blocks (IsHeldView known) two (OfHg b.changeset) b (links_known blocks (IsHeldView known) g b i) (s.gets).block

-- ---- changesets that are no links are those of blocks

record HasBlock (blocks : List Block) (h : ChangesetView) : Type 0 where
  pub block : Block
  pub among : In block blocks
  pub is : block.changeset ≡ h

own_or_rest : (links : List ChangesetView) (c : ChangesetView) (rest : List ChangesetView) (h : ChangesetView) → Each (λ l. IsTrue (is_link_view l)) links → is_link_view h ≡ false → In h ((links ++ c ∷ []) ++ rest) → (c ≡ h) ⊎ In h rest
own_or_rest [] c rest h links plain (inl e) = inl (sym e)
own_or_rest [] c rest h links plain (inr i) = inr i
own_or_rest (l ∷ ls) c rest h links plain (inl e) = absurd (true≢false (sym (subst (λ x. is_link_view x ≡ true) (sym e) links.0) ∙ plain))
own_or_rest (l ∷ ls) c rest h links plain (inr i) = own_or_rest ls c rest h links.1 plain i

has_block : (blocks : List Block) (h : ChangesetView) → AreBlocks blocks → is_link_view h ≡ false → In h (changesets_in blocks) → HasBlock blocks h
has_block [] h a plain i = absurd i
has_block (b ∷ bs) h a plain i = by (own_or_rest b.links b.changeset (changesets_in bs) h a.0.0 plain i) (has_block bs h a.1 plain)
  where
    by : (b.changeset ≡ h) ⊎ In h (changesets_in bs) → (In h (changesets_in bs) → HasBlock bs h) → HasBlock (b ∷ bs) h
    by (inl e) go = record { block = b; among = inl refl; is = e }
    by (inr j) go =
        let r = go j in
        record { block = r.block; among = inr r.among; is = r.is }

-- ---- the law

also : (ys : List Block) (zs : List Block) (d : Block) → AreAmong zs ys → In d ys → AreAmong (zs ++ d ∷ []) ys
also ys [] d p q = (q, tt)
also ys (z ∷ zs) d p q = (p.0, also ys zs d p.1 q)

module _ (K L : List Revision) (all some : List Object) (xs ys : List Block) (gx : IsGround xs (IsHeldView K)) (gy : IsGround ys (IsHeldView L)) (vx : AreViews xs) (vy : AreViews ys)
    (ay : AreBlocks ys) (hy : Holds L some [] ys) (held : Each (λ v. In v (changesets_in ys)) (changesets_in xs)) where
  -- a block of the first over the blocks of the second
  block_there : (before after : List Block) (b : Block) → xs ≡ before ++ b ∷ after → AreAmong before ys → HasPartner K all before b.changeset b → In b ys
  block_there before after b e a p =
      let among = split_in xs before after b e in
      let plain : is_link_view b.changeset ≡ false = each_in (λ (d : Block). is_link_view d.changeset ≡ false) xs b gx.no_links among in
      let there : (v : ChangesetView) → In v (changesets_in xs) → In v (changesets_in ys) = λ v i. each_in (λ v. In v (changesets_in ys)) (changesets_in xs) v held i in
      let other = has_block ys b.changeset ay plain (there b.changeset (block_in xs b among)) in
      let two : AreTwo before (IsHeldView K) ys (IsHeldView L) = record { first = front_ground K all xs gx vx before (b ∷ after) e; second = gy; among = a } in
      let known = each_from (IsKnownAs (IsHeldView L)) b.links (λ l j. known_as (IsHeldView L) l (each_in (IsHeldView L) (changesets_in ys) l gy.known (there l (link_in xs b among l j)))) in
      let here = block_for_down before (IsHeldView K) ys (IsHeldView L) two (OfHg b.changeset) b known p.block in
      let its = subst (λ x. IsBlockFor ys (IsHeldView L) (OfHg x) other.block) other.is (whole_block L some ys gy vy hy other.block other.among) in
      let same = block_for_one ys (IsHeldView L) (ground_table ys (IsHeldView L) gy) gy.apart (OfHg b.changeset) b other.block here its in
      subst (λ (x : Block). In x ys) (sym same) other.among

  same_by : (before rest : List Block) → xs ≡ before ++ rest → AreAmong before ys → Holds K all before rest → AreAmong rest ys
  unfolding Holds
  same_by before [] e a h = tt
  same_by before (b ∷ rest) e a h =
      let now = block_there before rest b e a (own_at K all xs gx vx before rest b e h.0) in
      (now, same_by (before ++ b ∷ []) rest (e ∙ behind before b rest) (also ys before b a now) h.1)

  pub same_blocks : Holds K all [] xs → AreAmong xs ys
  same_blocks hx = same_by [] xs refl tt hx
