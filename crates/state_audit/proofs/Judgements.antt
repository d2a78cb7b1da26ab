-- What is found of a block, in the words of the definitions.
use Rattle.std.proofs.Common.{◌≡◌, Bool, true, false, true≢false, List, [], ◌∷◌, map, refl, sym, ap, subst, ◌∙◌, inl, inr}
use Rattle.std.specs.Prelude.{◌||◌}
use Rattle.text_model.specs.Id.{Id, null}
use Rattle.text_model.proofs.Options.{or_parts}
use Rattle.hg_model.specs.Revision.{Revision}
use Rattle.hg_store.specs.Known.{AreAdded}
use Rattle.view_model.specs.View.{ChangesetView, CommitView, SameCommit, HasBodiesOf, changeset_node, commit_id}
use Rattle.view_model.specs.Held.{IsChangesetHeld, AreChangesetsHeld}
use Rattle.pair_model.specs.Block.{Block}
use Rattle.pair_model.specs.Octopus.{links_of}
use Rattle.partner_model.specs.Partner.{IsHeldView}
use Rattle.partner_model.specs.Given.{block_with, has_late_file, has_late_manifest}
use Rattle.verify_model.specs.Holds.{HasPartner, IsRight}
use Rattle.frame_law.proofs.Frame.{links_same}
use Rattle.pair_known.specs.Blocks.{IsHistoryHeld}
use Rattle.pair_known.specs.declared.known.Known.{Known}
use Rattle.pair_known.specs.declared.git_draft.GitDraft.{GitDraft}
use Rattle.pair_known.proofs.HeldViews.{one_view}
use Rattle.pull_bundle.proofs.LinkLemmas.{partner-links}
use Rattle.state_audit.specs.declared.judge.Judgement.TheVariants.{Right, Wrong}
use Rattle.state_audit.specs.Before.{IsBefore, GetsBlock, HasNone, IsPartnerHere}
use Rattle.state_audit.specs.Audited.{IsJudged}
use Rattle.state_audit.proofs.Partners.{gets-block, gets-one}

-- ---- lists of changesets that are held

views-one : (hg : List Revision) → AreAdded hg → (xs ys : List ChangesetView) → AreChangesetsHeld hg (map changeset_node xs) xs → AreChangesetsHeld hg (map changeset_node ys) ys → map changeset_node xs ≡ map changeset_node ys → xs ≡ ys
views-one hg added [] [] h k e = refl
views-one hg added [] (y ∷ ys) h k e = absurd cc
views-one hg added (x ∷ xs) [] h k e = absurd cc
views-one hg added (x ∷ xs) (y ∷ ys) h k e =
    let node : changeset_node x ≡ changeset_node y = cc in
    let rest : map changeset_node xs ≡ map changeset_node ys = cc in
    let one = one_view hg added (changeset_node x) x y h.0 (subst (λ (n : Id). IsChangesetHeld hg n y) (sym node) k.0) in
    let more = views-one hg added xs ys h.1 k.1 rest in
    λ i. one i ∷ more i

-- ---- with a partner and without

gets-of : (k : Known) (front : List Block) (v : ChangesetView) (d : Block) → HasPartner k.hg k.git front v d → GetsBlock k front v d
gets-of k front v d h = record { no_clash = h.no_clash; on_no_link = h.on_no_link; no_collision = h.no_collision; not_deep = h.not_deep; block = h.block; fits = h.fits }

pub none-judged : (k : Known) (front : List Block) (b : Block) → HasNone k front b.changeset → IsJudged k.hg k.git front b (Wrong null)
none-judged k front b none = ((λ r. none r.partner (gets-of k front b.changeset r.partner r.gets)), inr (inr ((λ d h. none d (gets-of k front b.changeset d h)), refl)))

neither : (x y : Bool) → x ≡ false → y ≡ false → (x || y) ≡ true → ⊥
neither true y a b h = true≢false a
neither false true a b h = true≢false b
neither false false a b h = true≢false (sym h)

pub late-judged : (k : Known) (front : List Block) (b : Block) → (has_late_file front (b.changeset).rows || has_late_manifest front (b.changeset).manifest) ≡ true → IsJudged k.hg k.git front b (Wrong null)
late-judged k front b late = ((λ r. none r.partner r.gets), inr (inr (none, refl)))
  where
    none : (d : Block) → HasPartner k.hg k.git front b.changeset d → ⊥
    none d h = neither (has_late_file front (b.changeset).rows) (has_late_manifest front (b.changeset).manifest) h.files_in_time h.manifest_in_time late

-- what is judged the same where a parent comes too late
pub unless-late : (k : Known) (front : List Block) (b : Block) → ((has_late_file front (b.changeset).rows || has_late_manifest front (b.changeset).manifest) ≡ false → IsJudged k.hg k.git front b (Wrong null)) → IsJudged k.hg k.git front b (Wrong null)
unless-late k front b timely = by (has_late_file front (b.changeset).rows || has_late_manifest front (b.changeset).manifest) refl
  where
    by : (late : Bool) → (has_late_file front (b.changeset).rows || has_late_manifest front (b.changeset).manifest) ≡ late → IsJudged k.hg k.git front b (Wrong null)
    by true e = late-judged k front b e
    by false e = timely e

module _ (k : Known) (blocks front : List Block) (nodes : List Id) (b : Block) (is : IsBefore k blocks front nodes) (d : GitDraft) (c : CommitView) (here : IsPartnerHere k blocks front b.changeset d c)
    (timely : (has_late_file front (b.changeset).rows || has_late_manifest front (b.changeset).manifest) ≡ false) where
  abbrev v : ChangesetView
  v = b.changeset

  has-partner : HasPartner k.hg k.git front v (block_with front v c)
  has-partner =
      let g = gets-block k blocks front nodes is v d c here in
      let times = or_parts (has_late_file front v.rows) (has_late_manifest front v.manifest) timely in
      record {
        no_clash = g.no_clash;
        on_no_link = g.on_no_link;
        no_collision = g.no_collision;
        not_deep = g.not_deep;
        block = g.block;
        fits = g.fits;
        files_in_time = times.0;
        manifest_in_time = times.1;
      }

  one : (x : Block) → HasPartner k.hg k.git front v x → x ≡ block_with front v c
  one x h = gets-one k blocks front nodes is v d c here x (gets-of k front v x h)

  pub other-judged : (SameCommit b.commit c → ⊥) → (id : Id) → id ≡ commit_id c → IsJudged k.hg k.git front b (Wrong id)
  other-judged other id of = ((λ r. other (subst (λ (x : Block). SameCommit b.commit x.commit) (one r.partner r.gets) r.commit)), inl (block_with front v c, has-partner, other, of))

  module _ (same : SameCommit b.commit c) where
    only-judged : (IsRight k.hg k.git front b → ⊥) → IsJudged k.hg k.git front b (Wrong null)
    only-judged wrong = (wrong, inr (inl (block_with front v c, has-partner, same, refl)))

    pub bodies-judged : (HasBodiesOf v.rows (b.commit).rows → ⊥) → IsJudged k.hg k.git front b (Wrong null)
    bodies-judged other = only-judged (λ r. other r.bodies)

    module _ (history : IsHistoryHeld k blocks) (links-held : AreChangesetsHeld k.hg (map changeset_node b.links) b.links) where
      links-here : links_of front c ≡ links_of blocks c
      links-here = links_same front (IsHeldView k.hg) blocks (IsHeldView k.hg) (record { first = is.part; second = is.whole; among = is.among }) c here.paired

      pub links-judged : (map changeset_node b.links ≡ map changeset_node (links_of blocks c) → ⊥) → IsJudged k.hg k.git front b (Wrong null)
      links-judged other = only-judged (λ r. other (ap (map changeset_node) (r.links ∙ ap (λ (x : Block). x.links) (one r.partner r.gets) ∙ links-here)))

      pub right-judged : map changeset_node b.links ≡ map changeset_node (links_of blocks c) → HasBodiesOf v.rows (b.commit).rows → IsJudged k.hg k.git front b Right
      right-judged links bodies = record {
        partner = block_with front v c;
        gets = has-partner;
        commit = same;
        links = views-one k.hg history.added b.links (links_of blocks c) links-held (partner-links k blocks history v c (here.chosen).partner) links ∙ sym links-here;
        bodies = bodies;
      }
