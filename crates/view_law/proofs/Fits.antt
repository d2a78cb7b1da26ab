-- Each text of the changesets that a pull leaves is within its limit.
use Rattle.std.proofs.Common.{◌≡◌, ◌≤◌, ◌+◌, ℕ, List, [], ◌∷◌, ◌++◌, length, map, Option, Some, None, refl, sym, ap, subst, arith}
use Rattle.std.specs.Prelude.{unwrap_or}
use Rattle.text_model.specs.Lists.{Each}
use Rattle.text_model.specs.Text.{Bytes}
use Rattle.text_model.specs.Id.{Id}
use Rattle.text_model.proofs.EachLemmas.{Each-append, Each-front, Each-push, Each-rest}
use Rattle.text_model.proofs.Elements.{each_in}
use Rattle.hg_model.specs.Changeset.{Changeset, changeset_text}
use Rattle.hg_model.specs.FileText.{file_text}
use Rattle.hg_model.specs.Revision.{Revision}
use Rattle.hg_model.proofs.ManifestLemmas.{manifest_text-none}
use Rattle.git_model.specs.Object.{Object}
use Rattle.view_model.specs.View.{ChangesetView, ChangesetFits, CommitView, changeset_node, commit_id, rows_text, text_limit, commit_limit}
use Rattle.view_model.specs.Held.{AreChangesetsHeld}
use Rattle.pair_model.specs.Block.{Block, changesets_in, view_at, view_or_none, no_changeset}
use Rattle.pair_model.specs.Octopus.{link_view, links_over, links_by, links_of, partners_of_parents}
use Rattle.partner_model.specs.Partner.{IsHeldView, IsKnownAs}
use Rattle.history_model.specs.Pull.{State, ChangesetsFit, known_with, objects_with, revisions_among}
use Rattle.state_model.specs.Kept.{Kept, kept_of}
use Rattle.saved_model.specs.Step.{Pull, OfBundle, OfStream, Accepts, dump_revisions, known_of}
use Rattle.pull_law.specs.Sound.{HasOwnNode}
use Rattle.next_law.specs.Next.{IsLeft}
use Rattle.next_law.proofs.Known.{IsSaved, saved-of, sound-known, held-known, additions}
use Rattle.next_law.proofs.LikeNew.{find-in}
use Rattle.next_law.proofs.Linked.{bundle-known}
use Rattle.next_law.proofs.NewBlocks.{IsOfBundle, IsOfStream}
use Rattle.next_law.proofs.Pulls as pulls
use Rattle.next_law.proofs.Founded.{IsFounded, founded-after, held-fits}
use Rattle.view_law.proofs.Views.{each-grown}
use Rattle.view_law.specs.Views.{HasChangesetsFit}

-- ---- links

-- the texts of the files of a changeset are within their limits
record HasShortFiles (h : ChangesetView) : Type 0 where
  pub text : length (rows_text h.rows) ≤ text_limit
  pub files : Each (λ row. length (file_text (row.revision).meta (row.revision).body) ≤ text_limit) h.rows

short-at : (hs : List ChangesetView) → Each ChangesetFits hs → (node : Id) → HasShortFiles (view_or_none hs node)
short-at hs all node = by (view_at hs node) refl
  where
    by : (o : Option ChangesetView) → view_at hs node ≡ o → HasShortFiles (unwrap_or o no_changeset)
    by None e = record { text = subst (λ (bytes : Bytes). length bytes ≤ text_limit) (sym manifest_text-none) (omega arith); files = tt }
    by (Some v) e = let fits = each_in ChangesetFits hs v all (find-in _ hs v e).0 in record { text = fits.manifest; files = fits.files }

module _ (known : List Revision) (all : Each IsFounded known) (id : Id) (base : ChangesetView) (short : HasShortFiles base) where
  link-fits : (n k : ℕ) (p q : Id) → IsKnownAs (IsHeldView known) (link_view id base n k p q) → ChangesetFits (link_view id base n k p q)
  unfolding link_view
  link-fits n k p q (v, held, same) =
      let fits = held-fits known all (changeset_node v) v held in
      record { text = subst (λ (x : Changeset). length (changeset_text x) ≤ commit_limit) same.fields fits.text; manifest = short.text; files = short.files }

  over-fits : (n k : ℕ) (before : Id) (xs : List Id) → Each (IsKnownAs (IsHeldView known)) (links_over id base n k before xs) → Each ChangesetFits (links_over id base n k before xs)
  unfolding links_over
  over-fits n k before [] each = tt
  over-fits n k before (x ∷ []) each = tt
  over-fits n k before (x ∷ y ∷ rest) each = (link-fits n k before x each.0, over-fits n (k + 1) (changeset_node (link_view id base n k before x)) (y ∷ rest) each.1)

links-fit : (known : List Revision) → Each IsFounded known → (blocks : List Block) → Each ChangesetFits (changesets_in blocks) → (c : CommitView) → Each (IsKnownAs (IsHeldView known)) (links_of blocks c) → Each ChangesetFits (links_of blocks c)
unfolding links_of
links-fit known all blocks fits c each = by (partners_of_parents blocks c) each
  where
    by : (xs : List Id) → Each (IsKnownAs (IsHeldView known)) (links_by blocks (commit_id c) (length (c.value).parents) xs) → Each ChangesetFits (links_by blocks (commit_id c) (length (c.value).parents) xs)
    by [] k = tt
    by (x ∷ rest) k = over-fits known all (commit_id c) (view_or_none (changesets_in blocks) x) (short-at (changesets_in blocks) fits x) (length (c.value).parents) 1 x rest k

-- ---- blocks

all-fit : (bs : List Block) → Each ChangesetsFit bs → Each ChangesetFits (changesets_in bs)
all-fit [] all = tt
all-fit (b ∷ bs) all = Each-append ChangesetFits (b.links ++ b.changeset ∷ []) (changesets_in bs) all.0 (all-fit bs all.1)

each-fits : (bs : List Block) → Each ChangesetFits (changesets_in bs) → Each ChangesetsFit bs
each-fits [] all = tt
each-fits (b ∷ bs) all = (Each-front ChangesetFits (b.links ++ b.changeset ∷ []) (changesets_in bs) all, each-fits bs (Each-rest ChangesetFits (b.links ++ b.changeset ∷ []) (changesets_in bs) all))

module _ (s : State) (known : List Revision) (own : Each HasOwnNode known) (founded : Each IsFounded known) where
  bundle-fits : (front : List Block) (b : Block) → Each ChangesetsFit (s.blocks ++ front) → IsOfBundle s known front b → ChangesetsFit b
  bundle-fits front b all x =
      let blocks = s.blocks ++ front in
      let for = ((x.gives).passes).block in
      let h = (x.gives).view in
      let walked = subst (Each (IsKnownAs (IsHeldView known))) (ap (λ (d : Block). d.links) for.2) (bundle-known known own _ blocks x.table x.node b x.no_link x.gives).known_as in
      subst ChangesetsFit (sym for.2) (Each-push ChangesetFits (links_of blocks for.0) h (links-fit known founded blocks (all-fit blocks all) for.0 walked) (held-fits known founded x.node h (x.gives).is_held))

module _ (k : Kept) (saved : IsSaved k) where
  pub founded-known : Each IsFounded (known_of k).revisions
  founded-known = founded-after [] 0 (dump_revisions (changesets_in k.blocks)) tt (additions k saved)

  old-fits : (hs : List ChangesetView) → AreChangesetsHeld (known_of k).revisions (map changeset_node hs) hs → Each ChangesetFits hs
  old-fits [] held = tt
  old-fits (h ∷ hs) held = (held-fits (known_of k).revisions founded-known (changeset_node h) h held.0, old-fits hs held.1)

  old-blocks : Each ChangesetsFit k.blocks
  old-blocks = each-fits k.blocks (old-fits (changesets_in k.blocks) (held-known k saved))

  blocks-fit : (pull : Pull) (new : List Block) (tags : List Object) → Accepts k pull new tags → Each ChangesetsFit (k.blocks ++ new)
  blocks-fit (OfBundle bundle) new tags (a, none) =
      let s = known_of k in
      let sound = sound-known k saved in
      let known = known_with s a.arrivals in
      let founded = founded-after s.revisions 0 (revisions_among a.arrivals) founded-known (pulls.additions s sound bundle a.arrivals a.reads) in
      each-grown (IsOfBundle s known) ChangesetsFit k.blocks (bundle-fits s known (pulls.own s sound bundle a.arrivals a.reads) founded) new old-blocks (pulls.bundle-new k sound bundle new a)
  blocks-fit (OfStream stream) new tags a =
      let s = known_of k in
      each-grown (IsOfStream s (objects_with s a.came)) ChangesetsFit k.blocks (λ front b all x. ((x.gives).passes).fits) new old-blocks (pulls.stream-new k (sound-known k saved) stream new tags a)

-- ---- the law

pub changesets_fit-left : IsLeft HasChangesetsFit
changesets_fit-left s pull k made is (new, tags, accepts, next, wrote) =
    subst HasChangesetsFit (sym next) (all-fit (s.blocks ++ new) (blocks-fit (kept_of s) (saved-of s is) pull new tags accepts))
