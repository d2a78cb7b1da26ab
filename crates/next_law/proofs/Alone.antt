-- No changeset and no commit stands twice behind a pull.
use Rattle.std.proofs.Common.{◌≡◌, true, false, List, [], ◌∷◌, ◌++◌, map, sym, ap, subst, ◌∙◌, append_assoc, append-nil}
use Rattle.std.specs.Prelude.{bytes_eq}
use Rattle.std.specs.List.{list_any}
use Rattle.text_model.specs.Lists.{Each}
use Rattle.text_model.specs.Text.{Bytes}
use Rattle.text_model.specs.Id.{Id}
use Rattle.text_model.proofs.EachLemmas.{Each-append}
use Rattle.text_model.proofs.Elements.{flat_map_append, map_append}
use Rattle.git_model.specs.Object.{Object}
use Rattle.git_model.specs.Tree.{has_distinct}
use Rattle.view_model.specs.View.{ChangesetView, changeset_node}
use Rattle.pair_model.specs.Block.{Block, changesets_in}
use Rattle.history_model.specs.Pull.{known_with, objects_with, revisions_among}
use Rattle.state_model.specs.Kept.{Kept, kept_of}
use Rattle.saved_model.specs.Step.{Pull, OfBundle, OfStream, Accepts, AcceptsBundle, AcceptsStream, known_of}
use Rattle.partner_model.specs.Table.{IsTable}
use Rattle.hg_view.proofs.Grown.{more-all}
use Rattle.next_law.specs.Next.{IsLeft, HasDistinct}
use Rattle.next_law.proofs.Apart.{IsApart, own_of, bundle-apart, stream-apart}
use Rattle.next_law.proofs.Blocks.{held-distinct}
use Rattle.next_law.proofs.Distinct.{distinct-both}
use Rattle.next_law.proofs.Known.{IsSaved, saved-of, held-known, sound-known, contents-known}
use Rattle.next_law.proofs.Linked.{bundle-linked, bundle-known}
use Rattle.next_law.proofs.NewBlocks.{AreNew, IsOfBundle, IsOfStream, each-turned}
use Rattle.next_law.proofs.OldLinks.{old-links, held-more}
use Rattle.next_law.proofs.Pulls.{own, contents, bundle-new, stream-new, bundle-table, stream-table}
use Rattle.next_law.proofs.Table.{ids-are}

-- the nodes of the changesets of blocks
abbrev nodes : List Block → List Id
nodes blocks = map changeset_node (changesets_in blocks)

nodes-append : (old new : List Block) → nodes (old ++ new) ≡ nodes old ++ nodes new
nodes-append old new = ap (map changeset_node) (flat_map_append own_of old new) ∙ map_append changeset_node (changesets_in old) (changesets_in new)

each-mapped : (P : Id → Type 0) (hs : List ChangesetView) → Each (λ h. P (changeset_node h)) hs → Each P (map changeset_node hs)
each-mapped P [] each = tt
each-mapped P (h ∷ hs) each = (each.0, each-mapped P hs each.1)

alone-push : (blocks : List Block) (b : Block) → has_distinct (nodes blocks) ≡ true → IsApart blocks b → has_distinct (nodes (blocks ++ b ∷ [])) ≡ true
alone-push blocks b h apart =
    ap has_distinct (nodes-append blocks (b ∷ []) ∙ ap (λ (l : List ChangesetView). nodes blocks ++ map changeset_node l) (append-nil (own_of b)))
    ∙ distinct-both (nodes blocks) (map changeset_node (own_of b)) h apart.alone (each-mapped (λ y. list_any (bytes_eq y) (nodes blocks) ≡ false) (own_of b) apart.others)

alone-on : (old front new : List Block) → AreNew (λ front b. IsApart (old ++ front) b) front new → has_distinct (nodes (old ++ front)) ≡ true → has_distinct (nodes (old ++ (front ++ new))) ≡ true
alone-on old front [] h distinct = ap (λ (l : List Block). has_distinct (nodes (old ++ l))) (append-nil front) ∙ distinct
alone-on old front (b ∷ new) h distinct =
    let more = alone-push (old ++ front) b distinct h.0 in
    ap (λ (l : List Block). has_distinct (nodes (old ++ l))) (sym (append_assoc front (b ∷ []) new))
    ∙ alone-on old (front ++ b ∷ []) new h.1 (ap (λ (l : List Block). has_distinct (nodes l)) (sym (append_assoc old front (b ∷ []))) ∙ more)

module _ (k : Kept) (saved : IsSaved k) where
  bundle-each : (bundle : Bytes) (new : List Block) → AcceptsBundle k bundle new → AreNew (λ front b. IsApart (k.blocks ++ front) b) [] new
  bundle-each bundle new a =
      let s = known_of k in
      let known = known_with s a.arrivals in
      let sound = sound-known k saved in
      let mine = own s sound bundle a.arrivals a.reads in
      let old = old-links known k.blocks saved.blocks (held-more s.revisions known (more-all s.revisions (revisions_among a.arrivals)) (changesets_in k.blocks) (held-known k saved)) in
      each-turned (IsOfBundle s known) (λ front b. IsApart (k.blocks ++ front) b)
      (λ front b x. bundle-apart known mine _ (k.blocks ++ front) x.table x.node b
      (bundle-linked known mine _ (k.blocks ++ front) x.table x.node b x.no_link x.gives).no_link (bundle-known known mine _ (k.blocks ++ front) x.table x.node b x.no_link x.gives)
      (Each-append _ k.blocks front old x.links) x.free x.gives) [] new (bundle-new k sound bundle new a)

  stream-each : (stream : Bytes) (new : List Block) (tags : List Object) → AcceptsStream k stream new tags → AreNew (λ front b. IsApart (k.blocks ++ front) b) [] new
  stream-each stream new tags a =
      let s = known_of k in
      let objects = objects_with s a.came in
      let sound = sound-known k saved in
      let all = contents s sound stream a.came a.reads (contents-known k saved) in
      each-turned (IsOfStream s objects) (λ front b. IsApart (k.blocks ++ front) b)
      (λ front b x. stream-apart _ objects (k.blocks ++ front) (x.goes_on).table x.id b x.gives (held-distinct objects all x.id (x.gives).view (x.gives).is_held)) [] new (stream-new k sound stream new tags a)

  apart : (pull : Pull) (new : List Block) (tags : List Object) → Accepts k pull new tags → AreNew (λ front b. IsApart (k.blocks ++ front) b) [] new
  apart (OfBundle bundle) new tags a = bundle-each bundle new a.0
  apart (OfStream stream) new tags a = stream-each stream new tags a

  table : (pull : Pull) (new : List Block) (tags : List Object) → Accepts k pull new tags → IsTable (k.blocks ++ new)
  table (OfBundle bundle) new tags a = bundle-table k (sound-known k saved) bundle new a.0
  table (OfStream stream) new tags a = stream-table k (sound-known k saved) stream new tags a

pub distinct-left : IsLeft HasDistinct
distinct-left s pull k made is (new, tags, accepts, next, wrote) =
    let saved = saved-of s is in
    let distinct = ap (λ (l : List Block). has_distinct (nodes l)) (append-nil s.blocks) ∙ (saved.dumped).distinct in
    subst HasDistinct (sym next) (
      alone-on s.blocks [] new (apart (kept_of s) saved pull new tags accepts) distinct,
      ap has_distinct (ids-are (s.blocks ++ new)) ∙ (table (kept_of s) saved pull new tags accepts).ids,
    )
