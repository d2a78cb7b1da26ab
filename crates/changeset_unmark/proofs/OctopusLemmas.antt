-- Tests of links, and the changesets that they are of.
use Rattle.std.proofs.Common.{◌≡◌, ◌-◌, ℕ, zero, suc, true, true≢false, List, [], ◌∷◌, length, map, Option, Some, None, refl, sym, ap, ◌∙◌, bytes_eq}
use Rattle.std.specs.Prelude.{◌&&◌, slice_get}
use Rattle.std.specs.List.{list_all, AllZip}
use Rattle.std.proofs.lemmas.Bool.{and_parts}
use Rattle.std.proofs.lemmas.Slice.Eq.{bytes_eq-Decides}
use Rattle.text_model.specs.Lists.{Each}
use Rattle.text_model.specs.Id.{Id}
use Rattle.text_model.proofs.Options.{none_some, some_is}
use Rattle.hg_model.specs.Revision.{Revision, Changesets, revision_of}
use Rattle.view_model.specs.View.{ChangesetView, changeset_node}
use Rattle.link_rule.specs.Links.{IsLinkOf}
use Rattle.link_rule.specs.declared.link.Link.{Link}
use Rattle.changeset_unmark.specs.Links.{is_its, is_known_link, has_node, IsKnownLink, AreLinksThere}

-- ---- one link

one-known : (known : List Revision) (link : Link) (h : ChangesetView) → IsLinkOf link h → is_known_link known link ≡ true → IsKnownLink known h
one-known known link h is t = by (revision_of known Changesets link.node) refl t
  where
    by : (o : Option Revision) → revision_of known Changesets link.node ≡ o → is_its link o ≡ true → IsKnownLink known h
    by None e t = absurd (true≢false (sym t))
    by (Some r) e t =
        let a = and_parts (bytes_eq r.p link.p && bytes_eq r.q link.q) (bytes_eq r.text link.text) t in
        let b = and_parts (bytes_eq r.p link.p) (bytes_eq r.q link.q) a.0 in
        record {
          revision = r;
          is_held = ap (revision_of known Changesets) (sym is.node) ∙ e;
          parents = ((bytes_eq-Decides r.p link.p).0 b.0 ∙ is.parents.0, (bytes_eq-Decides r.q link.q).0 b.1 ∙ is.parents.1);
          text = (bytes_eq-Decides r.text link.text).0 a.1 ∙ is.text;
          date = is.date;
        }

known-one : (known : List Revision) (link : Link) (h : ChangesetView) → IsLinkOf link h → IsKnownLink known h → is_known_link known link ≡ true
known-one known link h is k =
    let r = k.revision in
    let at : revision_of known Changesets link.node ≡ Some k.revision = ap (revision_of known Changesets) is.node ∙ k.is_held in
    let p = (bytes_eq-Decides r.p link.p).1 (k.parents.0 ∙ sym is.parents.0) in
    let q = (bytes_eq-Decides r.q link.q).1 (k.parents.1 ∙ sym is.parents.1) in
    let text = (bytes_eq-Decides r.text link.text).1 (k.text ∙ sym is.text) in
    ap (is_its link) at ∙ rw (p, q, text) refl

-- ---- all

all-known : (known : List Revision) (links : List Link) (hs : List ChangesetView) → AllZip IsLinkOf links hs → list_all (is_known_link known) links ≡ true → Each (IsKnownLink known) hs
all-known known [] [] z t = tt
all-known known [] (h ∷ hs) z t = absurd z
all-known known (l ∷ links) [] z t = absurd z
all-known known (l ∷ links) (h ∷ hs) z t =
    let both = and_parts (is_known_link known l) (list_all (is_known_link known) links) t in
    (one-known known l h z.0 both.0, all-known known links hs z.1 both.1)

known-all : (known : List Revision) (links : List Link) (hs : List ChangesetView) → AllZip IsLinkOf links hs → Each (IsKnownLink known) hs → list_all (is_known_link known) links ≡ true
known-all known [] [] z k = refl
known-all known [] (h ∷ hs) z k = absurd z
known-all known (l ∷ links) [] z k = absurd z
known-all known (l ∷ links) (h ∷ hs) z k = rw (known-one known l h z.0 k.0, known-all known links hs z.1 k.1) refl

same-length : (links : List Link) (hs : List ChangesetView) → AllZip IsLinkOf links hs → length links ≡ length hs
same-length [] [] z = refl
same-length [] (h ∷ hs) z = absurd z
same-length (l ∷ links) [] z = absurd z
same-length (l ∷ links) (h ∷ hs) z = ap suc (same-length links hs z.1)

node-at : (links : List Link) (hs : List ChangesetView) (i : ℕ) (last : Id) → AllZip IsLinkOf links hs → has_node last (slice_get links i) ≡ true → slice_get (map changeset_node hs) i ≡ Some last
node-at [] [] i last z t = absurd (true≢false (sym t))
node-at [] (h ∷ hs) i last z t = absurd z
node-at (l ∷ links) [] i last z t = absurd z
node-at (l ∷ links) (h ∷ hs) zero last z t = ap Some (sym (z.0).node ∙ (bytes_eq-Decides l.node last).0 t)
node-at (l ∷ links) (h ∷ hs) (suc i) last z t = node-at links hs i last z.1 t

at-node : (links : List Link) (hs : List ChangesetView) (i : ℕ) (last : Id) → AllZip IsLinkOf links hs → slice_get (map changeset_node hs) i ≡ Some last → has_node last (slice_get links i) ≡ true
at-node [] [] i last z t = absurd (none_some t)
at-node [] (h ∷ hs) i last z t = absurd z
at-node (l ∷ links) [] i last z t = absurd z
at-node (l ∷ links) (h ∷ hs) zero last z t = (bytes_eq-Decides l.node last).1 ((z.0).node ∙ some_is t)
at-node (l ∷ links) (h ∷ hs) (suc i) last z t = at-node links hs i last z.1 t

pub there : (known : List Revision) (links : List Link) (hs : List ChangesetView) (last : Id) → AllZip IsLinkOf links hs → list_all (is_known_link known) links ≡ true → has_node last (slice_get links (length links - 1)) ≡ true
    → AreLinksThere known last hs
there known links hs last z a b = record {
  known = all-known known links hs z a;
  last = node-at links hs (length hs - 1) last z (ap (λ (n : ℕ). has_node last (slice_get links (n - 1))) (sym (same-length links hs z)) ∙ b);
}

pub all-there : (known : List Revision) (links : List Link) (hs : List ChangesetView) (last : Id) → AllZip IsLinkOf links hs → AreLinksThere known last hs → list_all (is_known_link known) links ≡ true
all-there known links hs last z h = known-all known links hs z h.known

pub last-there : (known : List Revision) (links : List Link) (hs : List ChangesetView) (last : Id) → AllZip IsLinkOf links hs → AreLinksThere known last hs → has_node last (slice_get links (length links - 1)) ≡ true
last-there known links hs last z h = ap (λ (n : ℕ). has_node last (slice_get links (n - 1))) (same-length links hs z) ∙ at-node links hs (length hs - 1) last z h.last
