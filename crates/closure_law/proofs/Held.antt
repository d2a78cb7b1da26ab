-- Changesets are held by revisions of which each is known to which they refer, up to links and the order of a manifest's or a file's parents.
use Rattle.std.proofs.Common.{◌≡◌, false, List, ◌++◌, Option, Some, None, refl, sym, ap, subst, ◌∙◌, true}
use Rattle.std.specs.Prelude.{bytes_eq}
use Rattle.std.specs.Option.{option_or}
use Rattle.std.proofs.lemmas.List.Folds.{find-append}
use Rattle.text_model.specs.Lists.{Each}
use Rattle.text_model.specs.Id.{Id}
use Rattle.text_model.proofs.EachLemmas.{Each-weaker}
use Rattle.text_model.proofs.Elements.{each_in, find-more}
use Rattle.text_model.proofs.Options.{some_is}
use Rattle.text_model.proofs.TestLemmas.{both, bytes_eq-is}
use Rattle.hg_model.specs.Revision.{Group, Revision, is_of, revision_of, same_group, same_parents}
use Rattle.hg_model.proofs.RevisionLemmas.{same_group-is}
use Rattle.view_model.specs.View.{ChangesetView, IsChangesetView, changeset_node}
use Rattle.view_model.specs.Dump.{revisions_in}
use Rattle.partner_model.specs.Partner.{IsHeldView}
use Rattle.state_model.specs.Saved.{has_otherwise}
use Rattle.hg_view.proofs.Grown.{view-more}
use Rattle.dump_law.specs.Same.{AreSameKnown}
use Rattle.dump_law.proofs.Same.{view-same}
use Rattle.dump_law.proofs.Saved.{saved-held}
use Rattle.next_law.proofs.Alike.{IsLike, parents-self}
use Rattle.next_law.proofs.Knows.{knows-right}
use Rattle.next_law.proofs.LikeNew.{find-in}
use Rattle.frame_law.proofs.Fronts.{each_held}

module _ (front came : List Revision) (like : Each (IsLike came) front) where
  -- a revision of this node is known, with the text and the parents of this one
  abbrev Found : Group → Id → Revision → Type 0
  Found g n r = (s : Revision) × (revision_of came g n ≡ Some s) × (s.text ≡ r.text) × (same_parents g r.p r.q s.p s.q ≡ true)

  of-front : (g : Group) (n : Id) (x : Revision) → revision_of front g n ≡ Some x → Found g n x
  of-front g n x e =
      let at = find-in (is_of g n) front x e in
      let parts = both (same_group g x.group) (bytes_eq n x.node) at.1 in
      let group : g ≡ x.group = same_group-is g x.group parts.0 in
      let node : n ≡ x.node = bytes_eq-is n x.node parts.1 in
      let l = each_in (IsLike came) front x like at.0 in
      (l.revision, (λ i. revision_of came (group i) (node i)) ∙ l.is_held, sym l.text, subst (λ (h : Group). same_parents h x.p x.q (l.revision).p (l.revision).q ≡ true) (sym group) l.parents)

  of-both : (g : Group) (n : Id) (r : Revision) → revision_of (front ++ came) g n ≡ Some r → (o : Option Revision) → revision_of front g n ≡ o → Found g n r
  of-both g n r at (Some x) e = subst (Found g n) (some_is (sym (find-more (is_of g n) front came x e) ∙ at)) (of-front g n x e)
  of-both g n r at None e =
      let there : revision_of came g n ≡ Some r = sym (find-append (is_of g n) front came ∙ ap (λ (o : Option Revision). option_or o (revision_of came g n)) e) ∙ at in
      (r, there, refl, parents-self g r.p r.q)

  -- in front of what is known they say nothing new
  same-known : AreSameKnown (front ++ came) came
  same-known = record { to = λ g n r at. of-both g n r at (revision_of front g n) refl; from = λ g n h. knows-right front came g n h }

pub all-held : (came : List Revision) (hs : List ChangesetView) → Each IsChangesetView hs → has_otherwise (revisions_in hs) ≡ false → Each (IsLike came) (revisions_in hs) → Each (IsHeldView came) hs
all-held came hs views one like =
    let front = revisions_in hs in
    Each-weaker (IsHeldView (revisions_in hs)) (IsHeldView came)
    (λ h held. view-same (front ++ came) came (same-known front came like) (changeset_node h) h (view-more front (front ++ came) (λ g n r at. find-more (is_of g n) front came r at) (changeset_node h) h held))
    hs (each_held (revisions_in hs) hs (saved-held hs views one))
