-- Links that are known are held, with the files of their commit's first parent.
use Rattle.std.proofs.Common.{◌≡◌, ◌≢◌, ◌≤◌, ◌+◌, ◌-◌, ℕ, suc, Bool, true, false, true≢false, List, [], ◌∷◌, ◌++◌, length, map, Some, refl, sym, ap, subst, ◌∙◌, inl, inr, arith, leb-true}
use Rattle.std.specs.Prelude.{nat_le, slice_get, bytes_eq}
use Rattle.std.specs.List.{list_all}
use Rattle.std.proofs.lemmas.Bool.{and_parts}
use Rattle.std.proofs.lemmas.Slice.Eq.{bytes_eq-Decides}
use Rattle.text_model.specs.Lists.{Each, In}
use Rattle.text_model.specs.Text.{Bytes, IsBytes, has_byte}
use Rattle.text_model.specs.Id.{Id, IsId}
use Rattle.text_model.proofs.Elements.{each_in}
use Rattle.text_model.proofs.Options.{none_some, some_is}
use Rattle.hg_model.specs.Changeset.{Changeset, IsChangeset, IsDateLine, changeset_text}
use Rattle.hg_model.specs.Revision.{Revision, Changesets, revision_of}
use Rattle.hg_store.specs.Known.{AreAdded}
use Rattle.view_model.specs.View.{Row, ManifestParents, ChangesetView, changeset_node}
use Rattle.view_model.specs.Held.{IsFileHeld, IsManifestHeld, IsChangesetHeld}
use Rattle.pair_model.specs.Block.{view_or_none}
use Rattle.pair_model.specs.Octopus.{link_user, link_description, link_view, links_over, last_id}
use Rattle.partner_model.specs.Partner.{IsHeldView, IsKnownAs}
use Rattle.pair_known.proofs.HeldViews.{one_view}
use Rattle.unmark_law.proofs.Tables.{eq_true}
use Rattle.changeset_unmark.specs.Over.{IsLike}
use Rattle.changeset_unmark.specs.Links.{IsKnownLink}
use Rattle.changeset_unmark.proofs.LinkWalk.{node-same, same_self}

-- what links have in common
pub record IsLinkLike (base l : ChangesetView) : Type 0 where
  pub like : IsLike base l
  pub user : (l.fields).user ≡ link_user
  pub files : (l.fields).files ≡ []
  pub description : (l.fields).description ≡ link_description

one-like : (id : Id) (base : ChangesetView) (n k : ℕ) (p q : Id) → IsLinkLike base (link_view id base n k p q)
unfolding link_view
one-like id base n k p q = record { like = record { node = refl; manifest = refl; rows = refl }; user = refl; files = refl; description = refl }

pub all-like : (id : Id) (base : ChangesetView) (n k : ℕ) (before : Id) (rest : List Id) → Each (IsLinkLike base) (links_over id base n k before rest)
unfolding links_over
all-like id base n k before [] = tt
all-like id base n k before (x ∷ []) = tt
all-like id base n k before (x ∷ y ∷ rest) = (one-like id base n k before x, all-like id base n (k + 1) (changeset_node (link_view id base n k before x)) (y ∷ rest))

small : (text : Bytes) → list_all (λ b. nat_le b 255) text ≡ true → IsBytes text
small [] h = tt
small (b ∷ text) h =
    let a = and_parts (nat_le b 255) (list_all (λ b. nat_le b 255) text) h in
    (omega (arith, leb-true b 255 a.0), small text a.1)

some-user : link_user ≢ []
some-user = λ e. cc

-- ---- one link

module _ (known : List Revision) (added : AreAdded known) (base : ChangesetView) (node : Id) (held : IsChangesetHeld known node base) where
  fields-right : (l : ChangesetView) → IsLinkLike base l → IsDateLine (l.fields).date → IsChangeset l.fields
  fields-right l is date = record {
    manifest = subst IsId (sym (is.like).node) (held.fields).0.manifest;
    user = (λ e. some-user (sym is.user ∙ e), ap (λ (x : Bytes). has_byte 10 x) is.user, subst IsBytes (sym is.user) (small link_user refl));
    date = date;
    files = subst (Each (λ f. (f ≢ []) × (has_byte 10 f ≡ false) × IsBytes f)) (sym is.files) tt;
    description = subst IsBytes (sym is.description) (small link_description refl);
  }

  manifest-held : (l : ChangesetView) → IsLinkLike base l → IsManifestHeld known (l.fields).manifest l.manifest l.rows
  manifest-held l is =
      subst (λ (rows : List Row). IsManifestHeld known (l.fields).manifest l.manifest rows) (sym (is.like).rows)
      (subst (λ (m : ManifestParents). IsManifestHeld known (l.fields).manifest m base.rows) (sym (is.like).manifest)
      (subst (λ (id : Id). IsManifestHeld known id base.manifest base.rows) (sym (is.like).node) held.manifest))

  pub link-held : (l : ChangesetView) → IsLinkLike base l → IsKnownLink known l → IsChangesetHeld known (changeset_node l) l
  link-held l is k = record {
    revision = k.revision;
    is_held = k.is_held;
    parents = (sym k.parents.0, sym k.parents.1);
    fields = (fields-right l is k.date, k.text);
    manifest = manifest-held l is;
    files = subst (Each (IsFileHeld known)) (sym (is.like).rows) held.files;
  }

  -- a known view that is the same says all of it
  pub known-link : (l : ChangesetView) → IsKnownAs (IsHeldView known) l → IsKnownLink known l
  known-link l h =
      let node : changeset_node h.0 ≡ changeset_node l = node-same h.0 l h.2 in
      record {
        revision = (h.1).revision;
        is_held = ap (revision_of known Changesets) (sym node) ∙ (h.1).is_held;
        parents = (sym (h.1).parents.0 ∙ (h.2).p, sym (h.1).parents.1 ∙ (h.2).q);
        text = (h.1).fields.1 ∙ ap changeset_text (h.2).fields;
        date = subst (λ (x : Changeset). IsDateLine x.date) (h.2).fields (h.1).fields.0.date;
      }

  pub all-held : (ls : List ChangesetView) → Each (IsLinkLike base) ls → Each (IsKnownLink known) ls → Each (λ l. IsChangesetHeld known (changeset_node l) l) ls
  all-held [] like k = tt
  all-held (l ∷ ls) like k = (link-held l like.0 k.0, all-held ls like.1 k.1)

  pub held-known : (ls : List ChangesetView) → Each (λ l. IsChangesetHeld known (changeset_node l) l) ls → Each (IsKnownAs (IsHeldView known)) ls
  held-known [] h = tt
  held-known (l ∷ ls) h = ((l, h.0, same_self l), held-known ls h.1)

  pub known-links : (ls : List ChangesetView) → Each (IsKnownAs (IsHeldView known)) ls → Each (IsKnownLink known) ls
  known-links [] h = tt
  known-links (l ∷ ls) h = (known-link l h.0, known-links ls h.1)

-- ---- a view among links and others

found-first : (ls cs : List ChangesetView) (node : Id) → (l : ChangesetView) → In l ls → changeset_node l ≡ node → (w : ChangesetView) × In w ls × (view_or_none (ls ++ cs) node ≡ w)
found-first [] cs node l i e = absurd i
found-first (x ∷ ls) cs node l i e = by (bytes_eq (changeset_node x) node) refl i (found-first ls cs node l)
  where
    by : (t : Bool) → bytes_eq (changeset_node x) node ≡ t → In l (x ∷ ls) → (In l ls → changeset_node l ≡ node → (w : ChangesetView) × In w ls × (view_or_none (ls ++ cs) node ≡ w))
        → (w : ChangesetView) × In w (x ∷ ls) × (view_or_none (x ∷ (ls ++ cs)) node ≡ w)
    by true t i rest = (x, inl refl, rw t refl)
    by false t (inl q) rest = absurd (true≢false (sym ((bytes_eq-Decides (changeset_node x) node).1 (ap changeset_node (sym q) ∙ e)) ∙ t))
    by false t (inr j) rest = let r = rest j e in (r.0, inr r.1, rw t r.2)

pub first-like : (base : ChangesetView) (ls cs : List ChangesetView) (node : Id) (l : ChangesetView) → Each (IsLinkLike base) ls → In l ls → changeset_node l ≡ node → IsLike base (view_or_none (ls ++ cs) node)
first-like base ls cs node l like i e =
    let r = found-first ls cs node l i e in
    subst (IsLike base) (sym r.2) ((each_in (IsLinkLike base) ls r.0 like r.1).like)

-- where each of the links is held, a view is that of the others
pub second-same : (known : List Revision) → AreAdded known → (ls cs : List ChangesetView) (node : Id) → Each (λ l. IsChangesetHeld known (changeset_node l) l) ls → IsChangesetHeld known node (view_or_none cs node) → view_or_none (ls ++ cs) node ≡ view_or_none cs node
second-same known added [] cs node held own = refl
second-same known added (x ∷ ls) cs node held own = by (bytes_eq (changeset_node x) node) refl (second-same known added ls cs node held.1 own)
  where
    by : (t : Bool) → bytes_eq (changeset_node x) node ≡ t → view_or_none (ls ++ cs) node ≡ view_or_none cs node → view_or_none (x ∷ (ls ++ cs)) node ≡ view_or_none cs node
    by true t rest =
        let is : IsChangesetHeld known node x = subst (λ (id : Id). IsChangesetHeld known id x) (eq_true (changeset_node x) node t) held.0 in
        rw t (one_view known added node x (view_or_none cs node) is own)
    by false t rest = rw t rest

-- ---- the last link

pub last-in : (x : Id) (ls : List ChangesetView) (last : Id) → slice_get (map changeset_node ls) (length ls - 1) ≡ Some last → (last_id (x ∷ map changeset_node ls) ≡ last) × ((l : ChangesetView) × In l ls × (changeset_node l ≡ last))
last-in x [] last e = absurd (none_some e)
last-in x (l ∷ []) last e = (some_is e, (l, inl refl, some_is e))
last-in x (l ∷ m ∷ ls) last e =
    let less : length (l ∷ m ∷ ls) - 1 ≡ suc (length (m ∷ ls) - 1) = omega arith in
    let rest = last-in (changeset_node l) (m ∷ ls) last (ap (slice_get (map changeset_node (l ∷ m ∷ ls))) (sym less) ∙ e) in
    (rest.0, (rest.1.0, inr rest.1.1, rest.1.2))

pub in-last : (x : Id) (ls : List ChangesetView) → 1 ≤ length ls → slice_get (map changeset_node ls) (length ls - 1) ≡ Some (last_id (x ∷ map changeset_node ls))
in-last x [] some = absurd (omega arith)
in-last x (l ∷ []) some = refl
in-last x (l ∷ m ∷ ls) some =
    let less : length (l ∷ m ∷ ls) - 1 ≡ suc (length (m ∷ ls) - 1) = omega arith in
    ap (slice_get (map changeset_node (l ∷ m ∷ ls))) less ∙ in-last (changeset_node l) (m ∷ ls) (omega arith)
