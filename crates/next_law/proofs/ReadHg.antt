-- The dump of changesets that are views is read, where their parents are earlier and nothing is null or known otherwise.
use Rattle.std.proofs.Common.{◌≡◌, ◌≤◌, Bool, true, false, true≢false, List, [], ◌∷◌, ◌++◌, length, map, Option, Some, None, refl, sym, ap, ◌∙◌, append_assoc, append-nil, if◌then◌else◌, arith}
use Rattle.std.specs.Prelude.{is_ok, is_some, bytes_eq}
use Rattle.std.specs.List.{find}
use Rattle.text_model.specs.Lists.{Each}
use Rattle.text_model.specs.Text.{Bytes}
use Rattle.text_model.specs.Id.{Id}
use Rattle.text_model.proofs.Options.{none_some}
use Rattle.text_model.proofs.TestLemmas.{both, bytes_eq-is}
use Rattle.text_model.proofs.Elements.{find-more}
use Rattle.hg_model.specs.Changeset.{changeset_text}
use Rattle.hg_model.specs.Revision.{Group, Revision, is_of, revision_of, knows, same_group, known_after, known_after_all}
use Rattle.hg_model.specs.Reading.{bundle_reading}
use Rattle.hg_model.proofs.RevisionLemmas.{same_group-is}
use Rattle.view_model.specs.View.{ChangesetView, ChangesetFits, changeset_node, commit_limit}
use Rattle.view_model.specs.Dump.{revisions_in, hg_increment}
use Rattle.state_model.specs.Kept.{hg_dump}
use Rattle.hg_dump_law.proofs.Increment.{is-read}
use Rattle.dump_law.proofs.Bases.{base-is-same}
use Rattle.dump_law.proofs.Saved.{saved-held, views-moved}
use Rattle.next_law.specs.Next.{ViewsAreRead}
use Rattle.next_law.proofs.Added.{views-added}

-- ---- what is found is the first of a node

find-behind : {X : Type 0} (p : X → Bool) (xs ys : List X) → find p xs ≡ None → find p (xs ++ ys) ≡ find p ys
find-behind p [] ys h = refl
find-behind {X = X} p (x ∷ xs) ys h = by (p x) refl h (find-behind p xs ys)
  where
    by : (t : Bool) → p x ≡ t → (if t then Some x else find p xs) ≡ None → (find p xs ≡ None → find p (xs ++ ys) ≡ find p ys) → find p (x ∷ (xs ++ ys)) ≡ find p ys
    by true e k go = absurd (none_some (sym k))
    by false e k go = rw e (go k)

shadowed : (known : List Revision) (r : Revision) (rs : List Revision) (group : Group) (node : Id) → knows known r.group r.node ≡ true → revision_of (known ++ rs) group node ≡ revision_of (known ++ r ∷ rs) group node
shadowed known r rs group node h = by (revision_of known group node) refl
  where
    by : (o : Option Revision) → revision_of known group node ≡ o → revision_of (known ++ rs) group node ≡ revision_of (known ++ r ∷ rs) group node
    by (Some x) e = find-more (is_of group node) known rs x e ∙ sym (find-more (is_of group node) known (r ∷ rs) x e)
    by None e = find-behind (is_of group node) known rs e ∙ sym (find-behind (is_of group node) known (r ∷ rs) e ∙ at (is_of group node r) refl)
      where
        at : (t : Bool) → is_of group node r ≡ t → revision_of (r ∷ rs) group node ≡ revision_of rs group node
        at false f = rw f refl
        at true f =
            let parts = both (same_group group r.group) (bytes_eq node r.node) f in
            let same : knows known group node ≡ knows known r.group r.node = (λ i. knows known (same_group-is group r.group parts.0 i) (bytes_eq-is node r.node parts.1 i)) in
            absurd (true≢false (sym h ∙ sym same ∙ ap is_some e))

first-kept : (known rs : List Revision) (group : Group) (node : Id) → revision_of (known_after_all known rs) group node ≡ revision_of (known ++ rs) group node
first-kept known [] group node = ap (λ (l : List Revision). revision_of l group node) (sym (append-nil known))
first-kept known (r ∷ rs) group node = first-kept (known_after known r) rs group node ∙ by (knows known r.group r.node) refl
  where
    by : (t : Bool) → knows known r.group r.node ≡ t → revision_of ((if t then known else known ++ r ∷ []) ++ rs) group node ≡ revision_of (known ++ r ∷ rs) group node
    by true e = shadowed known r rs group node e
    by false e = ap (λ (l : List Revision). revision_of l group node) (append_assoc known (r ∷ []) rs)

-- ---- the dump

short-texts : (hs : List ChangesetView) → Each ChangesetFits hs → Each (λ h. length (changeset_text h.fields) ≤ commit_limit) hs
short-texts [] fits = tt
short-texts (h ∷ hs) fits = ((fits.0).text, short-texts hs fits.1)

pub views-read : ViewsAreRead
views-read hs views fits some one earlier short =
    let known = known_after_all [] (revisions_in hs) in
    let held = views-moved (revisions_in hs) known (λ group node. sym (first-kept [] (revisions_in hs) group node)) (map changeset_node hs) hs (saved-held hs views one) in
    let same : hg_increment known [] hs ≡ hg_dump hs = base-is-same known [] hs held earlier in
    let read = is-read known [] (map changeset_node hs) hs 0 (record {
      added = views-added hs views fits some one earlier;
      held = held;
      knows_old = record { has_old = tt; of_store = tt };
      parents = earlier;
      short = record { changesets = short-texts hs fits; bundle = omega (arith, ap (λ (bytes : Bytes). length bytes) same, short) };
    }) in
    ap (λ (bytes : Bytes). is_ok (bundle_reading [] bytes)) (sym same) ∙ ap is_ok read.1
