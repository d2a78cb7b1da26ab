-- Revisions that come to a store: their faults, and what the store keeps.
use Rattle.std.proofs.Common.{◌≡◌, ◌⊎◌, Bool, true, false, true≢false, ◌||◌, ◌++◌, List, [], ◌∷◌, map, Option, Some, None, refl, sym, ap, subst, ◌∙◌, append_assoc, inl, inr}
use Rattle.std.specs.Prelude.{is_some, if◌then◌else◌}
use Rattle.std.specs.List.{list_any, flat_map}
use Rattle.std.proofs.lemmas.Slice.Eq.{bytes_eq-Decides}
use Rattle.text_model.proofs.Options.{some_is}
use Rattle.text_model.specs.Lists.{In}
use Rattle.text_model.specs.Id.{Id, is_null, node_id}
use Rattle.text_model.specs.Fault.{FaultName, Collision}
use Rattle.text_model.proofs.Elements.{in_left, in_right, in_any}
use Rattle.hg_model.specs.Manifest.{manifest_text}
use Rattle.hg_model.specs.Revision.{Revision, Group, is_of, revision_of, knows, known_after, is_otherwise, first_name, named_if, addition_fault, text_fault, known_after_all}
use Rattle.hg_model.proofs.RevisionLemmas.{known_after_all-append}
use Rattle.hg_store.proofs.KnownLemmas.{addition-text}
use Rattle.view_model.specs.View.{Row, rows_text}
use Rattle.pair_known.specs.Rows.{row_value}
use Rattle.pair_state.specs.Came.{is_bad, IsReady, AreClean, HaveCome, HasBad, IsWithinHg}
use Rattle.pair_state.specs.Step.{line_of}
use Rattle.tree_shape.proofs.Elements.{in-append}
use Rattle.git_store.proofs.Growth.{any-in}

-- ---- faults

only-bad : (b : Bool) → first_name (named_if b Collision ∷ []) ≡ named_if b Collision
only-bad true = refl
only-bad false = refl

pub fault-is : (known : List Revision) (r : Revision) → IsReady known r → addition_fault known r ≡ named_if (is_bad known r) Collision
unfolding text_fault
fault-is known r ready = addition-text known r ready.ancestry ∙ rw ((bytes_eq-Decides r.node (node_id r.p r.q r.text)).1 (sym ready.node), ready.shape) (only-bad (is_bad known r))

pub not-bad : (b : Bool) → named_if b Collision ≡ None → b ≡ false
not-bad true h = cc
not-bad false h = refl

pub bad-is : (b : Bool) → named_if b Collision ≡ Some Collision → b ≡ true
bad-is true h = refl
bad-is false h = cc

pub no-other : (known : List Revision) (r : Revision) → IsReady known r → (name : FaultName) → addition_fault known r ≡ Some name → (Collision ≡ name → ⊥) → ⊥
no-other known r ready name h other = by (is_bad known r) (sym (fault-is known r ready) ∙ h)
  where
    by : (b : Bool) → named_if b Collision ≡ Some name → ⊥
    by true is = other (some_is is)
    by false is = cc

-- ---- lines

pub lines-are : (xs : List Row) → flat_map line_of (map row_value xs) ≡ rows_text xs
unfolding manifest_text
lines-are [] = refl
lines-are (x ∷ xs) = ap (λ l. line_of (row_value x) ++ l) (lines-are xs)

-- ---- look-ups

pub within-self : (known : List Revision) → IsWithinHg known known
within-self known group node r e = e

pub find-front : (known more : List Revision) (group : Group) (node : Id) (r : Revision) → revision_of known group node ≡ Some r → revision_of (known ++ more) group node ≡ Some r
find-front [] more group node r e = cc
find-front (x ∷ known) more group node r e = by (is_of group node x) e (find-front known more group node r)
  where
    by : (t : Bool) → (if t then Some x else revision_of known group node) ≡ Some r → (revision_of known group node ≡ Some r → revision_of (known ++ more) group node ≡ Some r) → (if t then Some x else revision_of (known ++ more) group node) ≡ Some r
    by true is later = is
    by false is later = later is

pub within-after : (known : List Revision) (r : Revision) → IsWithinHg known (known_after known r)
within-after known r group node x e = by (knows known r.group r.node)
  where
    by : (t : Bool) → revision_of (if t then known else known ++ r ∷ []) group node ≡ Some x
    by true = e
    by false = find-front known (r ∷ []) group node x e

pub within-all : (known rs : List Revision) → IsWithinHg known (known_after_all known rs)
within-all known [] group node x e = e
within-all known (r ∷ rs) group node x e = within-all (known_after known r) rs group node x (within-after known r group node x e)

pub within-knows : (old new : List Revision) → IsWithinHg old new → (group : Group) (node : Id) → knows old group node ≡ true → knows new group node ≡ true
within-knows old new within group node h = by (revision_of old group node) refl h
  where
    by : (o : Option Revision) → revision_of old group node ≡ o → is_some o ≡ true → knows new group node ≡ true
    by None e i = absurd (true≢false (sym i))
    by (Some r) e i = ap is_some (within group node r e)

-- ---- one after the other

pub come-none : (known : List Revision) → HaveCome known known []
come-none known = record { are = refl; clean = tt }

pub come-one : (old new : List Revision) (r : Revision) → new ≡ known_after old r → is_bad old r ≡ false → HaveCome old new (r ∷ [])
come-one old new r are clean = record { are = are; clean = (clean, tt) }

clean-append : (known rs more : List Revision) → AreClean known rs → AreClean (known_after_all known rs) more → AreClean known (rs ++ more)
clean-append known [] more c d = d
clean-append known (r ∷ rs) more c d = (c.0, clean-append (known_after known r) rs more c.1 d)

pub come-more : (a b c rs more : List Revision) → HaveCome a b rs → HaveCome b c more → HaveCome a c (rs ++ more)
come-more a b c rs more h k = record {
  are = k.are ∙ ap (λ (l : List Revision). known_after_all l more) h.are ∙ sym (known_after_all-append a rs more);
  clean = clean-append a rs more h.clean (subst (λ (l : List Revision). AreClean l more) h.are k.clean);
}

after-in : (known : List Revision) (r x : Revision) → In x (known_after known r) → In x (known ++ r ∷ [])
after-in known r x = by (knows known r.group r.node)
  where
    by : (t : Bool) → In x (if t then known else known ++ r ∷ []) → In x (known ++ r ∷ [])
    by true i = in_left x known (r ∷ []) i
    by false i = i

pub all-in : (known rs : List Revision) (x : Revision) → In x (known_after_all known rs) → In x (known ++ rs)
all-in known [] x i = in_left x known [] i
all-in known (r ∷ rs) x i = subst (λ (l : List Revision). In x l) (append_assoc known (r ∷ []) rs) (by (in-append x (known_after known r) rs (all-in (known_after known r) rs x i)))
  where
    by : In x (known_after known r) ⊎ In x rs → In x ((known ++ r ∷ []) ++ rs)
    by (inl j) = in_left x (known ++ r ∷ []) rs (after-in known r x j)
    by (inr j) = in_right x (known ++ r ∷ []) rs j

-- what is bad over a part is bad over the whole
pub bad-more : (small large : List Revision) (r : Revision) → ((x : Revision) → In x small → In x large) → is_bad small r ≡ true → is_bad large r ≡ true
bad-more small large r f h = by (is_null r.node) h
  where
    by : (t : Bool) → (t || list_any (is_otherwise r) small) ≡ true → (t || list_any (is_otherwise r) large) ≡ true
    by true i = refl
    by false i = let a = any-in (is_otherwise r) small i in in_any (is_otherwise r) large a.0 (f a.0 a.1) a.2

pub bad-one : (old : List Revision) (r : Revision) → is_bad old r ≡ true → HasBad old (r ∷ [])
bad-one old r h = record { revision = r; is_new = inl refl; bad = bad-more old (old ++ r ∷ []) r (λ x i. in_left x old (r ∷ []) i) h }

pub bad-front : (old rs more : List Revision) → HasBad old rs → HasBad old (rs ++ more)
bad-front old rs more b = record {
  revision = b.revision;
  is_new = in_left b.revision rs more b.is_new;
  bad = bad-more (old ++ rs) (old ++ (rs ++ more)) b.revision (λ x i. subst (λ (l : List Revision). In x l) (append_assoc old rs more) (in_left x (old ++ rs) more i)) b.bad;
}

pub bad-rest : (old new rs more : List Revision) → HaveCome old new rs → HasBad new more → HasBad old (rs ++ more)
bad-rest old new rs more h b = record {
  revision = b.revision;
  is_new = in_right b.revision rs more b.is_new;
  bad = bad-more (new ++ more) (old ++ (rs ++ more)) b.revision (λ x i. subst (λ (l : List Revision). In x l) (append_assoc old rs more) (from x (in-append x new more i))) b.bad;
}
  where
    from : (x : Revision) → In x new ⊎ In x more → In x ((old ++ rs) ++ more)
    from x (inl i) = in_left x (old ++ rs) more (all-in old rs x (subst (λ (l : List Revision). In x l) h.are i))
    from x (inr i) = in_right x (old ++ rs) more i
