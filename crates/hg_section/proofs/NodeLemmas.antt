-- The nodes of the changesets that arrived.
use Rattle.std.proofs.Common.{◌≡◌, ◌||◌, ◌&&◌, Bool, true, false, true≢false, not, List, [], ◌∷◌, ◌++◌, map, refl, sym, ap, ◌∙◌}
use Rattle.std.specs.Prelude.{bytes_eq}
use Rattle.std.specs.List.{list_any}
use Rattle.text_model.specs.Lists.{Each}
use Rattle.text_model.specs.Id.{Id}
use Rattle.text_model.proofs.Options.{or_parts}
use Rattle.text_model.proofs.TestLemmas.{both, bytes_eq-sym}
use Rattle.std.proofs.lemmas.Slice.Eq.{bytes_eq-Decides}
use Rattle.hg_model.specs.Revision.{Group, Changesets, Manifests, FilesAt, Revision, is_of, knows, known_after, same_group}
use Rattle.git_model.specs.Tree.{has_distinct}
use Rattle.hg_bundle.specs.declared.arrival.Arrival.{Arrival}
use Rattle.hg_bundle.specs.Arrivals.{kind_of}
use Rattle.hg_bundle.specs.Brought.{AreListed}
use Rattle.view_model.specs.Dump.{of_group}
use Rattle.hg_dump_law.proofs.Known.{knows-append, knows-cons, holds-after, knows-after}
use Rattle.hg_section.specs.Section.{is_changeset, is_again, nodes_of}

-- the nodes of the changesets among revisions
abbrev pub changesets_of : List Revision → List Id
changesets_of rs = map (λ r. r.node) (of_group Changesets rs)

-- ---- one arrival more

pub nodes-push : (xs : List Arrival) (a : Arrival) → nodes_of (xs ++ a ∷ []) ≡ nodes_of xs ++ nodes_of (a ∷ [])
nodes-push [] a = refl
nodes-push (x ∷ xs) a = by (is_changeset x) refl (nodes-push xs a)
  where
    by : (t : Bool) → is_changeset x ≡ t → nodes_of (xs ++ a ∷ []) ≡ nodes_of xs ++ nodes_of (a ∷ []) → nodes_of (x ∷ xs ++ a ∷ []) ≡ nodes_of (x ∷ xs) ++ nodes_of (a ∷ [])
    by true e rest = rw e (ap (λ (l : List Id). x.node ∷ l) rest)
    by false e rest = rw e rest

pub again-push : (xs : List Arrival) (a : Arrival) → list_any is_again xs ≡ false → is_again a ≡ false → list_any is_again (xs ++ a ∷ []) ≡ false
again-push [] a none first = ap (λ (b : Bool). b || false) first
again-push (x ∷ xs) a none first = let parts = or_parts (is_again x) (list_any is_again xs) none in (λ i. parts.0 i || again-push xs a parts.1 first i)

-- ---- what was listed

pub nodes-listed : (known rs : List Revision) (listed : List Arrival) → AreListed known rs listed → nodes_of listed ≡ changesets_of rs
nodes-listed known [] [] are = refl
nodes-listed known [] (a ∷ listed) are = absurd are
nodes-listed known (r ∷ rs) [] are = absurd are
nodes-listed known (r ∷ rs) (a ∷ listed) are = by r.group refl (nodes-listed (known_after known r) rs listed are.1)
  where
    by : (g : Group) → r.group ≡ g → nodes_of listed ≡ changesets_of rs → nodes_of (a ∷ listed) ≡ changesets_of (r ∷ rs)
    by Changesets e rest = let kind : a.kind ≡ kind_of Changesets = are.0.kind ∙ ap kind_of e in rw (kind, e) (λ i. are.0.node i ∷ rest i)
    by Manifests e rest = let kind : a.kind ≡ kind_of Manifests = are.0.kind ∙ ap kind_of e in rw (kind, e) rest
    by (FilesAt path) e rest = let kind : a.kind ≡ kind_of (FilesAt path) = are.0.kind ∙ ap kind_of e in rw (kind, e) rest

-- none of these changesets is known
abbrev AreFresh : List Revision → List Id → Type 0
AreFresh known nodes = Each (λ node. knows known Changesets node ≡ false) nodes

abbrev pub lacks : Id → List Id → Bool
lacks node nodes = not (list_any (bytes_eq node) nodes)

-- what isn't known after an addition wasn't known before it
fresh-before : (known : List Revision) (r : Revision) (nodes : List Id) → AreFresh (known_after known r) nodes → AreFresh known nodes
fresh-before known r [] fresh = tt
fresh-before known r (node ∷ nodes) fresh = (by (knows known Changesets node) refl, fresh-before known r nodes fresh.1)
  where
    by : (t : Bool) → knows known Changesets node ≡ t → knows known Changesets node ≡ false
    by false e = e
    by true e = absurd (true≢false (sym (holds-after known r Changesets node e) ∙ fresh.0))

not_there : (known : List Revision) (r : Revision) (nodes : List Id) → r.group ≡ Changesets → AreFresh (known_after known r) nodes → lacks r.node nodes ≡ true
not_there known r [] own fresh = refl
not_there known r (node ∷ nodes) own fresh = by (bytes_eq r.node node) refl (not_there known r nodes own fresh.1)
  where
    by : (t : Bool) → bytes_eq r.node node ≡ t → lacks r.node nodes ≡ true → lacks r.node (node ∷ nodes) ≡ true
    by false e rest = rw e rest
    by true e rest =
        let there : knows (known_after known r) Changesets node ≡ true =
        (λ i. knows (known_after known r) (sym own i) (sym ((bytes_eq-Decides r.node node).0 e) i)) ∙ knows-after known r in
        absurd (true≢false (sym there ∙ fresh.0))

-- ---- what comes once

pub fresh-once : (known rs : List Revision) (listed : List Arrival) → AreListed known rs listed → list_any is_again listed ≡ false
    → AreFresh known (changesets_of rs) × (has_distinct (changesets_of rs) ≡ true)
fresh-once known [] [] are once = (tt, refl)
fresh-once known [] (a ∷ listed) are once = absurd are
fresh-once known (r ∷ rs) [] are once = absurd are
fresh-once known (r ∷ rs) (a ∷ listed) are once =
    let parts = or_parts (is_again a) (list_any is_again listed) once in
    let later = fresh-once (known_after known r) rs listed are.1 parts.1 in
    by r.group refl parts.0 later
  where
    by : (g : Group) → r.group ≡ g → is_again a ≡ false → AreFresh (known_after known r) (changesets_of rs) × (has_distinct (changesets_of rs) ≡ true)
        → AreFresh known (changesets_of (r ∷ rs)) × (has_distinct (changesets_of (r ∷ rs)) ≡ true)
    by Manifests e first later = rw e (fresh-before known r (changesets_of rs) later.0, later.1)
    by (FilesAt path) e first later = rw e (fresh-before known r (changesets_of rs) later.0, later.1)
    by Changesets e first later =
        let kind : a.kind ≡ kind_of Changesets = are.0.kind ∙ ap kind_of e in
        let fresh : not a.fresh ≡ false = rw kind at first in
        let new : knows known Changesets r.node ≡ false = (λ i. knows known (sym e i) r.node) ∙ turned (knows known r.group r.node) (sym (ap not are.0.fresh) ∙ fresh) in
        let apart = not_there known r (changesets_of rs) e later.0 in
        rw e ((new, fresh-before known r (changesets_of rs) later.0), (λ i. apart i && later.1 i))
      where
        turned : (b : Bool) → not (not b) ≡ false → b ≡ false
        turned true h = h
        turned false h = refl

-- a revision that is added makes no other known
unknown-after : (known : List Revision) (r : Revision) (group : Group) (node : Id) → is_of group node r ≡ false → knows known group node ≡ false → knows (known_after known r) group node ≡ false
unknown-after known r group node other none = by (knows known r.group r.node) refl
  where
    last : knows (r ∷ []) group node ≡ false
    last = knows-cons r [] group node ∙ ap (λ (b : Bool). b || false) other

    by : (t : Bool) → knows known r.group r.node ≡ t → knows (known_after known r) group node ≡ false
    by true e = rw e none
    by false e = rw e (knows-append known (r ∷ []) group node ∙ (λ i. none i || last i))

fresh-after : (known : List Revision) (r : Revision) (nodes : List Id) → Each (λ node. is_of Changesets node r ≡ false) nodes → AreFresh known nodes → AreFresh (known_after known r) nodes
fresh-after known r [] other fresh = tt
fresh-after known r (node ∷ nodes) other fresh = (unknown-after known r Changesets node other.0 fresh.0, fresh-after known r nodes other.1 fresh.1)

others : (r : Revision) (nodes : List Id) → lacks r.node nodes ≡ true → Each (λ node. is_of Changesets node r ≡ false) nodes
others r [] apart = tt
others r (node ∷ nodes) apart = by (bytes_eq r.node node) refl (others r nodes)
  where
    and-false : (b : Bool) → (b && false) ≡ false
    and-false true = refl
    and-false false = refl

    by : (t : Bool) → bytes_eq r.node node ≡ t → (lacks r.node nodes ≡ true → Each (λ node. is_of Changesets node r ≡ false) nodes) → Each (λ node. is_of Changesets node r ≡ false) (node ∷ nodes)
    by true e later = absurd (true≢false (sym apart ∙ ap (λ (b : Bool). not (b || list_any (bytes_eq r.node) nodes)) e))
    by false e later =
        (ap (λ (b : Bool). same_group Changesets r.group && b) (bytes_eq-sym node r.node ∙ e) ∙ and-false (same_group Changesets r.group), later (sym (ap (λ (b : Bool). not (b || list_any (bytes_eq r.node) nodes)) e) ∙ apart))

others-group : (r : Revision) (nodes : List Id) → same_group Changesets r.group ≡ false → Each (λ node. is_of Changesets node r ≡ false) nodes
others-group r [] other = tt
others-group r (node ∷ nodes) other = (ap (λ (b : Bool). b && bytes_eq node r.node) other, others-group r nodes other)

pub once-fresh : (known rs : List Revision) (listed : List Arrival) → AreListed known rs listed → AreFresh known (changesets_of rs) → has_distinct (changesets_of rs) ≡ true → list_any is_again listed ≡ false
once-fresh known [] [] are fresh distinct = refl
once-fresh known [] (a ∷ listed) are fresh distinct = absurd are
once-fresh known (r ∷ rs) [] are fresh distinct = absurd are
once-fresh known (r ∷ rs) (a ∷ listed) are fresh distinct = by r.group refl (once-fresh (known_after known r) rs listed are.1) fresh distinct
  where
    Later : Type 0
    Later = AreFresh (known_after known r) (changesets_of rs) → has_distinct (changesets_of rs) ≡ true → list_any is_again listed ≡ false

    by : (g : Group) → r.group ≡ g → Later → AreFresh known (changesets_of (r ∷ rs)) → has_distinct (changesets_of (r ∷ rs)) ≡ true → list_any is_again (a ∷ listed) ≡ false
    by Manifests e later fresh distinct =
        let kind : a.kind ≡ kind_of Manifests = are.0.kind ∙ ap kind_of e in
        rw kind (later (fresh-after known r (changesets_of rs) (others-group r (changesets_of rs) (ap (same_group Changesets) e)) (rw e at fresh)) (rw e at distinct))
    by (FilesAt path) e later fresh distinct =
        let kind : a.kind ≡ kind_of (FilesAt path) = are.0.kind ∙ ap kind_of e in
        rw kind (later (fresh-after known r (changesets_of rs) (others-group r (changesets_of rs) (ap (same_group Changesets) e)) (rw e at fresh)) (rw e at distinct))
    by Changesets e later fresh distinct =
        let kind : a.kind ≡ kind_of Changesets = are.0.kind ∙ ap kind_of e in
        let f = rw e at fresh in
        let d = both (lacks r.node (changesets_of rs)) (has_distinct (changesets_of rs)) (rw e at distinct) in
        let is_fresh : a.fresh ≡ true = are.0.fresh ∙ ap not ((λ i. knows known (e i) r.node) ∙ f.0) in
        rw (kind, is_fresh) (later (fresh-after known r (changesets_of rs) (others r (changesets_of rs) d.0) f.1) d.1)

pub all-fresh : (nodes : List Id) → AreFresh [] nodes
all-fresh [] = tt
all-fresh (node ∷ nodes) = (refl, all-fresh nodes)
