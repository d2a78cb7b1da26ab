-- Known links lead from a changeset's first parent to the partners of its commit's parents.
use Rattle.std.proofs.Common.{◌≡◌, ◌≤◌, ◌<◌, ◌+◌, ◌-◌, ◌^◌, ℕ, zero, suc, Bool, true, false, true≢false, List, [], ◌∷◌, ◌++◌, length, length-append, map, Option, Some, None, refl, sym, ap, subst, ◌∙◌, arith, append_assoc}
use Rattle.std.specs.Prelude.{◌&&◌, MatchOption, bytes_eq, decimal}
use Rattle.std.proofs.lemmas.Bool.{and_parts}
use Rattle.std.proofs.lemmas.Slice.Eq.{bytes_eq-Decides}
use Rattle.text_model.specs.Lists.{Each}
use Rattle.text_model.specs.Text.{Bytes}
use Rattle.text_model.specs.Id.{Id, IsId, is_null, node_id}
use Rattle.text_model.proofs.EachLemmas.{Each-append}
use Rattle.text_model.proofs.Options.{some_is}
use Rattle.hg_model.specs.Changeset.{Changeset, IsChangesetText, changeset_text}
use Rattle.hg_model.specs.Revision.{Revision, Changesets, revision_of}
use Rattle.hg_store.specs.Known.{AreAdded}
use Rattle.pair_known.proofs.HeldViews.{held-as}
use Rattle.view_model.specs.View.{Row, SameRows, ChangesetView, changeset_node, SameChangeset}
use Rattle.pair_model.specs.Octopus.{link_view, links_over, is_link, last_id}
use Rattle.pair_model.proofs.LinkValues.{value-parts, value-right}
use Rattle.partner_model.specs.Filled.{is_numbered, Walks}
use Rattle.partner_model.specs.Partner.{IsHeldView, IsKnownAs}

-- ---- one walk leads to one list

pub one-walk : (known : List Revision) (n k : ℕ) (node : Id) (a b : List Id) → Walks known n k node a → Walks known n k node b → a ≡ b
unfolding Walks
one-walk known n zero node a b h j = h ∙ sym j
one-walk known n (suc k) node a b h j =
    let same : h.0 ≡ j.0 = some_is (sym h.1 ∙ j.1) in
    let front = one-walk known n k (j.0).p h.5 j.5 (subst (λ (r : Revision). Walks known n k r.p h.5) same h.6) j.6 in
    h.7 ∙ (λ i. front i ++ (same i).q ∷ []) ∙ sym j.7

-- ---- a link

own : (x : Bytes) → bytes_eq x x ≡ true
own x = (bytes_eq-Decides x x).1 refl

-- link k of n is one
module _ (id : Id) (is : IsId id) (base : ChangesetView) (n k : ℕ) (p q : Id) (some-p : is_null p ≡ false) (some-q : is_null q ≡ false) (least : 3 ≤ n) (most : n ≤ 64) (low : 1 ≤ k) (high : k + 2 ≤ n) where
  pub link-is : (is_link (link_view id base n k p q).fields p q && is_numbered k n ((link_view id base n k p q).fields).date) ≡ true
  unfolding link_view is_link
  link-is =
      let hk : k < 2 ^ 64 = omega arith in
      let hn : n < 2 ^ 64 = omega arith in
      rw (some-p, some-q, value-parts id is k n hk hn, value-right id is k n most low high, own (decimal k), own (decimal n)) refl

-- ---- known links are a walk

pub node-same : (a b : ChangesetView) → SameChangeset a b → changeset_node a ≡ changeset_node b
unfolding changeset_node
node-same a b s = λ i. node_id (s.p i) (s.q i) (changeset_text (s.fields i))

same_rows : (rows : List Row) → SameRows rows rows
same_rows [] = tt
same_rows (r ∷ rows) = ((refl, refl, refl), same_rows rows)

pub same_self : (h : ChangesetView) → SameChangeset h h
same_self h = record { p = refl; q = refl; fields = refl; manifest = refl; rows = same_rows h.rows }

link-p : (id : Id) (base : ChangesetView) (n k : ℕ) (p q : Id) → (link_view id base n k p q).p ≡ p
unfolding link_view
link-p id base n k p q = refl

link-q : (id : Id) (base : ChangesetView) (n k : ℕ) (p q : Id) → (link_view id base n k p q).q ≡ q
unfolding link_view
link-q id base n k p q = refl

pub last-rest : (x : Id) (rest : List Id) → 1 ≤ length rest → last_id rest ≡ last_id (x ∷ rest)
last-rest x [] some = absurd (omega arith)
last-rest x (y ∷ rest) some = refl

-- what leads on from there
pub record LeadsOn (known : List Revision) (n : ℕ) (node : Id) (nodes : List Id) : Type 0 where
  pub ids : List Id
  pub walk : Walks known n (n - 2) node ids
  pub are : nodes ≡ ids ++ last_id nodes ∷ []

module _ (known : List Revision) (added : AreAdded known) (id : Id) (is : IsId id) (base : ChangesetView) (n : ℕ) (least : 3 ≤ n) (most : n ≤ 64) where
  -- one link more
  one-more : (k : ℕ) (before x : Id) (front : List Id) → Walks known n k before front → is_null before ≡ false → is_null x ≡ false → k + 3 ≤ n → IsKnownAs (IsHeldView known) (link_view id base n (k + 1) before x)
      → Walks known n (k + 1) (changeset_node (link_view id base n (k + 1) before x)) (front ++ x ∷ []) × (is_null (changeset_node (link_view id base n (k + 1) before x)) ≡ false)
  unfolding Walks
  one-more k before x front walk some-before some-x room h =
      let l = link_view id base n (k + 1) before x in
      let view = h.0 in
      let held = h.1 in
      let same = h.2 in
      let r = held.revision in
      let node : changeset_node h.0 ≡ changeset_node (link_view id base n (k + 1) before x) = node-same view l same in
      let at : revision_of known Changesets (changeset_node (link_view id base n (k + 1) before x)) ≡ Some held.revision = ap (revision_of known Changesets) (sym node) ∙ held.is_held in
      let first : (held.revision).p ≡ before = sym held.parents.0 ∙ same.p ∙ link-p id base n (k + 1) before x in
      let second : (held.revision).q ≡ x = sym held.parents.1 ∙ same.q ∙ link-q id base n (k + 1) before x in
      let text : IsChangesetText (held.revision).text (link_view id base n (k + 1) before x).fields = subst (IsChangesetText r.text) same.fields held.fields in
      let plus : k + 1 ≡ suc k = omega arith in
      let right : (is_link (link_view id base n (k + 1) before x).fields (held.revision).p (held.revision).q && is_numbered (suc k) n ((link_view id base n (k + 1) before x).fields).date) ≡ true =
      (λ i. is_link (link_view id base n (k + 1) before x).fields (first i) (second i) && is_numbered (sym plus i) n ((link_view id base n (k + 1) before x).fields).date)
      ∙ link-is id is base n (k + 1) before x some-before some-x least most (omega arith) (omega arith) in
      let step : Walks known n (suc k) (changeset_node (link_view id base n (k + 1) before x)) (front ++ x ∷ []) =
      (r, at, l.fields, text, right, front, subst (λ (y : Id). Walks known n k y front) (sym first) walk, ap (λ (y : Id). front ++ y ∷ []) (sym second)) in (
        subst (λ (j : ℕ). Walks known n j (changeset_node (link_view id base n (k + 1) before x)) (front ++ x ∷ [])) (sym plus) step,
        (held-as known added Changesets (changeset_node l) r at).some,
      )

  walk-along : (rest : List Id) (k : ℕ) (before : Id) (front : List Id) → Walks known n k before front → is_null before ≡ false → Each (λ x. is_null x ≡ false) rest
      → Each (IsKnownAs (IsHeldView known)) (links_over id base n (k + 1) before rest) → k + length rest + 1 ≡ n → 1 ≤ length rest
      → (ids : List Id) × Walks known n (n - 2) (last_id (before ∷ map changeset_node (links_over id base n (k + 1) before rest))) ids × (front ++ rest ≡ ids ++ last_id rest ∷ [])
  unfolding links_over
  walk-along [] k before front walk some some-rest all count there = absurd (omega arith)
  walk-along (x ∷ []) k before front walk some some-rest all count there =
      let here : k ≡ n - 2 = omega arith in
      (front, subst (λ (j : ℕ). Walks known n j before front) here walk, refl)
  walk-along (x ∷ y ∷ more) k before front walk some some-rest all count there =
      let step = one-more k before x front walk some some-rest.0 (omega (arith, count)) all.0 in
      let l = link_view id base n (k + 1) before x in
      let rest = walk-along (y ∷ more) (k + 1) (changeset_node l) (front ++ x ∷ []) step.0 step.1 some-rest.1 all.1 (omega (arith, count)) (omega arith) in
      (rest.0, rest.1, sym (append_assoc front (x ∷ []) (y ∷ more)) ∙ rest.2)

  pub leads-on : (x : Id) (rest : List Id) → is_null x ≡ false → Each (λ y. is_null y ≡ false) rest → Each (IsKnownAs (IsHeldView known)) (links_over id base n 1 x rest) → length rest + 1 ≡ n
      → LeadsOn known n (last_id (x ∷ map changeset_node (links_over id base n 1 x rest))) (x ∷ rest)
  unfolding Walks
  leads-on x rest some some-rest all count =
      let walk : Walks known n 0 x (x ∷ []) = refl in
      let on = walk-along rest 0 x (x ∷ []) walk some some-rest all (omega (arith, count)) (omega (arith, count)) in
      record { ids = on.0; walk = on.1; are = on.2 ∙ ap (λ (z : Id). on.0 ++ z ∷ []) (last-rest x rest (omega (arith, count))) }

-- ---- what is found, or not

pub walk-none : (known : List Revision) (n k : ℕ) (node : Id) (o : Option (List Id)) → o ≡ None → MatchOption o ((ids : List Id) → ¬ (Walks known n k node ids)) (Walks known n k node) → (ids : List Id) → ¬ (Walks known n k node ids)
walk-none known n k node o e h = subst (λ (x : Option (List Id)). MatchOption x ((ids : List Id) → ¬ (Walks known n k node ids)) (Walks known n k node)) e h

pub walk-some : (known : List Revision) (n k : ℕ) (node : Id) (o : Option (List Id)) (ids : List Id) → o ≡ Some ids → MatchOption o ((xs : List Id) → ¬ (Walks known n k node xs)) (Walks known n k node) → Walks known n k node ids
walk-some known n k node o ids e h = subst (λ (x : Option (List Id)). MatchOption x ((xs : List Id) → ¬ (Walks known n k node xs)) (Walks known n k node)) e h

-- ---- the nodes of a walk

link-some : (x : Changeset) (p q : Id) (t : Bool) → (is_link x p q && t) ≡ true → (is_null p ≡ false) × (is_null q ≡ false)
unfolding is_link
link-some x p q t h =
    let link = (and_parts (is_link x p q) t h).0 in
    by (is_null p) (is_null q) refl refl link
  where
    by : (a b : Bool) → is_null p ≡ a → is_null q ≡ b → is_link x p q ≡ true → (is_null p ≡ false) × (is_null q ≡ false)
    by true b e f g = let no : false ≡ true = rw e at g in absurd (true≢false (sym no))
    by false true e f g = let no : false ≡ true = rw (e, f) at g in absurd (true≢false (sym no))
    by false false e f g = (e, f)

pub walk-some-nodes : (known : List Revision) (n k : ℕ) (node : Id) (ids : List Id) → is_null node ≡ false → Walks known n k node ids → Each (λ x. is_null x ≡ false) ids
unfolding Walks
walk-some-nodes known n zero node ids some h = subst (Each (λ x. is_null x ≡ false)) (sym h) (some, tt)
walk-some-nodes known n (suc k) node ids some h =
    let both = link-some h.2 (h.0).p (h.0).q (is_numbered (suc k) n (h.2).date) h.4 in
    let front = walk-some-nodes known n k (h.0).p h.5 both.0 h.6 in
    subst (Each (λ x. is_null x ≡ false)) (sym h.7) (Each-append (λ x. is_null x ≡ false) h.5 ((h.0).q ∷ []) front (both.1, tt))

pub walk-length : (known : List Revision) (n k : ℕ) (node : Id) (ids : List Id) → Walks known n k node ids → length ids ≡ k + 1
unfolding Walks
walk-length known n zero node ids h = ap length h
walk-length known n (suc k) node ids h =
    let front = walk-length known n k (h.0).p h.5 h.6 in
    omega (arith, ap length h.7, length-append h.5 ((h.0).q ∷ []), front)

pub walk-known : (known : List Revision) → AreAdded known → (n k : ℕ) (node : Id) (ids : List Id) → 1 ≤ k → Walks known n k node ids → is_null node ≡ false
unfolding Walks
walk-known known added n zero node ids some h = absurd (omega arith)
walk-known known added n (suc k) node ids some h = (held-as known added Changesets node h.0 h.1).some

pub last-put : (xs : List Id) (q : Id) → last_id (xs ++ q ∷ []) ≡ q
last-put [] q = refl
last-put (x ∷ []) q = refl
last-put (x ∷ y ∷ xs) q = last-put (y ∷ xs) q
