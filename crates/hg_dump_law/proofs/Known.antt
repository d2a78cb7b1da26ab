-- What is known of revisions, and what is known after more of them.
use Rattle.std.proofs.Common.{◌≡◌, ◌&&◌, ◌||◌, ◌⊎◌, inl, inr, Bool, true, false, true≢false, not, List, [], ◌∷◌, ◌++◌, refl, sym, ap, subst, ◌∙◌, append_assoc}
use Rattle.std.specs.Prelude.{bytes_eq, filter}
use Rattle.std.specs.List.{list_any}
use Rattle.std.proofs.lemmas.Slice.Eq.{bytes_eq-Decides}
use Rattle.std.proofs.lemmas.Bool.{or_cases, or_left, or_right}
use Rattle.text_model.specs.Lists.{Each, first_of_each, only_new}
use Rattle.text_model.specs.Id.{Id}
use Rattle.text_model.proofs.TestLemmas.{both, bytes_eq-sym}
use Rattle.hg_model.proofs.RevisionLemmas.{is_of-self, same_group-is, same_group-sym}
use Rattle.hg_model.specs.Revision.{Group, Revision, is_of, knows, known_after, same_group, same_revision, known_after_all}
use Rattle.view_model.specs.Dump.{of_group}

abbrev pub IsKnown : List Revision → Group → Id → Type 0
IsKnown known group node = knows known group node ≡ true

-- what the first of a group knows, the second knows
abbrev pub HoldsIn : Group → List Revision → List Revision → Type 0
HoldsIn group small large = (node : Id) → IsKnown small group node → IsKnown large group node

abbrev pub Holds : List Revision → List Revision → Type 0
Holds small large = (group : Group) → HoldsIn group small large

-- ---- tests

-- the group and the node of one that passes
pub record Is (group : Group) (node : Id) (r : Revision) : Type 0 where
  pub group_is : group ≡ r.group
  pub node_is : node ≡ r.node

pub is_of-is : (group : Group) (node : Id) (r : Revision) → is_of group node r ≡ true → Is group node r
is_of-is group node r h =
    let parts = both (same_group group r.group) (bytes_eq node r.node) h in
    record { group_is = same_group-is group r.group parts.0; node_is = (bytes_eq-Decides node r.node).0 parts.1 }

-- ---- what lists know

pub knows-cons : (x : Revision) (xs : List Revision) (group : Group) (node : Id) → knows (x ∷ xs) group node ≡ (is_of group node x || knows xs group node)
knows-cons x xs group node = by (is_of group node x) refl
  where
    by : (b : Bool) → is_of group node x ≡ b → knows (x ∷ xs) group node ≡ (is_of group node x || knows xs group node)
    by true e = rw e refl
    by false e = rw e refl

or_assoc : (a b c : Bool) → (a || (b || c)) ≡ ((a || b) || c)
or_assoc true b c = refl
or_assoc false b c = refl

pub knows-append : (xs ys : List Revision) (group : Group) (node : Id) → knows (xs ++ ys) group node ≡ (knows xs group node || knows ys group node)
knows-append [] ys group node = refl
knows-append (x ∷ xs) ys group node =
    knows-cons x (xs ++ ys) group node ∙ ap (λ (b : Bool). is_of group node x || b) (knows-append xs ys group node)
    ∙ or_assoc (is_of group node x) (knows xs group node) (knows ys group node)
    ∙ ap (λ (b : Bool). b || knows ys group node) (sym (knows-cons x xs group node))

pub holds-left : (xs ys : List Revision) → Holds xs (xs ++ ys)
holds-left xs ys group node h = knows-append xs ys group node ∙ or_left (knows xs group node) (knows ys group node) h

pub holds-right : (xs ys : List Revision) → Holds ys (xs ++ ys)
holds-right xs ys group node h = knows-append xs ys group node ∙ or_right (knows xs group node) (knows ys group node) h

pub knows-last : (xs : List Revision) (r : Revision) → IsKnown (xs ++ r ∷ []) r.group r.node
knows-last xs r = holds-right xs (r ∷ []) r.group r.node (knows-cons r [] r.group r.node ∙ or_left (is_of r.group r.node r) false (is_of-self r))

-- two lists whose revisions are known
pub holds-both : (group : Group) (xs ys large : List Revision) → HoldsIn group xs large → HoldsIn group ys large → HoldsIn group (xs ++ ys) large
holds-both group xs ys large h k node e = by (or_cases (knows xs group node) (knows ys group node) (sym (knows-append xs ys group node) ∙ e))
  where
    by : ((knows xs group node ≡ true) ⊎ (knows ys group node ≡ true)) → IsKnown large group node
    by (inl a) = h node a
    by (inr b) = k node b

-- a list each of which is known
pub holds-each : (xs large : List Revision) → Each (λ r. IsKnown large r.group r.node) xs → Holds xs large
holds-each [] large h group node e = absurd (true≢false (sym e))
holds-each (x ∷ xs) large h group node e = by (or_cases (is_of group node x) (knows xs group node) (sym (knows-cons x xs group node) ∙ e)) (holds-each xs large h.1 group node)
  where
    by : ((is_of group node x ≡ true) ⊎ (knows xs group node ≡ true)) → (IsKnown xs group node → IsKnown large group node) → IsKnown large group node
    by (inl a) later = let is = is_of-is group node x a in subst (λ (n : Id). IsKnown large group n) (sym is.node_is) (subst (λ (g : Group). IsKnown large g x.node) (sym is.group_is) h.0)
    by (inr b) later = later b

-- ---- after additions

pub holds-after : (known : List Revision) (r : Revision) → Holds known (known_after known r)
holds-after known r group node h = by (knows known r.group r.node) refl
  where
    by : (b : Bool) → knows known r.group r.node ≡ b → IsKnown (known_after known r) group node
    by true e = rw e h
    by false e = rw e (holds-left known (r ∷ []) group node h)

pub knows-after : (known : List Revision) (r : Revision) → IsKnown (known_after known r) r.group r.node
knows-after known r = by (knows known r.group r.node) refl
  where
    by : (b : Bool) → knows known r.group r.node ≡ b → IsKnown (known_after known r) r.group r.node
    by true e = rw e e
    by false e = rw e (knows-last known r)

pub holds-after_all : (known rs : List Revision) → Holds known (known_after_all known rs)
holds-after_all known [] group node h = h
holds-after_all known (r ∷ rs) group node h = holds-after_all (known_after known r) rs group node (holds-after known r group node h)

-- those of a group are known after them
pub knows-group : (group : Group) (known rs : List Revision) → HoldsIn group rs (known_after_all known (of_group group rs))
knows-group group known [] node h = absurd (true≢false (sym h))
knows-group group known (r ∷ rs) node h = by (same_group group r.group) refl (or_cases (is_of group node r) (knows rs group node) (sym (knows-cons r rs group node) ∙ h)) (λ k. knows-group group k rs node)
  where
    by : (b : Bool) → same_group group r.group ≡ b → ((is_of group node r ≡ true) ⊎ (knows rs group node ≡ true)) → ((k : List Revision) → IsKnown rs group node → IsKnown (known_after_all k (of_group group rs)) group node)
        → IsKnown (known_after_all known (of_group group (r ∷ rs))) group node
    by true e (inl a) later =
        let is = is_of-is group node r a in
        rw e (holds-after_all (known_after known r) (of_group group rs) group node
        (subst (λ (n : Id). IsKnown (known_after known r) group n) (sym is.node_is) (subst (λ (g : Group). IsKnown (known_after known r) g r.node) (sym is.group_is) (knows-after known r))))
    by true e (inr b) later = rw e (later (known_after known r) b)
    by false e (inl a) later = absurd (true≢false (sym (both (same_group group r.group) (bytes_eq node r.node) a).0 ∙ e))
    by false e (inr b) later = rw e (later known b)

-- ---- what is new

any-knows : (r : Revision) (xs : List Revision) → list_any (same_revision r) xs ≡ knows xs r.group r.node
any-knows r [] = refl
any-knows r (x ∷ xs) = ap (λ (b : Bool). same_revision r x || b) (any-knows r xs) ∙ sym (knows-cons x xs r.group r.node)

same-sym : (a b : Revision) → same_revision a b ≡ same_revision b a
same-sym a b = (λ i. same_group-sym a.group b.group i && bytes_eq-sym a.node b.node i)

filter-twice : (p q s : Revision → Bool) → ((x : Revision) → (q x && p x) ≡ s x) → (xs : List Revision) → filter p (filter q xs) ≡ filter s xs
filter-twice p q s e [] = refl
filter-twice p q s e (x ∷ xs) = by (q x) refl (p x) refl (filter-twice p q s e xs)
  where
    by : (b : Bool) → q x ≡ b → (c : Bool) → p x ≡ c → filter p (filter q xs) ≡ filter s xs → filter p (filter q (x ∷ xs)) ≡ filter s (x ∷ xs)
    by true t true u rest = let is : s x ≡ true = sym (e x) ∙ rw (t, u) refl in rw (t, u, is) (ap (λ (l : List Revision). x ∷ l) rest)
    by true t false u rest = let is : s x ≡ false = sym (e x) ∙ rw (t, u) refl in rw (t, u, is) rest
    by false t c u rest = let is : s x ≡ false = sym (e x) ∙ rw t refl in rw (t, is) rest

-- the first of a list is new, or known and left out
pub new-known : (old : List Revision) (x : Revision) (xs : List Revision) → knows old x.group x.node ≡ true → only_new same_revision old (x ∷ xs) ≡ only_new same_revision old xs
new-known old x xs e =
    let here : list_any (same_revision x) old ≡ true = any-knows x old ∙ e in
    rw here (filter-twice (λ y. not (list_any (same_revision y) old)) (λ y. not (same_revision x y)) (λ y. not (list_any (same_revision y) old)) alike (first_of_each same_revision xs))
  where
    alike : (y : Revision) → (not (same_revision x y) && not (list_any (same_revision y) old)) ≡ not (list_any (same_revision y) old)
    alike y = by (same_revision x y) refl
      where
        by : (b : Bool) → same_revision x y ≡ b → (not (same_revision x y) && not (list_any (same_revision y) old)) ≡ not (list_any (same_revision y) old)
        by true t =
            let is = is_of-is x.group x.node y t in
            let there : list_any (same_revision y) old ≡ true = any-knows y old ∙ (λ i. knows old (sym is.group_is i) (sym is.node_is i)) ∙ e in
            rw (t, there) refl
        by false t = rw t refl

any-append : (p : Revision → Bool) (xs ys : List Revision) → list_any p (xs ++ ys) ≡ (list_any p xs || list_any p ys)
any-append p [] ys = refl
any-append p (x ∷ xs) ys = ap (λ (b : Bool). p x || b) (any-append p xs ys) ∙ or_assoc (p x) (list_any p xs) (list_any p ys)

pub new-first : (old : List Revision) (x : Revision) (xs : List Revision) → knows old x.group x.node ≡ false → only_new same_revision old (x ∷ xs) ≡ x ∷ only_new same_revision (old ++ x ∷ []) xs
new-first old x xs e =
    let here : list_any (same_revision x) old ≡ false = any-knows x old ∙ e in
    rw here (ap (λ (l : List Revision). x ∷ l)
    (filter-twice (λ y. not (list_any (same_revision y) old)) (λ y. not (same_revision x y)) (λ y. not (list_any (same_revision y) (old ++ x ∷ []))) alike (first_of_each same_revision xs)))
  where
    turned : (a b : Bool) → (not a && not b) ≡ not (b || (a || false))
    turned true true = refl
    turned true false = refl
    turned false true = refl
    turned false false = refl

    alike : (y : Revision) → (not (same_revision x y) && not (list_any (same_revision y) old)) ≡ not (list_any (same_revision y) (old ++ x ∷ []))
    alike y =
        turned (same_revision x y) (list_any (same_revision y) old)
        ∙ ap (λ (b : Bool). not (list_any (same_revision y) old || (b || false))) (same-sym x y)
        ∙ ap not (sym (any-append (same_revision y) old (x ∷ [])))

-- each is known where all are
pub each-known : (ys large : List Revision) → Holds ys large → Each (λ r. IsKnown large r.group r.node) ys
each-known [] large h = tt
each-known (y ∷ ys) large h = (h y.group y.node (knows-cons y ys y.group y.node ∙ or_left (is_of y.group y.node y) (knows ys y.group y.node) (is_of-self y)), each-known ys large (λ g n k. h g n (knows-cons y ys g n ∙ or_right (is_of g n y) (knows ys g n) k)))

-- all are known, or new
pub holds-new : (old xs : List Revision) → Holds xs (old ++ only_new same_revision old xs)
holds-new old [] = λ group node h. absurd (true≢false (sym h))
holds-new old (x ∷ xs) = by (knows old x.group x.node) refl (λ l. holds-new l xs)
  where
    by : (b : Bool) → knows old x.group x.node ≡ b → ((l : List Revision) → Holds xs (l ++ only_new same_revision l xs)) → Holds (x ∷ xs) (old ++ only_new same_revision old (x ∷ xs))
    by true e later = rw (new-known old x xs e) (holds-each (x ∷ xs) (old ++ only_new same_revision old xs) (holds-left old (only_new same_revision old xs) x.group x.node e, each-known xs (old ++ only_new same_revision old xs) (later old)))
    by false e later =
        let more = only_new same_revision (old ++ x ∷ []) xs in
        subst (λ (l : List Revision). Holds (x ∷ xs) l) (append_assoc old (x ∷ []) more ∙ ap (λ (l : List Revision). old ++ l) (sym (new-first old x xs e)))
        (holds-each (x ∷ xs) ((old ++ x ∷ []) ++ more) (holds-left (old ++ x ∷ []) more x.group x.node (knows-last old x), each-known xs ((old ++ x ∷ []) ++ more) (later (old ++ x ∷ []))))
