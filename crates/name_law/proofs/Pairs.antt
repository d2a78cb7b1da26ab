-- Partners in a list of pairs, of which no first one stands twice.
use Rattle.std.proofs.Common.{◌≡◌, Bool, true, false, cond, not, ◌||◌, List, [], ◌∷◌, map, Option, Some, refl, sym, ap, subst, ◌∙◌, true≢false}
use Rattle.std.specs.Prelude.{option_map, is_some, bytes_eq}
use Rattle.std.specs.List.{find, list_any}
use Rattle.text_model.specs.Lists.{Each}
use Rattle.text_model.specs.Id.{Id, IsId, has_id}
use Rattle.text_model.proofs.TestLemmas.{both, bytes_eq-self, bytes_eq-is}
use Rattle.text_model.proofs.Options.{some_is, none_some, not_true, or_parts}
use Rattle.git_model.specs.Tree.{has_distinct}

-- ---- what is found in a list

module _ {X : Type 0} (test : X → Bool) where
  pub found_passes : (xs : List X) (x : X) → find test xs ≡ Some x → test x ≡ true
  found_passes [] x h = absurd (none_some h)
  found_passes (y ∷ ys) x h = by (test y) refl (found_passes ys x)
    where
      by : (b : Bool) → test y ≡ b → (find test ys ≡ Some x → test x ≡ true) → test x ≡ true
      by true t later = subst (λ (z : X). test z ≡ true) (some_is (sym (ap (λ (c : Bool). cond c (Some y) (find test ys)) t) ∙ h)) t
      by false t later = later (sym (ap (λ (c : Bool). cond c (Some y) (find test ys)) t) ∙ h)

-- an id that stands among ids is one
pub among_ids : (ids : List Id) (id : Id) → Each IsId ids → has_id ids id ≡ true → IsId id
among_ids [] id h k = absurd (true≢false (sym k))
among_ids (x ∷ ids) id h k = by (bytes_eq id x) refl (among_ids ids id h.1)
  where
    by : (b : Bool) → bytes_eq id x ≡ b → (has_id ids id ≡ true → IsId id) → IsId id
    by true t later = subst IsId (sym (bytes_eq-is id x t)) h.0
    by false t later = later (sym (ap (λ (c : Bool). c || has_id ids id) t) ∙ k)

-- ---- partners

abbrev pub Pairs : Type 0
Pairs = List (Id × Id)

abbrev pub second_of : Pairs → Id → Option Id
second_of pairs node = option_map (λ e. e.1) (find (λ e. bytes_eq e.0 node) pairs)

abbrev pub first_of : Pairs → Id → Option Id
first_of pairs id = option_map (λ e. e.0) (find (λ e. bytes_eq e.1 id) pairs)

firsts : Pairs → List Id
firsts pairs = map (λ e. e.0) pairs

-- the first of the pairs, by the answer of its test
turn : (pick : Id × Id → Id) (test : Id × Id → Bool) (e : Id × Id) (pairs : Pairs) (b : Bool) → test e ≡ b
    → option_map pick (find test (e ∷ pairs)) ≡ option_map pick (cond b (Some e) (find test pairs))
turn pick test e pairs b t = ap (λ (c : Bool). option_map pick (cond c (Some e) (find test pairs))) t

-- a first one that stands nowhere is none of those that have a second
another : (pairs : Pairs) (x node id : Id) → list_any (bytes_eq x) (firsts pairs) ≡ false → second_of pairs node ≡ Some id → bytes_eq x node ≡ false
unfolding firsts
another [] x node id lone found = absurd (none_some found)
another (e ∷ pairs) x node id lone found =
    let parts = or_parts (bytes_eq x e.0) (list_any (bytes_eq x) (firsts pairs)) lone in
    by (bytes_eq e.0 node) refl parts.0 (another pairs x node id parts.1)
  where
    by : (b : Bool) → bytes_eq e.0 node ≡ b → bytes_eq x e.0 ≡ false → (second_of pairs node ≡ Some id → bytes_eq x node ≡ false) → bytes_eq x node ≡ false
    by true t other later = ap (bytes_eq x) (sym (bytes_eq-is e.0 node t)) ∙ other
    by false t other later = later (sym (turn (λ q. q.1) (λ q. bytes_eq q.0 node) e pairs false t) ∙ found)

pub record ArePartners (pairs : Pairs) (node id : Id) : Type 0 where
  pub second : second_of pairs node ≡ Some id
  pub node_is : IsId node
  pub id_is : IsId id

-- the first that is found of a second has that one as its own
pub partners : (pairs : Pairs) (node id : Id) → Each (λ e. IsId e.0 × IsId e.1) pairs → has_distinct (map (λ e. e.0) pairs) ≡ true → first_of pairs id ≡ Some node → ArePartners pairs node id
unfolding firsts
partners [] node id ids distinct found = absurd (none_some found)
partners (e ∷ pairs) node id ids distinct found =
    let parts = both (not (list_any (bytes_eq e.0) (firsts pairs))) (has_distinct (firsts pairs)) distinct in
    by (bytes_eq e.1 id) refl (not_true (list_any (bytes_eq e.0) (firsts pairs)) parts.0) (partners pairs node id ids.1 parts.1)
  where
    by : (b : Bool) → bytes_eq e.1 id ≡ b → list_any (bytes_eq e.0) (firsts pairs) ≡ false → (first_of pairs id ≡ Some node → ArePartners pairs node id) → ArePartners (e ∷ pairs) node id
    by true t lone later =
        let here : e.0 ≡ node = some_is (sym (turn (λ q. q.0) (λ q. bytes_eq q.1 id) e pairs true t) ∙ found) in
        let there : e.1 ≡ id = bytes_eq-is e.1 id t in
        record {
          second = turn (λ q. q.1) (λ q. bytes_eq q.0 node) e pairs true (ap (bytes_eq e.0) (sym here) ∙ bytes_eq-self e.0) ∙ ap Some there;
          node_is = subst IsId here ids.0.0;
          id_is = subst IsId there ids.0.1;
        }
    by false t lone later =
        let p : ArePartners pairs node id = later (sym (turn (λ q. q.0) (λ q. bytes_eq q.1 id) e pairs false t) ∙ found) in
        record {
          second = turn (λ q. q.1) (λ q. bytes_eq q.0 node) e pairs false (another pairs e.0 node id lone p.second) ∙ p.second;
          node_is = p.node_is;
          id_is = p.id_is;
        }

-- the second that is found of a first one has some first one
pub leads_back : (pairs : Pairs) (node id : Id) → second_of pairs node ≡ Some id → is_some (first_of pairs id) ≡ true
leads_back [] node id found = absurd (none_some found)
leads_back (e ∷ pairs) node id found = by (bytes_eq e.0 node) refl (leads_back pairs node id)
  where
    more : (b : Bool) → is_some (first_of pairs id) ≡ true → is_some (option_map (λ q. q.0) (cond b (Some e) (find (λ q. bytes_eq q.1 id) pairs))) ≡ true
    more true k = refl
    more false k = k

    by : (b : Bool) → bytes_eq e.0 node ≡ b → (second_of pairs node ≡ Some id → is_some (first_of pairs id) ≡ true) → is_some (first_of (e ∷ pairs) id) ≡ true
    by true t later =
        let there : e.1 ≡ id = some_is (sym (turn (λ q. q.1) (λ q. bytes_eq q.0 node) e pairs true t) ∙ found) in
        ap is_some (turn (λ q. q.0) (λ q. bytes_eq q.1 id) e pairs true (ap (bytes_eq e.1) (sym there) ∙ bytes_eq-self e.1))
    by false t later = more (bytes_eq e.1 id) (later (sym (turn (λ q. q.1) (λ q. bytes_eq q.0 node) e pairs false t) ∙ found))
