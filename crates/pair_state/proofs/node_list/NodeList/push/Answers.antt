use Rattle.std.proofs.Common.{◌≡◌, ◌++◌, ◌∷◌, [], ◌||◌, Bool, true, false, List, Ok, Result, IfOk, refl, sym, ap, subst, ◌∙◌, bytes_eq}
use Rattle.std.specs.Prelude.{if◌then◌else◌}
use Rattle.std.proofs.lemmas.List.Folds.{list_any-append}
use Rattle.std.proofs.lemmas.Slice.Eq.{bytes_eq-Decides}
use Rattle.text_model.specs.Id.{Id, has_id}
use Rattle.pair_state.proofs.node_list.NodeList.push.Goals as goal

if_ok : {A B : Type 0} (r : Result A B) (x : A) (P : A → Type 0) → r ≡ Ok x → IfOk r P → P x
if_ok {A} {B} r x P is h = subst (λ (r : Result A B). IfOk r P) is h

-- an id more, unless it stands there already
with-one : (keys : List Id) (node id : Id) → has_id (if has_id keys node then keys else (keys ++ node ∷ [])) id ≡ (has_id keys id || bytes_eq id node)
with-one keys node id = by (has_id keys node) refl (bytes_eq id node) refl
  where
    or-true : (t : Bool) → (t || true) ≡ true
    or-true true = refl
    or-true false = refl

    or-false : (t : Bool) → t ≡ (t || false)
    or-false true = refl
    or-false false = refl

    by : (t : Bool) → has_id keys node ≡ t → (u : Bool) → bytes_eq id node ≡ u → has_id (if t then keys else (keys ++ node ∷ [])) id ≡ (has_id keys id || u)
    by true e true f = ap (has_id keys) ((bytes_eq-Decides id node).0 f) ∙ e ∙ sym (or-true (has_id keys id))
    by true e false f = or-false (has_id keys id)
    by false e u f = list_any-append (bytes_eq id) keys (node ∷ []) ∙ ap (λ (t : Bool). has_id keys id || (t || false)) f ∙ ap (λ (t : Bool). has_id keys id || t) (sym (or-false u))

pub invariant_of-self-2 : goal.invariant_of-self-2
invariant_of-self-2 c = λ id.
    let node = c.args.node in
    let old = c.self.inside.set.keys in
    let keys : c.insert.new.self.keys ≡ (if has_id c.reserve.new.self.keys node then c.reserve.new.self.keys else (c.reserve.new.self.keys ++ node ∷ [])) =
    if_ok c.insert.result c.unwrap.result (λ _. c.insert.new.self.keys ≡ (if has_id c.reserve.new.self.keys node then c.reserve.new.self.keys else (c.reserve.new.self.keys ++ node ∷ []))) c.unwrap.ensures c.insert.ensures.keys in
    ap (λ (l : List Id). has_id l id) (keys ∙ ap (λ (l : List Id). if has_id l node then l else (l ++ node ∷ [])) c.reserve.ensures.keys)
    ∙ with-one old node id ∙ ap (λ (t : Bool). t || bytes_eq id node) (c.self.invariant id)
    ∙ sym (last (c.self.inside.nodes) node id) ∙ sym (ap (λ (l : List Id). has_id l id) c.in_ok-push.ensures.ok)
  where
    last : (xs : List Id) (node id : Id) → has_id (xs ++ node ∷ []) id ≡ (has_id xs id || bytes_eq id node)
    last xs node id = list_any-append (bytes_eq id) xs (node ∷ []) ∙ ap (λ (t : Bool). has_id xs id || t) (or-false (bytes_eq id node))
      where
        or-false : (t : Bool) → (t || false) ≡ t
        or-false true = refl
        or-false false = refl
