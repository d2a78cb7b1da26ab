-- The last commits of a right history that come in its order are placed in it, where those before them are saved; so are all of them where none is.
use Rattle.std.proofs.Common.{◌≡◌, ℕ, zero, suc, ◌<◌, Bool, false, true, not, ◌||◌, List, [], ◌∷◌, ◌++◌, length, map, take, Some, None, refl, sym, ap, subst, ◌∙◌, inl, inr, arith, append_assoc}
use Rattle.std.specs.Prelude.{IsTrue, ◌&&◌, bytes_eq, slice_get, option_map}
use Rattle.std.specs.List.{list_all, find}
use Rattle.std.proofs.lemmas.List.Folds.{list_any-append}
use Rattle.text_model.specs.Lists.{Each, In}
use Rattle.text_model.specs.Id.{Id}
use Rattle.text_model.proofs.Elements.{in_any, in_left, in_map, in_right, map_append, none_all}
use Rattle.text_model.proofs.TestLemmas.{bytes_eq-self, bytes_eq-other}
use Rattle.hg_model.specs.Revision.{Revision}
use Rattle.git_model.specs.Object.{Object}
use Rattle.git_model.specs.Tree.{has_distinct}
use Rattle.git_model.specs.Order.{Ancestry, has, is_waiting, is_ready, next_ready, IsOrder}
use Rattle.pair_model.specs.Block.{Block, id_of}
use Rattle.unmark_law.proofs.Tables.{HasId, finds}
use Rattle.dump_law.proofs.Elements.{of-map}
use Rattle.verify_model.specs.Holds.{Holds}
use Rattle.frame_law.proofs.Fronts.{holds_at}
use Rattle.frame_law.proofs.Right.{right_paired}
use Rattle.closure_model.specs.Arrives.{ancestry_of_block}
use Rattle.right_law.proofs.Changesets.{distinct_apart}

-- ---- which commit is next

has_own : (blocks : List Block) (b : Block) → In b blocks → has (map id_of blocks) (id_of b) ≡ true
has_own blocks b i = in_any (bytes_eq (id_of b)) (map id_of blocks) (id_of b) (in_map id_of b blocks i) (bytes_eq-self (id_of b))

has_none : (blocks : List Block) (b : Block) → ((d : Block) → In d blocks → id_of d ≡ id_of b → ⊥) → has (map id_of blocks) (id_of b) ≡ false
has_none blocks b other =
    none_all (bytes_eq (id_of b)) (map id_of blocks) (λ x i. let of = of-map id_of x blocks i in bytes_eq-other (id_of b) x (λ e. other of.0 of.1 (sym (e ∙ of.2))))

has_parents : (saved placed : List Block) (ids : List Id) → Each (HasId (saved ++ placed)) ids → list_all (λ p. has (map id_of saved) p || has (map id_of placed) p) ids ≡ true
has_parents saved placed [] h = refl
has_parents saved placed (p ∷ ids) h = rw (one, has_parents saved placed ids h.1) refl
  where
    one : has (map id_of saved) p || has (map id_of placed) p ≡ true
    one =
        let f = finds id_of p (saved ++ placed) h.0 in
        sym (list_any-append (bytes_eq p) (map id_of saved) (map id_of placed)) ∙ ap (λ (l : List Id). has l p) (sym (map_append id_of saved placed))
        ∙ subst (λ (x : Id). has (map id_of (saved ++ placed)) x ≡ true) f.is (has_own (saved ++ placed) f.it f.among)

-- a commit that is placed doesn't wait
placed_rests : (saved placed : List Id) (d : Block) → has placed (id_of d) ≡ true → is_waiting saved placed (ancestry_of_block d) ≡ false
placed_rests saved placed d e = rw e (by (has saved (id_of d)))
  where
    by : (t : Bool) → (not t && false) ≡ false
    by true = refl
    by false = refl

next_is : (saved placed : List Id) (before after : List Block) (b : Block) → ((d : Block) → In d before → has placed (id_of d) ≡ true) → is_ready saved placed (ancestry_of_block b) ≡ true
    → find (is_ready saved placed) (map ancestry_of_block (before ++ b ∷ after)) ≡ Some (ancestry_of_block b)
next_is saved placed [] after b f ready = rw ready refl
next_is saved placed (d ∷ before) after b f ready = rw (placed_rests saved placed d (f d (inl refl))) (next_is saved placed before after b (λ x i. f x (inr i)) ready)

none_waits : (saved placed : List Id) (blocks : List Block) → ((d : Block) → In d blocks → has placed (id_of d) ≡ true) → find (is_waiting saved placed) (map ancestry_of_block blocks) ≡ None
none_waits saved placed [] f = refl
none_waits saved placed (d ∷ blocks) f = rw (placed_rests saved placed d (f d (inl refl))) (none_waits saved placed blocks (λ x i. f x (inr i)))

-- ---- the blocks before a place

record Split (blocks : List Block) (k : ℕ) : Type 0 where
  pub before : List Block
  pub it : Block
  pub after : List Block
  pub is : blocks ≡ before ++ it ∷ after
  pub taken : take k (map id_of blocks) ≡ map id_of before
  pub got : slice_get (map id_of blocks) k ≡ Some (id_of it)

split : (blocks : List Block) (k : ℕ) → k < length (map id_of blocks) → Split blocks k
split [] k l = absurd (omega (arith, l))
split (b ∷ blocks) zero l = record { before = []; it = b; after = blocks; is = refl; taken = refl; got = refl }
split (b ∷ blocks) (suc k) l =
    let r = split blocks k (omega (arith, l)) in
    record { before = b ∷ r.before; it = r.it; after = r.after; is = ap (λ (x : List Block). b ∷ x) r.is; taken = ap (λ (x : List Id). id_of b ∷ x) r.taken; got = r.got }

-- ---- the law

module _ (known : List Revision) (objects : List Object) (saved new : List Block) (distinct : IsTrue (has_distinct (map id_of (saved ++ new)))) (h : Holds known objects [] (saved ++ new)) where
  abbrev ids : List Id
  ids = map id_of saved

  ready : (before after : List Block) (b : Block) → new ≡ before ++ b ∷ after → is_ready ids (map id_of before) (ancestry_of_block b) ≡ true
  ready before after b is =
      let all : saved ++ new ≡ (saved ++ before) ++ b ∷ after = ap (λ (l : List Block). saved ++ l) is ∙ sym (append_assoc saved before (b ∷ after)) in
      let paired = right_paired known objects (saved ++ before) b (holds_at known objects [] (saved ++ before) b after (subst (λ (x : List Block). Holds known objects [] x) all h)) in
      let other = λ (d : Block) (i : In d (saved ++ before)). distinct_apart id_of (saved ++ before) (b ∷ after) (subst (λ (l : List Block). IsTrue (has_distinct (map id_of l))) all distinct) d b i (inl refl) in
      rw (has_none saved b (λ d i. other d (in_left d saved before i)), has_none before b (λ d i. other d (in_right d saved before i)), has_parents saved before ((b.commit).value).parents paired) refl

  place : (k : ℕ) → k < length (map id_of new) → slice_get (map id_of new) k ≡ option_map (λ c. c.id) (next_ready (map ancestry_of_block new) ids (take k (map id_of new)))
  place k l =
      let s = split new k l in
      let next = next_is ids (map id_of s.before) s.before s.after s.it (has_own s.before) (ready s.before s.after s.it s.is) in
      let all : find (is_ready ids (take k (map id_of new))) (map ancestry_of_block new) ≡ Some (ancestry_of_block s.it) = (λ i. find (is_ready ids (s.taken i)) (map ancestry_of_block (s.is i))) ∙ next in
      s.got ∙ sym (ap (λ o. option_map (λ (c : Ancestry). c.id) o) all)

  pub order_behind : IsOrder (map ancestry_of_block new) ids (map id_of new)
  order_behind = record { places = place; all = none_waits ids (map id_of new) new (has_own new) }

pub in_order : (known : List Revision) (objects : List Object) (blocks : List Block) → IsTrue (has_distinct (map id_of blocks)) → Holds known objects [] blocks → IsOrder (map ancestry_of_block blocks) [] (map id_of blocks)
in_order known objects blocks d h = order_behind known objects [] blocks d h
