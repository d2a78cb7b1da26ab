-- The commits of a stream and their order, as they are listed and as the model has them.
use Rattle.std.proofs.Common.{◌≡◌, ℕ, Bool, true, false, true≢false, not, ◌&&◌, ◌||◌, List, [], ◌∷◌, take, Option, Some, None, map, refl, sym, ap, subst, ◌∙◌, bytes_eq, inl, inr}
use Rattle.std.specs.Prelude.{if◌then◌else◌, filter, option_map}
use Rattle.std.specs.List.{list_all, find}
use Rattle.std.proofs.lemmas.Slice.Eq.{bytes_eq-Decides}
use Rattle.text_model.specs.Lists.{In, Each}
use Rattle.text_model.specs.Id.{Id, ObjectKind, blob, tree, commit, tag, same_kind}
use Rattle.text_model.proofs.TestLemmas.{both}
use Rattle.git_model.specs.Object.{Object}
use Rattle.git_model.specs.Stream.{Placed}
use Rattle.git_model.specs.Order.{Ancestry, has, is_waiting, is_ready, next_ready, IsPlacement, IsOrder, IsStuckAt}
use Rattle.text_model.proofs.Options.{none_some, some_is, not_true}
use Rattle.git_store.specs.Known.{content_of}
use Rattle.git_store.specs.Ancestry as order
use Rattle.git_store.specs.Ancestry.{ancestry_at, parents_in}
use Rattle.git_store.proofs.FindLemmas.{find-passes, find-among}
use Rattle.git_batch.specs.Arrivals.{kind_of, arrival_of, commits_among}
use Rattle.bridge_text.specs.Kinds.{object_kind}
use Rattle.tree_shape.specs.Laws.{IsKnown}
use Rattle.tree_shape.proofs.Elements.{of-filter}
use Rattle.history_model.specs.Pull.{is_commit, ancestry_of, ancestries, place_of}
use Rattle.pull_stream.specs.Ready.{place_among}

-- ---- what is listed

kind-again : (k : ObjectKind) → same_kind commit (object_kind (kind_of k)) ≡ same_kind k commit
kind-again blob = refl
kind-again tree = refl
kind-again commit = refl
kind-again tag = refl

-- the ancestries by the store are those of the model
pub same-rows : (store : List Object) (came : List Placed) → Each (λ o. IsKnown store o.object) came → order.ancestries store (commits_among (map arrival_of came)) ≡ ancestries came
same-rows store [] held = refl
same-rows store (p ∷ came) held = by (same_kind (p.object).kind commit) refl (same-rows store came held.1)
  where
    by : (t : Bool) → same_kind (p.object).kind commit ≡ t → order.ancestries store (commits_among (map arrival_of came)) ≡ ancestries came
        → order.ancestries store (commits_among (map arrival_of (p ∷ came))) ≡ ancestries (p ∷ came)
    by true t rest =
        let row : ancestry_at store (p.object).id ≡ ancestry_of p = ap (λ (ids : List Id). record { id = (p.object).id; parents = ids }) (ap parents_in (ap (content_of commit) held.0 ∙ ap (λ (b : Bool). if b then Some (p.object).content else None) t)) in
        rw (kind-again (p.object).kind, t) (λ i. row i ∷ rest i)
    by false t rest = rw (kind-again (p.object).kind, t) rest

pub same-place : (came : List Placed) (id : Id) → place_among (map arrival_of came) id ≡ place_of came id
same-place [] id = refl
same-place (p ∷ came) id = by (bytes_eq (p.object).id id) refl (same-place came id)
  where
    by : (t : Bool) → bytes_eq (p.object).id id ≡ t → place_among (map arrival_of came) id ≡ place_of came id → place_among (map arrival_of (p ∷ came)) id ≡ place_of (p ∷ came) id
    by true t rest = rw t refl
    by false t rest = rw t rest

-- ---- another set with the same ids

module _ (came : List Ancestry) (a b : List Id) (same : (id : Id) → has a id ≡ has b id) where
  -- the words of the order, by the test
  abbrev waits : (Id → Bool) → List Id → Ancestry → Bool
  waits test placed c = not (test c.id) && not (has placed c.id)

  abbrev ready : (Id → Bool) → List Id → Ancestry → Bool
  ready test placed c = waits test placed c && list_all (λ p. test p || has placed p) c.parents

  tests : has a ≡ has b
  tests = λ i id. same id i

  ready-same : (placed : List Id) → next_ready came a placed ≡ next_ready came b placed
  ready-same placed = ap (λ (test : Id → Bool). find (ready test placed) came) tests

  waiting-same : (placed : List Id) → find (is_waiting a placed) came ≡ find (is_waiting b placed) came
  waiting-same placed = ap (λ (test : Id → Bool). find (waits test placed) came) tests

  placement-same : (placed : List Id) → IsPlacement came a placed → IsPlacement came b placed
  placement-same placed h = λ k below. h k below ∙ ap (option_map (λ (c : Ancestry). c.id)) (ready-same (take k placed))

  pub order-same : (placed : List Id) → IsOrder came a placed → IsOrder came b placed
  order-same placed o = record { places = placement-same placed o.places; all = sym (waiting-same placed) ∙ o.all }

  pub stuck-same : (id : Id) → IsStuckAt came a id → IsStuckAt came b id
  stuck-same id s = record {
    placed = s.placed;
    parents = s.parents;
    places = placement-same s.placed s.places;
    none_ready = sym (ready-same s.placed) ∙ s.none_ready;
    first = sym (waiting-same s.placed) ∙ s.first;
  }

-- ---- a commit of the order

-- the object of one of the ancestries
pub record CommitOf (came : List Placed) (row : Ancestry) : Type 0 where
  pub placed : Placed
  pub among : In placed came
  pub kind : is_commit placed ≡ true
  pub is : row ≡ ancestry_of placed

pub commit-of : (came : List Placed) (row : Ancestry) → In row (ancestries came) → CommitOf came row
commit-of came row i = let m = of-map (filter is_commit came) i in let f = of-filter is_commit m.0 came m.1 in record { placed = m.0; among = f.0; kind = f.1; is = m.2 }
  where
    of-map : (ps : List Placed) → In row (map ancestry_of ps) → (p : Placed) × In p ps × (row ≡ ancestry_of p)
    of-map [] i = absurd i
    of-map (p ∷ ps) (inl e) = (p, inl refl, e)
    of-map (p ∷ ps) (inr j) = let r = of-map ps j in (r.0, inr r.1, r.2)

-- what came has a place
pub has-place : (came : List Placed) (p : Placed) → In p came → (at : ℕ) × (place_of came (p.object).id ≡ Some at)
has-place [] p i = absurd i
has-place (q ∷ came) p i = by (bytes_eq (q.object).id (p.object).id) refl i (has-place came p)
  where
    by : (t : Bool) → bytes_eq (q.object).id (p.object).id ≡ t → In p (q ∷ came) → (In p came → (at : ℕ) × (place_of came (p.object).id ≡ Some at)) → (at : ℕ) × (place_of (q ∷ came) (p.object).id ≡ Some at)
    by true t j later = (q.at, rw t refl)
    by false t (inl e) later = absurd (true≢false (sym ((bytes_eq-Decides (q.object).id (p.object).id).1 (ap (λ (x : Placed). (x.object).id) (sym e))) ∙ t))
    by false t (inr j) later = let r = later j in (r.0, rw t r.1)

-- the commit at a place of the order
pub record Next (came : List Placed) (saved before : List Id) (id : Id) : Type 0 where
  pub parents : List Id
  pub of : CommitOf came (record { id = id; parents = parents })
  pub unsaved : has saved id ≡ false
  pub unplaced : has before id ≡ false
  pub all : list_all (λ p. has saved p || has before p) parents ≡ true

pub next-is : (came : List Placed) (saved before : List Id) (id : Id) → Some id ≡ option_map (λ (c : Ancestry). c.id) (next_ready (ancestries came) saved before) → Next came saved before id
next-is came saved before id h = by (next_ready (ancestries came) saved before) refl h
  where
    found : (c : Ancestry) → next_ready (ancestries came) saved before ≡ Some c → id ≡ c.id → Next came saved before id
    found c e same =
        let passes = both (is_waiting saved before c) (list_all (λ p. has saved p || has before p) c.parents) (find-passes (is_ready saved before) (ancestries came) c e) in
        let waits = both (not (has saved c.id)) (not (has before c.id)) passes.0 in record {
          parents = c.parents;
          of = subst (CommitOf came) (λ i. record { id = sym same i; parents = c.parents }) (commit-of came c (find-among (is_ready saved before) (ancestries came) c e));
          unsaved = ap (has saved) same ∙ not_true (has saved c.id) waits.0;
          unplaced = ap (has before) same ∙ not_true (has before c.id) waits.1;
          all = passes.1;
        }

    by : (o : Option Ancestry) → next_ready (ancestries came) saved before ≡ o → Some id ≡ option_map (λ (c : Ancestry). c.id) o → Next came saved before id
    by None e i = absurd (none_some {x = id} (sym i))
    by (Some c) e i = found c e (some_is {x = id} {y = c.id} i)
