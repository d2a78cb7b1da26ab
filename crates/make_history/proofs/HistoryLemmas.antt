-- Histories one changeset longer, and revisions that collide.
use Rattle.std.proofs.Common.{◌≡◌, ◌≤◌, ◌<◌, ◌-◌, ◌+◌, ℕ, zero, suc, Bool, true, false, ◌||◌, arith, add-one, List, [], ◌∷◌, ◌++◌, refl, sym, ap, subst, ◌∙◌}
use Rattle.text_model.specs.Id.{Id}
use Rattle.text_model.proofs.Options.{or_neither}
use Rattle.text_model.proofs.Elements.{flat_map_append}
use Rattle.hg_model.specs.Revision.{Revision, known_after}
use Rattle.hg_store.specs.Known.{AreAdded}
use Rattle.view_model.specs.Dump.{revisions_of}
use Rattle.view_model.specs.Held.{AreChangesetsHeld}
use Rattle.pair_state.specs.Came.{is_bad, AreClean}
use Rattle.make_model.specs.Numbers.{numbers_of, state_before}
use Rattle.make_model.specs.History.{made_view, made_history}
use Rattle.make_model.specs.Dump.{has_collision, made_collides, made_revisions, most_changesets}
use Rattle.make_history.specs.Made.{IsMakeFault}
use Rattle.make_history.specs.Histories.{IsMade, IsNextFault}
use Rattle.make_history.specs.declared.add.History.{History}
use Rattle.make_history.specs.declared.fault.MakeFault.{MakeFault}
use Rattle.make_history.specs.declared.fault.MakeFault.TheVariants.{CountLimit, Collision, Memory}

pub clean-free : (known rs : List Revision) → AreClean known rs → has_collision known rs ≡ false
clean-free known [] c = refl
clean-free known (r ∷ rs) c = or_neither (is_bad known r) (has_collision (known_after known r) rs) c.0 (clean-free (known_after known r) rs c.1)

collides-front : (known rs more : List Revision) → has_collision known rs ≡ true → has_collision known (rs ++ more) ≡ true
collides-front known [] more h = absurd cc
collides-front known (r ∷ rs) more h = by (is_bad known r) h (collides-front (known_after known r) rs more)
  where
    by : (t : Bool) → (t || has_collision (known_after known r) rs) ≡ true → (has_collision (known_after known r) rs ≡ true → has_collision (known_after known r) (rs ++ more) ≡ true)
        → (t || has_collision (known_after known r) (rs ++ more)) ≡ true
    by true i later = refl
    by false i later = later i

pub history-none : (seed : ℕ) → made_history seed 0 ≡ []
unfolding made_history
history-none seed = refl

pub state-none : (seed : ℕ) → state_before seed 0 ≡ seed
unfolding state_before
state-none seed = refl

pub state-next : (seed n : ℕ) → state_before seed (n + 1) ≡ (numbers_of seed n).state
unfolding state_before
state-next seed n = ap (state_before seed) (add-one n)

one-more : (seed n : ℕ) → made_collides n seed ≡ true → made_collides (suc n) seed ≡ true
unfolding made_history
one-more seed n h =
    ap (has_collision []) (flat_map_append revisions_of (made_history seed n) (made_view (numbers_of seed n) (made_history seed n) ∷ []))
    ∙ collides-front [] (made_revisions n seed) _ h

so-many-more : (seed n k : ℕ) → made_collides n seed ≡ true → made_collides (n + k) seed ≡ true
so-many-more seed n zero h = let e : n ≡ n + 0 = omega arith in subst (λ (m : ℕ). made_collides m seed ≡ true) e h
so-many-more seed n (suc k) h = let e : suc (n + k) ≡ n + suc k = omega arith in subst (λ (m : ℕ). made_collides m seed ≡ true) e (one-more seed (n + k) (so-many-more seed n k h))

-- what collides among some changesets collides among more
pub collides-more : (seed n m : ℕ) → n ≤ m → made_collides n seed ≡ true → made_collides m seed ≡ true
collides-more seed n m few h = let e : n + (m - n) ≡ m = omega arith in subst (λ (k : ℕ). made_collides k seed ≡ true) e (so-many-more seed n (m - n) h)

-- nothing is made yet
pub made-none : (seed : ℕ) (h : History) → h.store ≡ [] → h.nodes ≡ [] → IsMade h (made_history seed 0)
made-none seed h store nodes = subst (IsMade h) (sym (history-none seed)) (record {
  came = record { are = store; clean = tt };
  added = subst AreAdded (sym store) tt;
  nodes = nodes;
  held = subst (λ (l : List Id). AreChangesetsHeld h.store l []) (sym nodes) tt;
})

-- the fault of a changeset is one of the history
pub next-fault : (seed n number : ℕ) (fault : MakeFault) → number < n → n ≤ most_changesets → IsNextFault seed number fault → IsMakeFault n seed fault
next-fault seed n number CountLimit below few h = absurd h
next-fault seed n number Collision below few h = (few, collides-more seed (number + 1) n (omega arith) h)
next-fault seed n number Memory below few h = tt
