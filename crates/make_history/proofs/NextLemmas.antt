-- A history with its next changeset: what it holds, and when it collides.
use Rattle.std.proofs.Common.{◌≡◌, ◌+◌, ℕ, Bool, true, false, true≢false, ◌||◌, add-one, List, [], ◌∷◌, ◌++◌, map, refl, sym, ap, subst, ◌∙◌, append-nil}
use Rattle.text_model.specs.Lists.{Each}
use Rattle.text_model.specs.Id.{Id}
use Rattle.text_model.proofs.Options.{or_parts}
use Rattle.text_model.proofs.Elements.{flat_map_append, map_append, none_in}
use Rattle.hg_model.specs.Revision.{Revision, known_after, known_after_all}
use Rattle.hg_store.specs.Known.{AreAdded}
use Rattle.view_model.specs.View.{ChangesetView, changeset_node}
use Rattle.view_model.specs.Held.{AreChangesetsHeld}
use Rattle.view_model.specs.Dump.{revisions_of, revisions_in}
use Rattle.hg_dump.proofs.HeldLemmas.{held-push}
use Rattle.pair_known.specs.Ruled.{IsLooseView}
use Rattle.pair_state.specs.Came.{is_bad, AreClean, HaveCome, HasBad}
use Rattle.pair_state.proofs.CameLemmas.{come-more, within-all}
use Rattle.pair_state.proofs.ChangesetHeld.{all-as, changesets-on, new-changeset, CameAs}
use Rattle.pair_state.proofs.SlotLemmas.{none-bad}
use Rattle.make_model.specs.Numbers.{numbers_of}
use Rattle.make_model.specs.History.{made_view, made_history}
use Rattle.make_model.specs.Dump.{has_collision, made_collides, made_revisions}
use Rattle.pair_state.specs.declared.fault.PushFault.{PushFault}
use Rattle.pair_state.specs.declared.fault.PushFault.TheVariants as push
use Rattle.make_history.specs.Made.{make_refused}
use Rattle.make_history.specs.Histories.{IsMade, IsNextFault}
use Rattle.make_history.specs.declared.add.History.{History}

-- ---- what collides

free-clean : (known rs : List Revision) → has_collision known rs ≡ false → AreClean known rs
free-clean known [] h = tt
free-clean known (r ∷ rs) h = let parts = or_parts (is_bad known r) (has_collision (known_after known r) rs) h in (parts.0, free-clean (known_after known r) rs parts.1)

behind-clean : (known rs more : List Revision) → AreClean known rs → has_collision known (rs ++ more) ≡ has_collision (known_after_all known rs) more
behind-clean known [] more c = refl
behind-clean known (r ∷ rs) more c = ap (λ (t : Bool). t || has_collision (known_after known r) (rs ++ more)) c.0 ∙ behind-clean (known_after known r) rs more c.1

bad-collides : (known rs : List Revision) → HasBad known rs → has_collision known rs ≡ true
bad-collides known rs b = by (has_collision known rs) refl
  where
    by : (t : Bool) → has_collision known rs ≡ t → has_collision known rs ≡ true
    by true e = e
    by false e = absurd (true≢false (sym b.bad ∙ none_in (is_bad (known ++ rs)) rs b.revision (none-bad known rs (free-clean known rs e)) b.is_new))

-- ---- the changeset behind so many

abbrev pub next_of : ℕ → ℕ → ChangesetView
next_of seed n = made_view (numbers_of seed n) (made_history seed n)

history-next : (seed n : ℕ) → made_history seed (n + 1) ≡ made_history seed n ++ next_of seed n ∷ []
unfolding made_history
history-next seed n = ap (made_history seed) (add-one n)

revisions-next : (seed n : ℕ) → made_revisions (n + 1) seed ≡ made_revisions n seed ++ revisions_of (next_of seed n)
revisions-next seed n =
    ap revisions_in (history-next seed n) ∙ flat_map_append revisions_of (made_history seed n) (next_of seed n ∷ [])
    ∙ ap (λ (l : List Revision). made_revisions n seed ++ l) (append-nil (revisions_of (next_of seed n)))

-- where a revision of it is bad, the history collides
pub next-collides : (seed n : ℕ) (store : List Revision) → HaveCome [] store (made_revisions n seed) → HasBad store (revisions_of (next_of seed n)) → made_collides (n + 1) seed ≡ true
next-collides seed n store come bad =
    ap (has_collision []) (revisions-next seed n) ∙ behind-clean [] (made_revisions n seed) (revisions_of (next_of seed n)) come.clean
    ∙ ap (λ (l : List Revision). has_collision l (revisions_of (next_of seed n))) (sym come.are) ∙ bad-collides store (revisions_of (next_of seed n)) bad

-- where all came, the history is made
pub next-made : (seed n : ℕ) (old new : History) → IsMade old (made_history seed n) → IsLooseView (next_of seed n) → HaveCome old.store new.store (revisions_of (next_of seed n)) → AreAdded new.store → new.nodes ≡ old.nodes ++ changeset_node (next_of seed n) ∷ []
    → IsMade new (made_history seed (n + 1))
next-made seed n old new made view come added nodes =
    let k = next_of seed n in
    let all : Each (CameAs new.store) (revisions_of k) = subst (λ (l : List Revision). Each (CameAs l) (revisions_of k)) (sym come.are) (all-as old.store (revisions_of k) come.clean) in
    let stay : AreChangesetsHeld new.store old.nodes (made_history seed n) = subst (λ (l : List Revision). AreChangesetsHeld l old.nodes (made_history seed n)) (sym come.are)
    (changesets-on old.store (known_after_all old.store (revisions_of k)) (within-all old.store (revisions_of k)) old.nodes (made_history seed n) made.held) in
    record {
      came = subst (HaveCome [] new.store) (sym (revisions-next seed n)) (come-more [] old.store new.store (made_revisions n seed) (revisions_of k) made.came come);
      added = added;
      nodes = nodes ∙ ap (λ (l : List Id). l ++ changeset_node k ∷ []) made.nodes ∙ sym (map_append changeset_node (made_history seed n) (k ∷ [])) ∙ ap (map changeset_node) (sym (history-next seed n));
      held = subst (λ (l : List Id). AreChangesetsHeld new.store l (made_history seed (n + 1))) (sym nodes)
          (subst (AreChangesetsHeld new.store (old.nodes ++ changeset_node k ∷ [])) (sym (history-next seed n)) (held-push new.store old.nodes (made_history seed n) (changeset_node k) k stay (new-changeset new.store k view all)));
    }

-- why the changeset can't be added
pub next-refused : (seed n : ℕ) (fault : PushFault) → (fault ≡ push.Collision → made_collides (n + 1) seed ≡ true) → IsNextFault seed n (make_refused fault)
next-refused seed n push.Collision f = f refl
next-refused seed n push.Memory f = tt
