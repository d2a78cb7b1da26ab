-- What is saved behind a list of pulls is right.
use Rattle.std.proofs.Common.{List, [], ◌∷◌, Option, Some, None, refl, sym, subst, inl, inr}
use Rattle.text_model.specs.Text.{Bytes}
use Rattle.text_model.specs.Fault.{Refusal}
use Rattle.state_model.specs.Kept.{State, Kept, kept_of, empty_state}
use Rattle.state_model.specs.Saved.{IsState, SlotHolds}
use Rattle.state_model.specs.Text.{state_text}
use Rattle.saved_model.specs.Step.{Pull, Steps, Refuses}
use Rattle.history_law.proofs.Accepted.{no-pulls}
use Rattle.history_law.proofs.Blocks.{refused}
use Rattle.history_law.proofs.States.{goes-on}
use Rattle.next_law.proofs.EmptySaved.{is-state}
use Rattle.closure_law.specs.After.{IsSavedAfter, IsRightAfter}
use Rattle.closure_law.proofs.Dumps.{dumps-return}
use Rattle.closure_law.proofs.Kept.{kept-right, empty-right}

-- ---- the slot

pub state-of : (held : Option Bytes) (s : State) → SlotHolds held s → IsState s
state-of None s is = subst IsState (sym is) is-state
state-of (Some text) s holds = holds.0

pub accepted-after : (pulls : List Pull) (pull : Pull) (before after : Option Bytes) (s next : State) (made : Bytes) → SlotHolds before s → SlotHolds after next → IsSavedAfter pulls (kept_of s)
    → Steps (kept_of s) pull (kept_of next) made → IsSavedAfter (pull ∷ pulls) (kept_of next)
accepted-after pulls pull before after s next made held holds earlier steps = (s, state-of before s held, earlier, inl (next, made, state-of after next holds, steps, refl))

pub refused-after : (pulls : List Pull) (pull : Pull) (held : Option Bytes) (s : State) (why : Refusal) → SlotHolds held s → IsSavedAfter pulls (kept_of s) → Refuses (kept_of s) pull why
    → IsSavedAfter (pull ∷ pulls) (kept_of s)
refused-after pulls pull held s why holds earlier refuses = (s, state-of held s holds, earlier, inr (why, refuses, refl))

-- ---- what is saved

pub right-after : (pulls : List Pull) (k : Kept) → IsSavedAfter pulls k → IsRightAfter pulls k
right-after [] k is = subst (IsRightAfter []) (sym is) (record { history = no-pulls; holds = empty-right; returns = dumps-return empty_state is-state empty-right })
right-after (pull ∷ before) k (s, saved, earlier, inl (next, made, left, steps, is)) =
    let old = right-after before (kept_of s) earlier in
    let holds = kept-right s next pull made saved left steps old.holds in
    subst (IsRightAfter (pull ∷ before)) (sym is) (record {
      history = goes-on.accepted before (Some (state_text s)) (Some (state_text next)) s next pull made (saved, refl) (left, refl) old.history steps;
      holds = holds;
      returns = dumps-return next left holds;
    })
right-after (pull ∷ before) k (s, saved, earlier, inr (why, refuses, is)) =
    let old = right-after before (kept_of s) earlier in
    subst (IsRightAfter (pull ∷ before)) (sym is) (record { history = refused before (kept_of s) pull why old.history refuses; holds = old.holds; returns = old.returns })
