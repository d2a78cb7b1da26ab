use Rattle.std.proofs.Common.{◌≡◌, ◌≤◌, ◌+◌, ◌*◌, List, ◌++◌, length}
use Rattle.text_model.specs.Lists.{Each}
use Rattle.pair_model.specs.Block.{Block}
use Rattle.state_model.specs.Kept as saved
use Rattle.state_model.specs.Saved.{IsState}
use Rattle.pair_known.specs.Drafts.{IsRowKnown}
use Rattle.state_text.specs.Stands.{Stands}
use Rattle.state_audit.specs.Audited.{IsWalked, AreRight}
use Rattle.state_audit.proofs.audit.verify.Given as goal

-- the blocks so far are right, with few steps; the rows that are near are those of files of the store
abbrev pub invariant-loop-place : goal.invariant-loop-place
invariant-loop-place g l = record {
  found : (m : saved.State) → IsState m → Stands l.state m → (front rest : List Block) → m.blocks ≡ front ++ rest → l.place ≡ length front
      → IsWalked l.state.known.hg l.checked front × AreRight l.state.known.hg l.state.known.git front;
  near : Each (IsRowKnown l.state.known.hg) l.near;
  least : l.fn.steps ≤ l.steps;
  few : l.steps ≤ l.fn.steps + 18 * l.place;
}
