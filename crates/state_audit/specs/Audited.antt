-- The blocks that were found right, and what is remembered of them.
use Rattle.std.specs.Prelude.{◌≡◌, ℕ, false, List, [], ◌∷◌, ◌++◌, length, is_some}
use Rattle.text_model.specs.Lists.{Each}
use Rattle.text_model.specs.Id.{Id, has_id}
use Rattle.hg_model.specs.Revision.{Revision}
use Rattle.git_model.specs.Object.{Object}
use Rattle.view_model.specs.View.{Row}
use Rattle.pair_model.specs.Block.{Block, block_of_node, changesets_in}
use Rattle.partner_model.specs.Given.{has_late_file}
use Rattle.state_model.specs.Kept.{State}
use Rattle.state_model.specs.Saved.{IsState}
use Rattle.verify_model.specs.Holds.{IsRight, IsRightId, Holds}
use Rattle.pair_choice.specs.Bodies.{IsBodyHeld}
use Rattle.pair_state.specs.declared.state_parts.StateParts.{StateParts}
use Rattle.state_text.specs.Stands.{Stands}
use Rattle.pull_bundle.specs.Late.{RefersIn, is_late_row}
use Rattle.state_audit.specs.declared.checked.Checked.{Checked}
use Rattle.state_audit.specs.declared.judge.Judgement.{Judgement}
use Rattle.state_audit.specs.declared.judge.Judgement.TheVariants.{Right, Wrong}

-- the parents of their files are those of changesets of the blocks
abbrev pub AreInTime : List Block → Type 0
AreInTime front = Each (λ v. has_late_file front v.rows ≡ false) (changesets_in front)

-- the bodies of their files are the objects with the ids of these
abbrev pub AreBodiesHeld : List Object → List Block → Type 0
AreBodiesHeld git front = Each (λ v. Each (IsBodyHeld git) v.rows) (changesets_in front)

-- no parent of the file's revision comes too late, and the object with the id of its body is this body
abbrev pub IsFileRight : List Object → List Block → Row → Type 0
IsFileRight git front file = (is_late_row front file ≡ false) × IsBodyHeld git file

pub record AreCompared (git : List Object) (front : List Block) : Type 0 where
  pub in_time : AreInTime front
  pub blobs : AreBodiesHeld git front

-- what is remembered is of these blocks
pub record IsWalked (hg : List Revision) (c : Checked) (front : List Block) : Type 0 where
  pub changesets : c.changesets ≡ length (changesets_in front)
  pub nodes : (node : Id) → has_id c.nodes node ≡ is_some (block_of_node front node)
  pub referred : RefersIn hg c.referred front

-- the blocks are right
pub record AreRight (hg : List Revision) (git : List Object) (front : List Block) : Type 0 where
  pub hold : Holds hg git [] front
  pub compared : AreCompared git front

-- The first blocks of a saved state were found right, and this one comes next, at this place.
pub record IsTurn (s : StateParts) (place : ℕ) (c : Checked) (m : State) (front : List Block) (b : Block) (rest : List Block) : Type 0 where
  pub place_is : place ≡ length front
  pub saved : IsState m
  pub stands : Stands s m
  pub split : m.blocks ≡ front ++ b ∷ rest
  pub walked : IsWalked s.known.hg c front
  pub right : AreRight s.known.hg s.known.git front

-- what the next block is found to be
abbrev pub IsJudged : List Revision → List Object → List Block → Block → Judgement → Type 0
IsJudged hg git front b Right = IsRight hg git front b
IsJudged hg git front b (Wrong right) = (¬ (IsRight hg git front b)) × IsRightId hg git front b right
