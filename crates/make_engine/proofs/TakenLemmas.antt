-- What a pull of bytes in memory over an empty state comes to.
use Rattle.std.proofs.Common.{◌≡◌, ◌+◌, ◌*◌, ◌≤◌, ℕ, length, arith}
use Rattle.text_model.specs.Fault.{Refusal}
use Rattle.state_model.specs.Kept.{empty_state}
use Rattle.saved_model.specs.Step.{Pull}
use Rattle.pull_outcome.specs.declared.refused.PullFault.{PullFault}
use Rattle.pull_outcome.specs.declared.refused.PullFault.TheVariants.{Refused, Read, Memory}
use Rattle.pull_outcome.specs.Refused.{IsRefusedBy, FaultCause}
use Rattle.pull_engine.specs.declared.pulled.Pulled.{Pulled}
use Rattle.pull_engine.specs.Read.{IsPulled}
use Rattle.make_engine.specs.Faults.{pull_fault, IsRefusedFor}
use Rattle.make_engine.specs.Taken.{IsTaken}
use Rattle.make_engine.proofs.LineLemmas.{same-length}

pub taken : (pull : Pull) (p : Pulled) (before now : ℕ) → IsPulled empty_state pull p → now + 18 * p.first_new ≤ before + 18 * length (p.state).blocks → IsTaken pull before now p.state
taken pull p before now (k, takes, stands, none) steps =
    let blocks = (stands.blocks).state in
    let few = same-length (p.state).blocks k.blocks blocks.blocks_are in
    record {
      kept = k;
      written = p.made;
      takes = takes;
      stands = stands;
      steps = omega (arith, none, few, steps);
    }

-- a count that doesn't rise is that of no failed read
pub no-read : (fault : PullFault) → FaultCause 0 0 fault → fault ≡ Read → ⊥
no-read (Refused why) h e = cc
no-read Read h e = absurd (omega (arith, h))
no-read Memory h e = cc

pub refused-alone : (Due : Refusal → Type 0) (fault : PullFault) → IsRefusedBy Due fault → IsRefusedFor Due (pull_fault fault)
refused-alone Due (Refused why) h = h
refused-alone Due Read h = tt
refused-alone Due Memory h = tt
