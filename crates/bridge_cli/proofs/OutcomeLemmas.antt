-- A mismatch is the outcome of an audit alone, and then there is no other.
use Rattle.std.proofs.Common.{◌≡◌, List, Option, None, Some, Result, Ok, Err}
use Rattle.text_model.specs.Text.{Bytes}
use Rattle.text_model.specs.Id.{Id}
use Rattle.text_model.specs.Fault.{Refusal}
use Rattle.state_model.specs.Kept.{State, NameRow, kept_of}
use Rattle.saved_model.specs.Step.{known_of}
use Rattle.command_model.specs.Command.{Command, ListHg, CheckHg, ListGit, CheckGit, PullHg, PullGit, DumpHg, DumpGit, Map, SetNamesHg, SetNamesGit, NamesHg, NamesGit, Verify, Make, Written, Refused, Mismatched, written_unless, written_of, named_by, ComesTo}
use Rattle.state_audit.proofs.Verdicts.{holds-differs}

module _ (commit right : Id) where
  unless-none : (why : Option Refusal) (output : Bytes) → written_unless why output ≡ Mismatched commit right → ⊥
  unless-none None output e = cc
  unless-none (Some why) output e = cc

  of-none : {T : Type 0} (output : T → Bytes) (read : Result T Refusal) → written_of output read ≡ Mismatched commit right → ⊥
  of-none output (Ok x) e = cc
  of-none output (Err why) e = cc

  named-none : (s : State) (reading : Result (List NameRow) Refusal) → named_by s reading ≡ Mismatched commit right → ⊥
  named-none s (Ok names) e = cc
  named-none s (Err why) e = cc

  written-none : (output : Bytes) (saved : Option State) → Written output saved ≡ Mismatched commit right → ⊥
  written-none output saved e = cc

  -- another outcome of a command that comes to a mismatch
  pub done-apart : (command : Command) (s : State) (bytes output : Bytes) (saved : Option State) → ComesTo command s bytes (Written output saved) → ComesTo command s bytes (Mismatched commit right) → ⊥
  done-apart ListHg s bytes output saved done e = unless-none _ _ e
  done-apart CheckHg s bytes output saved done e = of-none _ _ e
  done-apart ListGit s bytes output saved done e = unless-none _ _ e
  done-apart CheckGit s bytes output saved done e = of-none _ _ e
  done-apart PullHg s bytes output saved done e = e
  done-apart PullGit s bytes output saved done e = e
  done-apart DumpHg s bytes output saved done e = written-none _ _ e
  done-apart DumpGit s bytes output saved done e = written-none _ _ e
  done-apart Map s bytes output saved done e = written-none _ _ e
  done-apart SetNamesHg s bytes output saved done e = named-none s _ e
  done-apart SetNamesGit s bytes output saved done e = named-none s _ e
  done-apart NamesHg s bytes output saved done e = written-none _ _ e
  done-apart NamesGit s bytes output saved done e = written-none _ _ e
  done-apart Verify s bytes output None done e = holds-differs (known_of (kept_of s)).revisions (known_of (kept_of s)).objects s.blocks commit right done.0 e
  done-apart Verify s bytes output (Some next) done e = done
  done-apart (Make n seed) s bytes output saved done e = e

  pub refused-apart : (command : Command) (s : State) (bytes : Bytes) (why : Refusal) → ComesTo command s bytes (Refused why) → ComesTo command s bytes (Mismatched commit right) → ⊥
  refused-apart ListHg s bytes why due e = unless-none _ _ e
  refused-apart CheckHg s bytes why due e = of-none _ _ e
  refused-apart ListGit s bytes why due e = unless-none _ _ e
  refused-apart CheckGit s bytes why due e = of-none _ _ e
  refused-apart PullHg s bytes why due e = e
  refused-apart PullGit s bytes why due e = e
  refused-apart DumpHg s bytes why due e = written-none _ _ e
  refused-apart DumpGit s bytes why due e = written-none _ _ e
  refused-apart Map s bytes why due e = written-none _ _ e
  refused-apart SetNamesHg s bytes why due e = named-none s _ e
  refused-apart SetNamesGit s bytes why due e = named-none s _ e
  refused-apart NamesHg s bytes why due e = written-none _ _ e
  refused-apart NamesGit s bytes why due e = written-none _ _ e
  refused-apart Verify s bytes why due e = due
  refused-apart (Make n seed) s bytes why due e = e
