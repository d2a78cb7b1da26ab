use Rattle.std.proofs.Common.{subst}
use Rattle.std.specs.Prelude.{IfSome}
use Rattle.std.proofs.lemmas.Bool.{OnTrue_at}
use Rattle.text_model.specs.Text.{Bytes}
use Rattle.hg_manifest.specs.Lines.{HasLine}
use Rattle.hg_manifest.specs.Values.{manifest_entry}
use Rattle.pair_state.specs.Step.{AreBlobs}
use Rattle.pair_state.proofs.KeptLemmas.{kept-line}
use Rattle.pair_state.proofs.bodies.is_kept.Goals as goal

pub returns-in-Some-clause-kept : goal.returns-in-Some-clause-kept
returns-in-Some-clause-kept c = λ yes hg git are.
    kept-line hg git c.in-Some.walk (manifest_entry c.args.line.now) (subst (λ o. IfSome o (AreBlobs hg git)) c.in-Some.is are)
    (subst (λ (p : Bytes). HasLine p c.args.line.now.node c.in-Some.walk) c.as_slice.ensures (OnTrue_at yes c.has_line.ensures.found))
