use Rattle.hg_model.proofs.DeltaLemmas.{Patches-whole_delta}
use Rattle.hg_hunk.proofs.replace.replaces.Goals as goal

pub returns : goal.returns
returns c = Patches-whole_delta
