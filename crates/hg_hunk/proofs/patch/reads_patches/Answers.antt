use Rattle.std.proofs.Common.{length, ap, ◌∙◌}
use Rattle.text_model.specs.Text.{Bytes}
use Rattle.hg_model.proofs.HunkLemmas.{AreBytes-each}
use Rattle.hg_model.proofs.DeltaLemmas.{delta_reading-Patches, Patches-delta_reading, Patches-unique, length-patched_from}
use Rattle.hg_hunk.proofs.patch.reads_patches.Goals as goal

pub returns-clause-read : goal.returns-clause-read
returns-clause-read c = delta_reading-Patches

pub returns-clause-patches : goal.returns-clause-patches
returns-clause-patches c = λ base delta hs bytes e. Patches-delta_reading base delta hs (AreBytes-each delta bytes) e

pub returns-clause-one_text : goal.returns-clause-one_text
returns-clause-one_text c = Patches-unique

pub returns-clause-size : goal.returns-clause-size
returns-clause-size c = λ base delta text p. ap (λ (t : Bytes). length t) p.result ∙ length-patched_from 0 base p.hunks p.within
