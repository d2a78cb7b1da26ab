use Rattle.std.proofs.Common.{ap, ◌∙◌}
use Rattle.hg_model.specs.FileText.{lacks_second_mark}
use Rattle.hg_filelog.proofs.MarkLemmas.{lacks-never}
use Rattle.hg_store.proofs.parse.blob_of.Goals as goal

pub returns-in-Some-clause-shape : goal.returns-in-Some-clause-shape
returns-in-Some-clause-shape c =
    let has = rw c.in-Some.is at c.requires.known in
    ap lacks_second_mark has.spells.1 ∙ lacks-never has.meta has.body has.spells.0
