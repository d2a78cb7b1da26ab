use Rattle.std.proofs.Common.{sym, ◌∙◌}
use Rattle.hg_store.specs.Groups.{revision_value}
use Rattle.hg_store.proofs.KnownLemmas.{addition-text, same-has_no_fault}
use Rattle.hg_store.proofs.store.HgStore.add.Goals as goal

pub returns-then-knows_same-clause-faultless : goal.returns-then-knows_same-clause-faultless
returns-then-knows_same-clause-faultless c =
    let r = revision_value c.args.addition in
    addition-text c.args.self.now r c.in_ok-check_ancestry.ensures.ok ∙ same-has_no_fault c.args.self.now r c.knows_same.ensures.known (sym c.knows_same.ensures.value ∙ c.if-knows_same.true)
