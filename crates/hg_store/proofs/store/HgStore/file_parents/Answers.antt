use Rattle.std.proofs.Common.{true≢false, sym, ap, ◌∙◌}
use Rattle.hg_model.specs.FileText.{lacks_second_mark}
use Rattle.hg_store.proofs.KnownLemmas.{file-splits}
use Rattle.hg_store.proofs.store.HgStore.file_parents.Goals as goal

pub returns-in-Err : goal.returns-in-Err
returns-in-Err c =
    let splits = file-splits c.args.self.now c.args.path.now c.args.node.now _ c.get.ensures.known (sym c.in_ok-held.ensures.revision) in
    absurd (true≢false (c.in-Err.ensures.fault ∙ ap lacks_second_mark c.as_slice.ensures ∙ splits))
