use Rattle.std.proofs.Common.{subst}
use Rattle.std.proofs.lemmas.Result.{IfOk-weaker}
use Rattle.text_model.specs.Id.{blob_id}
use Rattle.hg_manifest.specs.Values.{manifest_entry}
use Rattle.view_model.specs.View.{FileRevision}
use Rattle.file_rule.specs.Made.{IsRevisionOver}
use Rattle.make_history.proofs.RowLemmas.{copied-is, not-copied}
use Rattle.make_history.proofs.row.make_copied.Goals as goal

pub returns-in-Some : goal.returns-in-Some
returns-in-Some c = record {
  revision = IfOk-weaker c.make_copy.result _ _ (λ made h known ps a b.
      subst (λ (r : FileRevision). IsRevisionOver r (blob_id c.args.body.now) made.p made.q made.text)
      (copied-is ps c.args.path.now c.args.body.now (manifest_entry c.in-Some.source.now) (c.in-Some.ensures.entry (ps.first).rows a.entries)) (h (c.in-Some.ensures.clean c.requires.clean))) c.make_copy.ensures;
}

pub returns-in-None : goal.returns-in-None
returns-in-None c = record {
  revision = IfOk-weaker c.make_new.result _ _ (λ made h known ps a b.
      subst (λ (r : FileRevision). IsRevisionOver r (blob_id c.args.body.now) made.p made.q made.text)
      (not-copied ps c.args.path.now c.args.body.now (c.in-None.ensures.entry (ps.first).rows a.entries)) (h known ps a b)) c.make_new.ensures;
}
