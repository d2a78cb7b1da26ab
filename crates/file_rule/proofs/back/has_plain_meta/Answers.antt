use Rattle.std.proofs.Common.{◌∙◌}
use Rattle.std.specs.Prelude.{option_map}
use Rattle.hg_model.specs.Revision.{FilesAt, revision_of, Revision}
use Rattle.file_rule.proofs.BackLemmas.{meta-is, plain-at}
use Rattle.file_rule.proofs.back.has_plain_meta.Goals as goal

pub returns-in-Ok : goal.returns-in-Ok
returns-in-Ok c = λ w path node held.
    let at = c.in-Some.ensures.value ∙ (λ i. option_map (λ (r : Revision). r.text) (revision_of c.args.store.now (FilesAt (path i)) (node i))) in
    let parts = meta-is c.args.store.now w c.in-Some.text.now (option_map (λ m. m.now) c.in-Ok.meta) c.in-Ok.body.now held at c.in-Ok.ensures.ok in
    plain-at c.is_plain.result (option_map (λ m. m.now) c.in-Ok.meta) (w.revision).meta c.in-Ok.body.now (w.revision).body parts.0 parts.1 (c.is_plain.ensures (c.in-Ok.ensures.ok).0)
