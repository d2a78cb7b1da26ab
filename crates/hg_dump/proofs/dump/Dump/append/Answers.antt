use Rattle.std.proofs.Common.{sym, ap, ◌++◌, ◌∙◌}
use Rattle.std.proofs.lemmas.Result.{on_ok_weaker}
use Rattle.text_model.specs.Text.{Bytes}
use Rattle.hg_dump.proofs.dump.Dump.append.Goals as goal

pub put_bundle-requires : goal.put_bundle-requires
put_bundle-requires c = (c.requires.1.revisions, c.requires.1.brought)

pub returns-clause-ok : goal.returns-clause-ok
returns-clause-ok c =
    on_ok_weaker c.put_bundle.result
    (λ put text is. put is.revisions is.brought ∙ ap (λ (t : Bytes). c.args.out.now ++ t) (sym is.text_is))
    c.put_bundle.ensures.ok
