use Rattle.std.proofs.Common.{[], ◌∷◌, subst}
use Rattle.std.proofs.lemmas.Result.{on_ok_weaker}
use Rattle.text_model.specs.Text.{Bytes}
use Rattle.hg_model.specs.Revision.{FilesAt}
use Rattle.hg_dump.specs.State.{Steps}
use Rattle.hg_dump.proofs.brought.Brought.refer_line.Goals as goal

pub returns : goal.returns
returns c =
    let entry = c.args.entry.now in
    on_ok_weaker c.refer.result
    (λ steps. subst (λ (path : Bytes). Steps c.args.is_new (record { group = FilesAt path; node = entry.node; link = c.args.link.now } ∷ []) c.args.self.now c.refer.new.self) c.as_slice.ensures steps)
    c.refer.ensures
