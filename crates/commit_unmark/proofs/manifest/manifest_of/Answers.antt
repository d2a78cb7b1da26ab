use Rattle.std.proofs.Common.{ap, sym, ◌∙◌}
use Rattle.std.specs.Prelude.{option_map}
use Rattle.std.proofs.lemmas.Result.{IfOk-weaker}
use Rattle.hg_manifest.specs.Values.{manifest_value}
use Rattle.commit_unmark.proofs.PartLemmas.{made-with}
use Rattle.commit_unmark.proofs.manifest.manifest_of.Goals as goal

pub returns-in-None : goal.returns-in-None
returns-in-None c =
    let none = sym c.marked_manifest.ensures ∙ ap (option_map manifest_value) c.in-None.is in
    IfOk-weaker c.make_manifest.result _ _ (λ made h ps rows over. made-with made ps c.args.marks.now rows none (h ps rows over)) c.make_manifest.ensures
