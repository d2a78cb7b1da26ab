use Rattle.std.proofs.Common.{Some, ap, ◌∙◌}
use Rattle.hg_manifest.specs.declared.entry.Entry.{Entry}
use Rattle.hg_manifest.proofs.ReadLemmas.{last-of}
use Rattle.hg_manifest.proofs.list.last_path.Goals as goal

pub returns-in-Some : goal.returns-in-Some
returns-in-Some c = ap Some (c.as_slice.ensures ∙ ap (λ (e : Entry). e.path) c.get.ensures) ∙ last-of c.args.entries.now c.in-Some.entry.now _ c.in-Some.ensures.cases.0
