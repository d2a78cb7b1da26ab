use Rattle.std.proofs.Common.{List, length, length-append, sym, ap, ◌∙◌, arith}
use Rattle.text_model.specs.Text.{Bytes}
use Rattle.text_model.specs.Id.{Id}
use Rattle.git_dump.specs.Walks.{objects_between, objects_of}
use Rattle.git_dump.proofs.Between.{text_between}
use Rattle.git_dump.proofs.ListedLemmas.{text_of}
use Rattle.git_dump.proofs.VisitLemmas.{stream_text-append}
use Rattle.git_dump.proofs.dump.Dump.len.Goals as goal

pub returns : goal.returns
returns c =
    let d = c.self.inside in
    let known = d.store.now in
    omega (
      arith,
      c.part_len-front.ensures,
      c.objects_len.ensures,
      ap (λ (ids : List Id). length (text_of known ids)) c.as_slice.ensures,
      length-append (text_between known d.start d.end) (text_of known d.listed),
      ap (λ (b : Bytes). length b) (sym (stream_text-append (objects_between known d.start d.end) (objects_of known d.listed)) ∙ c.self.view_is),
      c.saturating_add.ensures,
    )
