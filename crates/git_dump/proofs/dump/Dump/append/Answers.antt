use Rattle.std.proofs.Common.{◌++◌, List, sym, ap, ◌∙◌, append_assoc}
use Rattle.std.proofs.lemmas.Result.{on_ok_weaker}
use Rattle.text_model.specs.Text.{Bytes}
use Rattle.text_model.specs.Id.{Id}
use Rattle.git_dump.specs.Walks.{objects_between, objects_of}
use Rattle.git_dump.proofs.Between.{text_between}
use Rattle.git_dump.proofs.ListedLemmas.{text_of}
use Rattle.git_dump.proofs.VisitLemmas.{stream_text-append}
use Rattle.git_dump.proofs.dump.Dump.append.Goals as goal

pub returns-clause-ok : goal.returns-clause-ok
returns-clause-ok c =
    let d = c.self.inside in
    let known = d.store.now in
    let old = c.args.out.now in
    on_ok_weaker c.append_objects.result
    (λ put.
    put ∙ ap (λ (b : Bytes). b ++ text_of known c.as_slice.result.now) c.in_ok-append_part.ensures.ok
    ∙ ap (λ (ids : List Id). (old ++ text_between known d.start d.end) ++ text_of known ids) c.as_slice.ensures
    ∙ append_assoc old (text_between known d.start d.end) (text_of known d.listed)
    ∙ ap (λ (b : Bytes). old ++ b) (sym (stream_text-append (objects_between known d.start d.end) (objects_of known d.listed)) ∙ c.self.view_is))
    c.append_objects.ensures.ok
