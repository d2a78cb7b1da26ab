use Rattle.std.proofs.Common.{◌≡◌, length, rules}
use Rattle.std.proofs.lemmas.Result.{err_from_is_err_and}
use Rattle.bridge_text.specs.Kinds.{object_kind}
use Rattle.git_batch.proofs.ReadLemmas.{object_fault_of_line, no_object_of_line, object_fault_of_content, object_found}
use Rattle.git_batch.proofs.reader.BatchReader.read_text_object.Goals as goal

pub returns-in_err-header-clause-reads : goal.returns-in_err-header-clause-reads
returns-in_err-header-clause-reads g c =
    let p = err_from_is_err_and c.from_residual.result c.from_residual.ensures.1 in
    rw (p.1, p.2, ← c.self.view_is) (object_fault_of_line c.self.inside.offset _ c.in_err-header.field-0.0 c.in_err-header.ensures.reads)

pub returns-in_default-clause-reads : goal.returns-in_default-clause-reads
returns-in_default-clause-reads g c = rw (← c.self.view_is) (no_object_of_line c.self.inside.offset _ (rw c.in_default.is at c.in_ok-header.ensures.reads))

pub returns-in_err-text-clause-reads : goal.returns-in_err-text-clause-reads
returns-in_err-text-clause-reads g c =
    let p = err_from_is_err_and c.from_residual-in_err-text.result c.from_residual-in_err-text.ensures.1 in
    let h = c.in-Some.header in
    let has = rw c.in-Some.is at c.in_ok-header.ensures.header in
    let long : c.len.result ≡ length c.read_header.new.line.items = search (rules, c.len.ensures) in
    rw (p.1, p.2, ← c.self.view_is)
    (object_fault_of_content c.self.inside.offset _ _ c.read_header.new.line.items h.id (object_kind h.kind) h.size c.in_err-text.field-0.0 has.0
    (rw c.in-Some.is at c.in_ok-header.ensures.reads) (rw long at c.in_err-text.ensures.judged))

pub returns-clause-reads : goal.returns-clause-reads
returns-clause-reads g c =
    let h = c.in-Some.header in
    let has = rw c.in-Some.is at c.in_ok-header.ensures.header in
    let long : c.len.result ≡ length c.read_header.new.line.items = search (rules, c.len.ensures) in
    rw (← c.self.view_is)
    (object_found c.self.inside.offset _ _ _ c.read_header.new.line.items h.id (object_kind h.kind) h.size c.in_ok-text.text has.0
    (rw c.in-Some.is at c.in_ok-header.ensures.reads) (rw long at c.in_ok-text.ensures.judged) c.in_ok-text.ensures.bytes c.in_ok-text.ensures.len)
