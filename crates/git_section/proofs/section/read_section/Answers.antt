use Rattle.std.proofs.Common.{List, sym, subst, ◌∙◌, arith}
use Rattle.git_model.specs.Object.{Object}
use Rattle.git_section.specs.Sections.{IsRead}
use Rattle.git_section.proofs.Reading.{section_read, comes_twice}
use Rattle.git_section.proofs.Written.{whole}
use Rattle.git_section.proofs.section.read_section.Goals as goal

pub keep_written-requires : goal.keep_written-requires
keep_written-requires g c =
    let read =
    section_read c.new.result c.new-source.result c.args.bytes.now (c.in-Ok.store, c.in-Ok.came) c.new.ensures (c.new-source.ensures ∙ c.in_ok-text.ensures) c.in-Ok.ensures.reads
    c.in_ok-ids-in-Ok.ids c.len.ensures.known (omega (arith, c.if-len.false, c.len.ensures.len, c.len-in-Ok.ensures)) c.in_ok-ids-in-Ok.ensures in
    record { whole = c.in_ok-whole-in-Ok.ensures ∙ whole c.args.bytes.now (record { store = c.in-Ok.store; ids = c.in_ok-ids-in-Ok.ids }) read }

pub returns-in-Ok : goal.returns-in-Ok
returns-in-Ok g c =
    subst (λ (store : List Object). IsRead c.args.bytes.now (record { store = store; ids = c.in_ok-ids-in-Ok.ids })) (sym c.keep_written.ensures)
    (section_read c.new.result c.new-source.result c.args.bytes.now (c.in-Ok.store, c.in-Ok.came) c.new.ensures (c.new-source.ensures ∙ c.in_ok-text.ensures) c.in-Ok.ensures.reads
    c.in_ok-ids-in-Ok.ids c.len.ensures.known (omega (arith, c.if-len.false, c.len.ensures.len, c.len-in-Ok.ensures)) c.in_ok-ids-in-Ok.ensures)

pub returns-then-len : goal.returns-then-len
returns-then-len g c =
    comes_twice c.new.result c.new-source.result c.args.bytes.now (c.in-Ok.store, c.in-Ok.came) c.new.ensures (c.new-source.ensures ∙ c.in_ok-text.ensures) c.in-Ok.ensures.reads
    (omega (arith, c.if-len.true, c.len.ensures.len, c.len-in-Ok.ensures))
