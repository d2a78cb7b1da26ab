use Rattle.std.proofs.Common.{Bool, sym, ap, ◌∙◌}
use Rattle.text_model.specs.Fault.{Collision}
use Rattle.hg_model.specs.Revision.{named_if}
use Rattle.hg_store.specs.Groups.{revision_value}
use Rattle.hg_store.proofs.KnownLemmas.{fresh-fault}
use Rattle.hg_store.proofs.NewerLemmas.{newer-in}
use Rattle.hg_store.proofs.store.HgStore.parse_hashed.Goals as goal

pub returns-then-is_taken-clause-fault : goal.returns-then-is_taken-clause-fault
returns-then-is_taken-clause-fault c =
    let a = c.args.addition.now in
    fresh-fault c.args.self.now (revision_value a) c.alloc.ensures c.requires.other c.requires.its_node c.in_ok-parsed.ensures.shape ∙ ap (λ (b : Bool). named_if b Collision) (sym c.is_taken.ensures ∙ c.if-is_taken.true)

pub returns-clause-ok : goal.returns-clause-ok
returns-clause-ok c =
    let a = c.args.addition.now in
    fresh-fault c.args.self.now (revision_value a) c.alloc.ensures c.requires.other c.requires.its_node c.in_ok-parsed.ensures.shape ∙ ap (λ (b : Bool). named_if b Collision) (sym c.is_taken.ensures ∙ c.if-is_taken.false)

pub returns-clause-newer : goal.returns-clause-newer
returns-clause-newer c = newer-in c.args.self.now (c.args.addition.now).p _ _ c.near-near.result c.in_ok-parsed.parsed c.in_ok-parsed.ensures.value c.in_ok-parsed.ensures.newer c.near-near.ensures
