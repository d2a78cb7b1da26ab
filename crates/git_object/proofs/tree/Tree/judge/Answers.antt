use Rattle.std.proofs.Common.{◌≡◌, ◌&&◌, List, not, sym, ap, ◌∙◌}
use Rattle.git_model.specs.Tree.{TreeEntry, is_octal, rises_behind, has_name}
use Rattle.git_model.proofs.TreeLemmas.{judged-unfit, judged-ok}
use Rattle.git_object.specs.Faults.{fault_at}
use Rattle.git_object.specs.Values.{mode_value, raw_entry}
use Rattle.git_object.proofs.tree.Tree.judge.Goals as goal

pub returns-then-not-fit_name-clause-fault : goal.returns-then-not-fit_name-clause-fault
returns-then-not-fit_name-clause-fault c =
    let raw = raw_entry c.args.entry.now in
    let seen : c.as_slice.result.now ≡ c.args.self.now = c.as_slice.ensures.value ∙ c.self.view_is in
    let shape = ap (λ (entries : List TreeEntry). is_octal raw.mode && rises_behind entries raw && not (has_name entries raw.name)) (sym seen) ∙ sym c.if-not-has_shape.ensures in
    ap (fault_at c.args.place) (judged-unfit c.args.self.now raw (mode_value c.in-Some.mode) shape c.in-Some.ensures (sym c.if-not-fit_name.ensures))

pub returns-clause-ok : goal.returns-clause-ok
returns-clause-ok c =
    let raw = raw_entry c.args.entry.now in
    let seen : c.as_slice.result.now ≡ c.args.self.now = c.as_slice.ensures.value ∙ c.self.view_is in
    let shape = ap (λ (entries : List TreeEntry). is_octal raw.mode && rises_behind entries raw && not (has_name entries raw.name)) (sym seen) ∙ sym c.if-not-has_shape.ensures in
    judged-ok c.args.self.now raw (mode_value c.in-Some.mode) shape c.in-Some.ensures (sym c.if-not-fit_name.ensures)
