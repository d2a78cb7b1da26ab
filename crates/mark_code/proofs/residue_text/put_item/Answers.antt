use Rattle.std.proofs.Common.{Result, Ok, Err, OnOk, subst}
use Rattle.text_model.specs.Text.{Bytes, IsBytes}
use Rattle.git_object.specs.Values.{kind_value}
use Rattle.pair_model.specs.MarkList.{IsItemKind}
use Rattle.mark_code.proofs.residue_text.put_item.Goals as goal
use Rattle.mark_code.proofs.residue_text.put_item.Goals.{in-Group+in_ok-extend_from_slice-in-Group, in-Link+in_ok-put_link-in-Link, in-Empty+in_ok-extend_from_slice-in-Empty}

-- what holds, holds where a result is Ok
on_ok : {X E P : Type 0} (result : Result X E) → P → OnOk result P
on_ok (Ok x) p = p
on_ok (Err e) p = tt

pub returns-clause-item : goal.returns-clause-item
returns-clause-item c =
    let kind : IsItemKind (kind_value c.kind.result) = elim c.match-kind.branch [
      | in-Group+in_ok-extend_from_slice-in-Group w ↦ rw w.in-Group.is tt
      | in-Link+in_ok-put_link-in-Link w ↦ rw w.in-Link.is w.in_ok-put_link-in-Link.ensures.id
      | in-Empty+in_ok-extend_from_slice-in-Empty w ↦ rw w.in-Empty.is tt
    ] in
    on_ok c.put_path.result (subst (λ (p : Bytes). IsBytes p) c.path.ensures c.put_path.ensures.bytes, subst IsItemKind c.kind.ensures kind)
