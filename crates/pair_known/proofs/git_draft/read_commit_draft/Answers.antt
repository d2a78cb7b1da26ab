use Rattle.std.proofs.Common.{◌≡◌, ◌++◌, List, ℕ, map, sym, ap, subst, ◌∙◌}
use Rattle.text_model.specs.Lists.{Each}
use Rattle.git_model.specs.Commit.{Commit}
use Rattle.git_model.specs.Object.{Object}
use Rattle.git_model.specs.Unfold.{FileRow, IsUnfolding, walk_fault}
use Rattle.tree_shape.specs.Faults.{IsTreeFault}
use Rattle.view_model.specs.Held.{IsRowHeld, file_row_of}
use Rattle.pair_known.proofs.HeldCommits.{held-at}
use Rattle.pair_known.proofs.Rising.{rising_one}
use Rattle.pair_known.proofs.git_draft.read_commit_draft.Goals as goal

one_unfolding : {known : List Object} (root other : List ℕ) (xs ys : List FileRow) → root ≡ other → IsUnfolding known root xs → IsUnfolding known other ys → xs ≡ ys
one_unfolding {known} root other xs ys same a b =
    let c = subst (λ (r : List ℕ). IsUnfolding known r xs) same a in
    rising_one (λ (r : FileRow). r.path) xs ys c.in_order b.in_order (λ x i. b.all x (c.each x i)) (λ x i. c.all x (b.each x i))

pub returns-in-Err-flatten_near-clause-fault : goal.returns-in-Err-flatten_near-clause-fault
returns-in-Err-flatten_near-clause-fault c = λ v at.
    subst (λ (root : List ℕ). IsTreeFault (walk_fault c.args.known.now.git root) c.in-Err-flatten_near.fault) (ap (λ (x : Commit). x.tree_id) (c.commit.view_is ∙ sym (c.in-Ok.ensures.one v at))) c.in-Err-flatten_near.ensures.fault

pub returns-clause-draft : goal.returns-clause-draft
returns-clause-draft c = λ view held.
    let value = c.in-Ok.ensures.one view.value (held-at _ _ view held) in
    record {
      value = value;
      files = one_unfolding _ _ c.in-Ok-flatten_near.files (map file_row_of view.rows) (ap (λ (x : Commit). x.tree_id) (c.commit.view_is ∙ sym value)) c.in-Ok-flatten_near.ensures.unfolds held.rows;
      blobs = subst (λ (fresh : List Object). Each (IsRowHeld (fresh ++ c.args.known.now.git)) view.rows) (sym c.new.ensures) held.blobs;
    }
