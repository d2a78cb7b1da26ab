use Rattle.std.proofs.Common.{◌≡◌, ◌∙◌, ◌++◌, [], ◌∷◌, List, true, sym, ap}
use Rattle.std.proofs.lemmas.List.{append-nil}
use Rattle.text_model.specs.Id.{tree}
use Rattle.git_model.specs.Tree.{is_directory}
use Rattle.git_model.specs.Object.{Object, object_of}
use Rattle.tree_shape.proofs.PutRows.{below-dir, below-deep, below-file}
use Rattle.tree_shape.proofs.assemble.put_below.Goals as goal
use Rattle.tree_shape.proofs.assemble.put_below.Goals.{else-is_directory-via-then-is_directory+else-levels-gt0, else-is_directory-via-else-is_directory}

pub returns-in_ok-put_tree : goal.returns-in_ok-put_tree
returns-in_ok-put_tree c =
    let dir : is_directory c.args.row.now.mode ≡ true = cc (c.mode.ensures, c.is_directory.ensures, c.if-is_directory.true) in
    c.in_ok-put_tree.ensures.1 ∙ (λ k. c.args.made.now ++ object_of tree (c.new.ensures.items k) ∷ [])
    ∙ ap (λ (os : List Object). c.args.made.now ++ os) (sym (below-dir c.args.levels c.args.row.now dir c.if-levels-gt0.true))

pub returns-else-is_directory : goal.returns-else-is_directory
returns-else-is_directory c =
    sym (append-nil c.args.made.now)
    ∙ ap (λ (os : List Object). c.args.made.now ++ os) (elim c.else-is_directory.branch [
      | else-is_directory-via-then-is_directory+else-levels-gt0 w ↦ sym (below-deep c.args.levels c.args.row.now (cc (c.mode.ensures, c.is_directory.ensures, w.if-is_directory.true)) w.if-levels-gt0.false)
      | else-is_directory-via-else-is_directory w ↦ sym (below-file c.args.levels c.args.row.now (cc (c.mode.ensures, c.is_directory.ensures, w.if-is_directory.false)))
    ])
