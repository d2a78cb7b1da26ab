use Rattle.std.proofs.Common.{◌≡◌, ◌≤◌, [], List, length, subst}
use Rattle.std.proofs.lemmas.Result.{IfOk-weaker}
use Rattle.pair_model.specs.Block.{Block}
use Rattle.pair_model.specs.User.{line_of_user, message_of, description_of}
use Rattle.git_model.specs.Commit.{Commit}
use Rattle.view_model.specs.View.{CommitView}
use Rattle.pair_known.specs.Over.{IsCommitOver}
use Rattle.partner_model.specs.Mark.{part_unless}
use Rattle.mark_code.specs.Values.{changeset_marks}
use Rattle.changeset_mark.specs.Marks.{parents_mark, marks_over}
use Rattle.changeset_mark.proofs.MarkLemmas.{marks-are}
use Rattle.changeset_mark.proofs.marks.marks_of.Goals as goal

pub returns-clause-marks : goal.returns-clause-marks
returns-clause-marks c =
    let x = (c.args.c.now).commit in
    let given = c.args.given.now in
    IfOk-weaker c.head_marks.result (λ marks. changeset_marks marks ≡ record {
      author = part_unless x.author (line_of_user given.user given.time given.tz);
      committer = part_unless x.committer x.author;
      headers = part_unless x.headers [];
      message = part_unless x.message (message_of (description_of x.message));
      parents = parents_mark (length x.parents);
      tree = c.in_ok-tree.tree;
    })
    (λ marks. (blocks : List Block) (v : CommitView) → IsCommitOver c.args.known.now blocks c.args.c.now v → changeset_marks marks ≡ marks_over blocks v)
    (λ marks is blocks v over.
    marks-are blocks v x over.draft.value given c.requires.given c.in_ok-tree.tree (c.in_ok-tree.ensures blocks v over) (changeset_marks marks) is)
    c.head_marks.ensures.marks

pub head_marks-requires : goal.head_marks-requires
head_marks-requires c =
    let over = c.requires.over.2 in
    subst (λ (x : Commit). length x.parents ≤ 64) over.draft.value over.view.few
