-- The marks of a commit, part by part.
use Rattle.std.proofs.Common.{◌≡◌, List, [], length, Option, sym, ap, ◌∙◌}
use Rattle.git_model.specs.Commit.{Commit}
use Rattle.git_model.specs.Residue.{ResidueItem}
use Rattle.view_model.specs.View.{CommitView}
use Rattle.pair_model.specs.Block.{Block}
use Rattle.pair_model.specs.MarkList.{ChangesetMarks}
use Rattle.pair_model.specs.User.{UserDate, user_of_line, line_of_user, message_of, description_of}
use Rattle.partner_model.specs.Mark.{part_unless, residue_unless, residue_in, changeset_marks}
use Rattle.changeset_mark.specs.Marks.{handed_to, parents_mark, marks_over}

pub marks-are : (blocks : List Block) (v : CommitView) (x : Commit) → v.value ≡ x → (given : UserDate) → given ≡ user_of_line x.author
    → (tree : Option (List ResidueItem)) → tree ≡ residue_unless (residue_in v.rows) (handed_to blocks v)
    → (marks : ChangesetMarks) → marks ≡ record {
      author = part_unless x.author (line_of_user given.user given.time given.tz);
      committer = part_unless x.committer x.author;
      headers = part_unless x.headers [];
      message = part_unless x.message (message_of (description_of x.message));
      parents = parents_mark (length x.parents);
      tree = tree;
    } → marks ≡ marks_over blocks v
unfolding changeset_marks
marks-are blocks v x same given given-is tree t marks m =
    let whole : record {
      author = part_unless x.author (line_of_user given.user given.time given.tz);
      committer = part_unless x.committer x.author;
      headers = part_unless x.headers [];
      message = part_unless x.message (message_of (description_of x.message));
      parents = parents_mark (length x.parents);
      tree = tree;
    } ≡ changeset_marks x (description_of x.message) (residue_in v.rows) (handed_to blocks v) =
    λ i. record {
      author = ap (λ (g : UserDate). part_unless x.author (line_of_user g.user g.time g.tz)) given-is i;
      committer = part_unless x.committer x.author;
      headers = part_unless x.headers [];
      message = part_unless x.message (message_of (description_of x.message));
      parents = parents_mark (length x.parents);
      tree = t i;
    } in
    m ∙ whole ∙ ap (λ (y : Commit). changeset_marks y (description_of y.message) (residue_in v.rows) (handed_to blocks v)) (sym same)
