use Rattle.mark_code.specs.Values.{changeset_marks}
use Rattle.mark_code.proofs.ExtrasLemmas.{all_below, all_below_tree, all_put}
use Rattle.mark_code.proofs.changeset_marks.ChangesetMarks.to_extras.Goals as goal

pub put_count-requires : goal.put_count-requires
put_count-requires c = record {
  above =
      all_below (changeset_marks c.args.self.now) c.new-extras.result c.put_part.new.extras c.put_part-2.new.extras c.put_part-3.new.extras c.put_part-4.new.extras
      c.new-extras.ensures c.in_ok-put_part.ensures.put c.in_ok-put_part-2.ensures.put c.in_ok-put_part-3.ensures.put c.in_ok-put_part-4.ensures.put;
}

pub put_tree-requires : goal.put_tree-requires
put_tree-requires c = record {
  above =
      all_below_tree (changeset_marks c.args.self.now) c.new-extras.result c.put_part.new.extras c.put_part-2.new.extras c.put_part-3.new.extras c.put_part-4.new.extras
      c.new-extras.ensures c.in_ok-put_part.ensures.put c.in_ok-put_part-2.ensures.put c.in_ok-put_part-3.ensures.put c.in_ok-put_part-4.ensures.put c.put_count.new.extras c.in_ok-put_count.ensures;
}

pub returns : goal.returns
returns c = (
  record { author = c.in_ok-put_part.ensures.bytes; committer = c.in_ok-put_part-2.ensures.bytes; headers = c.in_ok-put_part-3.ensures.bytes; message = c.in_ok-put_part-4.ensures.bytes; parents = c.requires; tree = c.in_ok-put_tree.ensures.residue },
  all_put (changeset_marks c.args.self.now) c.new-extras.result c.put_part.new.extras c.put_part-2.new.extras c.put_part-3.new.extras c.put_part-4.new.extras
      c.new-extras.ensures c.in_ok-put_part.ensures.put c.in_ok-put_part-2.ensures.put c.in_ok-put_part-3.ensures.put c.in_ok-put_part-4.ensures.put c.put_count.new.extras c.in_ok-put_count.ensures
      c.put_tree.new.extras c.in_ok-put_tree.ensures.put,
)
