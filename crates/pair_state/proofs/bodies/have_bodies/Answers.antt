use Rattle.std.proofs.Common.{◌≡◌, true}
use Rattle.git_model.specs.Object.{knows_object}
use Rattle.tree_shape.specs.Laws.{IsKnown}
use Rattle.view_model.specs.View.{Row}
use Rattle.pair_state.specs.Blocks.{body_blob}
use Rattle.pair_state.specs.Step.{IsElse}
use Rattle.pair_state.proofs.KeptLemmas.{if-some, lines-with, files-with, some-with}
use Rattle.pair_state.proofs.bodies.have_bodies.Goals as goal

pub lines_of-lines-requires : goal.lines_of-lines-requires
lines_of-lines-requires c = record { held = ((c.requires.held).0, (c.requires.held).1.held) }

pub have_blobs-requires : goal.have_blobs-requires
have_blobs-requires c =
    let known = c.args.known.now in
    let v = c.requires.held.0 in
    let asked = c.requires.held.1 in
    record {
      lines = lines-with known.hg (λ (y : Row). knows_object known.git (body_blob y).id ≡ true) v.rows c.lines_of-lines.result
          (c.lines_of-lines.ensures v asked.held) asked.held.files asked.blobs;
      near = c.lines_near-near.ensures known.git c.requires.agreed;
      second = if-some c.walk_of.result (λ entries are. are known.git c.requires.agreed) c.walk_of.ensures;
    }

pub returns-clause-yes : goal.returns-clause-yes
returns-clause-yes c = λ yes v asked.
    let known = c.args.known.now in
    files-with known.hg (λ (y : Row). IsKnown known.git (body_blob y)) v.rows c.lines_of-lines.result
    (c.lines_of-lines.ensures v asked.held) asked.held.files (c.have_blobs.ensures.yes yes)

pub returns-clause-otherwise : goal.returns-clause-otherwise
returns-clause-otherwise c = λ no v asked.
    let known = c.args.known.now in
    some-with known.hg (λ (y : Row). IsElse known.git (body_blob y)) v.rows c.lines_of-lines.result
    (c.lines_of-lines.ensures v asked.held) asked.held.files (c.have_blobs.ensures.otherwise no)
