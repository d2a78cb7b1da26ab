use Rattle.std.proofs.Common.{IsTrue, subst, sym}
use Rattle.text_model.specs.Text.{Bytes}
use Rattle.hg_model.specs.Changeset.{key_rises, last_key}
use Rattle.mark_code.proofs.ExtrasLemmas.{rises_above}
use Rattle.mark_code.proofs.changeset_marks.put_item.Goals as goal

pub push-requires-clause-rises : goal.push-requires-clause-rises
push-requires-clause-rises c =
    subst (λ (key : Bytes). IsTrue (key_rises (last_key c.args.extras.now) key)) (sym c.in_ok-key.ensures) (rises_above c.args.key.now c.args.extras.now c.requires.above)
