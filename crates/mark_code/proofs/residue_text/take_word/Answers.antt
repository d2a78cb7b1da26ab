use Rattle.std.proofs.Common.{sym}
use Rattle.mark_code.proofs.ResidueLemmas.{rises-push}
use Rattle.mark_code.proofs.residue_text.take_word.Goals as goal

pub push-requires : goal.push-requires
push-requires c = rises-push c.args.residue.now c.in-Some.item c.if-not-fits.ensures.rise (sym c.if-not-fits.ensures.fits)
