use Rattle.bridge_text.proofs.WordLemmas.{same_words}
use Rattle.bridge_text.proofs.id.IdPartialEq.eq.Goals as goal

pub returns : goal.returns
returns c = rw (← c.self.view_is, ← c.other.view_is)
    (same_words c.self.inside.bytes c.other.inside.bytes _ _ _ c.self.invariant.0 c.other.invariant.0 c.have_same_word.ensures c.have_same_word-2.ensures c.have_same_word-3.ensures)
