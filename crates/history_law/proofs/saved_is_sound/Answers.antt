use Rattle.history_law.proofs.Saved.{has-views}
use Rattle.history_law.proofs.States.{saved-sound}
use Rattle.history_law.proofs.saved_is_sound.Goals as goal

pub returns-clause-sound : goal.returns-clause-sound
returns-clause-sound c = saved-sound

pub returns-clause-views : goal.returns-clause-views
returns-clause-views c = has-views
