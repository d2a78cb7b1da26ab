use Rattle.git_model.proofs.StreamAgain.{object_again, stream_again}
use Rattle.git_model.proofs.StreamTakes.{object_takes, stream_takes}
use Rattle.git_batch.proofs.laws.stream_laws.Goals as goal

pub returns-clause-object : goal.returns-clause-object
returns-clause-object c at o rest fit fits = object_again at o rest fit.0 fit.1 fits

pub returns-clause-stream : goal.returns-clause-stream
returns-clause-stream c objects each fits = stream_again objects each fits

pub returns-clause-taken : goal.returns-clause-taken
returns-clause-taken c at bytes o found = let t = object_takes at bytes o found in (t.rest, t.is, t.fit, t.fits)

pub returns-clause-whole : goal.returns-clause-whole
returns-clause-whole c bytes all = stream_takes bytes all
