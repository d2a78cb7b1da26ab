use Rattle.history_law.proofs.Blocks.{blocks-both, bundle-members, refused}
use Rattle.history_law.proofs.Accepted.{accepted, no-pulls}
use Rattle.history_law.proofs.Streams.{stream-members}
use Rattle.history_law.proofs.pulls_go_on.Goals as goal

pub returns-clause-none : goal.returns-clause-none
returns-clause-none c = no-pulls

pub returns-clause-both : goal.returns-clause-both
returns-clause-both c = blocks-both

pub returns-clause-bundle : goal.returns-clause-bundle
returns-clause-bundle c = bundle-members

pub returns-clause-stream : goal.returns-clause-stream
returns-clause-stream c known objects blocks new ids are checked = stream-members objects checked known blocks new ids are

pub returns-clause-accepted : goal.returns-clause-accepted
returns-clause-accepted c = accepted

pub returns-clause-refused : goal.returns-clause-refused
returns-clause-refused c = refused
