use Rattle.std.proofs.Common.{ap}
use Rattle.hg_bundle.specs.declared.arrival.Arrival.{Arrival}
use Rattle.pull_bundle.proofs.ArrivalLemmas.{kind-changeset, kind-manifest, kind-file}
use Rattle.pull_bundle.proofs.arrivals.is_changeset.Goals as goal

pub returns-in-Changeset : goal.returns-in-Changeset
returns-in-Changeset c = λ a is. kind-changeset (a.revision).group c.args.arrival.now.kind (ap (λ (x : Arrival). x.kind) is) c.in-Changeset.is

pub returns-in-Manifest : goal.returns-in-Manifest
returns-in-Manifest c = λ a is. kind-manifest (a.revision).group c.args.arrival.now.kind (ap (λ (x : Arrival). x.kind) is) c.in-Manifest.is

pub returns-in-File : goal.returns-in-File
returns-in-File c = λ a is. kind-file (a.revision).group c.args.arrival.now.kind (ap (λ (x : Arrival). x.kind) is) c.in-File.is
