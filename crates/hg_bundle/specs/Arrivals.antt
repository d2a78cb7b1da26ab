-- What reading a bundle brings: its entries as this crate lists them, and the revisions that are known then.
use Rattle.std.specs.Prelude.{◌≡◌, ℕ, Bool, true, false, not, List, [], ◌∷◌, map, count_by, Option, Some, None, Result, Ok, Err, ⊤}
use Rattle.text_model.specs.Text.{Bytes}
use Rattle.text_model.specs.Fault.{Refusal}
use Rattle.hg_model.specs.Revision as model
use Rattle.hg_model.specs.Revision.{Revision, knows, known_after, known_after_all}
use Rattle.hg_model.specs.Reading as reading
use Rattle.hg_model.specs.Reading.{bundle_reading}
use Rattle.hg_bundle.specs.declared.arrival.RevKind.{RevKind}
use Rattle.hg_bundle.specs.declared.arrival.RevKind.TheVariants.{Changeset, Manifest, File}
use Rattle.hg_bundle.specs.declared.arrival.Arrival.{Arrival}
use Rattle.hg_bundle.specs.declared.fault.BundleFault.{BundleFault}
use Rattle.hg_bundle.specs.Faults.{IsFault}

-- what the revisions of a group are of
abbrev pub kind_of : model.Group → RevKind
kind_of model.Changesets = Changeset
kind_of model.Manifests = Manifest
kind_of (model.FilesAt path) = File

-- the path of a file, and no bytes elsewhere
abbrev pub path_of : model.Group → Bytes
path_of model.Changesets = []
path_of model.Manifests = []
path_of (model.FilesAt path) = path

-- how an arrival is listed
abbrev pub arrival_of : reading.Arrival → Arrival
arrival_of a = record { kind = kind_of a.revision.group; path = path_of a.revision.group; node = a.revision.node; at = a.at; fresh = a.fresh }

abbrev pub same_kind : RevKind → RevKind → Bool
same_kind Changeset Changeset = true
same_kind Manifest Manifest = true
same_kind File File = true
same_kind _ _ = false

-- how many of the entries that are listed are of a kind
abbrev pub count_of_kind : RevKind → List Arrival → ℕ
count_of_kind kind arrivals = count_by (λ a. same_kind kind a.kind) arrivals

abbrev pub revisions_of : List reading.Arrival → List Revision
revisions_of arrivals = map (λ a. a.revision) arrivals

-- each is fresh just where its revision wasn't known before it
abbrev pub AreMarked : List Revision → List reading.Arrival → Type 0
AreMarked known [] = ⊤
AreMarked known (a ∷ arrivals) = (a.fresh ≡ not (knows known (a.revision).group (a.revision).node)) × AreMarked (known_after known a.revision) arrivals

-- The arrivals that are listed were added to the known revisions one after the other, each marked as fresh or not, and the store holds what is
-- known then.
abbrev pub AreArrivals : List Revision → List Revision → List Arrival → Type 0
AreArrivals known store listed =
    (arrivals : List reading.Arrival) × (listed ≡ map arrival_of arrivals) × (store ≡ known_after_all known (revisions_of arrivals)) × AreMarked known arrivals

-- why a reading is refused
abbrev pub refused : Result (List reading.Arrival) Refusal → Option Refusal
refused (Ok arrivals) = None
refused (Err why) = Some why

-- The bytes bring these arrivals to the known revisions, all are listed, and the store holds what is known then; or the fault is what the bytes are refused for.
abbrev pub Reads : List Revision → Bytes → Result (List Revision × List Arrival) BundleFault → Type 0
Reads known bytes (Ok read) =
    (arrivals : List reading.Arrival) × (bundle_reading known bytes ≡ Ok arrivals) × (read.1 ≡ map arrival_of arrivals) × (read.0 ≡ known_after_all known (revisions_of arrivals))
Reads known bytes (Err fault) = IsFault (refused (bundle_reading known bytes)) fault
