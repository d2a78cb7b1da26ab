-- What a bundle brings, in the words of the format: the texts that its deltas make, group by group, each revision added to those known before it.
-- From Mercurial's help topics `internals.bundles` and `internals.changegroups`.
use Rattle.std.specs.Prelude.{◌≡◌, ◌+◌, ◌≤◌, ℕ, not, List, [], ◌∷◌, ◌++◌, length, None, IsTrue, ⊤}
use Rattle.text_model.specs.Text.{Bytes}
use Rattle.text_model.specs.Path.{is_fit_path}
use Rattle.hg_model.specs.Bundle.{BundleEntry, FileGroup, Bundle, IsBundle, IsWithinLimits}
use Rattle.hg_model.specs.Revision.{Group, Changesets, Manifests, FilesAt, Revision, knows, known_after, addition_fault, known_after_all}
use Rattle.hg_model.specs.Reading.{AreTextsOf, revision_by, sum_limit, text_limit}
use Rattle.hg_bundle.specs.declared.arrival.Arrival.{Arrival}
use Rattle.hg_bundle.specs.declared.fault.BundleFault.{BundleFault}
use Rattle.hg_bundle.specs.declared.fault.BundleFault.TheVariants.{Refused, Read, Memory}
use Rattle.hg_bundle.specs.Arrivals.{kind_of, path_of}

-- the revisions of a group's entries with these texts
abbrev pub revisions_with : Group → List BundleEntry → List Bytes → List Revision
revisions_with group [] texts = []
revisions_with group (e ∷ es) [] = []
revisions_with group (e ∷ es) (t ∷ ts) = revision_by group e t ∷ revisions_with group es ts

-- The revisions are those of a group's entries, with the texts that the deltas make.
pub record AreOfGroup (known : List Revision) (group : Group) (entries : List BundleEntry) (revisions : List Revision) : Type 0 where
  pub texts : List Bytes
  pub made : AreTextsOf known group entries texts
  pub are : revisions ≡ revisions_with group entries texts

-- the same of the groups of files, one after the other
abbrev pub AreOfFiles : List Revision → List FileGroup → List Revision → Type 0
AreOfFiles known [] revisions = revisions ≡ []
AreOfFiles known (f ∷ fs) revisions =
    (front : List Revision) × (later : List Revision) × (revisions ≡ front ++ later) × IsTrue (is_fit_path f.path)
    × AreOfGroup known (FilesAt f.path) f.entries front × AreOfFiles (known_after_all known front) fs later

-- Each can be added to those known and those before it. The texts are within their limits, and so is their sum, to which the first number is added.
abbrev pub AreAdditions : List Revision → ℕ → List Revision → Type 0
AreAdditions known sum [] = sum ≤ sum_limit
AreAdditions known sum (r ∷ rs) = (addition_fault known r ≡ None) × (length r.text ≤ text_limit r.group) × AreAdditions (known_after known r) (sum + length r.text) rs

-- the revisions are what a bundle brings to those known
pub record AreOfBundle (known : List Revision) (b : Bundle) (revisions : List Revision) : Type 0 where
  pub changesets : List Revision
  pub manifests : List Revision
  pub files : List Revision
  pub all : revisions ≡ changesets ++ (manifests ++ files)
  pub are_changesets : AreOfGroup known Changesets b.changesets changesets
  pub are_manifests : AreOfGroup (known_after_all known changesets) Manifests b.manifests manifests
  pub are_files : AreOfFiles (known_after_all (known_after_all known changesets) manifests) b.files files
  pub additions : AreAdditions known 0 revisions

-- how a revision is listed that is added to those known
pub record IsListed (known : List Revision) (r : Revision) (a : Arrival) : Type 0 where
  pub kind : a.kind ≡ kind_of r.group
  pub path : a.path ≡ path_of r.group
  pub node : a.node ≡ r.node
  pub fresh : a.fresh ≡ not (knows known r.group r.node)

-- each revision is listed, in order
abbrev pub AreListed : List Revision → List Revision → List Arrival → Type 0
AreListed known [] [] = ⊤
AreListed known [] (a ∷ arrivals) = ⊥
AreListed known (r ∷ rs) [] = ⊥
AreListed known (r ∷ rs) (a ∷ arrivals) = IsListed known r a × AreListed (known_after known r) rs arrivals

-- The bytes are a bundle within the limits. What it brings was added to the known revisions, and is listed.
pub record BringsBundle (known : List Revision) (bytes : Bytes) (store : List Revision) (arrivals : List Arrival) : Type 0 where
  pub bundle : Bundle
  pub is : IsBundle bytes bundle
  pub within : IsWithinLimits bytes bundle
  pub revisions : List Revision
  pub are : AreOfBundle known bundle revisions
  pub added : store ≡ known_after_all known revisions
  pub listed : AreListed known revisions arrivals

-- The bytes are no bundle within the limits whose revisions can be added to those known.
abbrev pub IsUnreadable : List Revision → Bytes → Type 0
IsUnreadable known bytes = (b : Bundle) (revisions : List Revision) → IsBundle bytes b → IsWithinLimits bytes b → AreOfBundle known b revisions → ⊥

-- Bytes of which the fault is told are none that can be read. What the source and the memory do isn't told by the bytes.
abbrev pub TellsUnreadable : List Revision → BundleFault → Bytes → Type 0
TellsUnreadable known (Refused refusal) bytes = IsUnreadable known bytes
TellsUnreadable known Read bytes = ⊤
TellsUnreadable known Memory bytes = ⊤
