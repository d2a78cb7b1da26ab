-- What the code counts is what the definitions count.
use Rattle.std.proofs.Common.{◌≡◌, ◌+◌, ℕ, Bool, List, [], ◌∷◌, map, Option, Some, None, Ok, refl, sym, ap, subst, ◌∙◌}
use Rattle.std.specs.Prelude.{count_by, cond, IfSome}
use Rattle.std.proofs.lemmas.List.Sums.{sum_by-cons}
use Rattle.text_model.specs.Text.{Bytes}
use Rattle.text_model.specs.Id.{blob, tree, commit, tag}
use Rattle.hg_model.specs.Revision.{Group, Changesets, Manifests, FilesAt, Revision}
use Rattle.hg_model.specs.Reading as reading
use Rattle.hg_model.specs.Reading.{bundle_reading}
use Rattle.git_model.specs.Stream.{Placed, stream_reading}
use Rattle.git_model.specs.Object.{Object}
use Rattle.state_model.specs.Kept.{empty_state}
use Rattle.saved_model.specs.Written.{is_manifests, is_files, revision_counts, object_counts}
use Rattle.command_model.specs.Command.{CheckHg, CheckGit, Written, written_of, ComesTo}
use Rattle.history_model.specs.Pull.{is_changesets}
use Rattle.hg_bundle.specs.declared.arrival.Arrival.{Arrival}
use Rattle.git_batch.specs.declared.arrival.ObjectArrival.{ObjectArrival}
use Rattle.hg_bundle.specs.declared.arrival.RevKind.TheVariants.{Changeset, Manifest, File}
use Rattle.hg_bundle.specs.Arrivals as bundle
use Rattle.git_batch.specs.Arrivals as stream
use Rattle.git_batch.proofs.StreamLaws.{counts}
use Rattle.bridge_cli.specs.Counts.{arrival_counts, stream_counts}

-- elements that pass one test after a map are those that pass another before it
counts-map : {A B : Type 0} (f : A → B) (p : B → Bool) (q : A → Bool) → ((x : A) → p (f x) ≡ q x) → (xs : List A) → count_by p (map f xs) ≡ count_by q xs
counts-map f p q same [] = refl
counts-map f p q same (x ∷ xs) =
    let first : cond {A = ℕ} (p (f x)) 1 0 ≡ cond {A = ℕ} (q x) 1 0 = ap (λ (t : Bool). cond {A = ℕ} t 1 0) (same x) in
    sum_by-cons (λ y. cond {A = ℕ} (p y) 1 0) (f x) (map f xs)
    ∙ ap (λ (n : ℕ). n + count_by p (map f xs)) first
    ∙ ap (λ (n : ℕ). cond {A = ℕ} (q x) 1 0 + n) (counts-map f p q same xs)
    ∙ sym (sum_by-cons (λ y. cond {A = ℕ} (q y) 1 0) x xs)

changesets-same : (g : Group) → bundle.same_kind Changeset (bundle.kind_of g) ≡ is_changesets g
changesets-same Changesets = refl
changesets-same Manifests = refl
changesets-same (FilesAt path) = refl

manifests-same : (g : Group) → bundle.same_kind Manifest (bundle.kind_of g) ≡ is_manifests g
manifests-same Changesets = refl
manifests-same Manifests = refl
manifests-same (FilesAt path) = refl

files-same : (g : Group) → bundle.same_kind File (bundle.kind_of g) ≡ is_files g
files-same Changesets = refl
files-same Manifests = refl
files-same (FilesAt path) = refl

pub counts-revisions : (arrivals : List reading.Arrival) → arrival_counts (map bundle.arrival_of arrivals) ≡ revision_counts arrivals
counts-revisions arrivals =
    let a = counts-map bundle.arrival_of (λ x. bundle.same_kind Changeset x.kind) (λ x. is_changesets (x.revision).group) (λ x. changesets-same (x.revision).group) arrivals in
    let b = counts-map bundle.arrival_of (λ x. bundle.same_kind Manifest x.kind) (λ x. is_manifests (x.revision).group) (λ x. manifests-same (x.revision).group) arrivals in
    let c = counts-map bundle.arrival_of (λ x. bundle.same_kind File x.kind) (λ x. is_files (x.revision).group) (λ x. files-same (x.revision).group) arrivals in
    rw (a, b, c) refl

pub counts-objects : (objects : List Placed) → stream_counts (map stream.arrival_of objects) ≡ object_counts objects
counts-objects objects = rw (counts commit objects, counts tree objects, counts blob objects, counts tag objects) refl

-- what a bundle brings to no revisions is counted
pub bundle_told : (input : Option Bytes) (known : List Revision) (read : List Revision × List Arrival) (lines : Bytes) → known ≡ []
    → IfSome input (λ bytes. bundle.Reads known bytes (Ok read)) → lines ≡ arrival_counts read.1 → IfSome input (λ bytes. ComesTo CheckHg empty_state bytes (Written lines None))
bundle_told None known read lines none reads made = tt
bundle_told (Some bytes) known read lines none (arrivals, is, listed, stored) made =
    let from_none = subst (λ (k : List Revision). bundle_reading k bytes ≡ Ok arrivals) none is in
    ap (written_of revision_counts) from_none ∙ ap (λ (x : Bytes). Written x None) (sym (made ∙ ap arrival_counts listed ∙ counts-revisions arrivals))

-- what a stream brings to no objects is counted
pub stream_told : (input : Option Bytes) (known : List Object) (read : List Object × List ObjectArrival) (lines : Bytes) → known ≡ []
    → IfSome input (λ bytes. stream.Reads known bytes (Ok read)) → lines ≡ stream_counts read.1 → IfSome input (λ bytes. ComesTo CheckGit empty_state bytes (Written lines None))
stream_told None known read lines none reads made = tt
stream_told (Some bytes) known read lines none (objects, is, listed, stored) made =
    let from_none = subst (λ (k : List Object). stream_reading k bytes ≡ Ok objects) none is in
    ap (written_of object_counts) from_none ∙ ap (λ (x : Bytes). Written x None) (sym (made ∙ ap stream_counts listed ∙ counts-objects objects))
