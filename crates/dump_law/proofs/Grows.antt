-- Dumps of longer histories.
use Rattle.std.proofs.Common.{◌≡◌, List, [], ◌∷◌, ◌++◌, refl, sym, ap, ◌∙◌}
use Rattle.std.specs.Prelude.{◌&&◌, length}
use Rattle.std.proofs.lemmas.Grind.{flat_map-append}
use Rattle.std.proofs.lemmas.List.Elements.{filter-append}
use Rattle.text_model.specs.Lists.{only_new}
use Rattle.text_model.specs.Text.{Bytes}
use Rattle.text_model.proofs.TestLemmas.{bytes_eq-sym}
use Rattle.hg_model.specs.Revision.{Group, Revision, same_group, same_revision}
use Rattle.hg_model.specs.Bundle.{BundleEntry}
use Rattle.hg_model.specs.Delta.{whole_delta}
use Rattle.hg_model.proofs.RevisionLemmas.{same_group-sym}
use Rattle.git_model.specs.Object.{Object, same_object}
use Rattle.git_model.specs.Stream.{object_text, stream_text}
use Rattle.view_model.specs.View.{ChangesetView, CommitView, commit_objects}
use Rattle.view_model.specs.Dump.{revisions_of, revisions_in, brought_by, of_group, written_from, written_group, objects_in, git_increment}
use Rattle.dump_law.specs.Grown.{StreamGrows, RevisionsGrow, last_text, added_entries, GroupGrows}
use Rattle.dump_law.proofs.News.{only_new-append}

pub same_object_turned : (a b : Object) → same_object a b ≡ same_object b a
same_object_turned a b = bytes_eq-sym a.id b.id

pub same_revision_turned : (a b : Revision) → same_revision a b ≡ same_revision b a
same_revision_turned a b = (λ i. same_group-sym a.group b.group i && bytes_eq-sym a.node b.node i)

pub objects_in-append : (old new : List CommitView) → objects_in (old ++ new) ≡ objects_in old ++ objects_in new
objects_in-append old new = flat_map-append commit_objects old new

pub revisions_in-append : (old new : List ChangesetView) → revisions_in (old ++ new) ≡ revisions_in old ++ revisions_in new
revisions_in-append old new = flat_map-append revisions_of old new

pub stream_text-append : (xs ys : List Object) → stream_text (xs ++ ys) ≡ stream_text xs ++ stream_text ys
unfolding stream_text
stream_text-append xs ys = flat_map-append object_text xs ys

pub stream-grows : StreamGrows
unfolding git_increment
stream-grows old new =
    ap (λ l. stream_text (only_new same_object [] l)) (objects_in-append old new)
    ∙ ap stream_text (only_new-append same_object same_object_turned [] (objects_in old) (objects_in new))
    ∙ stream_text-append (only_new same_object [] (objects_in old)) (only_new same_object (objects_in old) (objects_in new))

pub revisions-grow : RevisionsGrow
unfolding brought_by
revisions-grow before old new =
    ap (only_new same_revision (revisions_in before)) (revisions_in-append old new)
    ∙ only_new-append same_revision same_revision_turned (revisions_in before) (revisions_in old) (revisions_in new)
    ∙ ap (λ l. only_new same_revision (revisions_in before) (revisions_in old) ++ only_new same_revision l (revisions_in new)) (sym (revisions_in-append before old))

pub of_group-append : (group : Group) (xs ys : List Revision) → of_group group (xs ++ ys) ≡ of_group group xs ++ of_group group ys
of_group-append group xs ys = filter-append (λ r. same_group group r.group) xs ys

written_from-append : (base : Bytes) (xs ys : List Revision) → written_from base (xs ++ ys) ≡ written_from base xs ++ written_from (last_text base xs) ys
unfolding written_from last_text
written_from-append base [] ys = refl
written_from-append base (x ∷ xs) ys = ap (λ (l : List BundleEntry). record { node = x.node; p = x.p; q = x.q; link = x.link; delta = whole_delta (length base) x.text } ∷ l) (written_from-append x.text xs ys)

pub written_group-append : (known : List Revision) (group : Group) (xs ys : List Revision)
    → written_group known group (xs ++ ys) ≡ written_group known group xs ++ added_entries known group xs ys
unfolding written_group added_entries last_text
written_group-append known group [] ys = refl
written_group-append known group (x ∷ xs) ys = written_from-append _ (x ∷ xs) ys

pub group-grows : GroupGrows
group-grows known group before old new =
    ap (λ l. written_group known group (of_group group l)) (revisions-grow before old new)
    ∙ ap (written_group known group) (of_group-append group (brought_by before old) (brought_by (before ++ old) new))
    ∙ written_group-append known group (of_group group (brought_by before old)) (of_group group (brought_by (before ++ old) new))
