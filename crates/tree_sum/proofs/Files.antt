-- What a walk that passes tells of the files of a tree.
use Rattle.std.proofs.Common.{◌≡◌, ℕ, true, List, [], ◌∷◌, Option, Some, None, is_some, refl, sym, ap, ◌∙◌, bytes_eq}
use Rattle.std.specs.List.{list_all}
use Rattle.std.specs.Map.{lookup}
use Rattle.text_model.specs.Text.{Bytes}
use Rattle.text_model.specs.Id.{Id}
use Rattle.text_model.proofs.TestLemmas.{both}
use Rattle.git_model.specs.Tree.{Mode, File, GroupFile, Exec, Link, Directory, Gitlink, TreeEntry}
use Rattle.git_model.specs.Object.{Object, tree_at}
use Rattle.git_model.specs.Unfold.{is_object_there}
use Rattle.tree_shape.specs.Walks.{row_at, entry_visits, entries_visits}
use Rattle.tree_shape.proofs.FitLemmas.{all-append}
use Rattle.tree_shape.proofs.Unfolding.{visits-suc}
use Rattle.tree_sum.specs.declared.sum.Sum.{Sum}
use Rattle.tree_sum.specs.Sums.{IsSum, AreSums, is_file_there, AreFilesThere}
use Rattle.tree_sum.proofs.Keeping.{kept-at}
use Rattle.tree_sum.proofs.Passing.{walk-passes}

file-of : (known : List Object) (mode : Mode) (path name : Bytes) (id : Id) → is_object_there known (record { path = path; mode = mode; id = id }) ≡ true → is_file_there known (record { mode = mode; name = name; id = id }) ≡ true
file-of known File path name id h = h
file-of known GroupFile path name id h = h
file-of known Exec path name id h = h
file-of known Link path name id h = h
file-of known Directory path name id h = refl
file-of known Gitlink path name id h = refl

files-of : (known : List Object) (levels : ℕ) (entries : List TreeEntry) → list_all (is_object_there known) (entries_visits known levels [] entries) ≡ true → AreFilesThere known entries
files-of known levels [] h = tt
files-of known levels (e ∷ entries) h =
    let parts = both (list_all (is_object_there known) (entry_visits known levels [] e)) (list_all (is_object_there known) (entries_visits known levels [] entries))
    (sym (all-append (is_object_there known) (entry_visits known levels [] e) (entries_visits known levels [] entries)) ∙ h) in
    let one = both (is_object_there known (row_at e.name e)) _ parts.0 in
    (file-of known e.mode e.name e.name e.id one.0, files-of known levels entries parts.1)

-- the files of a tree are there whose sum is kept
pub summed-files : (known : List Object) (sums : List (Id × Sum)) (id : Id) (entries : List TreeEntry) (o : Option Sum) → AreSums known sums → o ≡ lookup (bytes_eq id) sums → is_some o ≡ true → Some entries ≡ tree_at known id → AreFilesThere known entries
summed-files known sums id entries None all is some at = absurd cc
summed-files known sums id entries (Some s) all is some at =
    let sum : IsSum known id s = kept-at (λ (x : Id × Sum). IsSum known x.0 x.1) sums id s all (sym is) in
    let p = walk-passes known sum.objects id sum.passes in
    files-of known 256 entries (ap (list_all (is_object_there known)) (sym (visits-suc known 256 [] id entries (sym at))) ∙ p.2.there)
