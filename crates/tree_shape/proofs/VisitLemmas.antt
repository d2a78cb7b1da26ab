-- What is refused at an entry, and what isn't.
use Rattle.text_model.proofs.Options.{none_some}
use Rattle.std.proofs.Common.{◌≡◌, ◌≤◌, ◌+◌, ◌||◌, ◌&&◌, ◌==◌, ℕ, Bool, true, false, not, List, [], ◌∷◌, length, Option, Some, None, refl, sym, ap, ◌∙◌, arith}
use Rattle.std.specs.Prelude.{nat_lt, if◌then◌else◌, option_map}
use Rattle.std.proofs.lemmas.Bool.{eqb-true}
use Rattle.std.proofs.lemmas.Bool.Decides.{nat_tests}
use Rattle.text_model.specs.Text.{Bytes}
use Rattle.text_model.specs.Id.{Id, ObjectKind, blob, tree, commit, tag}
use Rattle.text_model.specs.Path.{is_fit_path}
use Rattle.text_model.specs.Fault.{FaultName}
use Rattle.text_model.specs.Fault as fault
use Rattle.git_model.specs.Tree.{Mode, File, GroupFile, Exec, Link, Directory, Gitlink, is_directory, is_blob_mode, TreeEntry}
use Rattle.git_model.specs.Object.{Object, object_at, entries_of, tree_at}
use Rattle.git_model.specs.Unfold.{FileRow, WalkFault, is_kind_there, is_object_there, has_no_entries, is_row, row_size, rows_limit, visit_fault}
use Rattle.tree_shape.specs.declared.fault.TreeFault.{TreeFault}
use Rattle.tree_shape.specs.declared.fault.TreeFault.TheVariants as faults
use Rattle.tree_shape.specs.Faults.{IsTreeFault, IsRowFault, IsSubtreeFault}
use Rattle.tree_shape.specs.Walks.{HasRow, Walked, refused}
use Rattle.tree_shape.proofs.WalkLemmas.{Walked-dir, Walked-row}

pub dir-mode : (m : Mode) → is_directory m ≡ true → m ≡ Directory
dir-mode File h = absurd cc
dir-mode GroupFile h = absurd cc
dir-mode Exec h = absurd cc
dir-mode Link h = absurd cc
dir-mode Directory h = refl
dir-mode Gitlink h = absurd cc

pub no-dir : (m : Mode) → is_blob_mode m ≡ true → is_directory m ≡ false
no-dir File h = refl
no-dir GroupFile h = refl
no-dir Exec h = refl
no-dir Link h = refl
no-dir Directory h = absurd cc
no-dir Gitlink h = refl

-- ---- what is refused, by four tests

abbrev pub fault_by : Bool → Bool → Bool → Bool → Option FaultName
fault_by fit held row over =
    if not fit then Some fault.PathUnfit
    else if not held then Some fault.ObjectUnknown
    else if row && over then Some fault.PairLimit
    else None

abbrev pub is_over : ℕ → FileRow → Bool
is_over size v = nat_lt rows_limit (size + row_size v)

abbrev pub named : Option FaultName → Id → Option WalkFault
named o id = option_map (λ n. record { name = n; id = id }) o

-- a path that isn't fit
pub unfit-fault : (known : List Object) (size : ℕ) (v : FileRow) → is_fit_path v.path ≡ false → IsTreeFault (refused known size v) faults.PathUnfit
unfit-fault known size v h = rw h refl

pub unknown-fault : (known : List Object) (size : ℕ) (v : FileRow) → is_fit_path v.path ≡ true → is_object_there known v ≡ false → refused known size v ≡ Some (record { name = fault.ObjectUnknown; id = v.id })
unknown-fault known size v fit held = (λ k. named (fault_by (fit k) (held k) (is_row known v) (is_over size v)) v.id)

over-fault : (known : List Object) (size : ℕ) (v : FileRow) → is_fit_path v.path ≡ true → is_object_there known v ≡ true → is_row known v ≡ true → is_over size v ≡ true → refused known size v ≡ Some (record { name = fault.PairLimit; id = v.id })
over-fault known size v fit held row over = (λ k. named (fault_by (fit k) (held k) (row k) (over k)) v.id)

pub row-none : (known : List Object) (size : ℕ) (v : FileRow) → is_fit_path v.path ≡ true → is_object_there known v ≡ true → is_over size v ≡ false → visit_fault known size v ≡ None
row-none known size v fit held over = (λ k. fault_by (fit k) (held k) (is_row known v) (over k)) ∙ by (is_row known v)
  where
    by : (t : Bool) → fault_by true true t false ≡ None
    by true = refl
    by false = refl

pub dir-none : (known : List Object) (size : ℕ) (v : FileRow) → is_fit_path v.path ≡ true → is_object_there known v ≡ true → is_row known v ≡ false → visit_fault known size v ≡ None
dir-none known size v fit held row = (λ k. fault_by (fit k) (held k) (row k) (is_over size v))

-- ---- a directory

pub data Below (o : Option Object) : Type 0 where
  absent : is_kind_there tree o ≡ false → entries_of o ≡ None → Below o
  there : (entries : List TreeEntry) → is_kind_there tree o ≡ true → entries_of o ≡ Some entries → Below o

pub below-of : (o : Option Object) → Below o
below-of None = absent refl refl
below-of (Some o) = by o.id o.kind o.content
  where
    by : (id : Id) (kind : ObjectKind) (content : Bytes) → Below (Some (record { id = id; kind = kind; content = content }))
    by id blob content = absent refl refl
    by id tree content = there _ refl refl
    by id commit content = absent refl refl
    by id tag content = absent refl refl

kind-there : (o : Option Object) (entries : List TreeEntry) → entries_of o ≡ Some entries → is_kind_there tree o ≡ true
kind-there o entries h = elim (below-of o) [ absent k e ↦ absurd (none_some {x = entries} (sym e ∙ h)) | there es k e ↦ k ]

kind-absent : (o : Option Object) → entries_of o ≡ None → is_kind_there tree o ≡ false
kind-absent o h = elim (below-of o) [ absent k e ↦ k | there es k e ↦ absurd (none_some {x = es} (sym h ∙ e)) ]

-- of a directory its tree is asked
abbrev there_by : Bool → List Object → FileRow → Bool
there_by directory known v = if directory then is_kind_there tree (object_at known v.id) else not (is_blob_mode v.mode) || is_kind_there blob (object_at known v.id)

pub dir-there : (known : List Object) (v : FileRow) (entries : List TreeEntry) → is_directory v.mode ≡ true → tree_at known v.id ≡ Some entries → is_object_there known v ≡ true
dir-there known v entries dir h = ap (λ (t : Bool). there_by t known v) dir ∙ kind-there (object_at known v.id) entries h

pub dir-tree : (known : List Object) (v : FileRow) → is_directory v.mode ≡ true → is_object_there known v ≡ true → (entries : List TreeEntry) × (tree_at known v.id ≡ Some entries)
dir-tree known v dir h = elim (below-of (object_at known v.id)) [
  | absent k e ↦ absurd (clash (sym h ∙ ap (λ (t : Bool). there_by t known v) dir ∙ k))
  | there es k e ↦ (es, e)
]
  where
    clash : true ≡ false → ⊥
    clash q = cc

pub row-dir : (known : List Object) (v : FileRow) (entries : List TreeEntry) → is_directory v.mode ≡ true → tree_at known v.id ≡ Some entries → is_row known v ≡ has_no_entries (Some entries)
row-dir known v entries dir h = (λ k. not (dir k) || has_no_entries (h k))

pub row-file : (known : List Object) (v : FileRow) → is_directory v.mode ≡ false → is_row known v ≡ true
row-file known v file = ap (λ (t : Bool). not t || has_no_entries (tree_at known v.id)) file

pub file-there : (known : List Object) (v : FileRow) (held : Bool) → is_directory v.mode ≡ false → held ≡ (not (is_blob_mode v.mode) || is_kind_there blob (object_at known v.id)) → is_object_there known v ≡ held
file-there known v held file h = ap (λ (t : Bool). there_by t known v) file ∙ sym h

-- the subtree of an entry is refused
pub dir-refused : (known : List Object) (size : ℕ) (v : FileRow) (err : TreeFault) → is_fit_path v.path ≡ true → is_directory v.mode ≡ true → IsSubtreeFault (tree_at known v.id) v.id err → IsTreeFault (refused known size v) err
dir-refused known size v err fit dir h = by (tree_at known v.id) refl h
  where
    only : (err : TreeFault) → tree_at known v.id ≡ None → IsSubtreeFault None v.id err → IsTreeFault (refused known size v) err
    only (faults.ObjectUnknown i) at h =
        unknown-fault known size v fit (ap (λ (t : Bool). there_by t known v) dir ∙ kind-absent (object_at known v.id) at) ∙ ap (λ (x : Id). Some (record { name = fault.ObjectUnknown; id = x })) (sym h)
    only faults.PathUnfit at h = absurd h
    only faults.Limit at h = absurd h
    only faults.Memory at h = absurd h

    by : (o : Option (List TreeEntry)) → tree_at known v.id ≡ o → IsSubtreeFault o v.id err → IsTreeFault (refused known size v) err
    by None at h = only err at h
    by (Some entries) at h = absurd (never err h)
      where
        never : (err : TreeFault) → IsSubtreeFault (Some entries) v.id err → ⊥
        never (faults.ObjectUnknown i) h = h
        never faults.PathUnfit h = h
        never faults.Limit h = h
        never faults.Memory h = h

-- ---- a row is met

pub within : (size n to : ℕ) → nat_lt rows_limit (size + n) ≡ false → to ≡ size + n → to ≤ rows_limit
within size n to h s = grind (arith, h, s, nat_tests)

-- a row that comes behind the others
pub met : (known : List Object) (size to : ℕ) (rows new : List FileRow) (v : FileRow) → is_fit_path v.path ≡ true → is_object_there known v ≡ true → is_row known v ≡ true → HasRow size to rows new v → Walked known size to rows new (v ∷ [])
met known size to rows new v fit held row h =
    Walked-row known size to rows new v row (row-none known size v fit held h.room) (h.size ∙ sym (ap (λ (t : Bool). if t then size + row_size v else size) row)) (within size (row_size v) to h.room h.size) h.rows

-- a row that passes the limit
pub met-over : (known : List Object) (size : ℕ) (v : FileRow) (err : TreeFault) → is_fit_path v.path ≡ true → is_object_there known v ≡ true → is_row known v ≡ true → IsRowFault (is_over size v) err → IsTreeFault (refused known size v) err
met-over known size v (faults.ObjectUnknown i) fit held row h = absurd h
met-over known size v faults.PathUnfit fit held row h = absurd h
met-over known size v faults.Limit fit held row h = ap (λ (o : Option WalkFault). option_map (λ w. w.name) o) (over-fault known size v fit held row h)
met-over known size v faults.Memory fit held row h = tt

-- a directory with entries is entered
pub entered : (known : List Object) (size : ℕ) (rows : List FileRow) (v : FileRow) → size ≤ rows_limit → is_fit_path v.path ≡ true → is_object_there known v ≡ true → is_row known v ≡ false → Walked known size size rows rows (v ∷ [])
entered known size rows v within fit held row = Walked-dir known size size rows v row (dir-none known size v fit held row) (sym (ap (λ (t : Bool). if t then size + row_size v else size) row)) within

pub empty-dir : (known : List Object) (v : FileRow) (entries : List TreeEntry) (empty : Bool) → empty ≡ (length entries == 0) → empty ≡ true → is_directory v.mode ≡ true → tree_at known v.id ≡ Some entries → is_row known v ≡ true
empty-dir known v entries empty is h dir at = row-dir known v entries dir at ∙ by entries (sym is ∙ h)
  where
    by : (entries : List TreeEntry) → (length entries == 0) ≡ true → has_no_entries (Some entries) ≡ true
    by [] h = refl
    by (e ∷ entries) h = absurd (omega (arith, eqb-true (length (e ∷ entries)) 0 h))

pub full-dir : (known : List Object) (v : FileRow) (entries : List TreeEntry) (empty : Bool) → empty ≡ (length entries == 0) → empty ≡ false → is_directory v.mode ≡ true → tree_at known v.id ≡ Some entries → is_row known v ≡ false
full-dir known v entries empty is h dir at = row-dir known v entries dir at ∙ by entries (sym is ∙ h)
  where
    clash : true ≡ false → ⊥
    clash q = cc

    by : (entries : List TreeEntry) → (length entries == 0) ≡ false → has_no_entries (Some entries) ≡ false
    by [] h = absurd (clash h)
    by (e ∷ entries) h = refl
