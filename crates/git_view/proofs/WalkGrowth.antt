-- What a store holds, it holds with more objects too: walks through trees and commits.
use Rattle.std.proofs.Common.{◌≡◌, ◌+◌, ◌&&◌, ◌||◌, ◌++◌, not, nat_lt, ℕ, zero, suc, Bool, true, false, List, [], ◌∷◌, Option, Some, None, refl, sym, ap, subst, ◌∙◌, inl, inr}
use Rattle.std.specs.Prelude.{filter, if◌then◌else◌}
use Rattle.std.specs.List.{flat_map}
use Rattle.text_model.specs.Lists.{In, Each}
use Rattle.text_model.specs.Text.{Bytes}
use Rattle.text_model.specs.Id.{Id, ObjectKind, blob, tree}
use Rattle.text_model.specs.Path.{is_fit_path}
use Rattle.text_model.specs.Fault as fault
use Rattle.text_model.proofs.EachLemmas.{Each-weaker}
use Rattle.git_model.specs.Tree.{TreeEntry, is_directory, is_blob_mode}
use Rattle.git_model.specs.Object.{Object, object_at, entries_of, tree_at}
use Rattle.git_model.specs.Unfold.{FileRow, IsUnfolding, joined_path, visits, first_visit_fault, is_row, is_kind_there, is_object_there, has_no_entries, row_size, rows_limit, WalkFault, walk, walk_fault, by_paths, tree_rows}
use Rattle.git_store.specs.Known.{AreKnown}
use Rattle.tree_shape.specs.Walks.{row_at, entry_visits}
use Rattle.tree_shape.proofs.Again.{Fine, all-fine, root-tree}
use Rattle.tree_shape.proofs.Elements.{in-flat}
use Rattle.tree_shape.proofs.Unfolding.{visits-suc, unfolds}
use Rattle.tree_shape.proofs.WalkLemmas.{next, walk-fault}
use Rattle.view_model.specs.View.{CommitView}
use Rattle.view_model.specs.Held.{IsRowHeld, IsCommitHeld, AreCommitsHeld}
use Rattle.git_view.proofs.Found.{there}
use Rattle.git_view.proofs.Rows.{rows-are}
use Rattle.git_view.proofs.Walks.{none-refused}

-- the look-ups of the one are those of the other
abbrev pub IsWithin : List Object → List Object → Type 0
IsWithin old new = (id : Id) (o : Object) → object_at old id ≡ Some o → object_at new id ≡ Some o

-- the fault of a visit by what is found, before that of later visits
abbrev fault_with : ℕ → FileRow → Bool → Bool → Option WalkFault → Option WalkFault
fault_with size v held row later = elim (
    if not (is_fit_path v.path) then Some fault.PathUnfit
    else if not held then Some fault.ObjectUnknown
    else if row && nat_lt rows_limit (size + row_size v) then Some fault.PairLimit
    else None) as (λ _. Option WalkFault) [
      | Some name ↦ Some (record { name = name; id = v.id })
      | None ↦ later
    ]

-- of a directory its tree is asked, of a file its blob
abbrev there_by : Bool → Bool → List Object → FileRow → Bool
there_by directory file known v = if directory then is_kind_there tree (object_at known v.id) else not file || is_kind_there blob (object_at known v.id)

filter-same : (p q : FileRow → Bool) (vs : List FileRow) → ((v : FileRow) → In v vs → p v ≡ q v) → filter p vs ≡ filter q vs
filter-same p q [] h = refl
filter-same p q (v ∷ vs) h = (λ i. if h v (inl refl) i then v ∷ filter-same p q vs (λ w j. h w (inr j)) i else filter-same p q vs (λ w j. h w (inr j)) i)

module _ (old new : List Object) (within : IsWithin old new) where
  tree-within : (id : Id) (entries : List TreeEntry) → tree_at old id ≡ Some entries → tree_at new id ≡ Some entries
  tree-within id entries h = by (object_at old id) refl h
    where
      by : (o : Option Object) → object_at old id ≡ o → entries_of o ≡ Some entries → tree_at new id ≡ Some entries
      by None e i = absurd cc
      by (Some o) e i = ap entries_of (within id o e) ∙ i

  -- ---- visits

  abbrev HasSubtrees : List FileRow → Type 0
  HasSubtrees vs = (v : FileRow) → In v vs → is_directory v.mode ≡ true → (entries : List TreeEntry) × (tree_at old v.id ≡ Some entries)

  flat-same : (f g : TreeEntry → List FileRow) (entries : List TreeEntry) → ((e : TreeEntry) → In e entries → f e ≡ g e) → flat_map f entries ≡ flat_map g entries
  flat-same f g [] h = refl
  flat-same f g (e ∷ entries) h = (λ i. h e (inl refl) i ++ flat-same f g entries (λ x j. h x (inr j)) i)

  visits-same : (depth : ℕ) (path : Bytes) (id : Id) (entries : List TreeEntry) → tree_at old id ≡ Some entries → HasSubtrees (visits old depth path id) → visits new depth path id ≡ visits old depth path id
  unfolding visits
  visits-same zero path id entries at all = refl
  visits-same (suc depth) path id entries at all =
      visits-suc new depth path id entries (tree-within id entries at)
      ∙ flat-same (entry_visits new depth path) (entry_visits old depth path) entries (λ e i. entry e (λ v j. all v (subst (λ (vs : List FileRow). In v vs) (sym (visits-suc old depth path id entries at)) (in-flat (entry_visits old depth path) entries e v i j))) (λ es h k. visits-same depth (joined_path path e.name) e.id es h k))
      ∙ sym (visits-suc old depth path id entries at)
    where
      entry : (e : TreeEntry) → HasSubtrees (entry_visits old depth path e)
          → ((es : List TreeEntry) → tree_at old e.id ≡ Some es → HasSubtrees (visits old depth (joined_path path e.name) e.id) → visits new depth (joined_path path e.name) e.id ≡ visits old depth (joined_path path e.name) e.id)
          → entry_visits new depth path e ≡ entry_visits old depth path e
      entry e all rec = ap (λ (vs : List FileRow). row_at (joined_path path e.name) e ∷ vs) (by (is_directory e.mode) refl)
        where
          by : (t : Bool) → is_directory e.mode ≡ t → (if t then visits new depth (joined_path path e.name) e.id else []) ≡ (if t then visits old depth (joined_path path e.name) e.id else [])
          by false t = refl
          by true t =
              let sub = all (row_at (joined_path path e.name) e) (inl refl) t in
              rec sub.0 sub.1 (λ v j d. all v (inr (subst (λ (t : Bool). In v (if t then visits old depth (joined_path path e.name) e.id else [])) (sym t) j)) d)

  -- what a visit asks of the store
  Alike : FileRow → Type 0
  Alike v = (is_object_there new v ≡ is_object_there old v) × (is_row new v ≡ is_row old v)

  faults-same : (size : ℕ) (vs : List FileRow) → ((v : FileRow) → In v vs → Alike v) → first_visit_fault new size vs ≡ first_visit_fault old size vs
  unfolding first_visit_fault Alike
  faults-same size [] h = refl
  faults-same size (v ∷ vs) h =
      let a = h v (inl refl) in
      let later : first_visit_fault new (next new size v) vs ≡ first_visit_fault old (next old size v) vs =
      ap (λ (t : Bool). first_visit_fault new (if t then size + row_size v else size) vs) a.1 ∙ faults-same (next old size v) vs (λ w j. h w (inr j)) in
      (λ i. fault_with size v (a.0 i) (a.1 i) (later i))

  kind-on : (kind : ObjectKind) (id : Id) → is_kind_there kind (object_at old id) ≡ true → is_kind_there kind (object_at new id) ≡ true
  kind-on kind id h = let t = there old kind id h in ap (is_kind_there kind) (within id t.object t.at ∙ sym t.at) ∙ h

  there-on : (v : FileRow) → is_object_there old v ≡ true → is_object_there new v ≡ true
  there-on v h = by (is_directory v.mode) (is_blob_mode v.mode) h
    where
      by : (d b : Bool) → there_by d b old v ≡ true → there_by d b new v ≡ true
      by true b h = kind-on tree v.id h
      by false true h = kind-on blob v.id h
      by false false h = refl

  row-on : (v : FileRow) → (is_directory v.mode ≡ true → (entries : List TreeEntry) × (tree_at old v.id ≡ Some entries)) → is_row new v ≡ is_row old v
  row-on v sub = by (is_directory v.mode) refl
    where
      by : (t : Bool) → is_directory v.mode ≡ t → (not (is_directory v.mode) || has_no_entries (tree_at new v.id)) ≡ (not (is_directory v.mode) || has_no_entries (tree_at old v.id))
      by true d = let s = sub d in ap (λ (o : Option (List TreeEntry)). not (is_directory v.mode) || has_no_entries o) (tree-within v.id s.0 s.1 ∙ sym s.1)
      by false d = ap (λ (t : Bool). not t || has_no_entries (tree_at new v.id)) d ∙ sym (ap (λ (t : Bool). not t || has_no_entries (tree_at old v.id)) d)

  -- ---- walks

  module _ (are : AreKnown old) where
    abbrev fine-in : (root : Id) → walk_fault old root ≡ None → (v : FileRow) → In v (walk old root) → Fine old v
    fine-in root h v i = all-fine old 0 (walk old root) v (none-refused old are.are root h) i

    pub walk-same : (root : Id) → walk_fault old root ≡ None → walk new root ≡ walk old root
    walk-same root h =
        let t = root-tree old are.are root h in
        visits-same 257 [] root t.0 t.1 (λ v i d. (fine-in root h v i).subtree d)

    pub walk-on : (root : Id) → walk_fault old root ≡ None → walk_fault new root ≡ None
    unfolding Alike
    walk-on root h =
        let t = root-tree old are.are root h in
        walk-fault new root t.0 (tree-within root t.0 t.1)
        ∙ ap (first_visit_fault new 0) (walk-same root h)
        ∙ faults-same 0 (walk old root) (λ v i. let f = fine-in root h v i in (there-on v f.there ∙ sym f.there, row-on v f.subtree))
        ∙ none-refused old are.are root h

    rows-same : (root : Id) → walk_fault old root ≡ None → tree_rows new root ≡ tree_rows old root
    rows-same root h = ap by_paths (ap (filter (is_row new)) (walk-same root h) ∙ filter-same (is_row new) (is_row old) (walk old root) (λ v i. row-on v (fine-in root h v i).subtree))

    -- ---- commits

    pub commit-on : AreKnown new → (id : Id) (c : CommitView) → walk_fault old (c.value).tree_id ≡ None → IsCommitHeld old id c → IsCommitHeld new id c
    commit-on more id c h held = record {
      object = held.object;
      is_held = within id held.object held.is_held;
      kind = held.kind;
      text = held.text;
      rows = subst (IsUnfolding new (c.value).tree_id) (rows-same (c.value).tree_id h ∙ sym (rows-are old id c are.are held h))
          (unfolds new (c.value).tree_id more.are (none-refused new more.are (c.value).tree_id (walk-on (c.value).tree_id h)));
      blobs = Each-weaker (IsRowHeld old) (IsRowHeld new) (λ row b. record { blob = λ t. let h = b.blob t in (h.0, within row.id h.0 h.1, h.2); none = b.none }) c.rows held.blobs;
    }

    pub commits-on : AreKnown new → (ids : List Id) (cs : List CommitView) → Each (λ c. walk_fault old (c.value).tree_id ≡ None) cs → AreCommitsHeld old ids cs → AreCommitsHeld new ids cs
    commits-on more [] [] h held = tt
    commits-on more [] (c ∷ cs) h held = absurd held
    commits-on more (id ∷ ids) [] h held = absurd held
    commits-on more (id ∷ ids) (c ∷ cs) h held = (commit-on more id c h.0 held.0, commits-on more ids cs h.1 held.1)
