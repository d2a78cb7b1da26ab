-- The sum of a tree, one entry after the other.
use Rattle.std.proofs.Common.{◌≡◌, ◌≤◌, ℕ, suc, Bool, true, false, ◌&&◌, List, [], ◌∷◌, ◌++◌, length, map, Some, refl, sym, ap, subst, ◌∙◌, arith}
use Rattle.std.specs.List.{list_all}
use Rattle.text_model.specs.Text.{Bytes, has_byte}
use Rattle.text_model.proofs.TestLemmas.{both as both_true}
use Rattle.git_model.specs.Tree.{TreeEntry, is_directory}
use Rattle.git_model.specs.Object.{Object, tree_at, AreObjects}
use Rattle.git_model.specs.Unfold.{FileRow, is_object_there, visits}
use Rattle.tree_shape.specs.Walks.{row_at, entry_visits, entries_visits}
use Rattle.tree_shape.proofs.FitLemmas.{all-append}
use Rattle.tree_shape.proofs.Names.{fit-name}
use Rattle.tree_shape.proofs.VisitLemmas.{dir-there, dir-tree, row-dir, row-file, file-there}
use Rattle.tree_shape.proofs.Unfolding.{visits-suc}
use Rattle.tree_sum.specs.declared.sum.Sum.{Sum}
use Rattle.tree_sum.specs.Numbers.{none_below, directory_named, under, both, IsWithin}
use Rattle.tree_sum.specs.Sums.{sum_of, is_file_there, Fits, Passes}
use Rattle.tree_sum.proofs.Adding.{shift, sum-append, sum-none, sum-counted, sum-row, sum-directory, under-none, under-some}
use Rattle.tree_sum.proofs.Shifts.{IsEntry, directory-visits, file-visits}

-- ---- parts of visits

within-first : (levels : ℕ) (s t : Sum) → s.rows ≤ s.size → IsWithin levels (both s t) → IsWithin levels s
within-first levels s t counted w = record { counted = counted; size = omega (arith, w.size); longest = omega (arith, w.longest); deepest = omega (arith, w.deepest) }

within-second : (levels : ℕ) (s t : Sum) → t.rows ≤ t.size → IsWithin levels (both s t) → IsWithin levels t
within-second levels s t counted w = record { counted = counted; size = omega (arith, w.size); longest = omega (arith, w.longest); deepest = omega (arith, w.deepest) }

module _ (known : List Object) (levels : ℕ) (vs ws : List FileRow) where
  there-parts : list_all (is_object_there known) (vs ++ ws) ≡ true → (list_all (is_object_there known) vs ≡ true) × (list_all (is_object_there known) ws ≡ true)
  there-parts h = both_true (list_all (is_object_there known) vs) (list_all (is_object_there known) ws) (sym (all-append (is_object_there known) vs ws) ∙ h)

  pub fits-first : Fits known levels (vs ++ ws) → Fits known levels vs
  fits-first f = record {
    there = (there-parts f.there).0;
    within = within-first levels (sum_of known vs) (sum_of known ws) (sum-counted known vs) (subst (IsWithin levels) (sum-append known vs ws) f.within);
  }

  pub fits-second : Fits known levels (vs ++ ws) → Fits known levels ws
  fits-second f = record {
    there = (there-parts f.there).1;
    within = within-second levels (sum_of known vs) (sum_of known ws) (sum-counted known ws) (subst (IsWithin levels) (sum-append known vs ws) f.within);
  }

  pub fits-both : list_all (is_object_there known) vs ≡ true → list_all (is_object_there known) ws ≡ true → IsWithin levels (both (sum_of known vs) (sum_of known ws)) → Fits known levels (vs ++ ws)
  fits-both v w h = record {
    there = all-append (is_object_there known) vs ws ∙ (λ k. v k && w k);
    within = subst (IsWithin levels) (sym (sum-append known vs ws)) h;
  }

pub fits-none : (known : List Object) (levels : ℕ) → Fits known levels []
fits-none known levels = record {
  there = refl;
  within = subst (IsWithin levels) (sym (sum-none known)) (record { counted = omega arith; size = omega arith; longest = omega arith; deepest = omega arith });
}

-- ---- one entry

there-shift : (known : List Object) (name : Bytes) (vs : List FileRow) → list_all (is_object_there known) (map (shift name) vs) ≡ list_all (is_object_there known) vs
there-shift known name [] = refl
there-shift known name (v ∷ vs) = ap (λ (t : Bool). is_object_there known v && t) (there-shift known name vs)

module _ (known : List Object) (are : AreObjects known) (levels : ℕ) (e : TreeEntry) (fit : IsEntry e) where
  plain : has_byte 47 e.name ≡ false
  plain = (fit-name e.name fit.0).plain

  pub file-sum : is_directory e.mode ≡ false → sum_of known (entry_visits known levels [] e) ≡ under (length e.name) none_below
  file-sum file =
      ap (sum_of known) (file-visits known levels e file)
      ∙ sum-row known (row_at e.name e) (row-file known (row_at e.name e) file) plain
      ∙ sym (ap (under (length e.name)) (sym (sum-none known)) ∙ under-none known (length e.name))

  pub file-all : is_directory e.mode ≡ false → list_all (is_object_there known) (entry_visits known levels [] e) ≡ is_file_there known e
  file-all file =
      ap (list_all (is_object_there known)) (file-visits known levels e file)
      ∙ ap (λ (t : Bool). t && true) (file-there known (row_at e.name e) (is_file_there known e) file refl) ∙ by (is_file_there known e)
    where
      by : (t : Bool) → (t && true) ≡ t
      by true = refl
      by false = refl

  pub directory-all : (entries : List TreeEntry) → is_directory e.mode ≡ true → tree_at known e.id ≡ Some entries
      → list_all (is_object_there known) (entry_visits known levels [] e) ≡ list_all (is_object_there known) (visits known levels [] e.id)
  directory-all entries dir at =
      ap (list_all (is_object_there known)) (directory-visits known are levels e fit dir)
      ∙ (λ k. dir-there known (row_at e.name e) entries dir at k && there-shift known e.name (visits known levels [] e.id) k)

module _ (known : List Object) (are : AreObjects known) (levels : ℕ) (e : TreeEntry) (fit : IsEntry e) (dir : is_directory e.mode ≡ true) where
  abbrev deep : List FileRow
  deep = visits known (suc levels) [] e.id

  plain-directory : has_byte 47 e.name ≡ false
  plain-directory = (fit-name e.name fit.0).plain

  pub directory-sum : (entries : List TreeEntry) → tree_at known e.id ≡ Some entries → sum_of known (entry_visits known (suc levels) [] e) ≡ under (length e.name) (sum_of known deep)
  directory-sum entries at = ap (sum_of known) (directory-visits known are (suc levels) e fit dir) ∙ by entries at
    where
      by : (entries : List TreeEntry) → tree_at known e.id ≡ Some entries → sum_of known (row_at e.name e ∷ map (shift e.name) deep) ≡ under (length e.name) (sum_of known deep)
      by [] at =
          let none : deep ≡ [] = visits-suc known levels [] e.id [] at in
          ap (λ (vs : List FileRow). sum_of known (row_at e.name e ∷ map (shift e.name) vs)) none
          ∙ sum-row known (row_at e.name e) (row-dir known (row_at e.name e) [] dir at) plain-directory
          ∙ sym (ap (λ (vs : List FileRow). under (length e.name) (sum_of known vs)) none ∙ under-none known (length e.name))
      by (x ∷ entries) at =
          let some : deep ≡ entries_visits known levels [] (x ∷ entries) = visits-suc known levels [] e.id (x ∷ entries) at in
          sum-directory known (row_at e.name e) deep (row-dir known (row_at e.name e) (x ∷ entries) dir at) plain-directory
          ∙ sym (ap (λ (vs : List FileRow). under (length e.name) (sum_of known vs)) some ∙ under-some known (length e.name) _ _ ∙ ap (λ (vs : List FileRow). directory_named (length e.name) (sum_of known vs)) (sym some))

  below-within : (entries : List TreeEntry) → tree_at known e.id ≡ Some entries → IsWithin (suc levels) (sum_of known (row_at e.name e ∷ map (shift e.name) deep)) → IsWithin levels (sum_of known deep)
  below-within [] at w = subst (λ (vs : List FileRow). IsWithin levels (sum_of known vs)) (sym (visits-suc known levels [] e.id [] at)) (fits-none known levels).within
  below-within (x ∷ entries) at w =
      let d : IsWithin (suc levels) (directory_named (length e.name) (sum_of known deep)) =
      subst (IsWithin (suc levels)) (sum-directory known (row_at e.name e) deep (row-dir known (row_at e.name e) (x ∷ entries) dir at) plain-directory) w in
      record { counted = sum-counted known deep; size = omega (arith, d.size); longest = omega (arith, d.longest); deepest = omega (arith, d.deepest) }

  -- where an entry passes, the tree below it does
  pub below-passes : Fits known (suc levels) (entry_visits known (suc levels) [] e) → Passes known levels e.id
  below-passes f =
      let g : Fits known (suc levels) (row_at e.name e ∷ map (shift e.name) deep) = subst (Fits known (suc levels)) (directory-visits known are (suc levels) e fit dir) f in
      let parts = both_true (is_object_there known (row_at e.name e)) (list_all (is_object_there known) (map (shift e.name) deep)) g.there in
      let tree = dir-tree known (row_at e.name e) dir parts.0 in
      (tree.0, tree.1, record { there = sym (there-shift known e.name deep) ∙ parts.1; within = below-within tree.0 tree.1 g.within })
