-- The turns of the loop over the entries of a tree.
use Rattle.std.proofs.Common.{◌≡◌, ◌≤◌, ◌<◌, ◌+◌, ◌-◌, ◌&&◌, ℕ, Bool, true, false, List, [], ◌∷◌, length, take, Some, refl, sym, subst, ◌∙◌}
use Rattle.std.specs.Prelude.{nat_le, nat_lt}
use Rattle.text_model.specs.Text.{Bytes}
use Rattle.text_model.specs.Path.{is_fit_path}
use Rattle.git_model.specs.Tree.{TreeEntry, IsTree, is_directory}
use Rattle.git_model.specs.Object.{Object, tree_at}
use Rattle.git_model.specs.Unfold.{FileRow, first_visit_fault, visits}
use Rattle.tree_shape.specs.declared.fault.TreeFault.{TreeFault}
use Rattle.tree_shape.specs.declared.fault.TreeFault.TheVariants as faults
use Rattle.tree_shape.specs.Faults.{IsTreeFault, IsSubtreeFault}
use Rattle.tree_shape.specs.Walks.{Walked, IsFront, row_at, refused, entries_visits}
use Rattle.tree_shape.proofs.WalkLemmas.{Turn, visits-some, refused-in, deeper-in, turn-dir, turn-row, turn-last}
use Rattle.tree_shape.proofs.FitLemmas.{fit-turn, levels-left, front-turn}
use Rattle.tree_shape.proofs.VisitLemmas.{unfit-fault, dir-refused}

-- what a turn knows at its beginning
pub record Start (known : List Object) (levels : ℕ) (path : Bytes) (tree entries : List TreeEntry) (from size : ℕ) (old rows : List FileRow) (i : ℕ) (e : TreeEntry) (whole : Bytes) (short : Bool) : Type 0 where
  pub same : entries ≡ tree
  pub is_tree : IsTree tree
  pub front : IsFront levels path
  pub walked : Walked known from size old rows (entries_visits known levels path (take i entries))
  pub turn : Turn path entries i e whole
  pub test : short ≡ (nat_lt 0 levels && nat_le (length whole) 4096)

module _ (known : List Object) (levels : ℕ) (path : Bytes) (tree entries : List TreeEntry) (from size : ℕ) (old rows : List FileRow) (i : ℕ) (e : TreeEntry) (whole : Bytes) (short : Bool)
    (s : Start known levels path tree entries from size old rows i e whole short) where
  are : IsTree entries
  are = subst IsTree (sym s.same) s.is_tree

  pub fits : is_fit_path whole ≡ short
  fits = fit-turn levels path entries i e whole (length whole) short s.front are s.turn s.test refl

  pub left : short ≡ true → 0 < levels
  left h = levels-left levels (length whole) short s.test h

  pub deeper-front : short ≡ true → IsFront (levels - 1) whole
  deeper-front h = front-turn levels path entries i e whole s.front are s.turn (left h) (fits ∙ h)

  abbrev fault : TreeFault → Type 0
  fault err = IsTreeFault (first_visit_fault known from (entries_visits known levels path tree)) err

  back : (err : TreeFault) → IsTreeFault (first_visit_fault known from (entries_visits known levels path entries)) err → fault err
  back err h = subst (λ (es : List TreeEntry). IsTreeFault (first_visit_fault known from (entries_visits known levels path es)) err) s.same h

  pub entry-refused : (err : TreeFault) → IsTreeFault (refused known size (row_at whole e)) err → fault err
  entry-refused err h = back err (refused-in known from size old rows levels path entries i e whole s.turn s.walked err h)

  pub too-long : short ≡ false → fault faults.PathUnfit
  too-long h = entry-refused faults.PathUnfit (unfit-fault known size (row_at whole e) (fits ∙ h))

  pub subtree-refused : (err : TreeFault) → short ≡ true → is_directory e.mode ≡ true → IsSubtreeFault (tree_at known e.id) e.id err → fault err
  subtree-refused err h dir f = entry-refused err (dir-refused known size (row_at whole e) err (fits ∙ h) dir f)

  below-is : (subtree : List TreeEntry) → short ≡ true → tree_at known e.id ≡ Some subtree → visits known levels whole e.id ≡ entries_visits known (levels - 1) whole subtree
  below-is subtree h is = visits-some known levels whole e.id subtree (left h) is

  pub below-refused : (err : TreeFault) (subtree : List TreeEntry) (mid : ℕ) (met : List FileRow) → short ≡ true → is_directory e.mode ≡ true → tree_at known e.id ≡ Some subtree → Walked known size mid rows met (row_at whole e ∷ [])
      → IsTreeFault (first_visit_fault known mid (entries_visits known (levels - 1) whole subtree)) err → fault err
  below-refused err subtree mid met h dir is one f = back err (deeper-in known from size old rows levels path entries i e whole s.turn s.walked err mid met dir one
      (subst (λ (vs : List FileRow). IsTreeFault (first_visit_fault known mid vs) err) (sym (below-is subtree h is)) f))

  pub went-through : (mid last : ℕ) (met new : List FileRow) (subtree : List TreeEntry) → short ≡ true → is_directory e.mode ≡ true → tree_at known e.id ≡ Some subtree → Walked known size mid rows met (row_at whole e ∷ [])
      → Walked known mid last met new (entries_visits known (levels - 1) whole subtree) → Walked known from last old new (entries_visits known levels path (take (i + 1) entries))
  went-through mid last met new subtree h dir is one more = turn-dir known from size old rows levels path entries i e whole s.turn s.walked mid last met new dir one
      (subst (λ (vs : List FileRow). Walked known mid last met new vs) (sym (below-is subtree h is)) more)

  pub went-past : (to : ℕ) (new : List FileRow) → is_directory e.mode ≡ false → Walked known size to rows new (row_at whole e ∷ []) → Walked known from to old new (entries_visits known levels path (take (i + 1) entries))
  went-past to new file one = turn-row known from size old rows levels path entries i e whole s.turn s.walked to new file one

pub all-through : (known : List Object) (levels : ℕ) (path : Bytes) (tree entries : List TreeEntry) (from size : ℕ) (old rows : List FileRow) (i : ℕ) → entries ≡ tree → length entries ≤ i
    → Walked known from size old rows (entries_visits known levels path (take i entries)) → Walked known from size old rows (entries_visits known levels path tree)
all-through known levels path tree entries from size old rows i same all w =
    subst (λ (es : List TreeEntry). Walked known from size old rows (entries_visits known levels path es)) same (turn-last known from size old rows levels path entries i all w)
