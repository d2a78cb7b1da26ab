-- Where no path has as many components as a walk could go, going deeper meets nothing more.
use Rattle.std.proofs.Common.{◌≡◌, ◌≤◌, ◌+◌, ◌⊎◌, inl, inr, ℕ, zero, suc, Bool, true, false, List, [], ◌∷◌, ◌++◌, length, map, Option, Some, None, refl, sym, ap, subst, ◌∙◌, arith}
use Rattle.text_model.specs.Lists.{Each}
use Rattle.text_model.specs.Text.{Bytes}
use Rattle.text_model.specs.Id.{Id}
use Rattle.git_model.specs.Tree.{TreeEntry, is_directory}
use Rattle.git_model.specs.Object.{Object, tree_at, AreObjects}
use Rattle.git_model.specs.Unfold.{FileRow, visits}
use Rattle.tree_shape.specs.Walks.{row_at, entry_visits, entries_visits}
use Rattle.tree_shape.proofs.Names.{fit-name, components-one}
use Rattle.tree_shape.proofs.WalkLemmas.{visits-none}
use Rattle.tree_shape.proofs.Unfolding.{visits-suc}
use Rattle.tree_sum.specs.Sums.{deepest_of}
use Rattle.tree_sum.proofs.Adding.{shift, deepest-append, deepest-shift}
use Rattle.tree_sum.proofs.Shifts.{IsEntry, entries-are, directory-visits, file-visits}

-- the same visits, or both have a path of so many components
abbrev Alike : ℕ → List FileRow → List FileRow → Type 0
Alike depth vs ws = (vs ≡ ws) ⊎ ((depth ≤ deepest_of vs) × (depth ≤ deepest_of ws))

alike-append : (depth : ℕ) (vs ws more rest : List FileRow) → Alike depth vs ws → Alike depth more rest → Alike depth (vs ++ more) (ws ++ rest)
alike-append depth vs ws more rest (inl e) (inl f) = inl (λ k. e k ++ f k)
alike-append depth vs ws more rest (inl e) (inr h) = inr (omega (arith, deepest-append vs more, h.0), omega (arith, deepest-append ws rest, h.1))
alike-append depth vs ws more rest (inr h) a = inr (omega (arith, deepest-append vs more, h.0), omega (arith, deepest-append ws rest, h.1))

-- an entry has a path of one component
pub entry-deep : (known : List Object) (depth : ℕ) (e : TreeEntry) → IsEntry e → 1 ≤ deepest_of (entry_visits known depth [] e)
entry-deep known depth e fit = omega (arith, ap (λ (c : List Bytes). length c) (components-one e.name (fit-name e.name fit.0).plain))

module _ (known : List Object) (are : AreObjects known) where
  abbrev Step : ℕ → Id → Type 0
  Step depth id = Alike (suc depth) (visits known (suc depth) [] id) (visits known (suc (suc depth)) [] id)

  alike-entry : (depth : ℕ) (e : TreeEntry) → IsEntry e → Step depth e.id → Alike (suc (suc depth)) (entry_visits known (suc depth) [] e) (entry_visits known (suc (suc depth)) [] e)
  alike-entry depth e fit step = by (is_directory e.mode) refl step
    where
      deep : (n : ℕ) (vs : List FileRow) → suc depth ≤ deepest_of vs → entry_visits known n [] e ≡ row_at e.name e ∷ map (shift e.name) vs → suc (suc depth) ≤ deepest_of (entry_visits known n [] e)
      deep n vs h is =
          let plain = (fit-name e.name fit.0).plain in
          omega (arith, ap deepest_of is, ap (λ (c : List Bytes). length c) (components-one e.name plain), deepest-shift e.name vs plain, h)

      by : (t : Bool) → is_directory e.mode ≡ t → Step depth e.id → Alike (suc (suc depth)) (entry_visits known (suc depth) [] e) (entry_visits known (suc (suc depth)) [] e)
      by false file step = inl (file-visits known (suc depth) e file ∙ sym (file-visits known (suc (suc depth)) e file))
      by true dir (inl same) =
          inl (directory-visits known are (suc depth) e fit dir ∙ ap (λ (vs : List FileRow). row_at e.name e ∷ map (shift e.name) vs) same ∙ sym (directory-visits known are (suc (suc depth)) e fit dir))
      by true dir (inr h) =
          inr (deep (suc depth) (visits known (suc depth) [] e.id) h.0 (directory-visits known are (suc depth) e fit dir), deep (suc (suc depth)) (visits known (suc (suc depth)) [] e.id) h.1 (directory-visits known are (suc (suc depth)) e fit dir))

  alike-entries : (depth : ℕ) → ((id : Id) → Step depth id) → (entries : List TreeEntry) → Each IsEntry entries → Alike (suc (suc depth)) (entries_visits known (suc depth) [] entries) (entries_visits known (suc (suc depth)) [] entries)
  alike-entries depth steps [] fit = inl refl
  alike-entries depth steps (e ∷ entries) fit =
      alike-append (suc (suc depth)) (entry_visits known (suc depth) [] e) (entry_visits known (suc (suc depth)) [] e) (entries_visits known (suc depth) [] entries) (entries_visits known (suc (suc depth)) [] entries)
      (alike-entry depth e fit.0 (steps e.id)) (alike-entries depth steps entries fit.1)

  -- at no level, only a tree without entries goes no deeper
  alike-first : (entries : List TreeEntry) → Each IsEntry entries → Alike 1 (entries_visits known 0 [] entries) (entries_visits known 1 [] entries)
  alike-first [] fit = inl refl
  alike-first (e ∷ entries) fit = inr (
    omega (arith, deepest-append (entry_visits known 0 [] e) (entries_visits known 0 [] entries), entry-deep known 0 e fit.0),
    omega (arith, deepest-append (entry_visits known 1 [] e) (entries_visits known 1 [] entries), entry-deep known 1 e fit.0),
  )

  step : (depth : ℕ) (id : Id) → Step depth id
  step zero id = by (tree_at known id) refl
    where
      by : (o : Option (List TreeEntry)) → tree_at known id ≡ o → Step zero id
      by None at = inl (visits-none known 1 [] id at ∙ sym (visits-none known 2 [] id at))
      by (Some entries) at =
          subst (λ (vs : List FileRow). Alike 1 vs (visits known 2 [] id)) (sym (visits-suc known 0 [] id entries at))
          (subst (λ (vs : List FileRow). Alike 1 (entries_visits known 0 [] entries) vs) (sym (visits-suc known 1 [] id entries at)) (alike-first entries (entries-are known id entries are at)))
  step (suc depth) id = by (tree_at known id) refl (step depth)
    where
      by : (o : Option (List TreeEntry)) → tree_at known id ≡ o → ((id : Id) → Step depth id) → Step (suc depth) id
      by None at steps = inl (visits-none known (suc (suc depth)) [] id at ∙ sym (visits-none known (suc (suc (suc depth))) [] id at))
      by (Some entries) at steps =
          subst (λ (vs : List FileRow). Alike (suc (suc depth)) vs (visits known (suc (suc (suc depth))) [] id)) (sym (visits-suc known (suc depth) [] id entries at))
          (subst (λ (vs : List FileRow). Alike (suc (suc depth)) (entries_visits known (suc depth) [] entries) vs) (sym (visits-suc known (suc (suc depth)) [] id entries at)) (alike-entries depth steps entries (entries-are known id entries are at)))

  -- ---- from a level at which all has been met

  pub deeper-same : (more levels depth : ℕ) (id : Id) → depth ≡ more + levels → deepest_of (visits known (suc levels) [] id) ≤ levels → visits known (suc depth) [] id ≡ visits known (suc levels) [] id
  deeper-same zero levels depth id is low = ap (λ (n : ℕ). visits known (suc n) [] id) (is ∙ omega arith)
  deeper-same (suc more) levels depth id is low =
      let last : depth ≡ suc (more + levels) = is ∙ omega arith in
      let before = deeper-same more levels (more + levels) id refl low in
      ap (λ (n : ℕ). visits known (suc n) [] id) last ∙ by before (step (more + levels) id) ∙ before
    where
      by : visits known (suc (more + levels)) [] id ≡ visits known (suc levels) [] id → Step (more + levels) id → visits known (suc (suc (more + levels))) [] id ≡ visits known (suc (more + levels)) [] id
      by before (inl same) = sym same
      by before (inr h) = absurd (omega (arith, h.0, ap deepest_of before, low))

  pub shallower-same : (more levels depth : ℕ) (id : Id) → depth ≡ more + levels → deepest_of (visits known (suc depth) [] id) ≤ levels → visits known (suc depth) [] id ≡ visits known (suc levels) [] id
  shallower-same zero levels depth id is low = ap (λ (n : ℕ). visits known (suc n) [] id) (is ∙ omega arith)
  shallower-same (suc more) levels depth id is low =
      let last : depth ≡ suc (more + levels) = is ∙ omega arith in
      let whole : visits known (suc depth) [] id ≡ visits known (suc (suc (more + levels))) [] id = ap (λ (n : ℕ). visits known (suc n) [] id) last in
      whole ∙ by (step (more + levels) id) (subst (λ (vs : List FileRow). deepest_of vs ≤ levels) whole low) (shallower-same more levels (more + levels) id refl)
    where
      by : Step (more + levels) id → deepest_of (visits known (suc (suc (more + levels))) [] id) ≤ levels → (deepest_of (visits known (suc (more + levels)) [] id) ≤ levels → visits known (suc (more + levels)) [] id ≡ visits known (suc levels) [] id)
          → visits known (suc (suc (more + levels))) [] id ≡ visits known (suc levels) [] id
      by (inl same) low rest = sym same ∙ rest (subst (λ (vs : List FileRow). deepest_of vs ≤ levels) (sym same) low)
      by (inr h) low rest = absurd (omega (arith, h.1, low))
