-- A tree that can be walked through: its files are there, and no file lies below another.
use Rattle.std.proofs.Common.{◌≡◌, ◌≢◌, ◌||◌, ℕ, Bool, true, false, true≢false, not, List, [], ◌∷◌, ◌++◌, map, Some, None, refl, sym, ap, subst, ◌∙◌, inl, inr}
use Rattle.std.specs.Prelude.{bytes_eq}
use Rattle.std.specs.List.{list_any}
use Rattle.std.proofs.lemmas.Slice.Eq.{bytes_eq-Decides}
use Rattle.text_model.specs.Lists.{In}
use Rattle.text_model.specs.Text.{Bytes}
use Rattle.text_model.specs.Id.{Id}
use Rattle.text_model.specs.Path.{components, lies_below}
use Rattle.text_model.proofs.TestLemmas.{both, or_true}
use Rattle.git_model.specs.Tree.{Mode, Directory, is_directory, TreeEntry, has_distinct}
use Rattle.git_model.specs.Object.{Object, tree_at, AreObjects}
use Rattle.git_model.specs.Unfold.{FileRow, HasEntry, Reaches, IsUnfolding, is_object_there, first_visit_fault, walk, walk_fault}
use Rattle.git_model.proofs.ObjectLemmas.{tree_at-tree}
use Rattle.text_model.proofs.Options.{some_is}
use Rattle.tree_shape.proofs.WalkLemmas.{walk-fault}
use Rattle.tree_shape.proofs.Again.{all-fine, root-tree}
use Rattle.tree_shape.proofs.FileSets.{lies-true}
use Rattle.tree_shape.proofs.Names.{components-append, components-some}

-- ---- what a visit finds

-- the object of each visit is there
pub all-there : (known : List Object) (size : ℕ) (vs : List FileRow) (v : FileRow) → first_visit_fault known size vs ≡ None → In v vs → is_object_there known v ≡ true
all-there known size vs v h i = (all-fine known size vs v h i).there

pub none-refused : (known : List Object) → AreObjects known → (root : Id) → walk_fault known root ≡ None → first_visit_fault known 0 (walk known root) ≡ None
none-refused known are root h = let t = root-tree known are root h in sym (walk-fault known root t.0 t.1) ∙ h

-- ---- no file lies below another

-- entries of one name are one
one-entry : (entries : List TreeEntry) (e f : TreeEntry) → has_distinct (map (λ e. e.name) entries) ≡ true → In e entries → In f entries → e.name ≡ f.name → e ≡ f
one-entry [] e f d i j same = absurd i
one-entry (g ∷ entries) e f d i j same =
    let parts = both (not (list_any (bytes_eq g.name) (map (λ e. e.name) entries))) (has_distinct (map (λ e. e.name) entries)) d in
    elim i [
      | inl p ↦ elim j [
        | inl q ↦ p ∙ sym q
        | inr k ↦ absurd (true≢false (sym (named entries f k (ap (λ (x : TreeEntry). x.name) (sym p) ∙ same)) ∙ not_true _ parts.0))
      ]
      | inr k ↦ elim j [
        | inl q ↦ absurd (true≢false (sym (named entries e k (ap (λ (x : TreeEntry). x.name) (sym q) ∙ sym same)) ∙ not_true _ parts.0))
        | inr l ↦ one-entry entries e f parts.1 k l same
      ]
    ]
  where
    not_true : (b : Bool) → not b ≡ true → b ≡ false
    not_true true h = absurd (true≢false (sym h))
    not_true false h = refl

    named : (es : List TreeEntry) (x : TreeEntry) → In x es → g.name ≡ x.name → list_any (bytes_eq g.name) (map (λ e. e.name) es) ≡ true
    named [] x k is = absurd k
    named (y ∷ es) x k is = elim k [
      | inl q ↦ ap (λ (t : Bool). t || list_any (bytes_eq g.name) (map (λ e. e.name) es)) ((bytes_eq-Decides g.name y.name).1 (is ∙ ap (λ (z : TreeEntry). z.name) q))
      | inr l ↦ ap (λ (t : Bool). bytes_eq g.name y.name || t) (named es x l is) ∙ or_true (bytes_eq g.name y.name)
    ]

module _ (known : List Object) (are : AreObjects known) where
  one-below : (root : Id) (name : Bytes) (m n : Mode) (x y : Id) → HasEntry known root m name x → HasEntry known root n name y → (m ≡ n) × (x ≡ y)
  one-below root name m n x y a b =
      let same : a.0 ≡ b.0 = some_is {x = a.0} {y = b.0} (sym a.1 ∙ b.1) in
      let is = one-entry a.0 (record { mode = m; name = name; id = x }) (record { mode = n; name = name; id = y }) (tree_at-tree known root a.0 are a.1).2 a.2
      (subst (λ (es : List TreeEntry). In (record { mode = n; name = name; id = y }) es) (sym same) b.2) refl in
      (ap (λ (e : TreeEntry). e.mode) is, ap (λ (e : TreeEntry). e.id) is)

  no-entry : (root : Id) (m : Mode) (name : Bytes) (x : Id) → tree_at known root ≡ Some [] → HasEntry known root m name x → ⊥
  no-entry root m name x empty h = subst (λ (es : List TreeEntry). In (record { mode = m; name = name; id = x }) es) (some_is {x = h.0} {y = []} (sym h.1 ∙ empty)) h.2

  -- nothing is reached in a tree without entries
  nothing-in : (root : Id) (names : List Bytes) (n : Mode) (y : Id) → tree_at known root ≡ Some [] → Reaches known root names n y → ⊥
  nothing-in root [] n y empty r = r
  nothing-in root (name ∷ []) n y empty r = no-entry root n name y empty r.0
  nothing-in root (name ∷ next ∷ names) n y empty r = no-entry root Directory name r.0 empty r.1

  -- what is reached by names is no directory, or one without entries, so nothing is reached by these names and more
  no-further : (root : Id) (names more : List Bytes) (m n : Mode) (x y : Id) → more ≢ [] → Reaches known root names m x → Reaches known root (names ++ more) n y → ⊥
  no-further root [] more m n x y some a b = absurd a
  no-further root (name ∷ []) [] m n x y some a b = some refl
  no-further root (name ∷ []) (other ∷ more) m n x y some a b =
      let same = one-below root name m Directory x b.0 a.0 b.1 in
      elim a.1 [
        | inl file ↦ true≢false (ap is_directory (sym same.0) ∙ file)
        | inr empty ↦ nothing-in b.0 (other ∷ more) n y (ap (tree_at known) (sym same.1) ∙ empty) b.2
      ]
  no-further root (name ∷ other ∷ names) more m n x y some a b =
      let same = one-below root name Directory Directory a.0 b.0 a.1 b.1 in
      no-further a.0 (other ∷ names) more m n x y some a.2 (subst (λ (i : Id). Reaches known i ((other ∷ names) ++ more) n y) (sym same.1) b.2)

  pub apart : (root : Id) (rows : List FileRow) → IsUnfolding known root rows → (a b : FileRow) → In a rows → In b rows → lies_below b.path a.path ≡ false
  apart root rows of a b i j = by (lies_below b.path a.path) refl
    where
      by : (t : Bool) → lies_below b.path a.path ≡ t → lies_below b.path a.path ≡ false
      by false t = t
      by true t =
          let lies = lies-true b.path a.path t in
          absurd (no-further root (components a.path) (components lies.0) a.mode b.mode a.id b.id (components-some lies.0) (of.each a i)
          (subst (λ (names : List Bytes). Reaches known root names b.mode b.id) (ap components lies.1 ∙ components-append a.path lies.0) (of.each b j)))
