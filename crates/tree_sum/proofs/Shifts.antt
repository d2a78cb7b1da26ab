-- The visits below a directory are those of its tree, with the path of the directory in front.
use Rattle.std.proofs.Common.{◌≡◌, ◌≢◌, ℕ, zero, suc, Bool, true, false, List, [], ◌∷◌, ◌++◌, map, Option, Some, None, refl, sym, ap, ◌∙◌}
use Rattle.std.specs.Prelude.{if◌then◌else◌}
use Rattle.std.proofs.lemmas.List.{map-append}
use Rattle.text_model.specs.Lists.{Each}
use Rattle.text_model.specs.Text.{Bytes, IsBytes}
use Rattle.text_model.specs.Id.{Id, IsId}
use Rattle.text_model.specs.Path.{is_fit_name}
use Rattle.git_model.specs.Tree.{TreeEntry, is_directory}
use Rattle.git_model.specs.Object.{Object, tree_at, AreObjects}
use Rattle.git_model.specs.Unfold.{FileRow, joined_path, visits}
use Rattle.git_model.proofs.ObjectLemmas.{tree_at-tree}
use Rattle.tree_shape.specs.Walks.{row_at, entry_visits, entries_visits}
use Rattle.tree_shape.proofs.Names.{fit-name}
use Rattle.tree_shape.proofs.WalkLemmas.{visits-zero, visits-none}
use Rattle.tree_shape.proofs.Unfolding.{visits-suc}
use Rattle.tree_sum.proofs.Adding.{shift, shift-shift}

-- what is known of the entries of a tree
abbrev pub IsEntry : TreeEntry → Type 0
IsEntry e = (is_fit_name e.name ≡ true) × IsBytes e.name × IsId e.id

pub entries-are : (known : List Object) (id : Id) (entries : List TreeEntry) → AreObjects known → tree_at known id ≡ Some entries → Each IsEntry entries
entries-are known id entries are at = (tree_at-tree known id entries are at).0

joined : (front name : Bytes) → front ≢ [] → joined_path front name ≡ front ++ 47 ∷ name
joined [] name some = absurd (some refl)
joined (b ∷ front) name some = refl

longer : (front name : Bytes) → front ++ 47 ∷ name ≢ []
longer [] name e = cc
longer (b ∷ front) name e = cc

abbrev Below : List Object → ℕ → Type 0
Below known depth = (front : Bytes) (id : Id) → front ≢ [] → visits known depth front id ≡ map (shift front) (visits known depth [] id)

entry-below : (known : List Object) (depth : ℕ) → Below known depth → (front : Bytes) (e : TreeEntry) → front ≢ [] → IsEntry e → entry_visits known depth front e ≡ map (shift front) (entry_visits known depth [] e)
entry-below known depth below front e some fit =
    ap (λ (path : Bytes). row_at path e ∷ (if is_directory e.mode then visits known depth path e.id else [])) (joined front e.name some) ∙ ap (λ (vs : List FileRow). row_at (front ++ 47 ∷ e.name) e ∷ vs) (by (is_directory e.mode))
  where
    by : (t : Bool) → (if t then visits known depth (front ++ 47 ∷ e.name) e.id else []) ≡ map (shift front) (if t then visits known depth e.name e.id else [])
    by true =
        below (front ++ 47 ∷ e.name) e.id (longer front e.name)
        ∙ sym (shift-shift front e.name (visits known depth [] e.id))
        ∙ ap (map (shift front)) (sym (below e.name e.id (fit-name e.name fit.0).some))
    by false = refl

entries-below : (known : List Object) (depth : ℕ) → Below known depth → (front : Bytes) (entries : List TreeEntry) → front ≢ [] → Each IsEntry entries → entries_visits known depth front entries ≡ map (shift front) (entries_visits known depth [] entries)
entries-below known depth below front [] some fit = refl
entries-below known depth below front (e ∷ entries) some fit =
    (λ k. entry-below known depth below front e some fit.0 k ++ entries-below known depth below front entries some fit.1 k)
    ∙ sym (map-append (shift front) (entry_visits known depth [] e) (entries_visits known depth [] entries))

module _ (known : List Object) (are : AreObjects known) where
  pub visits-below : (depth : ℕ) (front : Bytes) (id : Id) → front ≢ [] → visits known depth front id ≡ map (shift front) (visits known depth [] id)
  visits-below zero front id some = visits-zero known 0 front id refl ∙ ap (map (shift front)) (sym (visits-zero known 0 [] id refl))
  visits-below (suc depth) front id some = by (tree_at known id) refl (visits-below depth)
    where
      by : (o : Option (List TreeEntry)) → tree_at known id ≡ o → Below known depth → visits known (suc depth) front id ≡ map (shift front) (visits known (suc depth) [] id)
      by None at below = visits-none known (suc depth) front id at ∙ ap (map (shift front)) (sym (visits-none known (suc depth) [] id at))
      by (Some entries) at below =
          visits-suc known depth front id entries at
          ∙ entries-below known depth below front entries some (entries-are known id entries are at)
          ∙ ap (map (shift front)) (sym (visits-suc known depth [] id entries at))

  -- the visits of a directory and of what lies below it
  pub directory-visits : (depth : ℕ) (e : TreeEntry) → IsEntry e → is_directory e.mode ≡ true → entry_visits known depth [] e ≡ row_at e.name e ∷ map (shift e.name) (visits known depth [] e.id)
  directory-visits depth e fit dir =
      ap (λ (t : Bool). row_at e.name e ∷ (if t then visits known depth e.name e.id else [])) dir
      ∙ ap (λ (vs : List FileRow). row_at e.name e ∷ vs) (visits-below depth e.name e.id (fit-name e.name fit.0).some)

pub file-visits : (known : List Object) (depth : ℕ) (e : TreeEntry) → is_directory e.mode ≡ false → entry_visits known depth [] e ≡ row_at e.name e ∷ []
file-visits known depth e file = ap (λ (t : Bool). row_at e.name e ∷ (if t then visits known depth e.name e.id else [])) file
