-- The paths of visits are made of fit names, so only their lengths and the numbers of their components decide whether they are fit.
use Rattle.std.proofs.Common.{◌≡◌, ◌≤◌, ◌==◌, ℕ, zero, suc, Bool, true, false, not, ◌&&◌, List, [], ◌∷◌, ◌++◌, length, map, Option, Some, None, refl, sym, ap, subst, ◌∙◌, arith}
use Rattle.std.specs.List.{list_all}
use Rattle.std.proofs.lemmas.Bool.{leb-true}
use Rattle.std.proofs.lemmas.List.{length-append}
use Rattle.std.proofs.lemmas.Bool.Decides.{nat_tests}
use Rattle.text_model.specs.Lists.{Each}
use Rattle.text_model.specs.Text.{Bytes, has_byte}
use Rattle.text_model.specs.Id.{Id}
use Rattle.text_model.specs.Path.{components, is_fit_component, is_fit_path, is_fit_name}
use Rattle.text_model.proofs.TestLemmas.{both, differs}
use Rattle.text_model.proofs.EachLemmas.{Each-append}
use Rattle.git_model.specs.Tree.{TreeEntry, is_directory}
use Rattle.git_model.specs.Object.{Object, tree_at, AreObjects}
use Rattle.git_model.specs.Unfold.{FileRow, visits}
use Rattle.tree_shape.specs.Walks.{entry_visits, entries_visits}
use Rattle.tree_shape.proofs.FitLemmas.{Fit, fit-parts, parts-fit, lacks-both, all-append}
use Rattle.tree_shape.proofs.Names.{components-append}
use Rattle.tree_shape.proofs.WalkLemmas.{visits-zero, visits-none}
use Rattle.tree_shape.proofs.Unfolding.{visits-suc}
use Rattle.tree_sum.specs.Sums.{longest_of, deepest_of}
use Rattle.tree_sum.proofs.Adding.{shift}
use Rattle.tree_sum.proofs.Shifts.{IsEntry, entries-are, directory-visits, file-visits}

-- a path of fit names, of any length
pub record IsMade (path : Bytes) : Type 0 where
  pub some : not (length path == 0) ≡ true
  pub no_nul : not (has_byte 0 path) ≡ true
  pub no_lf : not (has_byte 10 path) ≡ true
  pub no_cr : not (has_byte 13 path) ≡ true
  pub names : list_all is_fit_component (components path) ≡ true

abbrev pub AreMade : List FileRow → Type 0
AreMade vs = Each (λ v. IsMade v.path) vs

made-fit : (path : Bytes) → IsMade path → length path ≤ 4096 → length (components path) ≤ 256 → is_fit_path path ≡ true
made-fit path m short few = parts-fit path (record {
  some = m.some;
  short = grind (arith, short, nat_tests);
  few = grind (arith, few, nat_tests);
  no_nul = m.no_nul;
  no_lf = m.no_lf;
  no_cr = m.no_cr;
  names = m.names;
})

pub name-parts : (name : Bytes) → is_fit_name name ≡ true → Fit name
name-parts name h = fit-parts name (both (is_fit_path name) (not (has_byte 47 name)) h).0

made-name : (name : Bytes) → is_fit_name name ≡ true → IsMade name
made-name name h = let f = name-parts name h in record { some = f.some; no_nul = f.no_nul; no_lf = f.no_lf; no_cr = f.no_cr; names = f.names }

made-below : (name path : Bytes) → IsMade name → IsMade path → IsMade (name ++ 47 ∷ path)
made-below name path m p = record {
  some = ap not (differs (length (name ++ 47 ∷ path)) 0 (λ e. omega (arith, e, length-append name (47 ∷ path))));
  no_nul = lacks-both 0 name path refl m.no_nul p.no_nul;
  no_lf = lacks-both 10 name path refl m.no_lf p.no_lf;
  no_cr = lacks-both 13 name path refl m.no_cr p.no_cr;
  names = ap (list_all is_fit_component) (components-append name path) ∙ all-append is_fit_component (components name) (components path) ∙ (λ k. m.names k && p.names k);
}

made-shift : (name : Bytes) (vs : List FileRow) → IsMade name → AreMade vs → AreMade (map (shift name) vs)
made-shift name [] m all = tt
made-shift name (v ∷ vs) m all = (made-below name v.path m all.0, made-shift name vs m all.1)

module _ (known : List Object) (are : AreObjects known) where
  made-entry : (depth : ℕ) (e : TreeEntry) → IsEntry e → AreMade (visits known depth [] e.id) → AreMade (entry_visits known depth [] e)
  made-entry depth e fit below = by (is_directory e.mode) refl
    where
      by : (t : Bool) → is_directory e.mode ≡ t → AreMade (entry_visits known depth [] e)
      by true dir = subst AreMade (sym (directory-visits known are depth e fit dir)) (made-name e.name fit.0, made-shift e.name (visits known depth [] e.id) (made-name e.name fit.0) below)
      by false file = subst AreMade (sym (file-visits known depth e file)) (made-name e.name fit.0, tt)

  made-entries : (depth : ℕ) → ((id : Id) → AreMade (visits known depth [] id)) → (entries : List TreeEntry) → Each IsEntry entries → AreMade (entries_visits known depth [] entries)
  made-entries depth below [] fit = tt
  made-entries depth below (e ∷ entries) fit =
      Each-append (λ (v : FileRow). IsMade v.path) (entry_visits known depth [] e) (entries_visits known depth [] entries) (made-entry depth e fit.0 (below e.id)) (made-entries depth below entries fit.1)

  pub visits-made : (depth : ℕ) (id : Id) → AreMade (visits known depth [] id)
  visits-made zero id = subst AreMade (sym (visits-zero known 0 [] id refl)) tt
  visits-made (suc depth) id = by (tree_at known id) refl (visits-made depth)
    where
      by : (o : Option (List TreeEntry)) → tree_at known id ≡ o → ((id : Id) → AreMade (visits known depth [] id)) → AreMade (visits known (suc depth) [] id)
      by None at below = subst AreMade (sym (visits-none known (suc depth) [] id at)) tt
      by (Some entries) at below = subst AreMade (sym (visits-suc known depth [] id entries at)) (made-entries depth below entries (entries-are known id entries are at))

-- ---- fit paths

abbrev pub AreFit : List FileRow → Type 0
AreFit vs = Each (λ v. is_fit_path v.path ≡ true) vs

pub short-fit : (vs : List FileRow) → AreMade vs → longest_of vs ≤ 4097 → deepest_of vs ≤ 256 → AreFit vs
short-fit [] made long deep = tt
short-fit (v ∷ vs) made long deep = (made-fit v.path made.0 (omega arith) (omega arith), short-fit vs made.1 (omega arith) (omega arith))

pub fit-long : (vs : List FileRow) → AreFit vs → longest_of vs ≤ 4097
fit-long [] fit = omega arith
fit-long (v ∷ vs) fit = omega (arith, leb-true (length v.path) 4096 (fit-parts v.path fit.0).short, fit-long vs fit.1)

pub fit-deep : (vs : List FileRow) → AreFit vs → deepest_of vs ≤ 256
fit-deep [] fit = omega arith
fit-deep (v ∷ vs) fit = omega (arith, leb-true (length (components v.path)) 256 (fit-parts v.path fit.0).few, fit-deep vs fit.1)
