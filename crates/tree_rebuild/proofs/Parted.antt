-- The directory of a name, where the entries of a tree are parted at it.
use Rattle.std.proofs.Common.{◌≡◌, ◌<◌, ◌≤◌, ℕ, suc, true, false, ◌&&◌, List, [], ◌∷◌, length, get_or, sym, ap, ◌∙◌, inl, inr, arith}
use Rattle.std.specs.Prelude.{bytes_eq}
use Rattle.std.proofs.lemmas.Bool.{cases_lt, and_from}
use Rattle.std.proofs.lemmas.Slice.Eq.{bytes_eq-Decides}
use Rattle.text_model.specs.Lists.{In, rises}
use Rattle.text_model.specs.Text.{Bytes, is_below}
use Rattle.text_model.proofs.OrderLemmas.{is_below-irreflexive}
use Rattle.text_model.proofs.Elements.{each_from}
use Rattle.git_model.specs.Tree.{is_directory, TreeEntry, order_name, is_entry_below}
use Rattle.git_model.proofs.TreeOrderLemmas.{IsParted, key, rising, rising_at}
use Rattle.tree_rebuild.specs.Directories.{LacksDirectory}
use Rattle.tree_shape.proofs.Rows.{clash}

in-at : (xs : List TreeEntry) (x d : TreeEntry) → In x xs → (i : ℕ) × (i < length xs) × (get_or xs i d ≡ x)
in-at [] x d i = absurd i
in-at (y ∷ xs) x d (inl q) = (0, omega arith, sym q)
in-at (y ∷ xs) x d (inr j) = let r = in-at xs x d j in (suc r.0, omega (arith, r.1), r.2)

at-same : (xs : List TreeEntry) (i j : ℕ) (d : TreeEntry) → i ≡ j → get_or xs i d ≡ get_or xs j d
at-same xs i j d e = ap (λ (k : ℕ). get_or xs k d) e

module _ (xs : List TreeEntry) (name : Bytes) (place : ℕ) (up : rises is_entry_below xs ≡ true) (parts : IsParted xs (order_name true name) place) where
  own-key : (x : TreeEntry) → is_directory x.mode ≡ true → x.name ≡ name → key x ≡ order_name true name
  own-key x d q = (λ k. order_name (d k) (q k))

  -- a directory of the name can stand at the place alone
  elsewhere : (x d : TreeEntry) (i : ℕ) → i < length xs → get_or xs i d ≡ x → is_directory x.mode ≡ true → x.name ≡ name → (i < place → ⊥) × (place < i → ⊥)
  elsewhere x d i lt at t q = (
    λ front. clash (sym (sym (ap (λ (k : Bytes). is_below k (order_name true name)) (ap key at ∙ own-key x t q)) ∙ parts.before i d front) ∙ is_below-irreflexive (order_name true name)),
    λ far. clash (sym (rising_at xs place i d (rising xs up) far lt) ∙ ap (is_below (key (get_or xs place d))) (ap key at ∙ own-key x t q) ∙ parts.behind place d (omega arith) (omega (arith, far, lt))),
  )

  pub lacks-past : length xs ≤ place → LacksDirectory name xs
  lacks-past past = each_from _ xs (λ x i t q. let r = in-at xs x x i in (elsewhere x x r.0 r.1 r.2 t q).0 (omega (arith, r.1, past)))

  pub lacks-at : (e : TreeEntry) → place < length xs → e ≡ get_or xs place e → (is_directory e.mode && bytes_eq e.name name) ≡ false → LacksDirectory name xs
  lacks-at e lt at not_it = each_from _ xs (λ x i t q.
      let r = in-at xs x e i in
      let out = elsewhere x e r.0 r.1 r.2 t q in
      elim (cases_lt r.0 place) [
        | inl front ↦ out.0 front
        | inr back ↦ elim (cases_lt place r.0) [
          | inl far ↦ out.1 far
          | inr here ↦
              let is : e ≡ x = at ∙ at-same xs place r.0 e (omega (arith, back, here)) ∙ r.2 in
              clash (sym (and_from (is_directory e.mode) (bytes_eq e.name name) (ap (λ (y : TreeEntry). is_directory y.mode) is ∙ t) ((bytes_eq-Decides e.name name).1 (ap (λ (y : TreeEntry). y.name) is ∙ q))) ∙ not_it)
        ]
      ])
