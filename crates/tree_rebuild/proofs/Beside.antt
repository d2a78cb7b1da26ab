-- The entries that were met, and the old tree's next one.
use Rattle.std.proofs.Common.{◌≡◌, ◌≢◌, ◌<◌, ◌+◌, ℕ, zero, suc, Bool, true, false, not, ◌&&◌, ◌||◌, ◌==◌, List, [], ◌∷◌, ◌++◌, length, take, drop, get_or, map, Option, Some, None, refl, sym, ap, subst, ◌∙◌, append-nil, append_assoc, arith}
use Rattle.std.specs.Prelude.{if◌then◌else◌, IsTrue, IfSome, MatchOption, bytes_eq, slice_get}
use Rattle.std.specs.Option.{unwrap_or}
use Rattle.std.proofs.lemmas.Slice.Eq.{bytes_eq-Decides}
use Rattle.std.proofs.lemmas.Bool.{and_from}
use Rattle.text_model.specs.Lists.{In, Each}
use Rattle.text_model.specs.Text.{Bytes, has_byte}
use Rattle.text_model.specs.Id.{Id}
use Rattle.text_model.specs.Path.{components}
use Rattle.text_model.specs.Cuts.{cut_of}
use Rattle.text_model.proofs.CutLemmas.{cut_of-takes}
use Rattle.text_model.proofs.Options.{some_is}
use Rattle.text_model.proofs.TestLemmas.{both}
use Rattle.git_model.specs.Tree.{is_directory, TreeEntry, has_distinct, IsTree, tree_entry_text, tree_text}
use Rattle.git_model.specs.Object.{Object, tree_at, AreObjects}
use Rattle.git_model.specs.Unfold.{FileRow, has_no_entries}
use Rattle.git_model.specs.Shape.{Leaf, leaf_of, leaves_below}
use Rattle.tree_shape.specs.Shapes.{short, shorts, id_of_rows, trees_of_rows}
use Rattle.tree_shape.specs.Wholes.{is_leaf, Below, Sound, tree_leaves}
use Rattle.tree_shape.proofs.Names.{IsName, components-one}
use Rattle.tree_shape.proofs.Rows.{clash, deep, components-some}
use Rattle.tree_shape.proofs.Rebuilding.{leaf-or-dir, sound-at}
use Rattle.tree_shape.proofs.Unfolding.{no-entries, name-of}
use Rattle.tree_rebuild.specs.Entries.{met_text, IsNext, IsDirectoryNext, IsRowNext, IsIdNext}
use Rattle.tree_rebuild.specs.Added.{IsAdded}
use Rattle.tree_rebuild.specs.News.{same_leaves, has_group, new_group, new_in, new_over}
use Rattle.tree_rebuild.proofs.SameLeaves.{leaves-one}
use Rattle.tree_rebuild.proofs.Kept.{at-in, first-of, kept-tree, added-none}
use Rattle.tree_rebuild.proofs.SameSteps.{left-entries, Has, leaf-not, leaf-is, dir-flat, dir-other, dir-same, IsGroup}

-- ---- the entry at a place

pub directory-at : (name : Bytes) (old : List TreeEntry) (place : ℕ) (e : TreeEntry) (b : Bool) → place < length old → e ≡ get_or old place e → b ≡ (is_directory e.mode && bytes_eq e.name name)
    → (IsTrue b → IsDirectoryNext name (drop place old)) × (IsDirectoryNext name (drop place old) → IsTrue b)
directory-at name old place e b lt at is = subst (λ (es : List TreeEntry). (IsTrue b → IsDirectoryNext name es) × (IsDirectoryNext name es → IsTrue b)) (sym (left-entries old place e lt at)) (
  λ t. let p = both (is_directory e.mode) (bytes_eq e.name name) (sym is ∙ t) in (p.0, (bytes_eq-Decides e.name name).0 p.1),
  λ d. is ∙ and_from (is_directory e.mode) (bytes_eq e.name name) d.0 ((bytes_eq-Decides e.name name).1 d.1),
)

pub next-within : (name : Bytes) (old : List TreeEntry) (place : ℕ) → IsDirectoryNext name (drop place old) → place < length old
next-within name [] zero i = absurd i
next-within name [] (suc place) i = absurd i
next-within name (e ∷ old) zero i = omega arith
next-within name (e ∷ old) (suc place) i = let l = next-within name old place i in omega (arith, l)

pub next-at : (name : Bytes) (old : List TreeEntry) (place : ℕ) (e : TreeEntry) → e ≡ get_or old place e → IsDirectoryNext name (drop place old) → In e old × (is_directory e.mode ≡ true) × (e.name ≡ name) × IsNext e (drop place old)
next-at name old place e is i =
    let within = next-within name old place i in
    let left : drop place old ≡ e ∷ drop (place + 1) old = left-entries old place e within is in
    let named : IsDirectoryNext name (e ∷ drop (place + 1) old) = subst (IsDirectoryNext name) left i in
    (at-in old place e within is, named.0, named.1, subst (IsNext e) (sym left) refl)

-- ---- the text that was met

pub met-next : (differs : Bool) (place : ℕ) (text : Bytes) (old : List TreeEntry) (e : TreeEntry) → differs ≡ false → IsNext e (drop place old)
    → met_text differs (place + 1) text old ≡ met_text differs place text old ++ tree_entry_text e
unfolding tree_text
met-next differs place text old e d next =
    let one : place + 1 ≡ suc place = omega arith in
    ap (λ (t : Bool). text ++ (if t then [] else tree_text (take (place + 1) old))) d
    ∙ ap (λ (t : Bytes). text ++ t) (ap (λ (n : ℕ). tree_text (take n old)) one ∙ more old place next)
    ∙ sym (append_assoc text (tree_text (take place old)) (tree_entry_text e))
    ∙ ap (λ (t : Bool). (text ++ (if t then [] else tree_text (take place old))) ++ tree_entry_text e) (sym d)
  where
    more : (old : List TreeEntry) (place : ℕ) → IsNext e (drop place old) → tree_text (take (suc place) old) ≡ tree_text (take place old) ++ tree_entry_text e
    more [] zero next = absurd next
    more [] (suc place) next = absurd next
    more (x ∷ old) zero next = append-nil (tree_entry_text x) ∙ ap tree_entry_text next
    more (x ∷ old) (suc place) next = ap (λ (t : Bytes). tree_entry_text x ++ t) (more old place next) ∙ sym (append_assoc (tree_entry_text x) (tree_text (take place old)) (tree_entry_text e))

-- ---- whether the entries that are left have the rows that are left

module _ (known : List Object) (n skip : ℕ) where
  rows-some : (first : FileRow) (rest : List FileRow) → Some first ≡ slice_get rest 0 → false ≡ Has known n skip [] rest
  rows-some first [] h = absurd (none h)
    where
      none : Some first ≡ None → ⊥
      none q = cc
  rows-some first (r ∷ rest) h = refl

  -- a row of one name comes next
  pub leaf-turn : (left : List TreeEntry) (first : FileRow) (rest : List FileRow) (differs : Bool) → Each (Below (Sound known n)) left → Each (λ e. IsName e.name) left
      → Some first ≡ slice_get rest 0 → None ≡ cut_of 47 (drop skip first.path)
      → (differs ≡ false → IsRowNext known (short skip first) left) → (differs ≡ true → IsRowNext known (short skip first) left → ⊥)
      → (not differs && Has known n skip (drop 1 left) (drop 1 rest)) ≡ Has known n skip left rest
  leaf-turn [] first rest false w names f c same other = absurd (same refl)
  leaf-turn [] first rest true w names f c same other = rows-some first rest f
  leaf-turn (e ∷ es) first rest false w names f c same other =
      let s = same refl in
      sym (leaf-is known n skip e es first (drop 1 rest) s.0 names.0 s.1) ∙ ap (Has known n skip (e ∷ es)) (sym (first-of rest first f))
  leaf-turn (e ∷ es) first rest true w names f c same other = by (is_leaf known e) refl
    where
      by : (t : Bool) → is_leaf known e ≡ t → false ≡ Has known n skip (e ∷ es) rest
      by true t = sym (leaf-not known n skip e es first (drop 1 rest) t names.0 (λ q. other refl (t, q))) ∙ ap (Has known n skip (e ∷ es)) (sym (first-of rest first f))
      by false t = sym (dir-flat known n skip e es first (drop 1 rest) w.0 t c) ∙ ap (Has known n skip (e ∷ es)) (sym (first-of rest first f))

  -- a group of rows of a directory comes next
  module _ (name after : Bytes) (first : FileRow) (rest group back : List FileRow) (f : Some first ≡ slice_get rest 0) (c : Some (name, after) ≡ cut_of 47 (drop skip first.path)) (g : IsGroup skip name rest group back)
      (below : List TreeEntry) (id : Id) (same : Bool) (is : same ≡ same_leaves (tree_leaves known n below) (map leaf_of (shorts (skip + length name + 1) group))) (some : 0 < length group) where
    none-same : below ≡ [] → same ≡ true → ⊥
    none-same b t = by group some (sym t ∙ is ∙ ap (λ (es : List TreeEntry). same_leaves (tree_leaves known n es) (map leaf_of (shorts (skip + length name + 1) group))) b)
      where
        by : (rows : List FileRow) → 0 < length rows → true ≡ same_leaves (tree_leaves known n []) (map leaf_of (shorts (skip + length name + 1) rows)) → ⊥
        by [] h q = absurd (omega (arith, h))
        by (r ∷ rows) h q = clash q

    pub directory-turn : (left : List TreeEntry) (differs : Bool) → Each (Below (Sound known n)) left → has_distinct (map (λ e. e.name) left) ≡ true → Each (λ e. IsName e.name) left
        → (IsDirectoryNext name left → IsIdNext id left × Sound known n id below)
        → (differs ≡ false → IsDirectoryNext name left × (same ≡ true)) → (differs ≡ true → IsDirectoryNext name left → same ≡ false)
        → (not differs && Has known n skip (drop 1 left) back) ≡ Has known n skip left rest
    directory-turn [] false w d names next kept other = absurd (kept refl).0
    directory-turn [] true w d names next kept other = rows-some first rest f
    directory-turn (e ∷ es) differs w d names next kept other = by (is_leaf known e) refl
      where
        at : Has known n skip (e ∷ es) (first ∷ drop 1 rest) ≡ Has known n skip (e ∷ es) rest
        at = ap (Has known n skip (e ∷ es)) (sym (first-of rest first f))

        never : Has known n skip (e ∷ es) rest ≡ false → differs ≡ true → (not differs && Has known n skip es back) ≡ Has known n skip (e ∷ es) rest
        never h t = ap (λ (b : Bool). not b && Has known n skip es back) t ∙ sym h

        not-kept : ((differs ≡ false) → ⊥) → differs ≡ true
        not-kept h = from differs refl
          where
            from : (t : Bool) → differs ≡ t → differs ≡ true
            from true t = t
            from false t = absurd (h t)

        -- the subtree of the entry, which is the directory of the name
        own : IsDirectoryNext name (e ∷ es) → tree_at known e.id ≡ Some below
        own i = let s = next i in ap (tree_at known) s.0 ∙ sound-at known n id below s.1

        by : (t : Bool) → is_leaf known e ≡ t → (not differs && Has known n skip es back) ≡ Has known n skip (e ∷ es) rest
        by true t =
            never (sym at ∙ leaf-not known n skip e es first (drop 1 rest) t names.0 (λ q. cut-plain q))
            (not-kept (λ k. let h = kept k in none-same (some_is {x = below} {y = []} (sym (own h.0) ∙ no-entries (tree_at known e.id) (empty h.0.0 t))) h.1))
          where
            empty : is_directory e.mode ≡ true → is_leaf known e ≡ true → has_no_entries (tree_at known e.id) ≡ true
            empty q l = sym (ap (λ (b : Bool). not b || has_no_entries (tree_at known e.id)) q) ∙ l

            cut-plain : short skip first ≡ record { path = e.name; mode = e.mode; id = e.id } → ⊥
            cut-plain q =
                let d = deep (short skip first).path name after (sym c) in
                two-one name e.name (components-some after).0 (components-some after).1
                (ap (λ (ns : List Bytes). name ∷ ns) (sym (components-some after).2) ∙ sym d.parts ∙ ap (λ (r : FileRow). components r.path) q ∙ components-one e.name names.0.plain)
              where
                two-one : (x z y : Bytes) (ns : List Bytes) → x ∷ y ∷ ns ≡ z ∷ [] → ⊥
                two-one x z y ns p = cc
        by false t = named (bytes_eq name e.name) refl
          where
            named : (b : Bool) → bytes_eq name e.name ≡ b → (not differs && Has known n skip es back) ≡ Has known n skip (e ∷ es) rest
            named false b =
                let ne : name ≢ e.name = λ q. clash (sym ((bytes_eq-Decides name e.name).1 q) ∙ b) in
                never (sym at ∙ dir-other known n skip e es first (drop 1 rest) name after w.0 t c ne) (not-kept (λ k. ne (sym (kept k).0.1)))
            named true b =
                let q : name ≡ e.name = (bytes_eq-Decides name e.name).0 b in
                let i : IsDirectoryNext name (e ∷ es) = ((leaf-or-dir known e t).0, sym q) in
                let s = next i in
                let sound : Sound known n e.id below = subst (λ (x : Id). Sound known n x below) (sym s.0) s.1 in
                let whole : Has known n skip (e ∷ es) rest ≡ (same && Has known n skip es back) =
                dir-same known n skip e es below rest group back w d t sound (subst (λ (m : Bytes). IsGroup skip m rest group back) q g)
                ∙ ap (λ (x : Bool). x && Has known n skip es back) (sym (is ∙ ap (λ (m : Bytes). same_leaves (tree_leaves known n below) (map leaf_of (shorts (skip + length m + 1) group))) q)) in
                from differs refl i whole
              where
                from : (x : Bool) → differs ≡ x → IsDirectoryNext name (e ∷ es) → Has known n skip (e ∷ es) rest ≡ (same && Has known n skip es back) → (not differs && Has known n skip es back) ≡ Has known n skip (e ∷ es) rest
                from true x i whole = ap (λ (u : Bool). not u && Has known n skip es back) x ∙ sym (whole ∙ ap (λ (u : Bool). u && Has known n skip es back) (other x i))
                from false x i whole = ap (λ (u : Bool). not u && Has known n skip es back) x ∙ sym (whole ∙ ap (λ (u : Bool). u && Has known n skip es back) (kept x).1)

-- ---- what is made of the rows of a directory

pub record IsBuilt (known : List Object) (depth : ℕ) (old : List Leaf) (name : Bytes) (group : List FileRow) (id : Id) (made new : List Object) : Type 0 where
  pub is : id ≡ id_of_rows depth group
  pub added : IsAdded known made new (trees_of_rows depth group)
  pub fresh : new ≡ made ++ new_group depth old name (map leaf_of group)

module _ (known : List Object) (depth : ℕ) (old : List Leaf) (name : Bytes) (below : List TreeEntry) (held : Id) (group : List FileRow) (made new : List Object) where
  pub group-built : (outcome : Option Id) → AreObjects known
      → has_group name old (map leaf_of group) ≡ same_leaves (tree_leaves known depth below) (map leaf_of group) → leaves_below name old ≡ tree_leaves known depth below
      → (0 < length below → Sound known depth held below) → 0 < length group
      → MatchOption outcome (same_leaves (tree_leaves known depth below) (map leaf_of group) ≡ true) (λ id. 0 < depth → same_leaves (tree_leaves known depth below) (map leaf_of group) ≡ false)
      → IfSome outcome (λ id. id ≡ id_of_rows depth group) → IfSome outcome (λ _. IsAdded known made new (trees_of_rows depth group))
      → new ≡ made ++ new_over depth (tree_leaves known depth below) (map leaf_of group)
      → IsBuilt known depth old name group (unwrap_or outcome held) made new
  group-built outcome are h b sound some same id added n = by outcome same id added
    where
      fresh : new ≡ made ++ new_group depth old name (map leaf_of group)
      fresh = n ∙ (λ k. made ++ (if sym h k then [] else new_in depth (sym b k) (map leaf_of group)))

      there : (es : List TreeEntry) (rows : List FileRow) → 0 < length rows → same_leaves (tree_leaves known depth es) (map leaf_of rows) ≡ true → 0 < length es
      there [] [] s q = absurd (omega (arith, s))
      there [] (r ∷ rows) s q = absurd (clash (sym q))
      there (e ∷ es) rows s q = omega arith

      by : (outcome : Option Id) → MatchOption outcome (same_leaves (tree_leaves known depth below) (map leaf_of group) ≡ true) (λ id. 0 < depth → same_leaves (tree_leaves known depth below) (map leaf_of group) ≡ false)
          → IfSome outcome (λ id. id ≡ id_of_rows depth group) → IfSome outcome (λ _. IsAdded known made new (trees_of_rows depth group))
          → IsBuilt known depth old name group (unwrap_or outcome held) made new
      by None same id added =
          let k = kept-tree known depth held below group are (sound (there below group some same)) (leaves-one (tree_leaves known depth below) (map leaf_of group) same) in
          let none : made ≡ new = sym (n ∙ ap (λ (t : Bool). made ++ (if t then [] else new_in depth (tree_leaves known depth below) (map leaf_of group))) same ∙ append-nil made) in
          record { is = k.is; added = subst (λ (os : List Object). IsAdded known made os (trees_of_rows depth group)) none (added-none known made (trees_of_rows depth group) k.held); fresh = fresh }
      by (Some x) same id added = record { is = id; added = added; fresh = fresh }

pub none-rows : (known : List Object) (n skip : ℕ) (none : List TreeEntry) (rows : List FileRow) → none ≡ [] → 0 < length rows → false ≡ same_leaves (tree_leaves known n none) (map leaf_of (shorts skip rows))
none-rows known n skip none [] e some = absurd (omega (arith, some))
none-rows known n skip none (r ∷ rows) e some = ap (λ (es : List TreeEntry). same_leaves (tree_leaves known n es) (map leaf_of (shorts skip (r ∷ rows)))) (sym e)

-- ---- names have no slash

pub uncut : (bytes : Bytes) → has_byte 47 bytes ≡ false → None ≡ cut_of 47 bytes
uncut bytes lacks = by (cut_of 47 bytes) refl
  where
    slash : (front rest : Bytes) → has_byte 47 (front ++ 47 ∷ rest) ≡ true
    slash [] rest = refl
    slash (b ∷ front) rest = ap (λ (t : Bool). (b == 47) || t) (slash front rest) ∙ or_true (b == 47)
      where
        or_true : (t : Bool) → (t || true) ≡ true
        or_true true = refl
        or_true false = refl

    by : (o : Option (Bytes × Bytes)) → cut_of 47 bytes ≡ o → None ≡ cut_of 47 bytes
    by None e = sym e
    by (Some p) e = absurd (clash (sym (slash p.0 p.1) ∙ ap (has_byte 47) (sym (cut_of-takes 47 bytes p.0 p.1 e).0) ∙ lacks))

pub name-uncut : (old : List TreeEntry) (place : ℕ) (e : TreeEntry) (path : Bytes) → IsTree old → place < length old → e ≡ get_or old place e → e.name ≡ path → None ≡ cut_of 47 path
name-uncut old place e path is_tree lt at is = uncut path (ap (has_byte 47) (sym is) ∙ (name-of old e is_tree (at-in old place e lt at)).plain)
