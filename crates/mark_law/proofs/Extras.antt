-- The extras of a changeset's marks are those of one list of marks.
use Rattle.std.proofs.Common.{◌≡◌, ℕ, false, List, [], ◌∷◌, ◌++◌, Option, Some, None, refl, sym, ap, ◌∙◌, append_assoc, arith}
use Rattle.std.specs.Prelude.{codes, decimal, bytes_eq}
use Rattle.std.proofs.lemmas.Fmt.{decimal_injective}
use Rattle.std.proofs.lemmas.Slice.Eq.{bytes_eq-Decides}
use Rattle.text_model.proofs.EscapeLemmas.{escape-injective}
use Rattle.text_model.proofs.Options.{some_is, none_some}
use Rattle.text_model.specs.Text.{Bytes}
use Rattle.text_model.specs.Escape.{escape}
use Rattle.hg_model.specs.Changeset.{Extra, extra_at}
use Rattle.git_model.specs.Residue.{ResidueItem}
use Rattle.pair_model.specs.MarkList.{ChangesetMarks, extra_of, parents_extra, residue_text, tree_extra, extras_of, IsPart, IsParentCount, IsTreePart, AreChangesetMarks}
use Rattle.mark_law.proofs.Residues.{residue_one}

-- a key that isn't the first is looked for behind it
skip : (k j : Bytes) → bytes_eq j k ≡ false → (v : Option Bytes) (r : List Extra) → extra_at k (extra_of j v ++ r) ≡ extra_at k r
skip k j e None r = refl
skip k j e (Some v) r = rw e refl

no_tree : (k : Bytes) → bytes_eq (codes "hg-git-tree") k ≡ false → (o : Option (List ResidueItem)) → extra_at k (tree_extra o) ≡ None
no_tree k e None = refl
no_tree k e (Some items) = rw e refl

past_parents : (k : Bytes) → bytes_eq (codes "hg-git-parents") k ≡ false → (n : Option ℕ) (r : List Extra) → extra_at k (parents_extra n ++ r) ≡ extra_at k r
past_parents k e None r = refl
past_parents k e (Some n) r = rw e refl

at_front : (k v : Bytes) (r : List Extra) → extra_at k (record { key = k; value = v } ∷ r) ≡ Some v
at_front k v r = rw ((bytes_eq-Decides k k).1 refl) refl

-- the first part and the rest are determined, where the rest has no such key
peel : (k : Bytes) (v w : Option Bytes) (r s : List Extra) → IsPart v → IsPart w → extra_at k r ≡ None → extra_at k s ≡ None
    → extra_of k v ++ r ≡ extra_of k w ++ s → (v ≡ w) × (r ≡ s)
peel k None None r s h g a b e = (refl, e)
peel k None (Some w) r s h g a b e = absurd (none_some (sym a ∙ ap (λ x. extra_at k x) e ∙ at_front k (escape w) s))
peel k (Some v) None r s h g a b e = absurd (none_some (sym b ∙ ap (λ x. extra_at k x) (sym e) ∙ at_front k (escape v) r))
peel k (Some v) (Some w) r s h g a b e =
    let x : escape v ≡ escape w = some_is (sym (at_front k (escape v) r) ∙ ap (λ x. extra_at k x) e ∙ at_front k (escape w) s) in
    (ap Some (escape-injective v w h g x), cc)

parents_one : (m n : Option ℕ) (r s : List Extra) → IsParentCount m → IsParentCount n → extra_at (codes "hg-git-parents") r ≡ None → extra_at (codes "hg-git-parents") s ≡ None
    → parents_extra m ++ r ≡ parents_extra n ++ s → (m ≡ n) × (r ≡ s)
parents_one None None r s h k a b e = (refl, e)
parents_one None (Some n) r s h k a b e = absurd (none_some (sym a ∙ ap (λ x. extra_at (codes "hg-git-parents") x) e ∙ at_front (codes "hg-git-parents") (decimal n) s))
parents_one (Some m) None r s h k a b e = absurd (none_some (sym b ∙ ap (λ x. extra_at (codes "hg-git-parents") x) (sym e) ∙ at_front (codes "hg-git-parents") (decimal m) r))
parents_one (Some m) (Some n) r s h k a b e =
    let d = at_front (codes "hg-git-parents") (decimal m) r in
    let f = at_front (codes "hg-git-parents") (decimal n) s in
    let x : decimal m ≡ decimal n = some_is (sym d ∙ ap (λ x. extra_at (codes "hg-git-parents") x) e ∙ f) in
    (ap Some (decimal_injective m n (omega arith) (omega arith) x), cc)

tree_one : (m n : Option (List ResidueItem)) → IsTreePart m → IsTreePart n → tree_extra m ≡ tree_extra n → m ≡ n
tree_one None None h k e = refl
tree_one None (Some n) h k e = absurd cc
tree_one (Some m) None h k e = absurd cc
tree_one (Some m) (Some n) h k e =
    let d = at_front (codes "hg-git-tree") (residue_text m) [] in
    let f = at_front (codes "hg-git-tree") (residue_text n) [] in
    let x : residue_text m ≡ residue_text n = some_is (sym d ∙ ap (λ x. extra_at (codes "hg-git-tree") x) e ∙ f) in
    ap Some (residue_one m n h.0 k.0 x)

abbrev rest_5 : ChangesetMarks → List Extra
rest_5 m = parents_extra m.parents ++ tree_extra m.tree

abbrev rest_4 : ChangesetMarks → List Extra
rest_4 m = extra_of (codes "hg-git-message") m.message ++ rest_5 m

abbrev rest_3 : ChangesetMarks → List Extra
rest_3 m = extra_of (codes "hg-git-headers") m.headers ++ rest_4 m

abbrev rest_2 : ChangesetMarks → List Extra
rest_2 m = extra_of (codes "hg-git-committer") m.committer ++ rest_3 m

turned : (m : ChangesetMarks) → extras_of m ≡ extra_of (codes "hg-git-author") m.author ++ rest_2 m
unfolding extras_of
turned m = simp append_assoc

past_5 : (k : Bytes) (m : ChangesetMarks) → bytes_eq (codes "hg-git-parents") k ≡ false → bytes_eq (codes "hg-git-tree") k ≡ false → extra_at k (rest_5 m) ≡ None
past_5 k m a b = past_parents k a m.parents (tree_extra m.tree) ∙ no_tree k b m.tree

past : (k : Bytes) (m : ChangesetMarks) → bytes_eq (codes "hg-git-message") k ≡ false → bytes_eq (codes "hg-git-parents") k ≡ false → bytes_eq (codes "hg-git-tree") k ≡ false → extra_at k (rest_4 m) ≡ None
past k m a b c = skip k (codes "hg-git-message") a m.message (rest_5 m) ∙ past_5 k m b c

pub extras_one : (m n : ChangesetMarks) → AreChangesetMarks m → AreChangesetMarks n → extras_of m ≡ extras_of n → m ≡ n
extras_one m n h k e =
    let a = peel (codes "hg-git-author") m.author n.author (rest_2 m) (rest_2 n) h.author k.author (past_2 m) (past_2 n) (sym (turned m) ∙ e ∙ turned n) in
    let b = peel (codes "hg-git-committer") m.committer n.committer (rest_3 m) (rest_3 n) h.committer k.committer (past_3 m) (past_3 n) a.1 in
    let c = peel (codes "hg-git-headers") m.headers n.headers (rest_4 m) (rest_4 n) h.headers k.headers (past (codes "hg-git-headers") m refl refl refl) (past (codes "hg-git-headers") n refl refl refl) b.1 in
    let d = peel (codes "hg-git-message") m.message n.message (rest_5 m) (rest_5 n) h.message k.message (past_5 (codes "hg-git-message") m refl refl) (past_5 (codes "hg-git-message") n refl refl) c.1 in
    let f = parents_one m.parents n.parents (tree_extra m.tree) (tree_extra n.tree) h.parents k.parents (no_tree (codes "hg-git-parents") refl m.tree) (no_tree (codes "hg-git-parents") refl n.tree) d.1 in
    let g = tree_one m.tree n.tree h.tree k.tree f.1 in
    λ i. record { author = a.0 i; committer = b.0 i; headers = c.0 i; message = d.0 i; parents = f.0 i; tree = g i }
  where
    past_3 : (x : ChangesetMarks) → extra_at (codes "hg-git-committer") (rest_3 x) ≡ None
    past_3 x = skip (codes "hg-git-committer") (codes "hg-git-headers") refl x.headers (rest_4 x) ∙ past (codes "hg-git-committer") x refl refl refl

    past_2 : (x : ChangesetMarks) → extra_at (codes "hg-git-author") (rest_2 x) ≡ None
    past_2 x = skip (codes "hg-git-author") (codes "hg-git-committer") refl x.committer (rest_3 x)
        ∙ (skip (codes "hg-git-author") (codes "hg-git-headers") refl x.headers (rest_4 x) ∙ past (codes "hg-git-author") x refl refl refl)
