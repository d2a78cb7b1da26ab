-- The extras of a changeset's marks are extras: their keys rise, and keys and values are made of bytes.
use Rattle.std.proofs.Common.{◌≡◌, ◌≢◌, ℕ, true, false, List, [], ◌∷◌, ◌++◌, Option, Some, None, refl, sym, subst, append_assoc, arith}
use Rattle.std.specs.Prelude.{codes}
use Rattle.text_model.specs.Lists.{Each}
use Rattle.text_model.specs.Text.{Bytes, IsBytes, has_byte, is_below}
use Rattle.text_model.specs.Escape.{escape}
use Rattle.text_model.specs.Id.{hex}
use Rattle.text_model.proofs.ByteLemmas.{IsBytes-append}
use Rattle.text_model.proofs.TextBytes.{escape-bytes, hex-bytes, small-bytes, spaced-bytes}
use Rattle.hg_model.specs.Changeset.{Extra, AreExtras}
use Rattle.git_model.specs.Residue.{ResidueItem, ResidueKind, Group, Link, Empty}
use Rattle.git_model.proofs.SortLemmas.{Ascends, ascends-rises}
use Rattle.pair_model.specs.MarkList.{ChangesetMarks, extra_of, parents_extra, item_word, residue_words, residue_text, tree_extra, extras_of, IsPart, IsItemKind, IsTreePart, AreChangesetMarks}
use Rattle.mark_law.proofs.TextFacts.{IsBytes-decimal}

-- ---- texts of bytes

word-bytes : (path : Bytes) (kind : ResidueKind) → IsBytes path → IsItemKind kind → IsBytes (item_word path kind)
word-bytes path Group h k = IsBytes-append (codes "group:") (escape path) (small-bytes (codes "group:") refl) (escape-bytes path h)
word-bytes path (Link id) h k =
    IsBytes-append (codes "link:" ++ hex id) (58 ∷ escape path) (IsBytes-append (codes "link:") (hex id) (small-bytes (codes "link:") refl) (hex-bytes id k)) (omega arith, escape-bytes path h)
word-bytes path Empty h k = IsBytes-append (codes "empty:") (escape path) (small-bytes (codes "empty:") refl) (escape-bytes path h)

words-bytes : (items : List ResidueItem) → Each (λ item. IsBytes item.path × IsItemKind item.kind) items → Each IsBytes (residue_words items)
words-bytes [] h = tt
words-bytes (item ∷ items) h = (word-bytes item.path item.kind h.0.0 h.0.1, words-bytes items h.1)

residue-bytes : (items : List ResidueItem) → Each (λ item. IsBytes item.path × IsItemKind item.kind) items → IsBytes (residue_text items)
unfolding residue_text
residue-bytes items h = spaced-bytes (residue_words items) (words-bytes items h)

-- ---- one extra, and those behind it

abbrev IsExtra : Extra → Type 0
IsExtra e = (e.key ≢ []) × (has_byte 58 e.key ≡ false) × IsBytes e.key × IsBytes e.value

-- a key of an extra
record IsKey (key : Bytes) : Type 0 where
  pub some : key ≢ []
  pub plain : has_byte 58 key ≡ false
  pub bytes : IsBytes key

-- extras whose keys rise
record AreRising (es : List Extra) : Type 0 where
  pub each : Each IsExtra es
  pub up : Ascends (λ (e : Extra). e.key) es

-- each key stands above this one
abbrev Above : Bytes → List Extra → Type 0
Above key es = Each (λ e. is_below key e.key ≡ true) es

above-part : (key k : Bytes) (o : Option Bytes) (es : List Extra) → is_below key k ≡ true → Above key es → Above key (extra_of k o ++ es)
above-part key k None es t h = h
above-part key k (Some v) es t h = (t, h)

above-count : (key : Bytes) (o : Option ℕ) (es : List Extra) → is_below key (codes "hg-git-parents") ≡ true → Above key es → Above key (parents_extra o ++ es)
above-count key None es t h = h
above-count key (Some n) es t h = (t, h)

above-tree : (key : Bytes) (o : Option (List ResidueItem)) → is_below key (codes "hg-git-tree") ≡ true → Above key (tree_extra o)
above-tree key None t = tt
above-tree key (Some items) t = (t, tt)

put-part : (key : Bytes) (o : Option Bytes) (es : List Extra) → IsKey key → IsPart o → Above key es → AreRising es → AreRising (extra_of key o ++ es)
put-part key None es k is above rest = rest
put-part key (Some v) es k is above rest = record { each = ((k.some, k.plain, k.bytes, escape-bytes v is), rest.each); up = (above, rest.up) }

parents-key : IsKey (codes "hg-git-parents")
parents-key = record { some = (λ e. cc); plain = refl; bytes = small-bytes (codes "hg-git-parents") refl }

tree-key : IsKey (codes "hg-git-tree")
tree-key = record { some = (λ e. cc); plain = refl; bytes = small-bytes (codes "hg-git-tree") refl }

put-count : (o : Option ℕ) (es : List Extra) → Above (codes "hg-git-parents") es → AreRising es → AreRising (parents_extra o ++ es)
put-count None es above rest = rest
put-count (Some n) es above rest = record { each = ((parents-key.some, parents-key.plain, parents-key.bytes, IsBytes-decimal n), rest.each); up = (above, rest.up) }

put-tree : (o : Option (List ResidueItem)) → IsTreePart o → AreRising (tree_extra o)
put-tree None is = record { each = tt; up = tt }
put-tree (Some items) is = record { each = ((tree-key.some, tree-key.plain, tree-key.bytes, residue-bytes items is.0), tt); up = (tt, tt) }

-- ---- all of them

turned : (m : ChangesetMarks) → extras_of m ≡ extra_of (codes "hg-git-author") m.author ++ (extra_of (codes "hg-git-committer") m.committer
    ++ (extra_of (codes "hg-git-headers") m.headers ++ (extra_of (codes "hg-git-message") m.message ++ (parents_extra m.parents ++ tree_extra m.tree))))
unfolding extras_of
turned m = simp append_assoc

pub marks-extras : (m : ChangesetMarks) → AreChangesetMarks m → AreExtras (extras_of m)
marks-extras m is =
    let tree = tree_extra m.tree in
    let five = parents_extra m.parents ++ tree in
    let four = extra_of (codes "hg-git-message") m.message ++ five in
    let three = extra_of (codes "hg-git-headers") m.headers ++ four in
    let two = extra_of (codes "hg-git-committer") m.committer ++ three in
    let rising-five = put-count m.parents tree (above-tree (codes "hg-git-parents") m.tree refl) (put-tree m.tree is.tree) in
    let rising-four = put-part (codes "hg-git-message") m.message five (record { some = (λ e. cc); plain = refl; bytes = small-bytes (codes "hg-git-message") refl }) is.message
    (above-count (codes "hg-git-message") m.parents tree refl (above-tree (codes "hg-git-message") m.tree refl)) rising-five in
    let rising-three = put-part (codes "hg-git-headers") m.headers four (record { some = (λ e. cc); plain = refl; bytes = small-bytes (codes "hg-git-headers") refl }) is.headers
    (above-part (codes "hg-git-headers") (codes "hg-git-message") m.message five refl
    (above-count (codes "hg-git-headers") m.parents tree refl (above-tree (codes "hg-git-headers") m.tree refl))) rising-four in
    let rising-two = put-part (codes "hg-git-committer") m.committer three (record { some = (λ e. cc); plain = refl; bytes = small-bytes (codes "hg-git-committer") refl }) is.committer
    (above-part (codes "hg-git-committer") (codes "hg-git-headers") m.headers four refl
    (above-part (codes "hg-git-committer") (codes "hg-git-message") m.message five refl
    (above-count (codes "hg-git-committer") m.parents tree refl (above-tree (codes "hg-git-committer") m.tree refl)))) rising-three in
    let rising = put-part (codes "hg-git-author") m.author two (record { some = (λ e. cc); plain = refl; bytes = small-bytes (codes "hg-git-author") refl }) is.author
    (above-part (codes "hg-git-author") (codes "hg-git-committer") m.committer three refl
    (above-part (codes "hg-git-author") (codes "hg-git-headers") m.headers four refl
    (above-part (codes "hg-git-author") (codes "hg-git-message") m.message five refl
    (above-count (codes "hg-git-author") m.parents tree refl (above-tree (codes "hg-git-author") m.tree refl))))) rising-two in
    subst AreExtras (sym (turned m)) (rising.each, ascends-rises (λ (e : Extra). e.key) _ rising.up)
