-- The extras of a changeset's marks, as they are read and as they are put.
use Rattle.std.proofs.Common.{◌≡◌, ◌≤◌, ◌<◌, ◌+◌, ◌^◌, ◌&&◌, ℕ, zero, suc, Bool, true, false, List, [], ◌∷◌, ◌++◌, length, drop, length-drop, Option, Some, None, option_map, refl, sym, ap, subst, ◌∙◌, append_assoc, arith, add-one, leb-true, Result, Ok, Err}
use Rattle.std.specs.Prelude.{codes, decimal, bytes_eq, nat_le, not, IfOk, MatchOption, if◌then◌else◌, slice_get}
use Rattle.std.proofs.lemmas.Bool.{not-true, not-false}
use Rattle.std.specs.Option.{option_and_then}
use Rattle.std.proofs.lemmas.Slice.Eq.{bytes_eq-Decides}
use Rattle.std.proofs.lemmas.Bool.Decides.{nat_tests}
use Rattle.text_model.proofs.Options.{none_some, some_is}
use Rattle.text_model.specs.Text.{Bytes, is_below, decimal_below}
use Rattle.text_model.proofs.DecimalLemmas.{decimal_below-decimal, decimal_below-takes}
use Rattle.text_model.proofs.TestLemmas.{both}
use Rattle.text_model.proofs.EachLemmas.{Each-append}
use Rattle.hg_model.specs.Changeset.{Extra, extra_at, key_rises, last_key}
use Rattle.git_model.specs.Residue.{ResidueItem}
use Rattle.pair_model.specs.MarkList.{ChangesetMarks, extra_of, parents_extra, tree_extra, extras_of, IsPart, IsParentCount, IsTreePart, AreChangesetMarks, AreExtrasOf}
use Rattle.mark_code.specs.Reading.{raw_of}
use Rattle.mark_code.specs.ResidueText.{residue_of_text}
use Rattle.mark_code.specs.Extras.{part_at, count_of, count_at, tree_at, marks_in_extras, AreBelow}
use Rattle.mark_code.specs.Values.{changeset_marks}
use Rattle.mark_code.specs.declared.changeset_marks.ChangesetMarks as declared
use Rattle.mark_code.proofs.RawLemmas.{raw_of-escape, raw_of-takes}
use Rattle.mark_code.proofs.ResidueLemmas.{residue-again, residue-takes}

same_key : (key : Bytes) → bytes_eq key key ≡ true
same_key key = (bytes_eq-Decides key key).1 refl

-- ---- one part

-- where no item has the key, the part is missing
part_at-none : (key : Bytes) (es : List Extra) → extra_at key es ≡ None → part_at key es ≡ Some (None, es)
part_at-none key [] h = refl
part_at-none key (e ∷ es) h = by (bytes_eq e.key key) refl
  where
    by : (t : Bool) → bytes_eq e.key key ≡ t → part_at key (e ∷ es) ≡ Some (None, e ∷ es)
    by true t = absurd (none_some {x = e.value} (sym h ∙ rw t refl))
    by false t = rw t refl

part_at-again : (key : Bytes) (part : Option Bytes) (es : List Extra) → IsPart part → extra_at key es ≡ None → part_at key (extra_of key part ++ es) ≡ Some (part, es)
part_at-again key None es is h = part_at-none key es h
part_at-again key (Some part) es is h = rw (same_key key, raw_of-escape part is) refl

part_at-takes : (key : Bytes) (es : List Extra) (part : Option Bytes) (rest : List Extra) → part_at key es ≡ Some (part, rest) → IsPart part × (es ≡ extra_of key part ++ rest)
part_at-takes key [] part rest h =
    let same : (None, []) ≡ (part, rest) = some_is {X = Option Bytes × List Extra} {x = (None, [])} {y = (part, rest)} h in
    subst (λ (p : Option Bytes × List Extra). IsPart p.0 × ([] ≡ extra_of key p.0 ++ p.1)) same (tt, refl)
part_at-takes key (e ∷ es) part rest h = by (bytes_eq e.key key) refl (raw_of e.value) refl
  where
    Given : Option Bytes × List Extra → Type 0
    Given p = IsPart p.0 × (e ∷ es ≡ extra_of key p.0 ++ p.1)

    by : (t : Bool) → bytes_eq e.key key ≡ t → (r : Option Bytes) → raw_of e.value ≡ r → IsPart part × (e ∷ es ≡ extra_of key part ++ rest)
    by false t r q =
        let same : (None, e ∷ es) ≡ (part, rest) = some_is {X = Option Bytes × List Extra} {x = (None, e ∷ es)} {y = (part, rest)} (sym (rw t refl) ∙ h) in
        subst (λ (p : Option Bytes × List Extra). IsPart p.0 × (e ∷ es ≡ extra_of key p.0 ++ p.1)) same (tt, refl)
    by true t None q = absurd (none_some {X = Option Bytes × List Extra} {x = (part, rest)} (sym (rw (t, q) refl) ∙ h))
    by true t (Some raw) q =
        let same : (Some raw, es) ≡ (part, rest) = some_is {X = Option Bytes × List Extra} {x = (Some raw, es)} {y = (part, rest)} (sym (rw (t, q) refl) ∙ h) in
        let read = raw_of-takes e.value raw q in
        let key_is : e.key ≡ key = (bytes_eq-Decides e.key key).0 t in
        subst (λ (p : Option Bytes × List Extra). IsPart p.0 × (e ∷ es ≡ extra_of key p.0 ++ p.1)) same (read.0, (λ i. record { key = key_is i; value = read.1 i } ∷ es))

-- ---- the number of parents

count_of-decimal : (n : ℕ) → 3 ≤ n → n ≤ 64 → count_of (decimal n) ≡ Some n
count_of-decimal n low high = rw (decimal_below-decimal (2 ^ 64) n (omega arith) (omega arith)) (test n low high)
  where
    test : (n : ℕ) → 3 ≤ n → n ≤ 64 → (if nat_le 3 n && nat_le n 64 then Some n else None) ≡ Some n
    test n low high = grind (arith, nat_tests)

count_of-takes : (text : Bytes) (n : ℕ) → count_of text ≡ Some n → (text ≡ decimal n) × (3 ≤ n) × (n ≤ 64)
count_of-takes text n h = by (decimal_below (2 ^ 64) text) refl
  where
    by : (r : Option ℕ) → decimal_below (2 ^ 64) text ≡ r → (text ≡ decimal n) × (3 ≤ n) × (n ≤ 64)
    by None r = absurd (none_some {x = n} (sym (ap (option_and_then (λ n. if nat_le 3 n && nat_le n 64 then Some n else None)) r) ∙ h))
    by (Some m) r = within (nat_le 3 m && nat_le m 64) refl
      where
        whole : (if nat_le 3 m && nat_le m 64 then Some m else None) ≡ Some n
        whole = sym (ap (option_and_then (λ n. if nat_le 3 n && nat_le n 64 then Some n else None)) r) ∙ h

        within : (t : Bool) → (nat_le 3 m && nat_le m 64) ≡ t → (text ≡ decimal n) × (3 ≤ n) × (n ≤ 64)
        within false t = absurd (none_some {x = n} (sym (rw t refl) ∙ whole))
        within true t =
            let same : m ≡ n = some_is {x = m} {y = n} (sym (rw t refl) ∙ whole) in
            let p = both (nat_le 3 m) (nat_le m 64) t in
            let d = decimal_below-takes (2 ^ 64) text m (omega arith) r in
            subst (λ (k : ℕ). (text ≡ decimal k) × (3 ≤ k) × (k ≤ 64)) same (d.0, leb-true 3 m p.0, leb-true m 64 p.1)

-- where no item has the key, the number is missing
count_at-none : (es : List Extra) → extra_at (codes "hg-git-parents") es ≡ None → count_at es ≡ Some (None, es)
count_at-none [] h = refl
count_at-none (e ∷ es) h = by (bytes_eq e.key (codes "hg-git-parents")) refl
  where
    by : (t : Bool) → bytes_eq e.key (codes "hg-git-parents") ≡ t → count_at (e ∷ es) ≡ Some (None, e ∷ es)
    by true t = absurd (none_some {x = e.value} (sym h ∙ rw t refl))
    by false t = rw t refl

count_at-again : (parents : Option ℕ) (es : List Extra) → IsParentCount parents → extra_at (codes "hg-git-parents") es ≡ None → count_at (parents_extra parents ++ es) ≡ Some (parents, es)
count_at-again None es is h = count_at-none es h
count_at-again (Some n) es is h = ap (option_map (λ (m : ℕ). (Some m, es))) (count_of-decimal n is.0 is.1)

count_at-takes : (es : List Extra) (parents : Option ℕ) (rest : List Extra) → count_at es ≡ Some (parents, rest) → IsParentCount parents × (es ≡ parents_extra parents ++ rest)
count_at-takes [] parents rest h =
    let same : (None, []) ≡ (parents, rest) = some_is {X = Option ℕ × List Extra} {x = (None, [])} {y = (parents, rest)} h in
    subst (λ (p : Option ℕ × List Extra). IsParentCount p.0 × ([] ≡ parents_extra p.0 ++ p.1)) same (tt, refl)
count_at-takes (e ∷ es) parents rest h = by (bytes_eq e.key (codes "hg-git-parents")) refl (count_of e.value) refl
  where
    by : (t : Bool) → bytes_eq e.key (codes "hg-git-parents") ≡ t → (r : Option ℕ) → count_of e.value ≡ r → IsParentCount parents × (e ∷ es ≡ parents_extra parents ++ rest)
    by false t r q =
        let same : (None, e ∷ es) ≡ (parents, rest) = some_is {X = Option ℕ × List Extra} {x = (None, e ∷ es)} {y = (parents, rest)} (sym (rw t refl) ∙ h) in
        subst (λ (p : Option ℕ × List Extra). IsParentCount p.0 × (e ∷ es ≡ parents_extra p.0 ++ p.1)) same (tt, refl)
    by true t None q = absurd (none_some {X = Option ℕ × List Extra} {x = (parents, rest)} (sym (rw (t, q) refl) ∙ h))
    by true t (Some n) q =
        let same : (Some n, es) ≡ (parents, rest) = some_is {X = Option ℕ × List Extra} {x = (Some n, es)} {y = (parents, rest)} (sym (rw (t, q) refl) ∙ h) in
        let read = count_of-takes e.value n q in
        let key_is : e.key ≡ codes "hg-git-parents" = (bytes_eq-Decides e.key (codes "hg-git-parents")).0 t in
        subst (λ (p : Option ℕ × List Extra). IsParentCount p.0 × (e ∷ es ≡ parents_extra p.0 ++ p.1)) same ((read.1, read.2), (λ i. record { key = key_is i; value = read.0 i } ∷ es))

-- ---- the residue

tree_at-again : (tree : Option (List ResidueItem)) → IsTreePart tree → tree_at (tree_extra tree) ≡ Some tree
tree_at-again None h = refl
tree_at-again (Some items) h = ap (option_map (λ (xs : List ResidueItem). Some xs)) (residue-again items h)

tree_at-takes : (es : List Extra) (tree : Option (List ResidueItem)) → tree_at es ≡ Some tree → IsTreePart tree × (es ≡ tree_extra tree)
tree_at-takes [] tree h = subst (λ (x : Option (List ResidueItem)). IsTreePart x × ([] ≡ tree_extra x)) (some_is {x = None} {y = tree} h) (tt, refl)
tree_at-takes (e ∷ f ∷ es) tree h = absurd (none_some {x = tree} h)
tree_at-takes (e ∷ []) tree h = by (bytes_eq e.key (codes "hg-git-tree")) refl (residue_of_text e.value) refl
  where
    by : (t : Bool) → bytes_eq e.key (codes "hg-git-tree") ≡ t → (r : Option (List ResidueItem)) → residue_of_text e.value ≡ r → IsTreePart tree × (e ∷ [] ≡ tree_extra tree)
    by false t r q = absurd (none_some {x = tree} (sym (rw t refl) ∙ h))
    by true t None q = absurd (none_some {x = tree} (sym (rw (t, q) refl) ∙ h))
    by true t (Some items) q =
        let same : Some items ≡ tree = some_is {x = Some items} {y = tree} (sym (rw (t, q) refl) ∙ h) in
        let read = residue-takes e.value items q in
        let key_is : e.key ≡ codes "hg-git-tree" = (bytes_eq-Decides e.key (codes "hg-git-tree")).0 t in
        subst (λ (x : Option (List ResidueItem)). IsTreePart x × (e ∷ [] ≡ tree_extra x)) same (read.0, (λ i. record { key = key_is i; value = read.1 i } ∷ []))

-- ---- the whole

-- a key that isn't the first is looked for behind it
skip : (key other : Bytes) → bytes_eq other key ≡ false → (part : Option Bytes) (es : List Extra) → extra_at key (extra_of other part ++ es) ≡ extra_at key es
skip key other apart None es = refl
skip key other apart (Some part) es = rw apart refl

skip_parents : (key : Bytes) → bytes_eq (codes "hg-git-parents") key ≡ false → (parents : Option ℕ) (es : List Extra) → extra_at key (parents_extra parents ++ es) ≡ extra_at key es
skip_parents key apart None es = refl
skip_parents key apart (Some n) es = rw apart refl

no_tree : (key : Bytes) → bytes_eq (codes "hg-git-tree") key ≡ false → (tree : Option (List ResidueItem)) → extra_at key (tree_extra tree) ≡ None
no_tree key apart None = refl
no_tree key apart (Some items) = rw apart refl

-- what is left behind the author, the committer, the headers and the message
abbrev behind_author : ChangesetMarks → List Extra
behind_author m = extra_of (codes "hg-git-committer") m.committer ++ (extra_of (codes "hg-git-headers") m.headers ++ (extra_of (codes "hg-git-message") m.message ++ (parents_extra m.parents ++ tree_extra m.tree)))

abbrev behind_committer : ChangesetMarks → List Extra
behind_committer m = extra_of (codes "hg-git-headers") m.headers ++ (extra_of (codes "hg-git-message") m.message ++ (parents_extra m.parents ++ tree_extra m.tree))

abbrev behind_headers : ChangesetMarks → List Extra
behind_headers m = extra_of (codes "hg-git-message") m.message ++ (parents_extra m.parents ++ tree_extra m.tree)

abbrev behind_message : ChangesetMarks → List Extra
behind_message m = parents_extra m.parents ++ tree_extra m.tree

turned : (m : ChangesetMarks) → extras_of m ≡ extra_of (codes "hg-git-author") m.author ++ behind_author m
unfolding extras_of
turned m = simp append_assoc

past_message : (key : Bytes) (m : ChangesetMarks) → bytes_eq (codes "hg-git-parents") key ≡ false → bytes_eq (codes "hg-git-tree") key ≡ false → extra_at key (behind_message m) ≡ None
past_message key m apart other = skip_parents key apart m.parents (tree_extra m.tree) ∙ no_tree key other m.tree

past_headers : (key : Bytes) (m : ChangesetMarks) → bytes_eq (codes "hg-git-message") key ≡ false → bytes_eq (codes "hg-git-parents") key ≡ false → bytes_eq (codes "hg-git-tree") key ≡ false → extra_at key (behind_headers m) ≡ None
past_headers key m message apart other = skip key (codes "hg-git-message") message m.message (behind_message m) ∙ past_message key m apart other

no_committer_key : (m : ChangesetMarks) → extra_at (codes "hg-git-committer") (behind_committer m) ≡ None
no_committer_key m = skip (codes "hg-git-committer") (codes "hg-git-headers") refl m.headers (behind_headers m) ∙ past_headers (codes "hg-git-committer") m refl refl refl

no_author_key : (m : ChangesetMarks) → extra_at (codes "hg-git-author") (behind_author m) ≡ None
no_author_key m =
    skip (codes "hg-git-author") (codes "hg-git-committer") refl m.committer (behind_committer m)
    ∙ skip (codes "hg-git-author") (codes "hg-git-headers") refl m.headers (behind_headers m) ∙ past_headers (codes "hg-git-author") m refl refl refl

-- the extras of marks read as the marks
pub marks_in_extras-again : (m : ChangesetMarks) → AreChangesetMarks m → marks_in_extras (extras_of m) ≡ Some m
unfolding marks_in_extras
marks_in_extras-again m is =
    let author = part_at-again (codes "hg-git-author") m.author (behind_author m) is.author (no_author_key m) in
    let committer = part_at-again (codes "hg-git-committer") m.committer (behind_committer m) is.committer (no_committer_key m) in
    let headers = part_at-again (codes "hg-git-headers") m.headers (behind_headers m) is.headers (past_headers (codes "hg-git-headers") m refl refl refl) in
    let message = part_at-again (codes "hg-git-message") m.message (behind_message m) is.message (past_message (codes "hg-git-message") m refl refl) in
    let parents = count_at-again m.parents (tree_extra m.tree) is.parents (no_tree (codes "hg-git-parents") refl m.tree) in
    rw (turned m, author, committer, headers, message, parents, tree_at-again m.tree is.tree) refl

-- what the extras read as has these extras
pub marks_in_extras-takes : (extras : List Extra) (m : ChangesetMarks) → marks_in_extras extras ≡ Some m → AreExtrasOf extras m
unfolding marks_in_extras
marks_in_extras-takes extras m h = by_author (part_at (codes "hg-git-author") extras) refl
  where
    Read : Type 0
    Read = Option Bytes × List Extra

    by_author : (r : Option (Option Bytes × List Extra)) → part_at (codes "hg-git-author") extras ≡ r → AreExtrasOf extras m
    by_author None r = absurd (none_some {x = m} (sym (rw r refl) ∙ h))
    by_author (Some a) r = by_committer (part_at (codes "hg-git-committer") a.1) refl
      where
        by_committer : (s : Option (Option Bytes × List Extra)) → part_at (codes "hg-git-committer") a.1 ≡ s → AreExtrasOf extras m
        by_committer None s = absurd (none_some {x = m} (sym (rw (r, s) refl) ∙ h))
        by_committer (Some b) s = by_headers (part_at (codes "hg-git-headers") b.1) refl
          where
            by_headers : (t : Option (Option Bytes × List Extra)) → part_at (codes "hg-git-headers") b.1 ≡ t → AreExtrasOf extras m
            by_headers None t = absurd (none_some {x = m} (sym (rw (r, s, t) refl) ∙ h))
            by_headers (Some c) t = by_message (part_at (codes "hg-git-message") c.1) refl
              where
                by_message : (u : Option (Option Bytes × List Extra)) → part_at (codes "hg-git-message") c.1 ≡ u → AreExtrasOf extras m
                by_message None u = absurd (none_some {x = m} (sym (rw (r, s, t, u) refl) ∙ h))
                by_message (Some d) u = by_parents (count_at d.1) refl
                  where
                    by_parents : (v : Option (Option ℕ × List Extra)) → count_at d.1 ≡ v → AreExtrasOf extras m
                    by_parents None v = absurd (none_some {x = m} (sym (rw (r, s, t, u, v) refl) ∙ h))
                    by_parents (Some n) v = by_tree (tree_at n.1) refl
                      where
                        by_tree : (w : Option (Option (List ResidueItem))) → tree_at n.1 ≡ w → AreExtrasOf extras m
                        by_tree None w = absurd (none_some {x = m} (sym (rw (r, s, t, u, v, w) refl) ∙ h))
                        by_tree (Some g) w =
                            let x : ChangesetMarks = record { author = a.0; committer = b.0; headers = c.0; message = d.0; parents = n.0; tree = g } in
                            let same : x ≡ m = some_is {x = x} {y = m} (sym (rw (r, s, t, u, v, w) refl) ∙ h) in
                            let author = part_at-takes (codes "hg-git-author") extras a.0 a.1 r in
                            let committer = part_at-takes (codes "hg-git-committer") a.1 b.0 b.1 s in
                            let headers = part_at-takes (codes "hg-git-headers") b.1 c.0 c.1 t in
                            let message = part_at-takes (codes "hg-git-message") c.1 d.0 d.1 u in
                            let parents = count_at-takes d.1 n.0 n.1 v in
                            let tree = tree_at-takes n.1 g w in
                            let behind : d.1 ≡ parents_extra n.0 ++ tree_extra g = parents.1 ∙ ap (λ (z : List Extra). parents_extra n.0 ++ z) tree.1 in
                            let whole : extras ≡ extra_of (codes "hg-git-author") a.0 ++ (extra_of (codes "hg-git-committer") b.0 ++ (extra_of (codes "hg-git-headers") c.0 ++ (extra_of (codes "hg-git-message") d.0 ++ (parents_extra n.0 ++ tree_extra g)))) =
                            author.1 ∙ ap (λ (z : List Extra). extra_of (codes "hg-git-author") a.0 ++ z) (committer.1 ∙ ap (λ (z : List Extra). extra_of (codes "hg-git-committer") b.0 ++ z) (headers.1 ∙ ap (λ (z : List Extra). extra_of (codes "hg-git-headers") c.0 ++ z) (message.1 ∙ ap (λ (z : List Extra). extra_of (codes "hg-git-message") d.0 ++ z) behind))) in
                            subst (AreExtrasOf extras) same (record { author = author.0; committer = committer.0; headers = headers.0; message = message.0; parents = parents.0; tree = tree.0 }, whole ∙ sym (turned x))

-- so extras that read as nothing are those of no marks
pub marks_in_extras-none : (extras : List Extra) → marks_in_extras extras ≡ None → (m : ChangesetMarks) → AreExtrasOf extras m → ⊥
marks_in_extras-none extras none m is = none_some {x = m} (sym none ∙ ap marks_in_extras is.1 ∙ marks_in_extras-again m is.0)

-- what reading them answers
pub judged : {E : Type 0} (extras : List Extra) (r : Result (Option declared.ChangesetMarks) E) → IfOk r (λ marks. option_map changeset_marks marks ≡ marks_in_extras extras)
    → IfOk r (λ marks. MatchOption marks ((m : ChangesetMarks) → ¬ (AreExtrasOf extras m)) (λ marks. AreExtrasOf extras (changeset_marks marks)))
judged extras (Err e) h = tt
judged extras (Ok None) h = marks_in_extras-none extras (sym h)
judged extras (Ok (Some x)) h = marks_in_extras-takes extras (changeset_marks x) (sym h)

-- ---- a place among the items

drop_suc : (es : List Extra) (i : ℕ) (e : Extra) → i < length es → slice_get es i ≡ Some e → drop i es ≡ e ∷ drop (suc i) es
drop_suc [] i e lt get = absurd (omega arith)
drop_suc (x ∷ es) zero e lt get = cc
drop_suc (x ∷ es) (suc i) e lt get = drop_suc es i e (omega arith) get

drop_at : (es : List Extra) (i : ℕ) (e : Extra) → i < length es → slice_get es i ≡ Some e → drop i es ≡ e ∷ drop (i + 1) es
drop_at es i e lt get = rw add-one (drop_suc es i e lt get)

drop_end : (es : List Extra) (i : ℕ) → i ≡ length es → drop i es ≡ []
drop_end [] i e = rw e refl
drop_end (x ∷ es) zero e = absurd (omega arith)
drop_end (x ∷ es) (suc i) e = drop_end es i (omega arith)

-- an item stands behind this one
pub tree-more : (es : List Extra) (i : ℕ) (e : Extra) → i + 1 < length es → slice_get es i ≡ Some e → None ≡ tree_at (drop i es)
tree-more es i e more get = sym (ap tree_at (drop_at es i e (omega arith) get) ∙ by (drop (i + 1) es) (omega (arith, length-drop (i + 1) es)))
  where
    by : (rest : List Extra) → 0 < length rest → tree_at (e ∷ rest) ≡ None
    by [] h = absurd (omega arith)
    by (f ∷ rest) h = refl

module _ (es : List Extra) (i : ℕ) (e : Extra) (key value : Bytes) (lt : i < length es) (get : slice_get es i ≡ Some e) (e_is : record { key = key; value = value } ≡ e) where
  here : drop i es ≡ record { key = key; value = value } ∷ drop (i + 1) es
  here = drop_at es i e lt get ∙ (λ j. sym e_is j ∷ drop (i + 1) es)

  -- its key is another
  pub part-other : (wanted seen : Bytes) → seen ≡ key → true ≡ not (bytes_eq seen wanted) → Some (None, drop i es) ≡ part_at wanted (drop i es)
  part-other wanted seen same other =
      let apart : bytes_eq key wanted ≡ false = not-true (bytes_eq key wanted) (ap (λ (k : Bytes). not (bytes_eq k wanted)) (sym same) ∙ sym other) in
      ap (λ (x : List Extra). Some (None, x)) here ∙ sym (ap (part_at wanted) here ∙ first apart)
    where
      first : bytes_eq key wanted ≡ false → part_at wanted (record { key = key; value = value } ∷ drop (i + 1) es) ≡ Some (None, record { key = key; value = value } ∷ drop (i + 1) es)
      first apart = rw apart refl

  -- its key is this one
  pub part-read : (wanted seen text : Bytes) (r : Option Bytes) → seen ≡ key → false ≡ not (bytes_eq seen wanted) → text ≡ value → r ≡ raw_of text
      → option_map (λ (part : Bytes). (Some part, drop (i + 1) es)) r ≡ part_at wanted (drop i es)
  part-read wanted seen text r same is text_is read =
      let found : bytes_eq key wanted ≡ true = not-false (bytes_eq key wanted) (ap (λ (k : Bytes). not (bytes_eq k wanted)) (sym same) ∙ sym is) in
      ap (option_map (λ (part : Bytes). (Some part, drop (i + 1) es))) (read ∙ ap raw_of text_is) ∙ sym (ap (part_at wanted) here ∙ first found)
    where
      first : bytes_eq key wanted ≡ true → part_at wanted (record { key = key; value = value } ∷ drop (i + 1) es) ≡ option_map (λ (part : Bytes). (Some part, drop (i + 1) es)) (raw_of value)
      first found = rw found refl

  -- it is no number of parents
  pub count-other : (seen : Bytes) → seen ≡ key → true ≡ not (bytes_eq seen (codes "hg-git-parents")) → Some (None, drop i es) ≡ count_at (drop i es)
  count-other seen same other =
      let apart : bytes_eq key (codes "hg-git-parents") ≡ false = not-true (bytes_eq key (codes "hg-git-parents")) (ap (λ (k : Bytes). not (bytes_eq k (codes "hg-git-parents"))) (sym same) ∙ sym other) in
      ap (λ (x : List Extra). Some (None, x)) here ∙ sym (ap count_at here ∙ first apart)
    where
      first : bytes_eq key (codes "hg-git-parents") ≡ false → count_at (record { key = key; value = value } ∷ drop (i + 1) es) ≡ Some (None, record { key = key; value = value } ∷ drop (i + 1) es)
      first apart = rw apart refl

  pub count-read : (seen text : Bytes) (r : Option ℕ) → seen ≡ key → false ≡ not (bytes_eq seen (codes "hg-git-parents")) → text ≡ value → r ≡ count_of text
      → option_map (λ (n : ℕ). (Some n, drop (i + 1) es)) r ≡ count_at (drop i es)
  count-read seen text r same is text_is read =
      let found : bytes_eq key (codes "hg-git-parents") ≡ true = not-false (bytes_eq key (codes "hg-git-parents")) (ap (λ (k : Bytes). not (bytes_eq k (codes "hg-git-parents"))) (sym same) ∙ sym is) in
      ap (option_map (λ (n : ℕ). (Some n, drop (i + 1) es))) (read ∙ ap count_of text_is) ∙ sym (ap count_at here ∙ first found)
    where
      first : bytes_eq key (codes "hg-git-parents") ≡ true → count_at (record { key = key; value = value } ∷ drop (i + 1) es) ≡ option_map (λ (n : ℕ). (Some n, drop (i + 1) es)) (count_of value)
      first found = rw found refl

  module _ (last : i + 1 ≡ length es) where
    alone : drop i es ≡ record { key = key; value = value } ∷ []
    alone = here ∙ ap (λ (rest : List Extra). record { key = key; value = value } ∷ rest) (drop_end es (i + 1) last)

    pub tree-other : (seen : Bytes) → seen ≡ key → true ≡ not (bytes_eq seen (codes "hg-git-tree")) → None ≡ tree_at (drop i es)
    tree-other seen same other =
        let apart : bytes_eq key (codes "hg-git-tree") ≡ false = not-true (bytes_eq key (codes "hg-git-tree")) (ap (λ (k : Bytes). not (bytes_eq k (codes "hg-git-tree"))) (sym same) ∙ sym other) in
        sym (ap tree_at alone ∙ first apart)
      where
        first : bytes_eq key (codes "hg-git-tree") ≡ false → tree_at (record { key = key; value = value } ∷ []) ≡ None
        first apart = rw apart refl

    pub tree-read : (seen text : Bytes) (r : Option (List ResidueItem)) → seen ≡ key → false ≡ not (bytes_eq seen (codes "hg-git-tree")) → text ≡ value → r ≡ residue_of_text text
        → option_map (λ (xs : List ResidueItem). Some xs) r ≡ tree_at (drop i es)
    tree-read seen text r same is text_is read =
        let found : bytes_eq key (codes "hg-git-tree") ≡ true = not-false (bytes_eq key (codes "hg-git-tree")) (ap (λ (k : Bytes). not (bytes_eq k (codes "hg-git-tree"))) (sym same) ∙ sym is) in
        ap (option_map (λ (xs : List ResidueItem). Some xs)) (read ∙ ap residue_of_text text_is) ∙ sym (ap tree_at alone ∙ first found)
      where
        first : bytes_eq key (codes "hg-git-tree") ≡ true → tree_at (record { key = key; value = value } ∷ []) ≡ option_map (λ (xs : List ResidueItem). Some xs) (residue_of_text value)
        first found = rw found refl

-- ---- putting the items

-- a key above each is above the last
pub rises_above : (key : Bytes) (es : List Extra) → AreBelow key es → key_rises (last_key es) key ≡ true
rises_above key [] h = refl
rises_above key (e ∷ []) h = h.0
rises_above key (e ∷ f ∷ es) h = rises_above key (f ∷ es) h.1

-- the items that are put one after the other
module _ (m : ChangesetMarks) (none first second third fourth : List Extra) (nothing : none ≡ [])
    (author : first ≡ none ++ extra_of (codes "hg-git-author") m.author) (committer : second ≡ first ++ extra_of (codes "hg-git-committer") m.committer)
    (headers : third ≡ second ++ extra_of (codes "hg-git-headers") m.headers) (message : fourth ≡ third ++ extra_of (codes "hg-git-message") m.message) where
  put_first : first ≡ extra_of (codes "hg-git-author") m.author
  put_first = author ∙ ap (λ (es : List Extra). es ++ extra_of (codes "hg-git-author") m.author) nothing

  put_fourth : fourth ≡ extra_of (codes "hg-git-author") m.author ++ extra_of (codes "hg-git-committer") m.committer ++ extra_of (codes "hg-git-headers") m.headers ++ extra_of (codes "hg-git-message") m.message
  put_fourth = message ∙ ap (λ (es : List Extra). es ++ extra_of (codes "hg-git-message") m.message) (headers ∙ ap (λ (es : List Extra). es ++ extra_of (codes "hg-git-headers") m.headers) (committer ∙ ap (λ (es : List Extra). es ++ extra_of (codes "hg-git-committer") m.committer) put_first))

  below : (wanted key : Bytes) (part : Option Bytes) → is_below key wanted ≡ true → AreBelow wanted (extra_of key part)
  below wanted key None h = tt
  below wanted key (Some part) h = (h, tt)

  parts_below : (wanted : Bytes) → is_below (codes "hg-git-author") wanted ≡ true → is_below (codes "hg-git-committer") wanted ≡ true → is_below (codes "hg-git-headers") wanted ≡ true
      → is_below (codes "hg-git-message") wanted ≡ true → AreBelow wanted fourth
  parts_below wanted by_author by_committer by_headers by_message =
      let P : Extra → Type 0 = λ (e : Extra). is_below e.key wanted ≡ true in
      subst (AreBelow wanted) (sym put_fourth)
      (Each-append P (extra_of (codes "hg-git-author") m.author ++ extra_of (codes "hg-git-committer") m.committer ++ extra_of (codes "hg-git-headers") m.headers) (extra_of (codes "hg-git-message") m.message)
      (Each-append P (extra_of (codes "hg-git-author") m.author ++ extra_of (codes "hg-git-committer") m.committer) (extra_of (codes "hg-git-headers") m.headers)
      (Each-append P (extra_of (codes "hg-git-author") m.author) (extra_of (codes "hg-git-committer") m.committer)
      (below wanted (codes "hg-git-author") m.author by_author) (below wanted (codes "hg-git-committer") m.committer by_committer))
      (below wanted (codes "hg-git-headers") m.headers by_headers)) (below wanted (codes "hg-git-message") m.message by_message))

  pub all_below : AreBelow (codes "hg-git-parents") fourth
  all_below = parts_below (codes "hg-git-parents") refl refl refl refl

  module _ (fifth : List Extra) (parents : fifth ≡ fourth ++ parents_extra m.parents) where
    count_below : (count : Option ℕ) → AreBelow (codes "hg-git-tree") (parents_extra count)
    count_below None = tt
    count_below (Some n) = (refl, tt)

    pub all_below_tree : AreBelow (codes "hg-git-tree") fifth
    all_below_tree =
        let P : Extra → Type 0 = λ (e : Extra). is_below e.key (codes "hg-git-tree") ≡ true in
        subst (AreBelow (codes "hg-git-tree")) (sym parents) (Each-append P fourth (parents_extra m.parents) (parts_below (codes "hg-git-tree") refl refl refl refl) (count_below m.parents))

    pub all_put : (sixth : List Extra) → sixth ≡ fifth ++ tree_extra m.tree → sixth ≡ extras_of m
    unfolding extras_of
    all_put sixth tree = tree ∙ ap (λ (es : List Extra). es ++ tree_extra m.tree) (parents ∙ ap (λ (es : List Extra). es ++ parents_extra m.parents) put_fourth)

-- extras are those of the marks of one commit at most
pub one_marks : (extras : List Extra) (m n : ChangesetMarks) → AreExtrasOf extras m → AreExtrasOf extras n → m ≡ n
one_marks extras m n h k = some_is {x = m} {y = n} (sym (ap marks_in_extras h.1 ∙ marks_in_extras-again m h.0) ∙ ap marks_in_extras k.1 ∙ marks_in_extras-again n k.0)
