-- An unmarking that isn't plain is shorter; a plain member has no marks.
use Rattle.std.proofs.Common.{◌≡◌, ℕ, ◌+◌, ◌≤◌, ◌<◌, List, [], ◌∷◌, length, map, Option, Some, None, refl, sym, ap, ◌∙◌, inl, inr, ◌⊎◌, arith}
use Rattle.std.specs.Prelude.{if◌then◌else◌, codes, ℤ}
use Rattle.std.specs.List.{flat_map}
use Rattle.std.proofs.lemmas.Bool.{cases_eq}
use Rattle.text_model.specs.Text.{Bytes}
use Rattle.hg_model.specs.Changeset.{DateLine, Plain, Raw, Extra}
use Rattle.git_model.specs.Residue.{ResidueItem}
use Rattle.pair_model.specs.Block.{Block, Parents}
use Rattle.pair_model.specs.User.{UserDate, user_of_line}
use Rattle.view_model.specs.View.{ChangesetView, CommitView, SameCommit, SameChangeset}
use Rattle.pair_model.specs.MarkList.{Date, OneExtra, marks_text, ChangesetMarks, extra_of, parents_extra, tree_extra, extras_of}
use Rattle.partner_model.specs.Mark.{same_numbers, user_marks, files_marks, manifest_marks, entry_marks, date_marks, commit_marks, parents_of_changeset, mark_commit, changeset_marks, mark_changeset}
use Rattle.partner_model.specs.Partner.{Member, OfHg, OfGit, Unmarks, IsPlain}
use Rattle.partner_model.specs.Table.{IsTable}
use Rattle.partner_model.specs.Measure.{extras_size, date_size, size_of}
use Rattle.depth_law.proofs.Sizes.{extras_shorter, marks_append, headers_shorter, size_append}
use Rattle.mark_law.proofs.Sections.{turned, given_of, from_user, from_files, from_manifest}
use Rattle.unmark_law.proofs.Same.{same_changeset, same_commit}
use Rattle.unmark_law.proofs.CommitOne.{headers_are}
use Rattle.unmark_law.proofs.ChangesetOne.{marks_in, date_is}
use Rattle.depth_law.proofs.PlainCommit.{commit_is_plain}
use Rattle.depth_law.proofs.PlainChangeset.{changeset_is_plain}

abbrev extra_count : DateLine → ℕ
extra_count (Plain t z es) = length es
extra_count (Raw text) = 0

date_longer : (d : DateLine) (given : UserDate) → date_size d + extra_count d ≤ length (marks_text (date_marks d given))
date_longer (Plain t z es) given =
    let a = marks_append (if same_numbers t z given then [] else Date t z ∷ []) (map OneExtra es) in
    let b = extras_shorter es in
    omega (arith, a, b)
date_longer (Raw text) given = omega arith

-- the headers are longer than the extras
pub headers_longer : (ps : Parents) (h : ChangesetView) → date_size (h.fields).date + extra_count (h.fields).date ≤ length (marks_text (commit_marks ps h))
headers_longer ps h =
    let given = given_of h in
    let d = date_longer (h.fields).date given in
    let a = marks_append (flat_map (entry_marks ps) h.rows) (from_manifest ps given h) in
    let b = marks_append (manifest_marks ps h) (from_files ps given h) in
    let c = marks_append (files_marks ps h) (from_user given h) in
    let e = marks_append (user_marks (h.fields).user given) (date_marks (h.fields).date given) in
    let t = ap (λ x. length (marks_text x)) (turned ps given h refl) in
    omega (arith, d, a, b, c, e, t)

marked_longer : (blocks : List Block) (h : ChangesetView) (c : CommitView) → SameCommit (mark_commit blocks h) c → date_size (h.fields).date + extra_count (h.fields).date ≤ length (c.value).headers
marked_longer blocks h c s =
    let e = ap (λ (x : List ℕ). length x) (sym (headers_are blocks h) ∙ ap (λ x. x.headers) s.value) in
    omega (arith, headers_longer (parents_of_changeset blocks h) h, e)

-- ---- the extras of a marked changeset

dates : (blocks : List Block) (h : ChangesetView) (c : CommitView) → SameChangeset (mark_changeset blocks c) h → (h.fields).date ≡ Plain (user_of_line (c.value).author).time (user_of_line (c.value).author).tz (extras_of (marks_in blocks c))
dates blocks h c s = sym (ap (λ x. x.date) s.fields) ∙ date_is blocks c

headers_marked : (blocks : List Block) (c : CommitView) (x : ℕ) (xs : Bytes) → (c.value).headers ≡ x ∷ xs → (marks_in blocks c).headers ≡ Some (c.value).headers
unfolding changeset_marks
headers_marked blocks c x xs e = rw e refl

-- where the commit has headers, the extras are longer
changeset_longer : (blocks : List Block) (h : ChangesetView) (c : CommitView) (x : ℕ) (xs : Bytes) → SameChangeset (mark_changeset blocks c) h → (c.value).headers ≡ x ∷ xs → length (c.value).headers + 14 ≤ date_size (h.fields).date
changeset_longer blocks h c x xs s e =
    let a = headers_shorter (marks_in blocks c) (c.value).headers (headers_marked blocks c x xs e) in
    let b = ap date_size (dates blocks h c s) in
    omega (arith, a, b)

part_size : (key : Bytes) (part : Option Bytes) → 0 < length key → extras_size (extra_of key part) ≡ 0 → extra_of key part ≡ []
part_size key None l e = refl
part_size key (Some v) l e = absurd (omega arith)

parents_size : (n : Option ℕ) → extras_size (parents_extra n) ≡ 0 → parents_extra n ≡ []
parents_size None e = refl
parents_size (Some n) e = absurd (omega arith)

tree_size : (o : Option (List ResidueItem)) → extras_size (tree_extra o) ≡ 0 → tree_extra o ≡ []
tree_size None e = refl
tree_size (Some items) e = absurd (omega arith)

-- extras of no length are none
none_sized : (m : ChangesetMarks) → extras_size (extras_of m) ≡ 0 → extras_of m ≡ []
unfolding extras_of
none_sized m e =
    let f = simp size_append at e in
    let a = part_size (codes "hg-git-author") m.author (omega arith) (omega arith) in
    let b = part_size (codes "hg-git-committer") m.committer (omega arith) (omega arith) in
    let c = part_size (codes "hg-git-headers") m.headers (omega arith) (omega arith) in
    let d = part_size (codes "hg-git-message") m.message (omega arith) (omega arith) in
    let g = parents_size m.parents (omega arith) in
    let i = tree_size m.tree (omega arith) in
    rw (a, b, c, d, g, i) refl

-- ---- a member without an unmarking's marks

-- a member has no marks: no headers, no extras
abbrev pub IsBare : Member → Type 0
IsBare (OfGit c) = (c.value).headers ≡ []
IsBare (OfHg h) = (time : ℤ) × (tz : ℤ) × ((h.fields).date ≡ Plain time tz [])

pub bare_is_plain : (blocks : List Block) (Known : ChangesetView → Type 0) → IsTable blocks → (m k : Member) → Unmarks blocks Known m k → IsBare m → IsPlain blocks m
bare_is_plain blocks Known t (OfGit c) (OfHg h) u b = commit_is_plain blocks t c h u b
bare_is_plain blocks Known t (OfGit c) (OfGit d) u b = absurd u
bare_is_plain blocks Known t (OfHg h) (OfGit c) u b = changeset_is_plain blocks Known t h c b.0 b.1 u b.2
bare_is_plain blocks Known t (OfHg h) (OfHg k) u b = absurd u

cons_or_nil : {X : Type 0} (xs : List X) → (xs ≡ []) ⊎ ((x : X) × (ys : List X) × (xs ≡ x ∷ ys))
cons_or_nil [] = inl refl
cons_or_nil (x ∷ xs) = inr (x, xs, refl)

-- a changeset whose marked commit has no headers, itself marked, has no extras
no_extras_from : (blocks : List Block) (h : ChangesetView) (c d : CommitView) → SameChangeset (mark_changeset blocks c) h → SameCommit (mark_commit blocks h) d → (d.value).headers ≡ [] → IsBare (OfHg h)
no_extras_from blocks h c d s r none = by (cons_or_nil (extras_of (marks_in blocks c)))
  where
    by : (extras_of (marks_in blocks c) ≡ []) ⊎ ((x : Extra) × (ys : List Extra) × (extras_of (marks_in blocks c) ≡ x ∷ ys)) → IsBare (OfHg h)
    by (inl e) = ((user_of_line (c.value).author).time, (user_of_line (c.value).author).tz, dates blocks h c s ∙ ap (λ x. Plain (user_of_line (c.value).author).time (user_of_line (c.value).author).tz x) e)
    by (inr y) =
        let a = marked_longer blocks h d r in
        let b = ap extra_count (dates blocks h c s) in
        let l = ap (λ (x : List Extra). length x) y.2 in
        let n = ap (λ (x : List ℕ). length x) none in
        absurd (omega (arith, a, b, l, n))

-- where the marked changeset of c is h and the marked commit of h is d, with the headers of c, neither has a mark
no_headers_from : (blocks : List Block) (h : ChangesetView) (c d : CommitView) → SameChangeset (mark_changeset blocks c) h → SameCommit (mark_commit blocks h) d → (c.value).headers ≡ (d.value).headers → (c.value).headers ≡ []
no_headers_from blocks h c d s r same = by (cons_or_nil (c.value).headers)
  where
    by : ((c.value).headers ≡ []) ⊎ ((x : ℕ) × (ys : List ℕ) × ((c.value).headers ≡ x ∷ ys)) → (c.value).headers ≡ []
    by (inl e) = e
    by (inr y) =
        let a = changeset_longer blocks h c y.0 y.1 s y.2 in
        let b = marked_longer blocks h d r in
        let l = ap (λ (x : List ℕ). length x) same in
        absurd (omega (arith, a, b, l))

pub plain_is_bare : (blocks : List Block) (m : Member) → IsPlain blocks m → IsBare m
plain_is_bare blocks (OfGit c) p = no_headers_from blocks (mark_changeset blocks c) c c (same_changeset (mark_changeset blocks c)) p.1 refl
plain_is_bare blocks (OfHg h) p =
    let c = mark_commit blocks h in
    no_extras_from blocks h c c p.1 (same_commit c) (no_headers_from blocks h c c p.1 (same_commit c) refl)

-- ---- the measure

short_commit : (blocks : List Block) (c : CommitView) (h : ChangesetView) → SameCommit (mark_commit blocks h) c → (¬ (IsBare (OfGit c))) → date_size (h.fields).date < length (c.value).headers
short_commit blocks c h s n = by (h.fields).date refl (cons_or_nil (c.value).headers)
  where
    by : (d : DateLine) → (h.fields).date ≡ d → ((c.value).headers ≡ []) ⊎ ((x : ℕ) × (ys : List ℕ) × ((c.value).headers ≡ x ∷ ys)) → date_size (h.fields).date < length (c.value).headers
    by d e (inl g) = absurd (n g)
    by (Raw text) e (inr y) = omega (arith, ap date_size e, ap (λ (x : List ℕ). length x) y.2)
    by (Plain t z []) e (inr y) = omega (arith, ap date_size e, ap (λ (x : List ℕ). length x) y.2)
    by (Plain t z (x ∷ xs)) e (inr y) = omega (arith, marked_longer blocks h c s, ap extra_count e)

short_changeset : (blocks : List Block) (h : ChangesetView) (c : CommitView) → SameChangeset (mark_changeset blocks c) h → (¬ (IsBare (OfHg h))) → length (c.value).headers < date_size (h.fields).date
short_changeset blocks h c s n = by (cons_or_nil (c.value).headers) (cases_eq (date_size (h.fields).date) 0)
  where
    by : ((c.value).headers ≡ []) ⊎ ((x : ℕ) × (ys : List ℕ) × ((c.value).headers ≡ x ∷ ys)) → (date_size (h.fields).date ≡ 0) ⊎ (date_size (h.fields).date ≡ 0 → ⊥) → length (c.value).headers < date_size (h.fields).date
    by (inr y) w = omega (arith, changeset_longer blocks h c y.0 y.1 s y.2)
    by (inl e) (inr z) = omega (arith, ap (λ (x : List ℕ). length x) e, z)
    by (inl e) (inl z) =
        let none = none_sized (marks_in blocks c) (sym (ap date_size (dates blocks h c s)) ∙ z) in
        absurd (n ((user_of_line (c.value).author).time, (user_of_line (c.value).author).tz, dates blocks h c s ∙ ap (λ x. Plain (user_of_line (c.value).author).time (user_of_line (c.value).author).tz x) none))

-- the unmarking of a member that isn't plain is shorter
pub falls : (blocks : List Block) (Known : ChangesetView → Type 0) → IsTable blocks → (m k : Member) → Unmarks blocks Known m k → (¬ (IsPlain blocks m)) → size_of k < size_of m
falls blocks Known t (OfGit c) (OfHg h) u n = short_commit blocks c h u.marked (λ b. n (commit_is_plain blocks t c h u b))
falls blocks Known t (OfGit c) (OfGit d) u n = absurd u
falls blocks Known t (OfHg h) (OfGit c) u n = short_changeset blocks h c u.marked (λ b. n (changeset_is_plain blocks Known t h c b.0 b.1 u b.2))
falls blocks Known t (OfHg h) (OfHg k) u n = absurd u

-- and isn't plain
pub plain_down : (blocks : List Block) (Known : ChangesetView → Type 0) → IsTable blocks → (m k : Member) → Unmarks blocks Known m k → IsPlain blocks k → IsPlain blocks m
plain_down blocks Known t (OfGit c) (OfHg h) u p =
    let d = mark_commit blocks h in
    let none = no_headers_from blocks h d d p.1 (same_commit d) refl in
    commit_is_plain blocks t c h u (sym (ap (λ x. x.headers) (u.marked).value) ∙ none)
plain_down blocks Known t (OfGit c) (OfGit d) u p = absurd u
plain_down blocks Known t (OfHg h) (OfGit c) u p =
    let k = mark_changeset blocks c in
    let none = plain_is_bare blocks (OfGit c) p in
    let b = no_extras_from blocks k c c (same_changeset k) p.1 none in
    changeset_is_plain blocks Known t h c b.0 b.1 u (sym (ap (λ x. x.date) (u.marked).fields) ∙ b.2)
plain_down blocks Known t (OfHg h) (OfHg k) u p = absurd u
