-- What is known at each step of reading a commit.
use Rattle.std.proofs.Common.{◌≡◌, ◌≤◌, ◌+◌, ◌-◌, ◌==◌, ℕ, false, List, [], ◌∷◌, ◌++◌, length, Option, Some, None, codes, refl, sym, ap, subst, ◌∙◌, arith, length-append}
use Rattle.std.specs.Option.{option_and_then}
use Rattle.std.specs.List.{flat_map}
use Rattle.text_model.specs.Lists.{Each}
use Rattle.text_model.specs.Text.{Bytes, IsBytes, lf}
use Rattle.text_model.specs.Id.{Id, IsId, hex}
use Rattle.text_model.specs.Cuts.{cut_of}
use Rattle.text_model.proofs.ByteLemmas.{IsBytes-front, IsBytes-rest}
use Rattle.text_model.proofs.LackLemmas.{has_byte-lacks, Lacks-rest}
use Rattle.git_model.specs.Commit.{Commit, parent_line, next_place, commit_fault, IsLine, IsCommitText}
use Rattle.git_model.proofs.PlaceLemmas.{reached_start, reached_refused, next_at}
use Rattle.git_model.proofs.CommitLemmas.{At, at_parents, pass_parents, at_committer, at_headers, pass_headers, commit_lines, commit_text-lines}
use Rattle.git_object.specs.Lines.{id_line, worded_line, AreParents, IsCutAt, IsSplit}
use Rattle.git_object.proofs.LineLemmas.{HasLine, id_line-takes, id_line-none, worded_line-takes, worded_line-none}

-- where the first line doesn't fit
refuse : (content : Bytes) (place : ℕ) (rest : Bytes) → At content place rest → (place == 4) ≡ false
    → ((front after : Bytes) → cut_of lf rest ≡ Some (front, after) → next_place place front ≡ None) → commit_fault content ≡ Some (length content - length rest)
refuse content place rest so_far is_open bad = reached_refused next_place 4 content place rest so_far is_open (by (cut_of lf rest) refl)
  where
    by : (r : Option (Bytes × Bytes)) → cut_of lf rest ≡ r → next_at next_place 4 place rest ≡ None
    by None e = ap (option_and_then (λ (p : Bytes × Bytes). next_place place p.0)) e
    by (Some p) e = ap (option_and_then (λ (q : Bytes × Bytes). next_place place q.0)) e ∙ bad p.0 p.1 e

-- no line of a tree
pub no_tree : (content : Bytes) → None ≡ id_line (codes "tree ") content → commit_fault content ≡ Some 0
no_tree content none =
    let zeroth : length content - length content ≡ 0 = omega arith in
    refuse content 0 content (reached_start next_place 4 content) refl (λ front after cut. rw (id_line-none (codes "tree ") content front after (sym none) cut) refl)
    ∙ ap (λ (n : ℕ). Some n) zeroth

-- the line of the tree and the lines of the parents were read
pub record Fathered (content : Bytes) (tree : Id) (parents : List Id) (rest : Bytes) : Type 0 where
  pub tree_id : IsId tree
  pub each : Each IsId parents
  pub whole : content ≡ (codes "tree " ++ hex tree) ++ lf ∷ (flat_map parent_line parents ++ rest)
  pub place : At content 1 rest
  pub none : id_line (codes "parent ") rest ≡ None
  pub bytes : IsBytes rest
  pub within : length rest ≤ length content

pub fathered : (content : Bytes) (tree : Id) (mid : Bytes) (old parents : List Id) (rest : Bytes) → IsBytes content → Some (tree, mid) ≡ id_line (codes "tree ") content → old ≡ [] → AreParents mid old parents rest → Fathered content tree parents rest
fathered content tree mid old parents rest bytes read none are =
    let t = id_line-takes (codes "tree ") content tree mid (sym read) in
    let ids : parents ≡ are.ids = are.appended ∙ ap (λ (l : List Id). l ++ are.ids) none in
    let lines : mid ≡ flat_map parent_line parents ++ rest = are.whole ∙ ap (λ (l : List Id). flat_map parent_line l ++ rest) (sym ids) in
    let whole : content ≡ (codes "tree " ++ hex tree) ++ lf ∷ (flat_map parent_line parents ++ rest) = t.line.whole ∙ ap (λ (l : Bytes). (codes "tree " ++ hex tree) ++ lf ∷ l) lines in
    let each : Each IsId parents = subst (Each IsId) (sym ids) are.each in
    let first = at_parents content tree (flat_map parent_line parents ++ rest) (subst (At content 0) whole (reached_start next_place 4 content)) t.is in
    let place = pass_parents content parents rest each first in
    let left = (IsBytes-rest (codes "tree " ++ hex tree) (lf ∷ (flat_map parent_line parents ++ rest)) (subst IsBytes whole bytes)).1 in
    record {
      tree_id = t.is;
      each = each;
      whole = whole;
      place = place;
      none = are.last;
      bytes = IsBytes-rest (flat_map parent_line parents) rest left;
      within = place.within;
    }

pub no_author : (content : Bytes) (tree : Id) (parents : List Id) (rest : Bytes) → Fathered content tree parents rest → None ≡ worded_line (codes "author ") rest → commit_fault content ≡ Some (length content - length rest)
no_author content tree parents rest f none =
    refuse content 1 rest f.place refl (λ front after cut. rw (id_line-none (codes "parent ") rest front after f.none cut, worded_line-none (codes "author ") rest front after (sym none) cut) refl)

-- a line was read at a place
pub record Worded (content text word value rest : Bytes) (at : ℕ) : Type 0 where
  pub whole : text ≡ (word ++ value) ++ lf ∷ rest
  pub value_is : IsLine value
  pub place : At content at rest
  pub bytes : IsBytes rest
  pub within : length rest ≤ length content

-- the value of a line, and the rest
pub value_line : (text word value rest : Bytes) → HasLine text word value rest → IsBytes text → IsLine value × IsBytes rest
value_line text word value rest h bytes =
    let all : IsBytes ((word ++ value) ++ lf ∷ rest) = subst IsBytes h.whole bytes in
    ((IsBytes-rest word value (IsBytes-front (word ++ value) (lf ∷ rest) all), has_byte-lacks lf value (Lacks-rest lf word value h.lacks)), (IsBytes-rest (word ++ value) (lf ∷ rest) all).1)

pub authored : (content : Bytes) (tree : Id) (parents : List Id) (mid author rest : Bytes) → Fathered content tree parents mid → Some (author, rest) ≡ worded_line (codes "author ") mid → Worded content mid (codes "author ") author rest 2
authored content tree parents mid author rest f read =
    let h = worded_line-takes (codes "author ") mid author rest (sym read) in
    let v = value_line mid (codes "author ") author rest h f.bytes in
    let place = at_committer content author rest (subst (At content 1) h.whole f.place) h.lacks in
    record { whole = h.whole; value_is = v.0; place = place; bytes = v.1; within = place.within }

pub no_committer : (content mid author rest : Bytes) → Worded content mid (codes "author ") author rest 2 → None ≡ worded_line (codes "committer ") rest → commit_fault content ≡ Some (length content - length rest)
no_committer content mid author rest w none = refuse content 2 rest w.place refl (λ front after cut. rw (worded_line-none (codes "committer ") rest front after (sym none) cut) refl)

pub committed : (content text author mid committer rest : Bytes) → Worded content text (codes "author ") author mid 2 → Some (committer, rest) ≡ worded_line (codes "committer ") mid → Worded content mid (codes "committer ") committer rest 3
committed content text author mid committer rest w read =
    let h = worded_line-takes (codes "committer ") mid committer rest (sym read) in
    let v = value_line mid (codes "committer ") committer rest h w.bytes in
    let place = at_headers content committer rest (subst (At content 2) h.whole w.place) h.lacks in
    record { whole = h.whole; value_is = v.0; place = place; bytes = v.1; within = place.within }

-- a header line that lacks its LF
pub no_blank : (content mid committer rest : Bytes) (at : ℕ) → Worded content mid (codes "committer ") committer rest 3 → IsCutAt rest at → commit_fault content ≡ Some (length content - length rest + at)
no_blank content mid committer rest at w cut =
    let place = pass_headers content cut.headers cut.rest cut.are (subst (At content 3) cut.whole w.place) in
    let long = ap (λ (l : Bytes). length l) cut.whole ∙ length-append cut.headers cut.rest in
    let offset : length content - length cut.rest ≡ length content - length rest + at = omega (arith, long, cut.place, w.within) in
    refuse content 3 cut.rest place refl (λ front after is. absurd (nothing (front, after) (sym cut.cut ∙ is))) ∙ ap (λ (n : ℕ). Some n) offset
  where
    nothing : (p : Bytes × Bytes) → None ≡ Some p → ⊥
    nothing p h = cc

-- all of it was read
pub is_commit : (content : Bytes) (c : Commit) (mid rest last : Bytes) → Fathered content c.tree_id c.parents mid → Worded content mid (codes "author ") c.author rest 2
    → Worded content rest (codes "committer ") c.committer last 3 → IsSplit last c.headers c.message → IsCommitText content c
is_commit content c mid rest last f a k split =
    let lines : content ≡ commit_lines c =
    f.whole ∙ ap (λ (x : Bytes). (codes "tree " ++ hex c.tree_id) ++ lf ∷ (flat_map parent_line c.parents ++ x)) (a.whole ∙ ap (λ (x : Bytes). (codes "author " ++ c.author) ++ lf ∷ x) (k.whole ∙ ap (λ (x : Bytes). (codes "committer " ++ c.committer) ++ lf ∷ x) split.1)) in
    let tail : IsBytes (c.headers ++ lf ∷ c.message) = subst IsBytes split.1 k.bytes in (
      record {
        tree_id = f.tree_id;
        parents = f.each;
        author = a.value_is;
        committer = k.value_is;
        headers = split.0;
        message = (IsBytes-rest c.headers (lf ∷ c.message) tail).1;
      },
      lines ∙ sym (commit_text-lines c),
    )
