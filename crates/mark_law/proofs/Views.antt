-- The marked commit of a changeset is a view where the rule's is: its headers are nonempty lines. And it is longer than the rule's.
use Rattle.std.proofs.Common.{◌≡◌, ◌≢◌, ◌≤◌, false, List, [], ◌∷◌, ◌++◌, map, length, Some, None, refl, sym, ap, subst, arith}
use Rattle.std.specs.Prelude.{codes}
use Rattle.std.specs.List.{flat_map}
use Rattle.text_model.specs.Lists.{Each}
use Rattle.text_model.specs.Text.{Bytes, IsBytes, line, lf, has_byte, spaced}
use Rattle.text_model.specs.Id.{hex, commit}
use Rattle.text_model.specs.Escape.{escape}
use Rattle.text_model.proofs.ByteLemmas.{IsBytes-append}
use Rattle.text_model.proofs.EachLemmas.{Each-append, Each-front}
use Rattle.text_model.proofs.LackLemmas.{has_byte-lacks}
use Rattle.text_model.proofs.TextBytes.{escape-bytes, hex-bytes, small-bytes, spaced-bytes}
use Rattle.git_model.specs.Commit.{Commit, AreHeaders, commit_text, parent_line}
use Rattle.git_model.specs.Object.{Object, object_of}
use Rattle.git_model.specs.Shape.{shape_objects, shape_depth}
use Rattle.view_model.specs.View.{NoManifest, Over, ChangesetView, IsChangesetView, IsCommitView, CommitFits, commit_objects, leaf_of_row, text_limit, commit_limit}
use Rattle.pair_model.specs.Block.{Block}
use Rattle.pair_model.specs.Rule.{rule_commit}
use Rattle.pair_model.specs.MarkList.{Mark, Rename, File, Manifest, Files, User, Date, RawDate, OneExtra, mark_words, marks_text, IsMark}
use Rattle.partner_model.specs.Mark.{commit_marks, parents_of_changeset, mark_commit}
use Rattle.mark_law.proofs.TextFacts.{Lacks-spaced, IsBytes-decimal, signed-bytes}
use Rattle.mark_law.proofs.Marks.{lf_gap, lacks_words}
use Rattle.mark_law.proofs.MarkTypes.{marks_are}

-- ---- a mark is a line of bytes

paths-bytes : (paths : List Bytes) → Each IsBytes paths → Each IsBytes (map escape paths)
paths-bytes [] h = tt
paths-bytes (p ∷ ps) h = (escape-bytes p h.0, paths-bytes ps h.1)

words-bytes : (m : Mark) → IsMark m → Each IsBytes (mark_words m)
words-bytes (Rename path source) h = (small-bytes (codes "HG:rename") refl, (escape-bytes path h.0, (escape-bytes source h.1, tt)))
words-bytes (File path p q None) h = (small-bytes (codes "HG:file") refl, (escape-bytes path h.0, (hex-bytes p h.1, (hex-bytes q h.2, (small-bytes (codes "-") refl, tt)))))
words-bytes (File path p q (Some meta)) h = (small-bytes (codes "HG:file") refl, (escape-bytes path h.0, (hex-bytes p h.1, (hex-bytes q h.2, (IsBytes-append (codes "=") (escape meta) (small-bytes (codes "=") refl) (escape-bytes meta h.3), tt)))))
words-bytes (Manifest NoManifest) h = (small-bytes (codes "HG:manifest") refl, (small-bytes (codes "null") refl, tt))
words-bytes (Manifest (Over p q)) h = (small-bytes (codes "HG:manifest") refl, (hex-bytes p h.0, (hex-bytes q h.1, tt)))
words-bytes (Files paths) h = (small-bytes (codes "HG:files") refl, (IsBytes-decimal (length paths), paths-bytes paths h))
words-bytes (User user) h = (small-bytes (codes "HG:user") refl, (escape-bytes user h, tt))
words-bytes (Date time tz) h = (small-bytes (codes "HG:date") refl, (signed-bytes time, (signed-bytes tz, tt)))
words-bytes (RawDate text) h = (small-bytes (codes "HG:raw") refl, (escape-bytes text h, tt))
words-bytes (OneExtra e) h = (small-bytes (codes "HG:extra") refl, (escape-bytes e.key h.0, (escape-bytes e.value h.1, tt)))

some-line : (m : Mark) → spaced (mark_words m) ≢ []
some-line (Rename p q) = λ e. cc
some-line (File p q r m) = λ e. cc
some-line (Manifest m) = λ e. cc
some-line (Files ps) = λ e. cc
some-line (User u) = λ e. cc
some-line (Date t z) = λ e. cc
some-line (RawDate u) = λ e. cc
some-line (OneExtra x) = λ e. cc

-- ---- headers

lines-of : List Mark → List Bytes
lines-of ms = map (λ m. spaced (mark_words m)) ms

each-line : (ms : List Mark) → Each IsMark ms → Each (λ l. (l ≢ []) × (has_byte lf l ≡ false) × IsBytes l) (lines-of ms)
unfolding lines-of
each-line [] h = tt
each-line (m ∷ ms) h = (
  (some-line m, has_byte-lacks 10 (spaced (mark_words m)) (Lacks-spaced 10 (omega arith) (mark_words m) (lacks_words 10 lf_gap m h.0)), spaced-bytes (mark_words m) (words-bytes m h.0)),
  each-line ms h.1,
)

lines-are : (ms : List Mark) → marks_text ms ≡ flat_map line (lines-of ms)
unfolding lines-of marks_text
lines-are [] = refl
lines-are (m ∷ ms) = ap (λ (rest : Bytes). line (spaced (mark_words m)) ++ rest) (lines-are ms)

-- marks are headers of a commit
pub marks-headers : (ms : List Mark) → Each IsMark ms → AreHeaders (marks_text ms)
marks-headers ms h = record { lines = lines-of ms; each = each-line ms h; are = lines-are ms }

-- the marked commit is a view where the rule's is
pub marked_is_view : (blocks : List Block) (h : ChangesetView) → IsChangesetView h → IsCommitView (rule_commit blocks h) → IsCommitView (mark_commit blocks h)
unfolding mark_commit
marked_is_view blocks h v is = record {
  value = record {
    tree_id = is.value.tree_id;
    parents = is.value.parents;
    author = is.value.author;
    committer = is.value.committer;
    headers = marks-headers (commit_marks (parents_of_changeset blocks h) h) (marks_are (parents_of_changeset blocks h) h v);
    message = is.value.message;
  };
  few = is.few;
  distinct = is.distinct;
  rows = is.rows;
  in_order = is.in_order;
  no_clash = is.no_clash;
  agrees = is.agrees;
}

-- ---- limits

before : (front xs : Bytes) → length xs ≤ length (front ++ xs)
before [] xs = omega arith
before (b ∷ front) xs = let more = before front xs in omega (arith, more)

put-in : (front headers rest : Bytes) → length (front ++ [] ++ rest) ≤ length (front ++ headers ++ rest)
put-in [] headers rest = before headers rest
put-in (b ∷ front) headers rest = let more = put-in front headers rest in omega (arith, more)

-- the text of a commit is no longer without its headers
pub text-longer : (c : Commit) (headers : Bytes) → c.headers ≡ [] → length (commit_text c) ≤ length (commit_text (record c { headers = headers }))
unfolding commit_text
text-longer c headers none =
    let front = line (codes "tree " ++ hex c.tree_id) ++ flat_map parent_line c.parents ++ line (codes "author " ++ c.author) ++ line (codes "committer " ++ c.committer) in
    subst (λ (x : Bytes). length (front ++ x ++ lf ∷ c.message) ≤ length (front ++ headers ++ lf ∷ c.message)) (sym none) (put-in front headers (lf ∷ c.message))

-- what the marked commit keeps within its limits the rule's does
pub marked_fits : (blocks : List Block) (h : ChangesetView) → CommitFits (mark_commit blocks h) → CommitFits (rule_commit blocks h)
unfolding mark_commit rule_commit commit_objects
marked_fits blocks h fits =
    let c = rule_commit blocks h in
    let longer = text-longer c.value (marks_text (commit_marks (parents_of_changeset blocks h) h)) refl in
    let text : length (commit_text c.value) ≤ commit_limit = omega (arith, longer, fits.text) in
    record {
      text = text;
      objects = Each-append (λ (o : Object). length o.content ≤ text_limit) (shape_objects shape_depth (map leaf_of_row c.rows)) (object_of commit (commit_text c.value) ∷ [])
          (Each-front (λ (o : Object). length o.content ≤ text_limit) (shape_objects shape_depth (map leaf_of_row c.rows)) _ fits.objects) (omega (arith, text), tt);
      rows = fits.rows;
    }
