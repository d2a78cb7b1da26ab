-- The content of a commit, line by line.
use Rattle.std.proofs.Common.{◌≡◌, ◌≢◌, ℕ, false, List, [], ◌∷◌, ◌++◌, length, take, drop, None, codes, refl, ap, subst, ◌∙◌, arith, append_assoc}
use Rattle.std.specs.List.{flat_map}
use Rattle.std.proofs.lemmas.List.{take_at}
use Rattle.text_model.specs.Lists.{Each}
use Rattle.text_model.specs.Text.{Bytes, IsBytes, lf, line, has_byte, whole_lines}
use Rattle.text_model.specs.Id.{Id, IsId, hex, bytes_of_digits}
use Rattle.text_model.specs.Cuts.{Lacks}
use Rattle.text_model.proofs.TestLemmas.{differs}
use Rattle.text_model.proofs.LackLemmas.{Lacks-by_test, Lacks-append}
use Rattle.text_model.proofs.HexLemmas.{length-hex, hex-lacks}
use Rattle.text_model.proofs.LineLemmas.{whole_lines-line}
use Rattle.git_model.specs.Commit.{Commit, commit_text, parent_line, AreHeaders, IsCommitText, next_place, commit_fault, leading_parents, parent_ids}
use Rattle.git_model.proofs.PlaceLemmas.{Reached, reached_start, reached_line, reached_end}
use Rattle.git_model.proofs.WordLemmas.{is_id_line-hex, bytes_of_digits-hex}

-- what the definition says of the content is what it says of the rest at this place
abbrev pub At : Bytes → ℕ → Bytes → Type 0
At content place rest = Reached next_place 4 content place rest

abbrev Header : Bytes → Type 0
Header l = (l ≢ []) × (has_byte lf l ≡ false) × IsBytes l

pub id_line-lacks : (word : Bytes) (id : Id) → has_byte lf word ≡ false → IsId id → Lacks lf (word ++ hex id)
id_line-lacks word id h is = Lacks-append lf word (hex id) (Lacks-by_test lf word h) (hex-lacks lf id (omega arith) is.1)

pub word-lacks : (word value : Bytes) → has_byte lf word ≡ false → Lacks lf value → Lacks lf (word ++ value)
word-lacks word value h l = Lacks-append lf word value (Lacks-by_test lf word h) l

-- a line before other text
pub line-then : (text before after : Bytes) → (line text ++ before) ++ after ≡ text ++ lf ∷ (before ++ after)
line-then text before after = append_assoc (line text) before after ∙ append_assoc text (lf ∷ []) (before ++ after)

-- ---- from place to place

pub at_parents : (content : Bytes) (id : Id) (rest : Bytes) → At content 0 ((codes "tree " ++ hex id) ++ lf ∷ rest) → IsId id → At content 1 rest
at_parents content id rest so_far is =
    reached_line next_place 4 content 0 1 (codes "tree " ++ hex id) rest so_far refl (id_line-lacks (codes "tree ") id refl is) (rw (is_id_line-hex (codes "tree ") id is) refl)

pub pass_parents : (content : Bytes) (ids : List Id) (rest : Bytes) → Each IsId ids → At content 1 (flat_map parent_line ids ++ rest) → At content 1 rest
pass_parents content [] rest are so_far = so_far
pass_parents content (id ∷ ids) rest are so_far =
    pass_parents content ids rest are.1 (
    reached_line next_place 4 content 1 1 (codes "parent " ++ hex id) (flat_map parent_line ids ++ rest)
    (subst (At content 1) (line-then (codes "parent " ++ hex id) (flat_map parent_line ids) rest) so_far)
    refl (id_line-lacks (codes "parent ") id refl are.0) (rw (is_id_line-hex (codes "parent ") id are.0) refl))

pub at_committer : (content author rest : Bytes) → At content 1 ((codes "author " ++ author) ++ lf ∷ rest) → Lacks lf (codes "author " ++ author) → At content 2 rest
at_committer content author rest so_far lacks = reached_line next_place 4 content 1 2 (codes "author " ++ author) rest so_far refl lacks refl

pub at_headers : (content committer rest : Bytes) → At content 2 ((codes "committer " ++ committer) ++ lf ∷ rest) → Lacks lf (codes "committer " ++ committer) → At content 3 rest
at_headers content committer rest so_far lacks = reached_line next_place 4 content 2 3 (codes "committer " ++ committer) rest so_far refl lacks refl

pass_lines : (content : Bytes) (lines : List Bytes) (rest : Bytes) → Each Header lines → At content 3 (flat_map line lines ++ rest) → At content 3 rest
pass_lines content [] rest are so_far = so_far
pass_lines content ([] ∷ lines) rest are so_far = absurd (are.0.0 refl)
pass_lines content ((b ∷ bytes) ∷ lines) rest are so_far =
    pass_lines content lines rest are.1 (
    reached_line next_place 4 content 3 3 (b ∷ bytes) (flat_map line lines ++ rest)
    (subst (At content 3) (line-then (b ∷ bytes) (flat_map line lines) rest) so_far)
    refl (Lacks-by_test lf (b ∷ bytes) are.0.1) (rw (differs (length (b ∷ bytes)) 0 (λ z. absurd (omega (arith, z)))) refl))

pub pass_headers : (content headers rest : Bytes) → AreHeaders headers → At content 3 (headers ++ rest) → At content 3 rest
pass_headers content headers rest are so_far = pass_lines content are.lines rest are.each (subst (λ (h : Bytes). At content 3 (h ++ rest)) are.are so_far)

pub at_message : (content message : Bytes) → At content 3 (lf ∷ message) → At content 4 message
at_message content message so_far = reached_line next_place 4 content 3 4 [] message so_far refl tt refl

-- ---- the content of a commit fits

-- the content in the order in which it is read
abbrev pub commit_lines : Commit → Bytes
commit_lines c = (codes "tree " ++ hex c.tree_id) ++ lf ∷ (flat_map parent_line c.parents ++ ((codes "author " ++ c.author) ++ lf ∷ ((codes "committer " ++ c.committer) ++ lf ∷ (c.headers ++ lf ∷ c.message))))

regroup : (t p a k h m : Bytes) → line t ++ p ++ line a ++ line k ++ h ++ lf ∷ m ≡ t ++ lf ∷ (p ++ (a ++ lf ∷ (k ++ lf ∷ (h ++ lf ∷ m))))
regroup t p a k h m =
    append_assoc (((line t ++ p) ++ line a) ++ line k) h (lf ∷ m)
    ∙ append_assoc ((line t ++ p) ++ line a) (line k) (h ++ lf ∷ m)
    ∙ append_assoc (line t ++ p) (line a) (line k ++ (h ++ lf ∷ m))
    ∙ line-then t p (line a ++ (line k ++ (h ++ lf ∷ m)))
    ∙ ap (λ (x : Bytes). t ++ lf ∷ (p ++ x)) (append_assoc a (lf ∷ []) (line k ++ (h ++ lf ∷ m)) ∙ ap (λ (x : Bytes). a ++ lf ∷ x) (append_assoc k (lf ∷ []) (h ++ lf ∷ m)))

pub commit_text-lines : (c : Commit) → commit_text c ≡ commit_lines c
unfolding commit_text
commit_text-lines c = regroup (codes "tree " ++ hex c.tree_id) (flat_map parent_line c.parents) (codes "author " ++ c.author) (codes "committer " ++ c.committer) c.headers c.message

pub commit_fault-text : (content : Bytes) (c : Commit) → IsCommitText content c → commit_fault content ≡ None
commit_fault-text content c is =
    let whole : content ≡ commit_lines c = is.1 ∙ commit_text-lines c in
    let start = subst (At content 0) whole (reached_start next_place 4 content) in
    let first = at_parents content c.tree_id _ start is.0.tree_id in
    let second = pass_parents content c.parents _ is.0.parents first in
    let third = at_committer content c.author _ second (word-lacks (codes "author ") c.author refl (Lacks-by_test lf c.author is.0.author.1)) in
    let fourth = at_headers content c.committer _ third (word-lacks (codes "committer ") c.committer refl (Lacks-by_test lf c.committer is.0.committer.1)) in
    let fifth = pass_headers content c.headers (lf ∷ c.message) is.0.headers fourth in
    reached_end next_place 4 content c.message (at_message content c.message fifth)

-- ---- the parents

parents_in : (ids : List Id) (rest : Bytes) → Each IsId ids → leading_parents (whole_lines rest) ≡ [] → leading_parents (whole_lines (flat_map parent_line ids ++ rest)) ≡ ids
parents_in [] rest are none = none
parents_in (id ∷ ids) rest are none =
    let whole = line-then (codes "parent " ++ hex id) (flat_map parent_line ids) rest in
    let lines = ap whole_lines whole ∙ whole_lines-line (codes "parent " ++ hex id) (flat_map parent_line ids ++ rest) (id_line-lacks (codes "parent ") id refl are.0) in
    let digits : take 40 (hex id ++ lf ∷ []) ≡ hex id = take_at (hex id) (lf ∷ []) 40 (omega (arith, length-hex id, are.0.0)) in
    ap leading_parents lines ∙ (λ i. (ap bytes_of_digits digits ∙ bytes_of_digits-hex id are.0) i ∷ parents_in ids rest are.1 none i)

no_parent : (author rest : Bytes) → Lacks lf (codes "author " ++ author) → leading_parents (whole_lines ((codes "author " ++ author) ++ lf ∷ rest)) ≡ []
no_parent author rest lacks = ap leading_parents (whole_lines-line (codes "author " ++ author) rest lacks)

pub parent_ids-text : (content : Bytes) (c : Commit) → IsCommitText content c → parent_ids content ≡ c.parents
parent_ids-text content c is =
    let whole : content ≡ commit_lines c = is.1 ∙ commit_text-lines c in
    let behind : Bytes = (codes "author " ++ c.author) ++ lf ∷ ((codes "committer " ++ c.committer) ++ lf ∷ (c.headers ++ lf ∷ c.message)) in
    let none = no_parent c.author ((codes "committer " ++ c.committer) ++ lf ∷ (c.headers ++ lf ∷ c.message)) (word-lacks (codes "author ") c.author refl (Lacks-by_test lf c.author is.0.author.1)) in
    ap parent_ids whole
    ∙ ap (λ (lines : List Bytes). leading_parents (drop 1 lines)) (whole_lines-line (codes "tree " ++ hex c.tree_id) (flat_map parent_line c.parents ++ behind) (id_line-lacks (codes "tree ") c.tree_id refl is.0.tree_id))
    ∙ parents_in c.parents behind is.0.parents none
