-- A content is that of one commit or tag at most.
use Rattle.std.proofs.Common.{◌≡◌, ◌≢◌, false, List, [], ◌∷◌, ◌++◌, length, drop, codes, refl, sym, ap, ◌∙◌}
use Rattle.std.specs.List.{flat_map}
use Rattle.std.proofs.lemmas.List.{drop_at}
use Rattle.text_model.specs.Lists.{Each}
use Rattle.text_model.specs.Text.{Bytes, IsBytes, lf, line, has_byte}
use Rattle.text_model.specs.Id.{Id, IsId, hex}
use Rattle.text_model.specs.Cuts.{Lacks, cut_of}
use Rattle.text_model.proofs.CutLemmas.{cut_of-at}
use Rattle.text_model.proofs.LackLemmas.{Lacks-by_test}
use Rattle.text_model.proofs.HexLemmas.{hex-injective}
use Rattle.text_model.proofs.Options.{some_is}
use Rattle.git_model.specs.Commit.{Commit, parent_line, AreHeaders, IsCommitText}
use Rattle.git_model.proofs.CommitLemmas.{id_line-lacks, word-lacks, line-then, commit_lines, commit_text-lines, parent_ids-text}

-- two texts whose first lines are cut off are equal part by part
pub record SameCut (front rest other_front other_rest : Bytes) : Type 0 where
  pub front_is : front ≡ other_front
  pub rest_is : rest ≡ other_rest

pub same_cut : (f r g s : Bytes) → Lacks lf f → Lacks lf g → f ++ lf ∷ r ≡ g ++ lf ∷ s → SameCut f r g s
same_cut f r g s lf_f lf_g e =
    let is : (f, r) ≡ (g, s) = some_is (sym (cut_of-at lf f r lf_f) ∙ ap (cut_of lf) e ∙ cut_of-at lf g s lf_g) in
    record { front_is = ap (λ (p : Bytes × Bytes). p.0) is; rest_is = ap (λ (p : Bytes × Bytes). p.1) is }

-- what stands behind the same front
pub behind_front : (front a b : Bytes) → front ++ a ≡ front ++ b → a ≡ b
behind_front front a b e = sym (drop_at front a (length front) refl) ∙ ap (drop (length front)) e ∙ drop_at front b (length front) refl

abbrev Header : Bytes → Type 0
Header l = (l ≢ []) × (has_byte lf l ≡ false) × IsBytes l

same_lines : (xs ys : List Bytes) (m n : Bytes) → Each Header xs → Each Header ys → flat_map line xs ++ lf ∷ m ≡ flat_map line ys ++ lf ∷ n → SameCut (flat_map line xs) m (flat_map line ys) n
same_lines [] [] m n hx hy e = record { front_is = refl; rest_is = ap (drop 1) e }
same_lines [] (y ∷ ys) m n hx hy e =
    let cut = same_cut [] m y (flat_map line ys ++ lf ∷ n) tt (Lacks-by_test lf y hy.0.1) (e ∙ line-then y (flat_map line ys) (lf ∷ n)) in
    absurd (hy.0.0 (sym cut.front_is))
same_lines (x ∷ xs) [] m n hx hy e =
    let cut = same_cut x (flat_map line xs ++ lf ∷ m) [] n (Lacks-by_test lf x hx.0.1) tt (sym (line-then x (flat_map line xs) (lf ∷ m)) ∙ e) in
    absurd (hx.0.0 cut.front_is)
same_lines (x ∷ xs) (y ∷ ys) m n hx hy e =
    let cut = same_cut x (flat_map line xs ++ lf ∷ m) y (flat_map line ys ++ lf ∷ n) (Lacks-by_test lf x hx.0.1) (Lacks-by_test lf y hy.0.1) (sym (line-then x (flat_map line xs) (lf ∷ m)) ∙ e ∙ line-then y (flat_map line ys) (lf ∷ n)) in
    let others = same_lines xs ys m n hx.1 hy.1 cut.rest_is in
    record { front_is = λ i. line (cut.front_is i) ++ others.front_is i; rest_is = others.rest_is }

same_headers : (h k m n : Bytes) → AreHeaders h → AreHeaders k → h ++ lf ∷ m ≡ k ++ lf ∷ n → SameCut h m k n
same_headers h k m n are are_too e =
    let same = same_lines are.lines are_too.lines m n are.each are_too.each (λ i. (ap (λ (l : Bytes). l ++ lf ∷ m) (sym are.are) ∙ e ∙ ap (λ (l : Bytes). l ++ lf ∷ n) are_too.are) i) in
    record { front_is = are.are ∙ same.front_is ∙ sym are_too.are; rest_is = same.rest_is }

pub same_id : (word : Bytes) (id other : Id) → IsId id → IsId other → word ++ hex id ≡ word ++ hex other → id ≡ other
same_id word id other is os e = hex-injective id other is os (behind_front word (hex id) (hex other) e)

pub one_commit : (content : Bytes) (c d : Commit) → IsCommitText content c → IsCommitText content d → c ≡ d
one_commit content c d ic id =
    let whole : commit_lines c ≡ commit_lines d = sym (ic.1 ∙ commit_text-lines c) ∙ id.1 ∙ commit_text-lines d in
    let tree = same_cut (codes "tree " ++ hex c.tree_id) _ (codes "tree " ++ hex d.tree_id) _ (id_line-lacks (codes "tree ") c.tree_id refl ic.0.tree_id) (id_line-lacks (codes "tree ") d.tree_id refl id.0.tree_id) whole in
    let parents : c.parents ≡ d.parents = sym (parent_ids-text content c ic) ∙ parent_ids-text content d id in
    let behind = behind_front (flat_map parent_line c.parents) _ _ (tree.rest_is ∙ ap (λ (ids : List Id). flat_map parent_line ids ++ ((codes "author " ++ d.author) ++ lf ∷ ((codes "committer " ++ d.committer) ++ lf ∷ (d.headers ++ lf ∷ d.message)))) (sym parents)) in
    let author = same_cut (codes "author " ++ c.author) _ (codes "author " ++ d.author) _ (word-lacks (codes "author ") c.author refl (Lacks-by_test lf c.author ic.0.author.1)) (word-lacks (codes "author ") d.author refl (Lacks-by_test lf d.author id.0.author.1)) behind in
    let committer = same_cut (codes "committer " ++ c.committer) _ (codes "committer " ++ d.committer) _ (word-lacks (codes "committer ") c.committer refl (Lacks-by_test lf c.committer ic.0.committer.1)) (word-lacks (codes "committer ") d.committer refl (Lacks-by_test lf d.committer id.0.committer.1)) author.rest_is in
    let last = same_headers c.headers d.headers c.message d.message ic.0.headers id.0.headers committer.rest_is in
    let tree_is = same_id (codes "tree ") c.tree_id d.tree_id ic.0.tree_id id.0.tree_id tree.front_is in
    let author_is = behind_front (codes "author ") c.author d.author author.front_is in
    let committer_is = behind_front (codes "committer ") c.committer d.committer committer.front_is in
    λ i. record { tree_id = tree_is i; parents = parents i; author = author_is i; committer = committer_is i; headers = last.front_is i; message = last.rest_is i }
