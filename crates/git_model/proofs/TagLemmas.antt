-- The content of a tag, line by line.
use Rattle.std.proofs.Common.{◌≡◌, ◌==◌, ℕ, true, [], ◌∷◌, ◌++◌, length, drop, None, codes, refl, sym, ap, subst, ◌∙◌, arith, append_assoc, length-append}
use Rattle.std.specs.Prelude.{slice_index}
use Rattle.std.specs.List.{starts_with}
use Rattle.std.proofs.lemmas.List.{take_at, drop_at}
use Rattle.text_model.specs.Text.{Bytes, lf, line}
use Rattle.text_model.specs.Id.{Id, IsId, hex, bytes_of_digits, ObjectKind, blob, tree, commit, tag, kind_word}
use Rattle.text_model.specs.Cuts.{Lacks}
use Rattle.text_model.proofs.LackLemmas.{Lacks-by_test}
use Rattle.text_model.proofs.HexLemmas.{length-hex}
use Rattle.git_model.specs.Commit.{Tag, tag_text, IsTagText, is_type_line, next_tag_place, tag_fault, tag_target, is_tag_of}
use Rattle.git_model.proofs.PlaceLemmas.{Reached, reached_start, reached_line, reached_end}
use Rattle.git_model.proofs.WordLemmas.{is_id_line-hex, begins-word, bytes_of_digits-hex}
use Rattle.git_model.proofs.CommitLemmas.{id_line-lacks, word-lacks}
use Rattle.git_model.proofs.OneTextLemmas.{same_cut, behind_front, same_id}

-- what the definition says of the content is what it says of the rest at this place
abbrev pub TagAt : Bytes → ℕ → Bytes → Type 0
TagAt content place rest = Reached next_tag_place 3 content place rest

pub is_type_line-kind : (kind : ObjectKind) → is_type_line (codes "type " ++ kind_word kind) ≡ true
is_type_line-kind blob = refl
is_type_line-kind tree = refl
is_type_line-kind commit = refl
is_type_line-kind tag = refl

pub type_line-lacks : (kind : ObjectKind) → Lacks lf (codes "type " ++ kind_word kind)
type_line-lacks blob = Lacks-by_test lf (codes "type blob") refl
type_line-lacks tree = Lacks-by_test lf (codes "type tree") refl
type_line-lacks commit = Lacks-by_test lf (codes "type commit") refl
type_line-lacks tag = Lacks-by_test lf (codes "type tag") refl

pub at_type : (content : Bytes) (id : Id) (rest : Bytes) → TagAt content 0 ((codes "object " ++ hex id) ++ lf ∷ rest) → IsId id → TagAt content 1 rest
at_type content id rest so_far is =
    reached_line next_tag_place 3 content 0 1 (codes "object " ++ hex id) rest so_far refl (id_line-lacks (codes "object ") id refl is) (rw (is_id_line-hex (codes "object ") id is) refl)

pub at_name : (content : Bytes) (kind : ObjectKind) (rest : Bytes) → TagAt content 1 ((codes "type " ++ kind_word kind) ++ lf ∷ rest) → TagAt content 2 rest
at_name content kind rest so_far = reached_line next_tag_place 3 content 1 2 (codes "type " ++ kind_word kind) rest so_far refl (type_line-lacks kind) (rw (is_type_line-kind kind) refl)

pub at_rest : (content name rest : Bytes) → TagAt content 2 ((codes "tag " ++ name) ++ lf ∷ rest) → Lacks lf (codes "tag " ++ name) → TagAt content 3 rest
at_rest content name rest so_far lacks = reached_line next_tag_place 3 content 2 3 (codes "tag " ++ name) rest so_far refl lacks refl

-- the content in the order in which it is read
abbrev pub tag_lines : Tag → Bytes
tag_lines t = (codes "object " ++ hex t.target) ++ lf ∷ ((codes "type " ++ kind_word t.target_kind) ++ lf ∷ ((codes "tag " ++ t.name) ++ lf ∷ t.rest))

regroup : (a b c d : Bytes) → line a ++ line b ++ line c ++ d ≡ a ++ lf ∷ (b ++ lf ∷ (c ++ lf ∷ d))
regroup a b c d =
    append_assoc (line a ++ line b) (line c) d ∙ append_assoc (line a) (line b) (line c ++ d) ∙ append_assoc a (lf ∷ []) (line b ++ (line c ++ d))
    ∙ ap (λ (x : Bytes). a ++ lf ∷ x) (append_assoc b (lf ∷ []) (line c ++ d) ∙ ap (λ (x : Bytes). b ++ lf ∷ x) (append_assoc c (lf ∷ []) d))

pub tag_text-lines : (t : Tag) → tag_text t ≡ tag_lines t
unfolding tag_text
tag_text-lines t = regroup (codes "object " ++ hex t.target) (codes "type " ++ kind_word t.target_kind) (codes "tag " ++ t.name) t.rest

pub tag_fault-text : (content : Bytes) (t : Tag) → IsTagText content t → tag_fault content ≡ None
tag_fault-text content t is =
    let start = subst (TagAt content 0) (is.1 ∙ tag_text-lines t) (reached_start next_tag_place 3 content) in
    let first = at_type content t.target _ start is.0.target in
    let second = at_name content t.target_kind _ first in
    reached_end next_tag_place 3 content t.rest (at_rest content t.name t.rest second (word-lacks (codes "tag ") t.name refl (Lacks-by_test lf t.name is.0.name.1)))

-- ---- what the content names

pub tag_target-text : (content : Bytes) (t : Tag) → IsTagText content t → tag_target content ≡ t.target
tag_target-text content t is =
    let behind : Bytes = lf ∷ ((codes "type " ++ kind_word t.target_kind) ++ lf ∷ ((codes "tag " ++ t.name) ++ lf ∷ t.rest)) in
    ap tag_target (is.1 ∙ tag_text-lines t)
    ∙ ap bytes_of_digits (take_at (hex t.target) behind 40 (omega (arith, length-hex t.target, is.0.target.0)))
    ∙ bytes_of_digits-hex t.target is.0.target

-- the kind that the content names
pub is_tag_of-text : (content : Bytes) (t : Tag) → IsTagText content t → is_tag_of t.target_kind content ≡ true
is_tag_of-text content t is =
    let tail : Bytes = (codes "tag " ++ t.name) ++ lf ∷ t.rest in
    let behind : Bytes = (codes "type " ++ kind_word t.target_kind) ++ lf ∷ tail in
    let first : Bytes = (codes "object " ++ hex t.target) ++ lf ∷ [] in
    let long : 48 ≡ length first = omega (arith, length-append (codes "object " ++ hex t.target) (lf ∷ []), length-append (codes "object ") (hex t.target), length-hex t.target, is.0.target.0) in
    let whole : content ≡ first ++ behind = is.1 ∙ tag_text-lines t ∙ sym (append_assoc (codes "object " ++ hex t.target) (lf ∷ []) behind) in
    let left : drop 48 content ≡ line (codes "type " ++ kind_word t.target_kind) ++ tail =
    ap (drop 48) whole ∙ drop_at first behind 48 (sym long) ∙ sym (append_assoc (codes "type " ++ kind_word t.target_kind) (lf ∷ []) tail) in
    ap (λ (l : Bytes). starts_with ◌==◌ l (line (codes "type " ++ kind_word t.target_kind))) left ∙ begins-word (line (codes "type " ++ kind_word t.target_kind)) tail

-- the second letter tells the kinds apart
letter : (kind : ObjectKind) → ℕ
letter kind = slice_index (kind_word kind) 1

same_word : (kind other : ObjectKind) → letter kind ≡ letter other → kind ≡ other
unfolding letter
same_word blob blob e = refl
same_word blob tree e = absurd (omega (arith, e))
same_word blob commit e = absurd (omega (arith, e))
same_word blob tag e = absurd (omega (arith, e))
same_word tree blob e = absurd (omega (arith, e))
same_word tree tree e = refl
same_word tree commit e = absurd (omega (arith, e))
same_word tree tag e = absurd (omega (arith, e))
same_word commit blob e = absurd (omega (arith, e))
same_word commit tree e = absurd (omega (arith, e))
same_word commit commit e = refl
same_word commit tag e = absurd (omega (arith, e))
same_word tag blob e = absurd (omega (arith, e))
same_word tag tree e = absurd (omega (arith, e))
same_word tag commit e = absurd (omega (arith, e))
same_word tag tag e = refl

pub one_tag : (content : Bytes) (t u : Tag) → IsTagText content t → IsTagText content u → t ≡ u
unfolding letter
one_tag content t u it iu =
    let whole : tag_lines t ≡ tag_lines u = sym (it.1 ∙ tag_text-lines t) ∙ iu.1 ∙ tag_text-lines u in
    let target = same_cut (codes "object " ++ hex t.target) _ (codes "object " ++ hex u.target) _ (id_line-lacks (codes "object ") t.target refl it.0.target) (id_line-lacks (codes "object ") u.target refl iu.0.target) whole in
    let kind = same_cut (codes "type " ++ kind_word t.target_kind) _ (codes "type " ++ kind_word u.target_kind) _ (type_line-lacks t.target_kind) (type_line-lacks u.target_kind) target.rest_is in
    let name = same_cut (codes "tag " ++ t.name) t.rest (codes "tag " ++ u.name) u.rest (word-lacks (codes "tag ") t.name refl (Lacks-by_test lf t.name it.0.name.1)) (word-lacks (codes "tag ") u.name refl (Lacks-by_test lf u.name iu.0.name.1)) kind.rest_is in
    let target_is = same_id (codes "object ") t.target u.target it.0.target iu.0.target target.front_is in
    let kind_is = same_word t.target_kind u.target_kind (ap (λ (w : Bytes). slice_index w 1) (behind_front (codes "type ") (kind_word t.target_kind) (kind_word u.target_kind) kind.front_is)) in
    let name_is = behind_front (codes "tag ") t.name u.name name.front_is in
    λ i. record { target = target_is i; target_kind = kind_is i; name = name_is i; rest = name.rest_is i }
