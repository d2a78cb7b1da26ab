-- What a tag names, by the tag that its content is.
use Rattle.std.proofs.Common.{◌≡◌, ◌==◌, Bool, true, false, not, ◌||◌, List, [], ◌∷◌, ◌++◌, length, drop, codes, refl, sym, ap, ◌∙◌, arith, append_assoc, length-append}
use Rattle.std.specs.Prelude.{if◌then◌else◌}
use Rattle.std.specs.List.{starts_with}
use Rattle.std.proofs.lemmas.List.{drop_at}
use Rattle.text_model.specs.Text.{Bytes, lf, line}
use Rattle.text_model.specs.Id.{Id, hex, ObjectKind, blob, tree, commit, tag, kind_word}
use Rattle.text_model.proofs.HexLemmas.{length-hex}
use Rattle.git_model.specs.Commit.{Tag, IsTagText, tag_target, is_tag_of}
use Rattle.git_model.specs.Object.{Object}
use Rattle.git_model.specs.Order.{has}
use Rattle.git_model.proofs.TagLemmas.{tag_text-lines, tag_target-text}
use Rattle.git_model.proofs.WordLemmas.{begins-word}
use Rattle.git_store.specs.Known.{IsTagAt}
use Rattle.tag_rule.specs.declared.named.Named.{Named}
use Rattle.tag_rule.specs.declared.named.Named.TheVariants as named
use Rattle.tag_rule.specs.Named.{behind, named_by, named_at, lacks_by, target_lacks}

-- ---- the kind that a content names

abbrev type_text : ObjectKind → Bytes
type_text kind = line (codes "type " ++ kind_word kind)

tail_is : (content : Bytes) (t : Tag) → IsTagText content t → drop 48 content ≡ type_text t.target_kind ++ ((codes "tag " ++ t.name) ++ lf ∷ t.rest)
tail_is content t is =
    let tail : Bytes = (codes "tag " ++ t.name) ++ lf ∷ t.rest in
    let behind : Bytes = (codes "type " ++ kind_word t.target_kind) ++ lf ∷ tail in
    let first : Bytes = (codes "object " ++ hex t.target) ++ lf ∷ [] in
    let long : 48 ≡ length first = omega (arith, length-append (codes "object " ++ hex t.target) (lf ∷ []), length-append (codes "object ") (hex t.target), length-hex t.target, is.0.target.0) in
    let whole : content ≡ first ++ behind = is.1 ∙ tag_text-lines t ∙ sym (append_assoc (codes "object " ++ hex t.target) (lf ∷ []) behind) in
    ap (drop 48) whole ∙ drop_at first behind 48 (sym long) ∙ sym (append_assoc (codes "type " ++ kind_word t.target_kind) (lf ∷ []) tail)

abbrev is_commit : ObjectKind → Bool
is_commit blob = false
is_commit tree = false
is_commit commit = true
is_commit tag = false

abbrev is_tag : ObjectKind → Bool
is_tag blob = false
is_tag tree = false
is_tag commit = false
is_tag tag = true

names_commit : (kind : ObjectKind) (rest : Bytes) → starts_with ◌==◌ (type_text kind ++ rest) (type_text commit) ≡ is_commit kind
names_commit blob rest = refl
names_commit tree rest = refl
names_commit commit rest = begins-word (type_text commit) rest
names_commit tag rest = refl

names_tag : (kind : ObjectKind) (rest : Bytes) → starts_with ◌==◌ (type_text kind ++ rest) (type_text tag) ≡ is_tag kind
names_tag blob rest = refl
names_tag tree rest = refl
names_tag commit rest = refl
names_tag tag rest = begins-word (type_text tag) rest

module _ (content : Bytes) (t : Tag) (is : IsTagText content t) where
  pub of_commit : is_tag_of commit content ≡ is_commit t.target_kind
  of_commit = ap (λ (l : Bytes). starts_with ◌==◌ l (type_text commit)) (tail_is content t is) ∙ names_commit t.target_kind _

  pub of_tag : is_tag_of tag content ≡ is_tag t.target_kind
  of_tag = ap (λ (l : Bytes). starts_with ◌==◌ l (type_text tag)) (tail_is content t is) ∙ names_tag t.target_kind _

-- ---- what the tag names

abbrev pub named_of : List Id → List Id → ObjectKind → Id → Named
named_of kept came blob target = named.Other
named_of kept came tree target = named.Other
named_of kept came commit target = named.Commit
named_of kept came tag target = behind kept came target

abbrev pub lacks_of : List Id → List Id → List Id → ObjectKind → Id → Bool
lacks_of commits kept came blob target = false
lacks_of commits kept came tree target = false
lacks_of commits kept came commit target = not (has commits target)
lacks_of commits kept came tag target = not (has kept target || has came target)

module _ (store : List Object) (kept came : List Id) (id : Id) where
  pub named-is : (t : Tag) → IsTagAt store id t → named_at store kept came id ≡ named_of kept came t.target_kind t.target
  named-is t at =
      ap (named_by kept came) at.held
      ∙ ap (λ (b : Bool). if b then named.Commit else if is_tag_of tag at.content then behind kept came (tag_target at.content) else named.Other) (of_commit at.content t at.is)
      ∙ ap (λ (b : Bool). if is_commit t.target_kind then named.Commit else if b then behind kept came (tag_target at.content) else named.Other) (of_tag at.content t at.is)
      ∙ ap (λ (target : Id). if is_commit t.target_kind then named.Commit else if is_tag t.target_kind then behind kept came target else named.Other) (tag_target-text at.content t at.is)
      ∙ by t.target_kind
    where
      by : (kind : ObjectKind) → (if is_commit kind then named.Commit else if is_tag kind then behind kept came t.target else named.Other) ≡ named_of kept came kind t.target
      by blob = refl
      by tree = refl
      by commit = refl
      by tag = refl

  module _ (commits : List Id) where
    pub lacks-is : (t : Tag) → IsTagAt store id t → target_lacks store commits kept came id ≡ lacks_of commits kept came t.target_kind t.target
    lacks-is t at =
        ap (lacks_by commits kept came) at.held
        ∙ ap (λ (b : Bool). not (if b then has commits (tag_target at.content) else if is_tag_of tag at.content then has kept (tag_target at.content) || has came (tag_target at.content) else true)) (of_commit at.content t at.is)
        ∙ ap (λ (b : Bool). not (if is_commit t.target_kind then has commits (tag_target at.content) else if b then has kept (tag_target at.content) || has came (tag_target at.content) else true)) (of_tag at.content t at.is)
        ∙ ap (λ (target : Id). not (if is_commit t.target_kind then has commits target else if is_tag t.target_kind then has kept target || has came target else true)) (tag_target-text at.content t at.is)
        ∙ by t.target_kind
      where
        by : (kind : ObjectKind) → not (if is_commit kind then has commits t.target else if is_tag kind then has kept t.target || has came t.target else true) ≡ lacks_of commits kept came kind t.target
        by blob = refl
        by tree = refl
        by commit = refl
        by tag = refl
