-- Annotated tags that lead to a commit. The rule is this project's own.
use Rattle.std.specs.Prelude.{ℕ, zero, suc, ◌+◌, Bool, true, false, ◌&&◌, ◌||◌, if◌then◌else◌, List, length}
use Rattle.std.specs.List.{list_any}
use Rattle.text_model.specs.Id.{Id, commit, tag}
use Rattle.git_model.specs.Commit.{tag_target, is_tag_of}
use Rattle.git_model.specs.Object.{Object, has_id}
use Rattle.git_model.specs.Order.{has}

-- The tag leads to a commit: it is of one, or of a kept tag, or of a tag that came and leads to one. The number bounds the chain.
unfoldable pub leads_to_commit : ℕ → List Id → List Object → Object → Bool
leads_to_commit zero kept came o = false
leads_to_commit (suc more) kept came o =
    is_tag_of commit o.content
    || (is_tag_of tag o.content && (has kept (tag_target o.content) || list_any (λ t. has_id (tag_target o.content) t && leads_to_commit more kept came t) came))

abbrev pub leads : List Id → List Object → Object → Bool
leads kept came o = leads_to_commit (length came + 1) kept came o

-- the target of the tag is there: of a tag of a commit a saved commit, of a tag of a tag a kept one or one that came
abbrev pub has_target : List Id → List Id → List Object → Object → Bool
has_target commits kept came o =
    if is_tag_of commit o.content then has commits (tag_target o.content)
    else if is_tag_of tag o.content then has kept (tag_target o.content) || list_any (has_id (tag_target o.content)) came
    else true
