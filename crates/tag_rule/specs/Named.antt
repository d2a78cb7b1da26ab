-- What the tags of a store name.
use Rattle.std.specs.Prelude.{Bool, true, false, not, ◌&&◌, ◌||◌, if◌then◌else◌, List, Option, Some, None}
use Rattle.text_model.specs.Text.{Bytes}
use Rattle.text_model.specs.Id.{Id, commit, tag}
use Rattle.git_model.specs.Commit.{tag_target, is_tag_of}
use Rattle.git_model.specs.Object.{Object}
use Rattle.git_model.specs.Order.{has}
use Rattle.git_store.specs.Known.{content_at}
use Rattle.git_batch.specs.declared.arrival.ObjectArrival.{ObjectArrival}
use Rattle.git_batch.specs.Arrivals.{is_of}
use Rattle.tag_rule.specs.declared.named.Targets.{Targets}
use Rattle.tag_rule.specs.declared.named.Named.{Named}
use Rattle.tag_rule.specs.declared.named.Named.TheVariants as named

-- what a tag of this tag names, over the kept tags and those that came
abbrev pub behind : List Id → List Id → Id → Named
behind kept came target = if has kept target then named.Commit else if has came target then named.Tag target else named.Other

-- what a content names; nothing where there is none
abbrev pub named_by : List Id → List Id → Option Bytes → Named
named_by kept came None = named.Other
named_by kept came (Some content) =
    if is_tag_of commit content then named.Commit else if is_tag_of tag content then behind kept came (tag_target content) else named.Other

-- what the tag with this id names
abbrev pub named_at : List Object → List Id → List Id → Id → Named
named_at store kept came id = named_by kept came (content_at tag store id)

-- the target that a content names isn't there: of a tag of a commit no saved commit, of a tag of a tag neither a kept one nor one that came
abbrev pub lacks_by : List Id → List Id → List Id → Option Bytes → Bool
lacks_by commits kept came None = false
lacks_by commits kept came (Some content) =
    not (if is_tag_of commit content then has commits (tag_target content)
    else if is_tag_of tag content then has kept (tag_target content) || has came (tag_target content)
    else true)

-- the target of the tag with this id isn't there
abbrev pub target_lacks : List Object → List Id → List Id → List Id → Id → Bool
target_lacks store commits kept came id = lacks_by commits kept came (content_at tag store id)

-- what the tag with this id names, over the sets in which the code looks up
abbrev pub names : Targets → Id → Named
names t id = named_at (t.store).now (t.kept).now (t.came).now id

-- the object is a tag whose target isn't there
abbrev pub lacks_over : List Object → List Id → List Id → List Id → ObjectArrival → Bool
lacks_over store commits kept came a = is_of tag a && target_lacks store commits kept came a.id

-- the same over the sets in which the code looks up
abbrev pub arrival_lacks : Targets → ObjectArrival → Bool
arrival_lacks t a = lacks_over (t.store).now (t.commits).now (t.kept).now (t.came).now a
