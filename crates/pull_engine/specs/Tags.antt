-- The tags that a stream brings to a state.
use Rattle.std.specs.Prelude.{◌≡◌, ◌⊎◌, List, ◌++◌, map, Option, Some, None}
use Rattle.std.specs.List.{find}
use Rattle.text_model.specs.Id.{Id}
use Rattle.git_model.specs.Object.{Object}
use Rattle.git_model.specs.Stream.{Placed}
use Rattle.git_batch.specs.declared.arrival.ObjectArrival.{ObjectArrival}
use Rattle.pair_model.specs.Block.{Block, id_of}
use Rattle.state_model.specs.Kept.{ids_of}
use Rattle.saved_model.specs.Step.{new_tags, lacks_target}
use Rattle.tag_rule.specs.Answers.{HaveCome, target_unknown}
use Rattle.tag_rule.specs.declared.fault.TagFault.{TagFault}
use Rattle.tag_rule.specs.declared.fault.TagFault.TheVariants as tag
use Rattle.pair_state.specs.declared.state_parts.StateParts.{StateParts}
use Rattle.pair_state.specs.AllBlocks.{HasAllBlocks}
use Rattle.pull_outcome.specs.declared.refused.PullFault.{PullFault}
use Rattle.pull_outcome.specs.declared.refused.PullFault.TheVariants.{Refused, Memory}

-- the parts have the commits of these blocks and the ids of these tags, and these objects came to them
pub record IsAsked (s : StateParts) (arrivals : List ObjectArrival) (blocks : List Block) (tags : List Object) (placed : List Placed) : Type 0 where
  pub came : HaveCome s.known.git arrivals placed
  pub commits : s.commits ≡ map id_of blocks
  pub kept : s.tags ≡ ids_of tags

-- the ids are those of the tags that are newly kept, and no tag lacks its target
abbrev pub AreNewTags : List Block → List Object → List Placed → List Id → Type 0
AreNewTags blocks tags came ids = (ids ≡ ids_of (new_tags tags came)) × (find (lacks_target blocks tags came) came ≡ None)

-- the same refusal, of the pull
abbrev pub tag_refused : TagFault → PullFault
tag_refused (tag.Refused why) = Refused why
tag_refused tag.Memory = Memory

-- the refusal is that of the first tag that lacks its target
abbrev pub IsLacking : Option Placed → PullFault → Type 0
IsLacking found fault =
    (fault ≡ Memory)
    ⊎ ((o : Placed) × (found ≡ Some o) × (fault ≡ Refused (target_unknown (o.object).id o.at)))

-- the next parts have these tags behind their own, and else what the parts had
pub record HasTags (s next : StateParts) (ids : List Id) : Type 0 where
  pub tags : next.tags ≡ s.tags ++ ids
  pub known : next.known ≡ s.known
  pub blocks : next.blocks ≡ s.blocks
  pub names : next.names ≡ s.names
  pub history : (blocks : List Block) → HasAllBlocks s blocks → HasAllBlocks next blocks
