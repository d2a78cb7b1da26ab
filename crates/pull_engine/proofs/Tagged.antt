-- The tags of a state.
use Rattle.std.proofs.Common.{◌≡◌, List, ◌++◌, map, Option, refl, sym, ap, subst, ◌∙◌, inl, inr}
use Rattle.text_model.specs.Id.{Id}
use Rattle.git_model.specs.Object.{Object}
use Rattle.git_model.specs.Order.{has}
use Rattle.git_model.specs.Stream.{Placed}
use Rattle.git_batch.specs.declared.arrival.ObjectArrival.{ObjectArrival}
use Rattle.pair_model.specs.Block.{Block, id_of}
use Rattle.state_model.specs.Kept.{ids_of}
use Rattle.tag_rule.specs.Answers as tag_rule
use Rattle.tag_rule.specs.Answers.{HaveCome, IsSetOf, IsTagFault}
use Rattle.tag_rule.specs.declared.fault.TagFault.{TagFault}
use Rattle.tag_rule.specs.declared.fault.TagFault.TheVariants as tag
use Rattle.pull_outcome.specs.declared.refused.PullFault.TheVariants.{Refused}
use Rattle.pair_known.specs.declared.known.Known.{Known}
use Rattle.pair_state.specs.declared.state_parts.StateParts.{StateParts}
use Rattle.pair_state.specs.AllBlocks.{HasAllBlocks}
use Rattle.pull_engine.specs.Names.{IsTargetFault}
use Rattle.pull_engine.specs.Tags.{HasTags, IsAsked, IsLacking, tag_refused}

abbrev pub with_ids : StateParts → List Id → StateParts
with_ids s ids = record {
  known = s.known;
  blocks = s.blocks;
  changesets = s.changesets;
  commits = s.commits;
  tags = ids;
  names = s.names;
  agreed = s.agreed;
  alloc = s.alloc;
}

pub history-stays : (s : StateParts) (ids : List Id) (blocks : List Block) → HasAllBlocks s blocks → HasAllBlocks (with_ids s ids) blocks
history-stays s ids blocks has = record {
  state = record {
    held = (has.state).held;
    sound = (has.state).sound;
    blocks_are = (has.state).blocks_are;
    changesets = (has.state).changesets;
    commits = (has.state).commits;
    agreed = (has.state).agreed;
  };
  saved = has.saved;
}

pub has-tags : (s : StateParts) (ids more : List Id) → ids ≡ s.tags ++ more → HasTags s (with_ids s ids) more
has-tags s ids more are = record {
  tags = are;
  known = refl;
  blocks = refl;
  names = refl;
  history = λ blocks has. history-stays s ids blocks has;
}

-- ---- the target of a tag

pub lacking-of : (found : Option Placed) (fault : TagFault) → IsTagFault found fault → IsLacking found (tag_refused fault)
lacking-of found (tag.Refused why) (o, is, same) = inr (o, is, ap Refused same)
lacking-of found tag.Memory h = inl refl

pub target-of : (fault : TagFault) → tag_rule.IsTargetFault fault → IsTargetFault (tag_refused fault)
target-of (tag.Refused why) is = is
target-of tag.Memory is = tt

-- the sets and the objects that are asked
module _ (s : StateParts) (arrivals : List ObjectArrival) (blocks : List Block) (tags : List Object) (placed : List Placed) (asked : IsAsked s arrivals blocks tags placed) where
  pub commits-set : (set ids : List Id) → IsSetOf set ids → ids ≡ s.commits → IsSetOf set (map id_of blocks)
  commits-set set ids of are id = of id ∙ ap (λ (l : List Id). has l id) (are ∙ asked.commits)

  pub kept-set : (set ids : List Id) → IsSetOf set ids → ids ≡ s.tags → IsSetOf set (ids_of tags)
  kept-set set ids of are id = of id ∙ ap (λ (l : List Id). has l id) (are ∙ asked.kept)

  pub came-to : (known : Known) → known ≡ s.known → HaveCome known.git arrivals placed
  came-to known is = subst (λ (k : Known). HaveCome k.git arrivals placed) (sym is) asked.came
