-- The tags have their section again.
use Rattle.next_law.specs.Next.{IsLeftOfBytes}
use Rattle.next_law.proofs.Room.{room-left}
use Rattle.tag_law.specs.Tags.{HasTags}
use Rattle.tag_law.proofs.DistinctTags.{distinct-left}
use Rattle.tag_law.proofs.Lead.{lead-left}
use Rattle.tag_law.proofs.TagsOnly.{tags-only_left}
use Rattle.tag_law.proofs.TagsRead.{read-left}
use Rattle.tag_law.proofs.Targets.{targets-left}

pub tags-left : IsLeftOfBytes HasTags
tags-left s pull k made is text input steps = record {
  tags_only = tags-only_left s pull k made is steps;
  distinct = distinct-left s pull k made is steps;
  read = read-left s pull k made is text input steps;
  targets = targets-left s pull k made is steps;
  lead = lead-left s pull k made is steps;
  short = (room-left s pull k made is steps).git;
}
