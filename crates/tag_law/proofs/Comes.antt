-- What a pull brings, of a bundle as of a stream: a bundle brings no objects of its own.
use Rattle.std.proofs.Common.{◌≡◌, List, [], ◌++◌, None, refl}
use Rattle.std.specs.List.{find}
use Rattle.text_model.specs.Lists.{Each}
use Rattle.git_model.specs.Object.{Object}
use Rattle.git_model.specs.Stream.{Placed, IsFit, IsChecked}
use Rattle.git_batch.specs.Arrivals.{AddsAll}
use Rattle.git_batch.proofs.StreamLaws.{brings_only}
use Rattle.pair_model.specs.Block.{Block}
use Rattle.history_model.specs.Pull.{objects_among}
use Rattle.state_model.specs.Kept.{Kept}
use Rattle.saved_model.specs.Step.{Pull, OfBundle, OfStream, Accepts, known_of, new_tags, lacks_target}

pub record Comes (k : Kept) (new : List Block) (added : List Object) : Type 0 where
  pub came : List Placed
  pub added_are : added ≡ new_tags k.tags came
  pub targets : find (lacks_target (k.blocks ++ new) k.tags came) came ≡ None
  pub adds : AddsAll (known_of k).objects (objects_among came)
  pub checked : IsChecked (objects_among came)
  pub fit : Each IsFit (objects_among came)

pub comes : (k : Kept) (pull : Pull) (new : List Block) (added : List Object) → Accepts k pull new added → Comes k new added
comes k (OfBundle bundle) new added (a, none) = record { came = []; added_are = none; targets = refl; adds = tt; checked = tt; fit = tt }
comes k (OfStream stream) new added a =
    let brings = brings_only (known_of k).objects stream a.came a.reads in
    record { came = a.came; added_are = a.tags_are; targets = a.targets; adds = brings.2; checked = brings.1; fit = (brings.0).fit }
