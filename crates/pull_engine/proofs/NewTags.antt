-- The tags that a stream brings to a saved state, whatever its source tells.
use Rattle.std.proofs.Common.{◌≡◌, List, ◌++◌, map, sym, ap, subst, ◌∙◌}
use Rattle.text_model.specs.Lists.{Each}
use Rattle.text_model.specs.Id.{Id}
use Rattle.text_model.proofs.EachLemmas.{Each-append}
use Rattle.text_model.proofs.Elements.{map_append, each_from, each_in}
use Rattle.git_model.specs.Object.{Object}
use Rattle.git_model.specs.Stream.{Placed}
use Rattle.git_store.specs.Growth.{IsThere, IsWithin}
use Rattle.git_batch.specs.Arrivals.{arrival_of}
use Rattle.next_law.proofs.ObjectLike.{all-more}
use Rattle.history_model.specs.Pull.{objects_among}
use Rattle.pair_model.specs.Block.{Block}
use Rattle.pair_known.specs.declared.known.Known.{Known}
use Rattle.pair_state.specs.declared.state_parts.StateParts.{StateParts}
use Rattle.pair_state.specs.AllBlocks.{HasAllBlocks}
use Rattle.state_model.specs.Kept as saved
use Rattle.state_model.specs.Kept.{with_kept, ids_of}
use Rattle.saved_model.specs.Step.{new_tags}
use Rattle.state_text.specs.Stands.{AreAt, Stands}
use Rattle.pull_outcome.specs.declared.pulled.GitPulled.{GitPulled}
use Rattle.pull_outcome.specs.Pulls.{GoesOnGit}
use Rattle.pull_engine.specs.Read.{IsReadState}
use Rattle.pull_engine.specs.Tags.{IsAsked, AreNewTags, HasTags}
use Rattle.pull_engine.proofs.Came.{tag-of}
use Rattle.pull_engine.proofs.Next.{tags-stay, stands-on}

-- what is said of all objects that came
abbrev pub TagsAreNew : GitPulled → List Id → Type 0
TagsAreNew p ids = (blocks : List Block) (tags : List Object) (placed : List Placed) → IsAsked p.state p.arrivals blocks tags placed → AreNewTags blocks tags placed ids

-- these objects came, and each of them is in the store
module _ (s : StateParts) (m : saved.State) (read : IsReadState s m) (p : GitPulled) (on : GoesOnGit s m.blocks p)
    (came : List Placed) (listed : p.arrivals ≡ map arrival_of came) (held : Each (λ o. IsThere (p.state).known.git o.object) came) where
  stays : IsWithin s.known.git (p.state).known.git
  stays = subst (IsWithin s.known.git) (sym on.objects) (all-more s.known.git (objects_among on.came))

  pub tags-left : AreAt (p.state).known.git (p.state).tags m.tags
  tags-left = tags-stay s m read p.state stays on.tags

  module _ (all : List Block) (has : HasAllBlocks p.state all) where
    pub asked : IsAsked p.state p.arrivals all m.tags came
    asked = record { came = record { listed = listed; held = held }; commits = (has.state).commits; kept = on.tags ∙ (read.stands).tags }

    module _ (ids : List Id) (are : TagsAreNew p ids) where
      abbrev tags : List Object
      tags = new_tags m.tags came

      pub right : AreNewTags all m.tags came ids
      right = are all m.tags came asked

      pub tags-at : AreAt (p.state).known.git ids tags
      tags-at = (
        right.0,
        each_from (IsThere (p.state).known.git) tags (λ t i.
            let of = tag-of m.tags came t i in
            subst (IsThere (p.state).known.git) (sym of.2) (each_in (λ (o : Placed). IsThere (p.state).known.git o.object) came of.0 held of.1)),
      )

      pub stands-with : (next : StateParts) → HasTags p.state next ids → Stands next (with_kept m (record { blocks = all; tags = m.tags ++ tags }))
      stands-with next more = stands-on s m read next all (m.tags ++ tags) (more.history all has) (is, held-there) (more.names ∙ on.names)
        where
          is : next.tags ≡ ids_of (m.tags ++ tags)
          is = more.tags ∙ (λ i. tags-left.0 i ++ right.0 i) ∙ sym (map_append (λ (o : Object). o.id) m.tags tags)

          held-there : Each (IsThere next.known.git) (m.tags ++ tags)
          held-there = subst (λ (os : List Object). Each (IsThere os) (m.tags ++ tags)) (sym (ap (λ (known : Known). known.git) more.known))
              (Each-append (IsThere (p.state).known.git) m.tags tags tags-left.1 tags-at.1)

  pub goes-on : (ids : List Id) → TagsAreNew p ids → (next : StateParts) → HasTags p.state next ids → (n : saved.State) × Stands next n
  goes-on ids are next more = (_, stands-with (m.blocks ++ on.new) on.next ids are next more)
