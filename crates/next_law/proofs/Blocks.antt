-- The blocks that a pull leaves: links in their form and few, and changesets that are none.
use Rattle.std.proofs.Common.{◌≡◌, ◌≤◌, ℕ, Bool, true, false, List, [], ◌++◌, length, Some, None, refl, sym, subst, if◌then◌else◌, arith}
use Rattle.std.specs.Prelude.{is_some, nat_lt, not}
use Rattle.std.proofs.lemmas.Bool.Decides.{nat_tests}
use Rattle.text_model.specs.Lists.{Each}
use Rattle.text_model.specs.Text.{Bytes}
use Rattle.text_model.specs.Id.{Id, commit}
use Rattle.text_model.specs.Fault.{FaultName}
use Rattle.text_model.specs.Fault as fault
use Rattle.git_model.specs.Tree.{has_distinct}
use Rattle.git_model.specs.Commit.{commit_fault, parent_ids}
use Rattle.git_model.specs.Object.{Object, content_fault, has_id}
use Rattle.git_model.proofs.CommitLemmas.{parent_ids-text}
use Rattle.view_model.specs.View.{CommitView}
use Rattle.view_model.specs.Held.{IsCommitHeld}
use Rattle.pair_model.specs.Block.{Block}
use Rattle.history_model.specs.Pull.{known_with, objects_with}
use Rattle.state_model.specs.Kept.{Kept, kept_of}
use Rattle.saved_model.specs.Step.{Pull, OfBundle, OfStream, Accepts, AcceptsBundle, AcceptsStream, known_of}
use Rattle.pull_law.specs.Sound.{IsSoundState}
use Rattle.pull_law.proofs.Searches.{found}
use Rattle.next_law.specs.Next.{IsLeft, HasBlocks}
use Rattle.next_law.proofs.Known.{saved-of, sound-known, contents-known}
use Rattle.next_law.proofs.Leads.{IsLinked, are-blocks, leads-on}
use Rattle.next_law.proofs.Linked.{bundle-linked, stream-linked}
use Rattle.next_law.proofs.NewBlocks.{IsOfBundle, IsOfStream, each-new}
use Rattle.next_law.proofs.Objects.{HasContent}
use Rattle.next_law.proofs.Pulls.{own, bundle-new, contents, stream-new}

-- ---- a held commit has few parents

record AreFit (ids : List Id) : Type 0 where
  pub few : length ids ≤ 64
  pub distinct : has_distinct ids ≡ true

parents-fit : (shape distinct : Bool) (count : ℕ) → (if shape then Some fault.ObjectShape else if not distinct then Some fault.ParentTwice else if nat_lt 64 count then Some fault.ParentLimit else None) ≡ None
    → (count ≤ 64) × (distinct ≡ true)
parents-fit true d n h = absurd cc
parents-fit false false n h = absurd cc
parents-fit false true n h = (few (nat_lt 64 n) refl h, refl)
  where
    few : (t : Bool) → nat_lt 64 n ≡ t → (if t then Some fault.ParentLimit else None) ≡ None → n ≤ 64
    few true t i = absurd cc
    few false t i = grind (arith, t, nat_tests)

fit-of : (content : Bytes) → content_fault commit content ≡ None → AreFit (parent_ids content)
fit-of content h =
    let p = parents-fit (is_some (commit_fault content)) (has_distinct (parent_ids content)) (length (parent_ids content)) h in
    record { few = p.0; distinct = p.1 }

held-fit : (objects : List Object) → Each HasContent objects → (id : Id) (c : CommitView) → IsCommitHeld objects id c → AreFit (c.value).parents
held-fit objects contents id c held =
    let o = held.object in
    let at = found HasContent (has_id id) objects o contents held.is_held in
    subst AreFit (parent_ids-text o.content c.value held.text) (fit-of o.content (subst (λ k. content_fault k o.content ≡ None) held.kind at.0))

pub held-few : (objects : List Object) → Each HasContent objects → (id : Id) (c : CommitView) → IsCommitHeld objects id c → length (c.value).parents ≤ 64
held-few objects contents id c held = (held-fit objects contents id c held).few

pub held-distinct : (objects : List Object) → Each HasContent objects → (id : Id) (c : CommitView) → IsCommitHeld objects id c → has_distinct (c.value).parents ≡ true
held-distinct objects contents id c held = (held-fit objects contents id c held).distinct

-- ---- the new blocks

module _ (k : Kept) (sound : IsSoundState (known_of k)) where
  bundle-each : (bundle : Bytes) (new : List Block) → AcceptsBundle k bundle new → Each IsLinked new
  bundle-each bundle new a =
      let s = known_of k in
      let known = known_with s a.arrivals in
      each-new (IsOfBundle s known) IsLinked
      (λ front b x. bundle-linked known (own s sound bundle a.arrivals a.reads) _ (s.blocks ++ front) x.table x.node b x.no_link x.gives) [] new (bundle-new k sound bundle new a)

  stream-each : Each HasContent (known_of k).objects → (stream : Bytes) (new : List Block) (tags : List Object) → AcceptsStream k stream new tags → Each IsLinked new
  stream-each old stream new tags a =
      let s = known_of k in
      let objects = objects_with s a.came in
      let all = contents s sound stream a.came a.reads old in
      each-new (IsOfStream s objects) IsLinked
      (λ front b x. stream-linked _ objects (s.blocks ++ front) (x.goes_on).table x.id b x.gives (held-few objects all x.id (x.gives).view (x.gives).is_held)) [] new (stream-new k sound stream new tags a)

  pub linked : Each HasContent (known_of k).objects → (pull : Pull) (new : List Block) (tags : List Object) → Accepts k pull new tags → Each IsLinked new
  linked old (OfBundle bundle) new tags a = bundle-each bundle new a.0
  linked old (OfStream stream) new tags a = stream-each old stream new tags a

-- ---- the law

pub blocks-left : IsLeft HasBlocks
blocks-left s pull k made is (new, tags, accepts, next, wrote) =
    let saved = saved-of s is in
    let each = linked (kept_of s) (sound-known (kept_of s) saved) (contents-known (kept_of s) saved) pull new tags accepts in
    subst HasBlocks (sym next) (are-blocks s.blocks new saved.blocks each, leads-on s.blocks new saved.links each)
