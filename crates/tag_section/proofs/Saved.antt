-- Tags that a stream brings to the objects of commits, and which can be saved.
use Rattle.std.proofs.Common.{◌≡◌, ◌≢◌, ◌≤◌, ◌+◌, ℕ, true, false, true≢false, List, [], ◌∷◌, ◌++◌, length, None, refl, sym, ap, subst, ◌∙◌, arith}
use Rattle.std.specs.Prelude.{is_ok, nat_le}
use Rattle.std.proofs.lemmas.Bool.Decides.{nat_tests}
use Rattle.text_model.specs.Lists.{Each, only_new}
use Rattle.text_model.specs.Text.{Bytes}
use Rattle.text_model.specs.Id.{Id, IsId}
use Rattle.text_model.proofs.EachLemmas.{Each-weaker}
use Rattle.git_model.specs.Object.{Object, same_object, objects_after, objects_after_all}
use Rattle.git_model.specs.Stream.{Placed, IsFit, IsFitStream, stream_text, stream_reading}
use Rattle.git_model.specs.Unfold.{walk_fault}
use Rattle.git_store.specs.Growth.{IsThere, HasGrown}
use Rattle.git_store.proofs.Growth.{grown-none, grown-more, one-more}
use Rattle.git_batch.specs.Arrivals.{AddsAll}
use Rattle.git_batch.proofs.StreamLaws.{brings_only}
use Rattle.git_view.proofs.WalkGrowth.{walk-on, commits-on}
use Rattle.history_model.specs.Pull.{objects_among}
use Rattle.view_model.specs.View.{CommitView}
use Rattle.view_model.specs.Dump.{objects_in}
use Rattle.state_model.specs.Kept.{git_dump, ids_of}
use Rattle.state_model.specs.Limits.{dump_limit}
use Rattle.state_model.specs.Saved.{AreTagsSaved}
use Rattle.dump_law.proofs.Streams.{one_stream}
use Rattle.dump_law.proofs.Readings.{streams_same}
use Rattle.git_section.specs.declared.section.GitSection.{GitSection}
use Rattle.git_section.specs.Sections.{HoldsCommits}
use Rattle.tag_rule.specs.Answers.{HaveCome}
use Rattle.tag_section.specs.declared.stream.Arrived.{Arrived}
use Rattle.tag_section.specs.Tags.{HoldsTags, AreKept, Brings}
use Rattle.tag_section.proofs.Known.{same-objects}

grown : (known os : List Object) → AddsAll known os → HasGrown known (objects_after_all known os) os
grown known [] adds = grown-none known
grown known (o ∷ os) adds =
    grown-more known (objects_after known o) (objects_after_all (objects_after known o) os) (o ∷ []) os (one-more known o adds.0) (grown (objects_after known o) os adds.1)

-- of what came what holds of its objects
each-placed : (P : Object → Type 0) (came : List Placed) → Each P (objects_among came) → Each (λ o. P o.object) came
each-placed P [] all = tt
each-placed P (p ∷ came) all = (all.0, each-placed P came all.1)

after-append : (known xs ys : List Object) → objects_after_all known (xs ++ ys) ≡ objects_after_all (objects_after_all known xs) ys
after-append known [] ys = refl
after-append known (x ∷ xs) ys = after-append (objects_after known x) xs ys

-- ---- the limit of a dump

within_limit : (commits tags : ℕ) → nat_le (commits + tags) dump_limit ≡ true → commits + tags ≤ dump_limit
within_limit commits tags is = grind (arith, is, nat_tests)

pub is_short : (cs : List CommitView) (used : ℕ) (bytes : Bytes) → length (git_dump cs) ≡ used → nat_le (used + length bytes) dump_limit ≡ true → length (git_dump cs) + length bytes ≤ dump_limit
is_short cs used bytes size is = omega (arith, size, within_limit used (length bytes) is)

-- ---- over a section of commits

module _ (s : GitSection) (cs : List CommitView) (holds : HoldsCommits s cs) where
  -- the section reads a stream as the objects of the dump do
  reads-same : (bytes : Bytes) → stream_reading (objects_in cs) bytes ≡ stream_reading s.store bytes
  reads-same bytes = streams_same (objects_in cs) s.store (same-objects s cs holds) bytes

  pub not-refused : (bytes : Bytes) → is_ok (stream_reading s.store bytes) ≡ false → (tags : List Object) → AreTagsSaved cs tags → stream_text tags ≢ bytes
  not-refused bytes refused tags saved text =
      true≢false (sym saved.read ∙ ap is_ok (reads-same (stream_text tags)) ∙ ap (λ (l : Bytes). is_ok (stream_reading s.store l)) text ∙ refused)

  module _ (bytes : Bytes) (a : Arrived) (brings : Brings s.store bytes a) where
    abbrev pub came_tags : List Object
    came_tags = objects_among brings.placed

    stream : IsFitStream bytes came_tags
    stream = (brings_only s.store bytes brings.placed brings.reads).0

    pub text_is : stream_text came_tags ≡ bytes
    text_is = sym stream.is

    more : HasGrown s.store a.store came_tags
    more = subst (λ (l : List Object). HasGrown s.store l came_tags) (sym brings.holds) (grown s.store came_tags (brings_only s.store bytes brings.placed brings.reads).2)

    pub have-come : HaveCome a.store a.came brings.placed
    have-come = record { listed = brings.listed; held = each-placed (IsThere a.store) brings.placed more.added }

    pub saved : AreKept cs came_tags → length (git_dump cs) + length bytes ≤ dump_limit → AreTagsSaved cs came_tags
    saved kept short = record {
      tags_only = kept.tags_only;
      distinct = kept.distinct;
      read = ap is_ok (reads-same (stream_text came_tags)) ∙ ap (λ (l : Bytes). is_ok (stream_reading s.store l)) text_is ∙ ap is_ok brings.reads;
      targets = kept.targets;
      lead = kept.lead;
      short = omega (arith, short, ap (λ (l : Bytes). length l) text_is);
    }

    pub holds-tags : (ids : List Id) → ids ≡ ids_of came_tags → HoldsTags (record { store = a.store; ids = s.ids; tags = ids }) cs came_tags
    holds-tags ids are = record {
      ids = holds.ids;
      tags_are = are;
      held = commits-on s.store a.store more.kept holds.sound (brings.sound holds.sound) s.ids cs holds.walks holds.held;
      walks = Each-weaker (λ c. walk_fault s.store (c.value).tree_id ≡ None) (λ c. walk_fault a.store (c.value).tree_id ≡ None)
          (λ c. walk-on s.store a.store more.kept holds.sound (c.value).tree_id) cs holds.walks;
      known = brings.holds ∙ ap (λ (l : List Object). objects_after_all l came_tags) holds.known ∙ sym (after-append [] (only_new same_object [] (objects_in cs)) came_tags);
      tags_held = more.added;
      sound = brings.sound holds.sound;
    }

    pub only-kept : (tags : List Object) → AreTagsSaved cs tags → stream_text tags ≡ bytes → AreKept cs came_tags
    only-kept tags saved text =
        let same : tags ≡ came_tags =
        one_stream tags came_tags (Each-weaker IsFit (λ o. IsId o.id) (λ o fit. fit.0) came_tags stream.fit) (omega (arith, stream.fits, ap (λ (l : Bytes). length l) text)) (text ∙ stream.is) in
        subst (AreKept cs) same (record { tags_only = saved.tags_only; distinct = saved.distinct; targets = saved.targets; lead = saved.lead })
