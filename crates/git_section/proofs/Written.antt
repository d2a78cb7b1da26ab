-- The objects of commits whose dump was read are those that came.
use Rattle.std.proofs.Common.{◌≡◌, List, [], length, sym, ap, ◌∙◌, arith}
use Rattle.text_model.specs.Lists.{only_new}
use Rattle.text_model.specs.Text.{Bytes}
use Rattle.text_model.specs.Id.{IsId}
use Rattle.text_model.proofs.EachLemmas.{Each-weaker}
use Rattle.git_model.specs.Object.{Object, same_object, objects_after_all}
use Rattle.git_model.specs.Stream.{IsFit, IsFitStream, stream_text}
use Rattle.git_batch.proofs.StreamLaws.{brings_only}
use Rattle.view_model.specs.View.{CommitView}
use Rattle.view_model.specs.Dump.{objects_in, git_increment}
use Rattle.state_model.specs.Kept.{git_dump}
use Rattle.dump_law.proofs.Streams.{one_stream}
use Rattle.git_section.specs.declared.section.GitSection.{GitSection}
use Rattle.git_section.specs.Sections.{IsRead, objects_of}
use Rattle.git_section.proofs.Distinct.{distinct_new}
use Rattle.git_section.proofs.Once.{distinct_after}

-- the objects of the dump of commits
abbrev pub written : List CommitView → List Object
written cs = only_new same_object [] (objects_in cs)

-- each of them has an id of its own
pub once_written : (cs : List CommitView) → objects_after_all [] (written cs) ≡ written cs
once_written cs = distinct_after [] (written cs) (distinct_new (objects_in cs))

module _ (bytes : Bytes) (s : GitSection) (read : IsRead bytes s) where
  pub stream : IsFitStream bytes (objects_of read.placed)
  stream = (brings_only [] bytes read.placed read.reads).0

  -- the bytes are the stream of what the store has
  pub whole : bytes ≡ stream_text s.store
  whole = stream.is ∙ ap stream_text (sym read.holds)

  pub same : (cs : List CommitView) → git_dump cs ≡ bytes → written cs ≡ objects_of read.placed
  unfolding git_increment
  same cs dump =
      one_stream (written cs) (objects_of read.placed) (Each-weaker IsFit (λ o. IsId o.id) (λ o fit. fit.0) (objects_of read.placed) stream.fit)
      (omega (arith, stream.fits, ap (λ (l : Bytes). length l) dump)) (dump ∙ stream.is)

  -- the store has the objects of a dump, in its order, exactly where the bytes are that dump
  pub has_written : (cs : List CommitView) → git_dump cs ≡ bytes → s.store ≡ written cs
  has_written cs dump = read.holds ∙ sym (same cs dump)

  pub is_dump : (cs : List CommitView) → s.store ≡ written cs → git_dump cs ≡ bytes
  unfolding git_increment
  is_dump cs are = ap stream_text (sym are ∙ read.holds) ∙ sym stream.is
