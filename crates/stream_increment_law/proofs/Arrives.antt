-- The stream of new commits is read over the history behind which they come: it brings just the objects that the earlier commits don't have.
use Rattle.std.proofs.Common.{◌≡◌, ◌≤◌, false, not, List, [], ◌++◌, length, Ok, refl, sym, ap, subst, ◌∙◌, inl, inr, arith, length-append}
use Rattle.std.specs.Prelude.{◌&&◌}
use Rattle.text_model.specs.Lists.{Each, In, only_new}
use Rattle.text_model.specs.Text.{Bytes}
use Rattle.text_model.specs.Id.{kind_word, object_id}
use Rattle.text_model.specs.Fault.{input_limit}
use Rattle.text_model.proofs.EachLemmas.{Each-rest}
use Rattle.text_model.proofs.Elements.{in_left, in_right, map_append}
use Rattle.text_model.proofs.TestLemmas.{bytes_eq-sym}
use Rattle.git_model.specs.Object.{Object, same_object, is_other_content}
use Rattle.git_model.specs.Stream.{Placed, IsFit, stream_text, stream_reading}
use Rattle.git_batch.specs.Arrivals.{AddsAll}
use Rattle.git_batch.proofs.StreamLaws.{brings_all}
use Rattle.view_model.specs.View.{CommitView}
use Rattle.view_model.specs.Dump.{objects_in, git_increment}
use Rattle.pair_model.specs.Block.{Block, commits_in}
use Rattle.history_model.specs.Pull.{objects_among}
use Rattle.state_model.specs.Kept.{Kept, git_dump}
use Rattle.saved_model.specs.Step.{dump_objects, known_of}
use Rattle.dump_law.proofs.CommitsHeld.{of_new}
use Rattle.dump_law.proofs.Grows.{objects_in-append, stream_text-append, same_object_turned}
use Rattle.dump_law.proofs.News.{only_new-append}
use Rattle.dump_law.proofs.Streams.{of_append}
use Rattle.next_law.proofs.Known.{IsSaved}
use Rattle.next_law.proofs.Objects.{HasContent, AreRead, are-read, adds-contents, dump-is, dump-read}
use Rattle.tag_law.proofs.Adds.{adds-apart, adds-all, in-all}
use Rattle.frame_law.proofs.Bodies.{one_of}

-- the objects that the new commits have and the earlier ones don't
abbrev pub fresh_objects : List Block → List Block → List Object
fresh_objects blocks new = only_new same_object (objects_in (commits_in blocks)) (objects_in (commits_in new))

-- what the stream brings
pub record IsRead (k : Kept) (new : List Block) : Type 0 where
  pub came : List Placed
  pub reads : stream_reading (known_of k).objects (git_increment (commits_in k.blocks) (commits_in new)) ≡ Ok came
  pub are : objects_among came ≡ fresh_objects k.blocks new

-- the commits of more blocks
pub more_commits : (blocks new : List Block) → commits_in (blocks ++ new) ≡ commits_in blocks ++ commits_in new
more_commits blocks new = map_append (λ (b : Block). b.commit) blocks new

-- a dump of more blocks has those of the first, and behind them what is new
pub dump_grows : (blocks new : List Block) → dump_objects (commits_in (blocks ++ new)) ≡ dump_objects (commits_in blocks) ++ fresh_objects blocks new
dump_grows blocks new =
    ap (only_new same_object []) (ap objects_in (more_commits blocks new) ∙ objects_in-append (commits_in blocks) (commits_in new))
    ∙ only_new-append same_object same_object_turned [] (objects_in (commits_in blocks)) (objects_in (commits_in new))

-- it is one thing which of two objects is another than which
turned : (a b : Object) → is_other_content a b ≡ is_other_content b a
turned a b = (λ i. bytes_eq-sym a.id b.id i && not (bytes_eq-sym (kind_word a.kind) (kind_word b.kind) i && bytes_eq-sym a.content b.content i))

module _ (k : Kept) (new : List Block) (tags : List Object) (all : IsSaved (record { blocks = k.blocks ++ new; tags = k.tags ++ tags })) where
  abbrev old : List Object
  old = dump_objects (commits_in k.blocks)

  abbrev fresh : List Object
  fresh = fresh_objects k.blocks new

  abbrev cs : List CommitView
  cs = commits_in (k.blocks ++ new)

  of-commits : AreRead [] (dump_objects cs)
  of-commits = dump-read cs all.commits

  of-tags : AreRead (objects_in cs) (k.tags ++ tags)
  of-tags = are-read (objects_in cs) (k.tags ++ tags) (all.tags).read

  rest : (P : Object → Type 0) → Each P (dump_objects cs) → Each P fresh
  rest P each = Each-rest P old fresh (subst (Each P) (dump_grows k.blocks new) each)

  fresh-in : (o : Object) → In o fresh → In o (objects_in cs)
  fresh-in o i = of_new cs all.commits o (subst (In o) (sym (dump_grows k.blocks new)) (in_right o old fresh i))

  old-in : (o : Object) → In o old → In o (objects_in cs)
  old-in o i = of_new cs all.commits o (subst (In o) (sym (dump_grows k.blocks new)) (in_left o old fresh i))

  apart : (o x : Object) → In o fresh → In x (known_of k).objects → is_other_content o x ≡ false
  apart o x i j = elim (of_append x old k.tags (in-all (old ++ k.tags) x j)) [
    | inl d ↦ one_of (objects_in cs) (all.commits).one o x (fresh-in o i) (old-in x d)
    | inr t ↦ turned o x ∙ adds-apart (objects_in cs) (k.tags ++ tags) of-tags.adds x o (in_left x k.tags tags t) (fresh-in o i)
  ]

  adds : AddsAll (known_of k).objects fresh
  adds = adds-all (known_of k).objects fresh (rest HasContent (adds-contents [] (dump_objects cs) of-commits.adds)) apart
      (λ o x i j. one_of (objects_in cs) (all.commits).one o x (fresh-in o i) (fresh-in x j))

  text-is : stream_text fresh ≡ git_increment (commits_in k.blocks) (commits_in new)
  unfolding git_increment
  text-is = refl

  short : length (stream_text fresh) ≤ input_limit
  short =
      let is : git_dump cs ≡ stream_text old ++ stream_text fresh = dump-is cs ∙ ap stream_text (dump_grows k.blocks new) ∙ stream_text-append old fresh in
      omega (arith, ap (λ (l : Bytes). length l) is, length-append (stream_text old) (stream_text fresh), (all.commits).short)

  pub is-read : IsRead k new
  is-read =
      let brings = brings_all (known_of k).objects fresh (rest IsFit of-commits.fit) short (rest (λ o. o.id ≡ object_id o.kind o.content) of-commits.checked) adds in
      record { came = brings.placed; reads = subst (λ (bytes : Bytes). stream_reading (known_of k).objects bytes ≡ Ok brings.placed) text-is brings.reads; are = brings.are }
