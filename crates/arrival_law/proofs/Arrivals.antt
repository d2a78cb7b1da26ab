-- The stream of a saved history with its tags arrives as it is written: the commits in their order, and the tags in theirs.
use Rattle.std.proofs.Common.{◌≡◌, Bool, true, false, List, [], ◌∷◌, ◌++◌, map, filter, refl, sym, ap, subst, ◌∙◌, append-nil, inl, inr}
use Rattle.std.specs.Prelude.{IsTrue}
use Rattle.std.proofs.lemmas.List.Elements.{filter-append}
use Rattle.text_model.specs.Lists.{Each, In}
use Rattle.text_model.specs.Id.{commit, tag, kind_word, same_kind}
use Rattle.text_model.proofs.Elements.{each_from, each_in}
use Rattle.text_model.proofs.TestLemmas.{bytes_eq-sym}
use Rattle.git_model.specs.Commit.{parent_ids}
use Rattle.git_model.specs.Object.{Object, objects_after_all}
use Rattle.git_model.specs.Order.{Ancestry}
use Rattle.git_model.specs.Stream.{Placed}
use Rattle.git_model.proofs.CommitLemmas.{parent_ids-text}
use Rattle.git_store.proofs.KnownLemmas.{same_kind-is}
use Rattle.view_model.specs.View.{CommitView, IsCommitView, commit_objects}
use Rattle.pair_model.specs.Block.{Block, commits_in}
use Rattle.history_model.specs.Pull.{objects_among, ancestries}
use Rattle.state_model.specs.Kept.{Kept, is_tag}
use Rattle.saved_model.specs.Step.{dump_objects}
use Rattle.dump_law.proofs.Commits.{id_is, own_in_order}
use Rattle.dump_law.proofs.CommitsHeld.{of_new}
use Rattle.dump_law.proofs.Streams.{commit_parts, commit_split, own, shapes_of, of_append, of_flat}
use Rattle.next_law.proofs.Known.{IsSaved}
use Rattle.closure_model.specs.Arrives.{StreamArrives, AreCommitsRead, ancestry_of_block}
use Rattle.arrival_law.proofs.Stream.{is-read}
use Rattle.arrival_law.proofs.Objects.{commits-read}

keeps-all : {X : Type 0} (test : X → Bool) (xs : List X) → Each (λ x. test x ≡ true) xs → filter test xs ≡ xs
keeps-all test [] h = refl
keeps-all test (x ∷ xs) h = rw h.0 (ap (λ y. x ∷ y) (keeps-all test xs h.1))

pub keeps-none : {X : Type 0} (test : X → Bool) (xs : List X) → Each (λ x. test x ≡ false) xs → filter test xs ≡ []
keeps-none test [] h = refl
keeps-none test (x ∷ xs) h = rw h.0 (keeps-none test xs h.1)

-- ---- the commits that came

abbrev pub is_commit : Object → Bool
is_commit o = same_kind commit o.kind

abbrev pub ancestry : Object → Ancestry
ancestry o = record { id = o.id; parents = parent_ids o.content }

pub commits-came : (came : List Placed) → ancestries came ≡ map ancestry (filter is_commit (objects_among came))
commits-came [] = refl
commits-came (p ∷ came) = by (is_commit p.object) refl (commits-came came)
  where
    by : (t : Bool) → is_commit p.object ≡ t → ancestries came ≡ map ancestry (filter is_commit (objects_among came)) → ancestries (p ∷ came) ≡ map ancestry (filter is_commit (objects_among (p ∷ came)))
    by true e go = rw (e, bytes_eq-sym (kind_word (p.object).kind) (kind_word commit) ∙ e) (ap (λ l. ancestry p.object ∷ l) go)
    by false e go = rw (e, bytes_eq-sym (kind_word (p.object).kind) (kind_word commit) ∙ e) go

pub own-ancestries : (blocks : List Block) → Each IsCommitView (commits_in blocks) → map ancestry (map own (commits_in blocks)) ≡ map ancestry_of_block blocks
own-ancestries [] views = refl
own-ancestries (b ∷ blocks) views =
    let c = b.commit in
    (λ i. record { id = sym (id_is c) i; parents = parent_ids-text (own c).content c.value ((views.0).value, refl) i } ∷ own-ancestries blocks views.1 i)

-- ---- no commit is a tag

tag-alone : (o : Object) → IsTrue (is_tag o) → is_commit o ≡ false
tag-alone o t = ap (λ kind. same_kind commit kind) (same_kind-is o.kind tag t)

pub part-alone : (c : CommitView) → IsCommitView c → (o : Object) → In o (commit_objects c) → is_tag o ≡ false
part-alone c v o i = elim (of_append o (shapes_of c) (own c ∷ []) (subst (λ (l : List Object). In o l) (commit_split c) i)) [
  | inl j ↦ (commit_parts c v o j).no_tag
  | inr (inl q) ↦ ap is_tag q
  | inr (inr j) ↦ absurd j
]

-- ---- the whole

module _ (k : Kept) (saved : IsSaved k) where
  abbrev cs : List CommitView
  cs = commits_in k.blocks

  abbrev dump : List Object
  dump = dump_objects cs

  no-tags : Each (λ o. is_tag o ≡ false) dump
  no-tags = each_from (λ o. is_tag o ≡ false) dump (λ o i.
      let r = of_flat commit_objects o cs (of_new cs saved.commits o i) in
      part-alone r.0 (each_in IsCommitView cs r.0 (saved.commits).views r.1) o r.2)

  no-commits : Each (λ o. is_commit o ≡ false) k.tags
  no-commits = each_from (λ o. is_commit o ≡ false) k.tags (λ o i. tag-alone o (each_in (λ o. IsTrue (is_tag o)) k.tags o (saved.tags).tags_only i))

  commits-are : map ancestry (filter is_commit (dump ++ k.tags)) ≡ map ancestry_of_block k.blocks
  commits-are =
      let kept : filter is_commit (dump ++ k.tags) ≡ map own cs =
      filter-append is_commit dump k.tags ∙ (λ i. own_in_order cs saved.commits i ++ keeps-none is_commit k.tags no-commits i) ∙ append-nil (map own cs) in
      ap (map ancestry) kept ∙ own-ancestries k.blocks (saved.commits).views

  tags-are : filter is_tag (dump ++ k.tags) ≡ k.tags
  tags-are = filter-append is_tag dump k.tags ∙ (λ i. keeps-none is_tag dump no-tags i ++ keeps-all is_tag k.tags (saved.tags).tags_only i)

  pub arrives : StreamArrives k.blocks k.tags
  arrives =
      let read = is-read k saved in
      record {
        came = read.came;
        reads = read.reads;
        commits = commits-came read.came ∙ ap (λ (os : List Object). map ancestry (filter is_commit os)) read.are ∙ commits-are;
        read = subst (λ (os : List Object). AreCommitsRead (objects_after_all [] os) k.blocks) (sym read.are) (commits-read k saved);
        objects = read.are;
        tags_are = ap (filter is_tag) read.are ∙ tags-are;
      }
