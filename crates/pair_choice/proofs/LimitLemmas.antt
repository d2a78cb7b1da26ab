-- The unmarking of a changeset within its limits, and the links of a commit within theirs.
use Rattle.std.proofs.Common.{◌≡◌, ◌≤◌, ℕ, zero, suc, Bool, true, false, List, [], ◌∷◌, map, length, None, refl, sym, subst, ◌∙◌, inl, inr, arith}
use Rattle.std.specs.Prelude.{IsTrue, slice_get, Option, Some, Result, Ok, Err, IfErr, MatchOption}
use Rattle.text_model.proofs.Options.{some_is, none_some}
use Rattle.std.specs.Result.{IsErrAnd}
use Rattle.text_model.specs.Lists.{Each, In, rises}
use Rattle.text_model.specs.Text.{Bytes, is_below}
use Rattle.text_model.specs.Id.{commit}
use Rattle.text_model.proofs.Elements.{each_from, each_in}
use Rattle.text_model.proofs.EachLemmas.{Each-front}
use Rattle.git_model.specs.Commit.{commit_text}
use Rattle.git_model.specs.Object.{Object, object_of}
use Rattle.git_model.specs.Shape.{shape_objects, shape_depth, first_clash}
use Rattle.git_model.specs.Tree.{is_blob_mode}
use Rattle.hg_model.specs.Revision.{Revision}
use Rattle.hg_store.specs.Known.{AreAdded}
use Rattle.tree_shape.specs.Sets.{IsFiles}
use Rattle.view_model.specs.View.{Row, TreeRow, ChangesetView, CommitView, CommitFits, ChangesetFits, HaveSameBodies, files_among, tree_paths, leaf_of_row, commit_objects, text_limit}
use Rattle.view_model.specs.Held.{file_row_of}
use Rattle.commit_rule.specs.Parts.{AreShortBodies}
use Rattle.commit_rule.proofs.FileLemmas.{content-short, paths-same, unclashed, none-any, path-in}
use Rattle.commit_rule.proofs.Handed.{file-rows}
use Rattle.pair_known.specs.Ruled.{IsMadeCommit, IsMadeChangeset}
use Rattle.pair_known.specs.declared.git_draft.GitDraft.{GitDraft}
use Rattle.pair_known.specs.declared.hg_draft.HgDraft.{HgDraft}
use Rattle.changeset_unmark.specs.Drafts.{IsBuiltCommit}
use Rattle.changeset_unmark.proofs.OverLemmas.{made-commit}
use Rattle.link_rule.specs.Links.{AreLinksMade}
use Rattle.pair_choice.proofs.BodyLemmas.{file-of, row-of, among-files, files-in, no-content}

module _ (git : List Object) (d : GitDraft) (c : CommitView) (built : IsBuiltCommit git d c) (hs : List Row) (same : HaveSameBodies hs (files_among c.rows)) where
  short-row : AreShortBodies hs → (t : TreeRow) → In t c.rows → length t.content ≤ text_limit
  short-row short t i = by (is_blob_mode t.mode) refl
    where
      by : (b : Bool) → is_blob_mode t.mode ≡ b → length t.content ≤ text_limit
      by true e =
          let f = file-of hs (files_among c.rows) same t (among-files c.rows t i e) in
          subst (λ (body : Bytes). length body ≤ text_limit) f.body (each_in (λ (row : Row). length (row.revision).body ≤ text_limit) hs f.row short f.among)
      by false e =
          let none = no-content t.mode t.id t.content (each_in _ c.rows t (built.view).rows i).3 e in
          subst (λ (body : Bytes). length body ≤ text_limit) (sym none) (omega arith)

  -- where the bodies are short, the draft is one that is made
  pub made : AreShortBodies hs → IsMadeCommit git d c
  made short = made-commit git d c built (each_from (λ (t : TreeRow). length t.content ≤ text_limit) c.rows (short-row short))

  files : IsFiles (map file_row_of c.rows)
  files = record { each = file-rows c.rows (built.view).rows; in_order = subst (λ (paths : List Bytes). IsTrue (rises is_below paths)) (sym (paths-same c.rows)) (built.view).in_order }

  unclashed-rows : first_clash (map file_row_of c.rows) ≡ None
  unclashed-rows = unclashed 0 [] (map file_row_of c.rows) (λ t b i j. none-any (λ (p : Bytes). _) (tree_paths c.rows) (none-any (λ (p : Bytes). _) (tree_paths c.rows) (built.view).no_clash t.path (path-in c.rows t i)) b.path (path-in c.rows b j))

  -- where the commit is within its limits, the bodies are short
  pub bodies-within : CommitFits c → AreShortBodies hs
  unfolding commit_objects
  bodies-within fits = each_from (λ (row : Row). length (row.revision).body ≤ text_limit) hs (λ row i.
      let r = row-of hs (files_among c.rows) same row i in
      let in-rows = files-in c.rows r.row r.among in
      subst (λ (body : Bytes). length body ≤ text_limit) (sym r.body)
      (content-short c.rows files unclashed-rows (Each-front (λ (o : Object). length o.content ≤ text_limit) (shape_objects shape_depth (map leaf_of_row c.rows)) (object_of commit (commit_text c.value) ∷ []) fits.objects) r.row in-rows.0 in-rows.1))

-- ---- links

-- a changeset that the draft stands for is within its limits
abbrev pub IsWithin : HgDraft → Type 0
IsWithin d = (known : List Revision) (l : ChangesetView) → AreAdded known → IsMadeChangeset known d l → ChangesetFits l

-- the view of a link that is made
pub link-at : (known : List Revision) (ds : List HgDraft) (ls : List ChangesetView) → AreLinksMade known ds ls → (i : ℕ) (d : HgDraft) → slice_get ds i ≡ Some d → (l : ChangesetView) × In l ls × IsMadeChangeset known d l
link-at known [] [] are i d at = absurd (none_some at)
link-at known [] (l ∷ ls) are i d at = absurd are
link-at known (x ∷ ds) [] are i d at = absurd are
link-at known (x ∷ ds) (l ∷ ls) are zero d at = (l, inl refl, subst (λ (y : HgDraft). IsMadeChangeset known y l) (some_is at) are.0)
link-at known (x ∷ ds) (l ∷ ls) are (suc i) d at = let r = link-at known ds ls are.2 i d at in (r.0, inr r.1, r.2)

pub links-fit : (known : List Revision) (ds : List HgDraft) (ls : List ChangesetView) → AreAdded known → AreLinksMade known ds ls → Each IsWithin ds → Each ChangesetFits ls
links-fit known [] [] added are h = tt
links-fit known [] (l ∷ ls) added are h = absurd are
links-fit known (d ∷ ds) [] added are h = absurd are
links-fit known (d ∷ ds) (l ∷ ls) added are h = (h.0 known l added are.0, links-fit known ds ls added are.2 h.1)

-- ---- faults

-- what holds of the fault that is made holds of the answer
pub err-is : {T E : Type 0} (P : E → Type 0) (r : Result T E) (f : E) → IsErrAnd r (λ e. e ≡ f) → P f → IfErr r P
err-is P (Ok x) f h p = tt
err-is P (Err e) f h p = subst P (sym h) p

-- the fault of the answer is the one that is made
pub fault-is : {T E : Type 0} (r : Result T E) (f g : E) → IsErrAnd r (λ e. e ≡ f) → r ≡ Err g → f ≡ g
fault-is (Ok x) f g h e = absurd h
fault-is (Err y) f g h e = let is : y ≡ g = cc in sym h ∙ is

-- ---- what is found

pub match-some : {X : Type 0} (A : Type 0) (B : X → Type 0) (o : Option X) (x : X) → MatchOption o A B → o ≡ Some x → B x
match-some A B None x h e = absurd cc
match-some A B (Some y) x h e = subst B (some_is e) h

pub match-none : {X : Type 0} (A : Type 0) (B : X → Type 0) (o : Option X) → MatchOption o A B → o ≡ None → A
match-none A B None h e = h
match-none A B (Some y) h e = absurd cc
