-- A changeset that has an unmarking has no path below another: its paths are among those of the commit, which has none.
use Rattle.std.proofs.Common.{◌≡◌, Bool, true, false, List, [], ◌∷◌, ◌∙◌, inl, inr}
use Rattle.std.specs.Prelude.{if◌then◌else◌}
use Rattle.std.specs.List.{list_any}
use Rattle.text_model.specs.Lists.{In}
use Rattle.text_model.specs.Text.{Bytes}
use Rattle.text_model.specs.Path.{lies_below}
use Rattle.text_model.proofs.Elements.{each_in, none_all}
use Rattle.git_model.specs.Tree.{is_blob_mode}
use Rattle.git_model.proofs.FitLemmas.{each_none}
use Rattle.view_model.specs.View.{Row, TreeRow, ChangesetView, CommitView, paths_of, tree_paths, files_among, has_clash, HaveSameBodies}
use Rattle.pair_model.specs.Block.{Block}
use Rattle.partner_model.specs.Partner.{UnmarksChangeset}

path-of-file : (rows : List TreeRow) (p : Bytes) → In p (tree_paths (files_among rows)) → In p (tree_paths rows)
path-of-file [] p i = i
path-of-file (r ∷ rs) p i = by (is_blob_mode r.mode) i (λ j. path-of-file rs p j)
  where
    by : (test : Bool) → In p (tree_paths (if test then r ∷ files_among rs else files_among rs)) → (In p (tree_paths (files_among rs)) → In p (tree_paths rs)) → In p (tree_paths (r ∷ rs))
    by true (inl e) go = inl e
    by true (inr j) go = inr (go j)
    by false j go = inr (go j)

path-of-row : (files : List Row) (rows : List TreeRow) → HaveSameBodies files rows → (p : Bytes) → In p (paths_of files) → In p (tree_paths rows)
path-of-row [] [] same p i = i
path-of-row [] (r ∷ rs) same p i = absurd i
path-of-row (f ∷ fs) [] same p i = absurd same
path-of-row (f ∷ fs) (r ∷ rs) same p (inl e) = inl (e ∙ same.0)
path-of-row (f ∷ fs) (r ∷ rs) same p (inr j) = inr (path-of-row fs rs same.2 p j)

free : (paths : List Bytes) → has_clash paths ≡ false → (p q : Bytes) → In p paths → In q paths → lies_below p q ≡ false
free paths none p q i j =
    let a = each_in (λ x. list_any (lies_below x) paths ≡ false) paths p (each_none (λ x. list_any (lies_below x) paths) paths none) i in
    each_in (λ x. lies_below p x ≡ false) paths q (each_none (lies_below p) paths a) j

pub unmarked-apart : (blocks : List Block) (Known : ChangesetView → Type 0) (h : ChangesetView) (c : CommitView) → UnmarksChangeset blocks Known h c → has_clash (paths_of h.rows) ≡ false
unmarked-apart blocks Known h c u =
    let paths = paths_of h.rows in
    let among = λ (p : Bytes) (i : In p paths). path-of-file c.rows p (path-of-row h.rows (files_among c.rows) u.bodies p i) in
    none_all (λ p. list_any (lies_below p) paths) paths (λ p i.
    none_all (lies_below p) paths (λ q j. free (tree_paths c.rows) (u.view).no_clash p q (among p i) (among q j)))
