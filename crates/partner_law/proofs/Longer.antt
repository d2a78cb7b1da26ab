-- A longer table gives the same marked commit.
use Rattle.std.proofs.Common.{◌≡◌, ◌≢◌, Bool, true, false, List, [], ◌∷◌, ◌++◌, map, None, refl, sym, ap, subst, ◌∙◌, inl, inr}
use Rattle.std.specs.Prelude.{bytes_eq, is_some, option_map, unwrap_or, IsTrue}
use Rattle.std.specs.List.{find}
use Rattle.std.proofs.lemmas.List.Concat.{flat_map-append}
use Rattle.text_model.specs.Lists.{Each, In}
use Rattle.text_model.specs.Id.{Id, null, is_null}
use Rattle.pair_model.specs.Block.{Block, node_of, id_of, block_of_node, git_partner, changesets_in, view_at, view_or_none, no_changeset, not_null, Parents}
use Rattle.pair_model.specs.User.{message_of}
use Rattle.view_model.specs.View.{ChangesetView, CommitView, changeset_node, root_of_rows}
use Rattle.git_model.specs.Residue.{ResidueItem, carried}
use Rattle.view_model.specs.Held.{file_row_of}
use Rattle.pair_model.specs.Rule.{old_residue, carried_to, tree_rows_with, author_by, rule_commit, tree_row_of}
use Rattle.unmark_law.proofs.TreeRows.{residue_at}
use Rattle.pair_model.specs.MarkList.{marks_text}
use Rattle.partner_model.specs.Mark.{commit_marks, parents_of_changeset, mark_commit}
use Rattle.partner_model.specs.Partner.{AreChangesetParentsPaired}
use Rattle.unmark_law.proofs.Tables.{HasNode, finds, found_there, eq_true}

-- what is found is found in a longer list
find_longer : {X : Type 0} (test : X → Bool) (xs ys : List X) → IsTrue (is_some (find test xs)) → find test (xs ++ ys) ≡ find test xs
find_longer test [] ys h = absurd cc
find_longer test (x ∷ xs) ys h = by (test x) refl (find_longer test xs ys)
  where
    by : (t : Bool) → test x ≡ t → (IsTrue (is_some (find test xs)) → find test (xs ++ ys) ≡ find test xs) → find test (x ∷ xs ++ ys) ≡ find test (x ∷ xs)
    by true e go = rw e refl
    by false e go =
        let g : IsTrue (is_some (find test xs)) = rw e at h in
        rw e (go g)

-- what stands nowhere isn't found
none_found : (views : List ChangesetView) (node : Id) → Each (λ v. changeset_node v ≢ node) views → view_at views node ≡ None
none_found [] node h = refl
none_found (v ∷ vs) node h = by (bytes_eq (changeset_node v) node) refl (none_found vs node h.1)
  where
    by : (t : Bool) → bytes_eq (changeset_node v) node ≡ t → view_at vs node ≡ None → view_at (v ∷ vs) node ≡ None
    by true e go = absurd (h.0 (eq_true (changeset_node v) node e))
    by false e go = rw e go

in_front : {X : Type 0} (x : X) (xs ys : List X) → In x ys → In x (xs ++ ys)
in_front x [] ys h = h
in_front x (y ∷ xs) ys h = inr (in_front x xs ys h)

in_back : {X : Type 0} (x : X) (xs ys : List X) → In x xs → In x (xs ++ ys)
in_back x [] ys h = absurd h
in_back x (y ∷ xs) ys (inl e) = inl e
in_back x (y ∷ xs) ys (inr h) = inr (in_back x xs ys h)

block_in : (blocks : List Block) (b : Block) → In b blocks → In b.changeset (changesets_in blocks)
block_in [] b h = absurd h
block_in (d ∷ ds) b (inl e) = in_back b.changeset (d.links ++ d.changeset ∷ []) (changesets_in ds) (in_front b.changeset d.links (d.changeset ∷ []) (inl (ap (λ x. x.changeset) e)))
block_in (d ∷ ds) b (inr h) = in_front b.changeset (d.links ++ d.changeset ∷ []) (changesets_in ds) (block_in ds b h)

-- no changeset of the blocks has the null node
abbrev pub NoneNull : List Block → Type 0
NoneNull blocks = Each (λ v. changeset_node v ≢ null) (changesets_in blocks)

view_longer : (blocks more : List Block) (n : Id) → HasNode blocks n → view_or_none (changesets_in (blocks ++ more)) n ≡ view_or_none (changesets_in blocks) n
view_longer blocks more n h =
    let f = finds node_of n blocks h in
    let there = found_there changeset_node (changesets_in blocks) (f.it).changeset (block_in blocks f.it f.among) in
    let some : IsTrue (is_some (view_at (changesets_in blocks) n)) = subst (λ x. IsTrue (is_some (view_at (changesets_in blocks) x))) f.is there in
    ap (λ x. view_or_none x n) (flat_map-append (λ (b : Block). b.links ++ b.changeset ∷ []) blocks more) ∙ ap (λ o. unwrap_or o no_changeset) (find_longer (λ v. bytes_eq (changeset_node v) n) (changesets_in blocks) (changesets_in more) some)

view_null : (blocks : List Block) → NoneNull blocks → view_or_none (changesets_in blocks) null ≡ no_changeset
view_null blocks h = ap (λ o. unwrap_or o no_changeset) (none_found (changesets_in blocks) null h)

git_longer : (blocks more : List Block) (n : Id) → HasNode blocks n → git_partner (blocks ++ more) n ≡ git_partner blocks n
git_longer blocks more n h = ap (λ o. unwrap_or (option_map id_of o) null) (find_longer (λ b. bytes_eq (node_of b) n) blocks more h)

gits_longer : (blocks more : List Block) (ns : List Id) → Each (HasNode blocks) ns → map (git_partner (blocks ++ more)) ns ≡ map (git_partner blocks) ns
gits_longer blocks more [] h = refl
gits_longer blocks more (n ∷ ns) h =
    let a = git_longer blocks more n h.0 in
    let b = gits_longer blocks more ns h.1 in
    λ i. a i ∷ b i

-- the view of a parent that has a block or is null
parent_longer : (blocks more : List Block) → NoneNull blocks → NoneNull (blocks ++ more) → (n : Id) (rest : List Id) → Each (HasNode blocks) (not_null (n ∷ rest)) → view_or_none (changesets_in (blocks ++ more)) n ≡ view_or_none (changesets_in blocks) n
parent_longer blocks more a b n rest h = by (is_null n) refl
  where
    by : (t : Bool) → is_null n ≡ t → view_or_none (changesets_in (blocks ++ more)) n ≡ view_or_none (changesets_in blocks) n
    by true e = subst (λ x. view_or_none (changesets_in (blocks ++ more)) x ≡ view_or_none (changesets_in blocks) x) (sym (eq_true n null e)) (view_null (blocks ++ more) b ∙ sym (view_null blocks a))
    by false e =
        let g = rw e at h in
        view_longer blocks more n g.0

rest_paired : (blocks : List Block) (n : Id) (rest : List Id) → Each (HasNode blocks) (not_null (n ∷ rest)) → Each (HasNode blocks) (not_null rest)
rest_paired blocks n rest h = by (is_null n) refl
  where
    by : (t : Bool) → is_null n ≡ t → Each (HasNode blocks) (not_null rest)
    by true e = rw e at h
    by false e =
        let g = rw e at h in
        g.1

block_null : (blocks : List Block) → NoneNull blocks → block_of_node blocks null ≡ None
block_null blocks h = none_at blocks (λ b among. null_not blocks h b among)
  where
    at : (vs : List ChangesetView) (v : ChangesetView) → Each (λ v. changeset_node v ≢ null) vs → In v vs → changeset_node v ≢ null
    at [] v k i = absurd i
    at (x ∷ xs) v k (inl e) = subst (λ y. changeset_node y ≢ null) (sym e) k.0
    at (x ∷ xs) v k (inr i) = at xs v k.1 i

    null_not : (bs : List Block) → NoneNull bs → (b : Block) → In b bs → node_of b ≢ null
    null_not bs k b i = at (changesets_in bs) b.changeset k (block_in bs b i)

    none_at : (bs : List Block) → ((b : Block) → In b bs → node_of b ≢ null) → block_of_node bs null ≡ None
    none_at [] k = refl
    none_at (b ∷ bs) k = by (bytes_eq (node_of b) null) refl (none_at bs (λ d i. k d (inr i)))
      where
        by : (t : Bool) → bytes_eq (node_of b) null ≡ t → block_of_node bs null ≡ None → block_of_node (b ∷ bs) null ≡ None
        by true e go = absurd (k b (inl refl) (eq_true (node_of b) null e))
        by false e go = rw e go

-- what the first parent's partner has beside its files
old_longer : (blocks more : List Block) → NoneNull blocks → NoneNull (blocks ++ more) → (n : Id) (rest : List Id) → Each (HasNode blocks) (not_null (n ∷ rest)) → old_residue (blocks ++ more) n ≡ old_residue blocks n
old_longer blocks more a b n rest h = by (is_null n) refl
  where
    by : (t : Bool) → is_null n ≡ t → old_residue (blocks ++ more) n ≡ old_residue blocks n
    by true e =
        let x : block_of_node (blocks ++ more) null ≡ block_of_node blocks null = block_null (blocks ++ more) b ∙ sym (block_null blocks a) in
        ap (old_residue (blocks ++ more)) (eq_true n null e) ∙ ap (λ o. residue_at o) x ∙ ap (old_residue blocks) (sym (eq_true n null e))
    by false e =
        let g = rw e at h in
        ap (λ o. residue_at o) (find_longer (λ d. bytes_eq (node_of d) n) blocks more g.0)

abbrev made : List Id → List ResidueItem → Parents → ChangesetView → CommitView
made ids items ps h = record {
  value = record {
    tree_id = root_of_rows (tree_rows_with items (map tree_row_of h.rows));
    parents = ids;
    author = author_by (h.fields).user (h.fields).date;
    committer = author_by (h.fields).user (h.fields).date;
    headers = marks_text (commit_marks ps h);
    message = message_of (h.fields).description;
  };
  rows = tree_rows_with items (map tree_row_of h.rows);
}

mark_is : (blocks : List Block) (h : ChangesetView) → mark_commit blocks h ≡ made (map (git_partner blocks) (not_null (h.p ∷ h.q ∷ []))) (carried_to blocks h) (parents_of_changeset blocks h) h
unfolding mark_commit rule_commit
mark_is blocks h = refl

pub mark_commit_longer : (blocks more : List Block) (h : ChangesetView) → NoneNull blocks → NoneNull (blocks ++ more) → AreChangesetParentsPaired blocks h → mark_commit (blocks ++ more) h ≡ mark_commit blocks h
mark_commit_longer blocks more h a b paired =
    let p = parent_longer blocks more a b h.p (h.q ∷ []) paired in
    let q = parent_longer blocks more a b h.q [] (rest_paired blocks h.p (h.q ∷ []) paired) in
    let ids = gits_longer blocks more (not_null (h.p ∷ h.q ∷ [])) paired in
    let old = old_longer blocks more a b h.p (h.q ∷ []) paired in
    mark_is (blocks ++ more) h ∙ (λ i. made (ids i) (carried (old i) (map file_row_of (map tree_row_of h.rows))) (record { p = h.p; q = h.q; first = p i; second = q i }) h) ∙ sym (mark_is blocks h)
