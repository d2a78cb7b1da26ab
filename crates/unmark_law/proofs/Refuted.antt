-- Without a premise on the blocks the law of unmarking is false: two blocks with one commit and two changesets.
use Rattle.std.proofs.Common.{◌≡◌, ◌≢◌, ℕ, zero, suc, true, false, List, [], ◌∷◌, ◌++◌, length, map, replicate, Some, refl, sym, ap, subst, ◌∙◌, arith}
use Rattle.std.specs.Prelude.{bytes_eq, codes, pos, option_map, unwrap_or}
use Rattle.std.specs.List.{list_all}
use Rattle.std.specs.Prelude.{nat_lt}
use Rattle.std.proofs.lemmas.Int.{ints}
use Rattle.std.proofs.lemmas.Bool.{false_from_ne_true, and_parts, ltb-true}
use Rattle.std.proofs.lemmas.Slice.Eq.{bytes_eq-Decides}
use Rattle.text_model.specs.Text.{IsBytes}
use Rattle.text_model.specs.Id.{Id, IsId, null, is_null, node_id}
use Rattle.std.specs.Fmt.{digits}
use Rattle.sha1.specs.Sha1.{sha1, hash_after, compress, rounds, schedule, first_words, digest_bytes}
use Rattle.hex.specs.Hex.{encode_with}
use Rattle.hg_model.specs.Changeset.{Plain, changeset_text}
use Rattle.hg_model.specs.Manifest.{manifest_text}
use Rattle.pair_model.specs.Block.{Block, id_of, not_null, git_partner, block_of_node, view_or_none, Parents}
use Rattle.hg_model.specs.Revision.{Revision}
use Rattle.view_model.specs.View.{files_among, root_of_rows, ChangesetView, IsChangesetView, NoManifest, manifest_node, CommitView, SameCommit, changeset_node, commit_id}
use Rattle.pair_model.specs.Rule.{old_residue, tree_rows_with, author_by, rule_commit, ruled_manifest, ruled_files}
use Rattle.unmark_law.proofs.TreeRows.{residue_at}
use Rattle.pair_model.specs.User.{user_of_line, message_of}
use Rattle.pair_model.specs.MarkList.{Mark, marks_text}
use Rattle.pair_model.specs.Octopus.{is_link, is_link_view}
use Rattle.partner_model.specs.Mark.{manifest_marks, files_marks, user_marks, date_marks, commit_marks, parents_of_changeset, mark_commit, residue_in}
use Rattle.partner_model.specs.Partner.{IsHeldView, UnmarksCommit}
use Rattle.unmark_law.specs.Unmarkings.{UnmarkingIsOne}
use Rattle.unmark_law.proofs.Tables.{eq_true, eq_false}
use Rattle.unmark_law.proofs.Same.{same_commit}

-- a changeset without files
abbrev over : Id → ChangesetView
over n = record {
  p = n;
  q = null;
  fields = record { manifest = null; user = codes "a"; date = Plain (pos 0) (pos 0) []; files = []; description = [] };
  manifest = NoManifest;
  rows = [];
}

zeros : (k : ℕ) → IsBytes (replicate k 0)
zeros zero = tt
zeros (suc k) = (omega arith, zeros k)

null_id : IsId null
null_id = (refl, zeros 20)

over_view : (n : Id) → IsId n → IsChangesetView (over n)
unfolding manifest_node
over_view n is = record {
  parents = (is, null_id);
  first = λ e. refl;
  distinct = λ e. e;
  fields = record {
    manifest = null_id;
    user = ((λ e. absurd cc), refl, (omega arith, tt));
    date = record { time_low = omega (arith, ints); time_high = omega (arith, ints); tz_low = omega (arith, ints); tz_high = omega (arith, ints); items = (tt, refl) };
    files = tt;
    description = tt;
  };
  manifest = refl;
  rows = tt;
  in_order = refl;
  agrees = refl;
}

over_no_link : (n : Id) → is_null n ≡ false → is_link_view (over n) ≡ false
unfolding is_link
over_no_link n e = rw e refl

abbrev two : ChangesetView → ChangesetView → CommitView → List Block
two k l c = record { links = []; changeset = k; commit = c } ∷ record { links = []; changeset = l; commit = c } ∷ []

pub record AreTwo (k l : ChangesetView) : Type 0 where
  pub k_id : IsId (changeset_node k)
  pub l_id : IsId (changeset_node l)
  pub k_there : changeset_node k ≢ null
  pub l_there : changeset_node l ≢ null
  pub apart : changeset_node k ≢ changeset_node l
  pub k_rows : k.rows ≡ []
  pub l_rows : l.rows ≡ []
  pub k_manifest : k.manifest ≡ NoManifest
  pub l_manifest : l.manifest ≡ NoManifest

unequal : (x y : Id) → x ≢ y → bytes_eq x y ≡ false
unequal x y n = false_from_ne_true (bytes_eq x y) (λ e. n (eq_true x y e))

has_k : (k l : ChangesetView) (c : CommitView) → block_of_node (two k l c) (changeset_node k) ≡ Some (record { links = []; changeset = k; commit = c })
has_k k l c = rw ((bytes_eq-Decides (changeset_node k) (changeset_node k)).1 refl) refl

has_l : (k l : ChangesetView) (c : CommitView) → AreTwo k l → block_of_node (two k l c) (changeset_node l) ≡ Some (record { links = []; changeset = l; commit = c })
has_l k l c t = rw (unequal (changeset_node k) (changeset_node l) t.apart, (bytes_eq-Decides (changeset_node l) (changeset_node l)).1 refl) refl

view_k : (k l : ChangesetView) → view_or_none (k ∷ l ∷ []) (changeset_node k) ≡ k
view_k k l = rw ((bytes_eq-Decides (changeset_node k) (changeset_node k)).1 refl) refl

view_l : (k l : ChangesetView) → AreTwo k l → view_or_none (k ∷ l ∷ []) (changeset_node l) ≡ l
view_l k l t = rw (unequal (changeset_node k) (changeset_node l) t.apart, (bytes_eq-Decides (changeset_node l) (changeset_node l)).1 refl) refl

view_null : (k l : ChangesetView) → AreTwo k l → (view_or_none (k ∷ l ∷ []) null).rows ≡ []
view_null k l t = rw (unequal (changeset_node k) null t.k_there, unequal (changeset_node l) null t.l_there) refl

-- over a first parent without files and manifest nothing of it is marked
no_manifest : (ps : Parents) (n : Id) → (ps.first).rows ≡ [] → (ps.first).manifest ≡ NoManifest → manifest_marks ps (over n) ≡ []
unfolding ruled_manifest manifest_text
no_manifest ps n e f = rw (e, f) refl

no_files : (ps : Parents) (n : Id) → (ps.first).rows ≡ [] → (ps.second).rows ≡ [] → files_marks ps (over n) ≡ []
unfolding ruled_files
no_files ps n e f = rw (e, f) refl

same_marks : (ps qs : Parents) (n m : Id) → (ps.first).rows ≡ [] → (ps.first).manifest ≡ NoManifest → (ps.second).rows ≡ [] → (qs.first).rows ≡ [] → (qs.first).manifest ≡ NoManifest → (qs.second).rows ≡ []
    → commit_marks ps (over n) ≡ commit_marks qs (over m)
unfolding commit_marks
same_marks ps qs n m a b c d e f =
    let x = no_manifest ps n a b ∙ sym (no_manifest qs m d e) in
    let y = no_files ps n a c ∙ sym (no_files qs m d f) in
    let given = user_of_line (author_by (codes "a") (Plain (pos 0) (pos 0) [])) in
    λ i. [] ++ x i ++ y i ++ user_marks (codes "a") given ++ date_marks (Plain (pos 0) (pos 0) []) given

ids_are : (blocks : List Block) (n : Id) → is_null n ≡ false → map (git_partner blocks) (not_null (n ∷ null ∷ [])) ≡ git_partner blocks n ∷ []
ids_are blocks n e = rw e refl

abbrev made : List Id → List Mark → CommitView
made ids marks = record {
  value = record {
    tree_id = root_of_rows [];
    parents = ids;
    author = author_by (codes "a") (Plain (pos 0) (pos 0) []);
    committer = author_by (codes "a") (Plain (pos 0) (pos 0) []);
    headers = marks_text marks;
    message = message_of [];
  };
  rows = [];
}

mark_is : (blocks : List Block) (n : Id) → old_residue blocks n ≡ [] → mark_commit blocks (over n) ≡ made (map (git_partner blocks) (not_null (n ∷ null ∷ []))) (commit_marks (parents_of_changeset blocks (over n)) (over n))
unfolding mark_commit rule_commit tree_rows_with
mark_is blocks n e = rw e refl

pub refuted : (k l : ChangesetView) (c : CommitView) → AreTwo k l → c.rows ≡ [] → (Known : ChangesetView → Type 0) → ¬ (UnmarkingIsOne (two k l c) Known)
refuted k l c t empty Known law =
    let blocks = two k l c in
    let kn = unequal (changeset_node k) null t.k_there in
    let ln = unequal (changeset_node l) null t.l_there in
    let gk : git_partner (two k l c) (changeset_node k) ≡ commit_id c = ap (λ o. unwrap_or (option_map id_of o) null) (has_k k l c) in
    let gl : git_partner (two k l c) (changeset_node l) ≡ commit_id c = ap (λ o. unwrap_or (option_map id_of o) null) (has_l k l c t) in
    let ok : old_residue (two k l c) (changeset_node k) ≡ [] = ap residue_at (has_k k l c) ∙ ap (λ rows. residue_in rows) empty in
    let ol : old_residue (two k l c) (changeset_node l) ≡ [] = ap residue_at (has_l k l c t) ∙ ap (λ rows. residue_in rows) empty in
    let ids = ids_are (two k l c) (changeset_node k) kn ∙ ap (λ (x : Id). x ∷ []) (gk ∙ sym gl) ∙ sym (ids_are (two k l c) (changeset_node l) ln) in
    let marks = same_marks (parents_of_changeset (two k l c) (over (changeset_node k))) (parents_of_changeset (two k l c) (over (changeset_node l))) (changeset_node k) (changeset_node l)
    (ap (λ v. v.rows) (view_k k l) ∙ t.k_rows) (ap (λ v. v.manifest) (view_k k l) ∙ t.k_manifest) (view_null k l t) (ap (λ v. v.rows) (view_l k l t) ∙ t.l_rows) (ap (λ v. v.manifest) (view_l k l t) ∙ t.l_manifest) (view_null k l t) in
    let same : mark_commit (two k l c) (over (changeset_node k)) ≡ mark_commit (two k l c) (over (changeset_node l)) = mark_is (two k l c) (changeset_node k) ok ∙ (λ i. made (ids i) (marks i)) ∙ sym (mark_is (two k l c) (changeset_node l) ol) in
    let d = mark_commit (two k l c) (over (changeset_node k)) in
    let files : files_among (mark_commit (two k l c) (over (changeset_node k))).rows ≡ [] = ap (λ x. files_among x.rows) (mark_is (two k l c) (changeset_node k) ok) in
    let u : UnmarksCommit (two k l c) (mark_commit (two k l c) (over (changeset_node k))) (over (changeset_node k)) = record {
      view = over_view (changeset_node k) t.k_id;
      no_link = over_no_link (changeset_node k) kn;
      paired = rw (kn, has_k k l c) (refl, tt);
      marked = same_commit d;
      bodies = rw files tt;
    } in
    let v : UnmarksCommit (two k l c) (mark_commit (two k l c) (over (changeset_node k))) (over (changeset_node l)) = record {
      view = over_view (changeset_node l) t.l_id;
      no_link = over_no_link (changeset_node l) ln;
      paired = rw (ln, has_l k l c t) (refl, tt);
      marked = subst (λ x. SameCommit x (mark_commit (two k l c) (over (changeset_node k)))) same (same_commit d);
      bodies = rw files tt;
    } in
    t.apart (ap (λ x. x.p) (law.0 d (over (changeset_node k)) (over (changeset_node l)) u v))

-- ---- two such changesets, whose nodes compute

abbrev by : List ℕ → ChangesetView
by u = record {
  p = null;
  q = null;
  fields = record { manifest = null; user = u; date = Plain (pos 0) (pos 0) []; files = []; description = [] };
  manifest = NoManifest;
  rows = [];
}

all_bytes : (xs : List ℕ) → list_all (λ b. nat_lt b 256) xs ≡ true → IsBytes xs
all_bytes [] h = tt
all_bytes (x ∷ xs) h =
    let p = and_parts (nat_lt x 256) (list_all (λ b. nat_lt b 256) xs) h in
    (ltb-true x 256 p.0, all_bytes xs p.1)

differ : (x y : Id) → bytes_eq x y ≡ false → x ≢ y
differ x y h = eq_false x y h

a_id : (length (changeset_node (by (codes "a"))) ≡ 20) × (list_all (λ b. nat_lt b 256) (changeset_node (by (codes "a"))) ≡ true)
unfolding changeset_node node_id changeset_text encode_with digits sha1 hash_after compress rounds schedule first_words digest_bytes
a_id = (refl, refl)

b_id : (length (changeset_node (by (codes "b"))) ≡ 20) × (list_all (λ b. nat_lt b 256) (changeset_node (by (codes "b"))) ≡ true)
unfolding changeset_node node_id changeset_text encode_with digits sha1 hash_after compress rounds schedule first_words digest_bytes
b_id = (refl, refl)

nodes_differ : (bytes_eq (changeset_node (by (codes "a"))) null ≡ false) × (bytes_eq (changeset_node (by (codes "b"))) null ≡ false) × (bytes_eq (changeset_node (by (codes "a"))) (changeset_node (by (codes "b"))) ≡ false)
unfolding changeset_node node_id changeset_text encode_with digits sha1 hash_after compress rounds schedule first_words digest_bytes
nodes_differ = (refl, refl, refl)

a_and_b : AreTwo (by (codes "a")) (by (codes "b"))
a_and_b = record {
  k_id = (a_id.0, all_bytes (changeset_node (by (codes "a"))) a_id.1);
  l_id = (b_id.0, all_bytes (changeset_node (by (codes "b"))) b_id.1);
  k_there = differ (changeset_node (by (codes "a"))) null nodes_differ.0;
  l_there = differ (changeset_node (by (codes "b"))) null nodes_differ.1;
  apart = differ (changeset_node (by (codes "a"))) (changeset_node (by (codes "b"))) nodes_differ.2;
  k_rows = refl;
  l_rows = refl;
  k_manifest = refl;
  l_manifest = refl;
}

pub without_table : ¬ ((blocks : List Block) (known : List Revision) → UnmarkingIsOne blocks (IsHeldView known))
without_table law = refuted (by (codes "a")) (by (codes "b")) (made [] []) a_and_b refl (IsHeldView []) (law (two (by (codes "a")) (by (codes "b")) (made [] [])) [])
