-- Bodies of files that are objects, of which each id has one content, never collide: an unmarking has the bodies of what it is of, and those of files of its parents.
use Rattle.std.proofs.Common.{◌≡◌, ℕ, zero, suc, Bool, true, false, true≢false, List, [], ◌∷◌, ◌++◌, map, refl, sym, ap, subst, ◌∙◌, inl, inr, ◌⊎◌}
use Rattle.std.specs.Prelude.{◌&&◌, bytes_eq, MatchBool}
use Rattle.std.specs.List.{AllZip, list_any}
use Rattle.text_model.specs.Lists.{Each, In}
use Rattle.text_model.specs.Text.{Bytes}
use Rattle.text_model.specs.Id.{Id, blob, same_kind}
use Rattle.text_model.proofs.EachLemmas.{Each-append}
use Rattle.text_model.proofs.Elements.{each_from, each_in, none_in, none_all}
use Rattle.text_model.proofs.TestLemmas.{both, bytes_eq-is, bytes_eq-self}
use Rattle.git_model.specs.Object.{Object, object_of, same_object, is_other_content}
use Rattle.view_model.specs.View.{FileRevision, Row, TreeRow, ChangesetView, files_among, HaveSameBodies}
use Rattle.pair_model.specs.Block.{Block, changesets_in, view_or_none, parents_among}
use Rattle.pair_model.specs.Rule.{revision_at, ruled_row}
use Rattle.partner_model.specs.Mark.{is_ruled, parents_of_changeset}
use Rattle.partner_model.specs.Partner.{Member, OfHg, OfGit, Unmarks, IsUnmarkedRow}
use Rattle.partner_model.specs.Given.{Peels}
use Rattle.partner_model.specs.Table.{AreBlobsApart}
use Rattle.partner_model.specs.Clash.{body_object, do_bodies_collide, IsColliding, MeetsCollision}
use Rattle.partner_law.proofs.Agreeing.{IsHeld}
use Rattle.partner_law.proofs.Agreeing.{source_by}
use Rattle.partner_law.proofs.Given.{ruled_by, revision_is}

-- no two of the objects have one id and differ
abbrev pub AreOne : List Object → Type 0
AreOne all = (a b : Object) → In a all → In b all → is_other_content a b ≡ false

pub one_of : (all : List Object) → list_any (λ o. list_any (is_other_content o) all) all ≡ false → AreOne all
one_of all h a b i j = none_in (is_other_content a) all b (none_in (λ o. list_any (is_other_content o) all) all a h i) j

-- the body is the content of one of the objects
abbrev pub HasBlob : List Object → Row → Type 0
HasBlob all row = In (body_object row) all

-- and so are the bodies of these files
abbrev pub IsBlobIn : List Object → TreeRow → Type 0
IsBlobIn all row = In (object_of blob row.content) all

-- the bodies of the member's files are objects
abbrev pub HasBlobs : List Object → Member → Type 0
HasBlobs all (OfHg h) = Each (HasBlob all) h.rows
HasBlobs all (OfGit c) = Each (IsBlobIn all) (files_among c.rows)

pub blobs_of_files : (all : List Object) (rows : List Row) (files : List TreeRow) → HaveSameBodies rows files → Each (HasBlob all) rows → Each (IsBlobIn all) files
blobs_of_files all [] [] b e = tt
blobs_of_files all [] (c ∷ cs) b e = absurd b
blobs_of_files all (r ∷ rs) [] b e = absurd b
blobs_of_files all (r ∷ rs) (c ∷ cs) b e = (subst (λ (x : Bytes). In (object_of blob x) all) b.1 e.0, blobs_of_files all rs cs b.2 e.1)

pub blobs_of_rows : (all : List Object) (rows : List Row) (files : List TreeRow) → HaveSameBodies rows files → Each (IsBlobIn all) files → Each (HasBlob all) rows
blobs_of_rows all [] [] b e = tt
blobs_of_rows all [] (c ∷ cs) b e = absurd b
blobs_of_rows all (r ∷ rs) [] b e = absurd b
blobs_of_rows all (r ∷ rs) (c ∷ cs) b e = (subst (λ (x : Bytes). In (object_of blob x) all) (sym b.1) e.0, blobs_of_rows all rs cs b.2 e.1)

-- objects of one id that aren't others have one content
pub same_content : (o p : Object) → is_other_content o p ≡ false → o.id ≡ p.id → o.content ≡ p.content
same_content o p apart e = by (same_kind o.kind p.kind && bytes_eq o.content p.content) refl
  where
    same : same_object o p ≡ true
    same = ap (bytes_eq o.id) (sym e) ∙ bytes_eq-self o.id

    by : (t : Bool) → same_kind o.kind p.kind && bytes_eq o.content p.content ≡ t → o.content ≡ p.content
    by true f = bytes_eq-is o.content p.content (both (same_kind o.kind p.kind) (bytes_eq o.content p.content) f).1
    by false f =
        let g : true ≡ false = rw (same, f) at apart in
        absurd (true≢false g)

module _ (all : List Object) (one : AreOne all) where
  -- ---- files of one changeset

  mapped : (rows : List Row) → Each (HasBlob all) rows → Each (λ o. In o all) (map body_object rows)
  mapped [] e = tt
  mapped (r ∷ rs) e = (e.0, mapped rs e.1)

  pub bodies_free : (rows : List Row) → Each (HasBlob all) rows → do_bodies_collide all rows ≡ false
  bodies_free rows e =
      let there = Each-append (λ o. In o all) all (map body_object rows) (each_from (λ o. In o all) all (λ o i. i)) (mapped rows e) in
      none_all (λ row. list_any (is_other_content (body_object row)) (all ++ map body_object rows)) rows (λ row i.
      none_all (is_other_content (body_object row)) (all ++ map body_object rows) (λ o j. one (body_object row) o (each_in (HasBlob all) rows row e i) (each_in (λ o. In o all) (all ++ map body_object rows) o there j)))

  -- bodies of one blob id are one
  pub bodies_apart : (views : List ChangesetView) → Each (λ v. Each (HasBlob all) v.rows) views → AreBlobsApart views
  bodies_apart views rows k l r s i j a b e =
      let x = each_in (HasBlob all) k.rows r (each_in (λ v. Each (HasBlob all) v.rows) views k rows i) a in
      let y = each_in (HasBlob all) l.rows s (each_in (λ v. Each (HasBlob all) v.rows) views l rows j) b in
      same_content (body_object r) (body_object s) (one (body_object r) (body_object s) x y) e

  -- ---- unmarkings

  -- the body that the rule gives is that of an earlier file, or of the commit
  pub ruled_blob : (views : List ChangesetView) → Each (λ v. Each (HasBlob all) v.rows) views → (p q : Id) (of : TreeRow) → IsBlobIn all of → HasBlob all (ruled_row (parents_among views p q) of)
  ruled_blob views old p q of e = subst (λ (x : Bytes). In (object_of blob x) all) (sym (ap (λ (x : FileRevision). x.body) (revision_is (parents_among views p q) of))) (by (source_by views p q of.path of.id of.content))
    where
      found : FileRevision
      found = ruled_by (revision_at (view_or_none views p).rows of.path) (revision_at (view_or_none views q).rows of.path) of.id of.content

      by : IsHeld views found ⊎ (found.body ≡ of.content) → In (object_of blob found.body) all
      by (inr s) = subst (λ (x : Bytes). In (object_of blob x) all) (sym s) e
      by (inl k) = subst (λ (x : Bytes). In (object_of blob x) all) (ap (λ (x : FileRevision). x.body) k.is) (each_in (HasBlob all) (k.view).rows k.row (each_in (λ v. Each (HasBlob all) v.rows) views k.view old k.among) k.in_rows)

  pub ruled_blobs : (views : List ChangesetView) → Each (λ v. Each (HasBlob all) v.rows) views → (p q : Id) (files : List TreeRow) → Each (IsBlobIn all) files → Each (HasBlob all) (map (ruled_row (parents_among views p q)) files)
  ruled_blobs views old p q [] e = tt
  ruled_blobs views old p q (c ∷ cs) e = (ruled_blob views old p q c e.0, ruled_blobs views old p q cs e.1)

  module _ (blocks : List Block) (K : ChangesetView → Type 0) (old : Each (λ v. Each (HasBlob all) v.rows) (changesets_in blocks)) where
    unmarked_blob : (h : ChangesetView) (row : Row) (of : TreeRow) → IsUnmarkedRow (parents_of_changeset blocks h) row of → IsBlobIn all of → HasBlob all row
    unmarked_blob h row of u e = by (is_ruled (parents_of_changeset blocks h) row) refl u
      where
        by : (t : Bool) → is_ruled (parents_of_changeset blocks h) row ≡ t → MatchBool t (row.revision ≡ (ruled_row (parents_of_changeset blocks h) of).revision) ((row.revision).body ≡ of.content) → HasBlob all row
        by true g s = subst (λ (x : Bytes). In (object_of blob x) all) (ap (λ (x : FileRevision). x.body) (sym s)) (ruled_blob (changesets_in blocks) old h.p h.q of e)
        by false g s = subst (λ (x : Bytes). In (object_of blob x) all) (sym s) e

    pub unmarked_blobs : (h : ChangesetView) (rows : List Row) (files : List TreeRow) → AllZip (IsUnmarkedRow (parents_of_changeset blocks h)) rows files → Each (IsBlobIn all) files → Each (HasBlob all) rows
    unmarked_blobs h [] [] u e = tt
    unmarked_blobs h [] (c ∷ cs) u e = absurd u
    unmarked_blobs h (r ∷ rs) [] u e = absurd u
    unmarked_blobs h (r ∷ rs) (c ∷ cs) u e = (unmarked_blob h r c u.0 e.0, unmarked_blobs h rs cs u.1 e.1)

    pub below : (m k : Member) → Unmarks blocks K m k → HasBlobs all m → HasBlobs all k
    below (OfHg h) (OfGit c) u e = blobs_of_files all h.rows (files_among c.rows) u.bodies e
    below (OfGit c) (OfHg h) u e = unmarked_blobs h h.rows (files_among c.rows) u.bodies e
    below (OfHg h) (OfHg k) u e = absurd u
    below (OfGit c) (OfGit d) u e = absurd u

    peeled : (i : ℕ) (m k : Member) → Peels blocks K i m k → HasBlobs all m → HasBlobs all k
    unfolding Peels
    peeled zero m k p e = subst (HasBlobs all) p e
    peeled (suc i) m k p e = peeled i p.1 k p.3 (below m p.1 p.2 e)

    pub never_collides : (m : Member) → HasBlobs all m → ¬ (MeetsCollision blocks K all m)
    never_collides m e x = by x.member (peeled x.count m x.member x.peels e) x.collides
      where
        by : (k : Member) → HasBlobs all k → IsColliding blocks K all k → ⊥
        by (OfHg h) b c = true≢false (sym c.2 ∙ bodies_free h.rows b)
        by (OfGit d) b c = c
