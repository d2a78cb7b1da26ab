-- The changesets of a block come to a store, one after the other.
use Rattle.std.proofs.Common.{◌≡◌, ◌+◌, ◌<◌, ◌||◌, ◌++◌, get_or, ℕ, zero, suc, arith, Bool, true, false, true≢false, List, [], ◌∷◌, length, map, take, drop, Option, Some, None, refl, sym, ap, subst, ◌∙◌, inl, inr, append-nil}
use Rattle.std.specs.Prelude.{is_some, slice_get, IfSome, IsTrue}
use Rattle.std.proofs.lemmas.List.Concat.{flat_map-append}
use Rattle.std.proofs.lemmas.List.Folds.{list_any-append}
use Rattle.std.proofs.lemmas.Option.{slice_get-get_or}
use Rattle.std.proofs.lemmas.Slice.Eq.{bytes_eq-Decides}
use Rattle.text_model.specs.Text.{Bytes}
use Rattle.text_model.specs.Id.{Id, null, is_null, has_id, node_id}
use Rattle.text_model.proofs.TestLemmas.{or_true}
use Rattle.text_model.proofs.Options.{or_parts}
use Rattle.hg_changeset.specs.Values.{changeset_value}
use Rattle.hg_model.specs.Changeset.{changeset_text}
use Rattle.hg_model.specs.Revision.{Revision, Changesets, knows, is_known_parent, known_after, known_after_all}
use Rattle.view_model.specs.View.{ChangesetView, changeset_node}
use Rattle.view_model.specs.Dump.{own_revision, manifest_revision, file_revision, revisions_of, revisions_in}
use Rattle.pair_model.specs.Block.{Block, block_of_node}
use Rattle.pair_known.specs.declared.draft_texts.DraftTexts.{DraftTexts}
use Rattle.pair_known.specs.declared.hg_draft.HgDraft.{HgDraft}
use Rattle.pair_state.specs.Step.{AreItsTexts}
use Rattle.pair_known.specs.declared.hg_block.HgBlock.{HgBlock}
use Rattle.pair_state.specs.Push.{IsPart, AreLinkParts, AreLinked}
use Rattle.pair_state.specs.Came.{HaveCome, HasBad, IsWithinHg, IsAsked, IsPartOver, ArePartsOf, PartsCame, PartsCollide, is_any_among}
use Rattle.pair_state.proofs.CameLemmas.{come-none, come-more, bad-front, bad-rest, within-all, within-knows}
use Rattle.pair_state.proofs.OwnLemmas.{knows-after}

-- ---- one changeset

pub no-text : (o : Option Bytes) (P : Bytes → Type 0) → o ≡ None → IfSome o P
no-text None P e = tt
no-text (Some text) P e = cc

pub no-texts : (d : HgDraft) (texts : DraftTexts) → texts.changeset ≡ None → texts.manifest ≡ None → AreItsTexts d texts
no-texts d texts none none' = record { changeset = no-text texts.changeset _ none; manifest = no-text texts.manifest _ none' }

module _ (base now : List Revision) (d : HgDraft) (k : ChangesetView) (a : IsPartOver base now d k) (text : Bytes) (node : Id)
    (text_is : text ≡ changeset_text (changeset_value d.changeset)) (node_is : node ≡ node_id d.p1 d.p2 text) where
  spells : text ≡ changeset_text k.fields
  spells = text_is ∙ sym (ap changeset_text a.part.made.draft.fields)

  pub is-node : node ≡ changeset_node k
  unfolding changeset_node
  is-node = node_is ∙ (λ i. node_id (sym a.part.made.draft.parents.0 i) (sym a.part.made.draft.parents.1 i) (spells i))

  pub asked : IsAsked base now d node text k
  asked = record { part = a.part; within = a.within; parents = a.parents; node_is = is-node; text_is = spells }

  pub one-came : (saved : List Id) (new : List Revision) → HaveCome now new (revisions_of k) → has_id saved node ≡ false → PartsCame now new saved (k ∷ [])
  one-came saved new come free = record {
    came = subst (HaveCome now new) (sym (append-nil (revisions_of k))) come;
    apart = ap (λ (t : Bool). t || false) (ap (has_id saved) (sym is-node) ∙ free);
  }

  pub one-saved : (saved : List Id) → has_id saved node ≡ true → PartsCollide now saved (k ∷ [])
  one-saved saved there = inr (ap (λ (t : Bool). t || false) (ap (has_id saved) (sym is-node) ∙ there))

  pub one-bad : (saved : List Id) → HasBad now (revisions_of k) → PartsCollide now saved (k ∷ [])
  one-bad saved b = inl (subst (HasBad now) (sym (append-nil (revisions_of k))) b)

-- ---- one after the other

pub none-came : (known : List Revision) (saved : List Id) → PartsCame known known saved []
none-came known saved = record { came = come-none known; apart = refl }

module _ (a b : List Revision) (saved : List Id) (xs ys : List ChangesetView) where
  in-both : revisions_in (xs ++ ys) ≡ revisions_in xs ++ revisions_in ys
  in-both = flat_map-append revisions_of xs ys

  any-both : is_any_among saved (xs ++ ys) ≡ (is_any_among saved xs || is_any_among saved ys)
  any-both = list_any-append (λ (h : ChangesetView). has_id saved (changeset_node h)) xs ys

  pub came-more : (c : List Revision) → PartsCame a b saved xs → PartsCame b c saved ys → PartsCame a c saved (xs ++ ys)
  came-more c p q = record {
    came = subst (HaveCome a c) (sym in-both) (come-more a b c (revisions_in xs) (revisions_in ys) p.came q.came);
    apart = any-both ∙ (λ i. p.apart i || q.apart i);
  }

  pub collide-front : PartsCollide a saved xs → PartsCollide a saved (xs ++ ys)
  collide-front (inl h) = inl (subst (HasBad a) (sym in-both) (bad-front a (revisions_in xs) (revisions_in ys) h))
  collide-front (inr s) = inr (any-both ∙ ap (λ (t : Bool). t || is_any_among saved ys) s)

  pub collide-rest : PartsCame a b saved xs → PartsCollide b saved ys → PartsCollide a saved (xs ++ ys)
  collide-rest p (inl h) = inl (subst (HasBad a) (sym in-both) (bad-rest a b (revisions_in xs) (revisions_in ys) p.came h))
  collide-rest p (inr s) = inr (any-both ∙ ap (λ (t : Bool). is_any_among saved xs || t) s ∙ or_true (is_any_among saved xs))

-- ---- the parents of the next one

module _ (now new : List Revision) (saved : List Id) (h : ChangesetView) (p : PartsCame now new saved (h ∷ [])) where
  come : HaveCome now new (own_revision h ∷ manifest_revision h h.manifest ++ map (file_revision (changeset_node h)) h.rows)
  unfolding revisions_of
  come = subst (HaveCome now new) (append-nil (own_revision h ∷ manifest_revision h h.manifest ++ map (file_revision (changeset_node h)) h.rows)) p.came

  own-known : knows new Changesets (changeset_node h) ≡ true
  own-known =
      let rest : List Revision = manifest_revision h h.manifest ++ map (file_revision (changeset_node h)) h.rows in
      ap (λ (l : List Revision). knows l Changesets (changeset_node h)) come.are
      ∙ within-knows (known_after now (own_revision h)) (known_after_all (known_after now (own_revision h)) rest) (within-all (known_after now (own_revision h)) rest) Changesets (changeset_node h)
      (knows-after now (own_revision h) ((bytes_eq-Decides (changeset_node h) (changeset_node h)).1 refl))

  not-null : changeset_node h ≡ null → ⊥
  not-null e = true≢false (sym ((bytes_eq-Decides (changeset_node h) null).1 e) ∙ (or_parts (is_null (changeset_node h)) _ come.clean.0).0)

  not-saved : has_id saved (changeset_node h) ≡ true → ⊥
  not-saved e = true≢false (sym e ∙ (or_parts (has_id saved (changeset_node h)) false p.apart).0)

  pub linked-on : (base : List Revision) (blocks : List Block) (hs : List ChangesetView) → IsWithinHg base new
      → ((q : Id) → IsTrue (is_some (block_of_node blocks q)) → (has_id saved q ≡ true) × (knows base Changesets q ≡ true))
      → AreLinked now blocks (h ∷ hs) → AreLinked new blocks hs
  linked-on base blocks [] within stands l = tt
  linked-on base blocks (g ∷ gs) within stands l =
      let behind = l.1 in
      let q = stands g.q behind.1 in (
        record {
          p = ap (is_known_parent new Changesets) behind.0 ∙ ap (λ (t : Bool). is_null (changeset_node h) || t) own-known ∙ or_true (is_null (changeset_node h));
          q = ap (λ (t : Bool). is_null g.q || t) (within-knows base new within Changesets g.q q.1) ∙ or_true (is_null g.q);
          first = λ e. absurd (not-null (sym behind.0 ∙ e));
          distinct = λ e. absurd (not-saved (ap (has_id saved) (sym behind.0 ∙ e) ∙ q.0));
        },
        behind.2,
      )

-- ---- places

pub record Split (xs : List ChangesetView) (i : ℕ) (x : ChangesetView) : Type 0 where
  pub took : take (i + 1) xs ≡ take i xs ++ x ∷ []
  pub rest : drop i xs ≡ x ∷ drop (i + 1) xs
  pub whole : xs ≡ take i xs ++ x ∷ drop (i + 1) xs

pub split : (xs : List ChangesetView) (i : ℕ) (x : ChangesetView) → slice_get xs i ≡ Some x → Split xs i x
split [] i x e = absurd cc
split (y ∷ xs) zero x e = let q : y ≡ x = cc in record { took = ap (λ (z : ChangesetView). z ∷ []) q; rest = ap (λ (z : ChangesetView). z ∷ xs) q; whole = ap (λ (z : ChangesetView). z ∷ xs) q }
split (y ∷ xs) (suc i) x e =
    let s = split xs i x e in
    let n : suc i + 1 ≡ suc (i + 1) = omega arith in
    record {
      took = ap (λ (m : ℕ). take m (y ∷ xs)) n ∙ ap (λ (l : List ChangesetView). y ∷ l) s.took;
      rest = s.rest ∙ ap (λ (m : ℕ). x ∷ drop m (y ∷ xs)) (sym n);
      whole = ap (λ (l : List ChangesetView). y ∷ l) s.whole ∙ ap (λ (m : ℕ). y ∷ (take i xs ++ x ∷ drop m (y ∷ xs))) (sym n);
    }

pub record PartAt (known : List Revision) (d : HgDraft) (ls : List ChangesetView) (i : ℕ) : Type 0 where
  pub view : ChangesetView
  pub at : slice_get ls i ≡ Some view
  pub part : IsPart known d view

pub part-at : (known : List Revision) (ds : List HgDraft) (ls : List ChangesetView) (i : ℕ) (d : HgDraft) → AreLinkParts known ds ls → slice_get ds i ≡ Some d → PartAt known d ls i
part-at known [] ls i d a e = absurd cc
part-at known (x ∷ ds) [] i d a e = absurd a
part-at known (x ∷ ds) (l ∷ ls) zero d a e = let q : x ≡ d = cc in record { view = l; at = refl; part = subst (λ (y : HgDraft). IsPart known y l) q a.0 }
part-at known (x ∷ ds) (l ∷ ls) (suc i) d a e = let r = part-at known ds ls i d a.2 e in record { view = r.view; at = r.at; part = r.part }

pub links-length : (known : List Revision) (ds : List HgDraft) (ls : List ChangesetView) → AreLinkParts known ds ls → length ls ≡ length ds
links-length known [] [] a = refl
links-length known [] (l ∷ ls) a = absurd a
links-length known (d ∷ ds) [] a = absurd a
links-length known (d ∷ ds) (l ∷ ls) a = ap suc (links-length known ds ls a.2)

pub drop-all : (xs : List ChangesetView) (i : ℕ) → length xs ≡ i → drop i xs ≡ []
drop-all [] zero e = refl
drop-all [] (suc i) e = refl
drop-all (x ∷ xs) zero e = absurd (omega (arith, e))
drop-all (x ∷ xs) (suc i) e = drop-all xs i (omega (arith, e))

-- ---- the links so far

-- the links so far came, and the others and the changeset have parents that are known
pub record LinksSo (initial now : List Revision) (saved nodes : List Id) (blocks : List Block) (ls : List ChangesetView) (h : ChangesetView) (i : ℕ) : Type 0 where
  pub nodes_are : nodes ≡ map changeset_node (take i ls)
  pub came : PartsCame initial now saved (take i ls)
  pub linked : AreLinked now blocks (drop i ls ++ h ∷ [])

pub links-none : (known : List Revision) (saved : List Id) (d : HgBlock) (blocks : List Block) (ls : List ChangesetView) (h : ChangesetView) → ArePartsOf known saved d blocks ls h → LinksSo known known saved [] blocks ls h 0
links-none known saved d blocks ls h a = record { nodes_are = refl; came = none-came known saved; linked = a.linked }

pub within-came : (old new : List Revision) (rs : List Revision) → HaveCome old new rs → IsWithinHg old new
within-came old new rs come = subst (IsWithinHg old) (sym come.are) (within-all old rs)

module _ (initial now : List Revision) (saved nodes : List Id) (d : HgBlock) (blocks : List Block) (ls : List ChangesetView) (h : ChangesetView) (i : ℕ)
    (a : ArePartsOf initial saved d blocks ls h) (so : LinksSo initial now saved nodes blocks ls h i) where
  within : IsWithinHg initial now
  within = within-came initial now (revisions_in (take i ls)) so.came.came

  module _ (x : HgDraft) (at : slice_get d.links i ≡ Some x) where
    abbrev pub link : PartAt initial x ls i
    link = part-at initial d.links ls i x a.links at

    pub link-over : IsPartOver initial now x link.view
    link-over =
        let s = split ls i link.view link.at in
        record { part = link.part; within = within; parents = (subst (λ (l : List ChangesetView). AreLinked now blocks (l ++ h ∷ [])) s.rest so.linked).0 }

    pub links-more : (new : List Revision) (node : Id) → node ≡ changeset_node link.view → PartsCame now new saved (link.view ∷ []) → LinksSo initial new saved (nodes ++ node ∷ []) blocks ls h (i + 1)
    links-more new node node_is came =
        let s = split ls i link.view link.at in
        let rest : AreLinked now blocks (link.view ∷ (drop (i + 1) ls ++ h ∷ [])) = subst (λ (l : List ChangesetView). AreLinked now blocks (l ++ h ∷ [])) s.rest so.linked in
        let both = came-more initial now saved (take i ls) (link.view ∷ []) new so.came came in
        record {
          nodes_are = (λ k. so.nodes_are k ++ node_is k ∷ []) ∙ push (take i ls) link.view ∙ ap (map changeset_node) (sym s.took);
          came = subst (PartsCame initial new saved) (sym s.took) both;
          linked = linked-on now new saved link.view came initial blocks (drop (i + 1) ls ++ h ∷ []) (within-came initial new _ both.came) a.stands rest;
        }
      where
        push : (xs : List ChangesetView) (x : ChangesetView) → map changeset_node xs ++ changeset_node x ∷ [] ≡ map changeset_node (xs ++ x ∷ [])
        push [] x = refl
        push (y ∷ xs) x = ap (λ (l : List Id). changeset_node y ∷ l) (push xs x)

    pub link-collides : PartsCollide now saved (link.view ∷ []) → PartsCollide initial saved (ls ++ h ∷ [])
    link-collides c =
        let s = split ls i link.view link.at in
        collide-front initial initial saved ls (h ∷ []) (subst (PartsCollide initial saved) (sym s.whole)
        (collide-rest initial now saved (take i ls) (link.view ∷ drop (i + 1) ls) so.came (collide-front now now saved (link.view ∷ []) (drop (i + 1) ls) c)))

  -- all links came
  module _ (all : length ls ≡ i) where
    took : take i ls ≡ ls
    took = sym (append-nil (take i ls)) ∙ ap (λ (l : List ChangesetView). take i ls ++ l) (sym (drop-all ls i all)) ∙ both ls i
      where
        both : (xs : List ChangesetView) (n : ℕ) → take n xs ++ drop n xs ≡ xs
        both [] zero = refl
        both [] (suc n) = refl
        both (x ∷ xs) zero = refl
        both (x ∷ xs) (suc n) = ap (λ (l : List ChangesetView). x ∷ l) (both xs n)

    pub links-nodes : nodes ≡ map changeset_node ls
    links-nodes = so.nodes_are ∙ ap (map changeset_node) took

    links-came : PartsCame initial now saved ls
    links-came = subst (PartsCame initial now saved) took so.came

    pub last-over : IsPartOver initial now d.last h
    last-over = record { part = a.last; within = within; parents = (subst (λ (l : List ChangesetView). AreLinked now blocks (l ++ h ∷ [])) (drop-all ls i all) so.linked).0 }

    pub all-came : (new : List Revision) → PartsCame now new saved (h ∷ []) → PartsCame initial new saved (ls ++ h ∷ [])
    all-came new came = came-more initial now saved ls (h ∷ []) new links-came came

    pub last-collides : PartsCollide now saved (h ∷ []) → PartsCollide initial saved (ls ++ h ∷ [])
    last-collides c = collide-rest initial now saved ls (h ∷ []) links-came c

-- the element at a place of a list that is lent
pub item-at : {X : Type 0} (all list : List X) (i : ℕ) (x : X) → list ≡ all → i < length list → x ≡ get_or list i x → slice_get all i ≡ Some x
item-at {X} all list i x same below is = ap (λ (l : List X). slice_get l i) (sym same) ∙ slice_get-get_or list i x below ∙ ap (λ (y : X). Some y) (sym is)
