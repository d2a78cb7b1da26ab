-- What is remembered of the blocks that were found right, and of one more.
use Rattle.std.proofs.Common.{◌≡◌, ◌+◌, ◌||◌, ℕ, Bool, true, false, not, List, [], ◌∷◌, ◌++◌, length, map, Option, Some, None, refl, sym, ap, subst, ◌∙◌, arith, append_assoc, append-nil}
use Rattle.std.specs.Prelude.{bytes_eq, is_some, if◌then◌else◌, IfSome, IsTrue}
use Rattle.std.specs.Borrow.{Bor}
use Rattle.std.specs.List.{find}
use Rattle.std.proofs.lemmas.List.{length-append}
use Rattle.text_model.specs.Id.{Id, has_id}
use Rattle.text_model.proofs.Elements.{flat_map_append}
use Rattle.text_model.proofs.Options.{not_false, or_false}
use Rattle.text_model.proofs.TestLemmas.{bytes_eq-is, bytes_eq-sym}
use Rattle.hg_model.specs.Revision.{Revision}
use Rattle.view_model.specs.View.{ChangesetView, changeset_node}
use Rattle.view_model.specs.Held.{IsChangesetHeld, AreChangesetsHeld}
use Rattle.view_model.specs.Dump.{revisions_of, revisions_in}
use Rattle.pair_model.specs.Block.{Block, node_of, block_of_node, changesets_in}
use Rattle.state_model.specs.Kept.{State}
use Rattle.hg_dump.specs.declared.refers.Refers.{Refers}
use Rattle.hg_dump.specs.Refers.{RefersTo, HasFilesOf}
use Rattle.link_rule.proofs.PartnerViews.{changeset-in}
use Rattle.pair_known.proofs.PartnerLemmas.{block-there}
use Rattle.pair_state.specs.declared.state_parts.StateParts.{StateParts}
use Rattle.pull_bundle.proofs.Referred.{has-files}
use Rattle.state_audit.specs.declared.checked.Checked.{Checked}
use Rattle.pull_bundle.specs.Late.{RefersIn}
use Rattle.state_audit.specs.Audited.{IsWalked, IsTurn}
use Rattle.state_audit.proofs.Rows.{view-held}
use Rattle.state_audit.proofs.Turns.{own, held-first, history}

-- ---- the changeset that is near

pub near-known : (hg known : List Revision) → known ≡ hg → (referred : Refers) (front : List Block) (nodes : List Id) → RefersIn hg referred front → ((node : Id) → has_id nodes node ≡ is_some (block_of_node front node))
    → (near : Option (Bor Id)) → IfSome near (λ node. IsTrue (has_id nodes node.now))
    → IfSome near (λ node. (v : ChangesetView) × IsChangesetHeld known node.now v × ((rs : List Revision) → RefersTo referred rs → HasFilesOf rs v))
near-known hg known same referred front nodes refers are None h = tt
near-known hg known same referred front nodes refers are (Some node) h =
    let b = block-there front node.now (sym (are node.now) ∙ h) in
    let among = changeset-in front b.0 b.2 in (
      (b.0).changeset,
      subst (λ (rs : List Revision). IsChangesetHeld rs node.now (b.0).changeset) (sym same)
          (subst (λ (n : Id). IsChangesetHeld hg n (b.0).changeset) b.3 (view-held hg (changesets_in front) refers.held (b.0).changeset among)),
      has-files referred (changesets_in front) (b.0).changeset among refers.refers,
    )

-- ---- one node more

found-more : {X : Type 0} (test : X → Bool) (xs : List X) (x : X) → is_some (find test (xs ++ x ∷ [])) ≡ (is_some (find test xs) || test x)
found-more test [] x = by (test x)
  where
    by : (t : Bool) → is_some (if t then Some x else None) ≡ (false || t)
    by true = refl
    by false = refl
found-more {X} test (y ∷ xs) x = by (test y) (found-more test xs x)
  where
    by : (t : Bool) → is_some (find test (xs ++ x ∷ [])) ≡ (is_some (find test xs) || test x)
        → is_some (if t then Some y else find test (xs ++ x ∷ [])) ≡ (is_some (if t then Some y else find test xs) || test x)
    by true e = refl
    by false e = e

has-more : (ids : List Id) (id x : Id) → has_id (ids ++ id ∷ []) x ≡ (has_id ids x || bytes_eq x id)
has-more [] id x = or_false (bytes_eq x id)
has-more (y ∷ ids) id x = by (bytes_eq x y) (has-more ids id x)
  where
    by : (t : Bool) → has_id (ids ++ id ∷ []) x ≡ (has_id ids x || bytes_eq x id) → (t || has_id (ids ++ id ∷ []) x) ≡ ((t || has_id ids x) || bytes_eq x id)
    by true e = refl
    by false e = e

put-in : (old new : List Id) (id : Id) (fresh : Bool) → fresh ≡ not (has_id old id) → new ≡ (if fresh then old ++ id ∷ [] else old) → (x : Id) → has_id new x ≡ (has_id old x || bytes_eq x id)
put-in old new id true was is x = ap (λ (ids : List Id). has_id ids x) is ∙ has-more old id x
put-in old new id false was is x = ap (λ (ids : List Id). has_id ids x) is ∙ by (bytes_eq x id) refl
  where
    or-true : (t : Bool) → (t || true) ≡ true
    or-true true = refl
    or-true false = refl

    by : (t : Bool) → bytes_eq x id ≡ t → has_id old x ≡ (has_id old x || t)
    by true e =
        let there : has_id old x ≡ true = ap (has_id old) (bytes_eq-is x id e) ∙ not_false (has_id old id) (sym was) in
        there ∙ sym (or-true (has_id old x))
    by false e = sym (or_false (has_id old x))

module _ (s : StateParts) (place : ℕ) (c : Checked) (m : State) (front : List Block) (b : Block) (rest : List Block) (t : IsTurn s place c m front b rest) where
  more-are : changesets_in (front ++ b ∷ []) ≡ changesets_in front ++ own b
  more-are = flat_map_append own front (b ∷ []) ∙ ap (λ (l : List ChangesetView). changesets_in front ++ l) (append-nil (own b))

  whole-are : changesets_in m.blocks ≡ changesets_in (front ++ b ∷ []) ++ changesets_in rest
  whole-are = ap changesets_in (t.split ∙ sym (append_assoc front (b ∷ []) rest)) ∙ flat_map_append own (front ++ b ∷ []) rest

  pub walked-more : (nodes : List Id) (count : ℕ) (referred : Refers) (fresh : Bool) → count ≡ c.changesets + (length b.links + 1) → fresh ≡ not (has_id c.nodes (node_of b)) → nodes ≡ (if fresh then c.nodes ++ node_of b ∷ [] else c.nodes)
      → RefersTo referred (revisions_in (changesets_in front) ++ revisions_in (own b)) → IsWalked s.known.hg (record { changesets = count; nodes = nodes; referred = referred }) (front ++ b ∷ [])
  walked-more nodes count referred fresh counts was is refers = record {
    changesets = omega (
      arith,
      counts,
      (t.walked).changesets,
      ap (λ (l : List ChangesetView). length l) more-are,
      length-append (changesets_in front) (own b),
      length-append b.links (b.changeset ∷ []),
    );
    nodes = λ node.
        put-in c.nodes nodes (node_of b) fresh was is node ∙ (λ i. (t.walked).nodes node i || bytes_eq-sym node (node_of b) i) ∙ sym (found-more (λ (d : Block). bytes_eq (node_of d) node) front b);
    referred = record {
      held = held-first s.known.hg (changesets_in (front ++ b ∷ [])) (changesets_in rest)
          (subst (λ (hs : List ChangesetView). AreChangesetsHeld s.known.hg (map changeset_node hs) hs) whole-are ((history s place c m front b rest t).held).changesets);
      refers = subst (RefersTo referred) (sym (flat_map_append revisions_of (changesets_in front) (own b)) ∙ ap revisions_in (sym more-are)) refers;
    };
  }
