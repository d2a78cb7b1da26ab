-- The commits of a stream, one after the other.
use Rattle.std.proofs.Common.{◌≡◌, ◌<◌, ◌+◌, ◌||◌, ◌++◌, ℕ, Bool, true, List, [], ◌∷◌, length, take, drop, get_or, map, Some, None, refl, sym, ap, subst, ◌∙◌, append_assoc, append-nil}
use Rattle.std.specs.Prelude.{slice_get, is_some, IsTrue, if◌then◌else◌}
use Rattle.std.specs.List.{list_all}
use Rattle.std.proofs.lemmas.List.{take-append-drop, map-append}
use Rattle.std.proofs.lemmas.Option.{slice_get-get_or}
use Rattle.std.proofs.lemmas.List.Concat.{flat_map-append}
use Rattle.text_model.specs.Lists.{Each}
use Rattle.text_model.specs.Id.{Id, commit}
use Rattle.text_model.specs.Fault.{FaultName}
use Rattle.text_model.proofs.TestLemmas.{both}
use Rattle.hg_model.specs.Revision.{Revision, known_after_all}
use Rattle.hg_model.proofs.RevisionLemmas.{known_after_all-append}
use Rattle.git_model.specs.Commit.{Commit, parent_ids}
use Rattle.git_model.proofs.CommitLemmas.{parent_ids-text}
use Rattle.git_model.specs.Object.{Object}
use Rattle.git_model.specs.Order.{Ancestry, has}
use Rattle.git_model.specs.Stream.{Placed}
use Rattle.git_store.specs.Known.{content_of, content_at, IsCommitAt}
use Rattle.git_batch.specs.declared.arrival.ObjectArrival.{ObjectArrival}
use Rattle.tree_shape.specs.Laws.{IsKnown}
use Rattle.view_model.specs.View.{ChangesetView}
use Rattle.view_model.specs.Dump.{revisions_of, revisions_in}
use Rattle.pair_model.specs.Block.{Block, id_of, block_of_id, changesets_in}
use Rattle.pair_state.specs.declared.state_parts.StateParts.{StateParts}
use Rattle.pair_state.specs.AllBlocks.{HasAllBlocks}
use Rattle.pair_state.proofs.BlockLemmas.{parts_of}
use Rattle.pull_outcome.specs.declared.refused.PullFault.{PullFault}
use Rattle.history_model.specs.Pull as model
use Rattle.history_model.specs.Pull.{CommitGives, CommitsBring, CommitRefused, IsCommitRefusal, objects_with, saved_ids, place_of}
use Rattle.pull_outcome.specs.declared.take_fault.TakeFault.{TakeFault}
use Rattle.pull_outcome.specs.declared.take_fault.TakeFault.TheVariants.{Refused, Memory}
use Rattle.pull_outcome.specs.Takes.{IsTakeFault}
use Rattle.pull_stream.specs.Faults.{IsJudgement, placed_fault}
use Rattle.pull_stream.specs.Ready.{IsInOrder, place_among}
use Rattle.pull_stream.specs.Taken.{TakesCommit, CommitTaken, CommitsTaken}
use Rattle.text_model.proofs.Elements.{each_in, drop_next, take_push}
use Rattle.text_model.proofs.Options.{some_is, none_is}
use Rattle.pull_stream.proofs.Blocks.{has-block, has-append}
use Rattle.pull_stream.proofs.Orders.{same-place, has-place, Next, next-is}

-- ---- what blocks bring

-- the revisions of blocks, those of the first before the others
first-revisions : (b : Block) (rest : List Block) → revisions_in (changesets_in (b ∷ rest)) ≡ revisions_in (parts_of b) ++ revisions_in (changesets_in rest)
first-revisions b rest = flat_map-append revisions_of (parts_of b) (changesets_in rest)

last-revisions : (new : List Block) (b : Block) → revisions_in (changesets_in (new ++ b ∷ [])) ≡ revisions_in (changesets_in new) ++ revisions_in (parts_of b)
last-revisions new b =
    ap revisions_in (flat_map-append parts_of new (b ∷ []) ∙ ap (λ (l : List ChangesetView). changesets_in new ++ l) (append-nil (parts_of b)))
    ∙ flat_map-append revisions_of (changesets_in new) (parts_of b)

pub brings-none : (known : List Revision) (objects : List Object) (blocks : List Block) → CommitsBring known objects blocks [] []
unfolding CommitsBring
brings-none known objects blocks = refl

brings-one : (known : List Revision) (objects : List Object) (blocks : List Block) (id : Id) (b : Block) → CommitGives known objects blocks id b → CommitsBring known objects blocks (id ∷ []) (b ∷ [])
unfolding CommitsBring
brings-one known objects blocks id b g = (b, [], refl, g, refl)

brings-nothing : (known : List Revision) (objects : List Object) (blocks new : List Block) → CommitsBring known objects blocks [] new → new ≡ []
unfolding CommitsBring
brings-nothing known objects blocks new h = h

record First (known : List Revision) (objects : List Object) (blocks : List Block) (id : Id) (ids : List Id) (new : List Block) : Type 0 where
  b : Block
  rest : List Block
  is : new ≡ b ∷ rest
  gives : CommitGives known objects blocks id b
  more : CommitsBring (known_after_all known (revisions_in (parts_of b))) objects (blocks ++ b ∷ []) ids rest

first : (known : List Revision) (objects : List Object) (blocks : List Block) (id : Id) (ids : List Id) (new : List Block) → CommitsBring known objects blocks (id ∷ ids) new → First known objects blocks id ids new
unfolding CommitsBring
first known objects blocks id ids new h = record { b = h.0; rest = h.1; is = h.2; gives = h.3; more = h.4 }

brings-first : (known : List Revision) (objects : List Object) (blocks : List Block) (id : Id) (ids : List Id) (b : Block) (rest : List Block) → CommitGives known objects blocks id b
    → CommitsBring (known_after_all known (revisions_in (parts_of b))) objects (blocks ++ b ∷ []) ids rest → CommitsBring known objects blocks (id ∷ ids) (b ∷ rest)
unfolding CommitsBring
brings-first known objects blocks id ids b rest g more = (b, rest, refl, g, more)

-- one more is brought
pub brings-push : (known : List Revision) (objects : List Object) (blocks : List Block) (ids : List Id) (new : List Block) (id : Id) (b : Block) → CommitsBring known objects blocks ids new
    → CommitGives (known_after_all known (revisions_in (changesets_in new))) objects (blocks ++ new) id b → CommitsBring known objects blocks (ids ++ id ∷ []) (new ++ b ∷ [])
brings-push known objects blocks [] new id b h g =
    let none = brings-nothing known objects blocks new h in
    subst (λ (l : List Block). CommitsBring known objects blocks (id ∷ []) (l ++ b ∷ [])) (sym none)
    (brings-one known objects blocks id b (subst (λ (bs : List Block). CommitGives known objects bs id b) (append-nil blocks) (subst (λ (l : List Block). CommitGives (known_after_all known (revisions_in (changesets_in l))) objects (blocks ++ l) id b) none g)))
brings-push known objects blocks (x ∷ ids) new id b h g =
    let f = first known objects blocks x ids new h in
    let at = subst (λ (l : List Block). CommitGives (known_after_all known (revisions_in (changesets_in l))) objects (blocks ++ l) id b) f.is g in
    let over = ap (known_after_all known) (first-revisions f.b f.rest) ∙ known_after_all-append known (revisions_in (parts_of f.b)) (revisions_in (changesets_in f.rest)) in
    subst (λ (l : List Block). CommitsBring known objects blocks (x ∷ ids ++ id ∷ []) (l ++ b ∷ [])) (sym f.is)
    (brings-first known objects blocks x (ids ++ id ∷ []) f.b (f.rest ++ b ∷ []) f.gives
    (brings-push (known_after_all known (revisions_in (parts_of f.b))) objects (blocks ++ f.b ∷ []) ids f.rest id b f.more
    (subst (λ (bs : List Block). CommitGives (known_after_all (known_after_all known (revisions_in (parts_of f.b))) (revisions_in (changesets_in f.rest))) objects bs id b) (sym (append_assoc blocks (f.b ∷ []) f.rest))
    (subst (λ (k : List Revision). CommitGives k objects (blocks ++ f.b ∷ f.rest) id b) over at))))

-- ---- one turn

pub at-place : (ids items : List Id) (i : ℕ) (id : Id) → items ≡ ids → i < length items → id ≡ get_or items i id → (i < length ids) × (slice_get ids i ≡ Some id)
at-place ids items i id same below is =
    (subst (λ (l : List Id). i < length l) same below, ap (λ (l : List Id). slice_get l i) (sym same) ∙ slice_get-get_or items i id below ∙ ap (λ (x : Id). Some x) (sym is))

pub take-at : (ids : List Id) (i : ℕ) (id : Id) → slice_get ids i ≡ Some id → take i ids ++ id ∷ [] ≡ take (i + 1) ids
take-at ids i id at = sym (take_push ids i id at)

pub taken-none : (s : StateParts) (m : model.State) → HasAllBlocks s m.blocks → CommitsTaken s s m.blocks [] []
taken-none s m state = record {
  brings = brings-none s.known.hg s.known.git m.blocks;
  ids_are = refl;
  state = subst (HasAllBlocks s) (sym (append-nil m.blocks)) state;
  revisions = refl;
  objects = refl;
  tags = refl;
  names = refl;
}

pub taken-push : (s next after : StateParts) (blocks : List Block) (ids : List Id) (new : List Block) (id : Id) (b : Block) → CommitsTaken s next blocks ids new → CommitTaken next after id (blocks ++ new) b
    → CommitsTaken s after blocks (ids ++ id ∷ []) (new ++ b ∷ [])
taken-push s next after blocks ids new id b so_far one =
    let gives = subst (λ (k : List Revision). CommitGives k s.known.git (blocks ++ new) id b) so_far.revisions (subst (λ (os : List Object). CommitGives next.known.hg os (blocks ++ new) id b) so_far.objects one.gives) in record {
      brings = brings-push s.known.hg s.known.git blocks ids new id b so_far.brings gives;
      ids_are = map-append id_of new (b ∷ []) ∙ (λ i. so_far.ids_are i ++ one.id_is i ∷ []);
      state = subst (HasAllBlocks after) (append_assoc blocks new (b ∷ [])) one.state;
      revisions =
          one.revisions ∙ ap (λ (k : List Revision). known_after_all k (revisions_in (parts_of b))) so_far.revisions
          ∙ sym (known_after_all-append s.known.hg (revisions_in (changesets_in new)) (revisions_in (parts_of b)))
          ∙ ap (known_after_all s.known.hg) (sym (last-revisions new b));
      objects = one.objects ∙ so_far.objects;
      tags = one.tags ∙ so_far.tags;
      names = one.names ∙ so_far.names;
    }

-- ---- the commit at a place of the order

module _ (s : StateParts) (arrivals : List ObjectArrival) (ordered : List Id) (m : model.State) (came : List Placed) (o : IsInOrder s arrivals ordered m came) (i : ℕ) (id : Id) (below : i < length ordered) (at : slice_get ordered i ≡ Some id) where
  abbrev next : Next came (saved_ids m) (take i ordered) id
  next = next-is came (saved_ids m) (take i ordered) id (sym at ∙ (o.order).places i below)

  abbrev object : Object
  object = (next.of.placed).object

  id-is : id ≡ object.id
  id-is = ap (λ (a : Ancestry). a.id) next.of.is

  its-content : content_at commit s.known.git id ≡ Some object.content
  its-content =
      ap (content_at commit s.known.git) id-is
      ∙ ap (content_of commit) (each_in (λ (p : Placed). IsKnown s.known.git p.object) came next.of.placed (o.ready).held next.of.among)
      ∙ ap (λ (t : Bool). if t then Some object.content else None) next.of.kind

  -- the parents of the commit
  its-parents : (v : Commit) → IsCommitAt s.known.git id v → v.parents ≡ next.parents
  its-parents v is =
      let same : is.content ≡ object.content = some_is {x = is.content} {y = object.content} (sym is.held ∙ its-content) in
      sym (parent_ids-text is.content v is.is) ∙ ap parent_ids same ∙ sym (ap (λ (a : Ancestry). a.parents) next.of.is)

  pub its-place : (at : ℕ) × (place_of came id ≡ Some at)
  its-place = let p = has-place came next.of.placed next.of.among in (p.0, ap (place_of came) id-is ∙ p.1)

  arrival-at : (place : ℕ) → place_of came id ≡ Some place → place_among arrivals id ≡ Some place
  arrival-at place is = ap (λ (l : List ObjectArrival). place_among l id) (o.ready).listed ∙ same-place came id ∙ is

  pub its-arrival : (at : ℕ) × (place_among arrivals id ≡ Some at)
  its-arrival = let p = its-place in (p.0, arrival-at p.0 p.1)

  module _ (now : StateParts) (new : List Block) (taken : CommitsTaken s now m.blocks (take i ordered) new) where
    stands : (x : Id) → is_some (block_of_id (m.blocks ++ new) x) ≡ (has (saved_ids m) x || has (take i ordered) x)
    stands x =
        has-block (m.blocks ++ new) x
        ∙ ap (λ (ids : List Id). has ids x) (map-append id_of m.blocks new)
        ∙ has-append (map id_of m.blocks) (map id_of new) x
        ∙ ap (λ (ids : List Id). has (saved_ids m) x || has ids x) taken.ids_are

    all-stand : (xs : List Id) → list_all (λ p. has (saved_ids m) p || has (take i ordered) p) xs ≡ true → Each (λ p. IsTrue (is_some (block_of_id (m.blocks ++ new) p))) xs
    all-stand [] h = tt
    all-stand (x ∷ xs) h =
        let parts = both (has (saved_ids m) x || has (take i ordered) x) (list_all (λ p. has (saved_ids m) p || has (take i ordered) p) xs) h in
        (stands x ∙ parts.0, all-stand xs parts.1)

    pub takes : TakesCommit now id (m.blocks ++ new)
    takes = record {
      state = taken.state;
      content = object.content;
      held = ap (λ (os : List Object). content_at commit os id) taken.objects ∙ its-content;
      parents = λ v is.
          subst (Each (λ p. IsTrue (is_some (block_of_id (m.blocks ++ new) p)))) (sym (its-parents v (subst (λ (os : List Object). IsCommitAt os id v) taken.objects is))) (all-stand next.parents next.all);
      free = none_is (block_of_id (m.blocks ++ new) id) (stands id ∙ (λ j. next.unsaved j || next.unplaced j));
    }

    -- ---- a refusal

    refusal-is : (name : FaultName) (place : ℕ) → place_of came id ≡ Some place → CommitRefused now.known.hg now.known.git (m.blocks ++ new) id name → IsCommitRefusal m came ordered (record { name = name; id = id; place = place })
    refusal-is name place is refused = record {
      before = take i ordered;
      refused = id;
      after = drop (i + 1) ordered;
      split = sym (take-append-drop i ordered) ∙ ap (λ (l : List Id). take i ordered ++ l) (drop_next ordered i id at);
      new = new;
      brings = subst (λ (k : List Revision). CommitsBring k (objects_with m came) m.blocks (take i ordered) new) (o.ready).revisions (subst (λ (os : List Object). CommitsBring s.known.hg os m.blocks (take i ordered) new) (o.ready).objects taken.brings);
      name = name;
      fault =
          subst (λ (os : List Object). CommitRefused (known_after_all m.revisions (revisions_in (changesets_in new))) os (m.blocks ++ new) id name) (taken.objects ∙ (o.ready).objects)
          (subst (λ (k : List Revision). CommitRefused k now.known.git (m.blocks ++ new) id name) (taken.revisions ∙ ap (λ (k : List Revision). known_after_all k (revisions_in (changesets_in new))) (o.ready).revisions) refused);
      at = place;
      place = is;
      is = refl;
    }

    pub refused-is : (e : TakeFault) (r : PullFault) → IsTakeFault (CommitRefused now.known.hg now.known.git (m.blocks ++ new) id) e → ((place : ℕ) → place_among arrivals id ≡ Some place → r ≡ placed_fault id place e)
        → IsJudgement (IsCommitRefusal m came ordered) r
    refused-is (Refused why) r due gives =
        let p = its-place in
        subst (IsJudgement (IsCommitRefusal m came ordered)) (sym (gives p.0 (arrival-at p.0 p.1))) (refusal-is _ p.0 p.1 due)
    refused-is Memory r due gives = subst (IsJudgement (IsCommitRefusal m came ordered)) (sym (gives its-arrival.0 its-arrival.1)) tt
