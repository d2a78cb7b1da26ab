-- The partners of blocks, as the pairs of nodes and ids give them.
use Rattle.std.proofs.Common.{◌≡◌, Bool, true, false, true≢false, not, ◌||◌, List, [], ◌∷◌, map, Option, Some, None, refl, sym, ap, subst, ◌∙◌, inl, inr}
use Rattle.std.specs.Prelude.{bytes_eq, is_some, option_map, unwrap_or, if◌then◌else◌, IsTrue}
use Rattle.std.specs.List.{find, list_any}
use Rattle.std.proofs.lemmas.Slice.Eq.{bytes_eq-Decides}
use Rattle.text_model.specs.Lists.{In, Each}
use Rattle.text_model.specs.Id.{Id, IsId, null, is_null, commit}
use Rattle.text_model.proofs.HexLemmas.{IsId-null}
use Rattle.text_model.proofs.TestLemmas.{both}
use Rattle.git_model.specs.Tree.{has_distinct}
use Rattle.git_model.specs.Commit.{commit_text}
use Rattle.tree_shape.proofs.Elements.{in-filter}
use Rattle.view_model.specs.View.{CommitView, commit_id}
use Rattle.pair_model.specs.Block.{Block, node_of, id_of, block_of_node, block_of_id, git_partner, hg_partner, not_null}
use Rattle.pair_known.specs.Partners.{git_at, hg_at, ArePartners}
use Rattle.text_model.proofs.Search.{find-map}
use Rattle.text_model.proofs.Elements.{each_in}
use Rattle.text_model.proofs.Digests.{IsId-object_id}
use Rattle.text_model.proofs.Options.{none_some, some_is, some_mapped}

abbrev pub pairs_of : List Block → List (Id × Id)
pairs_of blocks = map (λ b. (node_of b, id_of b)) blocks

map-twice : {X Y Z : Type 0} (f : X → Y) (g : Y → Z) (o : Option X) → option_map g (option_map f o) ≡ option_map (λ x. g (f x)) o
map-twice f g None = refl
map-twice f g (Some x) = refl

pub git-pairs : (blocks : List Block) (node : Id) → git_at (pairs_of blocks) node ≡ option_map id_of (block_of_node blocks node)
git-pairs blocks node =
    ap (option_map (λ (e : Id × Id). e.1)) (find-map (λ (b : Block). (node_of b, id_of b)) (λ e. bytes_eq e.0 node) blocks)
    ∙ map-twice (λ (b : Block). (node_of b, id_of b)) (λ (e : Id × Id). e.1) (block_of_node blocks node)

pub hg-pairs : (blocks : List Block) (id : Id) → hg_at (pairs_of blocks) id ≡ option_map node_of (block_of_id blocks id)
hg-pairs blocks id =
    ap (option_map (λ (e : Id × Id). e.0)) (find-map (λ (b : Block). (node_of b, id_of b)) (λ e. bytes_eq e.1 id) blocks)
    ∙ map-twice (λ (b : Block). (node_of b, id_of b)) (λ (e : Id × Id). e.0) (block_of_id blocks id)

-- ---- partners

same-partners : (blocks : List Block) (nodes : List Id) → map (λ node. unwrap_or (git_at (pairs_of blocks) node) null) nodes ≡ map (git_partner blocks) nodes
same-partners blocks [] = refl
same-partners blocks (node ∷ nodes) = (λ i. unwrap_or (git-pairs blocks node i) null ∷ same-partners blocks nodes i)

pub partners-of-pairs : (pairs : List (Id × Id)) (blocks : List Block) (nodes : List Id) → pairs ≡ pairs_of blocks
    → map (λ node. unwrap_or (git_at pairs node) null) (not_null nodes) ≡ map (git_partner blocks) (not_null nodes)
partners-of-pairs pairs blocks nodes e = ap (λ (ps : List (Id × Id)). map (λ node. unwrap_or (git_at ps node) null) (not_null nodes)) e ∙ same-partners blocks (not_null nodes)

-- a node that isn't null has a partner, where all such have blocks
pub has-partner : (pairs : List (Id × Id)) (blocks : List Block) (nodes : List Id) (node : Id) → pairs ≡ pairs_of blocks → Each (λ p. IsTrue (is_some (block_of_node blocks p))) (not_null nodes)
    → In node nodes → is_null node ≡ false → IsTrue (is_some (git_at pairs node))
has-partner pairs blocks nodes node e all i some =
    (λ k. is_some (git_at (e k) node)) ∙ ap is_some (git-pairs blocks node) ∙ some_mapped id_of (block_of_node blocks node)
    ∙ each_in (λ p. IsTrue (is_some (block_of_node blocks p))) (not_null nodes) node all (in-filter (λ id. not (is_null id)) node nodes i (ap not some))

pub IsId-commit_id : (c : CommitView) → IsId (commit_id c)
unfolding commit_id
IsId-commit_id c = IsId-object_id commit (commit_text c.value)

pub IsId-partner : (blocks : List Block) (node : Id) → IsId (git_partner blocks node)
IsId-partner blocks node = by (block_of_node blocks node)
  where
    by : (o : Option Block) → IsId (unwrap_or (option_map id_of o) null)
    by None = IsId-null
    by (Some b) = IsId-commit_id b.commit

pub IsId-partners : (blocks : List Block) (nodes : List Id) → Each IsId (map (git_partner blocks) nodes)
IsId-partners blocks [] = tt
IsId-partners blocks (node ∷ nodes) = (IsId-partner blocks node, IsId-partners blocks nodes)

-- ---- one to one

is-not-any : (x : Id) (ids : List Id) → not (list_any (bytes_eq x) ids) ≡ true → In x ids → ⊥
is-not-any x [] h i = i
is-not-any x (y ∷ ids) h i = by (bytes_eq x y) refl h (λ k j. is-not-any x ids k j)
  where
    by : (t : Bool) → bytes_eq x y ≡ t → not (t || list_any (bytes_eq x) ids) ≡ true → (not (list_any (bytes_eq x) ids) ≡ true → In x ids → ⊥) → ⊥
    by true e k rec = true≢false (sym k)
    by false e k rec = elim i [ inl q ↦ true≢false (sym ((bytes_eq-Decides x y).1 q) ∙ e) | inr j ↦ rec k j ]

-- where f takes no value twice, it tells elements apart
one-of : {X : Type 0} (f : X → Id) (xs : List X) (x y : X) → has_distinct (map f xs) ≡ true → In x xs → In y xs → f x ≡ f y → x ≡ y
one-of f [] x y d i j same = absurd i
one-of {X} f (z ∷ xs) x y d i j same =
    let parts = both (not (list_any (bytes_eq (f z)) (map f xs))) (has_distinct (map f xs)) d in
    elim i [
      | inl p ↦ elim j [
        | inl q ↦ p ∙ sym q
        | inr l ↦ absurd (is-not-any (f z) (map f xs) parts.0 (subst (λ (v : Id). In v (map f xs)) (sym same ∙ ap f p) (in-map y xs l)))
      ]
      | inr k ↦ elim j [
        | inl q ↦ absurd (is-not-any (f z) (map f xs) parts.0 (subst (λ (v : Id). In v (map f xs)) (same ∙ ap f q) (in-map x xs k)))
        | inr l ↦ one-of f xs x y parts.1 k l same
      ]
    ]
  where
    in-map : (v : X) (vs : List X) → In v vs → In (f v) (map f vs)
    in-map v [] i = i
    in-map v (w ∷ vs) i = elim i [ inl q ↦ inl (ap f q) | inr j ↦ inr (in-map v vs j) ]

-- what a search finds is an element that passes
pub found-in : {X : Type 0} (test : X → Bool) (xs : List X) (x : X) → find test xs ≡ Some x → In x xs × (test x ≡ true)
found-in test [] x e = absurd (none_some e)
found-in {X} test (y ∷ xs) x e = by (test y) refl e (λ k. found-in test xs x k)
  where
    by : (t : Bool) → test y ≡ t → (if t then Some y else find test xs) ≡ Some x → (find test xs ≡ Some x → In x xs × (test x ≡ true)) → In x (y ∷ xs) × (test x ≡ true)
    by true q k rec = (inl (sym (some_is k)), ap test (sym (some_is k)) ∙ q)
    by false q k rec = let r = rec k in (inr r.0, r.1)

-- the block of a node
pub block-there : (blocks : List Block) (node : Id) → IsTrue (is_some (block_of_node blocks node)) → (b : Block) × (block_of_node blocks node ≡ Some b) × In b blocks × (node_of b ≡ node)
block-there blocks node h = by (block_of_node blocks node) refl h
  where
    by : (o : Option Block) → block_of_node blocks node ≡ o → is_some o ≡ true → (b : Block) × (block_of_node blocks node ≡ Some b) × In b blocks × (node_of b ≡ node)
    by None e h = absurd (true≢false (sym h))
    by (Some b) e h = let f = found-in (λ (x : Block). bytes_eq (node_of x) node) blocks b e in (b, e, f.0, (bytes_eq-Decides (node_of b) node).0 f.1)

-- the block of an id
pub block-of-id : (blocks : List Block) (id : Id) → IsTrue (is_some (block_of_id blocks id)) → (b : Block) × (block_of_id blocks id ≡ Some b) × In b blocks × (id_of b ≡ id)
block-of-id blocks id h = by (block_of_id blocks id) refl h
  where
    by : (o : Option Block) → block_of_id blocks id ≡ o → is_some o ≡ true → (b : Block) × (block_of_id blocks id ≡ Some b) × In b blocks × (id_of b ≡ id)
    by None e h = absurd (true≢false (sym h))
    by (Some b) e h = let f = found-in (λ (x : Block). bytes_eq (id_of x) id) blocks b e in (b, e, f.0, (bytes_eq-Decides (id_of b) id).0 f.1)

-- those of two nodes that aren't null, by the tests
abbrev pub chosen : Id → Id → Bool → Bool → List Id
chosen p q s t = if not s then p ∷ (if not t then q ∷ [] else []) else if not t then q ∷ [] else []

map-both : {X Y Z : Type 0} (f : X → Y) (g : Y → Z) (xs : List X) → map g (map f xs) ≡ map (λ x. g (f x)) xs
map-both f g [] = refl
map-both {X} {Y} {Z} f g (x ∷ xs) = ap (λ (l : List Z). g (f x) ∷ l) (map-both f g xs)

module _ (blocks : List Block) (are : ArePartners (pairs_of blocks)) where
  nodes-once : has_distinct (map node_of blocks) ≡ true
  nodes-once = subst (λ (ids : List Id). has_distinct ids ≡ true) (map-both (λ (b : Block). (node_of b, id_of b)) (λ (e : Id × Id). e.0) blocks) are.nodes

  ids-once : has_distinct (map id_of blocks) ≡ true
  ids-once = subst (λ (ids : List Id). has_distinct ids ≡ true) (map-both (λ (b : Block). (node_of b, id_of b)) (λ (e : Id × Id). e.1) blocks) are.ids

  -- two nodes with one partner are one
  pub one-partner : (p q : Id) → IsTrue (is_some (block_of_node blocks p)) → IsTrue (is_some (block_of_node blocks q)) → git_partner blocks p ≡ git_partner blocks q → p ≡ q
  one-partner p q hp hq same =
      let x = block-there blocks p hp in
      let y = block-there blocks q hq in
      let ids : id_of x.0 ≡ id_of y.0 = sym (ap (λ (o : Option Block). unwrap_or (option_map id_of o) null) x.1) ∙ same ∙ ap (λ (o : Option Block). unwrap_or (option_map id_of o) null) y.1 in
      sym x.3 ∙ ap node_of (one-of id_of blocks x.0 y.0 ids-once x.2 y.2 ids) ∙ y.3

  -- the changeset of a commit has this commit for a partner
  pub back-partner : (id : Id) → IsTrue (is_some (block_of_id blocks id)) → git_partner blocks (hg_partner blocks id) ≡ id
  back-partner id h =
      let x = block-of-id blocks id h in
      let node : hg_partner blocks id ≡ node_of x.0 = ap (λ (o : Option Block). unwrap_or (option_map node_of o) null) x.1 in
      let there = in-find node_of blocks x.0 x.2 in
      let y = block-there blocks (node_of x.0) there in
      let one : y.0 ≡ x.0 = one-of node_of blocks y.0 x.0 nodes-once y.2 x.2 y.3 in
      ap (git_partner blocks) node ∙ ap (λ (o : Option Block). unwrap_or (option_map id_of o) null) y.1 ∙ ap id_of one ∙ x.3
    where
      in-find : (f : Block → Id) (bs : List Block) (b : Block) → In b bs → is_some (find (λ x. bytes_eq (f x) (f b)) bs) ≡ true
      in-find f [] b i = absurd i
      in-find f (y ∷ bs) b i = by (bytes_eq (f y) (f b)) refl (λ j. in-find f bs b j)
        where
          by : (t : Bool) → bytes_eq (f y) (f b) ≡ t → (In b bs → is_some (find (λ x. bytes_eq (f x) (f b)) bs) ≡ true) → is_some (if t then Some y else find (λ x. bytes_eq (f x) (f b)) bs) ≡ true
          by true e rec = refl
          by false e rec = elim i [ inl q ↦ absurd (true≢false (sym ((bytes_eq-Decides (f y) (f b)).1 (ap f (sym q))) ∙ e)) | inr j ↦ rec j ]

  -- partners of two parents that differ are two
  pub distinct-partners : (p q : Id) → Each (λ n. IsTrue (is_some (block_of_node blocks n))) (not_null (p ∷ q ∷ [])) → (p ≡ q → p ≡ null) → has_distinct (map (git_partner blocks) (not_null (p ∷ q ∷ []))) ≡ true
  distinct-partners p q all apart = by (is_null p) (is_null q) refl refl all
    where
      other : is_null p ≡ false → IsTrue (is_some (block_of_node blocks p)) → IsTrue (is_some (block_of_node blocks q)) → (t : Bool) → bytes_eq (git_partner blocks p) (git_partner blocks q) ≡ t → t ≡ false
      other some hp hq true e = absurd (true≢false (sym ((bytes_eq-Decides p null).1 (apart (one-partner p q hp hq ((bytes_eq-Decides (git_partner blocks p) (git_partner blocks q)).0 e)))) ∙ some))
      other some hp hq false e = refl

      by : (s t : Bool) → is_null p ≡ s → is_null q ≡ t → Each (λ n. IsTrue (is_some (block_of_node blocks n))) (chosen p q s t) → has_distinct (map (git_partner blocks) (chosen p q s t)) ≡ true
      by true true e f h = refl
      by true false e f h = refl
      by false true e f h = refl
      by false false e f h = rw (other e h.0 h.1.0 (bytes_eq (git_partner blocks p) (git_partner blocks q)) refl) refl
