-- The stream of commits is that of one list of commits.
use Rattle.std.proofs.Common.{◌≡◌, inl, inr, Bool, true, false, true≢false, not, ◌&&◌, ◌||◌, List, [], ◌∷◌, ◌++◌, map, refl, sym, ap, subst, ◌∙◌, arith}
use Rattle.std.specs.Prelude.{bytes_eq, filter}
use Rattle.std.specs.List.{list_any}
use Rattle.std.proofs.lemmas.List.Elements.{filter-append}
use Rattle.std.proofs.lemmas.Slice.Eq.{bytes_eq-Decides}
use Rattle.text_model.specs.Lists.{Each, In, first_of_each, only_new}
use Rattle.text_model.specs.Id.{Id, IsId, commit, kind_word, same_kind}
use Rattle.text_model.proofs.TestLemmas.{both, bytes_eq-self}
use Rattle.text_model.proofs.Elements.{each_in, in_left, none_in}
use Rattle.git_model.specs.Tree.{has_distinct}
use Rattle.git_model.specs.Commit.{Commit, commit_text}
use Rattle.git_model.specs.Object.{Object, object_at, has_id, same_object, is_other_content}
use Rattle.git_model.proofs.OneTextLemmas.{one_commit}
use Rattle.view_model.specs.View.{CommitView, IsCommitView, commit_id, commit_objects}
use Rattle.view_model.specs.Dump.{objects_in, git_increment}
use Rattle.state_model.specs.Kept.{git_dump}
use Rattle.state_model.specs.Saved.{AreCommitsSaved, has_other_content}
use Rattle.hg_dump.proofs.OnceLemmas.{Each-new}
use Rattle.dump_law.proofs.News.{only_new-nothing, filter_first}
use Rattle.dump_law.proofs.Grows.{same_object_turned}
use Rattle.dump_law.proofs.Brought.{find_first}
use Rattle.dump_law.proofs.Saved.{finds}
use Rattle.dump_law.proofs.Elements.{in-flat, heads, tails}
use Rattle.dump_law.proofs.Trees.{HasAll}
use Rattle.dump_law.proofs.Rows.{same_rows}
use Rattle.dump_law.proofs.Streams.{shapes_of, own, commit_parts, commit_split, kind_is, all_ids, one_stream}

abbrev is_commit : Object → Bool
is_commit o = same_kind commit o.kind

-- ---- the commits among the objects, in order

filter_none : (os : List Object) → ((o : Object) → In o os → is_commit o ≡ false) → filter is_commit os ≡ []
filter_none [] h = refl
filter_none (o ∷ os) h = rw (h o (inl refl)) (filter_none os (λ x i. h x (inr i)))

own_alone : (cs : List CommitView) → Each IsCommitView cs → filter is_commit (objects_in cs) ≡ map own cs
own_alone [] v = refl
own_alone (c ∷ cs) v =
    let none : filter is_commit (shapes_of c) ≡ [] = filter_none (shapes_of c) (λ o i. (commit_parts c v.0 o i).no_commit) in
    let mine : filter is_commit (commit_objects c) ≡ own c ∷ [] =
    ap (filter is_commit) (commit_split c) ∙ filter-append is_commit (shapes_of c) (own c ∷ []) ∙ ap (λ (l : List Object). l ++ own c ∷ []) none in
    filter-append is_commit (commit_objects c) (objects_in cs) ∙ (λ i. mine i ++ own_alone cs v.1 i)

pub id_is : (c : CommitView) → commit_id c ≡ (own c).id
unfolding commit_id
id_is c = refl

own_once : (cs : List CommitView) → has_distinct (map commit_id cs) ≡ true → first_of_each same_object (map own cs) ≡ map own cs
own_once [] h = refl
own_once (x ∷ cs) h =
    let d = both (not (list_any (bytes_eq (commit_id x)) (map commit_id cs))) (has_distinct (map commit_id cs)) h in
    ap (λ (l : List Object). own x ∷ l) (ap (filter (λ y. not (same_object (own x) y))) (own_once cs d.1) ∙ others cs d.0)
  where
    others : (ks : List CommitView) → not (list_any (bytes_eq (commit_id x)) (map commit_id ks)) ≡ true → filter (λ y. not (same_object (own x) y)) (map own ks) ≡ map own ks
    others [] n = refl
    others (k ∷ ks) n = by (bytes_eq (commit_id x) (commit_id k)) refl (others ks)
      where
        by : (t : Bool) → bytes_eq (commit_id x) (commit_id k) ≡ t
            → (not (list_any (bytes_eq (commit_id x)) (map commit_id ks)) ≡ true → filter (λ y. not (same_object (own x) y)) (map own ks) ≡ map own ks)
            → filter (λ y. not (same_object (own x) y)) (map own (k ∷ ks)) ≡ map own (k ∷ ks)
        by true e go = absurd (true≢false (sym n ∙ ap (λ (b : Bool). not (b || list_any (bytes_eq (commit_id x)) (map commit_id ks))) e))
        by false e go =
            let other : same_object (own x) (own k) ≡ false = (λ i. bytes_eq (sym (id_is x) i) (sym (id_is k) i)) ∙ e in
            rw other (ap (λ (l : List Object). own k ∷ l) (go (sym (ap (λ (b : Bool). not (b || list_any (bytes_eq (commit_id x)) (map commit_id ks))) e) ∙ n)))

-- ---- an object of one id has one kind and one content

pub record IsAlike (o s : Object) : Type 0 where
  pub kind : o.kind ≡ s.kind
  pub content : o.content ≡ s.content

pub alike : (objects : List Object) → has_other_content objects ≡ false → (o s : Object) → In o objects → In s objects → same_object o s ≡ true → IsAlike o s
alike objects one o s i j e =
    let none : is_other_content o s ≡ false = none_in (is_other_content o) objects s (none_in (λ x. list_any (is_other_content x) objects) objects o one i) j in
    let t = both (same_kind o.kind s.kind) (bytes_eq o.content s.content) (not-and (same_object o s) _ e none) in
    record { kind = kind_is o.kind s.kind ((bytes_eq-Decides (kind_word o.kind) (kind_word s.kind)).0 t.0); content = (bytes_eq-Decides o.content s.content).0 t.1 }
  where
    not-and : (a b : Bool) → a ≡ true → (a && not b) ≡ false → b ≡ true
    not-and true true e h = refl
    not-and true false e h = absurd (true≢false h)
    not-and false b e h = absurd (true≢false (sym e))

pub own_in_order : (cs : List CommitView) → AreCommitsSaved cs → filter is_commit (only_new same_object [] (objects_in cs)) ≡ map own cs
own_in_order cs s =
    ap (filter is_commit) (only_new-nothing same_object same_object_turned (objects_in cs))
    ∙ filter_first is_commit same_object (objects_in cs) (λ x y i j e. ap (same_kind commit) (sym (alike (objects_in cs) s.one x y i j e).kind))
    ∙ ap (first_of_each same_object) (own_alone cs s.views)
    ∙ own_once cs s.distinct

-- the ids of the commits that a dump brings, in order
pub git-ids : (cs : List CommitView) → AreCommitsSaved cs → map (λ (o : Object). o.id) (filter (λ o. same_kind commit o.kind) (only_new same_object [] (objects_in cs))) ≡ map commit_id cs
git-ids cs s = ap (map (λ (o : Object). o.id)) (own_in_order cs s) ∙ each cs
  where
    each : (ds : List CommitView) → map (λ (o : Object). o.id) (map own ds) ≡ map commit_id ds
    each [] = refl
    each (d ∷ ds) = (λ i. sym (id_is d) i ∷ each ds i)

all_has : (cs : List CommitView) → has_other_content (objects_in cs) ≡ false → (c : CommitView) → In c cs → HasAll (objects_in cs) (shapes_of c)
all_has cs one c i o j =
    let there : In o (objects_in cs) = in-flat commit_objects c o cs i (subst (λ (l : List Object). In o l) (sym (commit_split c)) (in_left o (shapes_of c) (own c ∷ []) j)) in
    let f = finds (has_id o.id) o (objects_in cs) there (bytes_eq-self o.id) in
    (f.it, f.is, sym (alike (objects_in cs) one o f.it there f.there f.passes).content)

found_once : (objects : List Object) (id : Id) → object_at (only_new same_object [] objects) id ≡ object_at objects id
found_once objects id =
    ap (λ (l : List Object). object_at l id) (only_new-nothing same_object same_object_turned objects)
    ∙ find_first (has_id id) same_object objects (λ x y s f.
    (bytes_eq-Decides id x.id).1 ((bytes_eq-Decides id y.id).0 f ∙ sym ((bytes_eq-Decides x.id y.id).0 s)))

-- ---- the whole

module _ (known : List Object) where
  abbrev IsIn : CommitView → Type 0
  IsIn c = IsCommitView c × HasAll known (shapes_of c)

  one_view : (c d : CommitView) → IsIn c → IsIn d → own c ≡ own d → c ≡ d
  one_view c d x y e =
      let value : c.value ≡ d.value = one_commit (commit_text c.value) c.value d.value ((x.0).value, refl) ((y.0).value, ap (λ (o : Object). o.content) e) in
      let rows = same_rows known c d x.0 y.0 x.1 y.1 (ap (λ (v : Commit). v.tree_id) value) in
      (λ i. record { value = value i; rows = rows i })

  one_list : (cs ds : List CommitView) → ((c : CommitView) → In c cs → IsIn c) → ((d : CommitView) → In d ds → IsIn d) → map own cs ≡ map own ds → cs ≡ ds
  one_list [] [] x y e = refl
  one_list [] (d ∷ ds) x y e = absurd cc
  one_list (c ∷ cs) [] x y e = absurd cc
  one_list (c ∷ cs) (d ∷ ds) x y e =
      let first : own c ≡ own d = heads e in
      let more : map own cs ≡ map own ds = tails e in
      (λ i. one_view c d (x c (inl refl)) (y d (inl refl)) first i ∷ one_list cs ds (λ k j. x k (inr j)) (λ k j. y k (inr j)) more i)

pub one_git_dump : (cs ds : List CommitView) → AreCommitsSaved cs → AreCommitsSaved ds → git_dump cs ≡ git_dump ds → cs ≡ ds
unfolding git_increment
one_git_dump cs ds s t e =
    let objects : only_new same_object [] (objects_in cs) ≡ only_new same_object [] (objects_in ds) =
    one_stream (only_new same_object [] (objects_in cs)) (only_new same_object [] (objects_in ds))
    (Each-new (λ o. IsId o.id) same_object [] (objects_in ds) (all_ids ds t.views))
    (omega (arith, s.short)) e in
    let owns : map own cs ≡ map own ds = sym (own_in_order cs s) ∙ ap (filter is_commit) objects ∙ own_in_order ds t in
    let at : (id : Id) → object_at (objects_in cs) id ≡ object_at (objects_in ds) id =
    λ id. sym (found_once (objects_in cs) id) ∙ ap (λ (l : List Object). object_at l id) objects ∙ found_once (objects_in ds) id in
    one_list (objects_in cs) cs ds
    (λ c i. (each_in IsCommitView cs c s.views i, all_has cs s.one c i))
    (λ d i. (each_in IsCommitView ds d t.views i, λ o j. let h = all_has ds t.one d i o j in (h.0, at o.id ∙ h.1, h.2)))
    owns
