-- What is written of names is the same behind a pull.
use Rattle.std.proofs.Common.{◌≡◌, Bool, true, false, cond, ◌||◌, ◌&&◌, not, List, [], ◌∷◌, ◌++◌, map, Option, Some, None, refl, sym, ap, subst, ◌∙◌, true≢false, inl, arith}
use Rattle.std.specs.Prelude.{is_some, option_map, bytes_eq, if◌then◌else◌, IsTrue}
use Rattle.std.specs.List.{find}
use Rattle.text_model.specs.Lists.{Each, In}
use Rattle.text_model.specs.Text.{Bytes}
use Rattle.text_model.specs.Id.{Id, ObjectKind, blob, tree, commit, tag, has_id, same_kind}
use Rattle.text_model.proofs.Elements.{in_left, in_right, none_in}
use Rattle.text_model.proofs.TestLemmas.{bytes_eq-is, bytes_eq-sym}
use Rattle.text_model.proofs.Options.{none_some}
use Rattle.git_model.specs.Commit.{commit_text}
use Rattle.git_model.specs.Object.{Object, object_of, is_other_content, objects_after, knows_object}
use Rattle.git_model.specs.Shape.{shape_objects, shape_depth}
use Rattle.git_store.proofs.Growth.{unlike}
use Rattle.view_model.specs.View.{CommitView, commit_id, commit_objects, leaf_of_row}
use Rattle.view_model.specs.Dump.{objects_in}
use Rattle.pair_model.specs.Block.{Block, id_of, commits_in}
use Rattle.state_model.specs.Kept.{State, Kept, NameRow, kept_of, with_kept, is_tag, ids_of}
use Rattle.state_model.specs.Names.{targets_in, changeset_of, is_target}
use Rattle.state_model.specs.Saved.{AreTagsSaved, IsState}
use Rattle.name_model.specs.Line.{OtherRef, tags, line_text}
use Rattle.name_model.specs.Targets.{behind, tag_line_by, line_with, line_of_ref}
use Rattle.name_model.specs.Reading.{names_text}
use Rattle.saved_model.specs.Step.{next_of}
use Rattle.dump_law.proofs.StreamRead.{AreAdded, stream_is_read}
use Rattle.command_model.specs.Command.{Written}
use Rattle.state_law.specs.Named.{NamesAreLeft}
use Rattle.state_law.proofs.Names.{pair_of, tag-stays}

-- ---- no tag has the id of a commit

-- a tag and a commit of which neither is the other have two ids
apart-one : (o x : Object) → is_tag o ≡ true → x.kind ≡ commit → is_other_content o x ≡ false → bytes_eq o.id x.id ≡ false
apart-one o x tagged is none =
    by o.kind tagged (subst (λ (k : ObjectKind). (bytes_eq o.id x.id && not (same_kind o.kind k && bytes_eq o.content x.content)) ≡ false) is none)
  where
    first : (b : Bool) → (b && true) ≡ false → b ≡ false
    first true e = e
    first false e = refl

    by : (k : ObjectKind) → same_kind k tag ≡ true → (bytes_eq o.id x.id && not (same_kind k commit && bytes_eq o.content x.content)) ≡ false → bytes_eq o.id x.id ≡ false
    by blob h e = absurd (true≢false (sym h))
    by tree h e = absurd (true≢false (sym h))
    by commit h e = absurd (true≢false (sym h))
    by tag h e = first (bytes_eq o.id x.id) e

grown : (known : List Object) (o x : Object) → In x known → In x (objects_after known o)
grown known o x i = by (knows_object known o.id)
  where
    by : (b : Bool) → In x (if b then known else known ++ o ∷ [])
    by true = i
    by false = in_left x known (o ∷ []) i

-- tags that were added have the id of no commit that was known
apart : (known tags : List Object) → AreAdded known tags → Each (λ o. IsTrue (is_tag o)) tags → (x : Object) → In x known → x.kind ≡ commit → (id : Id) → has_id (ids_of tags) id ≡ true
    → bytes_eq id x.id ≡ false
apart known [] added tagged x i is id h = absurd (true≢false (sym h))
apart known (o ∷ os) added tagged x i is id h = by (bytes_eq id o.id) refl h (apart (objects_after known o) os added.2 tagged.1 x (grown known o x i) is id)
  where
    own : bytes_eq o.id x.id ≡ false
    own = apart-one o x tagged.0 is (none_in (is_other_content o) known x (unlike known o added.1) i)

    by : (t : Bool) → bytes_eq id o.id ≡ t → (t || has_id (ids_of os) id) ≡ true → (has_id (ids_of os) id ≡ true → bytes_eq id x.id ≡ false) → bytes_eq id x.id ≡ false
    by true e k later = ap (λ (y : Id). bytes_eq y x.id) (bytes_eq-is id o.id e) ∙ own
    by false e k later = later k

-- a commit is one of its own objects
commit-in : (c : CommitView) → In (object_of commit (commit_text c.value)) (commit_objects c)
unfolding commit_objects
commit-in c = in_right (object_of commit (commit_text c.value)) (shape_objects shape_depth (map leaf_of_row c.rows)) _ (inl refl)

id-is : (c : CommitView) → (object_of commit (commit_text c.value)).id ≡ commit_id c
unfolding commit_id
id-is c = refl

abbrev found : Id → List Block → Option (Id × Id)
found id blocks = find (λ (e : Id × Id). bytes_eq e.1 id) (map pair_of blocks)

-- an id that is that of no commit of blocks has no changeset
no-changeset : (blocks : List Block) (known : List Object) (id : Id) → ((x : Object) → In x (objects_in (commits_in blocks)) → In x known) → ((x : Object) → In x known → x.kind ≡ commit → bytes_eq id x.id ≡ false)
    → option_map (λ (e : Id × Id). e.0) (found id blocks) ≡ None
no-changeset [] known id within none = refl
no-changeset (b ∷ blocks) known id within none =
    let o = object_of commit (commit_text (b.commit).value) in
    let here : In o known = within o (in_left o (commit_objects b.commit) (objects_in (commits_in blocks)) (commit-in b.commit)) in
    let other : bytes_eq (id_of b) id ≡ false = bytes_eq-sym (id_of b) id ∙ ap (bytes_eq id) (sym (id-is b.commit)) ∙ none o here refl in
    rw other (no-changeset blocks known id (λ x i. within x (in_right x (commit_objects b.commit) (objects_in (commits_in blocks)) i)) none)

tag-is-none : (s : State) → IsState s → (id : Id) → has_id (ids_of s.tags) id ≡ true → changeset_of (targets_in (kept_of s)) id ≡ None
tag-is-none s is id h =
    let tags : AreTagsSaved (commits_in s.blocks) s.tags = is.1.0.1 in
    let known = objects_in (commits_in s.blocks) in
    let added = (stream_is_read known s.tags (omega (arith, tags.short)) tags.read).added in
    no-changeset s.blocks known id (λ x i. i) (λ x i c. apart known s.tags added tags.tags_only x i c id h)

-- ---- a line is the same behind a pull

changeset-stays : (id node : Id) (blocks new : List Block) → option_map (λ (e : Id × Id). e.0) (found id blocks) ≡ Some node
    → option_map (λ (e : Id × Id). e.0) (found id (blocks ++ new)) ≡ Some node
changeset-stays id node [] new h = absurd (none_some h)
changeset-stays id node (b ∷ blocks) new h = by (bytes_eq (id_of b) id) h (changeset-stays id node blocks new)
  where
    by : (t : Bool) → option_map (λ (e : Id × Id). e.0) (cond t (Some (pair_of b)) (found id blocks)) ≡ Some node
        → (option_map (λ (e : Id × Id). e.0) (found id blocks) ≡ Some node → option_map (λ (e : Id × Id). e.0) (found id (blocks ++ new)) ≡ Some node)
        → option_map (λ (e : Id × Id). e.0) (cond t (Some (pair_of b)) (found id (blocks ++ new))) ≡ Some node
    by true k rec = k
    by false k rec = rec k

module _ (k : Kept) (new : List Block) (added : List Object) where
  module _ (none : (id : Id) → has_id (ids_of (k.tags ++ added)) id ≡ true → changeset_of (targets_in (next_of k new added)) id ≡ None) where
    line-stays : (row : NameRow) → is_target (targets_in k) row.id ≡ true → line_of_ref (targets_in (next_of k new added)) row ≡ line_of_ref (targets_in k) row
    line-stays row known = by (changeset_of (targets_in k) row.id) refl
      where
        by : (o : Option Id) → changeset_of (targets_in k) row.id ≡ o → line_of_ref (targets_in (next_of k new added)) row ≡ line_of_ref (targets_in k) row
        by (Some node) e =
            ap (line_with (targets_in (next_of k new added)) row) (changeset-stays row.id node k.blocks new e) ∙ sym (ap (line_with (targets_in k) row) e)
        by None e =
            let old : has_id (ids_of k.tags) row.id ≡ true = sym (ap (λ (o : Option Id). is_some o || has_id (ids_of k.tags) row.id) e) ∙ known in
            let now : has_id (ids_of (k.tags ++ added)) row.id ≡ true = tag-stays row.id k.tags added old in
            let line = λ (b : Bool). if b then tag_line_by row (behind tags row.name) else OtherRef row.id row.name in
            ap (line_with (targets_in (next_of k new added)) row) (none row.id now) ∙ ap line now ∙ sym (ap line old) ∙ sym (ap (line_with (targets_in k) row) e)

    text-stays : (names : List NameRow) → Each (λ row. IsTrue (is_target (targets_in k) row.id)) names → names_text (targets_in (next_of k new added)) names ≡ names_text (targets_in k) names
    text-stays [] h = refl
    text-stays (row ∷ names) h = (λ i. line_text (line-stays row h.0 i) ++ text-stays names h.1 i)

pub same-names : NamesAreLeft
same-names s pull k made n left steps =
    let next = with_kept s k in
    let is : k ≡ next_of (kept_of s) steps.0 steps.1 = steps.3 in
    let none = λ (id : Id) (h : has_id (ids_of (s.tags ++ steps.1)) id ≡ true).
    subst (λ (x : Kept). changeset_of (targets_in x) id ≡ None) is
    (tag-is-none next left id (subst (λ (x : Kept). has_id (ids_of x.tags) id ≡ true) (sym is) h)) in
    let same : names_text (targets_in k) s.names ≡ names_text (targets_in (kept_of s)) s.names =
    ap (λ (x : Kept). names_text (targets_in x) s.names) is ∙ text-stays (kept_of s) steps.0 steps.1 none s.names n.targets in
    record {
      names = refl;
      hg = λ text e. ap (λ (t : Bytes). Written t None) same ∙ e;
      git = λ text e. e;
    }
