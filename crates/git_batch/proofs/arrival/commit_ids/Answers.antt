use Rattle.std.proofs.Common.{◌≡◌, ◌<◌, ◌+◌, ◌++◌, ℕ, Bool, true, false, List, [], ◌∷◌, length, take, get_or, map, refl, sym, ap, ◌∙◌, arith, append-nil}
use Rattle.std.specs.Prelude.{if◌then◌else◌, filter}
use Rattle.std.proofs.lemmas.List.{take_more, map-append}
use Rattle.std.proofs.lemmas.List.Elements.{filter-append}
use denote.Enum.Bare.{sameb}
use Rattle.bridge_text.specs.contracts.kind.Kind.{the_type}
use Rattle.bridge_text.specs.declared.kind.Kind.{Kind}
use Rattle.bridge_text.specs.declared.kind.Kind.TheVariants.{Blob, Tree, Commit, Tag}
use Rattle.bridge_text.specs.Kinds.{object_kind}
use Rattle.text_model.specs.Id.{Id, commit, same_kind}
use Rattle.git_batch.specs.declared.arrival.ObjectArrival.{ObjectArrival}
use Rattle.git_batch.specs.Arrivals.{is_of, commits_among}
use Rattle.git_batch.proofs.arrival.commit_ids.Goals as goal
use Rattle.git_batch.proofs.arrival.commit_ids.Goals.{then-eq+in_ok-push, else-eq}

is_same : (k : Kind) → sameb the_type k Commit ≡ same_kind commit (object_kind k)
is_same Blob = refl
is_same Tree = refl
is_same Commit = refl
is_same Tag = refl

one_more : (came : List ObjectArrival) (i : ℕ) (a : ObjectArrival) → i < length came → a ≡ get_or came i a → commits_among (take (i + 1) came) ≡ commits_among (take i came) ++ (if is_of commit a then a.id ∷ [] else [])
one_more came i a below is =
    ap commits_among (take_more came i a below ∙ ap (λ (y : ObjectArrival). take i came ++ y ∷ []) (sym is))
    ∙ ap (map (λ (a : ObjectArrival). a.id)) (filter-append (is_of commit) (take i came) (a ∷ []))
    ∙ map-append (λ (a : ObjectArrival). a.id) (filter (is_of commit) (take i came)) (filter (is_of commit) (a ∷ []))
    ∙ ap (λ (l : List Id). commits_among (take i came) ++ l) (by (is_of commit a))
  where
    by : (t : Bool) → map (λ (a : ObjectArrival). a.id) (if t then a ∷ [] else []) ≡ (if t then a.id ∷ [] else [])
    by true = refl
    by false = refl

pub loop-item-preserved : goal.loop-item-preserved
loop-item-preserved c =
    let came = c.args.came.now in
    let i = c.loop-item.item-index in
    let a = c.item-item.result in
    let next = one_more came i a (omega (arith, ap length c.as_slice-item-items.ensures)) (c.item-item.is ∙ ap (λ (l : List ObjectArrival). get_or l i a) c.as_slice-item-items.ensures) in
    let test : c.eq.result ≡ is_of commit a = c.eq.ensures ∙ is_same a.kind in
    elim c.if-eq.branch [
      | then-eq+in_ok-push w ↦ w.ids-is ∙ w.in_ok-push.ensures.ok ∙ ap (λ (l : List Id). l ++ a.id ∷ []) c.loop-item.invariant
          ∙ sym (next ∙ ap (λ (t : Bool). commits_among (take i came) ++ (if t then a.id ∷ [] else [])) (sym test ∙ w.if-eq.true))
      | else-eq w ↦ w.ids-is ∙ c.loop-item.invariant
          ∙ sym (next ∙ ap (λ (t : Bool). commits_among (take i came) ++ (if t then a.id ∷ [] else [])) (sym test ∙ w.if-eq.false) ∙ append-nil (commits_among (take i came)))
    ]
