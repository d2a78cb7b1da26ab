-- The streams of objects that are listed by their ids.
use Rattle.std.proofs.Common.{◌≡◌, ◌+◌, ◌<◌, ℕ, List, [], ◌∷◌, ◌++◌, length, take, drop, get_or, refl, sym, ap, ◌∙◌, append_assoc, take-append-drop}
use Rattle.std.proofs.lemmas.List.{flat_map_more, take_more}
use Rattle.std.proofs.Math.Seq.{take-append_seam}
use Rattle.std.specs.Io.{StartsWith}
use Rattle.text_model.specs.Text.{Bytes}
use Rattle.text_model.specs.Id.{Id}
use Rattle.git_model.specs.Object.{Object}
use Rattle.git_model.specs.Stream.{stream_text}
use Rattle.git_dump.specs.Walks.{objects_at, objects_of}
use Rattle.git_dump.proofs.VisitLemmas.{stream_text-append}

module _ (known : List Object) where
  abbrev pub text_of : List Id → Bytes
  text_of ids = stream_text (objects_of known ids)

  abbrev pub text_at : Id → Bytes
  text_at id = stream_text (objects_at known id)

  pub text-none : [] ≡ text_of []
  unfolding stream_text
  text-none = refl

  pub text-more : (ids : List Id) (i : ℕ) (id : Id) → i < length ids → id ≡ get_or ids i id → text_of (take (i + 1) ids) ≡ text_of (take i ids) ++ text_at id
  text-more ids i id below is = ap stream_text more ∙ stream_text-append (objects_of known (take i ids)) (objects_at known id)
    where
      more : objects_of known (take (i + 1) ids) ≡ objects_of known (take i ids) ++ objects_at known id
      more = ap (objects_of known) (take_more ids i id below ∙ ap (λ (x : Id). take i ids ++ x ∷ []) (sym is)) ∙ sym (flat_map_more (objects_at known) [] (take i ids) id)

pub front-stays : (old new more : Bytes) → new ≡ old ++ more → StartsWith new old
front-stays old new more is = ap (take (length old)) is ∙ take-append_seam old more

pub front-through : (old mid new more : Bytes) → mid ≡ old ++ more → StartsWith new mid → StartsWith new old
front-through old mid new more is starts =
    front-stays old new (more ++ drop (length mid) new)
    (sym (take-append-drop (length mid) new) ∙ ap (λ (l : Bytes). l ++ drop (length mid) new) (starts ∙ is) ∙ append_assoc old more (drop (length mid) new))
