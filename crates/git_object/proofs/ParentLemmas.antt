-- The lines of the parents, one after the other.
use Rattle.std.proofs.Common.{◌≡◌, ◌<◌, List, [], ◌∷◌, ◌++◌, length, Some, None, codes, refl, sym, ap, ◌∙◌, arith, append_assoc, append-nil}
use Rattle.std.specs.List.{flat_map}
use Rattle.std.proofs.lemmas.List.Concat.{flat_map-append}
use Rattle.text_model.specs.Lists.{Each}
use Rattle.text_model.specs.Text.{Bytes, lf}
use Rattle.text_model.specs.Id.{Id, IsId, hex}
use Rattle.text_model.proofs.EachLemmas.{Each-push}
use Rattle.git_model.specs.Commit.{parent_line}
use Rattle.git_object.specs.Lines.{id_line, AreParents}
use Rattle.git_object.proofs.LineLemmas.{id_line-takes}

-- the text is lines of the parents that were appended, and the rest
pub record Followed (text : Bytes) (old new : List Id) (rest : Bytes) : Type 0 where
  pub ids : List Id
  pub each : Each IsId ids
  pub appended : new ≡ old ++ ids
  pub whole : text ≡ flat_map parent_line ids ++ rest

pub Followed-none : (text : Bytes) (old : List Id) → Followed text old old text
Followed-none text old = record { ids = []; each = tt; appended = sym (append-nil old); whole = refl }

pub Followed-more : (text : Bytes) (old mid new : List Id) (rest : Bytes) (id : Id) (after : Bytes) → Followed text old mid rest → Some (id, after) ≡ id_line (codes "parent ") rest → new ≡ mid ++ id ∷ [] → Followed text old new after
Followed-more text old mid new rest id after f read pushed =
    let l = id_line-takes (codes "parent ") rest id after (sym read) in
    record {
      ids = f.ids ++ id ∷ [];
      each = Each-push IsId f.ids id f.each l.is;
      appended = pushed ∙ ap (λ (x : List Id). x ++ id ∷ []) f.appended ∙ append_assoc old f.ids (id ∷ []);
      whole =
          f.whole ∙ ap (λ (x : Bytes). flat_map parent_line f.ids ++ x) (l.line.whole ∙ sym (append_assoc (codes "parent " ++ hex id) (lf ∷ []) after))
          ∙ sym (append_assoc (flat_map parent_line f.ids) (parent_line id) after)
          ∙ ap (λ (x : Bytes). x ++ after) (ap (λ (x : Bytes). flat_map parent_line f.ids ++ x) (sym (append-nil (parent_line id))) ∙ sym (flat_map-append parent_line f.ids (id ∷ [])));
    }

pub Followed-shorter : (rest : Bytes) (id : Id) (after : Bytes) → Some (id, after) ≡ id_line (codes "parent ") rest → length after < length rest
Followed-shorter rest id after read = omega (arith, (id_line-takes (codes "parent ") rest id after (sym read)).line.len)

pub Followed-all : (text : Bytes) (old new : List Id) (rest : Bytes) → Followed text old new rest → None ≡ id_line (codes "parent ") rest → AreParents text old new rest
Followed-all text old new rest f none = record { ids = f.ids; each = f.each; appended = f.appended; whole = f.whole; last = sym none }
