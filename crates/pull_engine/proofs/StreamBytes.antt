-- A stream of sound objects is made of bytes.
use Rattle.std.proofs.Common.{◌≡◌, List, [], ◌∷◌, length, Ok, refl, sym, subst}
use Rattle.std.specs.Prelude.{codes, decimal}
use Rattle.text_model.specs.Lists.{Each}
use Rattle.text_model.specs.Text.{Bytes, IsBytes, line, spaced}
use Rattle.text_model.specs.Id.{ObjectKind, blob, tree, commit, tag, kind_word, hex}
use Rattle.text_model.proofs.ByteLemmas.{IsBytes-append}
use Rattle.text_model.proofs.EachLemmas.{Each-weaker}
use Rattle.text_model.proofs.Elements.{each_in}
use Rattle.text_model.proofs.TextBytes.{hex-bytes, small-bytes, line-bytes, spaced-bytes}
use Rattle.git_model.specs.Object.{Object}
use Rattle.git_model.specs.Stream.{Placed, object_text, stream_text, stream_reading}
use Rattle.git_store.specs.Known.{IsSound}
use Rattle.git_store.specs.Growth.{IsThere}
use Rattle.git_store.proofs.Growth.{found-in}
use Rattle.git_batch.proofs.StreamLaws.{brings_only}
use Rattle.mark_law.proofs.TextFacts.{IsBytes-decimal}
use Rattle.pair_model.specs.Block.{Block}
use Rattle.history_model.specs.Pull.{objects_among}
use Rattle.pair_state.specs.declared.state_parts.StateParts.{StateParts}
use Rattle.pull_stream.proofs.Growth.{grown}
use Rattle.pull_outcome.specs.declared.pulled.GitPulled.{GitPulled}
use Rattle.pull_outcome.specs.Pulls.{PulledGit}

-- ---- the words of an object's line

kind-bytes : (kind : ObjectKind) → IsBytes (kind_word kind)
kind-bytes blob = small-bytes (codes "blob") refl
kind-bytes tree = small-bytes (codes "tree") refl
kind-bytes commit = small-bytes (codes "commit") refl
kind-bytes tag = small-bytes (codes "tag") refl

-- ---- objects

object-bytes : (o : Object) → IsSound o → IsBytes (object_text o)
object-bytes o sound =
    let words = hex o.id ∷ kind_word o.kind ∷ decimal (length o.content) ∷ [] in
    IsBytes-append (line (spaced words)) (line o.content)
    (line-bytes (spaced words) (spaced-bytes words (hex-bytes o.id sound.id, (kind-bytes o.kind, (IsBytes-decimal (length o.content), tt)))))
    (line-bytes o.content sound.bytes)

objects-bytes : (objects : List Object) → Each IsSound objects → IsBytes (stream_text objects)
unfolding stream_text
objects-bytes [] sound = tt
objects-bytes (o ∷ objects) sound = IsBytes-append (object_text o) (stream_text objects) (object-bytes o sound.0) (objects-bytes objects sound.1)

-- a stream whose objects are sound
stream-bytes : (known : List Object) (bytes : Bytes) (came : List Placed) → stream_reading known bytes ≡ Ok came → Each IsSound (objects_among came) → IsBytes bytes
stream-bytes known bytes came reads sound =
    subst IsBytes (sym (brings_only known bytes came reads).0.is) (objects-bytes (objects_among came) sound)

-- ---- a stream that was taken

module _ (s : StateParts) (blocks : List Block) (bytes : Bytes) (p : GitPulled) (done : PulledGit s blocks bytes p) where
  abbrev came : List Placed
  came = (done.makes).came

  pub came-in : Each (IsThere (p.state).known.git) (objects_among came)
  came-in = subst (λ (os : List Object). Each (IsThere os) (objects_among came)) (sym done.objects)
      (grown s.known.git came (brings_only s.known.git bytes came (done.makes).reads).2).added

  pub taken-bytes : IsBytes bytes
  taken-bytes = stream-bytes s.known.git bytes came (done.makes).reads
      (Each-weaker (IsThere (p.state).known.git) IsSound (λ o at. each_in IsSound (p.state).known.git o (((done.next).state).sound).sound (found-in (p.state).known.git o.id o at)) (objects_among came) came-in)
