-- What the outcomes of the commands over streams say of their input.
use Rattle.std.proofs.Common.{◌≡◌, ◌≤◌, List, [], length, Option, Some, None, refl, sym, ap, subst, ◌∙◌}
use Rattle.std.specs.Prelude.{Result, Ok, Err}
use Rattle.text_model.specs.Text.{Bytes}
use Rattle.text_model.specs.Fault.{Refusal, input_limit}
use Rattle.git_model.specs.Stream.{Placed, stream_framing, stream_listing, stream_reading}
use Rattle.git_model.proofs.StreamAgain.{stream_again}
use Rattle.git_model.proofs.StreamTakes.{stream_takes}
use Rattle.state_model.specs.Kept.{State}
use Rattle.saved_model.specs.Written.{object_counts}
use Rattle.command_model.specs.Command.{ListGit, CheckGit, Written, Refused, written_unless, written_of, ComesTo}
use Rattle.git_batch.proofs.StreamLaws.{brings_all, brings_only}
use Rattle.format_law.specs.StreamFormat.{ListsStream, IsNoStream, CountsStream, IsNoSoundStream}

same_output : (a b : Bytes) (x y : Option State) → Written a x ≡ Written b y → b ≡ a
same_output a b x y e = cc

not_both : (output : Bytes) (saved : Option State) (why : Refusal) → Written output saved ≡ Refused why → ⊥
not_both output saved why e = cc

pub listed : (s : State) (bytes output : Bytes) (saved : Option State) → ComesTo ListGit s bytes (Written output saved) → ListsStream bytes output
listed s bytes output saved e = by (stream_framing bytes).bad refl
  where
    lines : Bytes
    lines = stream_listing (stream_framing bytes).objects

    by : (bad : Option Refusal) → (stream_framing bytes).bad ≡ bad → ListsStream bytes output
    by None is = record {
      placed = (stream_framing bytes).objects;
      is = stream_takes bytes is;
      lines = same_output lines output None saved (sym (ap (λ (x : Option Refusal). written_unless x lines) is) ∙ e);
    }
    by (Some why) is = absurd (not_both output saved why (sym e ∙ ap (λ (x : Option Refusal). written_unless x lines) is))

pub unlisted : (s : State) (bytes : Bytes) (why : Refusal) → ComesTo ListGit s bytes (Refused why) → IsNoStream bytes
unlisted s bytes why e objects fits =
    let whole = stream_again objects fits.fit (subst (λ (x : Bytes). length x ≤ input_limit) fits.is fits.fits) in
    let good : (stream_framing bytes).bad ≡ None = ap (λ (x : Bytes). (stream_framing x).bad) fits.is ∙ whole.all in
    let lines = stream_listing (stream_framing bytes).objects in
    not_both lines None why (sym (ap (λ (x : Option Refusal). written_unless x lines) good) ∙ e)

pub checked : (s : State) (bytes output : Bytes) (saved : Option State) → ComesTo CheckGit s bytes (Written output saved) → CountsStream bytes output
checked s bytes output saved e = by (stream_reading [] bytes) refl
  where
    by : (read : Result (List Placed) Refusal) → stream_reading [] bytes ≡ read → CountsStream bytes output
    by (Ok placed) is =
        let holds = brings_only [] bytes placed is in
        record {
          placed = placed;
          is = record { is = holds.0; checked = holds.1; added = holds.2 };
          counts = same_output (object_counts placed) output None saved (sym (ap (written_of object_counts) is) ∙ e);
        }
    by (Err why) is = absurd (not_both output saved why (sym e ∙ ap (written_of object_counts) is))

pub unchecked : (s : State) (bytes : Bytes) (why : Refusal) → ComesTo CheckGit s bytes (Refused why) → IsNoSoundStream bytes
unchecked s bytes why e objects sound =
    let fits = sound.is in
    let all = brings_all [] objects fits.fit (subst (λ (x : Bytes). length x ≤ input_limit) fits.is fits.fits) sound.checked sound.added in
    let read : stream_reading [] bytes ≡ Ok all.placed = ap (stream_reading []) fits.is ∙ all.reads in
    not_both (object_counts all.placed) None why (sym (ap (written_of object_counts) read) ∙ e)
