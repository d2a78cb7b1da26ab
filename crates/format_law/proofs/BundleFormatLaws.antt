-- What the outcomes of the commands over bundles say of their input.
use Rattle.std.proofs.Common.{◌≡◌, List, [], map, Option, Some, None, refl, sym, ap, ◌∙◌}
use Rattle.std.specs.Prelude.{Result, Ok, Err}
use Rattle.text_model.specs.Text.{Bytes, IsBytes}
use Rattle.text_model.specs.Fault.{Refusal}
use Rattle.hg_model.specs.Bundle.{bundle_framing, listing, listing_fault, ListsBundle, IsNoBundle}
use Rattle.hg_model.specs.Reading.{Arrival, bundle_reading}
use Rattle.hg_model.proofs.BundleLemmas.{lists_bundle, refused_is_none}
use Rattle.hg_model.specs.Revision.{known_after_all}
use Rattle.hg_bundle.specs.Arrivals.{arrival_of, revisions_of}
use Rattle.hg_bundle.proofs.Groups.{brings_bundle}
use Rattle.hg_bundle.proofs.Unreadable.{bundle_read}
use Rattle.state_model.specs.Kept.{State}
use Rattle.saved_model.specs.Written.{revision_counts}
use Rattle.command_model.specs.Command.{ListHg, CheckHg, Written, Refused, written_unless, written_of, ComesTo}
use Rattle.format_law.specs.BundleFormat.{CountsBundle, IsNoSoundBundle}
use Rattle.pull_law.proofs.Bundle.{one_read}
use Rattle.format_law.proofs.Counts.{counts-entries}

same_output : (a b : Bytes) (x y : Option State) → Written a x ≡ Written b y → b ≡ a
same_output a b x y e = cc

not_both : (output : Bytes) (saved : Option State) (why : Refusal) → Written output saved ≡ Refused why → ⊥
not_both output saved why e = cc

pub listed : (s : State) (bytes output : Bytes) (saved : Option State) → IsBytes bytes → ComesTo ListHg s bytes (Written output saved) → ListsBundle bytes [] output
listed s bytes output saved are e = by (listing_fault bytes) refl
  where
    lines : Bytes
    lines = listing (bundle_framing bytes).items

    by : (bad : Option Refusal) → listing_fault bytes ≡ bad → ListsBundle bytes [] output
    by None is = lists_bundle bytes [] output are is (same_output lines output None saved (sym (ap (λ (x : Option Refusal). written_unless x lines) is) ∙ e))
    by (Some why) is = absurd (not_both output saved why (sym e ∙ ap (λ (x : Option Refusal). written_unless x lines) is))

pub unlisted : (s : State) (bytes : Bytes) (why : Refusal) → ComesTo ListHg s bytes (Refused why) → IsNoBundle bytes
unlisted s bytes why e = by (listing_fault bytes) refl
  where
    lines : Bytes
    lines = listing (bundle_framing bytes).items

    by : (bad : Option Refusal) → listing_fault bytes ≡ bad → IsNoBundle bytes
    by None is = absurd (not_both lines None why (sym (ap (λ (x : Option Refusal). written_unless x lines) is) ∙ e))
    by (Some other) is = refused_is_none bytes other is

pub checked : (s : State) (bytes output : Bytes) (saved : Option State) → IsBytes bytes → ComesTo CheckHg s bytes (Written output saved) → CountsBundle bytes output
checked s bytes output saved are e = by (bundle_reading [] bytes) refl
  where
    by : (read : Result (List Arrival) Refusal) → bundle_reading [] bytes ≡ read → CountsBundle bytes output
    by (Ok arrivals) is =
        let brings = brings_bundle [] bytes arrivals (known_after_all [] (revisions_of arrivals)) (map arrival_of arrivals) are is refl refl in
        let again = bundle_read [] bytes brings.bundle brings.revisions brings.is brings.within brings.are in
        let same : arrivals ≡ again.0 = one_read arrivals again.0 (bundle_reading [] bytes) is again.1 in
        record {
          bundle = brings.bundle;
          is = record { is = brings.is; within = brings.within; revisions = brings.revisions; are = brings.are };
          counts = same_output (revision_counts arrivals) output None saved (sym (ap (written_of revision_counts) is) ∙ e)
              ∙ counts-entries [] brings.bundle brings.revisions arrivals brings.are (ap revisions_of same ∙ again.2);
        }
    by (Err why) is = absurd (not_both output saved why (sym e ∙ ap (written_of revision_counts) is))

pub unchecked : (s : State) (bytes : Bytes) (why : Refusal) → ComesTo CheckHg s bytes (Refused why) → IsNoSoundBundle bytes
unchecked s bytes why e b sound =
    let read = bundle_read [] bytes b sound.revisions sound.is sound.within sound.are in
    not_both (revision_counts read.0) None why (sym (ap (written_of revision_counts) read.1) ∙ e)
