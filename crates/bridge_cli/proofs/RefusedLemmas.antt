-- How a run ends whose input alone is refused.
use Rattle.std.proofs.Common.{◌≡◌, ℕ, List, [], Option, None, Some, Result, Ok, Err, refl, ap, subst}
use Rattle.std.specs.Prelude.{IfSome}
use Rattle.text_model.specs.Text.{Bytes}
use Rattle.text_model.proofs.Options.{some_is, none_some}
use Rattle.text_model.specs.Id.{Id, null}
use Rattle.bridge_text.specs.declared.fault.Fault.{Fault}
use Rattle.bridge_text.specs.declared.fault.Fault.TheVariants as name
use Rattle.bridge_text.specs.Refusals.{fault_name, refusal_value}
use Rattle.hg_model.specs.Revision.{Revision}
use Rattle.hg_model.specs.Reading.{Arrival, bundle_reading}
use Rattle.hg_model.specs.Bundle.{bundle_framing, listing, listing_fault}
use Rattle.git_model.specs.Object.{Object}
use Rattle.git_model.specs.Stream.{Placed, stream_framing, stream_listing, stream_reading}
use Rattle.text_model.specs.Fault as model
use Rattle.saved_model.specs.Written.{revision_counts, object_counts}
use Rattle.command_model.specs.Command as command
use Rattle.command_model.specs.Command.{ListHg, CheckHg, ListGit, CheckGit, written_unless, written_of}
use Rattle.hg_bundle.specs.declared.fault.BundleFault.{BundleFault}
use Rattle.hg_bundle.specs.declared.fault.BundleFault.TheVariants as bundle
use Rattle.hg_bundle.specs.Faults as hg
use Rattle.hg_bundle.specs.Arrivals as arrivals
use Rattle.git_batch.specs.declared.fault.BatchFault.{BatchFault}
use Rattle.git_batch.specs.declared.fault.BatchFault.TheVariants as batch
use Rattle.git_batch.specs.Faults as git
use Rattle.git_batch.specs.declared.stream_fault.StreamFault.{StreamFault}
use Rattle.git_batch.specs.declared.stream_fault.StreamFault.TheVariants as stream
use Rattle.git_batch.specs.StreamFaults as added
use Rattle.git_batch.specs.Arrivals as objects
use Rattle.bridge_cli.specs.Names.{IsLineName}
use Rattle.bridge_cli.specs.Makes.{IsEndAlone}
use Rattle.bridge_cli.specs.Report.{bundle_report, objects_report, stream_report}
use Rattle.bridge_cli.specs.declared.report.Report.TheVariants as code

-- ---- bundles

pub list-hg-refused : (input : Option Bytes) (e : BundleFault) → hg.IsListFault e → IfSome input (λ bytes. hg.IsFault (listing_fault bytes) e) → IsEndAlone ListHg input (bundle_report e)
list-hg-refused None (bundle.Refused why) named told = ((why.fault, refl, named), tt)
list-hg-refused (Some bytes) (bundle.Refused why) named told =
    ((why.fault, refl, named), ap (λ (o : Option model.Refusal). written_unless o (listing (bundle_framing bytes).items)) told)
list-hg-refused input bundle.Read named told = tt
list-hg-refused input bundle.Memory named told = tt

revisions-refused : (reading : Result (List Arrival) model.Refusal) (why : model.Refusal) → arrivals.refused reading ≡ Some why → written_of revision_counts reading ≡ command.Refused why
revisions-refused (Ok read) why e = absurd (none_some e)
revisions-refused (Err found) why e = ap command.Refused (some_is e)

pub check-hg-refused : (input : Option Bytes) (known : List Revision) (e : BundleFault) → known ≡ [] → hg.IsReadFault e → IfSome input (λ bytes. arrivals.Reads known bytes (Err e))
    → IsEndAlone CheckHg input (bundle_report e)
check-hg-refused None known (bundle.Refused why) none named told = ((why.fault, refl, named), tt)
check-hg-refused (Some bytes) known (bundle.Refused why) none named told =
    let from_none = subst (λ (k : List Revision). arrivals.refused (bundle_reading k bytes) ≡ Some (refusal_value why)) none told in
    ((why.fault, refl, named), revisions-refused (bundle_reading [] bytes) (refusal_value why) from_none)
check-hg-refused input known bundle.Read none named told = tt
check-hg-refused input known bundle.Memory none named told = tt

-- ---- streams

line-refused : (input : Option Bytes) (fault : Fault) (id : Id) (place : ℕ) → IsLineName (fault_name fault)
    → IfSome input (λ bytes. (stream_framing bytes).bad ≡ Some (model.refusal (fault_name fault) id place)) → IsEndAlone ListGit input (code.Refused (record { fault = fault; id = id; place = place }))
line-refused None fault id place named told = (named, tt)
line-refused (Some bytes) fault id place named told = (named, ap (λ (o : Option model.Refusal). written_unless o (stream_listing (stream_framing bytes).objects)) told)

pub list-git-refused : (input : Option Bytes) (e : BatchFault) → git.IsFraming e → IfSome input (λ bytes. git.IsFault (stream_framing bytes).bad e) → IsEndAlone ListGit input (stream_report e)
list-git-refused input batch.Read named told = tt
list-git-refused input (batch.Line at) named told = line-refused input name.Line null at tt told
list-git-refused input (batch.Missing at) named told = line-refused input name.Missing null at tt told
list-git-refused input (batch.KindUnknown id at) named told = line-refused input name.KindUnknown id at tt told
list-git-refused input (batch.Limit at) named told = line-refused input name.Limit null at tt told
list-git-refused input (batch.Truncated at) named told = line-refused input name.Truncated null at tt told
list-git-refused input batch.InputLimit named told = line-refused input name.InputLimit null model.input_limit tt told
list-git-refused input (batch.IdWrong id at) named told = absurd named
list-git-refused input batch.Memory named told = tt

objects-refused : (reading : Result (List Placed) model.Refusal) (why : model.Refusal) → objects.refused reading ≡ Some why → written_of object_counts reading ≡ command.Refused why
objects-refused (Ok read) why e = absurd (none_some e)
objects-refused (Err found) why e = ap command.Refused (some_is e)

pub check-git-refused : (input : Option Bytes) (known : List Object) (e : StreamFault) → known ≡ [] → added.IsOfStream e → IfSome input (λ bytes. objects.Reads known bytes (Err e))
    → IsEndAlone CheckGit input (objects_report e)
check-git-refused None known (stream.Refused why) none named told = (named, tt)
check-git-refused (Some bytes) known (stream.Refused why) none named told =
    let from_none = subst (λ (k : List Object). objects.refused (stream_reading k bytes) ≡ Some (refusal_value why)) none told in
    (named, objects-refused (stream_reading [] bytes) (refusal_value why) from_none)
check-git-refused input known stream.Read none named told = tt
check-git-refused input known stream.Memory none named told = tt
