-- A listing is that of a bundle, and a fault tells that there is none.
use Rattle.std.proofs.Common.{Option, None, Some, IfSome, Result, Ok, Err, IfErr, OnOk}
use Rattle.text_model.specs.Text.{Bytes, IsBytes}
use Rattle.hg_model.specs.Bundle.{ListsBundle, listing_fault}
use Rattle.hg_model.proofs.BundleLemmas.{lists_bundle, refused_is_none}
use Rattle.hg_bundle.specs.declared.fault.BundleFault.{BundleFault}
use Rattle.hg_bundle.specs.declared.fault.BundleFault.TheVariants.{Refused, Read, Memory}
use Rattle.hg_bundle.specs.Faults.{IsFault}
use Rattle.hg_bundle.specs.Listing.{Lists, TellsNoBundle}

tells : (e : BundleFault) (bytes : Bytes) → IsFault (listing_fault bytes) e → TellsNoBundle e bytes
tells (Refused refusal) bytes is = refused_is_none bytes _ is
tells Read bytes is = tt
tells Memory bytes is = tt

pub tells_no_bundle : {T : Type 0} (old : Option Bytes) (result : Result T BundleFault) (out new : Bytes) → IfSome old (λ bytes. Lists bytes out result new)
    → IfErr result (λ e. IfSome old (TellsNoBundle e))
tells_no_bundle None (Ok x) out new listed = tt
tells_no_bundle None (Err e) out new listed = tt
tells_no_bundle (Some bytes) (Ok x) out new listed = tt
tells_no_bundle (Some bytes) (Err e) out new listed = tells e bytes listed

pub tells_bundle : {T : Type 0} (old : Option Bytes) (result : Result T BundleFault) (out new : Bytes) → OnOk result (IfSome old IsBytes) → IfSome old (λ bytes. Lists bytes out result new)
    → OnOk result (IfSome old (λ bytes. ListsBundle bytes out new))
tells_bundle None (Ok x) out new are listed = tt
tells_bundle None (Err e) out new are listed = tt
tells_bundle (Some bytes) (Ok x) out new are listed = lists_bundle bytes out new are listed.0 listed.1
tells_bundle (Some bytes) (Err e) out new are listed = tt
