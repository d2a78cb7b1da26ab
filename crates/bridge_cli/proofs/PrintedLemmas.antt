-- What a command makes that prints something of the saved state.
use Rattle.std.proofs.Common.{◌≡◌, Option, None, Some, Ok, refl, sym, ap, subst, ◌∙◌}
use Rattle.std.specs.Prelude.{IfSome}
use Rattle.text_model.specs.Text.{Bytes}
use Rattle.state_model.specs.Kept as model
use Rattle.state_model.specs.Saved.{SlotHolds}
use Rattle.command_model.specs.Command.{DumpHg, DumpGit, Map, NamesHg, NamesGit, Written}
use Rattle.ref_map.specs.declared.row.Side.TheVariants.{Hg, Git}
use Rattle.bridge_cli.specs.Fetched.{IsFetchedWith, IsSavedWith, IsNotFetched}
use Rattle.bridge_cli.specs.declared.fetch.Fetched.{Fetched}
use Rattle.bridge_cli.specs.Makes.{IsTextOf, IsEndOf, Makes}
use Rattle.bridge_cli.specs.Printed.{print_command, print_of}
use Rattle.bridge_cli.specs.declared.printed.Printed.{Printed}
use Rattle.bridge_cli.specs.declared.printed.Printed.TheVariants as printed
use Rattle.bridge_cli.specs.declared.report.Report.{Report}
use Rattle.bridge_cli.specs.declared.work.Work.{Work}
use Rattle.bridge_cli.proofs.NamedLemmas.{saved-of, unfetched}

-- no state is fetched
pub print-unfetched : (what : Printed) (input : Option Bytes) (slot : Option (Option Bytes)) (report : Report) → IsNotFetched slot report → IsEndOf (print_command what) input slot report
print-unfetched printed.Bundle input slot report end = unfetched DumpHg refl input slot report end
print-unfetched printed.Stream input slot report end = unfetched DumpGit refl input slot report end
print-unfetched printed.Map input slot report end = unfetched Map refl input slot report end
print-unfetched (printed.Names Hg) input slot report end = unfetched NamesHg refl input slot report end
print-unfetched (printed.Names Git) input slot report end = unfetched NamesGit refl input slot report end

module _ (slot : Option (Option Bytes)) (f : Fetched) (w : Work) (bytes : Bytes) (fetched : IsFetchedWith slot f) (same : w.output ≡ bytes) (none : w.text ≡ None) (input : Option Bytes) where
  -- the output is what is written of the saved state
  written : (made : model.State → Bytes) → ((m : model.State) → IsSavedWith f m → bytes ≡ made m)
      → IfSome slot (λ held. (m : model.State) × SlotHolds held m × ((saved : Option model.State) × (Written (made m) None ≡ Written w.output saved) × IsTextOf saved w.text))
  written made told = by slot fetched
    where
      by : (slot : Option (Option Bytes)) → IsFetchedWith slot f
          → IfSome slot (λ held. (m : model.State) × SlotHolds held m × ((saved : Option model.State) × (Written (made m) None ≡ Written w.output saved) × IsTextOf saved w.text))
      by None fetched = tt
      by (Some held) (m, read, are, holds, text) =
          let is : made m ≡ w.output = sym (told m (record { saved = saved-of f.state m read; text = text })) ∙ sym same in
          (m, holds, (None, ap (λ (o : Bytes). Written o None) is, subst (IsTextOf None) (sym none) tt))

  -- so it is what is printed
  pub print-makes : (what : Printed) → ((m : model.State) → IsSavedWith f m → bytes ≡ print_of what m) → Makes (print_command what) input input slot (Ok w)
  print-makes printed.Bundle told = (tt, written (print_of printed.Bundle) told)
  print-makes printed.Stream told = (tt, written (print_of printed.Stream) told)
  print-makes printed.Map told = (tt, written (print_of printed.Map) told)
  print-makes (printed.Names Hg) told = (tt, written (print_of (printed.Names Hg)) told)
  print-makes (printed.Names Git) told = (tt, written (print_of (printed.Names Git)) told)
