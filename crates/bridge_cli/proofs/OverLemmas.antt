-- What is said of a run over what its input and its slot tell.
use Rattle.std.proofs.Common.{◌≡◌, Bool, true, false, [], Option, None, Some, ap}
use Rattle.std.specs.Prelude.{unwrap_or}
use Rattle.text_model.specs.Text.{Bytes}
use Rattle.state_model.specs.Kept.{State}
use Rattle.command_model.specs.Command.{Command, reads_input, reads_slot}
use Rattle.bridge_cli.specs.Over.{ToldOf, HeldBy, Over}

pub some-is : {X : Type 0} {x y : X} → Some x ≡ Some y → x ≡ y
some-is {X} {x} e = ap (λ (o : Option X). unwrap_or o x) e

told-map : (reads : Bool) (told : Option Bytes) (P Q : Bytes → Type 0) → ((x : Bytes) → P x → Q x) → ToldOf reads told P → ToldOf reads told Q
told-map true None P Q f h = tt
told-map true (Some x) P Q f h = f x h
told-map false told P Q f h = f [] h

pub held-map : (reads : Bool) (told : Option (Option Bytes)) (P Q : Option Bytes → Type 0) → ((x : Option Bytes) → P x → Q x) → HeldBy reads told P → HeldBy reads told Q
held-map true None P Q f h = tt
held-map true (Some x) P Q f h = f x h
held-map false told P Q f h = f None h

-- what holds goes over to what follows from it
pub over-map : (command : Command) (input : Option Bytes) (slot : Option (Option Bytes)) (P Q : State → Bytes → Type 0) → ((s : State) (bytes : Bytes) → P s bytes → Q s bytes)
    → Over command input slot P → Over command input slot Q
over-map command input slot P Q f h =
    told-map (reads_input command) input _ _ (λ bytes. held-map (reads_slot command) slot _ _ (λ held x. (x.0, x.1, f x.0 bytes x.2))) h
