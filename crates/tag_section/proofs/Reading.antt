-- What the answer of a reading says.
use Rattle.std.proofs.Common.{◌≡◌, List, Ok, sym, ap, ◌∙◌}
use Rattle.text_model.specs.Text.{Bytes}
use Rattle.git_model.specs.Object.{Object}
use Rattle.git_model.specs.Stream.{stream_reading}
use Rattle.git_store.specs.Known.{AreKnown}
use Rattle.git_batch.specs.declared.arrival.ObjectArrival.{ObjectArrival}
use Rattle.git_batch.specs.Arrivals.{Reads}
use Rattle.tag_section.specs.Tags.{Brings}

pub stream_read : (known : List Object) (left bytes : Bytes) (read : List Object × List ObjectArrival) → left ≡ bytes → Reads known left (Ok read) → (AreKnown known → AreKnown read.0)
    → Brings known bytes (record { store = read.0; came = read.1 })
stream_read known left bytes read all r are = record {
  placed = r.0;
  reads = ap (stream_reading known) (sym all) ∙ r.1;
  listed = r.2;
  holds = r.3;
  sound = are;
}
