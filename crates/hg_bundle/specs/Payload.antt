-- The payload of a chunk as its bytes.
use Rattle.text_model.specs.Text.{Bytes}
use Rattle.hg_bundle.specs.declared.payload.Payload.{Payload}
use Rattle.hg_bundle.specs.declared.payload.Payload.TheVariants.{Lent, Read}

abbrev pub payload_bytes : Payload → Bytes
payload_bytes (Lent text) = text.now
payload_bytes (Read bytes) = bytes.now
