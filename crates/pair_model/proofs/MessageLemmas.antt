-- Descriptions and messages.
use Rattle.std.proofs.Common.{◌≡◌, ◌==◌, true, [], ◌∷◌, sym, ap, ◌∙◌}
use Rattle.std.specs.List.{ends_with}
use Rattle.text_model.specs.Text.{Bytes, lf}
use Rattle.pair_model.specs.User.{message_of, description_of}
use Rattle.pair_model.proofs.EndLemmas.{without_last-push, ends_with-push, ends_with-last}

pub description_of-message_of : (description : Bytes) → description_of (message_of description) ≡ description
description_of-message_of description = rw (ends_with-push description 10) (without_last-push description 10)

pub message_of-description_of : (message : Bytes) → ends_with ◌==◌ message (lf ∷ []) ≡ true → message_of (description_of message) ≡ message
message_of-description_of message h = rw h (sym (ends_with-last message 10 h))

pub ends_with-message_of : (message : Bytes) → message_of (description_of message) ≡ message → ends_with ◌==◌ message (lf ∷ []) ≡ true
ends_with-message_of message e = sym (ap (λ (m : Bytes). ends_with ◌==◌ m (lf ∷ [])) e) ∙ ends_with-push (description_of message) 10
