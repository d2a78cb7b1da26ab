-- Reading a Plain date.
use Rattle.std.proofs.Common.{◌≡◌, ◌^◌, List, [], Some, None, sym, ap, ◌∙◌}
use Rattle.std.specs.Prelude.{ℤ}
use Rattle.std.specs.Option.{option_and_then}
use Rattle.text_model.specs.Text.{Bytes, sp}
use Rattle.text_model.specs.Cuts.{cut_of}
use Rattle.hg_model.specs.Changeset.{Extra, extras_of, signed_of, date_in_zone, date_behind_time, plain_date_of}

module _ (text time rest : Bytes) (number : ℤ) (cut : Some (time, rest) ≡ cut_of sp text) (reads : Some number ≡ signed_of (2 ^ 62) time) where
  behind : plain_date_of text ≡ date_behind_time number rest (cut_of sp rest)
  unfolding plain_date_of
  behind =
      ap (option_and_then (λ (p : Bytes × Bytes). option_and_then (λ t. date_behind_time t p.1 (cut_of sp p.1)) (signed_of (2 ^ 62) p.0))) (sym cut)
      ∙ ap (option_and_then (λ t. date_behind_time t rest (cut_of sp rest))) (sym reads)

  -- no space behind the time zone
  pub without_extras : None ≡ cut_of sp rest → plain_date_of text ≡ date_in_zone number rest []
  without_extras none = behind ∙ ap (date_behind_time number rest) (sym none)

  pub with_extras : (zone items : Bytes) (extras : List Extra) → Some (zone, items) ≡ cut_of sp rest → Some extras ≡ extras_of items → plain_date_of text ≡ date_in_zone number zone extras
  with_extras zone items extras second are = behind ∙ ap (date_behind_time number rest) (sym second) ∙ ap (option_and_then (date_in_zone number zone)) (sym are)
