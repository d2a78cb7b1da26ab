use Rattle.std.proofs.Common.{sym}
use Rattle.std.proofs.lemmas.Bool.{and_right, and_left}
use Rattle.bridge_text.specs.Kinds.{object_kind}
use Rattle.git_batch.proofs.HeaderLemmas.{Said, said, refused, refused_over, refused_huge, refused_kind, no_form, no_id, header_is, text_is}
use Rattle.git_batch.proofs.header.header_of.Goals.{then-not-is_kind_word-via-then-not-is_kind_word, then-not-is_kind_word-via-else-not-is_kind_word+then-not-is_decimal}
use Rattle.git_batch.proofs.header.header_of.Goals as goal

pub returns-then-not-is_kind_word-clause-reads : goal.returns-then-not-is_kind_word-clause-reads
returns-then-not-is_kind_word-clause-reads c =
    no_form c.args.at c.args.text.now _ _ _ c.in-Some.ensures
    (elim c.then-not-is_kind_word.branch [
      | then-not-is_kind_word-via-then-not-is_kind_word w ↦ and_left _ _ (sym w.if-not-is_kind_word.ensures)
      | then-not-is_kind_word-via-else-not-is_kind_word+then-not-is_decimal w ↦ and_right _ _ (sym w.if-not-is_decimal.ensures)
    ])

pub returns-in_default-from_hex-clause-reads : goal.returns-in_default-from_hex-clause-reads
returns-in_default-from_hex-clause-reads c = no_id c.args.at c.args.text.now _ _ _ c.in-Some.ensures c.in_default-from_hex.ensures

pub returns-in_default-kind_of-clause-reads : goal.returns-in_default-kind_of-clause-reads
returns-in_default-kind_of-clause-reads c =
    refused c.args.at c.args.text.now _ _ _ _ c.in-Some.ensures
    (refused_kind c.args.at c.in-Some.digits.now c.in-Some.word.now c.in-Some.size.now _ c.in-Some-from_hex.ensures (sym c.if-not-is_kind_word.ensures) (sym c.if-not-is_decimal.ensures) c.in_default-kind_of.ensures)

pub returns-in_default-decimal_of-clause-reads : goal.returns-in_default-decimal_of-clause-reads
returns-in_default-decimal_of-clause-reads c =
    refused c.args.at c.args.text.now _ _ _ _ c.in-Some.ensures
    (refused_huge c.args.at c.in-Some.digits.now c.in-Some.word.now c.in-Some.size.now _ (object_kind c.in-Some-kind_of.kind) c.in-Some-from_hex.ensures (sym c.if-not-is_kind_word.ensures) (sym c.if-not-is_decimal.ensures)
    c.in-Some-kind_of.ensures c.in_default-decimal_of.ensures)

pub returns-then-size-size_limit-clause-reads : goal.returns-then-size-size_limit-clause-reads
returns-then-size-size_limit-clause-reads c =
    refused c.args.at c.args.text.now _ _ _ _ c.in-Some.ensures
    (refused_over c.args.at c.in-Some.digits.now c.in-Some.word.now c.in-Some.size.now _ (object_kind c.in-Some-kind_of.kind) _ c.in-Some-from_hex.ensures (sym c.if-not-is_kind_word.ensures) (sym c.if-not-is_decimal.ensures)
    c.in-Some-kind_of.ensures c.in-Some-decimal_of.ensures (rw c.size_limit.ensures at c.if-size-size_limit.true))

found : (c : goal.Else-size-size_limit) → Said c.args.at c.in-Some.digits.now c.in-Some.word.now c.in-Some.size.now c.in-Some-from_hex.id (object_kind c.in-Some-kind_of.kind) c.in-Some-decimal_of.size
found c =
    said c.args.at c.in-Some.digits.now c.in-Some.word.now c.in-Some.size.now _ (object_kind c.in-Some-kind_of.kind) _ c.in-Some-from_hex.ensures (sym c.if-not-is_kind_word.ensures) (sym c.if-not-is_decimal.ensures)
    c.in-Some-kind_of.ensures c.in-Some-decimal_of.ensures (rw c.size_limit.ensures at c.if-size-size_limit.false)

pub returns-clause-reads : goal.returns-clause-reads
returns-clause-reads c = header_is c.args.at c.args.text.now _ _ _ _ _ _ c.in-Some.ensures (found c)

pub returns-clause-text : goal.returns-clause-text
returns-clause-text c = text_is c.args.at c.args.text.now _ _ _ _ _ _ c.in-Some.ensures (found c)
