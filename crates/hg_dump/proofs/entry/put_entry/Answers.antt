use Rattle.std.proofs.Common.{sym, ap, ◌∙◌, arith, option_copied}
use Rattle.hg_dump.proofs.HeldLemmas.{text-short}
use Rattle.hg_dump.proofs.EntryLemmas.{entry-written}
use Rattle.hg_dump.proofs.entry.put_entry.Goals as goal
use Rattle.hg_store.specs.Groups.{group_value}

pub delta_len-size-requires : goal.delta_len-size-requires
delta_len-size-requires c =
    let at = sym c.shared_text.ensures.value ∙ ap option_copied c.unwrap-text.ensures in
    rw c.as_slice.ensures (omega (arith, text-short c.args.store.now (group_value c.args.group) c.args.reference.now.node c.unwrap-text.result.now c.shared_text.ensures.known at))

pub put_header-requires : goal.put_header-requires
put_header-requires c =
    let at = sym c.shared_text.ensures.value ∙ ap option_copied c.unwrap-text.ensures in
    let most = rw c.as_slice.ensures at c.delta_len-size.ensures.most in
    omega (arith, most, text-short c.args.store.now (group_value c.args.group) c.args.reference.now.node c.unwrap-text.result.now c.shared_text.ensures.known at)

pub replace_into-requires : goal.replace_into-requires
replace_into-requires c =
    let at = sym c.shared_text.ensures.value ∙ ap option_copied c.unwrap-text.ensures in
    omega (arith, text-short c.args.store.now (group_value c.args.group) c.args.reference.now.node c.unwrap-text.result.now c.shared_text.ensures.known at)

pub overflow_cast-result : goal.overflow_cast-result
overflow_cast-result c =
    let at = sym c.shared_text.ensures.value ∙ ap option_copied c.unwrap-text.ensures in
    omega (arith, text-short c.args.store.now (group_value c.args.group) c.args.reference.now.node c.unwrap-text.result.now c.shared_text.ensures.known at)

pub returns-clause-entry : goal.returns-clause-entry
returns-clause-entry c = λ r is.
    let at = sym c.shared_text.ensures.value ∙ ap option_copied c.unwrap-text.ensures in
    let len = rw c.as_slice.ensures at c.delta_len-size.ensures.len in
    let pair = c.parents-p.result in
    entry-written c.args.store.now (group_value c.args.group) c.args.reference.now r c.args.base_len c.delta_len-size.result pair.0 pair.1
    c.args.out.now c.put_header.new.out c.replace_into.new.out c.unwrap-text.result.now is at c.parents-p.ensures.parents
    c.in_ok-put_header.ensures.ids len c.in_ok-put_header.ensures.bytes c.in_ok-replace_into.ensures.ok
