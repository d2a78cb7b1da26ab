use Rattle.hg_bundle.proofs.BundleLaws.{tells_bundle, tells_no_bundle}
use Rattle.hg_bundle.proofs.listing.list.Goals as goal

pub returns-then-is_err-clause-no_bundle : goal.returns-then-is_err-clause-no_bundle
returns-then-is_err-clause-no_bundle g c = tells_no_bundle _ c.append_lines-listed.result c.args.out.now.items c.append_lines-listed.new.out.items c.append_lines-listed.ensures.lists

pub returns-else-is_err-clause-bundle : goal.returns-else-is_err-clause-bundle
returns-else-is_err-clause-bundle g c = tells_bundle _ c.append_lines-listed.result c.args.out.now.items c.append_lines-listed.new.out.items c.append_lines-listed.ensures.bytes c.append_lines-listed.ensures.lists
