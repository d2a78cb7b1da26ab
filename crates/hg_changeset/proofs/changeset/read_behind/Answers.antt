use Rattle.std.proofs.Common.{refl}
use Rattle.hg_changeset.proofs.HeadLemmas.{whole_read}
use Rattle.hg_changeset.proofs.changeset.read_behind.Goals as goal

pub returns-clause-ok : goal.returns-clause-ok
returns-clause-ok c =
    whole_read c.args.text.now c.args.head.manifest c.args.head.user.now c.args.head.date.now c.args.head.rest.now c.in-Some.desc.now c.new-files.result c.take_files.new.files
    c.requires.bytes c.requires.head (rw c.in-Some.is at c.in_ok-desc.ensures) c.new-files.ensures _ refl c.in_ok-of.ensures c.in_ok-read.ensures c.files.view_is c.in_ok-of-2.ensures
