-- File revisions and blobs that a store doesn't hold.
use Rattle.std.specs.Prelude.{List, [], map, IsTrue}
use Rattle.text_model.specs.Lists.{rises}
use Rattle.text_model.specs.Text.{Bytes, is_below}
use Rattle.text_model.specs.Id.{null, blob}
use Rattle.hg_model.specs.Revision.{Group, Changesets, Manifests, FilesAt, Revision}
use Rattle.git_model.specs.Object.{Object}
use Rattle.pair_known.specs.declared.fresh_files.FreshFile.{FreshFile}
use Rattle.pair_known.specs.declared.fresh_blobs.FreshBlob.{FreshBlob}

abbrev pub fresh_revision : FreshFile → Revision
fresh_revision f = record { group = FilesAt f.path; node = f.node; p = f.p; q = f.q; link = null; text = f.text }

abbrev pub fresh_object : FreshBlob → Object
fresh_object b = record { id = b.id; kind = blob; content = b.content }

-- the path of a group of file revisions
abbrev pub group_path : Group → Bytes
group_path Changesets = []
group_path Manifests = []
group_path (FilesAt path) = path

-- the paths rise
abbrev pub AreFreshFiles : List Revision → Type 0
AreFreshFiles rs = IsTrue (rises is_below (map (λ r. group_path r.group) rs))
