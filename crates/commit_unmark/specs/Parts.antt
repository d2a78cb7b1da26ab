-- The parts of a changeset beside its files, by marks or by the rule over the parts before them.
use Rattle.std.specs.Prelude.{◌≡◌, ◌≢◌, Bool, false, List, [], is_some, unwrap_or, IfSome, ℤ}
use Rattle.std.specs.List.{filter_map}
use Rattle.text_model.specs.Text.{Bytes, IsBytes, has_byte}
use Rattle.text_model.specs.Id.{Id}
use Rattle.hg_model.specs.Changeset.{Changeset, DateLine, Plain, Extra}
use Rattle.git_model.specs.Commit.{Commit}
use Rattle.view_model.specs.View.{Row, rows_text, ManifestParents, manifest_node}
use Rattle.pair_model.specs.Block.{Parents}
use Rattle.pair_model.specs.User.{user_of_line, description_of}
use Rattle.pair_model.specs.Rule.{ruled_manifest, ruled_files}
use Rattle.pair_model.specs.MarkList.{Mark}
use Rattle.partner_model.specs.Filled.{manifest_mark, files_mark, user_mark, extra_mark, date_mark, first_mark}
use Rattle.hg_manifest.specs.Values.{manifest_value}
use Rattle.manifest_rule.specs.declared.manifest.RuledManifest.{RuledManifest}
use Rattle.commit_unmark.specs.declared.marks.Kind.{Kind}
use Rattle.commit_unmark.specs.declared.marks.Kind.TheVariants as kind

-- the mark is of the kind
abbrev pub is_of : Kind → Mark → Bool
is_of kind.Manifest m = is_some (manifest_mark m)
is_of kind.Files m = is_some (files_mark m)
is_of kind.User m = is_some (user_mark m)
is_of kind.Date m = is_some (date_mark [] m)

abbrev pub manifest_by : Parents → List Mark → List Row → ManifestParents
manifest_by ps marks rows = unwrap_or (first_mark manifest_mark marks) (ruled_manifest ps rows)

-- the manifest with these parents and rows, its node, and its text where that was written
pub record IsManifestWith (made : RuledManifest) (manifest : ManifestParents) (rows : List Row) : Type 0 where
  pub is : manifest_value made.manifest ≡ manifest
  pub node : made.node ≡ manifest_node manifest rows
  pub text : IfSome made.text (λ text. text ≡ rows_text rows)

abbrev pub files_by : Parents → List Mark → List Row → List Bytes
files_by ps marks rows = unwrap_or (first_mark files_mark marks) (ruled_files ps rows)

abbrev pub extras_by : List Mark → List Extra
extras_by marks = filter_map extra_mark marks

abbrev pub user_by : List Mark → Bytes → Bytes
user_by marks given = unwrap_or (first_mark user_mark marks) given

abbrev pub date_by : List Mark → ℤ → ℤ → DateLine
date_by marks time tz = unwrap_or (first_mark (date_mark (extras_by marks)) marks) (Plain time tz (extras_by marks))

-- one line, and not an empty one
abbrev pub IsOneLine : Bytes → Type 0
IsOneLine text = (text ≢ []) × (has_byte 10 text ≡ false) × IsBytes text

-- not empty, and without a `:`
abbrev pub IsKey : Bytes → Type 0
IsKey text = (text ≢ []) × (has_byte 58 text ≡ false)

abbrev pub fields_by : Commit → List Mark → Id → List Bytes → Changeset
fields_by c marks manifest files = record {
  manifest = manifest;
  user = user_by marks (user_of_line c.author).user;
  date = date_by marks (user_of_line c.author).time (user_of_line c.author).tz;
  files = files;
  description = description_of c.message;
}
