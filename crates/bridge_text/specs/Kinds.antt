-- The kinds of Git objects, as this crate's enum names them.
use Rattle.text_model.specs.Id.{ObjectKind}
use Rattle.text_model.specs.Id as id
use Rattle.bridge_text.specs.declared.kind.Kind.{Kind}
use Rattle.bridge_text.specs.declared.kind.Kind.TheVariants.{Blob, Tree, Commit, Tag}

-- the kind that a value of the enum stands for
abbrev pub object_kind : Kind → ObjectKind
object_kind Blob = id.blob
object_kind Tree = id.tree
object_kind Commit = id.commit
object_kind Tag = id.tag
