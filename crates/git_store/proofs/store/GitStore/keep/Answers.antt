use Rattle.std.proofs.Common.{◌≡◌, ◌++◌, [], ◌∷◌, false, List, sym, ap, subst, ◌∙◌}
use Rattle.text_model.specs.Id.{IsId}
use Rattle.text_model.proofs.Digests.{IsId-object_id}
use Rattle.indexmap.proofs.CallerLemmas.{insert_entry-new}
use Rattle.bridge_text.specs.contracts.id.IdPartialEq.TheImpl as id_eq
use Rattle.git_model.specs.Object.{Object, knows_object}
use Rattle.git_store.specs.declared.held.Held.{Held}
use Rattle.git_store.specs.Held.{parsed_kind, objects_in, object_in}
use Rattle.git_store.specs.Known.{IsSound}
use Rattle.git_store.proofs.HeldLemmas.{Kept, kept, none-held}
use Rattle.git_store.proofs.WrittenLemmas.{written-push}
use Rattle.git_store.proofs.store.GitStore.keep.Goals as goal

after_insert : (c : goal.Joined-branch-2) → Kept c.args.self.now (c.args.id, record { content = c.args.content; parsed = c.args.parsed }) c.insert.new.self.entries
after_insert c =
    let es = c.self.inside.objects.entries in
    let held : Held = record { content = c.args.content; parsed = c.args.parsed } in
    let unknown : knows_object (objects_in es) c.args.id ≡ false = ap (λ (known : List Object). knows_object known c.args.id) c.self.view_is ∙ c.requires.fresh in
    let entries : c.insert.new.self.entries ≡ es ++ (c.args.id, held) ∷ [] =
    c.in_ok-insert.ensures.entries ∙ insert_entry-new id_eq.eq-value.it c.self.inside.objects c.args.id held (none-held c.args.id es unknown) in
    let sound : IsSound (object_in (c.args.id, held)) = record {
      id = subst IsId c.requires.its_id (IsId-object_id (parsed_kind c.args.parsed) c.args.content);
      bytes = c.requires.bytes;
      fits = c.requires.fits;
    } in
    kept c.args.self.now es c.insert.new.self.entries (c.args.id, held) c.self.invariant.0 c.self.view_is entries c.requires.fresh
    (sym c.requires.its_id) c.requires.value sound

pub invariant_of-self-2 : goal.invariant_of-self-2
invariant_of-self-2 c =
    let es = c.self.inside.objects.entries in
    let after = after_insert c in (
      after.store,
      written-push (objects_in es) (objects_in c.insert.new.self.entries) (object_in (c.args.id, record { content = c.args.content; parsed = c.args.parsed })) c.self.inside.written
          (after.view ∙ ap (λ (known : List Object). known ++ object_in (c.args.id, record { content = c.args.content; parsed = c.args.parsed }) ∷ []) (sym c.self.view_is)) c.self.invariant.1,
    )

pub returns-clause-ok : goal.returns-clause-ok
returns-clause-ok c = (after_insert c).view

pub returns-clause-known : goal.returns-clause-known
returns-clause-known c = (after_insert c).store.known
