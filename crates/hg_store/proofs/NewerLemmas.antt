-- Which lines of a manifest that of its first parent may lack.
use Rattle.std.proofs.Common.{◌≡◌, ◌++◌, ◌&&◌, Bool, true, false, not, Option, Some, None, IfSome, List, [], ◌∷◌, ℕ, true≢false, refl, sym, ap, subst, ◌∙◌}
use Rattle.std.specs.Prelude.{option_map, is_some}
use Rattle.std.specs.Borrow.{Bor}
use Rattle.std.specs.Option.{option_copied}
use Rattle.std.specs.Map.{lookup}
use Rattle.text_model.specs.Lists.{Each}
use Rattle.text_model.specs.Text.{Bytes}
use Rattle.text_model.specs.Id.{Id, is_null}
use Rattle.text_model.specs.Fault.{FaultName}
use Rattle.text_model.specs.Fault as fault
use Rattle.text_model.proofs.Options.{none_some, some_is, some_none}
use Rattle.hg_model.specs.Manifest.{ManifestEntry}
use Rattle.hg_model.specs.Revision as model
use Rattle.hg_model.specs.Revision.{Revision, revision_of, is_of, is_known_parent, is_bad_link, order_fault, first_name, named_if, ancestry_fault}
use Rattle.hg_manifest.specs.Beside.{IsNewer}
use Rattle.hg_store.specs.declared.held.Key.{Key}
use Rattle.hg_store.specs.declared.held.Held.{Held}
use Rattle.hg_store.specs.declared.held.Parsed.{Parsed}
use Rattle.hg_store.specs.declared.held.Parsed.TheVariants as parsed
use Rattle.hg_store.specs.Known.{AreAdded, manifest_text_of}
use Rattle.hg_store.specs.Views.{IsManifestOf}
use Rattle.hg_store.specs.Groups.{held_revision, HasValue, IsNewerThan, IsNewerIn}
use Rattle.hg_store.proofs.ViewLemmas.{text-there, one-list}

-- ---- one revision more

revision-more : (known : List Revision) (y : Revision) (g : model.Group) (n : Id) (r : Revision) → revision_of known g n ≡ Some r → revision_of (known ++ y ∷ []) g n ≡ Some r
revision-more [] y g n r h = absurd (none_some h)
revision-more (x ∷ xs) y g n r h = by (is_of g n x) refl (revision-more xs y g n r)
  where
    by : (t : Bool) → is_of g n x ≡ t → (revision_of xs g n ≡ Some r → revision_of (xs ++ y ∷ []) g n ≡ Some r) → revision_of (x ∷ xs ++ y ∷ []) g n ≡ Some r
    by true t later = rw t (sym (rw t refl) ∙ h)
    by false t later = rw t (later (sym (rw t refl) ∙ h))

text-more : (known : List Revision) (y : Revision) (n : Id) (text : Bytes) (o : Option Revision) → revision_of known model.Manifests n ≡ o → option_map (λ r. r.text) o ≡ Some text
    → option_map (λ r. r.text) (revision_of (known ++ y ∷ []) model.Manifests n) ≡ Some text
text-more known y n text None at is = absurd (none_some is)
text-more known y n text (Some r) at is = ap (option_map (λ (x : Revision). x.text)) (revision-more known y model.Manifests n r at) ∙ is

manifest-more : (known : List Revision) (y : Revision) (p : Id) (es : List ManifestEntry) → IsManifestOf known p es → IsManifestOf (known ++ y ∷ []) p es
manifest-more known y p es m = record {
  text = m.text;
  is_held = by (is_null p) refl;
  spells = m.spells;
}
  where
    by : (t : Bool) → is_null p ≡ t → manifest_text_of (known ++ y ∷ []) p ≡ Some m.text
    by true t = rw t (sym (rw t refl) ∙ m.is_held)
    by false t = rw t (text-more known y p m.text (revision_of known model.Manifests p) refl (sym (rw t refl) ∙ m.is_held))

pub newer-more : (known : List Revision) (y : Revision) (p : Id) (x : Parsed) → IsNewerIn known p x → IsNewerIn (known ++ y ∷ []) p x
newer-more known y p (parsed.Changeset x) n = n
newer-more known y p (parsed.Manifest entries newer) (others, is, n) = (others, manifest-more known y p others is, n)
newer-more known y p (parsed.File blob) n = n

-- ---- what is held

newer-by_key : (known : List Revision) (test : Key → Bool) (es : List (Key × Held)) → Each (λ e. IsNewerIn known e.1.p e.1.parsed) es → (held : Held) → lookup test es ≡ Some held → IsNewerIn known held.p held.parsed
newer-by_key known test [] k held at = absurd (none_some at)
newer-by_key known test (e ∷ es) k held at = by (test e.0) refl (newer-by_key known test es k.1 held)
  where
    by : (t : Bool) → test e.0 ≡ t → (lookup test es ≡ Some held → IsNewerIn known held.p held.parsed) → IsNewerIn known held.p held.parsed
    by true t later = subst (λ (x : Held). IsNewerIn known x.p x.parsed) {x = e.1} {y = held} (some_is (sym (rw t refl) ∙ at)) k.0
    by false t later = later (sym (rw t refl) ∙ at)

lent : (known : List Revision) (o : Option (Bor Held)) (found : Option Held) → option_copied o ≡ found → ((h : Held) → found ≡ Some h → IsNewerIn known h.p h.parsed) → IfSome o (λ held. IsNewerIn known held.now.p held.now.parsed)
lent known None found is newer = tt
lent known (Some held) found is newer = newer held.now (sym is)

pub newer-lent : (known rs : List Revision) (test : Key → Bool) (es : List (Key × Held)) (o : Option (Bor Held)) → rs ≡ known → Each (λ e. IsNewerIn rs e.1.p e.1.parsed) es → option_copied o ≡ lookup test es
    → IfSome o (λ held. IsNewerIn known held.now.p held.now.parsed)
newer-lent known rs test es o same newer is =
    lent known o (lookup test es) is (newer-by_key known test es (subst (λ (l : List Revision). Each (λ e. IsNewerIn l e.1.p e.1.parsed) es) same newer))

-- ---- what is parsed

-- a text of another group tells nothing of lines
pub no-lines : (group : model.Group) (text : Bytes) (others : List ManifestEntry) (x : Parsed) → (group ≡ model.Manifests → ⊥) → HasValue group text x → IsNewerThan others x
no-lines model.Changesets text others (parsed.Changeset x) apart value = tt
no-lines model.Changesets text others (parsed.Manifest es n) apart value = absurd value
no-lines model.Changesets text others (parsed.File blob) apart value = absurd value
no-lines model.Manifests text others x apart value = absurd (apart refl)
no-lines (model.FilesAt path) text others (parsed.Changeset x) apart value = absurd value
no-lines (model.FilesAt path) text others (parsed.Manifest es n) apart value = absurd value
no-lines (model.FilesAt path) text others (parsed.File blob) apart value = tt

-- what was parsed near the manifest of the first parent
pub newer-in : (known : List Revision) (p : Id) (group : model.Group) (text : Bytes) (near : List ManifestEntry) (x : Parsed) → HasValue group text x → IsNewerThan near x → (group ≡ model.Manifests → IsManifestOf known p near) → IsNewerIn known p x
newer-in known p model.Changesets text near (parsed.Changeset x) value newer of = tt
newer-in known p model.Changesets text near (parsed.Manifest es n) value newer of = absurd value
newer-in known p model.Changesets text near (parsed.File blob) value newer of = absurd value
newer-in known p model.Manifests text near (parsed.Changeset x) value newer of = absurd value
newer-in known p model.Manifests text near (parsed.Manifest es n) value newer of = (near, of refl, newer)
newer-in known p model.Manifests text near (parsed.File blob) value newer of = absurd value
newer-in known p (model.FilesAt path) text near (parsed.Changeset x) value newer of = absurd value
newer-in known p (model.FilesAt path) text near (parsed.Manifest es n) value newer of = absurd value
newer-in known p (model.FilesAt path) text near (parsed.File blob) value newer of = tt

-- ---- what is told

-- which lines of a manifest that of its first parent may lack
pub newer-of : (known : List Revision) (node other : Id) (held : Held) (entries : List ManifestEntry) (gaps : List ℕ) → AreAdded known → revision_of known model.Manifests node ≡ Some (held_revision model.Manifests node held)
    → HasValue model.Manifests held.text (parsed.Manifest entries gaps) → IsNewerIn known held.p (parsed.Manifest entries gaps) → held.p ≡ other
    → (lines others : List ManifestEntry) → IsManifestOf known node lines → IsManifestOf known other others → IsNewer others gaps lines
newer-of known node other held entries gaps added at value (base, of, newer) first lines others is theirs =
    let own : IsManifestOf known node entries = record { text = held.text; is_held = text-there known node (held_revision model.Manifests node held) added at; spells = value } in
    let same : entries ≡ lines = one-list known node entries lines own is in
    let base-is : base ≡ others = one-list known other base others (subst (λ (p : Id). IsManifestOf known p base) first of) theirs in
    subst (λ (es : List ManifestEntry). IsNewer others gaps es) same (subst (λ (es : List ManifestEntry). IsNewer es gaps entries) base-is newer)

-- ---- the first parent

named : (o : Option FaultName) (b : Bool) (name : FaultName) (names : List (Option FaultName)) → first_name (o ∷ named_if b name ∷ names) ≡ None → b ≡ false
named None true name names none = absurd (some_none none)
named None false name names none = refl
named (Some other) b name names none = absurd (some_none none)

both : (a b : Bool) → not (a && b) ≡ false → a ≡ true
both true b h = refl
both false b h = absurd (true≢false h)

-- where no fault of ancestry shows, the first parent is known or null
pub parent-known : (known : List Revision) (r : Revision) → ancestry_fault known r ≡ None → is_known_parent known r.group r.p ≡ true
unfolding ancestry_fault
parent-known known r none =
    both (is_known_parent known r.group r.p) (is_known_parent known r.group r.q)
    (named (order_fault r.group r) (not (is_known_parent known r.group r.p && is_known_parent known r.group r.q)) fault.ParentUnknown (named_if (is_bad_link known r.group r) fault.LinkUnknown ∷ []) none)

unknown : (known : List Revision) (p : Id) (o : Option Revision) → revision_of known model.Manifests p ≡ o → option_map (λ r. r.text) o ≡ None → is_some o ≡ false
unknown known p None at is = refl
unknown known p (Some r) at is = absurd (some_none is)

-- a manifest that is known, or none, has a text
pub parent-has_text : (known : List Revision) (p : Id) → is_known_parent known model.Manifests p ≡ true → manifest_text_of known p ≡ None → ⊥
parent-has_text known p is none = by (is_null p) refl
  where
    none-of : is_null p ≡ true → ⊥
    none-of t =
        let empty : Option Bytes = Some [] in
        let at : manifest_text_of known p ≡ empty = rw t refl in
        some_none (sym at ∙ none)

    by : (t : Bool) → is_null p ≡ t → ⊥
    by true t = none-of t
    by false t = true≢false (sym is ∙ rw t (unknown known p (revision_of known model.Manifests p) refl (sym (rw t refl) ∙ none)))
