use Rattle.std.proofs.Common.{◌++◌, length, map, sym, ap, ◌∙◌, arith}
use Rattle.std.proofs.lemmas.List.{length-append, length-map}
use Rattle.hg_model.specs.Manifest.{manifest_text}
use Rattle.hg_manifest.specs.Values.{manifest_entry}
use Rattle.hg_manifest.proofs.NearLemmas.{is_cut_at, cut_entries, cut_parts}
use Rattle.hg_manifest.proofs.near.Near.front.Goals as goal

pub len_behind-behind-requires : goal.len_behind-behind-requires
len_behind-behind-requires c =
    let cut = cut_parts c.self.inside.entries.now c.self.inside.lines.now c.args.count c.self.invariant c.split_at.result.0.now c.split_at.result.1.now c.split_at.ensures.front c.split_at.ensures.back in
    (manifest_text (map manifest_entry c.split_at.result.1.now), cut.starts)

pub overflow_sub-self-inside : goal.overflow_sub-self-inside
overflow_sub-self-inside c =
    let cut = cut_parts c.self.inside.entries.now c.self.inside.lines.now c.args.count c.self.invariant c.split_at.result.0.now c.split_at.result.1.now c.split_at.ensures.front c.split_at.ensures.back in
    omega (arith, c.len_behind-behind.ensures (manifest_text (map manifest_entry c.split_at.result.1.now)) cut.starts, ap length cut.starts.0, length-append (manifest_text (map manifest_entry c.split_at.result.0.now)) (manifest_text (map manifest_entry c.split_at.result.1.now)))

pub invariant_of-result : goal.invariant_of-result
invariant_of-result c =
    let cut = cut_parts c.self.inside.entries.now c.self.inside.lines.now c.args.count c.self.invariant c.split_at.result.0.now c.split_at.result.1.now c.split_at.ensures.front c.split_at.ensures.back in
    let at = is_cut_at c.self.inside.lines.now (map manifest_entry c.split_at.result.0.now) (map manifest_entry c.split_at.result.1.now) c.len_behind-behind.result cut (c.len_behind-behind.ensures (manifest_text (map manifest_entry c.split_at.result.1.now)) cut.starts) in
    rw (c.split_at-2.ensures.back) at.rest

pub returns-clause-some : goal.returns-clause-some
returns-clause-some c =
    let cut = cut_parts c.self.inside.entries.now c.self.inside.lines.now c.args.count c.self.invariant c.split_at.result.0.now c.split_at.result.1.now c.split_at.ensures.front c.split_at.ensures.back in
    let at = is_cut_at c.self.inside.lines.now (map manifest_entry c.split_at.result.0.now) (map manifest_entry c.split_at.result.1.now) c.len_behind-behind.result cut (c.len_behind-behind.ensures (manifest_text (map manifest_entry c.split_at.result.1.now)) cut.starts) in
    record {
      many = length-map c.split_at.result.0.now manifest_entry ∙ c.split_at.ensures.front_len;
      whole = rw (← c.self.view_is) (cut_entries c.self.inside.entries.now c.args.count ∙ (λ i. map manifest_entry (sym c.split_at.ensures.front i) ++ map manifest_entry (sym c.split_at.ensures.back i)));
      text_is = rw (c.split_at-2.ensures.front) at.text;
    }
