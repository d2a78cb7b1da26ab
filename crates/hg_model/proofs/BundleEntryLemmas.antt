-- Entries of a group, and their payloads.
use Rattle.std.proofs.Common.{◌≡◌, ◌+◌, ◌≤◌, ◌++◌, length, take, drop, refl, sym, ap, ◌∙◌, arith, length-append, length-drop}
use Rattle.std.proofs.lemmas.List.{take_at, drop_at, drop-drop, take-append-drop, length-take-le}
use Rattle.text_model.specs.Text.{Bytes}
use Rattle.hg_model.specs.Bundle.{BundleEntry, entry_payload, IsBundleEntry, entry_of}

pub length-payload : (e : BundleEntry) → IsBundleEntry e → length (entry_payload e) ≡ 80 + length e.delta
length-payload e is =
    omega (
      arith,
      is.node,
      is.p,
      is.q,
      is.link,
      length-append e.node (e.p ++ (e.q ++ (e.link ++ e.delta))),
      length-append e.p (e.q ++ (e.link ++ e.delta)),
      length-append e.q (e.link ++ e.delta),
      length-append e.link e.delta,
    )

-- the payload of an entry shows that entry
pub entry_of-payload : (e : BundleEntry) → IsBundleEntry e → entry_of (entry_payload e) ≡ e
entry_of-payload e is =
    let rest1 = e.p ++ (e.q ++ (e.link ++ e.delta)) in
    let rest2 = e.q ++ (e.link ++ e.delta) in
    let rest3 = e.link ++ e.delta in
    let node : take 20 (entry_payload e) ≡ e.node = take_at e.node rest1 20 is.node in
    let past1 : drop 20 (entry_payload e) ≡ rest1 = drop_at e.node rest1 20 is.node in
    let past2 : drop 40 (entry_payload e) ≡ rest2 = sym (drop-drop 20 20 (entry_payload e)) ∙ ap (drop 20) past1 ∙ drop_at e.p rest2 20 is.p in
    let past3 : drop 60 (entry_payload e) ≡ rest3 = sym (drop-drop 20 40 (entry_payload e)) ∙ ap (drop 20) past2 ∙ drop_at e.q rest3 20 is.q in
    let past4 : drop 80 (entry_payload e) ≡ e.delta = sym (drop-drop 20 60 (entry_payload e)) ∙ ap (drop 20) past3 ∙ drop_at e.link e.delta 20 is.link in
    let p : take 20 (drop 20 (entry_payload e)) ≡ e.p = ap (take 20) past1 ∙ take_at e.p rest2 20 is.p in
    let q : take 20 (drop 40 (entry_payload e)) ≡ e.q = ap (take 20) past2 ∙ take_at e.q rest3 20 is.q in
    let link : take 20 (drop 60 (entry_payload e)) ≡ e.link = ap (take 20) past3 ∙ take_at e.link e.delta 20 is.link in
    rw (node, p, q, link, past4) refl

-- the four ids and the delta of a payload
pub entry_payload-of : (payload : Bytes) → entry_payload (entry_of payload) ≡ payload
entry_payload-of payload =
    let four : take 20 (drop 60 payload) ++ drop 80 payload ≡ drop 60 payload =
    ap (λ (l : Bytes). take 20 (drop 60 payload) ++ l) (sym (drop-drop 20 60 payload)) ∙ take-append-drop 20 (drop 60 payload) in
    let three : take 20 (drop 40 payload) ++ drop 60 payload ≡ drop 40 payload =
    ap (λ (l : Bytes). take 20 (drop 40 payload) ++ l) (sym (drop-drop 20 40 payload)) ∙ take-append-drop 20 (drop 40 payload) in
    let two : take 20 (drop 20 payload) ++ drop 40 payload ≡ drop 20 payload =
    ap (λ (l : Bytes). take 20 (drop 20 payload) ++ l) (sym (drop-drop 20 20 payload)) ∙ take-append-drop 20 (drop 20 payload) in
    rw (four, three, two) (take-append-drop 20 payload)

pub entry_of-is : (payload : Bytes) → 80 ≤ length payload → IsBundleEntry (entry_of payload)
entry_of-is payload long = record {
  node = length-take-le 20 payload (omega arith);
  p = length-take-le 20 (drop 20 payload) (omega (arith, length-drop 20 payload));
  q = length-take-le 20 (drop 40 payload) (omega (arith, length-drop 40 payload));
  link = length-take-le 20 (drop 60 payload) (omega (arith, length-drop 60 payload));
}
