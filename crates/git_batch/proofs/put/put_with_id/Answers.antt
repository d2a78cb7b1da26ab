use Rattle.std.proofs.Common.{◌≡◌, ◌++◌, ◌∷◌, [], sym, ap, ◌∙◌, append_assoc}
use Rattle.text_model.specs.Text.{Bytes, lf, sp, line, spaced}
use Rattle.git_batch.proofs.put.put_with_id.Goals as goal

in-pieces : (old id word size content : Bytes) → (((((((old ++ id) ++ sp ∷ []) ++ word) ++ sp ∷ []) ++ size) ++ lf ∷ []) ++ content) ++ lf ∷ []
    ≡ old ++ (line (spaced (id ∷ word ∷ size ∷ [])) ++ line content)
in-pieces old id word size content =
    simp append_assoc
    (ap (λ (l : Bytes). old ++ (id ++ sp ∷ l))
    (sym (append_assoc word (sp ∷ (size ++ lf ∷ [])) (line content) ∙ ap (λ (l : Bytes). word ++ sp ∷ l) (append_assoc size (lf ∷ []) (line content)))))

pub returns-clause-ok : goal.returns-clause-ok
returns-clause-ok c =
    rw (c.in_ok-push-4.ensures.ok, c.in_ok-share.ensures.ok, c.in_ok-push-3.ensures.ok, c.in_ok-put_decimal.ensures.ok, c.in_ok-push-2.ensures.ok, c.in_ok-put-2.ensures.ok, c.in_ok-push.ensures.ok, c.in_ok-put.ensures.ok, c.hex.ensures.hex, c.word.ensures, c.len.ensures.value)
    (in-pieces c.args.out.now _ _ _ c.args.content.now)
