use Rattle.std.proofs.Common.{◌≡◌, ◌++◌, ℕ, List, [], ◌∷◌, length, take, drop, sym, ap, ◌∙◌, arith}
use Rattle.std.proofs.lemmas.Bool.{eqb-true}
use Rattle.std.proofs.lemmas.List.{append-nil, take-append-drop}
use Rattle.pl_form.specs.Back.{inserted}
use Rattle.pl_form.proofs.write.with_inserted.Goals as goal

none_inserted : (cut : ℕ) (more bytes : List ℕ) → length more ≡ 0 → bytes ≡ inserted cut more bytes
none_inserted cut [] bytes e = sym (take-append-drop cut bytes) ∙ ap (λ (xs : List ℕ). xs ++ drop cut bytes) (sym (append-nil (take cut bytes)))
none_inserted cut (m ∷ ms) bytes e = absurd (omega (arith, e))

pub returns-then-is_empty : goal.returns-then-is_empty
returns-then-is_empty c =
    none_inserted c.args.cut c.args.more.now c.args.bytes.items (eqb-true (length c.args.more.now) 0 (sym c.is_empty.ensures ∙ c.if-is_empty.true))
