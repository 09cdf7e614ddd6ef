use Rattle.std.proofs.Common.{◌≡◌, ◌∙◌, sym, subst}
use Rattle.std.specs.Prelude.{IfOk}
use Rattle.std.proofs.lemmas.Result.{IfOk-weaker}
use Rattle.pl_base.specs.Bytes.{bytes64}
use Rattle.pl_rewrite.specs.Copies.{FillsBy, IsFillOf}
use Rattle.pl_rewrite.proofs.copies.bytes_at.Goals as goal
use Rattle.pl_value.specs.declared.word.Word.{Word}

pub returns-in-Put : goal.returns-in-Put
unfolding bytes64
returns-in-Put c =
    subst (λ (w : Word). IfOk c.from_slice.result (λ v. FillsBy c.args.filling.now c.args.reloc.now w v.items)) (sym c.in-Put.is)
    (IfOk-weaker c.from_slice.result _ (λ v. v.items ≡ bytes64 c.in-Put.word) (λ v is. is ∙ c.to_le_bytes.ensures) c.from_slice.ensures.items)

pub returns-in-Nothing : goal.returns-in-Nothing
returns-in-Nothing c = subst (λ (w : Word). IfOk c.standing_at.result (λ v. FillsBy c.args.filling.now c.args.reloc.now w v.items)) (sym c.in-Nothing.is) c.standing_at.ensures

pub copied_over-requires-clause-member : goal.copied_over-requires-clause-member
copied_over-requires-clause-member c = subst (IsFillOf c.args.filling.now.walk.now) c.in-Copy.is c.requires.member

pub returns-in-Copy : goal.returns-in-Copy
returns-in-Copy c = subst (λ (w : Word). IfOk c.copied_over.result (λ v. FillsBy c.args.filling.now c.args.reloc.now w v.items)) (sym c.in-Copy.is) c.copied_over.ensures
