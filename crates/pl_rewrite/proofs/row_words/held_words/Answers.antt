use Rattle.std.proofs.Common.{List, ℕ, get_or, refl, subst}
use Rattle.std.specs.List.{AllZip}
use Rattle.std.proofs.lemmas.List.{take_all}
use Rattle.pl_conflict.proofs.HeldWordLaws.{zip_more}
use Rattle.pl_rewrite.proofs.HeldLaws.{told_by}
use Rattle.pl_rewrite.specs.Held.{IsHeldIn}
use Rattle.pl_rewrite.proofs.row_words.held_words.Goals as goal

pub loop-index-preserved : goal.loop-index-preserved
loop-index-preserved c =
    let within = c.requires.remaining c.loop-index.index-index 0 c.loop-index-test.true in
    zip_more (IsHeldIn c.args.original.now c.args.relocs.now c.args.words.now) c.args.remaining.now c.loop-index.index-index 0 c.loop-index.all _ _ c.loop-index-test.true c.loop-index.invariant
    (refl, λ d. told_by c.args.original.now c.args.relocs.now c.args.words.now (get_or c.args.remaining.now c.loop-index.index-index 0) d _ _ _ within c.requires.words c.in_ok-word.ensures) c.in_ok-push.ensures.ok

pub returns : goal.returns
returns c = subst (λ (is : List ℕ). AllZip (IsHeldIn c.args.original.now c.args.relocs.now c.args.words.now) is c.loop-index.all) (take_all c.loop-index.index-index c.args.remaining.now c.loop-index-test.false) c.loop-index.invariant
