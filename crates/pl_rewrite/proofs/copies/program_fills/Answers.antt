use Rattle.std.proofs.Common.{refl, subst, sym}
use Rattle.std.proofs.lemmas.Result.{IfOk-weaker}
use Rattle.pl_rewrite.specs.Copies.{AreLoadedAt}
use Rattle.pl_rewrite.proofs.PlaceLaws.{fills_near}
use Rattle.pl_rewrite.proofs.copies.program_fills.Goals as goal

pub fills_of-requires-clause-filling : goal.fills_of-requires-clause-filling
fills_of-requires-clause-filling c = record { some = c.requires.walk.some; loaded = subst (AreLoadedAt c.args.numbered.now c.args.walk.now) (sym c.deref.ensures.value) c.in_ok-loaded.ensures }

pub returns : goal.returns
returns c = IfOk-weaker c.fills_of.result _ _ (λ fills are. fills_near _ c.args.numbered.now c.args.walk.now c.args.near.now c.args.relocs.now c.args.meanings.now fills.items are refl refl c.in_ok-indexed.ensures) c.fills_of.ensures
