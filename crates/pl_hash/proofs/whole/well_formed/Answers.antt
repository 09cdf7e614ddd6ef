use Rattle.std.proofs.Common.{◌≡◌, rules, sym, ◌∙◌}
use Rattle.std.proofs.lemmas.Bool.{OnTrue_from}
use Rattle.pl_hash.specs.Chain.{well_formed}
use Rattle.pl_hash.proofs.WholeLaws.{IsWellFormed-from}
use Rattle.pl_hash.proofs.whole.well_formed.Goals as goal

pub returns-then-has_links-clause-facts : goal.returns-then-has_links-clause-facts
unfolding well_formed
returns-then-has_links-clause-facts c =
    let value : c.chains_end.result ≡ well_formed c.args.table.now = search rules in
    OnTrue_from _ _ (λ h. IsWellFormed-from c.args.table.now (sym value ∙ h))
