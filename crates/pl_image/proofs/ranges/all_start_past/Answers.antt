use Rattle.std.proofs.Common.{◌+◌}
use Rattle.std.proofs.lemmas.Bool.{OnTrue_from}
use Rattle.pl_image.proofs.RangeLemmas.{others_start, starts_past}
use Rattle.pl_image.proofs.ranges.all_start_past.Goals as goal

pub returns-else-index-ranges : goal.returns-else-index-ranges
returns-else-index-ranges c =
    OnTrue_from _ _ (λ hit. others_start c.args.ranges.now (c.args.from + c.args.size) c.args.index (record { start = 0; end = 0 }) c.requires.rises (starts_past c.starts_before.result _ _ c.starts_before.ensures hit))
