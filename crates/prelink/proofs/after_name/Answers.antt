use Rattle.std.proofs.Common.{◌≡◌, length, rules, refl}
use Rattle.std.specs.Vec.Iter.{into_iter_items, into_iter_len}
use Rattle.std.proofs.lemmas.Iterator.{items_from_collect}
use Rattle.std.proofs.lemmas.Iterator.Consumers.{YieldsList-at}
use Rattle.std.proofs.lemmas.Iterator.Adapters.{YieldsList-from_skip, YieldsList-from_vec}
use Rattle.prelink.proofs.after_name.Goals as goal

pub returns : goal.returns
returns c =
    let full : into_iter_len c.args.words ≡ length (into_iter_items c.args.words) = search rules in
    items_from_collect c.collect.result c.collect.ensures.ran (YieldsList-from_skip 1 (YieldsList-at c.skip.ensures.source (YieldsList-from_vec (into_iter_items c.args.words) refl full)) c.skip.ensures.count)
