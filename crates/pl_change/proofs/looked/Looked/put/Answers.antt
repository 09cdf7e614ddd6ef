use Rattle.std.proofs.Common.{ℕ, List, Some, subst}
use Rattle.std.proofs.lemmas.Map.Text.{btree_map_updates_str}
use Rattle.pl_change.specs.Looked.{IsPut}
use Rattle.pl_change.proofs.looked.Looked.put.Goals as goal

pub returns : goal.returns
returns c =
    subst (λ (n : List ℕ). IsPut c.args.self.now n (Some c.args.row) (record { rows = c.insert.new.self })) c.as_bytes.ensures.value
    (btree_map_updates_str c.as_bytes.result.now c.args.self.now.rows c.insert.new.self _ c.in_ok-insert.ensures.updates)
