use Rattle.std.proofs.Common.{ℕ, List, None, ap, subst, ◌∙◌}
use Rattle.std.proofs.lemmas.Map.Text.{btree_map_updates_str}
use Rattle.std.specs.Option.{option_flatten}
use Rattle.pl_change.specs.Looked.{IsPut, found_at}
use Rattle.pl_change.proofs.looked.Looked.take.Goals as goal

pub returns-clause-row : goal.returns-clause-row
returns-clause-row c = c.flatten.ensures ∙ ap option_flatten (c.remove.ensures.value ∙ ap (λ (n : List ℕ). found_at c.args.self.now n) c.as_bytes.ensures.value)

pub returns-clause-gone : goal.returns-clause-gone
returns-clause-gone c =
    subst (λ (n : List ℕ). IsPut c.args.self.now n None (record { rows = c.remove.new.self })) c.as_bytes.ensures.value
    (btree_map_updates_str c.as_bytes.result.now c.args.self.now.rows c.remove.new.self _ c.remove.ensures.updates)
