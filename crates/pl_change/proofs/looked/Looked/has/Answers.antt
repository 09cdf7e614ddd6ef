use Rattle.std.proofs.Common.{ℕ, List, ap, ◌∙◌}
use Rattle.std.specs.Prelude.{is_some}
use Rattle.pl_change.specs.Looked.{found_at}
use Rattle.pl_change.proofs.looked.Looked.has.Goals as goal

pub returns : goal.returns
returns c = c.contains_key.ensures ∙ ap (λ (n : List ℕ). is_some (found_at c.args.self.now n)) c.as_bytes.ensures.value
