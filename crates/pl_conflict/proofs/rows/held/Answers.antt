use Rattle.std.proofs.Common.{◌≡◌, ℕ, List, subst}
use Rattle.std.specs.Prelude.{IfOk}
use Rattle.pl_conflict.proofs.HeldLaws.{one_loaded, held_is}
use Rattle.pl_conflict.proofs.rows.held.Goals as goal

pub read_loaded-requires : goal.read_loaded-requires
read_loaded-requires c = one_loaded c.args.files.now c.args.member c.requires.files c.requires.member

pub returns : goal.returns
returns c = subst (λ (bytes : List ℕ). IfOk c.read_loaded.result (λ v. v.items ≡ bytes)) (held_is c.args.files.now c.args.member c.args.start c.requires.member) c.read_loaded.ensures
