use Rattle.std.proofs.Common.{sym, arith}
use Rattle.std.proofs.lemmas.List.{length-take-le}
use Rattle.pl_object.specs.declared.twins.TheConstants.{KEY_END}
use Rattle.pl_object.proofs.twins.name_key.Goals as goal

pub slice_bounds-gnu_hash-end : goal.slice_bounds-gnu_hash-end
slice_bounds-gnu_hash-end c = sym (length-take-le KEY_END c.args.name.now (omega (arith, c.if-size.false)))
