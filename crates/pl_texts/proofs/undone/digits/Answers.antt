use Rattle.std.proofs.Common.{◌-◌, arith}
use Rattle.pl_texts.proofs.DecimalLemmas.{finished, kept, starts}
use Rattle.pl_texts.proofs.undone.digits.Goals as goal

pub loop-left-init : goal.loop-left-init
loop-left-init c = starts c.args.number c.new-line.result.items c.new-line.ensures (omega arith)

pub loop-left-preserved : goal.loop-left-preserved
loop-left-preserved c =
    let l = c.loop-left in
    kept l.room (l.room - 1) l.left c.args.number l.line.items c.push.new.self.items (omega arith) (omega arith) l.invariant.1 l.invariant.2 l.invariant.3 c.push.ensures.items

pub returns-clause-items : goal.returns-clause-items
returns-clause-items c =
    let l = c.loop-left in
    finished l.room l.left c.args.number l.line.items c.push-2.new.self.items (omega arith) l.invariant.3 c.push-2.ensures.items
