use Rattle.std.proofs.Common.{◌∙◌, ap}
use Rattle.pl_words.specs.Line.{fault_of_kind}
use Rattle.pl_words.proofs.LineLaws.{parse_refused, parse_taken}
use Rattle.pl_words.proofs.line.parsed.Goals as goal

pub returns-in-Ok : goal.returns-in-Ok
returns-in-Ok c = parse_taken _ _ _ c.in_ok-line.ensures c.in-Ok.ensures.kinds c.in-Ok.ensures.matches

pub returns-in-Err : goal.returns-in-Err
returns-in-Err c = parse_refused _ _ c.in-Err.error c.fault_of.result c.in_ok-line.ensures (c.fault_of.ensures ∙ ap fault_of_kind c.kind.ensures) c.in-Err.ensures.kinds
