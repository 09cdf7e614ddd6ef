use Rattle.std.proofs.Common.{◌≡◌, Some, None, rules, sym, ◌∙◌}
use Rattle.pl_cone.specs.Taken.{marked_by}
use Rattle.pl_cone.proofs.TakenLaws.{marked_read}
use Rattle.pl_cone.proofs.taken.Taken.marked.Goals as goal

pub returns-in-There-Marked-clause-read : goal.returns-in-There-Marked-clause-read
returns-in-There-Marked-clause-read c = λ read.
    let value : Some c.in-There-Marked.marked ≡ marked_by c.args.self.now.entry = search rules in
    value ∙ marked_read c.args.self.now read

pub returns-in-There-Plain-clause-read : goal.returns-in-There-Plain-clause-read
returns-in-There-Plain-clause-read c = λ read.
    let value : marked_by c.args.self.now.entry ≡ None = search rules in
    sym value ∙ marked_read c.args.self.now read
