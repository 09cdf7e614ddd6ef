use Rattle.std.proofs.lemmas.List.{take_all, length-map}
use Rattle.std.proofs.Common.{◌≡◌, map, length, ap, ◌∙◌, arith}
use Rattle.pl_scope.specs.Scope.{walked, objects}
use Rattle.pl_loader.specs.Walk.{member}
use Rattle.pl_loader.proofs.FileLaws.{objects_are, accepted_members}
use Rattle.pl_loader.proofs.linking.scope.Goals as goal

pub new-requires-clause-accepted : goal.new-requires-clause-accepted
new-requires-clause-accepted c =
    let all : walked c.loop-file.members.items ≡ map member c.args.files.now = c.loop-file.invariant ∙ ap (map member) (take_all c.loop-file.file-index c.args.files.now (omega arith)) in
    accepted_members c.args.files.now c.loop-file.members.items c.requires.files all

pub returns-clause-objects : goal.returns-clause-objects
returns-clause-objects c =
    let all : walked c.loop-file.members.items ≡ map member c.args.files.now = c.loop-file.invariant ∙ ap (map member) (take_all c.loop-file.file-index c.args.files.now (omega arith)) in
    ap objects (c.new.ensures ∙ all) ∙ objects_are c.args.files.now

pub returns-clause-count : goal.returns-clause-count
returns-clause-count c =
    let all : walked c.loop-file.members.items ≡ map member c.args.files.now = c.loop-file.invariant ∙ ap (map member) (take_all c.loop-file.file-index c.args.files.now (omega arith)) in
    ap length (c.new.ensures ∙ all) ∙ length-map c.args.files.now member
