use Rattle.std.proofs.Common.{◌≡◌, List, length, refl, ap, ◌∙◌, arith}
use Rattle.pl_base.specs.Windows.{within}
use Rattle.pl_form.specs.Parts.{extension, old_names}
use Rattle.pl_form.specs.declared.parts.FormTables.{FormTables}
use Rattle.pl_form.specs.declared.parts.Spot.{Spot}
use Rattle.pl_form.specs.declared.program.Insertion.{Insertion}
use Rattle.pl_form.proofs.PlanLaws.{plan_is, block_small}
use Rattle.pl_form.proofs.program.program_plan.Goals as goal

pub program_tables-requires-clause-room : goal.program_tables-requires-clause-room
program_tables-requires-clause-room c =
    let last = c.args.last.now in
    let block = extension last.segment c.as_slice.result.now c.args.flat.now c.args.lists.now in
    let is : block ≡ extension last.segment c.args.layout.now.spots c.args.flat.now c.args.lists.now = ap (λ (s : List Spot). extension last.segment s c.args.flat.now c.args.lists.now) c.as_slice.ensures in
    omega (
      arith,
      ap (λ (i : Insertion). i.grown) c.in_ok-more.ensures,
      block_small c.args.bytes.now c.args.object.now c.args.layout.now last c.args.flat.now block c.args.lists.now c.requires.program c.requires.flat c.requires.lists is,
    )

pub returns : goal.returns
returns c =
    let last = c.args.last.now in
    let bytes = c.args.bytes.now in
    let l = c.args.layout.now in
    let block = extension last.segment c.as_slice.result.now c.args.flat.now c.args.lists.now in
    let is : block ≡ extension last.segment l.spots c.args.flat.now c.args.lists.now = ap (λ (s : List Spot). extension last.segment s c.args.flat.now c.args.lists.now) c.as_slice.ensures in
    let t = c.in_ok-tables.tables in
    let more = c.in_ok-more.more in
    c.plan_of.ensures
    ∙ plan_is bytes c.args.object.now l last c.args.flat.now block more.bytes (within l.dynamic bytes) t.dynamic t.names c.new.result t.segments t.sections c.args.lists.now
    (length more.bytes) more.grown (length (old_names bytes)) c.requires.head c.requires.few c.requires.program c.requires.flat c.requires.lists
    is
    (ap (λ (i : Insertion). i.bytes) c.in_ok-more.ensures)
    refl
    (ap (λ (i : Insertion). i.grown) c.in_ok-more.ensures)
    refl
    (ap (λ (u : FormTables). u.segments) c.in_ok-tables.ensures)
    (ap (λ (u : FormTables). u.sections) c.in_ok-tables.ensures)
    refl
    (ap (λ (u : FormTables). u.dynamic) c.in_ok-tables.ensures)
    c.new.ensures
    (ap (λ (u : FormTables). u.names) c.in_ok-tables.ensures)
