use Rattle.std.proofs.Common.{◌≡◌, ◌<◌, List, ℕ, length, get_or, Option, Some, None, Ok, Err, refl, sym, ap, subst, ◌∙◌, arith}
use Rattle.std.specs.Prelude.{slice_get}
use Rattle.std.proofs.lemmas.Option.{slice_get_read}
use Rattle.pl_cone.specs.Calls.{caused}
use Rattle.pl_cone.specs.Skipped.{skip_of}
use Rattle.pl_cone.specs.Skips.{skip_is_memory}
use Rattle.pl_cone.specs.Taken.{files_in}
use Rattle.pl_cone.specs.declared.skip.Skip.{Skip}
use Rattle.pl_cone.specs.declared.skip.Skip.TheVariants.{NotThere}
use Rattle.pl_cone.proofs.CallLaws.{absent_skip, answers_meant}
use Rattle.pl_cone.proofs.PrelinkableLaws.{named_skip, row_number}
use Rattle.pl_cone.proofs.calls.prelinkable.Goals as goal

taken_out : (read causes : List (Option Skip)) (row : ℕ) (x : Option Skip) → read ≡ causes → row < length causes → x ≡ get_or read row x → caused (Some x) ≡ caused (slice_get causes row)
taken_out read causes row x same lt is =
    let within : row < length read = subst (λ (cs : List (Option Skip)). row < length cs) (sym same) lt in
    sym (ap (λ (cs : List (Option Skip)). caused (slice_get cs row)) (sym same) ∙ ap caused (slice_get_read read (length read) row x refl within is))

pub returns-in_default : goal.returns-in_default
returns-in_default c = λ region taken. absent_skip region c.args.files.now c.args.name.now taken c.in_default.ensures ∙ ap (λ (n : List ℕ). Err (NotThere n)) (sym c.in_ok-copy_of.ensures)

pub remove-requires : goal.remove-requires
remove-requires c =
    let file = c.in-Some.ensures in
    let number = row_number c.requires.0 c.in_ok-table.table c.args.files.now c.in-Some.row file.0 c.requires.1 c.in_ok-table.ensures.files c.in_ok-table.ensures.table file.1 in
    let size = ap length c.causes_of-causes.ensures in
    omega (arith, size, number, c.causes_of-causes.result.ok)

pub returns-in-None : goal.returns-in-None
returns-in-None c = λ region taken.
    let file = c.in-Some.ensures in
    let number = row_number c.requires.0 c.in_ok-table.table c.args.files.now c.in-Some.row file.0 c.requires.1 c.in_ok-table.ensures.files c.in_ok-table.ensures.table file.1 in
    let meant = named_skip region c.in_ok-table.table c.args.files.now c.in-Some.row file.0 c.args.name.now taken c.in_ok-table.ensures.files c.in_ok-table.ensures.table file.1 file.2 in
    answers_meant skip_is_memory (Ok tt) (skip_of (files_in c.args.files.now) region c.args.name.now) (meant ∙ sym (taken_out c.causes_of-causes.result.items c.in_ok-table.table.causes c.in-Some.row None c.causes_of-causes.ensures number c.in-None.ensures.value))

pub returns : goal.returns
returns c = λ region taken.
    let file = c.in-Some.ensures in
    let number = row_number c.requires.0 c.in_ok-table.table c.args.files.now c.in-Some.row file.0 c.requires.1 c.in_ok-table.ensures.files c.in_ok-table.ensures.table file.1 in
    let meant = named_skip region c.in_ok-table.table c.args.files.now c.in-Some.row file.0 c.args.name.now taken c.in_ok-table.ensures.files c.in_ok-table.ensures.table file.1 file.2 in
    answers_meant skip_is_memory (Err c.in-Some-remove.skip) (skip_of (files_in c.args.files.now) region c.args.name.now) (meant ∙ sym (taken_out c.causes_of-causes.result.items c.in_ok-table.table.causes c.in-Some.row (Some c.in-Some-remove.skip) c.causes_of-causes.ensures number c.in-Some-remove.ensures.value))
