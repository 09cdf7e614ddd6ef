use Rattle.std.proofs.Common.{◌≡◌, ℕ, ◌<◌, true, false, List, length, Some, Err, refl, sym, ap, ◌∙◌, subst, arith}
use Rattle.std.specs.Prelude.{slice_get}
use Rattle.std.proofs.lemmas.Option.{slice_get_read}
use Rattle.pl_cone.specs.Needs.{all_names}
use Rattle.pl_cone.specs.declared.skip.Skip.TheVariants.{NeededIsProgram}
use Rattle.pl_cone.proofs.WalkingLaws.{check_has, check_passes, check_stops, checked_first}
use Rattle.pl_cone.proofs.walking.NumberWalk.check.Goals.{else-is_program_row-via-then-is_program_row+else-contains, else-is_program_row-via-else-is_program_row}
use Rattle.pl_cone.proofs.walking.NumberWalk.check.Goals as goal

pub returns-then-index-eq0 : goal.returns-then-index-eq0
returns-then-index-eq0 c = checked_first c.args.needs.now c.args.self.now c.args.object.now c.args.index c.if-index-eq0.true

pub returns-then-not-is_library : goal.returns-then-not-is_library
returns-then-not-is_library c =
    let w = c.args.self.now in
    let number = c.index-number.result.now in
    let at : slice_get w.numbers.items c.args.index ≡ Some number = slice_get_read w.numbers.items (length w.numbers.items) c.args.index number refl c.requires.index c.index-number.ensures in
    let later : 0 < c.args.index = omega (arith, c.if-index-eq0.false) in
    check_stops c.args.needs.now c.requires.walking.needs c.args.index w number c.args.object.now later at (c.requires.object number at) (sym c.if-not-is_library.ensures) ∙ ap (λ (m : List ℕ). Err (NeededIsProgram m)) (sym c.in_ok-name.ensures)

pub returns-then-contains : goal.returns-then-contains
returns-then-contains c =
    let w = c.args.self.now in
    let number = c.index-number.result.now in
    let first = c.index.result.now in
    let at : slice_get w.numbers.items c.args.index ≡ Some number = slice_get_read w.numbers.items (length w.numbers.items) c.args.index number refl c.requires.index c.index-number.ensures in
    let some : 0 < length w.numbers.items = omega (arith, c.requires.index) in
    let first_at : slice_get w.numbers.items 0 ≡ Some first = slice_get_read w.numbers.items (length w.numbers.items) 0 first refl some c.index.ensures in
    let named : first < length (all_names c.args.needs.now) = subst (λ (k : ℕ). k < length (all_names c.args.needs.now)) (sym c.index.ensures) (c.requires.walking.walking.named 0 first some) in
    let later : 0 < c.args.index = omega (arith, c.if-index-eq0.false) in
    check_has c.args.needs.now c.requires.walking.needs c.args.index w number c.args.object.now later at (c.requires.object number at) (sym c.if-not-is_library.ensures) first first_at named (sym c.if-is_program_row.ensures) c.of_row.result.now c.of_row.ensures true (sym c.if-contains.ensures.value)
    ∙ ap (λ (m : List ℕ). Err (NeededIsProgram m)) (sym c.in_ok-name-2.ensures)

pub returns : goal.returns
returns c =
    let w = c.args.self.now in
    let number = c.index-number.result.now in
    let first = c.index.result.now in
    let at : slice_get w.numbers.items c.args.index ≡ Some number = slice_get_read w.numbers.items (length w.numbers.items) c.args.index number refl c.requires.index c.index-number.ensures in
    let some : 0 < length w.numbers.items = omega (arith, c.requires.index) in
    let first_at : slice_get w.numbers.items 0 ≡ Some first = slice_get_read w.numbers.items (length w.numbers.items) 0 first refl some c.index.ensures in
    let named : first < length (all_names c.args.needs.now) = subst (λ (k : ℕ). k < length (all_names c.args.needs.now)) (sym c.index.ensures) (c.requires.walking.walking.named 0 first some) in
    let later : 0 < c.args.index = omega (arith, c.if-index-eq0.false) in
    elim c.else-is_program_row.branch [
      | else-is_program_row-via-then-is_program_row+else-contains w' ↦
          check_has c.args.needs.now c.requires.walking.needs c.args.index w number c.args.object.now later at (c.requires.object number at) (sym c.if-not-is_library.ensures) first first_at named (sym w'.if-is_program_row.ensures) w'.of_row.result.now w'.of_row.ensures false
          (sym w'.if-contains.ensures.value)
      | else-is_program_row-via-else-is_program_row w' ↦
          check_passes c.args.needs.now c.requires.walking.needs c.args.index w number c.args.object.now later at (c.requires.object number at) (sym c.if-not-is_library.ensures) first first_at (sym w'.if-is_program_row.ensures)
    ]
