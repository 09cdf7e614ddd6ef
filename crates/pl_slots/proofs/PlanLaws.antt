-- What a kept row is known to meet.
use Rattle.std.proofs.Common.{◌≡◌, ◌+◌, ◌≤◌, Bool, true, false, ◌&&◌, List, Option, Some, None, Result, Err, sym, ap}
use Rattle.std.specs.Prelude.{nat_le, IfSome, MatchBool, ⊤}
use Rattle.std.specs.Borrow.{Bor}
use Rattle.std.specs.Option.{option_map}
use Rattle.pl_base.specs.Answers.{◌>>=◌}
use Rattle.std.specs.Str.{bytes_eq}
use Rattle.std.proofs.lemmas.Bool.{and_parts, leb-true}
use Rattle.pl_base.specs.Sums.{is_aligned}
use Rattle.pl_base.proofs.FindLaws.{find_passes}
use Rattle.pl_elf.specs.declared.range.Range.{Range}
use Rattle.pl_slots.specs.declared.slot.Want.{Want}
use Rattle.pl_slots.specs.declared.slot.Slot.{Slot}
use Rattle.pl_slots.specs.Plan.{kept_row, keeps, lies_in}

lies : (kept : List Slot) (region : Range) (want : Want) (row : Slot) → Some row ≡ kept_row kept region want → row.start + row.span ≤ region.end
unfolding kept_row keeps lies_in
lies kept region want row is =
    let all = find_passes (keeps region want) kept row (sym is) in
    let last = and_parts (bytes_eq row.name want.name && nat_le want.span row.span && is_aligned row.start want.align) _ all in
    leb-true (row.start + row.span) region.end (and_parts (nat_le region.start row.start) _ last.1).1

-- a kept row ends in the region
pub kept_within : (kept : List Slot) (region : Range) (want : Want) (row : Option (Bor Slot)) → option_map (λ row. row.now) row ≡ kept_row kept region want → IfSome row (λ row. row.now.start + row.now.span ≤ region.end)
kept_within kept region want None is = tt
kept_within kept region want (Some row) is = lies kept region want row.now is

-- what follows a refusal, or a want of memory
pub then_fails : {A B E : Type 0} (memory : Bool) (r : Result A E) (f : A → Result B E) (e : E) → MatchBool memory ⊤ (r ≡ Err e) → MatchBool memory ⊤ ((r >>= f) ≡ Err e)
then_fails true r f e h = tt
then_fails {A = A} {E = E} false r f e h = ap (λ (q : Result A E). q >>= f) h
