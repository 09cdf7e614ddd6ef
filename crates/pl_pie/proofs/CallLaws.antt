-- What the calls of lower crates ask, of a position-independent program and of a program's file.
use Rattle.std.proofs.Common.{◌≡◌, ℕ, ◌%◌, ◌^◌, ◌<◌, ◌≤◌, true, false, List, length, Option, Some, None, refl, sym, ap, ◌∙◌, arith}
use Rattle.std.specs.Prelude.{◌==◌}
use Rattle.std.proofs.lemmas.Bool.{false≢true}
use Rattle.pl_base.specs.Bytes.{word16}
use Rattle.pl_base.specs.Windows.{AllIn}
use Rattle.pl_elf.specs.Kinds.{is_program, is_static}
use Rattle.pl_object.specs.Accepted.{Accepted}
use Rattle.pl_object.specs.Named.{symbols_of}
use Rattle.pl_object.specs.declared.object.Object.{Object}
use Rattle.pl_move.specs.Objects.{LieIn}
use Rattle.pl_move.proofs.ObjectLaws.{tables_in}
use Rattle.pl_pie.specs.Words.{other_words}
use Rattle.pl_pie.specs.Pie.{as_program, pie}
use Rattle.pl_pie.specs.Fix.{word_windows}
use Rattle.pl_pie.specs.Laws.{PiesArePlaced}
use Rattle.pl_pie.proofs.AlignLaws.{align_page, align_power, align_even, slot_even, span_some}
use Rattle.pl_pie.proofs.WordLaws.{length-typed, long_is}
use Rattle.pl_pie.proofs.PieLaws.{IsPie, pie_is, pie_type, not_static}
use Rattle.pl_pie.proofs.InsideLaws.{symbols_in, words_in}

-- ---- an accepted program

pub symbols_small : (p : List ℕ) (o : Object) → Accepted p o → is_static o.kind ≡ false → length p < 2 ^ 32 → (symbols_of o).at < 2 ^ 64
symbols_small p o is other few = let le = symbols_in p o is other in omega (arith, le, few)

pub program_small : (p : List ℕ) (o : Object) → Accepted p o → is_program o.kind ≡ true → length p < 2 ^ 32 → (symbols_of o).at < 2 ^ 64
program_small p o is program few = symbols_small p o is (not_static o.kind program) few

pub program_lies : (p : List ℕ) (o : Object) → Accepted p o → is_program o.kind ≡ true → LieIn (length p) o
program_lies p o is program = tables_in p o is (not_static o.kind program)

pub program_words : (p : List ℕ) (o : Object) → Accepted p o → is_program o.kind ≡ true → AllIn (length p) (word_windows (other_words o))
program_words p o is program = words_in p o is (not_static o.kind program)

-- ---- a position-independent program

pub pie_long : (bytes : List ℕ) (o : Object) → pie bytes ≡ Some o → 64 ≤ length bytes
pie_long bytes o e = let is : IsPie bytes o = pie_is bytes o e in long_is 2 bytes is.accepted.head.long

-- a file without a header is none
pub pie_none : (bytes : List ℕ) → length bytes < 64 → pie bytes ≡ None
pie_none bytes short = of_pie (pie bytes) refl
  where
    of_pie : (m : Option Object) → pie bytes ≡ m → pie bytes ≡ None
    of_pie None is = is
    of_pie (Some o) is = absurd (omega (arith, short, pie_long bytes o is))

-- nor is one of another type
pub pie_other : (bytes : List ℕ) → (word16 16 bytes == 3) ≡ false → pie bytes ≡ None
pie_other bytes other = of_pie (pie bytes) refl
  where
    of_pie : (m : Option Object) → pie bytes ≡ m → pie bytes ≡ None
    of_pie None is = is
    of_pie (Some o) is = absurd (false≢true (sym other ∙ ap (λ (kind : ℕ). kind == 3) (pie_type bytes o (pie_is bytes o is))))

pub program_size : (bytes : List ℕ) (o : Object) → pie bytes ≡ Some o → length (as_program bytes) ≡ length bytes
program_size bytes o e = length-typed 2 bytes (pie_long bytes o e)

pub pie_small : (bytes : List ℕ) (o : Object) → pie bytes ≡ Some o → length bytes < 2 ^ 32 → (symbols_of o).at < 2 ^ 64
pie_small bytes o e few =
    let is : IsPie bytes o = pie_is bytes o e in
    program_small (as_program bytes) o is.accepted is.program (omega (arith, few, program_size bytes o e))

pub pie_lies : (bytes : List ℕ) (o : Object) → pie bytes ≡ Some o → LieIn (length (as_program bytes)) o
pie_lies bytes o e = let is : IsPie bytes o = pie_is bytes o e in program_lies (as_program bytes) o is.accepted is.program

pub pie_words : (bytes : List ℕ) (o : Object) → pie bytes ≡ Some o → AllIn (length (as_program bytes)) (word_windows (other_words o))
pie_words bytes o e = let is : IsPie bytes o = pie_is bytes o e in program_words (as_program bytes) o is.accepted is.program

pub pie_even : (bytes : List ℕ) (o : Object) (at : ℕ) → pie bytes ≡ Some o → at % o.align ≡ 0 → at % 2 ≡ 0
pie_even bytes o at e aligned = let is : IsPie bytes o = pie_is bytes o e in slot_even at o.align (align_even (as_program bytes) o is.accepted) aligned

pub pie_align : (bytes : List ℕ) (o : Object) → pie bytes ≡ Some o → 0 < o.align
pie_align bytes o e = let is : IsPie bytes o = pie_is bytes o e in omega (arith, align_page (as_program bytes) o is.accepted)

pub pie_placed : PiesArePlaced
pie_placed bytes o e = let is : IsPie bytes o = pie_is bytes o e in (span_some (as_program bytes) o is.accepted (not_static o.kind is.program), align_power (as_program bytes) o is.accepted)
