-- Loosening undoes fixing.
use Rattle.std.proofs.Common.{◌≡◌, ℕ, ◌+◌, ◌%◌, ◌^◌, ◌≤◌, true, List, [], ◌∷◌, length, Some, Ok, refl, ap, ◌∙◌, arith}
use Rattle.std.specs.Prelude.{◌&&◌, ◌==◌, nat_le}
use Rattle.std.proofs.lemmas.Bool.Decides.{nat_tests}
use Rattle.std.specs.Str.{bytes_eq}
use Rattle.std.proofs.lemmas.Slice.Eq.{bytes_eq-Decides}
use Rattle.pl_base.specs.Bytes.{IsBytes}
use Rattle.pl_base.specs.Windows.{AllIn}
use Rattle.pl_elf.specs.Kinds.{is_program}
use Rattle.pl_object.specs.Reads.{reads}
use Rattle.pl_object.specs.declared.object.Object.{Object}
use Rattle.pl_move.specs.Moves.{table_windows, moved, all_moved, all_back}
use Rattle.pl_move.specs.declared.table.Table.{Table}
use Rattle.pl_move.specs.Objects.{tables_of, LieIn}
use Rattle.pl_move.proofs.MoveLaws.{back_undoes, length-all_moved, length-moved, moved_bytes}
use Rattle.pl_move.proofs.ObjectLaws.{tables_in}
use Rattle.pl_pie.specs.Words.{other_words}
use Rattle.pl_pie.specs.Pie.{typed, as_program, pie}
use Rattle.pl_pie.specs.Fix.{added, taken, word_windows, fixed_bytes, fits, page_of, loosened, checked, unfixed}
use Rattle.pl_pie.specs.Laws.{UnfixUndoes}
use Rattle.pl_pie.proofs.BackAgain.{IsTakenBack, taken_again}
use Rattle.pl_pie.proofs.FitLaws.{is_fit}
use Rattle.pl_pie.proofs.FixedIsRead.{at_place, fixed_is_read}
use Rattle.pl_pie.proofs.ObjectAgain.{whole_pages}
use Rattle.pl_pie.proofs.WordLaws.{typed_bytes, typed_back, taken_back, long_is}
use Rattle.pl_pie.proofs.PieLaws.{IsPie, pie_is, pie_type, not_static, and_both}
use Rattle.pl_pie.proofs.InsideLaws.{words_in}

fits_small : (o : Object) (at : ℕ) → fits o at ≡ true → at ≤ 2 ^ 64
unfolding fits
fits_small o at h = small at o.span (and_both (at % o.align == 0 && nat_le 137438953472 at) (nat_le (at + o.span) 201863462912) h).1
  where
    small : (a s : ℕ) → nat_le (a + s) 201863462912 ≡ true → a ≤ 2 ^ 64
    small a s e = grind (arith, nat_tests)

all_moved_bytes : (w : ℕ) (ts : List Table) (xs : List ℕ) → AllIn (length xs) (table_windows ts) → IsBytes xs → IsBytes (all_moved w ts xs)
unfolding all_moved
all_moved_bytes w [] xs fits b = b
all_moved_bytes w (t ∷ ts) xs fits b = all_moved_bytes w ts (moved w t xs) (rw (length-moved w t xs fits.0) fits.1) (moved_bytes w t xs fits.0 b)

-- what was added is taken, and the type put back
loosened_is : (bytes : List ℕ) (o x : Object) (at : ℕ) → IsBytes bytes → IsPie bytes o → at ≤ 2 ^ 64 → at % 2 ≡ 0 → IsTakenBack at o x → loosened x (fixed_bytes at o bytes) ≡ bytes
unfolding loosened fixed_bytes
loosened_is bytes o x at h is small even again =
    let p : List ℕ = as_program bytes in
    let ws : List ℕ = other_words o in
    let long : 64 ≤ length bytes = long_is 2 bytes is.accepted.head.long in
    let b : IsBytes p = typed_bytes 2 bytes h in
    let lie : LieIn (length p) o = tables_in p o is.accepted (not_static o.kind is.program) in
    let moved : List ℕ = all_moved at (tables_of o) p in
    let len : length moved ≡ length p = length-all_moved at (tables_of o) p lie in
    let inside : AllIn (length moved) (word_windows ws) = rw len (words_in p o is.accepted (not_static o.kind is.program)) in
    ap (λ (n : ℕ). typed 3 (all_back n (tables_of x) (taken n (other_words x) (added at ws moved)))) again.page
    ∙ ap (λ (us : List ℕ). typed 3 (all_back at (tables_of x) (taken at us (added at ws moved)))) again.words
    ∙ ap (λ (ys : List ℕ). typed 3 (all_back at (tables_of x) ys)) (taken_back at ws moved inside (all_moved_bytes at (tables_of o) p lie b) small)
    ∙ ap (typed 3) (again.tables moved)
    ∙ ap (typed 3) (back_undoes at (tables_of o) p lie b (small, even))
    ∙ typed_back 3 2 bytes long h (pie_type bytes o is)

checked_is : (bytes : List ℕ) (o : Object) (at : ℕ) → pie bytes ≡ Some o → fits o at ≡ true → checked at (fixed_bytes at o bytes) bytes ≡ Some bytes
unfolding checked
checked_is bytes o at is fit = rw (is, fit, bytes_same (fixed_bytes at o bytes)) refl
  where
    bytes_same : (xs : List ℕ) → bytes_eq xs xs ≡ true
    bytes_same xs = (bytes_eq-Decides xs xs).1 refl

unfixed_is : (file : List ℕ) (x : Object) → reads file ≡ Ok x → is_program x.kind ≡ true → unfixed file ≡ checked (page_of x) file (loosened x file)
unfolding unfixed
unfixed_is file x read program = rw (read, program) refl

pub unfix_undoes : UnfixUndoes
unfix_undoes bytes o at h is fit =
    let p : IsPie bytes o = pie_is bytes o is in
    let file : List ℕ = fixed_bytes at o bytes in
    let f = is_fit o at fit in
    let stands = at_place bytes o at h is f.may in
    let read = fixed_is_read bytes o at h is f.may in
    let x : Object = read.0 in
    let again : IsTakenBack at o x = taken_again bytes o at stands (omega (arith, f.from)) (whole_pages (as_program bytes) o at p.accepted f.may.aligned) x read.2 in
    unfixed_is file x read.1 again.program
    ∙ ap (λ (n : ℕ). checked n file (loosened x file)) again.page
    ∙ ap (checked at file) (loosened_is bytes o x at h p (fits_small o at fit) stands.even again)
    ∙ checked_is bytes o at is fit
