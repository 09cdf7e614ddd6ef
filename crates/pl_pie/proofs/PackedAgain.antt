-- The packed table of a fixed file names the program's places, moved.
use Rattle.std.proofs.Common.{◌≡◌, ℕ, ◌/◌, Bool, true, false, List, length, map, Result, Ok, refl, sym, ap, ◌∙◌}
use Rattle.std.specs.Prelude.{◌||◌, not}
use Rattle.std.specs.Result.{is_ok}
use Rattle.std.proofs.lemmas.Bool.{or_parts, true≢false}
use Rattle.pl_base.specs.Sums.{plus}
use Rattle.pl_base.specs.Windows.{Window, within}
use Rattle.pl_base.proofs.WordLaws.{is_bytes_part}
use Rattle.pl_elf.specs.declared.segment.Segment.{Segment}
use Rattle.pl_dyn.specs.declared.tags.Tag.{Tag}
use Rattle.pl_relr.specs.Moved as relr
use Rattle.pl_relr.specs.Places.{places, unpacked}
use Rattle.pl_relr.specs.declared.fault.RelrFault.{RelrFault}
use Rattle.pl_object.specs.FilePart.{file_window, loaded}
use Rattle.pl_object.specs.Named.{packed_of}
use Rattle.pl_object.specs.Reads.{named_places, packed_places}
use Rattle.pl_object.specs.TableClauses.{bad_packed, bad_relr_table, bad_relr_tags, misplaced_relr, relr_table}
use Rattle.pl_object.specs.Tables.{relr_memory}
use Rattle.pl_object.specs.declared.object.Object.{Object}
use Rattle.pl_object.proofs.TabledLaws.{ArePassed, packed_is, tables_pass}
use Rattle.law_fixed.specs.Fixed.{fixed_segment}
use Rattle.pl_pie.specs.Pie.{as_program}
use Rattle.pl_pie.proofs.AlikeLaws.{packed_alike}
use Rattle.pl_pie.proofs.AtLaws.{IsAt, file_at, new_tags, old_tags}
use Rattle.pl_pie.proofs.MemoryLaws.{alike_within}
use Rattle.pl_pie.proofs.PackedLaws.{unpacked_moved}
use Rattle.pl_pie.proofs.RebasedLaws.{rebased_length}
use Rattle.pl_pie.proofs.TablesRead.{packed_length, packed_read}

module _ (bytes : List ℕ) (o : Object) (at : ℕ) (is : IsAt bytes o at) where
  abbrev p : List ℕ
  p = as_program bytes

  abbrev file : List ℕ
  file = file_at at o bytes

  abbrev ss : List Segment
  ss = o.segments

  abbrev ts : List Tag
  ts = old_tags bytes o

  abbrev moved_tags : List Tag
  moved_tags = new_tags at bytes o

  abbrev fixed_segments : List Segment
  fixed_segments = map (fixed_segment at) o.segments

  named : packed_of o ≡ file_window ss (relr_memory ts)
  named = (is.pie.accepted.tabled is.other).named.packed

  old_there : relr_table p ss ts ≡ within (packed_of o) p
  unfolding loaded
  old_there = ap (λ (w : Window). within w p) (sym named)

  new_there : relr_table file fixed_segments moved_tags ≡ within (packed_of o) file
  unfolding loaded
  new_there = alike_within (file_window fixed_segments (relr_memory moved_tags)) (file_window ss (relr_memory ts)) file (packed_alike bytes o at is) ∙ ap (λ (w : Window). within w file) (sym named)

  table_moved : relr_table file fixed_segments moved_tags ≡ relr.moved at (relr_table p ss ts)
  table_moved = new_there ∙ packed_read at p o is.pie.accepted is.other is.are_bytes ∙ ap (relr.moved at) (sym old_there)

  same_length : length (relr_table file fixed_segments moved_tags) ≡ length (relr_table p ss ts)
  same_length = ap length new_there ∙ packed_length at p o is.pie.accepted is.other is.are_bytes ∙ ap length (sym old_there)

  pub passed : ArePassed p o.header ss o.sections ts
  passed = tables_pass p o.header ss o.sections ts tt is.tables

  true_of : (b : Bool) → not b ≡ false → b ≡ true
  true_of true h = refl
  true_of false h = absurd (true≢false h)

  old_ok : is_ok (unpacked (relr_table p ss ts) (length p / 8)) ≡ true
  unfolding bad_packed bad_relr_table
  old_ok = true_of _ (or_parts (bad_relr_tags ts || misplaced_relr o.header ss o.sections ts) (bad_relr_table p ss ts) passed.packed).1

  pub unpacked_again : unpacked (relr_table file fixed_segments moved_tags) (length file / 8) ≡ Ok (map (λ place. plus place at) (places (relr_table p ss ts)))
  unfolding loaded
  unpacked_again =
      ap (λ (n : ℕ). unpacked (relr_table file fixed_segments moved_tags) (n / 8)) (rebased_length at p o is.pie.accepted is.other)
      ∙ unpacked_moved at (length p / 8) (relr_table p ss ts) (relr_table file fixed_segments moved_tags) is.even (is_bytes_part _ _ p is.are_bytes) table_moved same_length old_ok

  -- the places
  pub packed_again : packed_places file fixed_segments moved_tags ≡ map (λ place. plus place at) (packed_places p ss ts)
  unfolding packed_places
  packed_again = ap named_places unpacked_again ∙ ap (map (λ place. plus place at)) (sym (packed_is p o.header ss o.sections ts passed.packed).places)

  -- clause 14 of the table
  pub table_fine : bad_relr_table file fixed_segments moved_tags ≡ false
  unfolding bad_relr_table
  table_fine = ap (λ (r : Result (List ℕ) RelrFault). not (is_ok r)) unpacked_again
