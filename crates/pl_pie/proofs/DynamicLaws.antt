-- The dynamic table of a fixed file is read as the program's, with the values of address tags moved.
use Rattle.std.proofs.Common.{◌≡◌, ℕ, ◌+◌, ◌*◌, ◌/◌, ◌^◌, ◌<◌, ◌≤◌, true, false, List, length, map, Ok, sym, ap, ◌∙◌, arith}
use Rattle.std.specs.List.{All}
use Rattle.pl_base.specs.Bytes.{part}
use Rattle.pl_base.specs.Windows.{Window, within, IsIn}
use Rattle.pl_base.proofs.WindowLaws.{length-within, length-part}
use Rattle.pl_dyn.specs.Entries.{entries}
use Rattle.pl_dyn.specs.Read.{read}
use Rattle.pl_dyn.specs.declared.dynamic.Dynamic.{Dynamic}
use Rattle.pl_elf.specs.Kinds.{is_static}
use Rattle.pl_object.specs.Accepted.{Accepted, tags_of}
use Rattle.pl_object.specs.FilePart.{file_window, in_file_part, loaded}
use Rattle.pl_object.specs.Named.{dynamic_of}
use Rattle.pl_object.specs.Reads.{dynamic}
use Rattle.pl_object.specs.Tables.{dynamic_memory}
use Rattle.pl_object.specs.declared.object.Object.{Object}
use Rattle.pl_move.specs.Moves.{row_moved}
use Rattle.pl_move.specs.declared.kind.RowKind.TheVariants.{TagValue}
use Rattle.pl_move.proofs.MoveLaws.{length-row_moved}
use Rattle.pl_move.proofs.ObjectLaws.{window_in}
use Rattle.law_fixed.specs.Fixed.{fixed_segment}
use Rattle.law_fixed.specs.Stays.{Stands}
use Rattle.pl_pie.proofs.ContentLaws.{row_at}
use Rattle.pl_pie.proofs.OwnLaws.{are_sized}
use Rattle.pl_pie.proofs.RowOfLaws.{moved_tag, entries_moved}
use Rattle.pl_pie.proofs.RebasedLaws.{rebased, rebased_length, rebased_dynamic}
use Rattle.pl_pie.proofs.TagLaws.{moved_dynamic, read_moved}
use Rattle.pl_pie.proofs.MemoryLaws.{dynamic_memory_moves, window_stays, held_stays}

module _ (at : ℕ) (p : List ℕ) (o : Object) (is : Accepted p o) (other : is_static o.kind ≡ false) (stands : All (Stands at) o.segments) (low : (dynamic_memory o.segments).at < 2 ^ 64) where
  abbrev old : List ℕ
  old = within (dynamic_of o) p

  abbrev new : List ℕ
  new = within (dynamic_of o) (rebased at o p)

  inside : IsIn (length p) (dynamic_of o)
  inside = window_in p o (tags_of p o) _ (dynamic_of o) (is.tabled other) (is.tabled other).named.dynamic

  old_length : length old ≡ (dynamic_of o).size
  old_length = length-within (dynamic_of o) p inside

  new_length : length new ≡ length old
  new_length =
      let size = rebased_length at p o is other in
      length-within (dynamic_of o) (rebased at o p) (omega (arith, size, inside)) ∙ sym old_length

  row_in : (i : ℕ) → i < length old / 16 → 16 * i + 16 ≤ length old
  row_in i lt = let whole = (are_sized p o is other).dynamic in omega (arith, lt, whole, old_length)

  entries_are : entries new ≡ map (moved_tag at) (entries old)
  entries_are =
      let n : ℕ = (dynamic_of o).size / 16 in
      let same : length old / 16 ≡ n = ap (λ (k : ℕ). k / 16) old_length in
      let whole = (are_sized p o is other).dynamic in
      entries_moved at old new new_length
      (λ i lt. ap (part (16 * i) 16) (rebased_dynamic at p o is other) ∙ row_at 16 (row_moved at TagValue) n i old (length-row_moved at TagValue) (omega (arith, whole, old_length)) (omega (arith, lt, same)))
      (λ i lt. length-part (16 * i) 16 old (row_in i lt))

  -- the table of the file, by the segments that moved
  table_there : loaded (rebased at o p) (map (fixed_segment at) o.segments) (dynamic_memory (map (fixed_segment at) o.segments)) ≡ new
  unfolding loaded
  table_there =
      let t = is.tabled other in
      ap (λ (m : Window). within (file_window (map (fixed_segment at) o.segments) m) (rebased at o p)) (dynamic_memory_moves at o.segments t.whole.dynamic)
      ∙ ap (λ (w : Window). within w (rebased at o p)) (window_stays at o.segments stands (dynamic_memory o.segments) low ∙ sym t.named.dynamic)

  held_there : in_file_part (map (fixed_segment at) o.segments) (dynamic_memory (map (fixed_segment at) o.segments)) ≡ true
  held_there =
      let t = is.tabled other in
      ap (in_file_part (map (fixed_segment at) o.segments)) (dynamic_memory_moves at o.segments t.whole.dynamic) ∙ held_stays at o.segments stands (dynamic_memory o.segments) low ∙ t.whole.dynamic_in

  old_there : loaded p o.segments (dynamic_memory o.segments) ≡ old
  unfolding loaded
  old_there = ap (λ (w : Window). within w p) (sym (is.tabled other).named.dynamic)

  pub dynamic_read : (d : Dynamic) → dynamic p o.segments ≡ Ok d → dynamic (rebased at o p) (map (fixed_segment at) o.segments) ≡ Ok (moved_dynamic at d)
  unfolding dynamic
  dynamic_read d e =
      let whole : read old ≡ Ok d = ap read (sym old_there) ∙ (rw (is.tabled other).whole.dynamic_in at e) in
      rw (held_there, table_there) (read_moved at old new d new_length entries_are whole)
