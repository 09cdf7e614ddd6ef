-- What fixing a program leaves as it is: where its bytes of memory stand in the file, and what of it moves.
use Rattle.std.specs.Prelude.{◌≡◌, ℕ, ◌+◌, ◌≤◌, ◌<◌, ◌^◌, Bool, true, false, ◌==◌, List, map}
use Rattle.std.specs.List.{All}
use Rattle.pl_base.specs.Sums.{plus}
use Rattle.pl_base.specs.Windows.{Window}
use Rattle.pl_elf.specs.Headers.{is_load, is_moved_kind}
use Rattle.pl_elf.specs.declared.constants.TheConstants.{ADDRESS_LIMIT}
use Rattle.pl_elf.specs.declared.segment.Segment.{Segment}
use Rattle.pl_sym.specs.Definers.{is_definer}
use Rattle.pl_sym.specs.declared.class.Class.{Class}
use Rattle.pl_sym.specs.declared.symbol.Symbol.{Symbol}
use Rattle.pl_object.specs.FilePart.{file_window}
use Rattle.pl_object.specs.declared.object.Object.{Object}
use Rattle.pl_object.specs.declared.reloc.Reloc.{Reloc}
use Rattle.pl_value.specs.Copies.{is_outside}
use Rattle.law_fixed.specs.Fixed.{moves, fixed_symbol, fixed_reloc, fixed_segment, fixed, KeepsItsKind}

-- ---- windows

abbrev pub moved_window : ℕ → Window → Window
moved_window at w = record { at = plus w.at at; size = w.size }

-- a PT_LOAD that stands at the address: it ends within the limit of addresses there
pub record Stands (at : ℕ) (s : Segment) : Type 0 where
  pub file : is_load s ≡ true → s.filesz ≤ s.memsz
  pub ends : is_load s ≡ true → at + (s.vaddr + s.memsz) ≤ ADDRESS_LIMIT

-- a window of memory, moved, stands in the same bytes of the file, where it stands in any
abbrev pub WindowsStay : Type 0
WindowsStay = (at : ℕ) (ss : List Segment) (w : Window) → All (Stands at) ss → w.at < 2 ^ 64 → file_window (map (fixed_segment at) ss) (moved_window at w) ≡ file_window ss w

-- what would be copied from the program's own memory is inside or outside as it was
abbrev pub OutsideStays : Type 0
OutsideStays = (at : ℕ) (ss : List Segment) (from size : ℕ) → All (Stands at) ss → from < 2 ^ 64 → is_outside (map (fixed_segment at) ss) (plus from at) size ≡ is_outside ss from size

-- ---- what moves

-- what moves is not told by what is moved
pub record MovesStay : Type 0 where
  pub symbols : (at : ℕ) (s : Symbol) → KeepsItsKind at s → moves (fixed_symbol at s) ≡ moves s
  pub definers : (at : ℕ) (s : Symbol) → KeepsItsKind at s → (c : Class) (program : Bool) → is_definer (fixed_symbol at s) c program ≡ is_definer s c program
  pub segments : (at : ℕ) (s : Segment) → is_moved_kind (fixed_segment at s).kind ≡ is_moved_kind s.kind
  pub relocations : (at : ℕ) (r : Reloc) → (fixed_reloc at r).kind ≡ r.kind
  pub entry : (at : ℕ) (o : Object) → 0 < at → at < ADDRESS_LIMIT → o.entry < ADDRESS_LIMIT → ((fixed at o).entry == 0) ≡ (o.entry == 0)

-- ---- why values and the entry are to be below the limit of addresses, and the first PT_LOAD in page 0: else two programs are fixed alike

pub record TwoAreFixedAlike : Type 0 where
  pub undefined : (s : Symbol) × (t : Symbol) × (fixed_symbol 0x2000000000 s ≡ fixed_symbol 0x2000000000 t) × ((s.value == t.value) ≡ false)
  pub entry : (o : Object) × (p : Object) × (fixed 0x2000000000 o ≡ fixed 0x2000000000 p) × ((o.entry == p.entry) ≡ false)
  pub page : (s : Segment) × (t : Segment) × (fixed_segment 0x2000001000 s ≡ fixed_segment 0x2000000000 t) × ((s.vaddr == t.vaddr) ≡ false)
