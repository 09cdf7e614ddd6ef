-- The relocations, the packed table and the symbols that are read of a fixed file.
use Rattle.std.proofs.Common.{◌≡◌, ℕ, ◌*◌, ◌/◌, ◌%◌, ◌<◌, Bool, false, List, length, map, Option, Ok, sym, ap, ◌∙◌, arith}
use Rattle.std.specs.Prelude.{slice_get}
use Rattle.pl_base.specs.Bytes.{IsBytes, part}
use Rattle.pl_base.specs.Windows.{Window, within, IsIn}
use Rattle.pl_base.proofs.WindowLaws.{length-within, length-part}
use Rattle.pl_base.proofs.WordLaws.{is_bytes_part}
use Rattle.pl_elf.specs.Kinds.{is_static}
use Rattle.pl_object.specs.Accepted.{Accepted, tags_of}
use Rattle.pl_object.specs.Named.{symbols_of, rela_of, jmprel_of, packed_of}
use Rattle.pl_object.specs.Names.{versioned}
use Rattle.pl_object.specs.Relocations.{relocs}
use Rattle.pl_object.specs.declared.object.Object.{Object}
use Rattle.pl_move.specs.Moves.{rows, row_moved}
use Rattle.pl_move.specs.declared.kind.RowKind.TheVariants.{RelocationPlace, RelativeAddend}
use Rattle.pl_move.proofs.MoveLaws.{length-row_moved, length-rows}
use Rattle.pl_move.proofs.ObjectLaws.{window_in}
use Rattle.pl_relr.specs.Moved as relr
use Rattle.pl_sym.specs.Table.{symbols}
use Rattle.pl_sym.specs.declared.symbol.Symbol.{Symbol}
use Rattle.pl_ver.specs.declared.versions.Versions.{Versions}
use Rattle.law_fixed.specs.Fixed.{fixed_symbol, fixed_reloc}
use Rattle.pl_pie.specs.Words.{passes, is_address}
use Rattle.pl_pie.proofs.InsideLaws.{symbols_size}
use Rattle.pl_pie.proofs.ContentLaws.{row_at}
use Rattle.pl_pie.proofs.OwnLaws.{are_sized}
use Rattle.pl_pie.proofs.RebasedLaws.{rebased, rebased_length, rebased_rela, rebased_jmprel, rebased_packed, rebased_symbol}
use Rattle.pl_pie.proofs.SymbolLaws.{relocs_moved, symbols_moved, versions_told}
use Rattle.pl_pie.proofs.PackedLaws.{rows_packed}

module _ (at : ℕ) (p : List ℕ) (o : Object) (is : Accepted p o) (other : is_static o.kind ≡ false) (bytes : IsBytes p) where
  abbrev file : List ℕ
  file = rebased at o p

  same_size : (v : Window) → IsIn (length p) v → length (within v file) ≡ length (within v p)
  same_size v inside =
      let size = rebased_length at p o is other in
      length-within v file (omega (arith, size, inside)) ∙ sym (length-within v p inside)

  -- ---- relocations

  rows_of_relocs : (ss : List Symbol) (v : Window) → IsIn (length p) v → v.size % 24 ≡ 0
      → within v file ≡ rows 24 (row_moved at RelativeAddend) (v.size / 24) (rows 24 (row_moved at RelocationPlace) (v.size / 24) (within v p))
      → relocs (map (fixed_symbol at) ss) (within v file) ≡ map (fixed_reloc at) (relocs ss (within v p))
  rows_of_relocs ss v inside whole turned =
      let old : List ℕ = within v p in
      let n : ℕ = v.size / 24 in
      let len : length old ≡ v.size = length-within v p inside in
      let mid : List ℕ = rows 24 (row_moved at RelocationPlace) n old in
      let len_mid : length mid ≡ length old = length-rows 24 (row_moved at RelocationPlace) n old (length-row_moved at RelocationPlace) (omega (arith, len, whole)) in
      relocs_moved at ss old (within v file) (same_size v inside) (is_bytes_part v.at v.size p bytes) (λ i lt.
      let few : i < n = omega (arith, lt, len) in (
        length-part (24 * i) 24 old (omega (arith, lt, len, whole)),
        ap (part (24 * i) 24) turned ∙ row_at 24 (row_moved at RelativeAddend) n i mid (length-row_moved at RelativeAddend) (omega (arith, len, len_mid, whole)) few
            ∙ ap (row_moved at RelativeAddend) (row_at 24 (row_moved at RelocationPlace) n i old (length-row_moved at RelocationPlace) (omega (arith, len, whole)) few),
      ))

  pub rela_read : (ss : List Symbol) → relocs (map (fixed_symbol at) ss) (within (rela_of o) file) ≡ map (fixed_reloc at) (relocs ss (within (rela_of o) p))
  rela_read ss = rows_of_relocs ss (rela_of o) (window_in p o (tags_of p o) _ (rela_of o) (is.tabled other) (is.tabled other).named.rela) (are_sized p o is other).rela (rebased_rela at p o is other)

  pub jmprel_read : (ss : List Symbol) → relocs (map (fixed_symbol at) ss) (within (jmprel_of o) file) ≡ map (fixed_reloc at) (relocs ss (within (jmprel_of o) p))
  jmprel_read ss = rows_of_relocs ss (jmprel_of o) (window_in p o (tags_of p o) _ (jmprel_of o) (is.tabled other) (is.tabled other).named.jmprel) (are_sized p o is other).jmprel (rebased_jmprel at p o is other)

  -- ---- the packed table

  packed_in : IsIn (length p) (packed_of o)
  packed_in = window_in p o (tags_of p o) _ (packed_of o) (is.tabled other) (is.tabled other).named.packed

  pub packed_read : within (packed_of o) file ≡ relr.moved at (within (packed_of o) p)
  packed_read =
      let whole = (are_sized p o is other).packed in
      rebased_packed at p o is other ∙ rows_packed at ((packed_of o).size / 8) (within (packed_of o) p) (omega (arith, whole, length-within (packed_of o) p packed_in)) (is_bytes_part (packed_of o).at (packed_of o).size p bytes)

  pub packed_length : length (within (packed_of o) file) ≡ length (within (packed_of o) p)
  packed_length = same_size (packed_of o) packed_in

  -- ---- the symbols

  pub symbols_read : (strings : List ℕ) (bare : List Symbol) (known : Option Versions) → o.symbols ≡ versioned bare known → symbols (within (symbols_of o) p) strings ≡ Ok bare → symbols (within (symbols_of o) file) strings ≡ Ok (map (fixed_symbol at) bare)
  symbols_read strings bare known same e =
      let v : Window = symbols_of o in
      let inside : IsIn (length p) v = window_in p o (tags_of p o) _ v (is.tabled other) (is.tabled other).named.symbols in
      let size = symbols_size p o is other in
      let len = length-within v p inside in
      let q : ℕ → Bool = λ i. passes is_address (slice_get o.symbols i) in
      symbols_moved at (within v p) (within v file) strings q bare (same_size v inside) (omega (arith, len, size)) (is_bytes_part v.at v.size p bytes)
      (λ i lt. rebased_symbol at p o is other i (omega (arith, lt, len, size)))
      (λ i y there. sym (ap (λ (xs : List Symbol). passes is_address (slice_get xs i)) same ∙ versions_told bare known i ∙ ap (passes is_address) there)) e
