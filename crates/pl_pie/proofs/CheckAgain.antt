-- Acceptance clauses 20 to 31 take a fixed file as they take the program.
use Rattle.std.proofs.Common.{◌≡◌, ℕ, ◌≤◌, Bool, true, false, List, [], ◌∷◌, length, map, get_or, Result, Ok, refl, ap, subst, ◌∙◌, arith, inl}
use Rattle.std.specs.Prelude.{◌||◌, ◌==◌}
use Rattle.std.specs.List.{All}
use Rattle.std.specs.Result.{is_ok}
use Rattle.std.proofs.lemmas.Bool.{eqb-true, or_from, or_parts}
use Rattle.std.proofs.lemmas.List.{length-map}
use Rattle.pl_base.specs.Windows.{Window}
use Rattle.pl_base.proofs.AnswerLaws.{bind_ok, refuse_next, refuse_none}
use Rattle.pl_dyn.specs.declared.tags.Tag.{Tag}
use Rattle.pl_elf.specs.declared.constants.TheConstants.{ADDRESS_LIMIT, ET_EXEC}
use Rattle.pl_elf.specs.declared.header.Header.{Header}
use Rattle.pl_elf.specs.declared.segment.Segment.{Segment}
use Rattle.pl_object.specs.Named.{range_window}
use Rattle.pl_object.specs.PlaceClauses.{check_relocs, misplaced_copy, reloc_in_tables}
use Rattle.pl_object.specs.Reads.{check, check_rest, is_pie, too_large}
use Rattle.pl_object.specs.SymbolClauses.{check_symbols, has_ifunc}
use Rattle.pl_object.specs.Tables.{link_windows, sections_window}
use Rattle.pl_object.specs.declared.headers.Headers.{Headers}
use Rattle.pl_object.specs.declared.layout.Layout.{Layout}
use Rattle.pl_object.specs.declared.linking.Linking.{Linking}
use Rattle.pl_object.specs.declared.object.Object.{Object}
use Rattle.pl_object.specs.declared.reloc.Reloc.{Reloc}
use Rattle.pl_object.specs.declared.refusal.Refusal.{Refusal}
use Rattle.pl_object.specs.declared.refusal.Refusal.TheVariants.{Clause}
use Rattle.pl_object.proofs.TabledLaws.{windows_back}
use Rattle.pl_sym.specs.declared.symbol.Symbol.{Symbol}
use Rattle.law_fixed.specs.Fixed.{KeepsItsKind, fixed, fixed_header, fixed_reloc, fixed_section, fixed_segment, fixed_symbol}
use Rattle.pl_pie.specs.Pie.{as_program}
use Rattle.pl_pie.proofs.AlikeLaws.{AllAlike, links_alike}
use Rattle.pl_pie.proofs.AtLaws.{IsAt, file_at, headers_of, layout_of, linking_of, new_tags, old_tags}
use Rattle.pl_pie.proofs.HeadAgain.{type_is}
use Rattle.pl_pie.proofs.LowLaws.{none_wide, relocs_low}
use Rattle.pl_pie.proofs.MovableLaws.{movable}
use Rattle.pl_pie.proofs.PlacesAgain.{AreTaken, IsFair, copies_kept, relocs_pass}
use Rattle.pl_pie.proofs.RebasedLaws.{rebased_length}
use Rattle.pl_pie.proofs.SymbolsAgain.{ifuncs_kept, symbols_pass}

-- ---- 28 to 31

not_pie : (h : Header) (ss : List Segment) (ts : List Tag) → (h.kind == ET_EXEC) ≡ true → is_pie h ss ts ≡ false
unfolding is_pie
not_pie h ss ts program = let kind : h.kind ≡ 2 = eqb-true h.kind 2 program in rw kind refl

same_large : (xs ys : List ℕ) → length ys ≡ length xs → too_large ys ≡ too_large xs
unfolding too_large
same_large xs ys size = rw size refl

-- what is known of relocations and symbols where clauses 28 to 30 take them
record AreLeft (xs : List ℕ) (program : Bool) (symbols : List Symbol) (rs : List Reloc) : Type 0 where
  ifunc : has_ifunc symbols ≡ false
  copies : misplaced_copy program rs ≡ false
  small : too_large xs ≡ false

left : (xs : List ℕ) (h : Header) (ss : List Segment) (ts : List Tag) (symbols : List Symbol) (rs : List Reloc) (u : Unit {0}) → check_rest xs h ss ts symbols rs ≡ Ok u → AreLeft xs (h.kind == ET_EXEC) symbols rs
unfolding check_rest
left xs h ss ts symbols rs u e =
    let none = refuse_none ((has_ifunc symbols, Clause 28 0) ∷ (misplaced_copy (h.kind == ET_EXEC) rs, Clause 29 0) ∷ (too_large xs, Clause 30 0) ∷ (is_pie h ss ts, Clause 31 0) ∷ []) (Ok tt) (ap (λ (r : Result (Unit {0}) Refusal). is_ok r) e) in
    let a = or_parts (has_ifunc symbols) (misplaced_copy (h.kind == ET_EXEC) rs || (too_large xs || (is_pie h ss ts || false))) none in
    let b = or_parts (misplaced_copy (h.kind == ET_EXEC) rs) (too_large xs || (is_pie h ss ts || false)) a.1 in
    let c = or_parts (too_large xs) (is_pie h ss ts || false) b.1 in
    record { ifunc = a.0; copies = b.0; small = c.0 }

rest_passes : (xs : List ℕ) (h : Header) (ss : List Segment) (ts : List Tag) (symbols : List Symbol) (rs : List Reloc) → (h.kind == ET_EXEC) ≡ true → AreLeft xs (h.kind == ET_EXEC) symbols rs → check_rest xs h ss ts symbols rs ≡ Ok tt
unfolding check_rest
rest_passes xs h ss ts symbols rs program is =
    refuse_next ((has_ifunc symbols, Clause 28 0) ∷ (misplaced_copy (h.kind == ET_EXEC) rs, Clause 29 0) ∷ (too_large xs, Clause 30 0) ∷ (is_pie h ss ts, Clause 31 0) ∷ []) (Ok tt)
    (or_from _ _ is.ifunc (or_from _ _ is.copies (or_from _ _ is.small (or_from _ _ (not_pie h ss ts program) refl))))

-- ---- all of them

record AreChecked (xs : List ℕ) (f : Headers) (ts : List Tag) (l : Linking) (places : Layout) : Type 0 where
  symbols : (u : Unit {0}) × (check_symbols (f.header.kind == ET_EXEC) f.segments places.hashes l.versions l.symbols ≡ Ok u)
  relocs : (u : Unit {0}) × (check_relocs (f.header.kind == ET_EXEC) f.segments (sections_window f.header ∷ places.windows) (length l.symbols) places.packed places.relocations ≡ Ok u)
  rest : check_rest xs f.header f.segments ts l.symbols places.relocations ≡ Ok tt

checked_are : (xs : List ℕ) (f : Headers) (ts : List Tag) (l : Linking) (places : Layout) → check xs f ts l places ≡ Ok tt → AreChecked xs f ts l places
unfolding check
checked_are xs f ts l places e =
    let s = bind_ok (check_symbols (f.header.kind == ET_EXEC) f.segments places.hashes l.versions l.symbols) _ tt e in
    let r = bind_ok (check_relocs (f.header.kind == ET_EXEC) f.segments (sections_window f.header ∷ places.windows) (length l.symbols) places.packed places.relocations) _ tt s.2 in
    record { symbols = (s.0, s.1); relocs = (r.0, r.1); rest = r.2 }

check_from : (xs : List ℕ) (f : Headers) (ts : List Tag) (l : Linking) (places : Layout) → (f.header.kind == ET_EXEC) ≡ true → check_symbols true f.segments places.hashes l.versions l.symbols ≡ Ok tt
    → check_relocs true f.segments (sections_window f.header ∷ places.windows) (length l.symbols) places.packed places.relocations ≡ Ok tt → check_rest xs f.header f.segments ts l.symbols places.relocations ≡ Ok tt → check xs f ts l places ≡ Ok tt
unfolding check
check_from xs f ts l places program a b c = rw (program, a, b) c

module _ (bytes : List ℕ) (o : Object) (at : ℕ) (is : IsAt bytes o at) where
  abbrev p : List ℕ
  p = as_program bytes

  abbrev ts : List Tag
  ts = old_tags bytes o

  abbrev rs : List Reloc
  rs = o.relocations

  program : (o.header.kind == ET_EXEC) ≡ true
  program = type_is p o is.pie.read is.pie.program

  fixed_program : ((fixed_header at o.header).kind == ET_EXEC) ≡ true
  unfolding fixed_header
  fixed_program = program

  low : at ≤ ADDRESS_LIMIT
  low = omega (arith, is.ends)

  keeps : All (KeepsItsKind at) o.symbols
  keeps = (movable bytes o at is.pie low).symbols

  checked : AreChecked p (headers_of o) ts (linking_of o) (layout_of ts o)
  checked = checked_are p (headers_of o) ts (linking_of o) (layout_of ts o) is.checks

  symbols_again : check_symbols true (map (fixed_segment at) o.segments) o.hashes o.versions (map (fixed_symbol at) o.symbols) ≡ Ok tt
  symbols_again = symbols_pass at o.segments (map (fixed_segment at) o.segments) o.hashes o.versions o.symbols checked.symbols.0 keeps (rw program at checked.symbols.1)

  fair : All IsFair rs
  fair k d lt = (none_wide o.symbols (get_or rs k d) (is.pie.accepted.widths k d lt), relocs_low p o is.pie.accepted is.other is.are_bytes k d lt)

  tables_are : map range_window o.tables ≡ link_windows o.header o.segments o.sections ts
  tables_are = ap (map range_window) (is.pie.accepted.tabled is.other).shape ∙ windows_back (link_windows o.header o.segments o.sections ts)

  taken : AreTaken o.segments (sections_window o.header ∷ link_windows o.header o.segments o.sections ts) (length o.symbols) o.packed rs
  taken =
      let a = is.pie.accepted in
      record {
        fair = fair;
        known = a.relocs;
        held = rw program at a.held;
        packed_held = a.packed_held;
        apart = a.apart;
        clear = subst (λ (ws : List Window). reloc_in_tables (sections_window o.header ∷ ws) o.segments rs ≡ false) tables_are a.clear;
        plain = a.plain;
      }

  alike : AllAlike (sections_window (fixed_header at o.header) ∷ link_windows (fixed_header at o.header) (map (fixed_segment at) o.segments) (map (fixed_section at) o.sections) (new_tags at bytes o)) (sections_window o.header ∷ link_windows o.header o.segments o.sections ts)
  unfolding fixed_header
  alike = (inl refl, links_alike bytes o at is)

  relocs_again : check_relocs true (map (fixed_segment at) o.segments) (sections_window (fixed_header at o.header) ∷ link_windows (fixed_header at o.header) (map (fixed_segment at) o.segments) (map (fixed_section at) o.sections) (new_tags at bytes o)) (length (map (fixed_symbol at) o.symbols)) o.packed (map (fixed_reloc at) rs) ≡ Ok tt
  relocs_again =
      let new : List Window = sections_window (fixed_header at o.header) ∷ link_windows (fixed_header at o.header) (map (fixed_segment at) o.segments) (map (fixed_section at) o.sections) (new_tags at bytes o) in
      ap (λ (n : ℕ). check_relocs true (map (fixed_segment at) o.segments) new n o.packed (map (fixed_reloc at) rs)) (length-map o.symbols (fixed_symbol at))
      ∙ relocs_pass at o.segments is.stands new (sections_window o.header ∷ link_windows o.header o.segments o.sections ts) (length o.symbols) o.packed rs alike taken

  rest_again : check_rest (file_at at o bytes) (fixed_header at o.header) (map (fixed_segment at) o.segments) (new_tags at bytes o) (map (fixed_symbol at) o.symbols) (map (fixed_reloc at) rs) ≡ Ok tt
  unfolding fixed_header
  rest_again =
      let old = left p o.header o.segments ts o.symbols rs tt checked.rest in
      rest_passes (file_at at o bytes) (fixed_header at o.header) (map (fixed_segment at) o.segments) (new_tags at bytes o) (map (fixed_symbol at) o.symbols) (map (fixed_reloc at) rs) program
      (record {
        ifunc = ifuncs_kept at o.symbols ∙ old.ifunc;
        copies = copies_kept at o.segments is.stands (o.header.kind == ET_EXEC) rs ∙ old.copies;
        small = same_large p (file_at at o bytes) (rebased_length at p o is.pie.accepted is.other) ∙ old.small;
      })

pub check_again : (bytes : List ℕ) (o : Object) (at : ℕ) → IsAt bytes o at
    → check (file_at at o bytes) (headers_of (fixed at o)) (new_tags at bytes o) (linking_of (fixed at o)) (layout_of (new_tags at bytes o) (fixed at o)) ≡ Ok tt
unfolding fixed
check_again bytes o at is =
    check_from (file_at at o bytes) (headers_of (fixed at o)) (new_tags at bytes o) (linking_of (fixed at o)) (layout_of (new_tags at bytes o) (fixed at o)) (fixed_program bytes o at is)
    (symbols_again bytes o at is) (relocs_again bytes o at is) (rest_again bytes o at is)
