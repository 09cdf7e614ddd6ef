-- What refuses a file is always an acceptance clause: the definition of an object means a want of memory of no file.
use Rattle.std.proofs.Common.{◌≡◌, refl, rules, ℕ, false, List, Option, Some, None}
use Rattle.pl_base.specs.Answers.{NeverMemory}
use Rattle.pl_base.proofs.TellsLaws.{ok_tells, err_tells, unless_tells, found_tells, either_tells, then_tells, because_tells, cause_tells, each_tells}
use Rattle.pl_elf.specs.Clauses as elf
use Rattle.pl_elf.specs.declared.segment.Segment.{Segment}
use Rattle.pl_elf.specs.declared.section.Section.{Section}
use Rattle.pl_elf.specs.declared.fault.HeaderFault.{HeaderFault}
use Rattle.pl_elf.specs.declared.fault.HeaderFault.TheVariants as header_fault
use Rattle.pl_dyn.specs.Read as dyn
use Rattle.pl_dyn.specs.declared.tags.Tag.{Tag}
use Rattle.pl_dyn.specs.declared.dynamic.Dynamic.{Dynamic}
use Rattle.pl_dyn.specs.declared.fault.DynFault.{DynFault}
use Rattle.pl_dyn.specs.declared.fault.DynFault.TheVariants as dyn_fault
use Rattle.pl_sym.specs.Table as sym
use Rattle.pl_sym.specs.declared.symbol.Symbol.{Symbol}
use Rattle.pl_sym.specs.declared.fault.SymFault.{SymFault}
use Rattle.pl_sym.specs.declared.fault.SymFault.TheVariants as sym_fault
use Rattle.pl_ver.specs.Versions as ver
use Rattle.pl_ver.specs.declared.fault.VerFault.{VerFault}
use Rattle.pl_ver.specs.declared.fault.VerFault.TheVariants as ver_fault
use Rattle.pl_object.specs.Refusals.{is_memory, of_header, of_dynamic, of_symbols, of_versions}
use Rattle.pl_object.specs.TableClauses.{check_tables}
use Rattle.pl_object.specs.Names as names
use Rattle.pl_object.specs.SymbolClauses.{check_symbols}
use Rattle.pl_object.specs.PlaceClauses.{check_places, check_relocs}
use Rattle.pl_object.specs.Reads.{dynamic, check_rest, linking, check, checked, dynamic_object, static_program, parts, headers, layout, reads}
use Rattle.pl_object.specs.declared.headers.Headers.{Headers}
use Rattle.pl_object.specs.declared.linking.Linking.{Linking}
use Rattle.pl_object.specs.declared.layout.Layout.{Layout}

-- ---- the parts' faults

of_header_tells : (e : HeaderFault) → is_memory (of_header e) ≡ false
of_header_tells header_fault.NotElf = refl
of_header_tells header_fault.Class = refl
of_header_tells header_fault.Machine = refl
of_header_tells header_fault.Kind = refl
of_header_tells header_fault.Truncated = refl
of_header_tells header_fault.BadSegment = refl
of_header_tells header_fault.BadSection = refl
of_header_tells header_fault.NoSections = refl

of_dynamic_tells : (e : DynFault) → dyn.is_memory e ≡ false → is_memory (of_dynamic e) ≡ false
of_dynamic_tells dyn_fault.NoEnd t = refl
of_dynamic_tells (dyn_fault.UnknownTag number) t = refl
of_dynamic_tells (dyn_fault.Twice number) t = refl
of_dynamic_tells dyn_fault.NoMemory t = t

of_symbols_tells : (e : SymFault) → sym.is_memory e ≡ false → is_memory (of_symbols e) ≡ false
of_symbols_tells sym_fault.BadSymbol t = refl
of_symbols_tells sym_fault.NoMemory t = t

of_versions_tells : (e : VerFault) → ver.is_memory e ≡ false → is_memory (of_versions e) ≡ false
of_versions_tells ver_fault.BadChain t = refl
of_versions_tells ver_fault.BadIndex t = refl
of_versions_tells ver_fault.NoMemory t = t

dynamic_tells : (bytes : List ℕ) (ss : List Segment) → NeverMemory dyn.is_memory (dynamic bytes ss)
unfolding dynamic dyn.read
dynamic_tells bytes ss = search (rules, unless_tells, found_tells, either_tells, ok_tells, err_tells)

named_tells : (table : List ℕ) (at : ℕ) (name : Option (List ℕ)) → NeverMemory sym.is_memory (sym.named table at name)
named_tells table at None = err_tells _ sym.is_memory _ refl
named_tells table at (Some name) = ok_tells sym.is_memory _

symbols_tells : (table strings : List ℕ) → NeverMemory sym.is_memory (sym.symbols table strings)
unfolding sym.symbols sym.symbol_at
symbols_tells table strings = each_tells sym.is_memory _ _ (λ index. named_tells table _ _)

versions_tells : (versym verdef verneed strings : List ℕ) (defs needs : ℕ) → NeverMemory ver.is_memory (ver.versions versym verdef defs verneed needs strings)
unfolding ver.versions ver.checked
versions_tells versym verdef verneed strings defs needs = search (rules, unless_tells, ok_tells)

-- ---- the names of an object

checked_name_tells : (name : Option (List ℕ)) → NeverMemory is_memory (names.checked_name name)
checked_name_tells None = err_tells _ is_memory _ refl
checked_name_tells (Some name) = either_tells is_memory _ _ _ (ok_tells is_memory name) (err_tells _ is_memory _ refl)

needed_tells : (tags : List Tag) (strings : List ℕ) → NeverMemory is_memory (names.needed tags strings)
unfolding names.needed names.needed_name
needed_tells tags strings = each_tells is_memory _ _ (λ tag. checked_name_tells _)

bare_tells : (bytes : List ℕ) (ss : List Segment) (sections : List Section) (tags : List Tag) → NeverMemory is_memory (names.symbols bytes ss sections tags)
unfolding names.symbols
bare_tells bytes ss sections tags = because_tells sym.is_memory is_memory of_symbols _ of_symbols_tells (symbols_tells _ _)

known_tells : (bytes : List ℕ) (ss : List Segment) (sections : List Section) (tags : List Tag) (symbols : List Symbol) → NeverMemory is_memory (names.versions bytes ss sections tags symbols)
unfolding names.versions names.known_versions names.table_versions names.counted
known_tells bytes ss sections tags symbols = unless_tells is_memory _ _ _ refl (either_tells is_memory _ _ _
    (then_tells is_memory _ _ (because_tells ver.is_memory is_memory of_versions _ of_versions_tells (versions_tells _ _ _ _ _ _)) (λ known. unless_tells is_memory _ _ _ refl (ok_tells is_memory _)))
    (ok_tells is_memory _))

linking_tells : (bytes : List ℕ) (f : Headers) (tags : List Tag) → NeverMemory is_memory (linking bytes f tags)
unfolding linking
linking_tells bytes f tags =
    then_tells is_memory _ _ (needed_tells tags _) (λ found. then_tells is_memory _ _ (bare_tells bytes f.segments f.sections tags)
    (λ bare. then_tells is_memory _ _ (known_tells bytes f.segments f.sections tags bare) (λ known. ok_tells is_memory _)))

-- ---- the clauses from 9 on

tables_tell : (bytes : List ℕ) (f : Headers) (tags : List Tag) → NeverMemory is_memory (check_tables bytes f.header f.segments f.sections tags)
unfolding check_tables
tables_tell bytes f tags = search (rules, unless_tells, ok_tells)

check_tells : (bytes : List ℕ) (f : Headers) (tags : List Tag) (l : Linking) (places : Layout) → NeverMemory is_memory (check bytes f tags l places)
unfolding check check_symbols check_relocs check_places check_rest
check_tells bytes f tags l places = search (rules, unless_tells, found_tells, either_tells, ok_tells, err_tells, then_tells)

dynamic_object_tells : (bytes : List ℕ) (f : Headers) (d : Dynamic) → NeverMemory is_memory (dynamic_object bytes f d)
unfolding dynamic_object checked
dynamic_object_tells bytes f d =
    then_tells is_memory _ _ (tables_tell bytes f d.tags) (λ u. then_tells is_memory _ _ (linking_tells bytes f d.tags)
    (λ l. then_tells is_memory _ _ (check_tells bytes f d.tags l (layout bytes f d.tags l)) (λ v. ok_tells is_memory _)))

parts_tell : (bytes : List ℕ) (f : Headers) → NeverMemory is_memory (parts bytes f)
unfolding parts static_program
parts_tell bytes f = either_tells is_memory (elf.is_static_file bytes f.header) _ _ (unless_tells is_memory _ _ _ refl (ok_tells is_memory _))
    (then_tells is_memory _ _ (because_tells dyn.is_memory is_memory of_dynamic _ of_dynamic_tells (dynamic_tells bytes f.segments)) (λ d. dynamic_object_tells bytes f d))

pub reads_tells : (bytes : List ℕ) → NeverMemory is_memory (reads bytes)
unfolding reads
reads_tells bytes = then_tells is_memory _ _ (cause_tells is_memory of_header (elf.read bytes) of_header_tells) (λ h. parts_tell bytes (headers bytes h))
