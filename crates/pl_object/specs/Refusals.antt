-- The faults of an object's parts as acceptance clauses.
use Rattle.std.specs.Prelude.{Bool, true, false}
use Rattle.pl_elf.specs.declared.fault.HeaderFault.{HeaderFault}
use Rattle.pl_elf.specs.declared.fault.HeaderFault.TheVariants as header_fault
use Rattle.pl_dyn.specs.declared.fault.DynFault.{DynFault}
use Rattle.pl_dyn.specs.declared.fault.DynFault.TheVariants as dyn_fault
use Rattle.pl_sym.specs.declared.fault.SymFault.{SymFault}
use Rattle.pl_sym.specs.declared.fault.SymFault.TheVariants as sym_fault
use Rattle.pl_ver.specs.declared.fault.VerFault.{VerFault}
use Rattle.pl_ver.specs.declared.fault.VerFault.TheVariants as ver_fault
use Rattle.pl_object.specs.declared.refusal.Refusal.{Refusal}
use Rattle.pl_object.specs.declared.refusal.Refusal.TheVariants.{Clause, NoMemory}

abbrev pub is_memory : Refusal → Bool
is_memory NoMemory = true
is_memory (Clause number argument) = false

abbrev pub of_header : HeaderFault → Refusal
of_header header_fault.NotElf = Clause 1 0
of_header header_fault.Class = Clause 2 0
of_header header_fault.Machine = Clause 3 0
of_header header_fault.Kind = Clause 4 0
of_header header_fault.Truncated = Clause 5 0
of_header header_fault.BadSegment = Clause 6 0
of_header header_fault.BadSection = Clause 7 0
of_header header_fault.NoSections = Clause 8 0

abbrev pub of_dynamic : DynFault → Refusal
of_dynamic dyn_fault.NoEnd = Clause 9 0
of_dynamic (dyn_fault.UnknownTag number) = Clause 10 number
of_dynamic (dyn_fault.Twice number) = Clause 11 number
of_dynamic dyn_fault.NoMemory = NoMemory

abbrev pub of_symbols : SymFault → Refusal
of_symbols sym_fault.BadSymbol = Clause 16 0
of_symbols sym_fault.NoMemory = NoMemory

abbrev pub of_versions : VerFault → Refusal
of_versions ver_fault.BadChain = Clause 17 0
of_versions ver_fault.BadIndex = Clause 18 0
of_versions ver_fault.NoMemory = NoMemory
