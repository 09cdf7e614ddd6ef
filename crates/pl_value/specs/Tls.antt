-- Words of thread-local storage, variant II (Drepper, "ELF Handling for Thread-Local Storage", sections 3.4.6 and 4.4; x86-64 psABI, "Thread-Local Storage").
use Rattle.std.specs.Prelude.{ℕ, Bool, not, ◌&&◌, ◌||◌, ◌==◌, false, List, Option, Some, None, Result, Ok, Err, is_some, find, slice_get, if◌then◌else◌}
use Rattle.pl_base.specs.Answers.{unless}
use Rattle.pl_base.specs.Sums.{minus}
use Rattle.pl_sym.specs.Symbol.{is_tls}
use Rattle.pl_tls.specs.declared.module.Module.{Module}
use Rattle.pl_elf.specs.declared.constants.TheConstants.{R_X86_64_DTPMOD64, R_X86_64_DTPOFF64, R_X86_64_TPOFF64}
use Rattle.pl_object.specs.declared.object.Object.{Object}
use Rattle.pl_object.specs.declared.reloc.Reloc.{Reloc}
use Rattle.pl_scope.specs.declared.reference.Reference.{Reference}
use Rattle.pl_value.specs.Definers.{Definer, definer}
use Rattle.pl_value.specs.Targets.{added}
use Rattle.pl_value.specs.declared.fault.LinkFault.{LinkFault}
use Rattle.pl_value.specs.declared.fault.LinkFault.TheVariants.{UndefinedTls, TlsMismatch}
use Rattle.pl_value.specs.declared.tls_index.TlsIndex.{TlsIndex}

-- ---- variables

abbrev pub has_block : Option Object → Bool
has_block None = false
has_block (Some o) = is_some o.tls

-- the begin of the object's own block
abbrev pub own : Reference → Bool → Result TlsIndex LinkFault
own r block = unless (not block) (TlsMismatch r.member r.symbol) (Ok (record { member = r.member; offset = 0 }))

-- a variable in the block of the object that defines it
abbrev pub variable_from : Reference → Option Definer → Result TlsIndex LinkFault
variable_from r None = Err (UndefinedTls r.member r.symbol)
variable_from r (Some d) =
    unless (not (is_tls d.symbol && is_some d.object.tls)) (TlsMismatch r.member r.symbol) (Ok (record { member = d.member; offset = d.symbol.value }))

-- the variable that a reference stands for; symbol 0 stands for the begin of its object's own block
unfoldable pub variable : List Object → Reference → Result TlsIndex LinkFault
variable objects r = if r.symbol == 0 then own r (has_block (slice_get objects r.member)) else variable_from r (definer objects r)

-- ---- modules

-- the module of a member
abbrev pub module_of : List Module → ℕ → Option Module
module_of modules member = find (λ m. m.member == member) modules

abbrev pub number_of : Option Module → ℕ
number_of None = 0
number_of (Some m) = m.number

abbrev pub offset_of : Option Module → ℕ
offset_of None = 0
offset_of (Some m) = m.offset

-- ---- words

-- whether a kind is one of thread-local storage
unfoldable pub is_tls_kind : ℕ → Bool
is_tls_kind kind = kind == R_X86_64_DTPMOD64 || kind == R_X86_64_DTPOFF64 || kind == R_X86_64_TPOFF64

-- the module's number; the variable's offset in the block; or its offset from the thread pointer, below which the block begins
unfoldable pub word : List Module → Reloc → TlsIndex → ℕ
word modules r v =
    if r.kind == R_X86_64_DTPMOD64 then number_of (module_of modules v.member)
    else (if r.kind == R_X86_64_DTPOFF64 then added v.offset r.addend
    else minus (added v.offset r.addend) (offset_of (module_of modules v.member)))
