-- What a relocation gives (x86-64 psABI, "Relocation Types"). Sums are modulo 2^64.
use Rattle.std.specs.Prelude.{ℕ, ◌||◌, ◌==◌, List, [], Option, Some, None, Result, Ok, slice_get, if◌then◌else◌}
use Rattle.pl_base.specs.Answers.{◌>>=◌}
use Rattle.pl_tls.specs.declared.module.Module.{Module}
use Rattle.pl_elf.specs.declared.constants.TheConstants.{R_X86_64_64, R_X86_64_COPY, R_X86_64_GLOB_DAT, R_X86_64_JUMP_SLOT, R_X86_64_RELATIVE}
use Rattle.pl_object.specs.declared.object.Object.{Object}
use Rattle.pl_object.specs.declared.reloc.Reloc.{Reloc}
use Rattle.pl_scope.specs.declared.reference.Reference.{Reference}
use Rattle.pl_value.specs.Targets.{added, base_of, target}
use Rattle.pl_value.specs.Copies.{copy}
use Rattle.pl_value.specs.Tls as tls
use Rattle.pl_value.specs.declared.fault.LinkFault.{LinkFault}
use Rattle.pl_value.specs.declared.word.Word.{Word}
use Rattle.pl_value.specs.declared.word.Word.TheVariants.{Put, Nothing}

-- the symbol that a relocation of a member refers to
abbrev pub reference : ℕ → Reloc → Reference
reference member r = record { member = member; symbol = r.symbol; kind = r.kind }

-- what a relocation of a member gives, or why it has no value. NONE gives nothing
unfoldable pub value_of : List Object → List ℕ → List Module → ℕ → Reloc → Result Word LinkFault
value_of objects places modules member r =
    if r.kind == R_X86_64_RELATIVE then Ok (Put (added (base_of places member) r.addend))
    else (if r.kind == R_X86_64_64 then (target objects places (reference member r) >>= λ s. Ok (Put (added s r.addend)))
    else (if r.kind == R_X86_64_GLOB_DAT || r.kind == R_X86_64_JUMP_SLOT then (target objects places (reference member r) >>= λ s. Ok (Put s))
    else (if r.kind == R_X86_64_COPY then copy objects places (reference member r)
    else (if tls.is_tls_kind r.kind then (tls.variable objects (reference member r) >>= λ v. Ok (Put (tls.word modules r v)))
    else Ok Nothing))))

-- ---- the same by a relocation's index

abbrev pub relocations_in : Option Object → List Reloc
relocations_in None = []
relocations_in (Some o) = o.relocations

abbrev pub of_reloc : List Object → List ℕ → List Module → ℕ → Option Reloc → Result Word LinkFault
of_reloc objects places modules member None = Ok Nothing
of_reloc objects places modules member (Some r) = value_of objects places modules member r

-- a relocation of a member
abbrev pub reloc_at : List Object → ℕ → ℕ → Option Reloc
reloc_at objects member index = slice_get (relocations_in (slice_get objects member)) index

unfoldable pub value : List Object → List ℕ → List Module → ℕ → ℕ → Result Word LinkFault
value objects places modules member index =
    of_reloc objects places modules member (slice_get (relocations_in (slice_get objects member)) index)
