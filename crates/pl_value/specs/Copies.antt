-- What a COPY gives (x86-64 psABI, "Relocation Types").
use Rattle.std.specs.Prelude.{ℕ, Bool, not, ◌&&◌, ◌||◌, ◌==◌, min, List, [], ◌∷◌, Option, Some, None, Result, Ok, if◌then◌else◌}
use Rattle.std.specs.List.{list_any}
use Rattle.pl_base.specs.Answers.{refuse, unless}
use Rattle.pl_elf.specs.Headers.{is_load}
use Rattle.pl_elf.specs.declared.segment.Segment.{Segment}
use Rattle.pl_sym.specs.Symbol.{is_absolute, is_tls}
use Rattle.pl_object.specs.PlaceClauses.{is_in_segment}
use Rattle.pl_object.specs.Relocations.{size_of}
use Rattle.pl_object.specs.declared.object.Object.{Object}
use Rattle.pl_scope.specs.Finds.{own_symbol}
use Rattle.pl_scope.specs.declared.reference.Reference.{Reference}
use Rattle.pl_value.specs.Definers.{Definer, definer, is_weak}
use Rattle.pl_value.specs.Targets.{address}
use Rattle.pl_value.specs.declared.fault.LinkFault.{LinkFault}
use Rattle.pl_value.specs.declared.fault.LinkFault.TheVariants.{Undefined, TlsMismatch, CopyOutside}
use Rattle.pl_value.specs.declared.word.Word.{Word}
use Rattle.pl_value.specs.declared.word.Word.TheVariants.{Copy, Nothing}

-- bytes lie in the memory of a PT_LOAD, as linked
unfoldable pub is_in_load : ℕ → ℕ → Segment → Bool
is_in_load from size s = is_load s && is_in_segment (record { at = from; size = size }) s

-- bytes that do not all lie in the memory of one PT_LOAD; of no bytes none is outside
unfoldable pub is_outside : List Segment → ℕ → ℕ → Bool
is_outside ss from size = not (size == 0) && not (list_any (is_in_load from size) ss)

-- the definer gives so many bytes, from its value on; a number has no bytes
unfoldable pub copied : List ℕ → Reference → ℕ → Definer → Result Word LinkFault
copied places r size d =
    refuse (
    (is_tls d.symbol, TlsMismatch r.member r.symbol)
    ∷ (is_absolute d.symbol || is_outside d.object.segments d.symbol.value size, CopyOutside r.member r.symbol) ∷ [])
    (Ok (Copy d.member (address places d) size))

-- the lesser of the two symbols' sizes
abbrev pub copy_from : List ℕ → Reference → Bool → ℕ → Option Definer → Result Word LinkFault
copy_from places r weak size None = unless (not weak) (Undefined r.member r.symbol) (Ok Nothing)
copy_from places r weak size (Some d) = copied places r (min size d.symbol.size) d

-- what a COPY gives: nothing for symbol 0, and for a weak symbol without definer
unfoldable pub copy : List Object → List ℕ → Reference → Result Word LinkFault
copy objects places r =
    if r.symbol == 0 then Ok Nothing
    else copy_from places r (is_weak objects r) (size_of (own_symbol objects r)) (definer objects r)
