-- The own words of a library: what its relocations give in its own scope, in which it is the first object (Jelínek, "Prelink", on the relocation of libraries ahead of a program's start).
use Rattle.std.specs.Prelude.{ℕ, Bool, not, ◌&&◌, ◌||◌, ◌==◌, List, [], map, Option, Some, None, Result, Ok, Err, slice_get, if◌then◌else◌}
use Rattle.std.specs.List.{AllZip}
use Rattle.std.specs.Option.{is_some}
use Rattle.pl_elf.specs.declared.constants.TheConstants.{R_X86_64_RELATIVE, R_X86_64_DTPMOD64, R_X86_64_TPOFF64}
use Rattle.pl_object.specs.declared.object.Object.{Object}
use Rattle.pl_object.specs.declared.reloc.Reloc.{Reloc}
use Rattle.pl_scope.specs.Finds.{finds}
use Rattle.pl_scope.specs.declared.found.Found.{Found}
use Rattle.pl_value.specs.Definers.{IsSought}
use Rattle.pl_value.specs.Values.{reference, relocations_in, value_of}
use Rattle.pl_value.specs.declared.fault.LinkFault.{LinkFault}
use Rattle.pl_value.specs.declared.word.Word.{Word}
use Rattle.pl_value.specs.declared.word.Word.TheVariants.{Put, Copy, Nothing}

-- the word that a relocation gives, if it gives one
abbrev pub put_in : Result Word LinkFault → Option ℕ
put_in (Ok (Put word)) = Some word
put_in (Ok (Copy member from bytes)) = None
put_in (Ok Nothing) = None
put_in (Err fault) = None

-- a module's number, or its offset from the thread pointer, which a program's start alone gives
unfoldable pub is_of_start : ℕ → Bool
is_of_start kind = kind == R_X86_64_DTPMOD64 || kind == R_X86_64_TPOFF64

-- a symbol that is referred to has no definer; symbol 0 is no reference, and RELATIVE refers to no symbol
unfoldable pub lacks_definer : Reloc → Option Found → Bool
lacks_definer r found = not (r.kind == R_X86_64_RELATIVE) && not (r.symbol == 0) && not (is_some found)

-- the own word of a relocation of the first object: none for what a program's start alone gives, for a symbol without definer, and where no word is given. No other kind asks for modules
unfoldable pub own_word : List Object → List ℕ → Reloc → Option ℕ
own_word objects places r =
    if is_of_start r.kind || lacks_definer r (finds objects (reference 0 r)) then None
    else put_in (value_of objects places [] 0 r)

-- one for each relocation of the first object
unfoldable pub own_words : List Object → List ℕ → List (Option ℕ)
own_words objects places = map (own_word objects places) (relocations_in (slice_get objects 0))

-- what each relocation of the first object finds is told
abbrev pub FindAll : List Object → List (Option Found) → Type 0
FindAll objects found = AllZip (λ r f. IsSought objects (reference 0 r) f) (relocations_in (slice_get objects 0)) found
