-- Relocations that matter nowhere, and words that a library's file holds.
use Rattle.std.specs.Prelude.{◌≡◌, ℕ, List, None, Ok}
use Rattle.pl_base.specs.Bytes.{bytes64}
use Rattle.pl_base.specs.Memory.{Memory}
use Rattle.pl_image.specs.declared.loaded_object.LoadedObject.{LoadedObject}
use Rattle.pl_object.specs.declared.object.Object.{Object}
use Rattle.pl_object.specs.declared.reloc.Reloc.{Reloc}
use Rattle.pl_tls.specs.declared.module.Module.{Module}
use Rattle.pl_value.specs.Linked.{copy_of}
use Rattle.pl_value.specs.Meanings.{meaning, row}
use Rattle.pl_value.specs.declared.meaning.Meaning.{Meaning}
use Rattle.pl_value.specs.declared.word.Word.{Word}
use Rattle.pl_value.specs.declared.word.Word.TheVariants.{Put, Copy, Nothing}
use Rattle.pl_conflict.specs.Conflicts.{held, row_of}

-- ---- what matters nowhere

-- no conflict row is made of it, and it copies nothing
pub record IsQuiet (files : List LoadedObject) (g : Meaning) : Type 0 where
  pub no_row : row_of files g.member g.start g.word ≡ None
  pub no_copy : (memory : Memory) → copy_of memory g.start g.word ≡ None

-- whatever the modules of thread-local storage, a relocation gives what is so
abbrev pub GivesQuiet : List Object → List ℕ → List LoadedObject → ℕ → Reloc → Type 0
GivesQuiet os places files m r = (tls : List Module) → (g : Meaning) × ((meaning os places tls (row m r) ≡ Ok g) × IsQuiet files g)

-- ---- words that a library's file holds

-- the first object of files holds a word at an address, or there is none to hold
abbrev pub HoldsWord : List LoadedObject → ℕ → Word → Type 0
HoldsWord file start (Put word) = held file 0 start ≡ bytes64 word
HoldsWord file start (Copy member from bytes) = ⊥
HoldsWord file start Nothing = Unit {0}
