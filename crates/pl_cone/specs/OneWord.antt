-- Relocations that give the same in every scope of a folder (x86-64 psABI, "Relocation Types").
use Rattle.std.specs.Prelude.{◌≡◌, ◌⊎◌, ℕ, Bool, true, ◌||◌, ◌==◌, List, Option, Ok}
use Rattle.pl_elf.specs.declared.constants.TheConstants.{R_X86_64_64, R_X86_64_GLOB_DAT, R_X86_64_JUMP_SLOT, R_X86_64_NONE, R_X86_64_RELATIVE}
use Rattle.pl_object.specs.declared.object.Object.{Object}
use Rattle.pl_object.specs.declared.reloc.Reloc.{Reloc}
use Rattle.pl_scope.specs.Scope.{objects}
use Rattle.pl_scope.specs.Walk.{Walked}
use Rattle.pl_scope.specs.declared.index.Entry.{Entry}
use Rattle.pl_tls.specs.declared.module.Module.{Module}
use Rattle.pl_value.specs.Targets.{base_of}
use Rattle.pl_value.specs.Values.{reference, value_of}
use Rattle.pl_value.specs.declared.word.Word.{Word}
use Rattle.pl_cone.specs.Definers.{HasHashes}
use Rattle.pl_cone.specs.Folder.{IsMadeOf, IsMember, IsWithin}
use Rattle.pl_cone.specs.OneSymbol.{FindsOneSymbolBy}

-- ---- by the own walk of a library

-- the address of its symbol
unfoldable pub is_of_address : ℕ → Bool
is_of_address kind = kind == R_X86_64_64 || kind == R_X86_64_GLOB_DAT || kind == R_X86_64_JUMP_SLOT

-- without a symbol, whatever stands there
unfoldable pub is_without_symbol : ℕ → Bool
is_without_symbol kind = kind == R_X86_64_RELATIVE || kind == R_X86_64_NONE

-- a relocation refers to no symbol, or it gives the address of one that is settled
pub record GivesAddress (definers : List Entry) (own : List Object) (r : Reloc) : Type 0 where
  pub kind : is_of_address r.kind ≡ true
  pub symbol : ((r.symbol == 0) ≡ true) ⊎ FindsOneSymbolBy definers own (reference 0 r)

abbrev pub GivesOneWordBy : List Entry → List Object → Reloc → Type 0
GivesOneWordBy definers own r = (is_without_symbol r.kind ≡ true) ⊎ GivesAddress definers own r

-- ---- in every scope

-- the own walk of a name's object in a folder with these definers
pub record IsOwn (folder : List ℕ → Option Object) (definers : List Entry) (n : List ℕ) (own : Walked) : Type 0 where
  pub hashes : HasHashes folder definers
  pub made : IsMadeOf folder own
  pub first : IsMember own 0 n

-- a scope of the folder that holds the members of that walk, each name at its address
pub record Stands (folder : List ℕ → Option Object) (n : List ℕ) (own : Walked) (at : List ℕ → ℕ) (walked : Walked) (m : ℕ) (places : List ℕ) : Type 0 where
  pub made : IsMadeOf folder walked
  pub named : IsMember walked m n
  pub within : IsWithin own walked
  pub placed : (i : ℕ) (file : List ℕ) → IsMember walked i file → base_of places i ≡ at file

-- for each way to give addresses to names there is one word that a relocation gives in every such scope
abbrev pub GivesOneWord : (List ℕ → Option Object) → List ℕ → Walked → Reloc → Type 0
GivesOneWord folder n own r = (at : List ℕ → ℕ) → (word : Word) × ((walked : Walked) (m : ℕ) (places : List ℕ) (modules : List Module) → Stands folder n own at walked m places → value_of (objects walked) places modules m r ≡ Ok word)

-- ---- laws

abbrev pub FlagsAreLaws : Type 0
FlagsAreLaws = (folder : List ℕ → Option Object) (definers : List Entry) (n : List ℕ) (own : Walked) (r : Reloc) → IsOwn folder definers n own → GivesOneWordBy definers (objects own) r → GivesOneWord folder n own r
