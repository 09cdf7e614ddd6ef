-- The relocations of a scope in their order: where each stands, and what it gives.
use Rattle.std.specs.Prelude.{ℕ, ◌+◌, Bool, true, false, List, [], ◌∷◌, ◌++◌, map, Result, Ok}
use Rattle.pl_base.specs.Answers.{◌>>=◌}
use Rattle.pl_base.specs.Each.{each}
use Rattle.pl_base.specs.Sums.{plus}
use Rattle.pl_tls.specs.declared.module.Module.{Module}
use Rattle.pl_object.specs.declared.object.Object.{Object}
use Rattle.pl_object.specs.declared.reloc.Reloc.{Reloc}
use Rattle.pl_value.specs.Targets.{base_of}
use Rattle.pl_value.specs.Values.{value_of}
use Rattle.pl_value.specs.declared.fault.LinkFault.{LinkFault}
use Rattle.pl_value.specs.declared.fault.OrdinaryFault.{OrdinaryFault}
use Rattle.pl_value.specs.declared.fault.OrdinaryFault.TheVariants.{Link, NoMemory}
use Rattle.pl_value.specs.declared.meaning.Meaning.{Meaning}
use Rattle.pl_value.specs.declared.word.Word.{Word}

abbrev pub is_memory : OrdinaryFault → Bool
is_memory NoMemory = true
is_memory (Link _) = false

-- ---- all relocations

-- a relocation, with the index of its member
pub record Row : Type 0 where
  pub member : ℕ
  pub reloc : Reloc

abbrev pub row : ℕ → Reloc → Row
row member r = record { member = member; reloc = r }

-- those of the objects from a member on
unfoldable pub rows_from : ℕ → List Object → List Row
rows_from member [] = []
rows_from member (o ∷ os) = map (row member) o.relocations ++ rows_from (member + 1) os

-- in scope order; in an object those of DT_RELA before those of DT_JMPREL
abbrev pub rows : List Object → List Row
rows objects = rows_from 0 objects

-- ---- what they give

-- the place of a row as loaded, with what it gives
abbrev pub given : List ℕ → Row → Word → Meaning
given places row word = record { member = row.member; start = plus (base_of places row.member) row.reloc.address; size = row.reloc.width; word = word }

unfoldable pub meaning : List Object → List ℕ → List Module → Row → Result Meaning LinkFault
meaning objects places modules row = value_of objects places modules row.member row.reloc >>= λ word. Ok (given places row word)

-- what each relocation gives, or the first that has no value
unfoldable pub meanings : List Object → List ℕ → List Module → Result (List Meaning) LinkFault
meanings objects places modules = each (meaning objects places modules) (rows objects)
