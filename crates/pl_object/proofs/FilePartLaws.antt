-- What is known of the PT_LOAD that loads a byte.
use Rattle.std.proofs.Common.{◌≡◌, ℕ, ◌+◌, ◌<◌, ◌≤◌, true, ◌&&◌, List, Some}
use Rattle.std.specs.Prelude.{nat_le, nat_lt}
use Rattle.std.proofs.lemmas.Bool.{and_parts, leb-true, ltb-true}
use Rattle.pl_elf.specs.declared.segment.Segment.{Segment}
use Rattle.pl_elf.specs.Headers.{is_load}
use Rattle.pl_base.proofs.FindLaws.{find_passes}
use Rattle.pl_object.specs.FilePart.{loads_byte, loader}

pub loads_parts : (address : ℕ) (s : Segment) → loads_byte address s ≡ true → (is_load s ≡ true) × (s.vaddr ≤ address) × (address < s.vaddr + s.filesz)
unfolding loads_byte
loads_parts address s h =
    let p = and_parts (is_load s && nat_le s.vaddr address) (nat_lt address (s.vaddr + s.filesz)) h in
    let q = and_parts (is_load s) (nat_le s.vaddr address) p.0 in
    (q.0, leb-true s.vaddr address q.1, ltb-true address (s.vaddr + s.filesz) p.1)

pub loader_loads_byte : (address : ℕ) (ss : List Segment) (s : Segment) → loader ss address ≡ Some s → loads_byte address s ≡ true
loader_loads_byte address ss s e = find_passes (loads_byte address) ss s e

pub byte_below : (address : ℕ) (s : Segment) → loads_byte address s ≡ true → s.vaddr ≤ address
byte_below address s h = (loads_parts address s h).1

pub byte_above : (address : ℕ) (s : Segment) → loads_byte address s ≡ true → address < s.vaddr + s.filesz
byte_above address s h = (loads_parts address s h).2
