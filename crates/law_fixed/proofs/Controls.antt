-- Small programs whose images differ once they are fixed.
use Rattle.std.proofs.Common.{◌≡◌, ℕ, zero, suc, ◌+◌, ◌<◌, ◌≤◌, ◌^◌, true, false, List, [], ◌∷◌, Option, Some, None, refl, sym, subst, ◌∙◌, arith, replicate}
use Rattle.std.specs.Prelude.{pos, slice_index, slice_index_or, ◌||◌}
use Rattle.std.specs.List.{All, list_any}
use Rattle.std.proofs.lemmas.Bool.{false≢true}
use Rattle.pl_elf.specs.declared.header.Header.{Header}
use Rattle.pl_elf.specs.declared.kind.Kind.TheVariants.{Program}
use Rattle.pl_elf.specs.Clauses.{bad_load, not_congruent, bad_align}
use Rattle.pl_image.specs.Loads.{IsPlaced}
use Rattle.pl_value.specs.Ordinary.{ArePlaced}
use Rattle.pl_value.specs.Targets.{base_of}
use Rattle.law_fixed.specs.Fixed.{fixed_header, fixed_entry}
use Rattle.std.proofs.lemmas.List.Elements.{All-nil, All-cons}
use Rattle.pl_elf.specs.declared.constants.TheConstants.{ADDRESS_LIMIT}
use Rattle.law_fixed.specs.Laws.{CopiesElsewhere, EachIsNeeded, FixedIsSame, IsLinked, OwnMoves, SameImage, StaysThere}
use Rattle.law_fixed.specs.Fixed.{IsFixedFile, KeepsBytes, fixed, fixed_reloc, fixed_segment, fixed_symbol, moves}
use Rattle.pl_object.specs.declared.object.Object.{Object}
use Rattle.pl_object.specs.declared.reloc.Reloc.{Reloc}
use Rattle.pl_elf.specs.declared.segment.Segment.{Segment}
use Rattle.pl_sym.specs.declared.symbol.Symbol.{Symbol}
use Rattle.law_fixed.specs.Stays.{TwoAreFixedAlike}
use Rattle.pl_value.specs.Targets.{address, target}
use Rattle.pl_scope.specs.Finds.{binds_itself, class_of, finds, first_in, found_for, in_member, version_wanted}
use Rattle.pl_base.specs.Bytes.{bytes64}
use Rattle.pl_value.specs.Copies.{copied, copy, is_in_load, is_outside}
use Rattle.pl_value.specs.Linked.{copies, relocated, words}
use Rattle.pl_scope.specs.Matching.{counts, defines, unversioned}
use Rattle.pl_value.specs.Definers.{definer, is_weak}
use Rattle.pl_base.specs.Each.{each}
use Rattle.pl_base.specs.Memory.{filled, layered, read}
use Rattle.pl_elf.specs.Ranges.{has}
use Rattle.pl_sym.specs.Definers.{has_plain_kind, has_value, is_canonical, is_definition, is_global, is_linkable, is_visible}
use Rattle.pl_sym.specs.Symbol.{is_absolute, is_in_section, is_local, is_tls, is_undefined}
use Rattle.pl_elf.specs.Headers.{is_load, is_moved_kind}
use Rattle.pl_image.specs.Loads.{is_masked}
use Rattle.pl_value.specs.Ordinary.{loaded_from, ordinary}
use Rattle.pl_value.specs.Meanings.{meaning, meanings, rows_from}
use Rattle.pl_value.specs.Values.{value_of}

header_from : ℕ → Header
header_from entry = record { ident = []; kind = 2; machine = 62; version = 1; entry = entry; phoff = 0; shoff = 0; flags = 0; ehsize = 64; phentsize = 56; phnum = 1; shentsize = 64; shnum = 0; shstrndx = 0 }

load_from : ℕ → Segment
load_from vaddr = record { kind = 1; flags = 4; offset = 0; vaddr = vaddr; paddr = vaddr; filesz = 48; memsz = 48; align = 0 }

with_parts : ℕ → List Segment → List Symbol → List Reloc → Object
with_parts entry segments symbols relocations = record {
  kind = Program;
  header = header_from entry;
  sections = [];
  entry = entry;
  segments = segments;
  needed = [];
  symbols = symbols;
  versions = None;
  hashes = [];
  relocations = relocations;
  packed = 0;
  tables = record { start = 0; end = 1 } ∷ [];
  tls = None;
  symbolic = false;
  spare = 0;
  span = 4096;
  align = 4096;
}

-- a program of one PT_LOAD of 48 bytes at 16, whose link table is the first byte
toy : List Symbol → List Reloc → Object
toy symbols relocations = with_parts 0 (load_from 16 ∷ []) symbols relocations

with_byte : ℕ → List ℕ
with_byte b = b ∷ replicate 47 0

symbol : ℕ → ℕ → ℕ → ℕ → Symbol
symbol value bind visibility section = record { name = 102 ∷ []; value = value; size = 1; bind = bind; kind = 1; visibility = visibility; section = section; version = 1 }

null : Symbol
null = record { name = []; value = 0; size = 0; bind = 0; kind = 0; visibility = 0; section = 0; version = 1 }

reloc : ℕ → ℕ → ℕ → Reloc
reloc kind symbol width = record { address = 48; kind = kind; symbol = symbol; addend = pos 0; width = width }

-- what of such a program the law says at the place
abbrev Says : List Symbol → List Reloc → ℕ → ℕ → ℕ → Type 0
Says symbols relocations at b c =
    SameImage (ordinary (toy symbols relocations ∷ []) (with_byte b ∷ []) (at ∷ []) []) (ordinary (fixed at (toy symbols relocations) ∷ []) (with_byte c ∷ []) (0 ∷ []) [])

-- the law says it, since the other premises hold
toy_file : (symbols : List Symbol) (relocations : List Reloc) (b c : ℕ) → IsFixedFile (toy symbols relocations) (with_byte b) (with_byte c)
unfolding toy with_parts load_from with_byte
toy_file symbols relocations b c = record { size = refl; same = All-cons (KeepsBytes (toy symbols relocations) (with_byte b) (with_byte c)) _ [] (λ k lt out _. other k out) (All-nil (KeepsBytes (toy symbols relocations) (with_byte b) (with_byte c))) }
  where
    plain : (k : ℕ) → list_any (has k) (record { start = 0; end = 1 } ∷ []) ≡ false → slice_index (c ∷ replicate 47 0) k ≡ slice_index (b ∷ replicate 47 0) k
    plain zero out = absurd (false≢true (sym out))
    plain (suc k) out = refl

    other : (k : ℕ) → list_any (has (0 + k)) (record { start = 0; end = 1 } ∷ []) ≡ false → slice_index (c ∷ replicate 47 0) (0 + k) ≡ slice_index (b ∷ replicate 47 0) (0 + k)
    other k out = plain (0 + k) out

toy_placed : (symbols : List Symbol) (relocations : List Reloc) → IsPlaced 4096 (toy symbols relocations)
unfolding toy with_parts load_from bad_load not_congruent bad_align
toy_placed symbols relocations = record {
  accepted = record { ascend = refl; fit = refl };
  ends = All-cons (λ s. 4096 + (s.vaddr + s.memsz) ≤ ADDRESS_LIMIT) _ [] (omega arith) (All-nil (λ s. 4096 + (s.vaddr + s.memsz) ≤ ADDRESS_LIMIT));
}

toy_are : (symbols : List Symbol) (relocations : List Reloc) (b : ℕ) → ArePlaced (4096 ∷ []) (with_byte b ∷ []) (toy symbols relocations ∷ [])
unfolding toy with_parts load_from loaded_from
toy_are symbols relocations b = record {
  placed = λ member d. one member d;
  apart = λ i j a d lt within hit. let few : j < 1 = within in absurd (omega (arith, lt, few));
}
  where
    one : (member : ℕ) (d : Object) → member < 1 → IsPlaced (base_of (4096 ∷ []) member) (slice_index_or (toy symbols relocations ∷ []) member d)
    one zero d lt = toy_placed symbols relocations
    one (suc member) d lt = absurd (omega (arith, lt))

toy_says : (Holds : ℕ → Object → Type 0) (symbols : List Symbol) (relocations : List Reloc) (b c : ℕ) → FixedIsSame Holds → Holds 4096 (toy symbols relocations) → Says symbols relocations 4096 b c
toy_says Holds symbols relocations b c law holds =
    law 4096 (toy symbols relocations) [] (with_byte b) (with_byte c) [] [] [] holds (toy_file symbols relocations b c) (toy_are symbols relocations b)

-- ---- a copy of the link table's byte

own_copy : Says (null ∷ symbol 16 1 3 5 ∷ []) (reloc 5 1 1 ∷ []) 4096 1 2 → ⊥
unfolding toy with_parts load_from with_byte symbol null reloc ordinary meanings rows_from each meaning value_of copy definer finds binds_itself is_local is_undefined copied is_tls is_absolute is_outside is_in_load address is_weak fixed fixed_header fixed_entry fixed_symbol fixed_reloc fixed_segment moves is_in_section is_canonical is_moved_kind loaded_from layered relocated words copies filled read is_masked
own_copy h = let e : ◌≡◌ {A = Option ℕ} (Some 2) (Some 1) = h 4144 in absurd cc

-- a local symbol without section that has a value
own_value : Says (null ∷ symbol 16 0 0 0 ∷ []) (reloc 1 1 8 ∷ []) 4096 0 0 → ⊥
unfolding toy with_parts load_from with_byte symbol null reloc ordinary meanings rows_from each meaning value_of target definer finds binds_itself is_local is_undefined copied is_tls is_absolute is_outside is_in_load address is_weak fixed fixed_header fixed_entry fixed_symbol fixed_reloc fixed_segment moves is_in_section is_canonical is_moved_kind loaded_from layered relocated words copies filled read is_masked bytes64
own_value h = let e : ◌≡◌ {A = Option ℕ} (Some 0) (Some 16) = h 4145 in absurd cc

-- a symbol at address 0, to which a weak reference is made
at_zero : Says (null ∷ symbol 0 1 0 5 ∷ symbol 0 2 0 0 ∷ []) (reloc 6 2 8 ∷ []) 4096 0 0 → ⊥
unfolding toy with_parts load_from with_byte symbol null reloc ordinary meanings rows_from each meaning value_of target definer finds found_for first_in in_member class_of version_wanted unversioned defines counts binds_itself is_local is_undefined is_tls is_absolute is_outside is_in_load address is_weak fixed fixed_header fixed_entry fixed_symbol fixed_reloc fixed_segment moves is_in_section is_canonical is_linkable has_value is_definition is_global is_visible has_plain_kind is_moved_kind loaded_from layered relocated words copies filled read is_masked bytes64
at_zero h = let e : ◌≡◌ {A = Option ℕ} (Some 16) (Some 0) = h 4145 in absurd cc

-- a value that becomes 0
to_zero : Says (null ∷ symbol 18446744073709547520 1 0 5 ∷ symbol 0 1 0 0 ∷ []) (reloc 6 2 8 ∷ []) 4096 0 0 → ⊥
unfolding toy with_parts load_from with_byte symbol null reloc ordinary meanings rows_from each meaning value_of target definer finds found_for first_in in_member class_of version_wanted unversioned defines counts binds_itself is_local is_undefined is_tls is_absolute is_outside is_in_load address is_weak fixed fixed_header fixed_entry fixed_symbol fixed_reloc fixed_segment moves is_in_section is_canonical is_linkable has_value is_definition is_global is_visible has_plain_kind is_moved_kind loaded_from layered relocated words copies filled read is_masked bytes64
to_zero h = h

-- ---- none of the four can be left out

all_two : {X : Type 0} (P : X → Type 0) (x y : X) → P x → P y → All P (x ∷ y ∷ [])
all_two P x y p q = All-cons P x (y ∷ []) p (All-cons P y [] q (All-nil P))

all_three : {X : Type 0} (P : X → Type 0) (x y z : X) → P x → P y → P z → All P (x ∷ y ∷ z ∷ [])
all_three P x y z p q r = All-cons P x (y ∷ z ∷ []) p (all_two P y z q r)

all_one : {X : Type 0} (P : X → Type 0) (x : X) → P x → All P (x ∷ [])
all_one P x p = All-cons P x [] p (All-nil P)

abbrev first : List Symbol
first = null ∷ symbol 16 1 3 5 ∷ []

abbrev second : List Symbol
second = null ∷ symbol 16 0 0 0 ∷ []

abbrev third : List Symbol
third = null ∷ symbol 0 1 0 5 ∷ symbol 0 2 0 0 ∷ []

abbrev fourth : List Symbol
fourth = null ∷ symbol 18446744073709547520 1 0 5 ∷ symbol 0 1 0 0 ∷ []

fits : (s : Symbol) → is_linkable s ≡ false → IsLinked s
fits s not_linked linked = absurd (false≢true (sym not_linked ∙ linked))

without_elsewhere : FixedIsSame (λ at o. All (λ s. IsLinked s × StaysThere at s) o.symbols × All (λ r. OwnMoves o.symbols r) o.relocations) → ⊥
unfolding toy with_parts symbol null reloc is_linkable is_absolute is_in_section is_global is_visible has_plain_kind has_value moves is_canonical is_undefined is_local is_tls binds_itself
without_elsewhere law = own_copy (toy_says (λ at o. All (λ s. IsLinked s × StaysThere at s) o.symbols × All (λ r. OwnMoves o.symbols r) o.relocations) first (reloc 5 1 1 ∷ []) 1 2 law (
  all_two (λ s. IsLinked s × StaysThere 4096 s) null (symbol 16 1 3 5) (λ h. absurd (false≢true h), λ h. absurd (false≢true h)) (λ _. refl, λ _ _. refl),
  all_one (λ r. OwnMoves first r) (reloc 5 1 1) (λ s is _ _. let same : symbol 16 1 3 5 ≡ s = cc in subst (λ (t : Symbol). (is_absolute t || is_in_section t) ≡ true) same refl),
))

without_own : FixedIsSame (λ at o. All (λ s. IsLinked s × StaysThere at s) o.symbols × All (λ r. CopiesElsewhere o.symbols r) o.relocations) → ⊥
unfolding toy with_parts symbol null reloc is_linkable is_absolute is_in_section is_global is_visible has_plain_kind has_value moves is_canonical is_undefined is_local is_tls binds_itself
without_own law = own_value (toy_says (λ at o. All (λ s. IsLinked s × StaysThere at s) o.symbols × All (λ r. CopiesElsewhere o.symbols r) o.relocations) second (reloc 1 1 8 ∷ []) 0 0 law (
  all_two (λ s. IsLinked s × StaysThere 4096 s) null (symbol 16 0 0 0) (λ h. absurd (false≢true h), λ h. absurd (false≢true h)) (λ h. absurd (false≢true h), λ h. absurd (false≢true h)),
  all_one (λ r. CopiesElsewhere second r) (reloc 1 1 8) (λ s is copies. absurd (false≢true copies)),
))

without_linked : FixedIsSame (λ at o. All (λ s. StaysThere at s) o.symbols × All (λ r. OwnMoves o.symbols r × CopiesElsewhere o.symbols r) o.relocations) → ⊥
unfolding toy with_parts symbol null reloc is_linkable is_absolute is_in_section is_global is_visible has_plain_kind has_value moves is_canonical is_undefined is_local is_tls binds_itself
without_linked law = at_zero (toy_says (λ at o. All (λ s. StaysThere at s) o.symbols × All (λ r. OwnMoves o.symbols r × CopiesElsewhere o.symbols r) o.relocations) third (reloc 6 2 8 ∷ []) 0 0 law (
  all_three (λ s. StaysThere 4096 s) null (symbol 0 1 0 5) (symbol 0 2 0 0) (λ h. absurd (false≢true h)) (λ _ some. absurd (false≢true (sym some))) (λ h. absurd (false≢true h)),
  all_one (λ r. OwnMoves third r × CopiesElsewhere third r) (reloc 6 2 8)
      (λ s is _ self. let same : symbol 0 2 0 0 ≡ s = cc in absurd (false≢true (subst (λ (t : Symbol). binds_itself t ≡ true) (sym same) self)), λ s is copies. absurd (false≢true copies)),
))

without_there : FixedIsSame (λ at o. All (λ s. IsLinked s) o.symbols × All (λ r. OwnMoves o.symbols r × CopiesElsewhere o.symbols r) o.relocations) → ⊥
unfolding toy with_parts symbol null reloc is_linkable is_absolute is_in_section is_global is_visible has_plain_kind has_value moves is_canonical is_undefined is_local is_tls binds_itself
without_there law = to_zero (toy_says (λ at o. All (λ s. IsLinked s) o.symbols × All (λ r. OwnMoves o.symbols r × CopiesElsewhere o.symbols r) o.relocations) fourth (reloc 6 2 8 ∷ []) 0 0 law (
  all_three (λ s. IsLinked s) null (symbol 18446744073709547520 1 0 5) (symbol 0 1 0 0) (λ h. absurd (false≢true h)) (λ _. refl) (λ h. absurd (false≢true h)),
  all_one (λ r. OwnMoves fourth r × CopiesElsewhere fourth r) (reloc 6 2 8)
      (λ s is _ self. let same : symbol 0 1 0 0 ≡ s = cc in absurd (false≢true (subst (λ (t : Symbol). binds_itself t ≡ true) (sym same) self)), λ s is copies. absurd (false≢true copies)),
))

pub each_is_needed : EachIsNeeded
each_is_needed = record { elsewhere = without_elsewhere; own = without_own; linked = without_linked; there = without_there }

-- ---- programs that are fixed alike

at_entry : ℕ → Object
at_entry entry = with_parts entry [] [] []

pub two_are_fixed_alike : TwoAreFixedAlike
unfolding symbol fixed_symbol moves is_tls is_in_section is_canonical is_undefined is_local fixed fixed_header fixed_entry at_entry with_parts header_from load_from fixed_segment is_moved_kind
two_are_fixed_alike = record {
  undefined = (symbol 18446743936270598144 1 0 0, symbol 0 1 0 0, refl, refl);
  entry = (at_entry 18446743936270598144, at_entry 0, refl, refl);
  page = (load_from 0, load_from 4096, refl, refl);
}
