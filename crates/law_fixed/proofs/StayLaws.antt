-- Fixing moves no byte of the file, and what moves is not told by what is moved.
use Rattle.std.proofs.Common.{◌≡◌, ℕ, ◌+◌, ◌-◌, ◌^◌, ◌<◌, ◌≤◌, Bool, true, false, List, [], ◌∷◌, map, Some, refl, sym, ◌∙◌, arith, inl, inr}
use Rattle.std.specs.Prelude.{◌&&◌, ◌==◌, nat_le, nat_lt}
use Rattle.std.specs.List.{All, list_any}
use Rattle.std.proofs.lemmas.Bool.{cases_Bool, false≢true, cases_lt}
use Rattle.std.proofs.lemmas.Bool.Decides.{nat_tests}
use Rattle.std.proofs.lemmas.List.Elements.{All-head, All-tail}
use Rattle.pl_elf.specs.declared.constants.TheConstants.{ADDRESS_LIMIT}
use Rattle.law_fixed.specs.Fixed.{fixed_entry, KeepsItsKind, fixed, fixed_reloc, fixed_segment, fixed_symbol, moves, with_value}
use Rattle.law_fixed.specs.Stays.{MovesStay, OutsideStays, Stands, WindowsStay, moved_window}
use Rattle.pl_object.specs.declared.object.Object.{Object}
use Rattle.pl_object.specs.declared.reloc.Reloc.{Reloc}
use Rattle.pl_elf.specs.declared.segment.Segment.{Segment}
use Rattle.pl_sym.specs.declared.symbol.Symbol.{Symbol}
use Rattle.pl_base.specs.Windows.{Window}
use Rattle.pl_object.specs.FilePart.{file_window, loaded_by, loads_byte}
use Rattle.pl_sym.specs.Definers.{is_canonical}
use Rattle.pl_value.specs.Copies.{is_in_load, is_outside}
use Rattle.pl_sym.specs.Symbol.{is_in_section, is_local, is_tls, is_undefined}
use Rattle.pl_elf.specs.Headers.{is_load, is_moved_kind}
use Rattle.pl_base.specs.Sums.{plus}
use Rattle.law_fixed.proofs.LookupLaws.{fixed_is, definer_kept}
use Rattle.law_fixed.proofs.ImageLaws.{load_moves}

-- ---- tests on numbers

bool_same : (a b : Bool) → (a ≡ true → b ≡ true) → (b ≡ true → a ≡ true) → a ≡ b
bool_same true true f g = refl
bool_same false false f g = refl
bool_same true false f g = sym (f refl)
bool_same false true f g = g refl

-- an address in a run of so many bytes, both moved
run_moved : (at v start n : ℕ) → v < 2 ^ 64 → at + (start + n) ≤ ADDRESS_LIMIT → (nat_le (start + at) (plus v at) && nat_lt (plus v at) (start + at + n)) ≡ (nat_le start v && nat_lt v (start + n))
run_moved at v start n below fits = elim (cases_lt (v + at) (2 ^ 64)) [
  | inl lt ↦ let e : plus v at ≡ v + at = omega (arith, lt) in rw e (bool_same _ _ (λ h. grind (arith, nat_tests)) (λ h. grind (arith, nat_tests)))
  | inr le ↦ let e : plus v at ≡ v + at - 2 ^ 64 = omega (arith, le, below, fits) in rw e (bool_same _ _ (λ h. grind (arith, nat_tests)) (λ h. grind (arith, nat_tests)))
]

-- a window inside such a run
inside_moved : (at v size start n : ℕ) → v < 2 ^ 64 → at + (start + n) ≤ ADDRESS_LIMIT → (nat_le (start + at) (plus v at) && nat_le (plus v at + size) (start + at + n)) ≡ (nat_le start v && nat_le (v + size) (start + n))
inside_moved at v size start n below fits = elim (cases_lt (v + at) (2 ^ 64)) [
  | inl lt ↦ let e : plus v at ≡ v + at = omega (arith, lt) in rw e (bool_same _ _ (λ h. grind (arith, nat_tests)) (λ h. grind (arith, nat_tests)))
  | inr le ↦ let e : plus v at ≡ v + at - 2 ^ 64 = omega (arith, le, below, fits) in rw e (bool_same _ _ (λ h. grind (arith, nat_tests)) (λ h. grind (arith, nat_tests)))
]

-- ---- segments

load_start : (at : ℕ) (s : Segment) → is_load s ≡ true → at + (s.vaddr + s.memsz) ≤ ADDRESS_LIMIT → (fixed_segment at s).vaddr ≡ s.vaddr + at
unfolding fixed_segment
load_start at s load fits = rw (load_moves s load) (omega (arith, fits))

load_kept : (at : ℕ) (s : Segment) → is_load (fixed_segment at s) ≡ is_load s
unfolding fixed_segment
load_kept at s = refl

offset_kept : (at : ℕ) (s : Segment) → (fixed_segment at s).offset ≡ s.offset
unfolding fixed_segment
offset_kept at s = refl

filesz_kept : (at : ℕ) (s : Segment) → (fixed_segment at s).filesz ≡ s.filesz
unfolding fixed_segment
filesz_kept at s = refl

memsz_kept : (at : ℕ) (s : Segment) → (fixed_segment at s).memsz ≡ s.memsz
unfolding fixed_segment
memsz_kept at s = refl

loads_byte_moved : (at a : ℕ) (s : Segment) → Stands at s → a < 2 ^ 64 → loads_byte (plus a at) (fixed_segment at s) ≡ loads_byte a s
unfolding loads_byte
loads_byte_moved at a s stands below = elim (cases_Bool (is_load s)) [
  | inr other ↦ rw (load_kept at s, other) refl
  | inl load ↦ rw (load_kept at s, load, load_start at s load (stands.ends load), filesz_kept at s) (run_moved at a s.vaddr s.filesz below (omega (arith, stands.file load, stands.ends load)))
]

-- a window that begins in the file bytes of a segment
window_moved : (at : ℕ) (w : Window) (s : Segment) → Stands at s → loads_byte w.at s ≡ true → loaded_by (moved_window at w) (Some (fixed_segment at s)) ≡ loaded_by w (Some s)
unfolding loads_byte
window_moved at w s stands hit =
    let load : is_load s ≡ true = first (is_load s) (nat_le s.vaddr w.at) (nat_lt w.at (s.vaddr + s.filesz)) hit in
    let runs = run (is_load s) s.vaddr w.at (s.vaddr + s.filesz) hit in
    let fits = stands.ends load in
    let few = stands.file load in
    let e : plus w.at at ≡ w.at + at = omega (arith, fits, few, runs.1) in
    let o : s.offset + (w.at + at - (s.vaddr + at)) ≡ s.offset + (w.at - s.vaddr) = omega (arith, runs.0) in
    let z : s.vaddr + at + s.filesz - (w.at + at) ≡ s.vaddr + s.filesz - w.at = omega (arith, runs.1) in
    rw (offset_kept at s, filesz_kept at s, load_start at s load fits, e, o, z) refl
  where
    first : (a b c : Bool) → (a && b && c) ≡ true → a ≡ true
    first true b c h = refl
    first false b c h = h

    run : (a : Bool) (x y z : ℕ) → (a && nat_le x y && nat_lt y z) ≡ true → (x ≤ y) × (y < z)
    run true x y z h = grind (arith, nat_tests)
    run false x y z h = absurd (false≢true h)

pub windows_stay : WindowsStay
unfolding file_window
windows_stay at [] w all below = refl
windows_stay at (s ∷ ss) w all below =
    let stands : Stands at s = All-head (Stands at) s ss all in
    let rest = windows_stay at ss w (All-tail (Stands at) s ss all) below in
    let same = loads_byte_moved at w.at s stands below in
    elim (cases_Bool (loads_byte w.at s)) [
      | inl hit ↦ rw (same, hit) (window_moved at w s stands hit)
      | inr miss ↦ rw (same, miss) rest
    ]

-- ---- what would be copied

in_load_moved : (at from size : ℕ) (s : Segment) → Stands at s → from < 2 ^ 64 → is_in_load (plus from at) size (fixed_segment at s) ≡ is_in_load from size s
unfolding is_in_load
in_load_moved at from size s stands below = elim (cases_Bool (is_load s)) [
  | inr other ↦ rw (load_kept at s, other) refl
  | inl load ↦ rw (load_kept at s, load, load_start at s load (stands.ends load), memsz_kept at s) (inside_moved at from size s.vaddr s.memsz below (stands.ends load))
]

any_in_load : (at from size : ℕ) (ss : List Segment) → All (Stands at) ss → from < 2 ^ 64 → list_any (is_in_load (plus from at) size) (map (fixed_segment at) ss) ≡ list_any (is_in_load from size) ss
any_in_load at from size [] all below = refl
any_in_load at from size (s ∷ ss) all below =
    rw (in_load_moved at from size s (All-head (Stands at) s ss all) below, any_in_load at from size ss (All-tail (Stands at) s ss all) below) refl

pub outside_stays : OutsideStays
unfolding is_outside
outside_stays at ss from size all below = rw (any_in_load at from size ss all below) refl

-- ---- what moves

with_kept : (v : ℕ) (s : Symbol) → is_canonical (with_value v s) ≡ is_canonical s → moves (with_value v s) ≡ moves s
unfolding moves is_tls is_in_section
with_kept v s h = rw h refl

canonical_kept : (v : ℕ) (s : Symbol) → v == 0 ≡ s.value == 0 → is_canonical (with_value v s) ≡ is_canonical s
unfolding is_canonical is_undefined is_local
canonical_kept v s h = rw h refl

section_kept : (v : ℕ) (s : Symbol) → is_undefined s ≡ false → is_canonical (with_value v s) ≡ is_canonical s
unfolding is_canonical is_undefined
section_kept v s h = rw h refl

defined : (s : Symbol) → moves s ≡ true → s.value == 0 ≡ true → is_undefined s ≡ false
unfolding moves is_canonical is_in_section is_undefined
defined s goes none = grind (arith, goes, none)

moves_kept : (at : ℕ) (s : Symbol) → KeepsItsKind at s → moves (fixed_symbol at s) ≡ moves s
moves_kept at s kept = fixed_is at s (λ (t : Symbol). moves t ≡ moves s) (λ _. refl) (λ goes. with_kept (plus s.value at) s (elim (cases_Bool (s.value == 0)) [
  | inl none ↦ section_kept (plus s.value at) s (defined s goes none)
  | inr some ↦ canonical_kept (plus s.value at) s (kept.there goes some ∙ sym some)
]))

moving_kept : (at : ℕ) (s : Segment) → is_moved_kind (fixed_segment at s).kind ≡ is_moved_kind s.kind
unfolding fixed_segment is_moved_kind
moving_kept at s = refl

kind_kept : (at : ℕ) (r : Reloc) → (fixed_reloc at r).kind ≡ r.kind
unfolding fixed_reloc
kind_kept at r = refl

entry_kept : (at : ℕ) (o : Object) → 0 < at → at < ADDRESS_LIMIT → o.entry < ADDRESS_LIMIT → ((fixed at o).entry == 0) ≡ (o.entry == 0)
unfolding fixed fixed_entry
entry_kept at o some below small = elim (cases_Bool (o.entry == 0)) [
  | inl none ↦ rw none refl
  | inr there ↦ rw there (not_zero (plus o.entry at) (omega (arith, some, below, small)))
]
  where
    not_zero : (n : ℕ) → 0 < n → n == 0 ≡ false
    not_zero n lt = grind (arith, nat_tests)

pub moves_stay : MovesStay
moves_stay = record { symbols = moves_kept; definers = definer_kept; segments = moving_kept; relocations = kind_kept; entry = entry_kept }
