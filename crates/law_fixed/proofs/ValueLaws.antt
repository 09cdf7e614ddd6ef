-- A fixed program's relocations give what the loaded one's give.
use Rattle.std.proofs.Common.{◌≡◌, ℕ, zero, suc, Bool, true, false, List, ◌∷◌, Option, Some, None, Ok, refl, sym, ap, subst, ◌∙◌, arith, inl, inr}
use Rattle.std.specs.Prelude.{ℤ, ◌||◌, ◌&&◌, not, ◌==◌, slice_get, nat_le}
use Rattle.std.specs.Option.{option_map, option_and_then}
use Rattle.std.specs.List.{All}
use Rattle.std.specs.Int.{w64, cast_unsigned}
use Rattle.std.proofs.lemmas.Bool.{cases_Bool, false≢true}
use Rattle.std.proofs.lemmas.Bool.Decides.{nat_tests}
use Rattle.std.proofs.lemmas.Int.{of_z-to_z}
use Rattle.law_fixed.specs.Fixed.{KeepsItsKind, RefersWell, fixed, fixed_reloc, fixed_symbol, moved_addend, moves}
use Rattle.pl_tls.specs.declared.module.Module.{Module}
use Rattle.pl_object.specs.declared.object.Object.{Object}
use Rattle.pl_value.specs.declared.word.Word.TheVariants.{Put}
use Rattle.pl_elf.specs.declared.constants.TheConstants.{R_X86_64_COPY, R_X86_64_RELATIVE}
use Rattle.pl_scope.specs.declared.reference.Reference.{Reference}
use Rattle.pl_object.specs.declared.reloc.Reloc.{Reloc}
use Rattle.pl_sym.specs.declared.symbol.Symbol.{Symbol}
use Rattle.pl_value.specs.Targets.{added, address, target, target_from}
use Rattle.pl_value.specs.Copies.{copied, copy, copy_from}
use Rattle.pl_value.specs.Tls.{has_block, variable, variable_from, word}
use Rattle.pl_sym.specs.Symbol.{is_absolute, is_in_section, is_local, is_tls, is_undefined}
use Rattle.pl_sym.specs.Definers.{is_canonical}
use Rattle.pl_value.specs.Definers.{is_weak, is_weak_symbol}
use Rattle.pl_scope.specs.Finds.{own_symbol}
use Rattle.pl_base.specs.Sums.{plus}
use Rattle.pl_value.specs.Values.{reference, value_of}
use Rattle.pl_object.specs.Relocations.{size_of}
use Rattle.law_fixed.proofs.LookupLaws.{tls_kept, absolute_kept, size_kept, bind_kept, symbol_kept}
use Rattle.law_fixed.proofs.FoundLaws.{is_placed, IsGood, definer_of, definer_cases}

-- ---- addresses

number_apart : (n : ℕ) (b c : Bool) → n == 65521 ≡ true → ((not (n == 0) && not (nat_le 65280 n && nat_le n 65535)) || (n == 0 && b && c)) ≡ false
number_apart n b c h = let e : n ≡ 65521 = grind (arith, nat_tests) in rw e refl

and_false : (a b : Bool) → b ≡ false → (a && b) ≡ false
and_false true b h = h
and_false false b h = refl

number_stays : (s : Symbol) → is_absolute s ≡ true → moves s ≡ false
unfolding moves is_absolute is_in_section is_canonical is_undefined
number_stays s h = and_false (not (is_tls s)) (is_in_section s || is_canonical s) (number_apart s.section (not (is_local s)) (not (s.value == 0)) h)

block_stays : (s : Symbol) → is_tls s ≡ true → moves s ≡ false
unfolding moves
block_stays s h = rw h refl

stays : (at : ℕ) (s : Symbol) → moves s ≡ false → fixed_symbol at s ≡ s
unfolding fixed_symbol
stays at s h = rw h refl

goes : (at : ℕ) (s : Symbol) → moves s ≡ true → (fixed_symbol at s).value ≡ plus s.value at
unfolding fixed_symbol
goes at s h = rw h refl

placed_moves : (s : Symbol) → is_placed s ≡ true → is_absolute s ≡ false → is_tls s ≡ false → moves s ≡ true
unfolding is_placed
placed_moves s h number block = or_none (moves s) (rw (number, block) at h)
  where
    or_none : (a : Bool) → (a || false) ≡ true → a ≡ true
    or_none true e = refl
    or_none false e = e

pub sum_moved : (at v : ℕ) → plus 0 (plus v at) ≡ plus at v
sum_moved at v = omega arith

address_own : (at : ℕ) (o : Object) (ps : List ℕ) (x : Symbol) → is_placed x ≡ true → is_tls x ≡ false → address (0 ∷ ps) (definer_of 0 (fixed at o) (fixed_symbol at x)) ≡ address (at ∷ ps) (definer_of 0 o x)
unfolding address
address_own at o ps x placed block = elim (cases_Bool (is_absolute x)) [
  | inl number ↦ rw (stays at x (number_stays x number), number) refl
  | inr other ↦ rw (absolute_kept at x, other, goes at x (placed_moves x placed other block)) (sum_moved at x.value)
]

-- ---- references

-- the references of the program's relocations, and all of other members
unfoldable pub Good : Object → Reference → Type 0
Good o r = r.symbol == 0 ≡ false → IsGood o r

own_symbol_kept : (at : ℕ) (o : Object) (os : List Object) (r : Reference) (P : Option Symbol → Option Symbol → Type 0) → P None None → ((s : Symbol) → P (Some s) (Some s)) → ((s : Symbol) → P (Some s) (Some (fixed_symbol at s)))
    → P (own_symbol (o ∷ os) r) (own_symbol (fixed at o ∷ os) r)
own_symbol_kept at o os r P none same other = of_member_at r.member
  where
    of_one : (m : Option Symbol) → P m m
    of_one None = none
    of_one (Some s) = same s

    of_own : (m : Option Symbol) → P m (option_map (fixed_symbol at) m)
    of_own None = none
    of_own (Some s) = other s

    of_member_at : (m : ℕ) → P (option_and_then (λ p. slice_get p.symbols r.symbol) (slice_get (o ∷ os) m)) (option_and_then (λ p. slice_get p.symbols r.symbol) (slice_get (fixed at o ∷ os) m))
    of_member_at zero = subst (λ (m : Option Symbol). P (slice_get o.symbols r.symbol) m) (sym (symbol_kept at o r.symbol)) (of_own (slice_get o.symbols r.symbol))
    of_member_at (suc k) = of_one (option_and_then (λ p. slice_get p.symbols r.symbol) (slice_get os k))

weak_kept : (at : ℕ) (o : Object) (os : List Object) (r : Reference) → is_weak (fixed at o ∷ os) r ≡ is_weak (o ∷ os) r
unfolding is_weak
weak_kept at o os r = own_symbol_kept at o os r (λ m n. is_weak_symbol n ≡ is_weak_symbol m) refl (λ s. refl) (λ s. rw (bind_kept at s) refl)

sizes_kept : (at : ℕ) (o : Object) (os : List Object) (r : Reference) → size_of (own_symbol (fixed at o ∷ os) r) ≡ size_of (own_symbol (o ∷ os) r)
sizes_kept at o os r = own_symbol_kept at o os r (λ m n. size_of n ≡ size_of m) refl (λ s. refl) (λ s. size_kept at s)

target_own : (at : ℕ) (o : Object) (ps : List ℕ) (r : Reference) (weak : Bool) (x : Symbol) → is_placed x ≡ true → target_from (0 ∷ ps) r weak (Some (definer_of 0 (fixed at o) (fixed_symbol at x))) ≡ target_from (at ∷ ps) r weak (Some (definer_of 0 o x))
target_own at o ps r weak x placed = elim (cases_Bool (is_tls x)) [
  | inl block ↦ rw (tls_kept at x, block) refl
  | inr plain ↦ rw (tls_kept at x, plain, address_own at o ps x placed plain) refl
]

pub target_kept : (at : ℕ) (o : Object) (os : List Object) (ps : List ℕ) (r : Reference) → All (KeepsItsKind at) o.symbols → Good o r → target (fixed at o ∷ os) (0 ∷ ps) r ≡ target (o ∷ os) (at ∷ ps) r
unfolding target Good address
target_kept at o os ps r all good = elim (cases_Bool (r.symbol == 0)) [
  | inl none ↦ rw none refl
  | inr some ↦ rw (some, weak_kept at o os r)
      (definer_cases at o os r (λ d e. target_from (0 ∷ ps) r (is_weak (o ∷ os) r) e ≡ target_from (at ∷ ps) r (is_weak (o ∷ os) r) d) all (good some) refl (λ m p x is. refl)
      (λ x placed _. target_own at o ps r (is_weak (o ∷ os) r) x placed))
]

variable_own : (at : ℕ) (o : Object) (r : Reference) (x : Symbol) → variable_from r (Some (definer_of 0 (fixed at o) (fixed_symbol at x))) ≡ variable_from r (Some (definer_of 0 o x))
unfolding fixed
variable_own at o r x = elim (cases_Bool (is_tls x)) [
  | inl block ↦ rw (stays at x (block_stays x block)) refl
  | inr plain ↦ rw (tls_kept at x, plain) refl
]

block_kept : (at : ℕ) (o : Object) (os : List Object) (m : ℕ) → has_block (slice_get (fixed at o ∷ os) m) ≡ has_block (slice_get (o ∷ os) m)
unfolding fixed
block_kept at o os zero = refl
block_kept at o os (suc m) = refl

pub variable_kept : (at : ℕ) (o : Object) (os : List Object) (r : Reference) → All (KeepsItsKind at) o.symbols → Good o r → variable (fixed at o ∷ os) r ≡ variable (o ∷ os) r
unfolding variable Good
variable_kept at o os r all good = elim (cases_Bool (r.symbol == 0)) [
  | inl none ↦ rw (none, block_kept at o os r.member) refl
  | inr some ↦ rw some (definer_cases at o os r (λ d e. variable_from r e ≡ variable_from r d) all (good some) refl (λ m p x is. refl) (λ x _ _. variable_own at o r x))
]

pub copy_kept : (at : ℕ) (o : Object) (os : List Object) (ps : List ℕ) (r : Reference) → All (KeepsItsKind at) o.symbols → Good o r → r.kind == R_X86_64_COPY ≡ true → copy (fixed at o ∷ os) (0 ∷ ps) r ≡ copy (o ∷ os) (at ∷ ps) r
unfolding copy Good copied address
copy_kept at o os ps r all good copies = elim (cases_Bool (r.symbol == 0)) [
  | inl none ↦ rw none refl
  | inr some ↦
      let weak = is_weak (o ∷ os) r in
      let size = size_of (own_symbol (o ∷ os) r) in
      rw (some, weak_kept at o os r, sizes_kept at o os r)
      (definer_cases at o os r (λ d e. copy_from (0 ∷ ps) r weak size e ≡ copy_from (at ∷ ps) r weak size d) all (good some) refl (λ m p x is. refl)
      (λ x _ not_copy. absurd (false≢true (sym not_copy ∙ copies))))
]

-- ---- words

pub addend_moved : (at : ℕ) (a : ℤ) → added 0 (moved_addend at a) ≡ added at a
addend_moved at a =
    let u : ℕ = cast_unsigned w64 a in
    ap (plus 0) (of_z-to_z w64 (plus u at) (omega arith)) ∙ sum_moved at u

-- the relocation of a member: the program's is fixed
abbrev pub reloc_in : ℕ → ℕ → Reloc → Reloc
reloc_in at zero r = fixed_reloc at r
reloc_in at (suc m) r = r

pub value_kept : (at : ℕ) (o : Object) (os : List Object) (ps : List ℕ) (modules : List Module) (r : Reloc) → All (KeepsItsKind at) o.symbols → RefersWell o.symbols r
    → value_of (fixed at o ∷ os) (0 ∷ ps) modules 0 (fixed_reloc at r) ≡ value_of (o ∷ os) (at ∷ ps) modules 0 r
unfolding value_of fixed_reloc Good word
value_kept at o os ps modules r all well =
    let q : Reference = reference 0 r in
    let good : Good o q = λ some. record { own = λ s _ there self. well.own s there some self; elsewhere = λ s _ there copies. well.elsewhere s there copies } in
    elim (cases_Bool (r.kind == R_X86_64_RELATIVE)) [
      | inl relative ↦ rw relative (ap (λ (n : ℕ). Ok (Put n)) (addend_moved at r.addend))
      | inr other ↦ elim (cases_Bool (r.kind == R_X86_64_COPY)) [
        | inl copies ↦ rw (other, target_kept at o os ps q all good, variable_kept at o os q all good, copy_kept at o os ps q all good copies) refl
        | inr moves_nothing ↦ rw (other, target_kept at o os ps q all good, variable_kept at o os q all good, moves_nothing) refl
      ]
    ]

pub value_other : (at : ℕ) (o : Object) (os : List Object) (ps : List ℕ) (modules : List Module) (m : ℕ) (r : Reloc) → All (KeepsItsKind at) o.symbols → value_of (fixed at o ∷ os) (0 ∷ ps) modules (suc m) r ≡ value_of (o ∷ os) (at ∷ ps) modules (suc m) r
unfolding value_of Good
value_other at o os ps modules m r all =
    let q : Reference = reference (suc m) r in
    let good : Good o q = λ some. record { own = λ s home. absurd (omega (arith, home)); elsewhere = λ s home. absurd (omega (arith, home)) } in
    elim (cases_Bool (r.kind == R_X86_64_COPY)) [
      | inl copies ↦ rw (target_kept at o os ps q all good, variable_kept at o os q all good, copy_kept at o os ps q all good copies) refl
      | inr not_copy ↦ rw (target_kept at o os ps q all good, variable_kept at o os q all good, not_copy) refl
    ]
