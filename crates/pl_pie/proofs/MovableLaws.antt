-- A position-independent program has what the law of images asks of a program.
use Rattle.std.proofs.Common.{◌≡◌, ℕ, ◌+◌, ◌<◌, ◌≤◌, Bool, true, false, List, refl, arith}
use Rattle.std.specs.Prelude.{◌&&◌, ◌||◌, ◌==◌, not, nat_le}
use Rattle.std.specs.List.{list_any}
use Rattle.std.proofs.lemmas.Bool.{false≢true, true≢false, or_parts}
use Rattle.std.proofs.lemmas.Bool.Decides.{nat_tests}
use Rattle.pl_base.specs.Sums.{plus}
use Rattle.pl_elf.specs.declared.constants.TheConstants.{ADDRESS_LIMIT}
use Rattle.pl_sym.specs.Symbol.{is_absolute, is_in_section}
use Rattle.pl_sym.specs.Definers.{is_linkable, has_value}
use Rattle.pl_sym.specs.declared.symbol.Symbol.{Symbol}
use Rattle.pl_object.specs.declared.object.Object.{Object}
use Rattle.pl_object.specs.declared.reloc.Reloc.{Reloc}
use Rattle.pl_scope.specs.Finds.{binds_itself}
use Rattle.pl_value.proofs.LoneLaws.{none_at}
use Rattle.law_fixed.specs.Fixed.{KeepsItsKind, RefersWell, IsMovable}
use Rattle.pl_pie.specs.Pie.{has_high, is_high, lacks_value, refers_apart, copies_itself, refers_badly, is_linked}
use Rattle.pl_pie.proofs.PieLaws.{IsPie, and_both, not_true}

-- ---- symbols

unless_both : (a b : Bool) → (a && not b) ≡ false → a ≡ true → b ≡ true
unless_both true true h e = refl
unless_both true false h e = absurd (true≢false h)
unless_both false b h e = absurd (false≢true e)

not_zero : (n : ℕ) → 0 < n → n == 0 ≡ false
not_zero n lt = grind (arith, nat_tests)

pub below_limit : (v : ℕ) → nat_le ADDRESS_LIMIT v ≡ false → v < ADDRESS_LIMIT
below_limit v h = grind (arith, nat_tests)

some_value : (v : ℕ) → v == 0 ≡ false → 0 < v
some_value v h = grind (arith, nat_tests)

stays_there : (at v : ℕ) → at ≤ ADDRESS_LIMIT → v < ADDRESS_LIMIT → 0 < v → plus v at == 0 ≡ false
stays_there at v small below some = let e : plus v at ≡ v + at = omega (arith, small, below) in rw e (not_zero (v + at) (omega (arith, some)))

keeps : (at : ℕ) (s : Symbol) → at ≤ ADDRESS_LIMIT → lacks_value s ≡ false → is_high s ≡ false → KeepsItsKind at s
keeps at s small lacks high = record {
  linked = unless_both (is_linkable s) (has_value s) lacks;
  there = λ goes some. stays_there at s.value small (below_limit s.value (rw goes at high)) (some_value s.value some);
}

-- ---- relocations

refers : (o : Object) (r : Reloc) → refers_badly o r ≡ false → RefersWell o.symbols r
refers o r h =
    let p = or_parts (refers_apart o r) (copies_itself o r) h in
    record {
      own = λ s there some self. section s (rw (some, there) at p.0) self;
      elsewhere = λ s there copies. rw (copies, there) at p.1;
    }
  where
    section : (s : Symbol) → (binds_itself s && not (is_absolute s || is_in_section s)) ≡ false → binds_itself s ≡ true → (is_absolute s || is_in_section s) ≡ true
    section s e self = unless_both (binds_itself s) (is_absolute s || is_in_section s) e self

-- ---- all of them

pub movable : (bytes : List ℕ) (o : Object) (at : ℕ) → IsPie bytes o → at ≤ ADDRESS_LIMIT → IsMovable at o
unfolding is_linked has_high
movable bytes o at is small =
    let a = and_both (not (nat_le ADDRESS_LIMIT o.entry || list_any is_high o.symbols) && not (list_any lacks_value o.symbols)) (not (list_any (refers_badly o) o.relocations)) is.linked in
    let b = and_both (not (nat_le ADDRESS_LIMIT o.entry || list_any is_high o.symbols)) (not (list_any lacks_value o.symbols)) a.0 in
    let high = or_parts (nat_le ADDRESS_LIMIT o.entry) (list_any is_high o.symbols) (not_true (nat_le ADDRESS_LIMIT o.entry || list_any is_high o.symbols) b.0) in
    let lacks : list_any lacks_value o.symbols ≡ false = not_true (list_any lacks_value o.symbols) b.1 in
    let bad : list_any (refers_badly o) o.relocations ≡ false = not_true (list_any (refers_badly o) o.relocations) a.1 in
    record {
      symbols = λ i d lt. keeps at _ small (none_at lacks_value o.symbols i d lt lacks) (none_at is_high o.symbols i d lt high.1);
      relocations = λ i d lt. refers o _ (none_at (refers_badly o) o.relocations i d lt bad);
    }
