-- Acceptance sees to it that each relocation's symbol is one of its object's.
use Rattle.std.proofs.Common.{◌≡◌, ℕ, ◌<◌, false, List, Option, Some, length, get_or, ap, ◌∙◌, subst}
use Rattle.std.specs.Prelude.{not, nat_le, slice_get}
use Rattle.std.specs.List.{list_any, All}
use Rattle.std.proofs.lemmas.Option.{slice_get_within, slice_get-get_or}
use Rattle.std.proofs.lemmas.Bool.{or_parts, leb-false}
use Rattle.pl_object.specs.PlaceClauses.{is_bad, is_known}
use Rattle.pl_object.specs.declared.object.Object.{Object}
use Rattle.pl_object.specs.declared.reloc.Reloc.{Reloc}
use Rattle.pl_scope.specs.Scope.{IsFit, IsSymbol}
use Rattle.pl_value.specs.Linkable.{RefersToSymbols}
use Rattle.pl_value.specs.Values.{relocations_in, reloc_at}
use Rattle.pl_value.proofs.LoneLaws.{none_at}

symbol_below : (count : ℕ) (r : Reloc) → is_bad count r ≡ false → r.symbol < count
unfolding is_bad
symbol_below count r h = leb-false count r.symbol (or_parts (not (is_known r.kind)) (nat_le count r.symbol) h).1

pub refers_to_symbols : (o : Object) → list_any (is_bad (length o.symbols)) o.relocations ≡ false → RefersToSymbols o
refers_to_symbols o known = λ k d lt. symbol_below (length o.symbols) _ (none_at (is_bad (length o.symbols)) o.relocations k d lt known)

-- ---- in a scope

-- one of the symbols of a member
symbol_of : (os : List Object) (m n : ℕ) (o : Object) → slice_get os m ≡ Some o → n < length o.symbols → IsSymbol os m n
symbol_of os m n o e lt = record {
  member = slice_get_within os m o e;
  symbol = λ p at. let same : o ≡ p = cc in subst (λ (q : Object). n < length q.symbols) same lt;
}

pub all_symbols : (os : List Object) (m : ℕ) (o : Object) → IsFit o → slice_get os m ≡ Some o → All (λ r. IsSymbol os m r.symbol) o.relocations
all_symbols os m o fit e = λ k d lt. symbol_of os m (get_or o.relocations k d).symbol o e (refers_to_symbols o fit.relocs k d lt)

-- the relocation of an index
pub reloc_is : (os : List Object) (m i : ℕ) (o : Object) (d : Reloc) → slice_get os m ≡ Some o → i < length o.relocations → reloc_at os m i ≡ Some (get_or o.relocations i d)
reloc_is os m i o d e lt = ap (λ (x : Option Object). slice_get (relocations_in x) i) e ∙ slice_get-get_or o.relocations i d lt
