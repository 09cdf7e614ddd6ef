-- Which symbols define a name for some references alone.
use Rattle.std.proofs.Common.{◌≡◌, ℕ, Bool, true, false, List, refl}
use Rattle.std.specs.Prelude.{not, ◌&&◌, ◌||◌, ◌==◌}
use Rattle.std.specs.Str.{bytes_eq}
use Rattle.pl_elf.specs.Kinds.{is_program}
use Rattle.pl_object.specs.declared.object.Object.{Object}
use Rattle.pl_sym.specs.Definers.{is_canonical, is_definition}
use Rattle.pl_sym.specs.Symbol.{is_local, is_undefined}
use Rattle.pl_sym.specs.declared.symbol.Symbol.{Symbol}
use Rattle.pl_scope.specs.Matching.{defines}
use Rattle.pl_scope.specs.Probing.{is_canonical_of}

three : (u l z : Bool) → (not z && u) ≡ false → (u && not l && not z) ≡ false
three false l z e = refl
three true true z e = refl
three true false true e = refl
three true false false e = e

no_canonical : (s : Symbol) → (not (s.value == 0) && is_undefined s) ≡ false → is_canonical s ≡ false
unfolding is_canonical
no_canonical s e = three (is_undefined s) (is_local s) (s.value == 0) e

for_none : (d p n : Bool) → (((d || (p && false)) && n) && not (d && n)) ≡ false
for_none true p true = refl
for_none true p false = refl
for_none false true n = refl
for_none false false n = refl

pub not_canonical : (o : Object) (name : List ℕ) (s : Symbol) → (not (s.value == 0) && is_undefined s) ≡ false → is_canonical_of o name s ≡ false
unfolding defines
not_canonical o name s e = rw (no_canonical s e) (for_none (is_definition s) (is_program o.kind) (bytes_eq s.name name))
