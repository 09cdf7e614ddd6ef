-- Whether the relocations of a scope have values does not depend on where its members are.
use Rattle.std.proofs.Common.{◌≡◌, ℕ, Bool, true, false, List, [], ◌∷◌, Option, Some, None, Result, Ok, Err, refl}
use Rattle.std.specs.Prelude.{◌||◌, ◌==◌, min, if◌then◌else◌}
use Rattle.std.specs.Result.{is_ok}
use Rattle.std.proofs.lemmas.Bool.{false≢true, true≢false}
use Rattle.pl_base.specs.Answers.{◌>>=◌, refuse, unless}
use Rattle.pl_base.specs.Each.{each}
use Rattle.pl_elf.specs.declared.constants.TheConstants.{R_X86_64_64, R_X86_64_COPY, R_X86_64_GLOB_DAT, R_X86_64_JUMP_SLOT, R_X86_64_RELATIVE}
use Rattle.pl_object.specs.Relocations.{size_of}
use Rattle.pl_object.specs.declared.object.Object.{Object}
use Rattle.pl_object.specs.declared.reloc.Reloc.{Reloc}
use Rattle.pl_scope.specs.Finds.{own_symbol}
use Rattle.pl_scope.specs.declared.reference.Reference.{Reference}
use Rattle.pl_sym.specs.Symbol.{is_absolute, is_tls}
use Rattle.pl_tls.specs.declared.module.Module.{Module}
use Rattle.pl_value.specs.Copies.{copied, copy, copy_from, is_outside}
use Rattle.pl_value.specs.Definers.{Definer, definer, is_weak}
use Rattle.pl_value.specs.Meanings.{Row, given, meaning, meanings, rows}
use Rattle.pl_value.specs.Targets.{address, added, base_of, target, target_from}
use Rattle.pl_value.specs.Values.{reference, value_of}
use Rattle.pl_value.specs.declared.fault.LinkFault.{LinkFault}
use Rattle.pl_value.specs.declared.fault.LinkFault.TheVariants.{CopyOutside, TlsMismatch}
use Rattle.pl_value.specs.declared.word.Word.TheVariants.{Copy, Nothing, Put}

-- both give an answer, or neither does
abbrev Alike : {X Y E F : Type 0} → Result X E → Result Y F → Type 0
Alike r s = is_ok r ≡ is_ok s

choice_alike : {X E : Type 0} (b : Bool) (x y z w : Result X E) → Alike x y → Alike z w → Alike (if b then x else z) (if b then y else w)
choice_alike true x y z w first second = first
choice_alike false x y z w first second = second

then_alike : {X Y E : Type 0} (r s : Result X E) (f g : X → Y) → Alike r s → Alike (r >>= λ x. Ok (f x)) (s >>= λ x. Ok (g x))
then_alike (Ok x) (Ok y) f g e = refl
then_alike (Ok x) (Err y) f g e = absurd (true≢false e)
then_alike (Err x) (Ok y) f g e = absurd (false≢true e)
then_alike (Err x) (Err y) f g e = refl

unless_alike : {X E : Type 0} (b : Bool) (fault : E) (x y : Result X E) → Alike x y → Alike (unless b fault x) (unless b fault y)
unless_alike true fault x y e = refl
unless_alike false fault x y e = e

refuse_alike : {X E : Type 0} (rows : List (Bool × E)) (x y : Result X E) → Alike x y → Alike (refuse rows x) (refuse rows y)
refuse_alike [] x y e = e
refuse_alike (row ∷ rows) x y e = unless_alike row.0 row.1 (refuse rows x) (refuse rows y) (refuse_alike rows x y e)

pair_alike : {A E : Type 0} (r s : Result A E) (xs ys : Result (List A) E) → Alike r s → Alike xs ys → Alike (r >>= λ y. xs >>= λ zs. Ok (y ∷ zs)) (s >>= λ y. ys >>= λ zs. Ok (y ∷ zs))
pair_alike (Ok y) (Ok z) xs ys first rest = then_alike xs ys (λ zs. y ∷ zs) (λ zs. z ∷ zs) rest
pair_alike (Ok y) (Err z) xs ys first rest = absurd (true≢false first)
pair_alike (Err y) (Ok z) xs ys first rest = absurd (false≢true first)
pair_alike (Err y) (Err z) xs ys first rest = refl

all_alike : {A B E : Type 0} (f g : A → Result B E) (xs : List A) → ((x : A) → Alike (f x) (g x)) → Alike (each f xs) (each g xs)
unfolding each
all_alike f g [] one = refl
all_alike f g (x ∷ xs) one = pair_alike (f x) (g x) (each f xs) (each g xs) (one x) (all_alike f g xs one)

module _ (objects : List Object) (here there : List ℕ) where
  from_alike : (r : Reference) (weak : Bool) (d : Option Definer) → Alike (target_from here r weak d) (target_from there r weak d)
  from_alike r weak None = refl
  from_alike r weak (Some d) = unless_alike (is_tls d.symbol) _ (Ok (address here d)) (Ok (address there d)) refl

  target_alike : (r : Reference) → Alike (target objects here r) (target objects there r)
  unfolding target
  target_alike r = choice_alike (r.symbol == 0) (Ok 0) (Ok 0) (target_from here r (is_weak objects r) (definer objects r)) (target_from there r (is_weak objects r) (definer objects r)) refl (from_alike r (is_weak objects r) (definer objects r))

  bytes_alike : (r : Reference) (weak : Bool) (size : ℕ) (d : Option Definer) → Alike (copy_from here r weak size d) (copy_from there r weak size d)
  unfolding copied
  bytes_alike r weak size None = refl
  bytes_alike r weak size (Some d) =
      let bytes : ℕ = min size d.symbol.size in
      let tests : List (Bool × LinkFault) = (is_tls d.symbol, TlsMismatch r.member r.symbol) ∷ (is_absolute d.symbol || is_outside d.object.segments d.symbol.value bytes, CopyOutside r.member r.symbol) ∷ [] in
      refuse_alike tests (Ok (Copy d.member (address here d) bytes)) (Ok (Copy d.member (address there d) bytes)) refl

  copy_alike : (r : Reference) → Alike (copy objects here r) (copy objects there r)
  unfolding copy
  copy_alike r =
      choice_alike (r.symbol == 0) (Ok Nothing) (Ok Nothing) (copy_from here r (is_weak objects r) (size_of (own_symbol objects r)) (definer objects r)) (copy_from there r (is_weak objects r) (size_of (own_symbol objects r)) (definer objects r)) refl
      (bytes_alike r (is_weak objects r) (size_of (own_symbol objects r)) (definer objects r))

  value_alike : (modules : List Module) (member : ℕ) (r : Reloc) → Alike (value_of objects here modules member r) (value_of objects there modules member r)
  unfolding value_of
  value_alike modules member r =
      let ref : Reference = reference member r in
      choice_alike (r.kind == R_X86_64_RELATIVE) (Ok (Put (added (base_of here member) r.addend))) (Ok (Put (added (base_of there member) r.addend))) _ _ refl
      (choice_alike (r.kind == R_X86_64_64) (target objects here ref >>= λ s. Ok (Put (added s r.addend))) (target objects there ref >>= λ s. Ok (Put (added s r.addend))) _ _
      (then_alike (target objects here ref) (target objects there ref) (λ s. Put (added s r.addend)) (λ s. Put (added s r.addend)) (target_alike ref))
      (choice_alike (r.kind == R_X86_64_GLOB_DAT || r.kind == R_X86_64_JUMP_SLOT) (target objects here ref >>= λ s. Ok (Put s)) (target objects there ref >>= λ s. Ok (Put s)) _ _
      (then_alike (target objects here ref) (target objects there ref) (λ s. Put s) (λ s. Put s) (target_alike ref))
      (choice_alike (r.kind == R_X86_64_COPY) (copy objects here ref) (copy objects there ref) _ _ (copy_alike ref) refl)))

  one_alike : (modules : List Module) (row : Row) → Alike (meaning objects here modules row) (meaning objects there modules row)
  unfolding meaning
  one_alike modules row =
      then_alike (value_of objects here modules row.member row.reloc) (value_of objects there modules row.member row.reloc) (λ word. given here row word) (λ word. given there row word) (value_alike modules row.member row.reloc)

  pub meanings_alike : (modules : List Module) → Alike (meanings objects here modules) (meanings objects there modules)
  unfolding meanings
  meanings_alike modules = all_alike (meaning objects here modules) (meaning objects there modules) (rows objects) (one_alike modules)
