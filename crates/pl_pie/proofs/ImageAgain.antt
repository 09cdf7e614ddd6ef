-- The image of the object that is read of a fixed file is that of the fixed object: no byte and no relocation rests on where a link table without bytes stands.
use Rattle.std.proofs.Common.{◌≡◌, ℕ, zero, suc, false, List, [], ◌∷◌, length, Option, Some, None, Result, Ok, Err, refl, sym, ap, subst, ◌∙◌, arith, inl, inr}
use Rattle.std.specs.Prelude.{◌&&◌, nat_le, nat_lt, slice_get}
use Rattle.std.specs.List.{AllZip, list_any}
use Rattle.std.proofs.lemmas.Bool.Decides.{nat_tests}
use Rattle.pl_base.specs.Answers.{◌>>=◌}
use Rattle.pl_base.specs.Each.{each}
use Rattle.pl_base.specs.Memory.{Memory}
use Rattle.pl_elf.specs.Ranges.{has}
use Rattle.pl_elf.specs.declared.range.Range.{Range}
use Rattle.pl_sym.specs.declared.class.Class.{Class}
use Rattle.pl_sym.specs.declared.symbol.Symbol.{Symbol}
use Rattle.pl_tls.specs.declared.module.Module.{Module}
use Rattle.pl_object.specs.Relocations.{size_of}
use Rattle.pl_object.specs.declared.object.Object.{Object}
use Rattle.pl_object.specs.declared.reloc.Reloc.{Reloc}
use Rattle.pl_scope.specs.Finds.{class_of, finds, first_in, found_for, in_member, of_member, of_symbol, own_symbol, searched, version_wanted}
use Rattle.pl_scope.specs.Matching.{counts, defines, has_version, matching, unversioned, versioned}
use Rattle.pl_scope.specs.declared.found.Found.{Found}
use Rattle.pl_scope.specs.declared.reference.Reference.{Reference}
use Rattle.pl_image.specs.Loads.{is_masked, loaded_at, mask_at}
use Rattle.pl_image.specs.declared.loaded_object.LoadedObject.{LoadedObject}
use Rattle.pl_image.proofs.MaskLemmas.{masked_is}
use Rattle.pl_value.specs.Copies.{copied, copy, copy_from}
use Rattle.pl_value.specs.Definers.{Definer, definer, in_object, is_weak, is_weak_symbol, of_found, with_symbol}
use Rattle.pl_value.specs.Meanings.{Row, given, meaning, meanings, rows, rows_from}
use Rattle.pl_value.specs.Ordinary.{loaded_objects, loaded_from, ordinary, shown_linked}
use Rattle.pl_value.specs.Targets.{address, target, target_from}
use Rattle.pl_value.specs.Tls.{has_block, variable, variable_from}
use Rattle.pl_value.specs.Values.{reference, value_of}
use Rattle.pl_value.specs.declared.fault.LinkFault.{LinkFault}
use Rattle.pl_value.specs.declared.meaning.Meaning.{Meaning}
use Rattle.pl_value.specs.declared.word.Word.{Word}
use Rattle.law_fixed.specs.Laws.{SameImage}
use Rattle.pl_pie.specs.Laws.{IsSameRange}

-- ---- one object with other link tables

module _ (p : Object) (T : List Range) (os : List Object) where
  abbrev q : Object
  q = record p { tables = T }

  matching_same : (name : List ℕ) (class : Class) (version : Option (List ℕ)) → matching q name class version ≡ matching p name class version
  unfolding versioned unversioned counts defines has_version
  matching_same name class None = refl
  matching_same name class (Some version) = refl

  in_same : (name : List ℕ) (class : Class) (version : Option (List ℕ)) (member : ℕ) → in_member (q ∷ os) name class version member ≡ in_member (p ∷ os) name class version member
  unfolding in_member
  in_same name class version zero = rw (matching_same name class version) refl
  in_same name class version (suc m) = refl

  first_same : (name : List ℕ) (class : Class) (version : Option (List ℕ)) (members : List ℕ) → first_in (q ∷ os) name class version members ≡ first_in (p ∷ os) name class version members
  unfolding first_in
  first_same name class version [] = refl
  first_same name class version (m ∷ ms) = rw (in_same name class version m, first_same name class version ms) refl

  symbol_same : (r : Reference) (x : Object) (s : Option Symbol) → of_symbol (q ∷ os) r x s ≡ of_symbol (p ∷ os) r x s
  unfolding found_for
  symbol_same r x None = refl
  symbol_same r x (Some s) = rw (first_same s.name (class_of r.kind) (version_wanted x s) (searched x r (suc (length os)))) refl

  own_same_object : (r : Reference) (s : Option Symbol) → of_symbol (p ∷ os) r q s ≡ of_symbol (p ∷ os) r p s
  unfolding found_for version_wanted
  own_same_object r None = refl
  own_same_object r (Some s) = refl

  member_same : (r : Reference) (m : ℕ) → of_member (q ∷ os) r (slice_get (q ∷ os) m) ≡ of_member (p ∷ os) r (slice_get (p ∷ os) m)
  member_same r zero = symbol_same r q (slice_get p.symbols r.symbol) ∙ own_same_object r (slice_get p.symbols r.symbol)
  member_same r (suc m) = of_other (slice_get os m)
    where
      of_other : (x : Option Object) → of_member (q ∷ os) r x ≡ of_member (p ∷ os) r x
      of_other None = refl
      of_other (Some x) = symbol_same r x (slice_get x.symbols r.symbol)

  finds_same : (r : Reference) → finds (q ∷ os) r ≡ finds (p ∷ os) r
  unfolding finds
  finds_same r = member_same r r.member

  own_same : (r : Reference) → own_symbol (q ∷ os) r ≡ own_symbol (p ∷ os) r
  own_same r = at r.member
    where
      at : (m : ℕ) → own_symbol (q ∷ os) (record r { member = m }) ≡ own_symbol (p ∷ os) (record r { member = m })
      at zero = refl
      at (suc m) = refl

  -- what does not look at a definer's tables
  definer_same : {A : Type 0} (F : Option Definer → A) → ((member : ℕ) (s : Symbol) → F (Some (record { member = member; object = q; symbol = s })) ≡ F (Some (record { member = member; object = p; symbol = s })))
      → (r : Reference) → F (definer (q ∷ os) r) ≡ F (definer (p ∷ os) r)
  unfolding definer
  definer_same F blind r = ap (λ (m : Option Found). F (of_found (q ∷ os) m)) (finds_same r) ∙ of_finds (finds (p ∷ os) r)
    where
      of_symbol_at : (found : Found) (s : Option Symbol) → F (with_symbol found.member q s) ≡ F (with_symbol found.member p s)
      of_symbol_at found None = refl
      of_symbol_at found (Some s) = blind found.member s

      of_index : (found : Found) (m : ℕ) → F (in_object found (slice_get (q ∷ os) m)) ≡ F (in_object found (slice_get (p ∷ os) m))
      of_index found zero = of_symbol_at found (slice_get p.symbols found.symbol)
      of_index found (suc m) = refl

      of_finds : (m : Option Found) → F (of_found (q ∷ os) m) ≡ F (of_found (p ∷ os) m)
      of_finds None = refl
      of_finds (Some found) = of_index found found.member

  weak_same : (r : Reference) → is_weak (q ∷ os) r ≡ is_weak (p ∷ os) r
  unfolding is_weak
  weak_same r = ap is_weak_symbol (own_same r)

  target_same : (places : List ℕ) (r : Reference) → target (q ∷ os) places r ≡ target (p ∷ os) places r
  unfolding target address
  target_same places r = rw (weak_same r, definer_same (target_from places r (is_weak (p ∷ os) r)) (λ m s. refl) r) refl

  block_same : (m : ℕ) → has_block (slice_get (q ∷ os) m) ≡ has_block (slice_get (p ∷ os) m)
  block_same zero = refl
  block_same (suc m) = refl

  variable_same : (r : Reference) → variable (q ∷ os) r ≡ variable (p ∷ os) r
  unfolding variable
  variable_same r = rw (block_same r.member, definer_same (variable_from r) (λ m s. refl) r) refl

  copy_same : (places : List ℕ) (r : Reference) → copy (q ∷ os) places r ≡ copy (p ∷ os) places r
  unfolding copy copied address
  copy_same places r =
      let weak = is_weak (p ∷ os) r in
      let size = size_of (own_symbol (p ∷ os) r) in
      rw (weak_same r, own_same r, definer_same (copy_from places r weak size) (λ m s. refl) r) refl

  value_same : (places : List ℕ) (modules : List Module) (member : ℕ) (r : Reloc) → value_of (q ∷ os) places modules member r ≡ value_of (p ∷ os) places modules member r
  unfolding value_of
  value_same places modules member r = rw (target_same places (reference member r), copy_same places (reference member r), variable_same (reference member r)) refl

  meaning_same : (places : List ℕ) (modules : List Module) (row : Row) → meaning (q ∷ os) places modules row ≡ meaning (p ∷ os) places modules row
  unfolding meaning
  meaning_same places modules row = ap (λ (v : Result Word LinkFault). v >>= λ word. Ok (given places row word)) (value_same places modules row.member row.reloc)

  each_same : {A B E : Type 0} (f g : A → Result B E) (xs : List A) → ((x : A) → f x ≡ g x) → each f xs ≡ each g xs
  unfolding each
  each_same f g [] same = refl
  each_same f g (x ∷ xs) same = rw (same x, each_same f g xs same) refl

  rows_same : rows (q ∷ os) ≡ rows (p ∷ os)
  unfolding rows_from
  rows_same = refl

  pub meanings_same : (places : List ℕ) (modules : List Module) → meanings (q ∷ os) places modules ≡ meanings (p ∷ os) places modules
  unfolding meanings
  meanings_same places modules = ap (each (meaning (q ∷ os) places modules)) rows_same ∙ each_same (meaning (q ∷ os) places modules) (meaning (p ∷ os) places modules) (rows (p ∷ os)) (meaning_same places modules)

-- ---- the mask

empty_has : (k : ℕ) (range : Range) → range.end ≡ range.start → has k range ≡ false
empty_has k range none = rw none (no_room k range.start)
  where
    no_room : (k n : ℕ) → (nat_le n k && nat_lt k n) ≡ false
    no_room k n = grind (arith, nat_tests)

one_has : (k : ℕ) (new old : Range) → IsSameRange new old → has k new ≡ has k old
one_has k new old (inl same) = ap (has k) same
one_has k new old (inr none) = empty_has k new none.0 ∙ sym (empty_has k old none.1)

all_have : (k : ℕ) (new old : List Range) → AllZip IsSameRange new old → list_any (has k) new ≡ list_any (has k) old
all_have k [] [] all = refl
all_have k [] (y ∷ ys) all = absurd all
all_have k (x ∷ xs) [] all = absurd all
all_have k (x ∷ xs) (y ∷ ys) all = rw (one_has k x y all.0, all_have k xs ys all.1) refl

-- ---- the image

same_through : (a b c : Result Memory LinkFault) → SameImage a b → SameImage b c → SameImage a c
same_through (Ok l) (Ok m) (Ok n) x y = λ address. y address ∙ x address
same_through (Ok l) (Ok m) (Err e) x y = absurd y
same_through (Ok l) (Err e) c x y = absurd x
same_through (Err d) (Ok m) c x y = absurd x
same_through (Err d) (Err e) (Ok n) x y = absurd y
same_through (Err d) (Err e) (Err f) x y = y ∙ x

module _ (p : Object) (T : List Range) (os : List Object) (like : AllZip IsSameRange T p.tables) where
  abbrev told : Object
  told = record p { tables = T }

  masked_same : (place a : ℕ) → is_masked (mask_at place told) a ≡ is_masked (mask_at place p) a
  unfolding is_masked
  masked_same place a = masked_is a (mask_at place p) T (λ k. all_have k T p.tables like)

  shown_same : (place : ℕ) (file : List ℕ) (others : List LoadedObject) (gs : List Meaning) (a : ℕ) → shown_linked (loaded_at place file told ∷ others) gs a ≡ shown_linked (loaded_at place file p ∷ others) gs a
  shown_same place file others gs a = rw (masked_same place a) refl

  image_same : (parts : List (List ℕ)) (file : List ℕ) (places : List ℕ) (modules : List Module) → SameImage (ordinary (p ∷ os) (file ∷ parts) (0 ∷ places) modules) (ordinary (told ∷ os) (file ∷ parts) (0 ∷ places) modules)
  unfolding ordinary loaded_from
  image_same parts file places modules =
      subst (λ (r : Result (List Meaning) LinkFault). SameImage (meanings (p ∷ os) (0 ∷ places) modules >>= λ gs. Ok (shown_linked (loaded_objects (0 ∷ places) (file ∷ parts) (p ∷ os)) gs)) (r >>= λ gs. Ok (shown_linked (loaded_objects (0 ∷ places) (file ∷ parts) (told ∷ os)) gs)))
      (sym (meanings_same p T os (0 ∷ places) modules)) (of_meanings (meanings (p ∷ os) (0 ∷ places) modules))
    where
      of_meanings : (r : Result (List Meaning) LinkFault)
          → SameImage (r >>= λ gs. Ok (shown_linked (loaded_objects (0 ∷ places) (file ∷ parts) (p ∷ os)) gs)) (r >>= λ gs. Ok (shown_linked (loaded_objects (0 ∷ places) (file ∷ parts) (told ∷ os)) gs))
      of_meanings (Err e) = refl
      of_meanings (Ok gs) = λ a. shown_same 0 file (loaded_from (0 ∷ places) (file ∷ parts) 1 os) gs a

  -- the same image with the object in the place of one with other link tables
  pub image_through : (before : Result Memory LinkFault) (parts : List (List ℕ)) (file : List ℕ) (places : List ℕ) (modules : List Module) → SameImage before (ordinary (p ∷ os) (file ∷ parts) (0 ∷ places) modules)
      → SameImage before (ordinary (told ∷ os) (file ∷ parts) (0 ∷ places) modules)
  image_through before parts file places modules same =
      same_through before (ordinary (p ∷ os) (file ∷ parts) (0 ∷ places) modules) (ordinary (told ∷ os) (file ∷ parts) (0 ∷ places) modules) same (image_same parts file places modules)
