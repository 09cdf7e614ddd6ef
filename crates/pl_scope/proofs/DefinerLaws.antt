-- The lists of an object's definers.
use Rattle.std.proofs.Common.{◌≡◌, ℕ, ◌+◌, ◌<◌, ◌≤◌, Bool, true, List, [], length, Option, Some, None, refl, sym, ap, subst, ◌∙◌, arith, inl, inr}
use Rattle.std.specs.Prelude.{slice_get, nat_lt, if◌then◌else◌}
use Rattle.std.specs.List.{All, list_any}
use Rattle.std.specs.List.Sorted.{IsNonDecreasingBy, IsPermutation}
use Rattle.std.specs.Option.{option_and_then}
use Rattle.std.proofs.lemmas.Bool.{cases_Bool, ltb-true, ltb-false}
use Rattle.std.proofs.lemmas.List.Elements.{All-nil}
use Rattle.std.proofs.lemmas.List.Sorted.{list_any-IsPermutation, All-permutation}
use Rattle.std.proofs.lemmas.Option.{slice_get_within}
use Rattle.pl_elf.specs.Kinds.{is_program}
use Rattle.pl_object.specs.declared.object.Object.{Object}
use Rattle.pl_sym.specs.Definers.{is_definer}
use Rattle.pl_sym.specs.declared.class.Class.TheVariants.{Other}
use Rattle.pl_sym.specs.declared.symbol.Symbol.{Symbol}
use Rattle.pl_scope.specs.Definers.{pair, paired, tag_of, symbol_key, listed_key, IsList}
use Rattle.pl_scope.specs.Entries.{is_entry, IsAdded}
use Rattle.pl_scope.specs.Numbers.{key_of}
use Rattle.pl_scope.specs.declared.definers.Listing.{Listing}
use Rattle.pl_scope.specs.declared.entries.Entry.{Entry}
use Rattle.pl_scope.specs.declared.numbers.Numbers.{Numbers}
use Rattle.pl_scope.specs.declared.version_index.VersionIndex.{VersionIndex}
use Rattle.pl_scope.proofs.EntryLaws.{entry, no_key}

-- those of the first symbols that a list has
pub record IsListTo (numbers : Numbers) (versions : VersionIndex) (o : Object) (listing : Listing) (n : ℕ) (es : List Entry) : Type 0 where
  pub within : All (λ e. e.value < length o.symbols) es
  pub whole : (i key : ℕ) → i < n → listed_key numbers versions o listing i ≡ Some key → list_any (is_entry key i) es ≡ true

module _ (numbers : Numbers) (versions : VersionIndex) (o : Object) (listing : Listing) where
  abbrev key_at : ℕ → Option ℕ
  key_at i = listed_key numbers versions o listing i

  abbrev ListTo : ℕ → List Entry → Type 0
  ListTo n es = IsListTo numbers versions o listing n es

  -- ---- the symbols one by one

  pub list_none : (es : List Entry) → es ≡ [] → ListTo 0 es
  list_none es none = rw none (record { within = All-nil (λ (e : Entry). e.value < length o.symbols); whole = λ i key lt at. absurd (omega (arith, lt)) })

  pub list_more : (n : ℕ) (old new : List Entry) → n < length o.symbols → IsAdded (key_at n) n old new → ListTo n old → ListTo (n + 1) new
  list_more n old new lt added so_far = record {
    within = added.within (length o.symbols) lt so_far.within;
    whole = λ i key below at. elim (cases_Bool (nat_lt i n)) [
      | inl less ↦ added.more (entry key i) (so_far.whole i key (ltb-true i n less) at)
      | inr ge ↦
          let same : n ≡ i = omega (arith, below, ltb-false i n ge) in
          let here : key_at n ≡ Some key = ap key_at same ∙ at in
          subst (λ (k : ℕ). list_any (is_entry key k) new ≡ true) same (added.there key here)
    ];
  }

  past : (i : ℕ) (x : Option Symbol) → slice_get o.symbols i ≡ x → (key : ℕ) → key_at i ≡ Some key → i < length o.symbols
  past i (Some s) is key at = slice_get_within o.symbols i s is
  past i None is key at = absurd (no_key key (key_at i) (ap (λ (x : Option Symbol). option_and_then (symbol_key numbers versions o listing) x) is) at)

  pub list_sorted : (n : ℕ) (found sorted : List Entry) → length o.symbols ≤ n → ListTo n found → IsPermutation found sorted → IsNonDecreasingBy (λ e. e.key) sorted → IsList numbers versions o listing sorted
  list_sorted n found sorted le is same rising = record {
    rising = rising;
    within = All-permutation (λ (e : Entry). e.value < length o.symbols) found sorted same is.within;
    whole = λ i key at.
        sym (list_any-IsPermutation (is_entry key i) found sorted same) ∙ is.whole i key (omega (arith, le, past i (slice_get o.symbols i) refl key at)) at;
  }

  -- ---- what a definer stands under

  pub key_is : (name : List ℕ) (key i tag : ℕ) (s : Symbol) → key_of numbers name ≡ Some key → slice_get o.symbols i ≡ Some s → is_definer s Other (is_program o.kind) ≡ true → s.name ≡ name → tag_of numbers versions listing s ≡ Some tag
      → key_at i ≡ Some (pair key tag)
  key_is name key i tag s known at definer named tagged =
      ap (λ (x : Option Symbol). option_and_then (symbol_key numbers versions o listing) x) at
      ∙ ap (λ (b : Bool). if b then paired (key_of numbers s.name) (tag_of numbers versions listing s) else None) definer
      ∙ ap (λ (x : Option ℕ). paired x (tag_of numbers versions listing s)) (ap (key_of numbers) named ∙ known)
      ∙ ap (λ (x : Option ℕ). paired (Some key) x) tagged
