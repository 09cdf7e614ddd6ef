-- Lists that are as long as what they are read from, and symbols with version words.
use Rattle.std.proofs.Common.{◌≡◌, ℕ, zero, suc, ◌+◌, ◌/◌, ◌<◌, ◌≤◌, List, [], ◌∷◌, length, take, get_or, set, Option, Some, None, Ok, refl, ap, ◌∙◌, inl, inr, arith, add-one}
use Rattle.std.specs.Prelude.{◌⊎◌}
use Rattle.std.proofs.lemmas.List.{take_all}
use Rattle.std.proofs.lemmas.List.FromFn.{length-range_with_len}
use Rattle.std.specs.List.{range_with_len}
use Rattle.pl_base.proofs.EachLaws.{length-each}
use Rattle.pl_sym.specs.Table.{symbol, symbols}
use Rattle.pl_sym.specs.declared.constants.TheConstants.{SYMBOL_SIZE}
use Rattle.pl_sym.specs.declared.symbol.Symbol.{Symbol}
use Rattle.pl_ver.specs.declared.versions.Versions.{Versions}
use Rattle.pl_object.specs.Names.{with_version, with_versions, versioned}

-- a symbol table has no more symbols than bytes
pub symbols_fit : (table strings : List ℕ) (ss : List Symbol) → symbols table strings ≡ Ok ss → length ss ≤ length table
unfolding symbols
symbols_fit table strings ss h =
    let same = length-each (symbol table strings) (range_with_len 0 (length table / SYMBOL_SIZE)) ss h ∙ length-range_with_len 0 (length table / SYMBOL_SIZE) in
    omega (arith, same)

-- ---- symbols with version words

pub versions_begin : (ss : List Symbol) (words : List ℕ) → with_versions ss (take 0 words) ≡ ss
unfolding with_versions
versions_begin [] words = refl
versions_begin (s ∷ ss) words = refl

versions_step : (ss : List Symbol) (words : List ℕ) (i : ℕ) (d : Symbol) → i < length ss → i < length words
    → with_versions ss (take (suc i) words) ≡ set (with_versions ss (take i words)) i (with_version (get_or (with_versions ss (take i words)) i d) (get_or words i 0))
unfolding with_versions
versions_step [] words i d lt few = absurd (omega (arith, lt))
versions_step (s ∷ ss) [] i d lt few = absurd (omega (arith, few))
versions_step (s ∷ ss) (word ∷ words) zero d lt few = ap (λ (xs : List Symbol). with_version s word ∷ xs) (versions_begin ss words)
versions_step (s ∷ ss) (word ∷ words) (suc i) d lt few =
    ap (λ (xs : List Symbol). with_version s word ∷ xs) (versions_step ss words i d (omega (arith, lt)) (omega (arith, few)))

-- one word more
pub versions_more : (ss : List Symbol) (words : List ℕ) (i : ℕ) (d : Symbol) → i < length ss → i < length words
    → with_versions ss (take (i + 1) words) ≡ set (with_versions ss (take i words)) i (with_version (get_or (with_versions ss (take i words)) i d) (get_or words i 0))
versions_more ss words i d lt few = rw add-one (versions_step ss words i d lt few)

-- no more symbols, or no more words
pub versions_done : (ss : List Symbol) (words : List ℕ) (i : ℕ) → (length ss ≤ i) ⊎ (length words ≤ i) → with_versions ss (take i words) ≡ with_versions ss words
unfolding with_versions
versions_done ss words i (inr le) = ap (with_versions ss) (take_all i words le)
versions_done [] words i (inl le) = refl
versions_done (s ∷ ss) words zero (inl le) = absurd (omega (arith, le))
versions_done (s ∷ ss) [] (suc i) (inl le) = refl
versions_done (s ∷ ss) (word ∷ words) (suc i) (inl le) = ap (λ (xs : List Symbol). with_version s word ∷ xs) (versions_done ss words i (inl (omega (arith, le))))

pub length-with_versions : (ss : List Symbol) (words : List ℕ) → length (with_versions ss words) ≡ length ss
unfolding with_versions
length-with_versions [] words = refl
length-with_versions (s ∷ ss) [] = refl
length-with_versions (s ∷ ss) (word ∷ words) = ap suc (length-with_versions ss words)

-- with their version words symbols are as many as before
pub length-versioned : (ss : List Symbol) (versions : Option Versions) → length (versioned ss versions) ≡ length ss
length-versioned ss None = refl
length-versioned ss (Some versions) = length-with_versions ss versions.index
