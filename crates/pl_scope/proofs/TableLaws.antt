-- The tables of an object lead to its definers.
use Rattle.std.proofs.Common.{◌≡◌, ◌≢◌, ℕ, zero, suc, ◌+◌, ◌<◌, ◌≤◌, Bool, true, false, not, ◌&&◌, List, [], ◌∷◌, length, get_or, Some, refl, sym, ap, ◌∙◌, arith, inl, inr}
use Rattle.std.specs.Prelude.{slice_get, ◌==◌}
use Rattle.std.specs.List.{list_any, range_with_len}
use Rattle.std.proofs.lemmas.Bool.{cases_Bool, false≢true, eqb-true, eqb-false, or_parts}
use Rattle.std.proofs.lemmas.Option.{slice_get_read, slice_get_within}
use Rattle.pl_sym.specs.Definers.{is_definer}
use Rattle.pl_sym.specs.declared.symbol.Symbol.{Symbol}
use Rattle.pl_sym.specs.declared.class.Class.TheVariants.{Jump}
use Rattle.pl_hash.specs.Chain.{well_formed}
use Rattle.pl_hash.specs.ChainSymbols.{name_hash, is_chain_symbol}
use Rattle.pl_hash.specs.Table.{HashTable}
use Rattle.pl_hash.proofs.WholeLaws.{IsWellFormed-from}
use Rattle.pl_object.specs.SymbolClauses.{defines, is_missed, misses_one, is_incomplete, hash_incomplete}
use Rattle.pl_object.specs.declared.object.Object.{Object}
use Rattle.pl_scope.specs.Scope.{IsFit}
use Rattle.pl_scope.specs.Probing.{IsTable}
use Rattle.pl_scope.proofs.MemberLaws.{all_at}

pub none_at : {X : Type 0} (p : X → Bool) (xs : List X) (i : ℕ) (x : X) → list_any p xs ≡ false → slice_get xs i ≡ Some x → p x ≡ false
none_at p [] i x none e = absurd (cc)
none_at p (y ∷ ys) zero x none e = let same : y ≡ x = cc in ap p (sym same) ∙ (or_parts (p y) (list_any p ys) none).0
none_at p (y ∷ ys) (suc i) x none e = none_at p ys i x (or_parts (p y) (list_any p ys) none).1 e

none_in_range : (p : ℕ → Bool) (from n i : ℕ) → list_any p (range_with_len from n) ≡ false → from ≤ i → i < from + n → p i ≡ false
none_in_range p from zero i none le lt = absurd (omega (arith, le, lt))
none_in_range p from (suc n) i none le lt =
    let parts = or_parts (p from) (list_any p (range_with_len (from + 1) n)) none in
    elim (cases_Bool (from == i)) [
      | inl same ↦ ap p (sym (eqb-true from i same)) ∙ parts.0
      | inr other ↦ let ne : from ≢ i = eqb-false from i other in none_in_range p (from + 1) n i parts.1 (omega (arith, le, ne)) (omega (arith, lt))
    ]

negated : (b : Bool) → not b ≡ false → b ≡ true
negated true e = refl
negated false e = absurd (false≢true (sym e))

leads_by : (b c : Bool) → (b && not c) ≡ false → b ≡ true → c ≡ true
leads_by true c e holds = negated c e
leads_by false c e holds = absurd (false≢true holds)

incomplete_parts : (t : HashTable) (symbols : List Symbol) → is_incomplete symbols t ≡ false → (well_formed t ≡ true) × (misses_one symbols t ≡ false)
unfolding is_incomplete
incomplete_parts t symbols e = let parts = or_parts (not (well_formed t)) (misses_one symbols t) e in (negated (well_formed t) parts.0, parts.1)

leads : (t : HashTable) (symbols : List Symbol) (i : ℕ) (s : Symbol) → misses_one symbols t ≡ false → slice_get symbols i ≡ Some s → is_definer s Jump false ≡ true → is_chain_symbol t (name_hash t s.name) i ≡ true
unfolding misses_one
leads t symbols i s none e holds =
    let missed : is_missed t i (slice_get symbols i) ≡ false = none_in_range (λ k. is_missed t k (slice_get symbols k)) 0 (length symbols) i none (omega arith) (omega (arith, slice_get_within symbols i s e)) in
    let here : (defines s && not (is_chain_symbol t (name_hash t s.name) i)) ≡ false = ap (is_missed t i) (sym e) ∙ missed in
    leads_by (defines s) (is_chain_symbol t (name_hash t s.name) i) here holds

none_incomplete : (o : Object) → IsFit o → list_any (is_incomplete o.symbols) o.hashes ≡ false
unfolding hash_incomplete
none_incomplete o fit = (or_parts _ _ fit.hashed).1

table_at : (o : Object) (i : ℕ) (t : HashTable) → IsFit o → slice_get o.hashes i ≡ Some t → IsTable o t
table_at o i t fit e =
    let parts = incomplete_parts t o.symbols (none_at (is_incomplete o.symbols) o.hashes i t (none_incomplete o fit) e) in
    record {
      formed = IsWellFormed-from t parts.0;
      symbols = all_at (λ (x : HashTable). x.symbols ≡ length o.symbols) o.hashes i t fit.tables e;
      complete = λ k s at holds. leads t o.symbols k s parts.1 at holds;
    }

pub table_is : (o : Object) (i : ℕ) (t : HashTable) → IsFit o → i < length o.hashes → t ≡ get_or o.hashes i t → IsTable o t
table_is o i t fit lt is = table_at o i t fit (slice_get_read o.hashes (length o.hashes) i t refl lt is)

-- without tables there are no definers
pub no_tables : (o : Object) (i : ℕ) (s : Symbol) → IsFit o → o.hashes ≡ [] → slice_get o.symbols i ≡ Some s → is_definer s Jump false ≡ false
unfolding hash_incomplete
no_tables o i s fit none e =
    let both : (length o.hashes == 0 && list_any defines o.symbols) ≡ false = (or_parts _ _ fit.hashed).0 in
    let any : list_any defines o.symbols ≡ false = ap (λ (ts : List HashTable). length ts == 0 && list_any defines o.symbols) (sym none) ∙ both in
    none_at defines o.symbols i s any e
