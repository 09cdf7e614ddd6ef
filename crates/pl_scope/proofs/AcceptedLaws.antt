-- What a search rests on holds of each accepted object.
use Rattle.std.proofs.Common.{◌≡◌, ℕ, Bool, true, false, ◌||◌, List, [], ◌∷◌, length, Ok, refl, ap, arith, inl, inr}
use Rattle.std.specs.Prelude.{◌==◌}
use Rattle.std.specs.List.{All}
use Rattle.std.specs.Result.{is_ok}
use Rattle.std.proofs.lemmas.Bool.{cases_Bool, or_parts}
use Rattle.std.proofs.lemmas.List.Elements.{All-nil, All-cons, All-append}
use Rattle.pl_base.proofs.AnswerLaws.{refuse_none, bind_ok}
use Rattle.pl_elf.specs.declared.constants.TheConstants.{ET_EXEC}
use Rattle.pl_elf.specs.declared.header.Header.{Header}
use Rattle.pl_elf.specs.declared.segment.Segment.{Segment}
use Rattle.pl_elf.specs.declared.section.Section.{Section}
use Rattle.pl_dyn.specs.declared.tags.Tag.{Tag}
use Rattle.pl_dyn.specs.declared.dynamic.Dynamic.{Dynamic}
use Rattle.pl_sym.specs.declared.symbol.Symbol.{Symbol}
use Rattle.pl_ver.specs.declared.versions.Versions.{Versions}
use Rattle.pl_hash.specs.Table.{HashTable}
use Rattle.pl_object.specs.Tables.{has_tag}
use Rattle.pl_object.specs.SymbolClauses.{hash_table, hash_tables, hash_incomplete, base_not_zero, duplicate_definer, check_symbols}
use Rattle.pl_object.specs.Reads.{headers, layout, check, object, static_object}
use Rattle.pl_object.specs.declared.linking.Linking.{Linking}
use Rattle.pl_object.specs.declared.object.Object.{Object}
use Rattle.pl_object.specs.declared.refusal.Refusal.{Refusal}
use Rattle.pl_object.specs.declared.refusal.Refusal.TheVariants.{Clause}
use Rattle.std.specs.Prelude.{Option, Result}
use Rattle.pl_object.proofs.AcceptedLaws.{IsStatic, IsDynamic, read_holds, accepted}
use Rattle.pl_scope.specs.Scope.{IsAccepted, IsFit}

-- ---- the hash tables

one_table : (bytes : List ℕ) (ss : List Segment) (sections : List Section) (tags : List Tag) (count : ℕ) (gnu : Bool) (number : ℕ) → All (λ t. t.symbols ≡ count) (hash_table bytes ss sections tags count gnu number)
unfolding hash_table
one_table bytes ss sections tags count gnu number =
    elim (cases_Bool (has_tag number tags)) [
      | inl there ↦ rw there (All-cons (λ (t : HashTable). t.symbols ≡ count) _ [] refl (All-nil (λ (t : HashTable). t.symbols ≡ count)))
      | inr not ↦ rw not (All-nil (λ (t : HashTable). t.symbols ≡ count))
    ]

all_tables : (bytes : List ℕ) (ss : List Segment) (sections : List Section) (tags : List Tag) (count : ℕ) → All (λ t. t.symbols ≡ count) (hash_tables bytes ss sections tags count)
unfolding hash_tables
all_tables bytes ss sections tags count =
    All-append (λ (t : HashTable). t.symbols ≡ count) _ _ (one_table bytes ss sections tags count false _) (one_table bytes ss sections tags count true _)

-- they refuse nothing that was accepted
none_incomplete : (program : Bool) (ss : List Segment) (tables : List HashTable) (versions : Option Versions) (symbols : List Symbol) (u : Unit {0}) → check_symbols program ss tables versions symbols ≡ Ok u → hash_incomplete tables symbols ≡ false
unfolding check_symbols
none_incomplete program ss tables versions symbols u e =
    let all = refuse_none ((base_not_zero program ss, Clause 20 0) ∷ (hash_incomplete tables symbols, Clause 21 0) ∷ (duplicate_definer versions program symbols, Clause 22 0) ∷ []) (Ok tt) (ap (λ (r : Result (Unit {0}) Refusal). is_ok r) e) in
    let a = or_parts (base_not_zero program ss) (hash_incomplete tables symbols || (duplicate_definer versions program symbols || false)) all in
    (or_parts (hash_incomplete tables symbols) (duplicate_definer versions program symbols || false) a.1).0

-- ---- each object

-- what is known of the tables of an object
pub record HasTables (o : Object) : Type 0 where
  pub tables : All (λ t. t.symbols ≡ length o.symbols) o.hashes
  pub hashed : hash_incomplete o.hashes o.symbols ≡ false

static_tables : (bytes : List ℕ) (h : Header) → IsStatic bytes h → HasTables (static_object (headers bytes h))
unfolding static_object hash_incomplete
static_tables bytes h is = record { tables = All-nil (λ (t : HashTable). t.symbols ≡ 0); hashed = refl }

dynamic_tables : (bytes : List ℕ) (h : Header) (d : Dynamic) (l : Linking) → IsDynamic bytes h d l → HasTables (object (headers bytes h) d l (layout bytes (headers bytes h) d.tags l))
unfolding object layout check headers
dynamic_tables bytes h d l is =
    let f = headers bytes h in
    let places = layout bytes f d.tags l in
    let s = bind_ok (check_symbols (h.kind == ET_EXEC) f.segments places.hashes l.versions l.symbols) _ tt is.checks in
    record {
      tables = all_tables bytes f.segments f.sections d.tags (length l.symbols);
      hashed = none_incomplete (h.kind == ET_EXEC) f.segments places.hashes l.versions l.symbols s.0 s.1;
    }

pub accepted_fit : (o : Object) → IsAccepted o → IsFit o
accepted_fit o is =
    let t = read_holds HasTables is.bytes (static_tables is.bytes) (dynamic_tables is.bytes) o is.read in
    let known = accepted is.bytes o is.read in
    record { few = omega (arith, known.few, is.size); tables = t.tables; hashed = t.hashed; relocs = known.relocs }
