-- Runs of one key tell whether two symbols are definers of one name and version.
use Rattle.std.proofs.Common.{◌≡◌, ℕ, Bool, true, false, ◌&&◌, List, length, map, Option, Some, None, refl, sym, ap, ◌∙◌, eqb, eq-eqb}
use Rattle.std.specs.Prelude.{slice_get, filter}
use Rattle.std.specs.List.{range_with_len}
use Rattle.std.specs.List.Sorted.{IsPermutation, IsNonDecreasingBy}
use Rattle.std.specs.Str.{bytes_eq}
use Rattle.std.specs.Cmp.Lexicographic.{bytes_decides}
use Rattle.std.proofs.lemmas.Bool.{and_parts, eqb-true}
use Rattle.std.proofs.Math.Bool.{and_comm}
use Rattle.pl_base.specs.Pairs.{any_pair}
use Rattle.pl_base.proofs.PairLaws.{any_pair_left, any_pair_map, any_pair_same}
use Rattle.pl_base.proofs.TestLaws.{number_flips, bytes_flip}
use Rattle.pl_sym.specs.declared.symbol.Symbol.{Symbol}
use Rattle.pl_sym.specs.declared.class.Class.TheVariants.{Other}
use Rattle.pl_sym.specs.Definers.{is_definer}
use Rattle.pl_ver.specs.declared.versions.Versions.{Versions}
use Rattle.pl_object.specs.SymbolClauses.{is_plain, version_name, is_same_name, is_same_version, is_twin, duplicate_definer}
use Rattle.pl_object.specs.declared.twins.Entry.{Entry}
use Rattle.pl_object.specs.Runs.{any_run}
use Rattle.pl_object.specs.Twins.{name_key, key_of, entry_of, defines_by, twins_by, are_twins, entry_key}
use Rattle.pl_object.proofs.RunLaws.{runs_tell, at_places}

-- ---- either way round

names_flip : (x y : Option (List ℕ)) → is_same_name x y ≡ is_same_name y x
names_flip None None = refl
names_flip None (Some y) = refl
names_flip (Some x) None = refl
names_flip (Some x) (Some y) = bytes_flip x y

versions_flip : (versions : Option Versions) (s t : Symbol) → is_same_version versions s t ≡ is_same_version versions t s
unfolding is_same_version
versions_flip versions s t = rw (and_comm (is_plain s) (is_plain t), names_flip (version_name versions s.version) (version_name versions t.version)) refl

twin_flips : (versions : Option Versions) (program : Bool) (s t : Symbol) → is_twin versions program s t ≡ is_twin versions program t s
unfolding is_twin
twin_flips versions program s t =
    rw (and_comm (is_definer s Other program) (is_definer t Other program), bytes_flip s.name t.name, versions_flip versions s t) refl

both_flip : (p : Symbol → Symbol → Bool) → ((s t : Symbol) → p s t ≡ p t s) → (x y : Option Symbol) → twins_by p x y ≡ twins_by p y x
both_flip p flips None None = refl
both_flip p flips None (Some y) = refl
both_flip p flips (Some x) None = refl
both_flip p flips (Some x) (Some y) = flips x y

entries_flip : (versions : Option Versions) (program : Bool) (symbols : List Symbol) (a b : Entry) → are_twins versions program symbols a b ≡ are_twins versions program symbols b a
entries_flip versions program symbols a b =
    rw (number_flips a.key b.key, both_flip (is_twin versions program) (twin_flips versions program) (slice_get symbols a.index) (slice_get symbols b.index)) refl

-- ---- one key

same_key : (versions : Option Versions) (program : Bool) (symbols : List Symbol) (a b : Entry) → are_twins versions program symbols a b ≡ true → entry_key a ≡ entry_key b
same_key versions program symbols a b h = eqb-true a.key b.key (and_parts (eqb a.key b.key) (twins_by (is_twin versions program) (slice_get symbols a.index) (slice_get symbols b.index)) h).0

-- twins have one name
one_name : (versions : Option Versions) (program : Bool) (s t : Symbol) → is_twin versions program s t ≡ true → s.name ≡ t.name
unfolding is_twin
one_name versions program s t h =
    let p = and_parts (is_definer s Other program && is_definer t Other program && bytes_eq s.name t.name) (is_same_version versions s t) h in
    (bytes_decides s.name t.name).0 (and_parts (is_definer s Other program && is_definer t Other program) (bytes_eq s.name t.name) p.0).1

one_key : (versions : Option Versions) (program : Bool) (x y : Option Symbol) → twins_by (is_twin versions program) x y ≡ true → key_of x ≡ key_of y
one_key versions program None other h = absurd cc
one_key versions program (Some s) None h = absurd cc
one_key versions program (Some s) (Some t) h = ap name_key (one_name versions program s t h)

and_of : (a b : Bool) → (b ≡ true → a ≡ true) → (a && b) ≡ b
and_of a true h = rw (h refl) refl
and_of true false h = refl
and_of false false h = refl

-- at entries of symbols the key adds nothing
key_adds : (versions : Option Versions) (program : Bool) (symbols : List Symbol) (i j : ℕ)
    → are_twins versions program symbols (entry_of symbols i) (entry_of symbols j) ≡ twins_by (is_twin versions program) (slice_get symbols i) (slice_get symbols j)
key_adds versions program symbols i j =
    and_of (eqb (key_of (slice_get symbols i)) (key_of (slice_get symbols j))) (twins_by (is_twin versions program) (slice_get symbols i) (slice_get symbols j))
    (λ h. eq-eqb (key_of (slice_get symbols i)) (key_of (slice_get symbols j)) (one_key versions program (slice_get symbols i) (slice_get symbols j) h))

-- ---- definers alone

defines_none : (versions : Option Versions) (program : Bool) (x y : Option Symbol) → defines_by program x ≡ false → twins_by (is_twin versions program) x y ≡ false
unfolding is_twin
defines_none versions program None y e = refl
defines_none versions program (Some s) None e = refl
defines_none versions program (Some s) (Some t) e = rw e refl

no_twin : (versions : Option Versions) (program : Bool) (symbols : List Symbol) (i j : ℕ) → defines_by program (slice_get symbols i) ≡ false → are_twins versions program symbols (entry_of symbols i) (entry_of symbols j) ≡ false
no_twin versions program symbols i j e = key_adds versions program symbols i j ∙ defines_none versions program (slice_get symbols i) (slice_get symbols j) e

-- entries of definers in the order of their keys tell whether a name is defined twice
pub twins_tell : (versions : Option Versions) (program : Bool) (symbols : List Symbol) (sorted : List Entry)
    → IsPermutation (map (entry_of symbols) (filter (λ i. defines_by program (slice_get symbols i)) (range_with_len 0 (length symbols)))) sorted → IsNonDecreasingBy entry_key sorted
    → any_run (are_twins versions program symbols) entry_key sorted ≡ duplicate_definer versions program symbols
unfolding duplicate_definer
twins_tell versions program symbols sorted same up =
    let p = is_twin versions program in
    let places = range_with_len 0 (length symbols) in
    let q = are_twins versions program symbols in
    let defines : ℕ → Bool = λ i. defines_by program (slice_get symbols i) in
    let at : ℕ → ℕ → Bool = λ i j. q (entry_of symbols i) (entry_of symbols j) in
    runs_tell q entry_key (same_key versions program symbols) (entries_flip versions program symbols) (map (entry_of symbols) (filter defines places)) sorted same up
    ∙ any_pair_map q (entry_of symbols) (filter defines places)
    ∙ any_pair_left at defines (λ i j. entries_flip versions program symbols (entry_of symbols i) (entry_of symbols j)) (no_twin versions program symbols) places
    ∙ any_pair_same at (λ (i : ℕ) (j : ℕ). twins_by p (slice_get symbols i) (slice_get symbols j)) places (key_adds versions program symbols)
    ∙ sym (any_pair_map (twins_by p) (slice_get symbols) places)
    ∙ ap (any_pair (twins_by p)) (at_places symbols)
    ∙ any_pair_map (twins_by p) (λ (s : Symbol). Some s) symbols
