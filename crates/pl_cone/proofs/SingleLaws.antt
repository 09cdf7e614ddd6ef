-- A hash that has one entry in the index of a folder is that of a name that one object at most defines.
use Rattle.std.proofs.Common.{◌≡◌, ◌≢◌, ℕ, zero, suc, ◌+◌, ◌<◌, ◌≤◌, Bool, true, false, List, [], ◌∷◌, ◌++◌, length, get_or, Option, Some, None, refl, sym, ap, ◌∙◌, subst, arith, inl, inr}
use Rattle.std.specs.Prelude.{◌⊎◌, ◌==◌, ◌&&◌, find, slice_get}
use Rattle.std.specs.List.{cons_option, list_any}
use Rattle.std.specs.Option.{option_and_then}
use Rattle.std.specs.Str.{bytes_eq}
use Rattle.std.proofs.lemmas.Bool.{cases_Bool, false≢true, and_parts, or_left, or_right, eqb-true, eq-eqb}
use Rattle.std.proofs.lemmas.List.Folds.{list_any-append}
use Rattle.std.proofs.lemmas.List.Sorted.{list_any-IsPermutation}
use Rattle.std.proofs.lemmas.Option.{none-some, same_Some}
use Rattle.pl_elf.specs.Kinds.{is_program}
use Rattle.pl_hash.specs.Hash.{gnu}
use Rattle.pl_object.specs.declared.object.Object.{Object}
use Rattle.pl_scope.specs.Folder.{IsFolderIndex, all_entries, all_from}
use Rattle.pl_scope.specs.Index.{entries_from, entries_in, entries_of, entry_of, is_entry}
use Rattle.pl_scope.specs.declared.index.Entry.{Entry}
use Rattle.pl_scope.proofs.NameLaws.{same_name}
use Rattle.pl_sym.specs.Definers.{is_definer}
use Rattle.pl_sym.specs.declared.class.Class.TheVariants.{Other}
use Rattle.pl_sym.specs.declared.symbol.Symbol.{Symbol}
use Rattle.pl_cone.specs.Definers.{HasDefiner, HasHashes}
use Rattle.pl_cone.specs.Table.{folder_objects}
use Rattle.pl_cone.specs.Taken.{object_by}
use Rattle.pl_cone.specs.declared.taken.Taken.{Taken}

-- ---- the definers of a folder's objects

self_entry : (h m i : ℕ) → is_entry h m i (record { hash = h; member = m; symbol = i }) ≡ true
self_entry h m i = rw (eq-eqb h h refl, eq-eqb m m refl, eq-eqb i i refl) refl

any_later : (p : Entry → Bool) (x : Option Entry) (es : List Entry) → list_any p es ≡ true → list_any p (cons_option x es) ≡ true
any_later p None es any = any
any_later p (Some e) es any = or_right (p e) (list_any p es) any

-- the entry of a definer among those of symbols from one on
any_here : (o : Object) (m from k i : ℕ) (ss : List Symbol) (s : Symbol) → i ≡ from + k → slice_get ss k ≡ Some s → is_definer s Other (is_program o.kind) ≡ true → list_any (is_entry (gnu s.name) m i) (entries_from o m from ss) ≡ true
unfolding entries_from
any_here o m from k i [] s is e definer = absurd (none-some s e)
any_here o m from zero i (x ∷ ss) s is e definer =
    let same : x ≡ s = same_Some x s e in
    let first : from ≡ i = omega (arith, is) in
    let made : entry_of o m from x ≡ Some (record { hash = gnu s.name; member = m; symbol = i }) = rw (same, first, definer) refl in
    ap (λ (y : Option Entry). list_any (is_entry (gnu s.name) m i) (cons_option y (entries_from o m (from + 1) ss))) made
    ∙ or_left (is_entry (gnu s.name) m i (record { hash = gnu s.name; member = m; symbol = i })) (list_any (is_entry (gnu s.name) m i) (entries_from o m (from + 1) ss)) (self_entry (gnu s.name) m i)
any_here o m from (suc k) i (x ∷ ss) s is e definer =
    any_later (is_entry (gnu s.name) m i) (entry_of o m from x) (entries_from o m (from + 1) ss) (any_here o m (from + 1) k i ss s (omega (arith, is)) e definer)

-- rows from one on
abbrev any_from : ℕ → ℕ → ℕ → ℕ → List (Option Object) → Bool
any_from h row number from os = list_any (is_entry h row number) (all_from from os)

there_from : (os : List (Option Object)) (from row k i : ℕ) (o : Object) (s : Symbol) → row ≡ from + k → slice_get os k ≡ Some (Some o) → slice_get o.symbols i ≡ Some s → is_definer s Other (is_program o.kind) ≡ true
    → any_from (gnu s.name) row i from os ≡ true
unfolding all_from
there_from [] from row k i o s is at own definer = absurd (none-some (Some o) at)
there_from (None ∷ os) from row zero i o s is at own definer = absurd (none-some o (same_Some None (Some o) at))
there_from (Some p ∷ os) from row zero i o s is at own definer =
    let same : p ≡ o = same_Some p o (same_Some (Some p) (Some o) at) in
    let first : row ≡ from = omega (arith, is) in
    let here : list_any (is_entry (gnu s.name) from i) (entries_in o from) ≡ true = any_here o from 0 i i o.symbols s (omega arith) own definer in
    let one : list_any (is_entry (gnu s.name) row i) (entries_in p from) ≡ true = rw (first, same) here in
    list_any-append (is_entry (gnu s.name) row i) (entries_in p from) (all_from (from + 1) os)
    ∙ or_left (list_any (is_entry (gnu s.name) row i) (entries_in p from)) (any_from (gnu s.name) row i (from + 1) os) one
there_from (None ∷ os) from row (suc k) i o s is at own definer = there_from os (from + 1) row k i o s (omega (arith, is)) at own definer
there_from (Some p ∷ os) from row (suc k) i o s is at own definer =
    list_any-append (is_entry (gnu s.name) row i) (entries_in p from) (all_from (from + 1) os)
    ∙ or_right (list_any (is_entry (gnu s.name) row i) (entries_in p from)) (any_from (gnu s.name) row i (from + 1) os) (there_from os (from + 1) row k i o s (omega (arith, is)) at own definer)

-- each definer of the object of a row has an entry of that row
pub entry_there : (os : List (Option Object)) (index : List Entry) (row i : ℕ) (o : Object) (s : Symbol) → IsFolderIndex os index → slice_get os row ≡ Some (Some o) → slice_get o.symbols i ≡ Some s → is_definer s Other (is_program o.kind) ≡ true
    → list_any (is_entry (gnu s.name) row i) index ≡ true
entry_there os index row i o s is at own definer =
    sym (list_any-IsPermutation (is_entry (gnu s.name) row i) (all_entries os) index is) ∙ there_from os 0 row row i o s (omega arith) at own definer

-- ---- two entries of a hash

is_parts : (h row number : ℕ) (e : Entry) → is_entry h row number e ≡ true → ((e.hash == h) ≡ true) × (e.member ≡ row)
is_parts h row number e is =
    let p = and_parts (e.hash == h) (e.member == row && e.symbol == number) is in
    (p.0, eqb-true e.member row (and_parts (e.member == row) (e.symbol == number) p.1).0)

not_both : (h i j x y : ℕ) (e : Entry) → i ≢ j → is_entry h i x e ≡ true → is_entry h j y e ≡ false
not_both h i j x y e apart is = elim (cases_Bool (is_entry h j y e)) [
  | inl also ↦ absurd (apart (sym (is_parts h i x e is).1 ∙ (is_parts h j y e also).1))
  | inr other ↦ other
]

length_kept : (h : ℕ) (e : Entry) (es : List Entry) → (e.hash == h) ≡ true → length (entries_of (e ∷ es) h) ≡ suc (length (entries_of es h))
length_kept h e es hit = rw hit refl

length_more : (h : ℕ) (e : Entry) (es : List Entry) → length (entries_of es h) ≤ length (entries_of (e ∷ es) h)
length_more h e es = elim (cases_Bool (e.hash == h)) [ inl hit ↦ rw hit (omega arith) | inr miss ↦ rw miss (omega arith) ]

later : (h row number : ℕ) (e : Entry) (es : List Entry) → list_any (is_entry h row number) (e ∷ es) ≡ true → is_entry h row number e ≡ false → list_any (is_entry h row number) es ≡ true
later h row number e es any other = rw other at any

one_entry : (h row number : ℕ) (es : List Entry) → list_any (is_entry h row number) es ≡ true → 1 ≤ length (entries_of es h)
one_entry h row number [] any = absurd (false≢true any)
one_entry h row number (e ∷ es) any = elim (cases_Bool (is_entry h row number e)) [
  | inl here ↦ omega (arith, length_kept h e es (is_parts h row number e here).0)
  | inr other ↦ omega (arith, length_more h e es, one_entry h row number es (later h row number e es any other))
]

two_entries : (h i j x y : ℕ) (es : List Entry) → i ≢ j → list_any (is_entry h i x) es ≡ true → list_any (is_entry h j y) es ≡ true → 2 ≤ length (entries_of es h)
two_entries h i j x y [] apart a b = absurd (false≢true a)
two_entries h i j x y (e ∷ es) apart a b = elim (cases_Bool (is_entry h i x e)) [
  | inl here ↦ omega (arith, length_kept h e es (is_parts h i x e here).0, one_entry h j y es (later h j y e es b (not_both h i j x y e apart here)))
  | inr other ↦ elim (cases_Bool (is_entry h j y e)) [
    | inl here ↦ omega (arith, length_kept h e es (is_parts h j y e here).0, one_entry h i x es (later h i x e es a other))
    | inr none ↦ omega (arith, length_more h e es, two_entries h i j x y es apart (later h i x e es a other) (later h j y e es b none))
  ]
]

-- ---- the objects of names

-- the object of a name's file
unfoldable pub folder_by : List Taken → List ℕ → Option Object
folder_by ts n = option_and_then (λ t. object_by t.entry) (find (λ t. bytes_eq t.name n) ts)

-- the row by which a name has an object
pub record FoundAt (ts : List Taken) (n : List ℕ) (o : Object) : Type 0 where
  pub row : ℕ
  pub taken : Taken
  pub at : slice_get ts row ≡ Some taken
  pub named : taken.name ≡ n
  pub object : object_by taken.entry ≡ Some o

pub found_row : (ts : List Taken) (n : List ℕ) (o : Object) → folder_by ts n ≡ Some o → FoundAt ts n o
unfolding folder_by
found_row [] n o e = absurd (none-some o e)
found_row (t ∷ ts) n o e = elim (cases_Bool (bytes_eq t.name n)) [
  | inl hit ↦ record { row = 0; taken = t; at = refl; named = same_name t.name n hit; object = rw hit at e }
  | inr miss ↦
      let f : FoundAt ts n o = found_row ts n o (rw miss at e) in
      record { row = suc f.row; taken = f.taken; at = f.at; named = f.named; object = f.object }
]

object_of_row : (ts : List Taken) (row : ℕ) (t : Taken) (o : Object) → slice_get ts row ≡ Some t → object_by t.entry ≡ Some o → slice_get (folder_objects ts) row ≡ Some (Some o)
object_of_row [] row t o at there = absurd (none-some t at)
object_of_row (x ∷ ts) zero t o at there = ap (λ (y : Taken). Some (object_by y.entry)) (same_Some x t at) ∙ ap (λ (p : Option Object). Some p) there
object_of_row (x ∷ ts) (suc row) t o at there = object_of_row ts row t o at there

pub object_at_row : (ts : List Taken) (row : ℕ) (t : Taken) (o : Object) → slice_get ts row ≡ Some t → object_by t.entry ≡ Some o → slice_get (folder_objects ts) row ≡ Some (Some o)
object_at_row ts row t o at there = object_of_row ts row t o at there

definer_entry : (ts : List Taken) (index : List Entry) (file name : List ℕ) → IsFolderIndex (folder_objects ts) index → (d : HasDefiner (folder_by ts) file name) → (f : FoundAt ts file d.object) → list_any (is_entry (gnu name) f.row d.index) index ≡ true
definer_entry ts index file name is d f =
    subst (λ (n : List ℕ). list_any (is_entry (gnu n) f.row d.index) index ≡ true) d.named
    (entry_there (folder_objects ts) index f.row d.index d.object d.symbol is (object_of_row ts f.row f.taken d.object f.at f.object) d.at d.defines)

-- ---- the whole

pub hashes_single : (ts : List Taken) (index : List Entry) → IsFolderIndex (folder_objects ts) index → HasHashes (folder_by ts) index
hashes_single ts index is = λ name once a b c d.
    let s : FoundAt ts a c.object = found_row ts a c.object c.there in
    let t : FoundAt ts b d.object = found_row ts b d.object d.there in
    let first = definer_entry ts index a name is c s in
    let second = definer_entry ts index b name is d t in
    elim (cases_Bool (s.row == t.row)) [
      | inl same ↦
          let taken : s.taken ≡ t.taken = same_Some s.taken t.taken (sym s.at ∙ (ap (slice_get ts) (eqb-true s.row t.row same) ∙ t.at)) in
          sym s.named ∙ (ap (λ (x : Taken). x.name) taken ∙ t.named)
      | inr apart ↦ absurd (omega (arith, once, two_entries (gnu name) s.row t.row c.index d.index index (λ e. false≢true (sym apart ∙ eq-eqb s.row t.row e)) first second))
    ]
