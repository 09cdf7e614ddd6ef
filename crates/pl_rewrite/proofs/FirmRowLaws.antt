-- The members of a row's walk, one row after the other.
use Rattle.std.proofs.Common.{◌≡◌, ℕ, zero, suc, ◌+◌, ◌<◌, ◌≤◌, Bool, List, [], ◌∷◌, ◌++◌, length, map, Option, Some, None, refl, sym, ap, subst, ◌∙◌, arith}
use Rattle.std.specs.Prelude.{◌&&◌, slice_get}
use Rattle.std.specs.List.{AllZip, cons_option, filter_map, flat_map, list_all}
use Rattle.std.specs.Option.{option_map}
use Rattle.std.proofs.lemmas.Option.{none-some, same_Some}
use Rattle.pl_base.specs.Windows.{Window}
use Rattle.pl_cone.specs.Table.{AreRows, member_of, walked_by}
use Rattle.pl_cone.specs.Taken.{object_by}
use Rattle.pl_cone.specs.declared.taken.Taken.{Taken}
use Rattle.pl_conflict.specs.Prelinked.{Firm, objects_of, slots_of}
use Rattle.pl_object.specs.declared.object.Object.{Object}
use Rattle.pl_scope.specs.Scope.{objects}
use Rattle.pl_rewrite.specs.Rows.{IsFirmAt, firm_by, firm_in, firms_of, number_at, places_of, walk_of}
use Rattle.pl_rewrite.specs.declared.numbers.Numbered.{Numbered}

-- ---- lists of which nothing is left out

count_less : {A B : Type 0} (f : A → Option B) (xs : List A) → length (filter_map f xs) ≤ length xs
count_less f [] = omega arith
count_less f (x ∷ xs) = elim (f x) as (λ o. length (cons_option o (filter_map f xs)) ≤ length (x ∷ xs)) [
  | None ↦ omega (arith, count_less f xs)
  | Some y ↦ omega (arith, count_less f xs)
]

full_cons : {A B : Type 0} (f : A → Option B) (x : A) (xs : List A) (o : Option B) → f x ≡ o → length (cons_option o (filter_map f xs)) ≡ length (x ∷ xs) → (length (filter_map f xs) ≡ length xs → AllZip (λ x y. f x ≡ Some y) xs (filter_map f xs))
    → AllZip (λ x y. f x ≡ Some y) (x ∷ xs) (cons_option o (filter_map f xs))
full_cons f x xs None is whole rest = absurd (omega (arith, whole, count_less f xs))
full_cons f x xs (Some y) is whole rest = (is, rest (omega (arith, whole)))

pub full_zip : {A B : Type 0} (f : A → Option B) (xs : List A) → length (filter_map f xs) ≡ length xs → AllZip (λ x y. f x ≡ Some y) xs (filter_map f xs)
full_zip f [] whole = tt
full_zip f (x ∷ xs) whole = full_cons f x xs (f x) refl whole (full_zip f xs)

-- two that leave out the same
same_count : {A B C : Type 0} (f : A → Option B) (g : A → Option C) (h : B → C) (xs : List A) → ((x : A) → option_map h (f x) ≡ g x) → map h (filter_map f xs) ≡ filter_map g xs
same_count f g h [] same = refl
same_count {C = C} f g h (x ∷ xs) same =
    step h (f x) (filter_map f xs) ∙ ap (λ (o : Option C). cons_option o (map h (filter_map f xs))) (same x) ∙ ap (cons_option (g x)) (same_count f g h xs same)
  where
    step : {B C : Type 0} (h : B → C) (o : Option B) (ys : List B) → map h (cons_option o ys) ≡ cons_option (option_map h o) (map h ys)
    step h None ys = refl
    step h (Some y) ys = refl

-- ---- members and rows

abbrev pub named_of : Firm → List ℕ × Object
named_of r = (r.member.name, r.object)

member_by : (n : Numbered) (row : ℕ) (t : Taken) (o : Option Object) → option_map named_of (option_map (firm_by n row t) o) ≡ option_map (λ x. (t.name, x)) o
member_by n row t None = refl
member_by n row t (Some x) = refl

member_same : (n : Numbered) (row : ℕ) (t : Option Taken) → option_map named_of (firm_in n row t) ≡ member_of t
member_same n row None = refl
member_same n row (Some t) = member_by n row t (object_by t.entry)

-- the members are those of the walk, with their numbers
pub firms_named : (n : Numbered) (row : ℕ) → map named_of (firms_of n row) ≡ walked_by n.files.now (walk_of n row)
firms_named n row = same_count (λ r. firm_in n r (slice_get n.files.now r)) (λ r. member_of (slice_get n.files.now r)) named_of (walk_of n row) (λ r. member_same n r (slice_get n.files.now r))

objects_named : (rs : List Firm) → objects (map named_of rs) ≡ objects_of rs
objects_named [] = refl
objects_named (r ∷ rs) = ap (λ (os : List Object). r.object ∷ os) (objects_named rs)

pub firm_objects : (n : Numbered) (row : ℕ) → objects (walked_by n.files.now (walk_of n row)) ≡ objects_of (firms_of n row)
firm_objects n row = ap objects (sym (firms_named n row)) ∙ objects_named (firms_of n row)

length_named : (rs : List Firm) → length (map named_of rs) ≡ length rs
length_named [] = refl
length_named (r ∷ rs) = ap suc (length_named rs)

-- one for each row of a walk
pub firms_zip : (n : Numbered) (row : ℕ) → AreRows n.files.now (walk_of n row) → AllZip (IsFirmAt n) (walk_of n row) (firms_of n row)
firms_zip n row are = full_zip (λ r. firm_in n r (slice_get n.files.now r)) (walk_of n row) (sym (length_named (firms_of n row)) ∙ ap length (firms_named n row) ∙ are.each)

-- ---- what is asked of rows is asked of members

pub zip_tests : (n : Numbered) (f : ℕ → Bool) (p : Firm → Bool) (rows : List ℕ) (rs : List Firm) → ((row : ℕ) (r : Firm) → IsFirmAt n row r → f row ≡ p r) → AllZip (IsFirmAt n) rows rs → list_all f rows ≡ list_all p rs
zip_tests n f p [] [] same zip = refl
zip_tests n f p [] (r ∷ rs) same zip = absurd zip
zip_tests n f p (row ∷ rows) [] same zip = absurd zip
zip_tests n f p (row ∷ rows) (r ∷ rs) same zip = rw (same row r zip.0, zip_tests n f p rows rs same zip.1) refl

pub zip_flat : (n : Numbered) (f : ℕ → List Window) (g : Firm → List Window) (rows : List ℕ) (rs : List Firm) → ((row : ℕ) (r : Firm) → IsFirmAt n row r → f row ≡ g r) → AllZip (IsFirmAt n) rows rs → flat_map f rows ≡ flat_map g rs
zip_flat n f g [] [] same zip = refl
zip_flat n f g [] (r ∷ rs) same zip = absurd zip
zip_flat n f g (row ∷ rows) [] same zip = absurd zip
zip_flat n f g (row ∷ rows) (r ∷ rs) same zip = rw (same row r zip.0, zip_flat n f g rows rs same zip.1) refl

-- the number of a member is its row's
firm_fields : (n : Numbered) (row : ℕ) (t : Taken) (o : Option Object) (r : Firm) → option_map (firm_by n row t) o ≡ Some r → (x : Object) × (o ≡ Some x) × (firm_by n row t x ≡ r)
firm_fields n row t None r e = absurd (none-some r e)
firm_fields n row t (Some x) r e = (x, refl, same_Some (firm_by n row t x) r e)

-- a member by its row
pub record IsRowOf (n : Numbered) (row : ℕ) (r : Firm) : Type 0 where
  pub taken : Taken
  pub at : slice_get n.files.now row ≡ Some taken
  pub object : object_by taken.entry ≡ Some r.object
  pub is : firm_by n row taken r.object ≡ r

row_by : (n : Numbered) (row : ℕ) (t : Option Taken) (r : Firm) → slice_get n.files.now row ≡ t → firm_in n row t ≡ Some r → IsRowOf n row r
row_by n row None r at e = absurd (none-some r e)
row_by n row (Some t) r at e =
    let f = firm_fields n row t (object_by t.entry) r e in
    let same : f.0 ≡ r.object = ap (λ (x : Firm). x.object) f.2 in
    record { taken = t; at = at; object = f.1 ∙ ap (λ (o : Object). Some o) same; is = subst (λ (o : Object). firm_by n row t o ≡ r) same f.2 }

pub row_of : (n : Numbered) (row : ℕ) (r : Firm) → IsFirmAt n row r → IsRowOf n row r
row_of n row r e = row_by n row (slice_get n.files.now row) r refl e

pub row_slot : (n : Numbered) (row : ℕ) (r : Firm) → IsFirmAt n row r → r.member.slot ≡ number_at n.places.now row
row_slot n row r e = ap (λ (x : Firm). x.member.slot) (sym (row_of n row r e).is)

zip_slots : (n : Numbered) (rows : List ℕ) (rs : List Firm) → AllZip (IsFirmAt n) rows rs → slots_of rs ≡ places_of n.places.now rows
zip_slots n [] [] zip = refl
zip_slots n [] (r ∷ rs) zip = absurd zip
zip_slots n (row ∷ rows) [] zip = absurd zip
zip_slots n (row ∷ rows) (r ∷ rs) zip = ap (λ (k : ℕ). k ∷ slots_of rs) (row_slot n row r zip.0) ∙ ap (λ (ks : List ℕ). number_at n.places.now row ∷ ks) (zip_slots n rows rs zip.1)

-- the members stand at the places of their rows
pub firm_slots : (n : Numbered) (row : ℕ) → AreRows n.files.now (walk_of n row) → slots_of (firms_of n row) ≡ places_of n.places.now (walk_of n row)
firm_slots n row are = zip_slots n (walk_of n row) (firms_of n row) (firms_zip n row are)

-- the member of an index
pub firm_index : (n : Numbered) (rows : List ℕ) (rs : List Firm) (m : ℕ) (r : Firm) → AllZip (IsFirmAt n) rows rs → slice_get rs m ≡ Some r → (row : ℕ) × (slice_get rows m ≡ Some row) × IsFirmAt n row r
firm_index n [] [] m r zip e = absurd (none-some r e)
firm_index n [] (x ∷ rs) m r zip e = absurd zip
firm_index n (row ∷ rows) [] m r zip e = absurd zip
firm_index n (row ∷ rows) (x ∷ rs) zero r zip e = (row, refl, subst (IsFirmAt n row) (same_Some x r e) zip.0)
firm_index n (row ∷ rows) (x ∷ rs) (suc m) r zip e = firm_index n rows rs m r zip.1 e
