-- The tags of a table whose address tags moved: the table is read as it was, and the values of address tags moved.
use Rattle.std.proofs.Common.{◌≡◌, ℕ, ◌-◌, Bool, true, false, List, [], ◌∷◌, length, map, drop, Option, Some, None, Result, Ok, refl, ap, ◌∙◌, inl, inr}
use Rattle.std.specs.Prelude.{◌&&◌, ◌==◌, not, nat_lt, find, count_by, is_some, unwrap_or, if◌then◌else◌}
use Rattle.std.specs.List.{list_all, position_or_len}
use Rattle.std.specs.Option.{option_map}
use Rattle.std.proofs.lemmas.Bool.{cases_Bool, eqb-true}
use Rattle.std.proofs.lemmas.List.{drop-map}
use Rattle.pl_base.specs.Answers.{unless_found}
use Rattle.pl_base.specs.Sums.{plus}
use Rattle.pl_base.proofs.AnswerLaws.{unless_ok, ok_same}
use Rattle.pl_base.proofs.FindLaws.{find_passes}
use Rattle.pl_dyn.specs.Entries.{entries, is_null, is_ended, null_count, only_nulls_follow, tags}
use Rattle.pl_dyn.specs.Kinds.{is_address_tag, is_unknown}
use Rattle.pl_dyn.specs.Read.{read, has_number, stands_twice, first_unknown, first_twice, first_of, value_in, value_of}
use Rattle.pl_dyn.specs.declared.constants.TheConstants.{DT_NEEDED}
use Rattle.pl_dyn.specs.declared.dynamic.Dynamic.{Dynamic}
use Rattle.pl_dyn.specs.declared.fault.DynFault.{DynFault}
use Rattle.pl_dyn.specs.declared.fault.DynFault.TheVariants.{NoEnd, UnknownTag, Twice}
use Rattle.pl_dyn.specs.declared.tags.Tag.{Tag}
use Rattle.pl_object.specs.Tables.{has_tag, value}
use Rattle.law_fixed.proofs.LookupLaws.{count_kept}
use Rattle.pl_pie.proofs.RowOfLaws.{moved_tag, number_kept, nulls_moved, tags_moved}

-- ---- lists that are mapped

pub find_kept : {X Y : Type 0} (p : Y → Bool) (q : X → Bool) (f : X → Y) (xs : List X) → ((x : X) → p (f x) ≡ q x) → find p (map f xs) ≡ option_map f (find q xs)
find_kept p q f [] same = refl
find_kept p q f (x ∷ xs) same = elim (cases_Bool (q x)) [
  | inl hit ↦ rw (same x, hit) refl
  | inr miss ↦ rw (same x, miss) (find_kept p q f xs same)
]

all_kept : {X Y : Type 0} (p : Y → Bool) (q : X → Bool) (f : X → Y) (xs : List X) → ((x : X) → p (f x) ≡ q x) → list_all p (map f xs) ≡ list_all q xs
all_kept p q f [] same = refl
all_kept p q f (x ∷ xs) same = rw (same x, all_kept p q f xs same) refl

-- ---- one tag

null_kept : (w : ℕ) (t : Tag) → is_null (moved_tag w t) ≡ is_null t
null_kept w t = ap (λ (n : ℕ). n == 0) (number_kept w t)

has_kept : (w number : ℕ) (t : Tag) → has_number number (moved_tag w t) ≡ has_number number t
has_kept w number t = ap (λ (n : ℕ). n == number) (number_kept w t)

value_kept : (w : ℕ) (t : Tag) → (moved_tag w t).value ≡ (if is_address_tag t.number then plus t.value w else t.value)
unfolding moved_tag
value_kept w t = elim (cases_Bool (is_address_tag t.number)) [ inl hit ↦ rw hit refl | inr miss ↦ rw miss refl ]

-- ---- the table

null_count_moved : (w : ℕ) (old new : List ℕ) → entries new ≡ map (moved_tag w) (entries old) → null_count new ≡ null_count old
unfolding null_count
null_count_moved w old new is = ap (count_by is_null) is ∙ count_kept is_null is_null (moved_tag w) (entries old) (λ i d lt. null_kept w _)

only_nulls_moved : (w : ℕ) (old new : List ℕ) → entries new ≡ map (moved_tag w) (entries old) → only_nulls_follow new ≡ only_nulls_follow old
unfolding only_nulls_follow
only_nulls_moved w old new is =
    ap (λ (ts : List Tag). list_all is_null (drop (position_or_len is_null ts) ts)) is
    ∙ ap (λ (n : ℕ). list_all is_null (drop n (map (moved_tag w) (entries old)))) (nulls_moved w (entries old))
    ∙ ap (list_all is_null) (drop-map (moved_tag w) (position_or_len is_null (entries old)) (entries old))
    ∙ all_kept is_null is_null (moved_tag w) (drop (position_or_len is_null (entries old)) (entries old)) (null_kept w)

ended_moved : (w : ℕ) (old new : List ℕ) → length new ≡ length old → entries new ≡ map (moved_tag w) (entries old) → is_ended new ≡ is_ended old
unfolding is_ended
ended_moved w old new size is = rw (size, null_count_moved w old new is, only_nulls_moved w old new is) refl

twice_moved : (w number : ℕ) (ts : List Tag) → stands_twice (map (moved_tag w) ts) number ≡ stands_twice ts number
unfolding stands_twice
twice_moved w number ts = ap (λ (n : ℕ). nat_lt 1 n) (count_kept (has_number number) (has_number number) (moved_tag w) ts (λ i d lt. has_kept w number _))

first_unknown_moved : (w : ℕ) (ts : List Tag) → first_unknown (map (moved_tag w) ts) ≡ option_map (moved_tag w) (first_unknown ts)
unfolding first_unknown
first_unknown_moved w ts = find_kept (λ t. is_unknown t.number) (λ t. is_unknown t.number) (moved_tag w) ts (λ t. ap is_unknown (number_kept w t))

first_twice_moved : (w : ℕ) (ts : List Tag) → first_twice (map (moved_tag w) ts) ≡ option_map (moved_tag w) (first_twice ts)
unfolding first_twice
first_twice_moved w ts =
    find_kept (λ t. not (t.number == DT_NEEDED) && stands_twice (map (moved_tag w) ts) t.number) (λ t. not (t.number == DT_NEEDED) && stands_twice ts t.number) (moved_tag w) ts
    (λ t. ap (λ (n : ℕ). not (n == DT_NEEDED) && stands_twice (map (moved_tag w) ts) n) (number_kept w t) ∙ ap (λ (b : Bool). not (t.number == DT_NEEDED) && b) (twice_moved w t.number ts))

unfound : {A X E : Type 0} (found : Option A) (fault : A → E) (next : Result X E) (x : X) → unless_found found fault next ≡ Ok x → (found ≡ None) × (next ≡ Ok x)
unfound (Some a) fault next x e = absurd cc
unfound None fault next x e = (refl, e)

-- what is read of the table
unfoldable pub moved_dynamic : ℕ → Dynamic → Dynamic
moved_dynamic w d = record { tags = map (moved_tag w) d.tags; spare = d.spare }

pub read_moved : (w : ℕ) (old new : List ℕ) (d : Dynamic) → length new ≡ length old → entries new ≡ map (moved_tag w) (entries old) → read old ≡ Ok d → read new ≡ Ok (moved_dynamic w d)
unfolding read moved_dynamic
read_moved w old new d size is e =
    let ts : List Tag = tags old in
    let last : Result Dynamic DynFault = Ok (record { tags = ts; spare = null_count old - 1 }) in
    let a = unless_ok (not (is_ended old)) NoEnd _ d e in
    let b = unfound (first_unknown ts) (λ t. UnknownTag t.number) _ d a.1 in
    let c = unfound (first_twice ts) (λ t. Twice t.number) last d b.1 in
    let made = ok_same _ d c.1 in
    let known : first_unknown (map (moved_tag w) ts) ≡ None = first_unknown_moved w ts ∙ ap (option_map (moved_tag w)) b.0 in
    let once : first_twice (map (moved_tag w) ts) ≡ None = first_twice_moved w ts ∙ ap (option_map (moved_tag w)) c.0 in
    rw (ended_moved w old new size is, a.0, tags_moved w old new is, known, once, null_count_moved w old new is)
    (ap (λ (x : Dynamic). Ok (record { tags = map (moved_tag w) x.tags; spare = x.spare })) made)

-- ---- values by their numbers

value_of_moved : (w number : ℕ) (ts : List Tag) → value_of number (map (moved_tag w) ts) ≡ option_map (λ v. if is_address_tag number then plus v w else v) (value_of number ts)
unfolding value_of first_of
value_of_moved w number ts = ap value_in (find_kept (has_number number) (has_number number) (moved_tag w) ts (has_kept w number)) ∙ of_found (find (has_number number) ts) refl
  where
    of_found : (m : Option Tag) → find (has_number number) ts ≡ m → value_in (option_map (moved_tag w) m) ≡ option_map (λ v. if is_address_tag number then plus v w else v) (value_in m)
    of_found None e = refl
    of_found (Some t) e =
        let same : t.number ≡ number = eqb-true t.number number (find_passes (has_number number) ts t e) in
        ap (λ (v : ℕ). Some v) (value_kept w t ∙ ap (λ (n : ℕ). if is_address_tag n then plus t.value w else t.value) same)

some_kept : (f : ℕ → ℕ) (m : Option ℕ) → is_some (option_map f m) ≡ is_some m
some_kept f None = refl
some_kept f (Some v) = refl

pub has_moved : (w number : ℕ) (ts : List Tag) → has_tag number (map (moved_tag w) ts) ≡ has_tag number ts
has_moved w number ts = ap is_some (value_of_moved w number ts) ∙ some_kept _ (value_of number ts)

-- a value that is no address stays
pub value_stays : (w number : ℕ) (ts : List Tag) → is_address_tag number ≡ false → value number (map (moved_tag w) ts) ≡ value number ts
value_stays w number ts plain = ap (λ (m : Option ℕ). unwrap_or m 0) (value_of_moved w number ts) ∙ rw plain (same (value_of number ts))
  where
    same : (m : Option ℕ) → unwrap_or (option_map (λ v. v) m) 0 ≡ unwrap_or m 0
    same None = refl
    same (Some v) = refl

-- one that is an address moves
pub value_moves : (w number : ℕ) (ts : List Tag) → is_address_tag number ≡ true → has_tag number ts ≡ true → value number (map (moved_tag w) ts) ≡ plus (value number ts) w
value_moves w number ts address there = ap (λ (m : Option ℕ). unwrap_or m 0) (value_of_moved w number ts) ∙ rw address (same (value_of number ts) there)
  where
    same : (m : Option ℕ) → is_some m ≡ true → unwrap_or (option_map (λ v. plus v w) m) 0 ≡ plus (unwrap_or m 0) w
    same None h = absurd cc
    same (Some v) h = refl
