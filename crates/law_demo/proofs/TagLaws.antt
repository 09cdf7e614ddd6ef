-- The dynamic table of a plan is read as its tags.
use Rattle.std.proofs.Common.{◌≡◌, ℕ, zero, suc, ◌+◌, ◌-◌, ◌*◌, ◌%◌, ◌≤◌, Bool, true, false, List, [], ◌∷◌, ◌++◌, length, map, None, Result, Ok, refl, sym, ap, subst, ◌∙◌, append_assoc, arith, inl, inr}
use Rattle.std.specs.Prelude.{not, ◌==◌, ◌&&◌, nat_lt, find, count_by, cond}
use Rattle.std.specs.List.{AllByRecursion, flat_map, list_all, list_any, position_or_len, range_with_len}
use Rattle.std.proofs.lemmas.Bool.{cases_Bool, false≢true, and_parts}
use Rattle.std.proofs.lemmas.Bool.Decides.{nat_tests}
use Rattle.std.proofs.lemmas.List.Concat.{flat_map-append}
use Rattle.std.proofs.lemmas.List.Sums.{sum_by-append, sum_by-cons}
use Rattle.std.proofs.Math.Seq.{take-append_seam, drop-append_seam}
use Rattle.pl_dyn.specs.Entries.{entries, is_null, tags, only_nulls_follow, null_count, is_ended}
use Rattle.pl_dyn.specs.Kinds.{is_address_tag, is_value_tag, is_prelink_tag, is_listed, is_unknown}
use Rattle.pl_dyn.specs.Read.{has_number, stands_twice, first_unknown, first_twice, read}
use Rattle.pl_dyn.specs.declared.dynamic.Dynamic.{Dynamic}
use Rattle.pl_dyn.specs.declared.fault.DynFault.{DynFault}
use Rattle.pl_dyn.specs.declared.tags.Tag.{Tag}
use Rattle.pl_build.specs.declared.layout_plan.LayoutPlan.{LayoutPlan}
use Rattle.pl_build.specs.declared.roles.PlacedSection.{PlacedSection}
use Rattle.pl_build.specs.Choices.{chosen}
use Rattle.pl_build.specs.Dynamic.{tag, tag_bytes, end_tag, needed_tags, table_tags, relocation_tags, packed_tags, version_tags, usual_tags, spare_tags, dynamic_table}
use Rattle.pl_build.specs.StringTable.{text_at}
use Rattle.law_demo.specs.Rows.{FitsTag}
use Rattle.law_demo.specs.Tags.{planned_tags, DynamicIsRead}
use Rattle.law_demo.proofs.HeadLaws.{all_append}
use Rattle.law_demo.proofs.RoleLaws.{all_chosen}
use Rattle.law_demo.proofs.RowLaws.{entries_read, tag_long}
use Rattle.law_demo.proofs.BackLaws.{rows_long}

-- ---- how often a number stands

count_append : {X : Type 0} (p : X → Bool) (xs ys : List X) → count_by p (xs ++ ys) ≡ count_by p xs + count_by p ys
count_append p xs ys = sum_by-append (λ x. cond (p x) 1 0) xs ys

count_no : {X : Type 0} (p : X → Bool) (x : X) (xs : List X) → p x ≡ false → count_by p (x ∷ xs) ≡ count_by p xs
count_no p x xs h =
    let one : ◌≡◌ {A = ℕ} (cond (p x) 1 0) 0 = rw h refl in
    omega (arith, sum_by-cons (λ y. cond (p y) 1 0) x xs, one)

count_yes : {X : Type 0} (p : X → Bool) (x : X) (xs : List X) → p x ≡ true → count_by p (x ∷ xs) ≡ count_by p xs + 1
count_yes p x xs h =
    let one : ◌≡◌ {A = ℕ} (cond (p x) 1 0) 1 = rw h refl in
    omega (arith, sum_by-cons (λ y. cond (p y) 1 0) x xs, one)

abbrev pub is_number : ℕ → ℕ → Bool
is_number n m = m == n

-- each number once
abbrev pub distinct : List ℕ → Bool
distinct [] = true
distinct (n ∷ ns) = not (list_any (is_number n) ns) && distinct ns

count_none : (n : ℕ) (ns : List ℕ) → list_any (is_number n) ns ≡ false → count_by (is_number n) ns ≡ 0
count_none n [] none = refl
count_none n (m ∷ ns) none = elim (cases_Bool (m == n)) [
  | inl hit ↦ absurd (false≢true (sym (rw hit at none)))
  | inr miss ↦ count_no (is_number n) m ns miss ∙ count_none n ns (rw miss at none)
]

count_once : (n : ℕ) (ns : List ℕ) → distinct ns ≡ true → count_by (is_number n) ns ≤ 1
count_once n [] h = omega arith
count_once n (m ∷ ns) h =
    let parts = and_parts (not (list_any (is_number m) ns)) (distinct ns) h in
    elim (cases_Bool (m == n)) [
      | inl hit ↦
          let none : list_any (is_number n) ns ≡ false = subst (λ (x : ℕ). list_any (is_number x) ns ≡ false) (same_number m n hit) (not_true (list_any (is_number m) ns) parts.0) in
          omega (arith, count_yes (is_number n) m ns hit, count_none n ns none)
      | inr miss ↦ omega (arith, count_no (is_number n) m ns miss, count_once n ns parts.1)
    ]
  where
    same_number : (a b : ℕ) → (a == b) ≡ true → a ≡ b
    same_number a b h = grind (arith, nat_tests)

    not_true : (b : Bool) → not b ≡ true → b ≡ false
    not_true true h = absurd (false≢true h)
    not_true false h = refl

-- of rows that are chosen, no number stands more often than among all
abbrev pub numbers_of : List (Bool × Tag) → List ℕ
numbers_of cs = map (λ c. c.1.number) cs

chosen_count : (n : ℕ) (cs : List (Bool × Tag)) → count_by (has_number n) (chosen cs) ≤ count_by (is_number n) (numbers_of cs)
unfolding chosen
chosen_count n [] = omega arith
chosen_count n (c ∷ cs) =
    let more = chosen_count n cs in
    elim (cases_Bool (c.1.number == n)) [
      | inl hit ↦
          let all : count_by (is_number n) (c.1.number ∷ numbers_of cs) ≡ count_by (is_number n) (numbers_of cs) + 1 = count_yes (is_number n) c.1.number (numbers_of cs) hit in
          elim (cases_Bool c.0) [
            | inl there ↦
                let le : count_by (has_number n) (c.1 ∷ chosen cs) ≤ count_by (is_number n) (c.1.number ∷ numbers_of cs) = omega (arith, more, all, count_yes (has_number n) c.1 (chosen cs) hit) in
                rw there le
            | inr missing ↦
                let le : count_by (has_number n) (chosen cs) ≤ count_by (is_number n) (c.1.number ∷ numbers_of cs) = omega (arith, more, all) in
                rw missing le
          ]
      | inr miss ↦
          let all : count_by (is_number n) (c.1.number ∷ numbers_of cs) ≡ count_by (is_number n) (numbers_of cs) = count_no (is_number n) c.1.number (numbers_of cs) miss in
          elim (cases_Bool c.0) [
            | inl there ↦
                let le : count_by (has_number n) (c.1 ∷ chosen cs) ≤ count_by (is_number n) (c.1.number ∷ numbers_of cs) = omega (arith, more, all, count_no (has_number n) c.1 (chosen cs) miss) in
                rw there le
            | inr missing ↦
                let le : count_by (has_number n) (chosen cs) ≤ count_by (is_number n) (c.1.number ∷ numbers_of cs) = omega (arith, more, all) in
                rw missing le
          ]
    ]

table_count : (n : ℕ) (p : LayoutPlan) (places : List PlacedSection) → count_by (has_number n) (table_tags p places) ≤ count_by (is_number n) (4 ∷ 0x6ffffef5 ∷ 5 ∷ 6 ∷ 10 ∷ 11 ∷ 16 ∷ [])
unfolding table_tags
table_count n p places = chosen_count n _

relocation_count : (n : ℕ) (places : List PlacedSection) → count_by (has_number n) (relocation_tags places) ≤ count_by (is_number n) (2 ∷ 20 ∷ 23 ∷ 7 ∷ 8 ∷ 9 ∷ [])
unfolding relocation_tags
relocation_count n places = chosen_count n _

packed_count : (n : ℕ) (places : List PlacedSection) → count_by (has_number n) (packed_tags places) ≤ count_by (is_number n) (36 ∷ 35 ∷ 37 ∷ [])
unfolding packed_tags
packed_count n places = chosen_count n _

version_count : (n : ℕ) (p : LayoutPlan) (places : List PlacedSection) → count_by (has_number n) (version_tags p places) ≤ count_by (is_number n) (0x6ffffff0 ∷ 0x6ffffffc ∷ 0x6ffffffd ∷ 0x6ffffffe ∷ 0x6fffffff ∷ [])
unfolding version_tags
version_count n p places = chosen_count n _

usual_count : (n : ℕ) (p : LayoutPlan) → count_by (has_number n) (usual_tags p) ≤ count_by (is_number n) (21 ∷ 24 ∷ 30 ∷ 0x6ffffffb ∷ [])
unfolding usual_tags
usual_count n p = chosen_count n _

needed_count : (n : ℕ) (p : LayoutPlan) (names : List (List ℕ)) → (1 == n) ≡ false → count_by (has_number n) (map (λ name. tag 1 (text_at p.strings name)) names) ≡ 0
needed_count n p [] other = refl
needed_count n p (name ∷ names) other = count_no (has_number n) (tag 1 (text_at p.strings name)) (map (λ name. tag 1 (text_at p.strings name)) names) other ∙ needed_count n p names other

all_numbers : List ℕ
all_numbers = 4 ∷ 0x6ffffef5 ∷ 5 ∷ 6 ∷ 10 ∷ 11 ∷ 16 ∷ 2 ∷ 20 ∷ 23 ∷ 7 ∷ 8 ∷ 9 ∷ 36 ∷ 35 ∷ 37 ∷ 0x6ffffff0 ∷ 0x6ffffffc ∷ 0x6ffffffd ∷ 0x6ffffffe ∷ 0x6fffffff ∷ 21 ∷ 24 ∷ 30 ∷ 0x6ffffffb ∷ []

once : (n : ℕ) → count_by (is_number n) (4 ∷ 0x6ffffef5 ∷ 5 ∷ 6 ∷ 10 ∷ 11 ∷ 16 ∷ []) + count_by (is_number n) (2 ∷ 20 ∷ 23 ∷ 7 ∷ 8 ∷ 9 ∷ []) + count_by (is_number n) (36 ∷ 35 ∷ 37 ∷ [])
    + count_by (is_number n) (0x6ffffff0 ∷ 0x6ffffffc ∷ 0x6ffffffd ∷ 0x6ffffffe ∷ 0x6fffffff ∷ []) + count_by (is_number n) (21 ∷ 24 ∷ 30 ∷ 0x6ffffffb ∷ []) ≤ 1
unfolding all_numbers
once n =
    let q : ℕ → Bool = is_number n in
    let a : List ℕ = 4 ∷ 0x6ffffef5 ∷ 5 ∷ 6 ∷ 10 ∷ 11 ∷ 16 ∷ [] in
    let b : List ℕ = 2 ∷ 20 ∷ 23 ∷ 7 ∷ 8 ∷ 9 ∷ [] in
    let c : List ℕ = 36 ∷ 35 ∷ 37 ∷ [] in
    let d : List ℕ = 0x6ffffff0 ∷ 0x6ffffffc ∷ 0x6ffffffd ∷ 0x6ffffffe ∷ 0x6fffffff ∷ [] in
    let e : List ℕ = 21 ∷ 24 ∷ 30 ∷ 0x6ffffffb ∷ [] in
    sums (count_by q a) (count_by q b) (count_by q c) (count_by q d) (count_by q e) (count_by q (a ++ b)) (count_by q (a ++ b ++ c)) (count_by q (a ++ b ++ c ++ d)) (count_by q all_numbers)
    (count_append q a b) (count_append q (a ++ b) c) (count_append q (a ++ b ++ c) d) (count_append q (a ++ b ++ c ++ d) e) (count_once n all_numbers refl)
  where
    sums : (a b c d e ab abc abcd all : ℕ) → ab ≡ a + b → abc ≡ ab + c → abcd ≡ abc + d → all ≡ abcd + e → all ≤ 1 → a + b + c + d + e ≤ 1
    sums a b c d e ab abc abcd all one two three four le = omega (arith, one, two, three, four, le)

planned_once : (n : ℕ) (p : LayoutPlan) (places : List PlacedSection) → (1 == n) ≡ false → count_by (has_number n) (planned_tags p places) ≤ 1
unfolding planned_tags needed_tags
planned_once n p places other =
    let q : Tag → Bool = has_number n in
    let needed : List Tag = needed_tags p in
    let a : List Tag = table_tags p places in
    let b : List Tag = relocation_tags places in
    let c : List Tag = packed_tags places in
    let d : List Tag = version_tags p places in
    let e : List Tag = usual_tags p in
    omega (
      arith,
      once n,
      needed_count n p p.needed other,
      table_count n p places,
      relocation_count n places,
      packed_count n places,
      version_count n p places,
      usual_count n p,
      count_append q needed a,
      count_append q (needed ++ a) b,
      count_append q (needed ++ a ++ b) c,
      count_append q (needed ++ a ++ b ++ c) d,
      count_append q (needed ++ a ++ b ++ c ++ d) e,
    )

-- ---- each tag is known, and none ends the table

abbrev pub IsKnown : Tag → Type 0
IsKnown t = (is_null t ≡ false) × (is_unknown t.number ≡ false)

needed_known : (p : LayoutPlan) (names : List (List ℕ)) → AllByRecursion IsKnown (map (λ name. tag 1 (text_at p.strings name)) names)
unfolding is_unknown is_listed is_address_tag is_value_tag is_prelink_tag
needed_known p [] = tt
needed_known p (name ∷ names) = ((refl, refl), needed_known p names)

table_known : (p : LayoutPlan) (places : List PlacedSection) → AllByRecursion IsKnown (table_tags p places)
unfolding table_tags is_unknown is_listed is_address_tag is_value_tag is_prelink_tag
table_known p places = all_chosen IsKnown _ (λ _. (refl, refl), (λ _. (refl, refl), (λ _. (refl, refl), (λ _. (refl, refl), (λ _. (refl, refl), (λ _. (refl, refl), (λ _. (refl, refl), tt)))))))

relocation_known : (places : List PlacedSection) → AllByRecursion IsKnown (relocation_tags places)
unfolding relocation_tags is_unknown is_listed is_address_tag is_value_tag is_prelink_tag
relocation_known places = all_chosen IsKnown _ (λ _. (refl, refl), (λ _. (refl, refl), (λ _. (refl, refl), (λ _. (refl, refl), (λ _. (refl, refl), (λ _. (refl, refl), tt))))))

packed_known : (places : List PlacedSection) → AllByRecursion IsKnown (packed_tags places)
unfolding packed_tags is_unknown is_listed is_address_tag is_value_tag is_prelink_tag
packed_known places = all_chosen IsKnown _ (λ _. (refl, refl), (λ _. (refl, refl), (λ _. (refl, refl), tt)))

version_known : (p : LayoutPlan) (places : List PlacedSection) → AllByRecursion IsKnown (version_tags p places)
unfolding version_tags is_unknown is_listed is_address_tag is_value_tag is_prelink_tag
version_known p places = all_chosen IsKnown _ (λ _. (refl, refl), (λ _. (refl, refl), (λ _. (refl, refl), (λ _. (refl, refl), (λ _. (refl, refl), tt)))))

usual_known : (p : LayoutPlan) → AllByRecursion IsKnown (usual_tags p)
unfolding usual_tags is_unknown is_listed is_address_tag is_value_tag is_prelink_tag
usual_known p = all_chosen IsKnown _ (λ _. (refl, refl), (λ _. (refl, refl), (λ _. (refl, refl), (λ _. (refl, refl), tt))))

planned_known : (p : LayoutPlan) (places : List PlacedSection) → AllByRecursion IsKnown (planned_tags p places)
unfolding planned_tags needed_tags
planned_known p places =
    let needed : List Tag = needed_tags p in
    let a : List Tag = table_tags p places in
    let b : List Tag = relocation_tags places in
    let c : List Tag = packed_tags places in
    let d : List Tag = version_tags p places in
    all_append IsKnown (needed ++ a ++ b ++ c ++ d) (usual_tags p)
    (all_append IsKnown (needed ++ a ++ b ++ c) d
    (all_append IsKnown (needed ++ a ++ b) c
    (all_append IsKnown (needed ++ a) b
    (all_append IsKnown needed a (needed_known p p.needed) (table_known p places)) (relocation_known places)) (packed_known places)) (version_known p places)) (usual_known p)

none_found : (q : Tag → Bool) (ts : List Tag) → ((t : Tag) → q t ≡ false) → find q ts ≡ None
none_found q [] none = refl
none_found q (t ∷ ts) none = rw (none t) (none_found q ts none)

no_unknown : (ts : List Tag) → AllByRecursion IsKnown ts → first_unknown ts ≡ None
unfolding first_unknown
no_unknown [] all = refl
no_unknown (t ∷ ts) all = rw all.0.1 (no_unknown ts all.1)

no_twice : (ts : List Tag) → ((n : ℕ) → (1 == n) ≡ false → count_by (has_number n) ts ≤ 1) → first_twice ts ≡ None
unfolding first_twice stands_twice
no_twice ts once = none_found (λ t. not (t.number == 1) && nat_lt 1 (count_by (has_number t.number) ts)) ts (λ t. one t.number)
  where
    flipped : (n : ℕ) → (n == 1) ≡ false → (1 == n) ≡ false
    flipped n h = grind (arith, nat_tests)

    not_above : (c : ℕ) → c ≤ 1 → nat_lt 1 c ≡ false
    not_above c le = grind (arith, nat_tests)

    one : (n : ℕ) → (not (n == 1) && nat_lt 1 (count_by (has_number n) ts)) ≡ false
    one n = elim (cases_Bool (n == 1)) [
      | inl needed ↦ rw needed refl
      | inr other ↦ rw (other, not_above (count_by (has_number n) ts) (once n (flipped n other))) refl
    ]

-- ---- the entries

joined : (xs ys : List Tag) → flat_map tag_bytes xs ++ flat_map tag_bytes ys ≡ flat_map tag_bytes (xs ++ ys)
joined xs ys = sym (flat_map-append tag_bytes xs ys)

pub table_is : (p : LayoutPlan) (places : List PlacedSection) → dynamic_table p places ≡ flat_map tag_bytes (planned_tags p places ++ end_tag ∷ spare_tags p)
unfolding dynamic_table planned_tags
table_is p places =
    let bytes : List Tag → List ℕ = λ ts. flat_map tag_bytes ts in
    let needed : List Tag = needed_tags p in
    let a : List Tag = table_tags p places in
    let b : List Tag = relocation_tags places in
    let c : List Tag = packed_tags places in
    let d : List Tag = version_tags p places in
    let e : List Tag = usual_tags p in
    let ended : List Tag = end_tag ∷ [] in
    let spare : List Tag = spare_tags p in
    ap (λ (l : List ℕ). l ++ bytes b ++ bytes c ++ bytes d ++ bytes e ++ bytes ended ++ bytes spare) (joined needed a)
    ∙ ap (λ (l : List ℕ). l ++ bytes c ++ bytes d ++ bytes e ++ bytes ended ++ bytes spare) (joined (needed ++ a) b)
    ∙ ap (λ (l : List ℕ). l ++ bytes d ++ bytes e ++ bytes ended ++ bytes spare) (joined (needed ++ a ++ b) c)
    ∙ ap (λ (l : List ℕ). l ++ bytes e ++ bytes ended ++ bytes spare) (joined (needed ++ a ++ b ++ c) d)
    ∙ ap (λ (l : List ℕ). l ++ bytes ended ++ bytes spare) (joined (needed ++ a ++ b ++ c ++ d) e)
    ∙ ap (λ (l : List ℕ). l ++ bytes spare) (joined (needed ++ a ++ b ++ c ++ d ++ e) ended)
    ∙ joined (needed ++ a ++ b ++ c ++ d ++ e ++ ended) spare
    ∙ ap (λ (ts : List Tag). bytes ts) (append_assoc (needed ++ a ++ b ++ c ++ d ++ e) ended spare)

all_ends : (k n : ℕ) (P : Tag → Type 0) → P end_tag → AllByRecursion P (map (λ i. end_tag) (range_with_len k n))
all_ends k zero P h = tt
all_ends k (suc n) P h = (h, all_ends (k + 1) n P h)

ends_count : (k n : ℕ) → count_by is_null (map (λ i. end_tag) (range_with_len k n)) ≡ n
ends_count k zero = refl
ends_count k (suc n) = omega (arith, count_yes is_null end_tag (map (λ i. end_tag) (range_with_len (k + 1) n)) refl, ends_count (k + 1) n)

ends_all : (k n : ℕ) → list_all is_null (map (λ i. end_tag) (range_with_len k n)) ≡ true
ends_all k zero = refl
ends_all k (suc n) = ends_all (k + 1) n

first_null : (ts more : List Tag) → AllByRecursion IsKnown ts → position_or_len is_null (ts ++ end_tag ∷ more) ≡ length ts
first_null [] more all = refl
first_null (t ∷ ts) more all = rw all.0.0 (let rest = first_null ts more all.1 in omega (arith, rest))

known_count : (ts : List Tag) → AllByRecursion IsKnown ts → count_by is_null ts ≡ 0
known_count [] all = refl
known_count (t ∷ ts) all = count_no is_null t ts all.0.0 ∙ known_count ts all.1

-- a table of these tags, its end and so many spare entries
read_rows : (bytes : List ℕ) (ts : List Tag) (spare : ℕ) → entries bytes ≡ ts ++ end_tag ∷ map (λ i. end_tag) (range_with_len 0 spare) → length bytes % 16 ≡ 0 → AllByRecursion IsKnown ts
    → ((n : ℕ) → (1 == n) ≡ false → count_by (has_number n) ts ≤ 1) → read bytes ≡ Ok (record { tags = ts; spare = spare })
unfolding read is_ended only_nulls_follow null_count tags
read_rows bytes ts spare rows even known once =
    let ends : List Tag = map (λ i. end_tag) (range_with_len 0 spare) in
    let position : position_or_len is_null (ts ++ end_tag ∷ ends) ≡ length ts = first_null ts ends known in
    let count : count_by is_null (ts ++ end_tag ∷ ends) ≡ suc spare = omega (arith, count_append is_null ts (end_tag ∷ ends), known_count ts known, count_yes is_null end_tag ends refl, ends_count 0 spare) in
    rw (rows, position, even, count, drop-append_seam ts (end_tag ∷ ends), ends_all 0 spare, take-append_seam ts (end_tag ∷ ends), no_unknown ts known, no_twice ts once, some spare) last
  where
    some : (n : ℕ) → nat_lt 0 (suc n) ≡ true
    some n = grind (arith, nat_tests)

    last : ◌≡◌ {A = Result Dynamic DynFault} (Ok (record { tags = ts; spare = suc spare - 1 })) (Ok (record { tags = ts; spare = spare }))
    last = ap (λ (n : ℕ). Ok (record { tags = ts; spare = n })) (let e : suc spare - 1 ≡ spare = omega arith in e)

pub dynamic_read : DynamicIsRead
unfolding spare_tags
dynamic_read p places fits =
    let rows : List Tag = planned_tags p places ++ end_tag ∷ spare_tags p in
    let all : AllByRecursion FitsTag rows = all_append FitsTag (planned_tags p places) (end_tag ∷ spare_tags p) fits (end_fits, all_ends 0 p.settings.spare FitsTag end_fits) in
    let read_back : entries (dynamic_table p places) ≡ rows = ap entries (table_is p places) ∙ entries_read rows all in
    let long : length (dynamic_table p places) ≡ 16 * length rows = ap (λ (l : List ℕ). length l) (table_is p places) ∙ rows_long 16 tag_bytes tag_long rows in
    read_rows (dynamic_table p places) (planned_tags p places) p.settings.spare read_back (omega (arith, long)) (planned_known p places) (λ n other. planned_once n p places other)
  where
    end_fits : FitsTag end_tag
    end_fits = record { number = omega arith; value = omega arith }
