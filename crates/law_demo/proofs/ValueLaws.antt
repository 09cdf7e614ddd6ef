-- The values of a plan's tags.
use Rattle.std.proofs.Common.{◌≡◌, ℕ, ◌+◌, Bool, true, false, List, [], ◌∷◌, ◌++◌, length, map, Option, Some, None, refl, ap, ◌∙◌, append_assoc, inl, inr}
use Rattle.std.specs.Prelude.{not, ◌==◌, ◌&&◌, codes, if◌then◌else◌}
use Rattle.std.proofs.lemmas.Bool.{cases_Bool}
use Rattle.pl_dyn.specs.Read.{first_of, value_of}
use Rattle.pl_dyn.specs.declared.tags.Tag.{Tag}
use Rattle.pl_build.specs.declared.layout_plan.LayoutPlan.{LayoutPlan}
use Rattle.pl_build.specs.declared.roles.PlacedSection.{PlacedSection}
use Rattle.pl_build.specs.Choices.{chosen}
use Rattle.pl_build.specs.Dynamic.{tag, null_place, place_of, is_at, is_there, needed_tags, table_tags, relocation_tags, packed_tags, version_tags, usual_tags, flags_1}
use Rattle.pl_build.specs.FileKinds.{is_program}
use Rattle.pl_build.specs.StringTable.{text_at}
use Rattle.law_demo.specs.Tags.{planned_tags}

-- ---- of rows that may be there

abbrev pub first_value : ℕ → List (Bool × Tag) → Option ℕ
first_value n [] = None
first_value n (c ∷ cs) = if (c.1.number == n) && c.0 then Some c.1.value else first_value n cs

value_chosen : (n : ℕ) (cs : List (Bool × Tag)) → value_of n (chosen cs) ≡ first_value n cs
unfolding value_of first_of chosen
value_chosen n [] = refl
value_chosen n (c ∷ cs) = elim (cases_Bool c.0) [
  | inl there ↦ elim (cases_Bool (c.1.number == n)) [
    | inl hit ↦ rw (there, hit) refl
    | inr miss ↦ rw (there, miss) (value_chosen n cs)
  ]
  | inr missing ↦ elim (cases_Bool (c.1.number == n)) [
    | inl hit ↦ rw (missing, hit) (value_chosen n cs)
    | inr miss ↦ rw (missing, miss) (value_chosen n cs)
  ]
]

pub chosen_append : {T : Type 0} (xs ys : List (Bool × T)) → chosen xs ++ chosen ys ≡ chosen (xs ++ ys)
unfolding chosen
chosen_append [] ys = refl
chosen_append {T = T} (c ∷ xs) ys = elim (cases_Bool c.0) [
  | inl there ↦ rw there (ap (λ (l : List T). c.1 ∷ l) (chosen_append xs ys))
  | inr missing ↦ rw missing (chosen_append xs ys)
]

-- ---- the rows of a plan

abbrev table_rows : LayoutPlan → List PlacedSection → List (Bool × Tag)
table_rows p places =
    let hash = place_of places (codes ".hash") in
    let gnu_hash = place_of places (codes ".gnu.hash") in
    let strings = place_of places (codes ".dynstr") in
    let symbols = place_of places (codes ".dynsym") in
    (is_there hash, tag 4 hash.addr) ∷ (is_there gnu_hash, tag 0x6ffffef5 gnu_hash.addr) ∷ (true, tag 5 strings.addr) ∷ (true, tag 6 symbols.addr) ∷ (true, tag 10 strings.size)
    ∷ (true, tag 11 24) ∷ (p.settings.symbolic, tag 16 0) ∷ []

abbrev relocation_rows : List PlacedSection → List (Bool × Tag)
relocation_rows places =
    let slots = place_of places (codes ".rela.plt") in
    let others = place_of places (codes ".rela.dyn") in
    (is_there slots, tag 2 slots.size) ∷ (is_there slots, tag 20 7) ∷ (is_there slots, tag 23 slots.addr)
    ∷ (is_there others, tag 7 others.addr) ∷ (is_there others, tag 8 others.size) ∷ (is_there others, tag 9 24) ∷ []

abbrev packed_rows : List PlacedSection → List (Bool × Tag)
packed_rows places =
    let packed = place_of places (codes ".relr.dyn") in
    (is_there packed, tag 36 packed.addr) ∷ (is_there packed, tag 35 packed.size) ∷ (is_there packed, tag 37 8) ∷ []

abbrev version_rows : LayoutPlan → List PlacedSection → List (Bool × Tag)
version_rows p places =
    let words = place_of places (codes ".gnu.version") in
    let defined = place_of places (codes ".gnu.version_d") in
    let needed = place_of places (codes ".gnu.version_r") in
    (is_there words, tag 0x6ffffff0 words.addr) ∷ (is_there defined, tag 0x6ffffffc defined.addr) ∷ (is_there defined, tag 0x6ffffffd (length p.versions + 1))
    ∷ (is_there needed, tag 0x6ffffffe needed.addr) ∷ (is_there needed, tag 0x6fffffff (length p.files)) ∷ []

abbrev usual_rows : LayoutPlan → List (Bool × Tag)
usual_rows p =
    let usual = p.settings.usual in
    (usual && is_program p.settings.kind, tag 21 0) ∷ (usual, tag 24 0) ∷ (usual, tag 30 8) ∷ (not (flags_1 p.settings == 0), tag 0x6ffffffb (flags_1 p.settings)) ∷ []

abbrev pub planned_rows : LayoutPlan → List PlacedSection → List (Bool × Tag)
planned_rows p places = table_rows p places ++ relocation_rows places ++ packed_rows places ++ version_rows p places ++ usual_rows p

needed_value : (n : ℕ) (p : LayoutPlan) (names : List (List ℕ)) (ts : List Tag) → (1 == n) ≡ false → value_of n (map (λ name. tag 1 (text_at p.strings name)) names ++ ts) ≡ value_of n ts
unfolding value_of first_of
needed_value n p [] ts other = refl
needed_value n p (name ∷ names) ts other = rw other (needed_value n p names ts other)

behind : (front : List Tag) (xs ys : List (Bool × Tag)) → (front ++ chosen xs) ++ chosen ys ≡ front ++ chosen (xs ++ ys)
behind front xs ys = append_assoc front (chosen xs) (chosen ys) ∙ ap (λ (l : List Tag). front ++ l) (chosen_append xs ys)

pub tags_are : (p : LayoutPlan) (places : List PlacedSection) → planned_tags p places ≡ needed_tags p ++ chosen (planned_rows p places)
unfolding planned_tags table_tags relocation_tags packed_tags version_tags usual_tags
tags_are p places =
    let front : List Tag = needed_tags p in
    let a : List (Bool × Tag) = table_rows p places in
    let b : List (Bool × Tag) = relocation_rows places in
    let c : List (Bool × Tag) = packed_rows places in
    let d : List (Bool × Tag) = version_rows p places in
    let e : List (Bool × Tag) = usual_rows p in
    ap (λ (l : List Tag). l ++ chosen c ++ chosen d ++ chosen e) (behind front a b)
    ∙ ap (λ (l : List Tag). l ++ chosen d ++ chosen e) (behind front (a ++ b) c)
    ∙ ap (λ (l : List Tag). l ++ chosen e) (behind front (a ++ b ++ c) d)
    ∙ behind front (a ++ b ++ c ++ d) e

-- a tag's value, but for the tag of needed names
pub planned_value : (n : ℕ) (p : LayoutPlan) (places : List PlacedSection) → (1 == n) ≡ false → value_of n (planned_tags p places) ≡ first_value n (planned_rows p places)
unfolding needed_tags
planned_value n p places other =
    ap (value_of n) (tags_are p places) ∙ needed_value n p p.needed (chosen (planned_rows p places)) other ∙ value_chosen n (planned_rows p places)

-- ---- places by name

abbrev pub first_place : List ℕ → List (Bool × PlacedSection) → PlacedSection
first_place name [] = null_place
first_place name (c ∷ cs) = if is_at name c.1 && c.0 then c.1 else first_place name cs

pub place_chosen : (name : List ℕ) (cs : List (Bool × PlacedSection)) → place_of (chosen cs) name ≡ first_place name cs
unfolding place_of chosen
place_chosen name [] = refl
place_chosen name (c ∷ cs) = elim (cases_Bool c.0) [
  | inl there ↦ elim (cases_Bool (is_at name c.1)) [
    | inl hit ↦ rw (there, hit) refl
    | inr miss ↦ rw (there, miss) (place_chosen name cs)
  ]
  | inr missing ↦ elim (cases_Bool (is_at name c.1)) [
    | inl hit ↦ rw (missing, hit) (place_chosen name cs)
    | inr miss ↦ rw (missing, miss) (place_chosen name cs)
  ]
]
