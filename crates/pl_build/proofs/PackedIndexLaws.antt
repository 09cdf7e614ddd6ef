-- Where packed words stand first, line by line, and words that share a byte.
use Rattle.std.proofs.Common.{◌≡◌, ℕ, ◌+◌, ◌-◌, ◌<◌, ◌≤◌, Bool, true, false, cond, List, [], ◌∷◌, ◌++◌, length, take, get_or, Option, Some, None, refl, sym, ap, subst, ◌∙◌, arith, inl, inr}
use Rattle.std.specs.Prelude.{◌&&◌, ◌||◌, ◌==◌, is_some, nat_lt, position}
use Rattle.std.specs.BTreeMap.{BTreeMap, get, is_at, IsEmpty as IsEmptyMap}
use Rattle.std.specs.List.{list_any}
use Rattle.std.specs.Map.{lookup}
use Rattle.std.specs.Option.{option_or}
use Rattle.std.specs.Ordering.{is_eq, nat_cmp}
use Rattle.std.specs.declared.cmp.Ordering.TheVariants.{Less, Equal, Greater}
use Rattle.std.proofs.lemmas.Bool.{and_from, and_parts, cases_Bool, eq-eqb, eqb-true, false≢true, lt-ltb, ltb-true, or_from, or_left, or_parts, or_right}
use Rattle.std.proofs.lemmas.List.{length-take-le, take_all, take_more}
use Rattle.pl_build.specs.Checks.{shares}
use Rattle.pl_build.specs.PackedIndex.{IsEmpty, IsNotedBy, IsPackedIndex, is_offset, packed_offset, packs_at, offset_place}
use Rattle.pl_build.specs.TextIndex.{is_before}
use Rattle.pl_build.specs.declared.line.Line.{Line}
use Rattle.pl_build.specs.declared.line.Line.TheVariants.{Wrong, Empty, First, Usual, Hash, Buckets, Spare, Needs, Symbolic, Entry, Data, Bss, Put, Tls, Version, Names, Relocates, Packs}
use Rattle.pl_build.specs.declared.packed_index.PackedIndex.{PackedIndex}
use Rattle.pl_build.proofs.TextLaws.{any_before, position_push}

-- ---- the map

-- a map of nothing has no offset
pub no_places : (places : BTreeMap ℕ ℕ) → IsEmptyMap places → IsEmpty (record { places = places })
no_places places empty offset = ap (lookup (is_at (nat_cmp offset))) empty

same_number : (k q : ℕ) → is_eq (nat_cmp k q) ≡ (k == q)
same_number k q = by (nat_lt k q) (k == q) refl refl
  where
    by : (b c : Bool) → nat_lt k q ≡ b → (k == q) ≡ c → is_eq (cond b Less (cond c Equal Greater)) ≡ c
    by true true less same = absurd (omega (arith, ltb-true k q less, eqb-true k q same))
    by true false less other = refl
    by false true less same = refl
    by false false less other = refl

-- an offset that stands nowhere before
new_by : (o : Option ℕ) (b : Bool) (place : ℕ) → (b ≡ true → is_some o ≡ false) → cond b (Some place) o ≡ option_or o (cond b (Some place) None)
new_by None true place none = refl
new_by None false place none = refl
new_by (Some own) true place none = absurd (false≢true (sym (none refl)))
new_by (Some own) false place none = refl

pub offset_new : (old new : PackedIndex) (offset place : ℕ) → is_some (offset_place old offset) ≡ false
    → ((q : ℕ) → get nat_cmp new.places q ≡ cond (is_at (nat_cmp offset) q) (Some place) (get nat_cmp old.places q)) → IsNotedBy (λ other. offset == other) old place new
offset_new old new offset place none updates = λ q.
    updates q
    ∙ ap (λ (b : Bool). cond b (Some place) (offset_place old q)) (same_number offset q)
    ∙ new_by (offset_place old q) (offset == q) place (λ hit. subst (λ (k : ℕ). is_some (offset_place old k) ≡ false) (eqb-true offset q hit) none)

-- one that stood before
again_by : (o : Option ℕ) (b : Bool) (place : ℕ) → (b ≡ true → is_some o ≡ true) → o ≡ option_or o (cond b (Some place) None)
again_by None true place some = absurd (false≢true (some refl))
again_by None false place some = refl
again_by (Some own) b place some = refl

pub offset_again : (old : PackedIndex) (offset place : ℕ) → is_some (offset_place old offset) ≡ true → IsNotedBy (λ other. offset == other) old place old
offset_again old offset place some = λ q.
    again_by (offset_place old q) (offset == q) place (λ hit. subst (λ (k : ℕ). is_some (offset_place old k) ≡ true) (eqb-true offset q hit) some)

-- a line without a packed word
or_none : (o : Option ℕ) → o ≡ option_or o None
or_none None = refl
or_none (Some k) = refl

pub offset_none : (old : PackedIndex) (place : ℕ) → IsNotedBy (λ other. is_offset other None) old place old
offset_none old place = λ q. or_none (offset_place old q)

-- ---- the lines one by one

pub places_none : (lines : List Line) (index : PackedIndex) → IsEmpty index → IsPackedIndex (take 0 lines) index
places_none lines index empty = λ q. empty q

pub places_more : (lines : List Line) (old new : PackedIndex) (place : ℕ) (line : Line) → place < length lines → line ≡ get_or lines place line
    → IsNotedBy (λ other. packs_at other line) old place new → IsPackedIndex (take place lines) old → IsPackedIndex (take (place + 1) lines) new
places_more lines old new place line lt at noted so_far = λ q.
    let front = take place lines in
    let long : length front ≡ place = length-take-le place lines (omega (arith, lt)) in
    noted q
    ∙ ap (λ (o : Option ℕ). option_or o (cond (packs_at q line) (Some place) None)) (so_far q)
    ∙ ap (λ (n : ℕ). option_or (position (packs_at q) front) (cond (packs_at q line) (Some n) None)) (sym long)
    ∙ sym (position_push (packs_at q) front line)
    ∙ ap (λ (l : Line). position (packs_at q) (front ++ l ∷ [])) at
    ∙ ap (position (packs_at q)) (sym (take_more lines place line lt))

pub places_all : (lines : List Line) (index : PackedIndex) (place : ℕ) → length lines ≤ place → IsPackedIndex (take place lines) index → IsPackedIndex lines index
places_all lines index place over so_far = λ q. so_far q ∙ ap (position (packs_at q)) (take_all place lines over)

pub packs_first : (lines : List Line) (index : PackedIndex) (offset n : ℕ) → IsPackedIndex lines index → is_before n (offset_place index offset) ≡ list_any (packs_at offset) (take n lines)
packs_first lines index offset n of = ap (is_before n) (of offset) ∙ sym (any_before (packs_at offset) n lines)

-- ---- words that share a byte

-- a word at an offset shares a byte with another one, if there is one
abbrev near : ℕ → Option ℕ → Bool
near offset None = false
near offset (Some own) = nat_lt offset (own + 8) && nat_lt own (offset + 8)

shares_is : (offset : ℕ) (l : Line) → shares offset l ≡ near offset (packed_offset l)
shares_is offset Wrong = refl
shares_is offset Empty = refl
shares_is offset (First k) = refl
shares_is offset Usual = refl
shares_is offset (Hash h) = refl
shares_is offset (Buckets n) = refl
shares_is offset (Spare n) = refl
shares_is offset (Needs n) = refl
shares_is offset Symbolic = refl
shares_is offset (Entry n) = refl
shares_is offset (Data n) = refl
shares_is offset (Bss n) = refl
shares_is offset (Put w) = refl
shares_is offset (Tls t) = refl
shares_is offset (Version v) = refl
shares_is offset (Names s) = refl
shares_is offset (Relocates r) = refl
shares_is offset (Packs w) = refl

or_second : (a b : Bool) → a ≡ false → (a || b) ≡ true → b ≡ true
or_second true b miss hit = absurd (false≢true (sym miss))
or_second false b miss hit = hit

near_hit : (offset other : ℕ) (own : Option ℕ) → offset < other + 8 → other < offset + 8 → is_offset other own ≡ true → near offset own ≡ true
near_hit offset other None low high hit = absurd (false≢true hit)
near_hit offset other (Some own) low high hit =
    let same : own ≡ other = eqb-true own other hit in
    and_from (nat_lt offset (own + 8)) (nat_lt own (offset + 8)) (lt-ltb offset (own + 8) (omega (arith, low, same))) (lt-ltb own (offset + 8) (omega (arith, high, same)))

-- one of the lines has a packed word near an offset
pub shares_hit : (offset other : ℕ) (lines : List Line) → offset < other + 8 → other < offset + 8 → list_any (packs_at other) lines ≡ true → list_any (shares offset) lines ≡ true
shares_hit offset other [] low high hit = absurd (false≢true hit)
shares_hit offset other (l ∷ lines) low high hit = elim (cases_Bool (packs_at other l)) [
  | inl here ↦ or_left (shares offset l) (list_any (shares offset) lines) (shares_is offset l ∙ near_hit offset other (packed_offset l) low high here)
  | inr miss ↦ or_right (shares offset l) (list_any (shares offset) lines) (shares_hit offset other lines low high (or_second (packs_at other l) (list_any (packs_at other) lines) miss hit))
]

near_miss : (offset : ℕ) (own : Option ℕ) → ((other : ℕ) → offset - 7 ≤ other → other < offset + 8 → is_offset other own ≡ false) → near offset own ≡ false
near_miss offset None none = refl
near_miss offset (Some own) none = elim (cases_Bool (nat_lt offset (own + 8) && nat_lt own (offset + 8))) [
  | inl hit ↦
      let both = and_parts (nat_lt offset (own + 8)) (nat_lt own (offset + 8)) hit in
      let low : offset < own + 8 = ltb-true offset (own + 8) both.0 in
      let high : own < offset + 8 = ltb-true own (offset + 8) both.1 in
      let miss : (own == own) ≡ false = none own (omega (arith, low)) high in
      absurd (false≢true (sym miss ∙ eq-eqb own own refl))
  | inr miss ↦ miss
]

-- none has one
pub shares_miss : (offset : ℕ) (lines : List Line) → ((other : ℕ) → offset - 7 ≤ other → other < offset + 8 → list_any (packs_at other) lines ≡ false) → list_any (shares offset) lines ≡ false
shares_miss offset [] none = refl
shares_miss offset (l ∷ lines) none =
    or_from (shares offset l) (list_any (shares offset) lines)
    (shares_is offset l ∙ near_miss offset (packed_offset l) (λ other low high. (or_parts (packs_at other l) (list_any (packs_at other) lines) (none other low high)).0))
    (shares_miss offset lines (λ other low high. (or_parts (packs_at other l) (list_any (packs_at other) lines) (none other low high)).1))
