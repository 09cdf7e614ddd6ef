-- File bytes of places are those bytes of memory.
use Rattle.std.proofs.Common.{◌≡◌, ℕ, zero, suc, ◌+◌, ◌-◌, ◌<◌, ◌≤◌, Bool, true, false, List, [], ◌∷◌, length, get_or, Option, Some, None, refl, sym, ap, subst, ◌∙◌, arith, inl, inr}
use Rattle.std.specs.Prelude.{◌⊎◌, ◌&&◌, ◌==◌, ◌≢◌, min, nat_le, nat_lt, map, find}
use Rattle.std.specs.List.{list_any, AllByRecursion}
use Rattle.std.proofs.lemmas.Bool.{cases_Bool, cases_lt, or_parts, or_from, and_parts, leb-true, ltb-true, true≢false}
use Rattle.std.proofs.lemmas.Bool.Decides.{nat_tests}
use Rattle.pl_base.specs.Windows.{Window, end_of, holds, share, any_share, AllIn}
use Rattle.pl_base.proofs.FindLaws.{find_passes, find_fails, any_map, any_missed}
use Rattle.pl_base.proofs.WindowLaws.{holds_true, holds_false, holds_not}
use Rattle.pl_elf.specs.Headers.{is_load, loads}
use Rattle.pl_elf.specs.Clauses.{load_window, load_windows, bad_load, ascend_from, AreLoads}
use Rattle.pl_elf.proofs.AcceptedLaws.{load_fits}
use Rattle.pl_elf.specs.declared.segment.Segment.{Segment}
use Rattle.pl_form.specs.Back.{spot_windows}
use Rattle.pl_object.specs.FilePart.{nothing, loads_byte, loader, loaded_by, file_window}
use Rattle.pl_form.specs.Loads.{spot_of, spots_of, is_under, hidden_windows}

pub loads_parts : (address : ℕ) (s : Segment) → loads_byte address s ≡ true → (is_load s ≡ true) × (s.vaddr ≤ address) × (address < s.vaddr + s.filesz)
unfolding loads_byte
loads_parts address s h =
    let p = and_parts (is_load s && nat_le s.vaddr address) (nat_lt address (s.vaddr + s.filesz)) h in
    let q = and_parts (is_load s) (nat_le s.vaddr address) p.0 in
    (q.0, leb-true s.vaddr address q.1, ltb-true address (s.vaddr + s.filesz) p.1)

-- ---- two PT_LOADs with a file byte in common are one

pub none_of_loads : (q : Segment → Bool) (ss : List Segment) → list_any q (loads ss) ≡ false → list_any (λ s. is_load s && q s) ss ≡ false
none_of_loads q [] h = refl
none_of_loads q (s ∷ ss) h = elim (cases_Bool (is_load s)) [
  | inl hit ↦ let p = or_parts (q s) (list_any q (loads ss)) (rw hit at h) in rw (hit, p.0) (none_of_loads q ss p.1)
  | inr miss ↦ rw miss (none_of_loads q ss (rw miss at h))
]

pub none_shares : (w : Segment → Window) (x : Segment) (ss : List Segment) → list_any (share (w x)) (map w (loads ss)) ≡ false → list_any (λ s. is_load s && share (w x) (w s)) ss ≡ false
none_shares w x ss h = none_of_loads (λ s. share (w x) (w s)) ss (sym (any_map (share (w x)) w (loads ss)) ∙ h)

pub not_any_at : {X : Type 0} (q : X → Bool) (xs : List X) (i : ℕ) (d : X) → list_any q xs ≡ false → i < length xs → q (get_or xs i d) ≡ false
not_any_at q [] i d h lt = absurd (omega (arith, lt))
not_any_at q (x ∷ xs) zero d h lt = (or_parts (q x) (list_any q xs) h).0
not_any_at q (x ∷ xs) (suc i) d h lt = not_any_at q xs i d (or_parts (q x) (list_any q xs) h).1 (omega (arith, lt))

both_hold : (v w : Window) (k : ℕ) → holds k v ≡ true → holds k w ≡ true → share v w ≡ true
both_hold v w k h g = let a = holds_true k v h in let b = holds_true k w g in grind (arith, nat_tests)

pub not_both : (v w : Window) (k : ℕ) (b : Bool) → b ≡ true → (b && share v w) ≡ false → holds k v ≡ true → holds k w ≡ true → ⊥
not_both v w k true e none h g = true≢false (sym (both_hold v w k h g) ∙ none)
not_both v w k false e none h g = true≢false (sym e)

not_loaded : (b : ℕ) (x : Segment) → is_load x ≡ false → loads_byte b x ≡ false
unfolding loads_byte
not_loaded b x other = rw other refl

-- one of an index, and the first that loads a byte, by their file bytes or by their memory
pub one_load : (w : Segment → Window) (ss : List Segment) (i b k : ℕ) (d t : Segment) → any_share (map w (loads ss)) ≡ false → i < length ss → is_load (get_or ss i d) ≡ true → loader ss b ≡ Some t
    → holds k (w (get_or ss i d)) ≡ true → holds k (w t) ≡ true → get_or ss i d ≡ t
one_load w [] i b k d t none lt is found h g = absurd (omega (arith, lt))
one_load w (x ∷ xs) zero b k d t none lt is found h g = elim (cases_Bool (loads_byte b x)) [
  | inl hit ↦ let same : Some x ≡ Some t = rw hit at found in cc
  | inr miss ↦
      let found' : find (loads_byte b) xs ≡ Some t = rw miss at found in
      let apart = (or_parts (list_any (share (w x)) (map w (loads xs))) (any_share (map w (loads xs))) (rw is at none)).0 in
      absurd (not_both (w x) (w t) k (is_load t) (loads_parts b t (find_passes (loads_byte b) xs t found')).0
      (find_fails (loads_byte b) (λ s. is_load s && share (w x) (w s)) xs t found' (none_shares w x xs apart)) h g)
]
one_load w (x ∷ xs) (suc i) b k d t none lt is found h g = elim (cases_Bool (is_load x)) [
  | inl load ↦
      let parts = or_parts (list_any (share (w x)) (map w (loads xs))) (any_share (map w (loads xs))) (rw load at none) in
      elim (cases_Bool (loads_byte b x)) [
        | inl hit ↦
            let same : Some x ≡ Some t = rw hit at found in
            let is_x : x ≡ t = cc in
            absurd (not_both (w x) (w (get_or xs i d)) k (is_load (get_or xs i d)) is
            (not_any_at (λ s. is_load s && share (w x) (w s)) xs i d (none_shares w x xs parts.0) (omega (arith, lt))) (rw (← is_x) at g) h)
        | inr miss ↦ one_load w xs i b k d t parts.1 (omega (arith, lt)) is (rw miss at found) h g
      ]
  | inr other ↦
      let miss : loads_byte b x ≡ false = not_loaded b x other in
      one_load w xs i b k d t (rw other at none) (omega (arith, lt)) is (rw miss at found) h g
]

-- ---- an address whose file byte is in the spot of a place is under the place

pub within_load : (place : Window) (t : Segment) (x : ℕ) → t.offset + (place.at - t.vaddr) ≤ x → x < t.offset + (place.at - t.vaddr) + min place.size (t.vaddr + t.filesz - place.at) → t.vaddr ≤ place.at → place.at < t.vaddr + t.filesz → holds x (load_window t) ≡ true
within_load place t x from to low high =
    let a : t.offset ≤ x = omega (arith, from) in
    let b : x < t.offset + t.filesz = omega (arith, to, low, high) in
    grind (arith, nat_tests)

here : (place : Window) (t : Segment) (k : ℕ) → t.offset + (place.at - t.vaddr) ≤ t.offset + k → t.offset + k < t.offset + (place.at - t.vaddr) + min place.size (t.vaddr + t.filesz - place.at) → t.vaddr ≤ place.at → holds (t.vaddr + k) place ≡ true
here place t k from to low =
    let a : place.at ≤ t.vaddr + k = omega (arith, from, low) in
    let b : t.vaddr + k < place.at + place.size = omega (arith, to, low) in
    grind (arith, nat_tests)

pub spot_by : (place : Window) (s : Segment) (k : ℕ) (found : Option Segment) → ((t : Segment) → found ≡ Some t → (t.vaddr ≤ place.at) × (place.at < t.vaddr + t.filesz))
    → ((t : Segment) → found ≡ Some t → holds (s.offset + k) (load_window t) ≡ true → s ≡ t) → holds (s.offset + k) (loaded_by place found) ≡ true → holds (s.vaddr + k) place ≡ true
spot_by place s k None at one h = absurd (let p = holds_true (s.offset + k) nothing h in omega (arith, p.0, p.1))
spot_by place s k (Some t) at one h =
    let p = holds_true (s.offset + k) (loaded_by place (Some t)) h in
    let q = at t refl in
    let inside : holds (s.offset + k) (load_window t) ≡ true = within_load place t (s.offset + k) p.0 p.1 q.0 q.1 in
    let same : s ≡ t = one t refl inside in
    subst (λ (x : Segment). holds (x.vaddr + k) place ≡ true) (sym same) (here place t k (subst (λ (x : Segment). t.offset + (place.at - t.vaddr) ≤ x.offset + k) same p.0) (subst (λ (x : Segment). x.offset + k < t.offset + (place.at - t.vaddr) + min place.size (t.vaddr + t.filesz - place.at)) same p.1) q.0)

spot_under : (ss : List Segment) (start i k : ℕ) (d : Segment) (place : Window) → any_share (load_windows (loads ss)) ≡ false → i < length ss → is_load (get_or ss i d) ≡ true → k < (get_or ss i d).filesz
    → holds ((get_or ss i d).offset + k) (record { at = (spot_of ss start place).at; size = (spot_of ss start place).size }) ≡ true → holds ((get_or ss i d).vaddr + k) place ≡ true
unfolding spot_of file_window
spot_under ss start i k d place none lt is inside h =
    let s = get_or ss i d in
    spot_by place s k (loader ss place.at)
    (λ t found. let p = loads_parts place.at t (find_passes (loads_byte place.at) ss t found) in (p.1, p.2))
    (λ t found g. one_load load_window ss i place.at (s.offset + k) d t none lt is found (grind (arith, nat_tests)) g) h

true_or_false : (a b : Bool) → (a ≡ true → b ≡ true) → b ≡ false → a ≡ false
true_or_false true b h e = absurd (true≢false (sym (h refl) ∙ e))
true_or_false false b h e = refl

-- so an address under no place has a file byte in no spot
pub away_from_spots : (ss : List Segment) (start i k : ℕ) (d : Segment) (places : List Window) → any_share (load_windows (loads ss)) ≡ false → i < length ss → is_load (get_or ss i d) ≡ true → k < (get_or ss i d).filesz
    → is_under places ((get_or ss i d).vaddr + k) ≡ false → list_any (holds ((get_or ss i d).offset + k)) (spot_windows (spots_of ss start places)) ≡ false
away_from_spots ss start i k d [] none lt is inside out = refl
away_from_spots ss start i k d (place ∷ places) none lt is inside out =
    let p = or_parts (holds ((get_or ss i d).vaddr + k) place) (list_any (holds ((get_or ss i d).vaddr + k)) places) out in
    or_from _ _ (true_or_false _ _ (spot_under ss start i k d place none lt is inside) p.0) (away_from_spots ss start i k d places none lt is inside p.1)

-- ---- places in the zeros of the last PT_LOAD

-- what clause 24 says of a place: it is in the file part, or in the memory of the last PT_LOAD
abbrev pub IsHeld : List Segment → Segment → Window → Type 0
IsHeld ss last place = ((file_window ss place).size ≡ place.size) ⊎ ((last.vaddr ≤ place.at) × (end_of place ≤ last.vaddr + last.memsz))

-- the addresses that the last PT_LOAD loads from the file are loaded by it
abbrev pub IsOwn : List Segment → Segment → Type 0
IsOwn ss last = (address : ℕ) → last.vaddr ≤ address → address < last.vaddr + last.filesz → loader ss address ≡ Some last

-- the part of a held place that is in no file bytes lies in the zeros of the last PT_LOAD, as it lies in the place
record Behind (start size : ℕ) (place : Window) (w : Window) : Type 0 where
  inside : end_of w ≤ size
  low : place.at ≤ start + w.at
  high : start + end_of w ≤ end_of place

behind_by : (start memory filesz : ℕ) (place : Window) (f : ℕ) → start ≤ memory → end_of place ≤ memory → f ≤ place.size → (place.at < start → f ≡ min place.size (start - place.at)) → f < place.size
    → Behind start (memory - start) place (record { at = place.at - start; size = place.size - f })
behind_by start memory filesz place f le high most own some = elim (cases_lt place.at start) [
  | inl before ↦ let is = own before in record { inside = omega (arith, le, high, is, before, some); low = omega (arith, before); high = omega (arith, is, before, some) }
  | inr after ↦ record { inside = omega (arith, le, high, after, most); low = omega (arith, after); high = omega (arith, after, most) }
]

pub size_most : (place : Window) (found : Option Segment) → (loaded_by place found).size ≤ place.size
size_most place None = omega arith
size_most place (Some s) = omega arith

abbrev pub hidden_of : List Segment → ℕ → Window → Window
hidden_of ss start place = record { at = (spot_of ss start place).behind; size = (spot_of ss start place).hidden }

-- it has no bytes, or lies so
behind_is : (ss : List Segment) (last : Segment) (place : Window) → last.filesz ≤ last.memsz → IsOwn ss last → IsHeld ss last place
    → (hidden_of ss (last.vaddr + last.filesz) place ≡ record { at = 0; size = 0 }) ⊎ Behind (last.vaddr + last.filesz) (last.memsz - last.filesz) place (hidden_of ss (last.vaddr + last.filesz) place)
unfolding spot_of file_window
behind_is ss last place le own held =
    let start = last.vaddr + last.filesz in
    let f = (loaded_by place (loader ss place.at)).size in
    elim (cases_Bool (place.size == f)) [
      | inl same ↦ let is : place.size ≡ f = grind (arith, nat_tests) in let none : place.size - f ≡ 0 = omega (arith, is) in inl (rw (same, none) refl)
      | inr other ↦
          let differ : place.size ≢ f = grind (arith, nat_tests) in
          let some : f < place.size = omega (arith, differ, size_most place (loader ss place.at)) in
          rw other (elim held [
            | inl whole ↦ absurd (differ (sym whole))
            | inr memory ↦
                let b = behind_by start (last.vaddr + last.memsz) last.filesz place f (omega (arith, le)) memory.1 (size_most place (loader ss place.at))
                (λ before. ap (λ (x : Option Segment). (loaded_by place x).size) (own place.at memory.0 before)) some in
                let size : last.vaddr + last.memsz - (last.vaddr + last.filesz) ≡ last.memsz - last.filesz = omega arith in
                inr (rw size at b)
          ])
    ]

-- so all lie in the zeros, and a zero under no place is in none of them
pub hidden_in : (ss : List Segment) (last : Segment) (places : List Window) → last.filesz ≤ last.memsz → IsOwn ss last → AllByRecursion (IsHeld ss last) places → AllIn (last.memsz - last.filesz) (hidden_windows (spots_of ss (last.vaddr + last.filesz) places))
hidden_in ss last [] le own held = tt
hidden_in ss last (place ∷ places) le own held = (
  elim (behind_is ss last place le own held.0) [
    | inl none ↦ subst (λ (w : Window). end_of w ≤ last.memsz - last.filesz) (sym none) (omega arith)
    | inr some ↦ some.inside
  ],
  hidden_in ss last places le own held.1,
)

pub hidden_under : (ss : List Segment) (last : Segment) (place : Window) (j : ℕ) → last.filesz ≤ last.memsz → IsOwn ss last → IsHeld ss last place → holds (last.vaddr + last.filesz + j) place ≡ false
    → holds j (hidden_of ss (last.vaddr + last.filesz) place) ≡ false
hidden_under ss last place j le own held out = elim (behind_is ss last place le own held) [
  | inl none ↦ subst (λ (w : Window). holds j w ≡ false) (sym none) (holds_not j (record { at = 0; size = 0 }) (inr (omega arith)))
  | inr some ↦
      let o = holds_false (last.vaddr + last.filesz + j) place out in
      holds_not j (hidden_of ss (last.vaddr + last.filesz) place) (elim o [ inl before ↦ inl (omega (arith, before, some.low)) | inr after ↦ inr (omega (arith, after, some.high)) ])
]

pub away_from_hidden : (ss : List Segment) (last : Segment) (places : List Window) (j : ℕ) → last.filesz ≤ last.memsz → IsOwn ss last → AllByRecursion (IsHeld ss last) places
    → is_under places (last.vaddr + last.filesz + j) ≡ false → list_any (holds j) (hidden_windows (spots_of ss (last.vaddr + last.filesz) places)) ≡ false
away_from_hidden ss last [] j le own held out = refl
away_from_hidden ss last (place ∷ places) j le own held out =
    let p = or_parts (holds (last.vaddr + last.filesz + j) place) (list_any (holds (last.vaddr + last.filesz + j)) places) out in
    or_from _ _ (hidden_under ss last place j le own held.0 p.0) (away_from_hidden ss last places j le own held.1 p.1)

-- ---- no two PT_LOADs share memory

abbrev pub memory_window : Segment → Window
memory_window s = record { at = s.vaddr; size = s.memsz }

later_apart : (s : Segment) (from : ℕ) (ss : List Segment) → s.vaddr + s.memsz ≤ from → ascend_from from ss ≡ true → list_any (share (memory_window s)) (map memory_window ss) ≡ false
later_apart s from [] le later = refl
later_apart s from (t ∷ ts) le later =
    let p = and_parts (nat_le from t.vaddr) (ascend_from (t.vaddr + t.memsz) ts) later in
    let after : from ≤ t.vaddr = leb-true from t.vaddr p.0 in
    let none : share (memory_window s) (memory_window t) ≡ false = grind (arith, nat_tests) in
    or_from _ _ none (later_apart s (t.vaddr + t.memsz) ts (omega (arith, le, after)) p.1)

pub memory_apart : (from : ℕ) (ss : List Segment) → ascend_from from ss ≡ true → any_share (map memory_window ss) ≡ false
memory_apart from [] later = refl
memory_apart from (s ∷ ss) later =
    let p = and_parts (nat_le from s.vaddr) (ascend_from (s.vaddr + s.memsz) ss) later in
    or_from _ _ (later_apart s (s.vaddr + s.memsz) ss (omega arith) p.1) (memory_apart (s.vaddr + s.memsz) ss p.1)

right_test : (a b : Bool) → a ≡ true → (a && b) ≡ false → b ≡ false
right_test true b e h = h
right_test false b e h = absurd (true≢false (sym e))

-- of the one that loads a byte of an address, the address is in its memory
loader_memory : (ss : List Segment) (b address : ℕ) (t : Segment) → list_any bad_load (loads ss) ≡ false → loader ss b ≡ Some t → t.vaddr ≤ address → address < t.vaddr + t.filesz → holds address (memory_window t) ≡ true
loader_memory ss b address t fit found low high =
    let none = find_fails (loads_byte b) (λ s. is_load s && bad_load s) ss t found (none_of_loads bad_load ss fit) in
    let is = (loads_parts b t (find_passes (loads_byte b) ss t found)).0 in
    let size : t.filesz ≤ t.memsz = (load_fits t (right_test (is_load t) (bad_load t) is none)).bytes in
    let below : address < t.vaddr + t.memsz = omega (arith, high, size) in
    grind (arith, nat_tests)

-- a PT_LOAD of an index that has an address in its memory is the one that loads it from the file
pub same_load : (ss : List Segment) (i b address : ℕ) (d t : Segment) → AreLoads (loads ss) → i < length ss → is_load (get_or ss i d) ≡ true → loader ss b ≡ Some t → (get_or ss i d).vaddr ≤ address → address < (get_or ss i d).vaddr + (get_or ss i d).memsz
    → t.vaddr ≤ address → address < t.vaddr + t.filesz → get_or ss i d ≡ t
same_load ss i b address d t are lt is found low high low' high' =
    one_load memory_window ss i b address d t (memory_apart 0 (loads ss) are.ascend) lt is found (grind (arith, nat_tests)) (loader_memory ss b address t are.fit found low' high')

own_by : (found : Option Segment) (last : Segment) → (found ≡ None → ⊥) → ((t : Segment) → found ≡ Some t → last ≡ t) → found ≡ Some last
own_by None last some one = absurd (some refl)
own_by (Some t) last some one = ap (λ (x : Segment). Some x) (sym (one t refl))

pub is_own : (ss : List Segment) (i : ℕ) (d last : Segment) → AreLoads (loads ss) → i < length ss → is_load last ≡ true → last.filesz ≤ last.memsz → get_or ss i d ≡ last → IsOwn ss last
unfolding loads_byte
is_own ss i d last are lt is size at = λ address low high.
    let byte : loads_byte address last ≡ true = grind (arith, nat_tests) in
    own_by (loader ss address) last
    (λ none. true≢false (sym byte ∙ ap (loads_byte address) (sym at) ∙ not_any_at (loads_byte address) ss i d (any_missed (loads_byte address) ss none) lt))
    (λ t found. let p = loads_parts address t (find_passes (loads_byte address) ss t found) in
    sym at ∙ same_load ss i address address d t are lt (rw at is) found (rw at low) (rw at (omega (arith, high, size))) p.1 p.2)

-- ---- the byte of a place, where it lies in the form

spot_byte_by : (place : Window) (s : Segment) (j k : ℕ) (found : Option Segment) → s.vaddr + k ≡ place.at + j → j < (loaded_by place found).size
    → ((t : Segment) → found ≡ Some t → (t.vaddr ≤ place.at) × (place.at < t.vaddr + t.filesz)) → ((t : Segment) → found ≡ Some t → place.at + j < t.vaddr + t.filesz → s ≡ t)
    → (k < s.filesz) × (s.offset + k ≡ (loaded_by place found).at + j)
spot_byte_by place s j k None at lt inside one = absurd (omega (arith, lt))
spot_byte_by place s j k (Some t) at lt inside one =
    let q = inside t refl in
    let high : place.at + j < t.vaddr + t.filesz = omega (arith, lt, q.1) in
    let same : s ≡ t = one t refl high in
    let at_t : t.vaddr + k ≡ place.at + j = subst (λ (x : Segment). x.vaddr + k ≡ place.at + j) same at in
    subst (λ (x : Segment). (k < x.filesz) × (x.offset + k ≡ t.offset + (place.at - t.vaddr) + j)) (sym same) (omega (arith, at_t, high), omega (arith, at_t, q.0))

-- in file bytes
pub spot_byte : (ss : List Segment) (start i j k : ℕ) (d : Segment) (place : Window) → AreLoads (loads ss) → i < length ss → is_load (get_or ss i d) ≡ true → (get_or ss i d).vaddr + k ≡ place.at + j → k < (get_or ss i d).memsz → j < (spot_of ss start place).size
    → (k < (get_or ss i d).filesz) × ((get_or ss i d).offset + k ≡ (spot_of ss start place).at + j)
unfolding spot_of file_window
spot_byte ss start i j k d place are lt is at inside visible =
    let s = get_or ss i d in
    let inside_of : (t : Segment) → loader ss place.at ≡ Some t → (t.vaddr ≤ place.at) × (place.at < t.vaddr + t.filesz) =
    λ t found. (let p = loads_parts place.at t (find_passes (loads_byte place.at) ss t found) in (p.1, p.2)) in
    spot_byte_by place s j k (loader ss place.at) at visible inside_of
    (λ t found high. let p = inside_of t found in same_load ss i place.at (place.at + j) d t are lt is found (omega (arith, at)) (omega (arith, at, inside)) (omega (arith, p.0)) high)

beyond_by : (place : Window) (last : Segment) (found : Option Segment) → ((t : Segment) → found ≡ Some t → (last ≡ t) × (place.at < t.vaddr + t.filesz)) → last.vaddr + last.filesz ≤ place.at → (loaded_by place found).size ≡ 0
beyond_by place last None one after = refl
beyond_by place last (Some t) one after =
    let p = one t refl in
    let low : t.vaddr + t.filesz ≤ place.at = subst (λ (x : Segment). x.vaddr + x.filesz ≤ place.at) p.0 after in
    absurd (omega (arith, low, p.1))

-- or in the zeros of the last PT_LOAD
pub zero_byte_of : (ss : List Segment) (last : Segment) (i j : ℕ) (d : Segment) (place : Window) → AreLoads (loads ss) → i < length ss → is_load last ≡ true → last.filesz ≤ last.memsz → get_or ss i d ≡ last → IsHeld ss last place
    → (spot_of ss (last.vaddr + last.filesz) place).size ≤ j → j < place.size
    → (last.vaddr + last.filesz + ((spot_of ss (last.vaddr + last.filesz) place).behind + (j - (spot_of ss (last.vaddr + last.filesz) place).size)) ≡ place.at + j)
    × (j - (spot_of ss (last.vaddr + last.filesz) place).size < (spot_of ss (last.vaddr + last.filesz) place).hidden)
    × (last.vaddr ≤ place.at) × (end_of place ≤ last.vaddr + last.memsz)
unfolding spot_of file_window
zero_byte_of ss last i j d place are lt is size at held past inside =
    let start = last.vaddr + last.filesz in
    let found = loader ss place.at in
    let f = (loaded_by place found).size in
    let other : (place.size == f) ≡ false = grind (arith, nat_tests) in
    let memory : (last.vaddr ≤ place.at) × (end_of place ≤ last.vaddr + last.memsz) = elim held [
      | inl whole ↦ absurd (let w : f ≡ place.size = whole in omega (arith, w, past, inside))
      | inr m ↦ m
    ] in
    let low = memory.0 in
    let high = memory.1 in
    elim (cases_lt place.at start) [
      | inl before ↦
          let is_f : f ≡ min place.size (start - place.at) = ap (λ (x : Option Segment). (loaded_by place x).size) (is_own ss i d last are lt is size at place.at low before) in
          rw other (omega (arith, is_f, before, past, inside), omega (arith, past, inside), low, high)
      | inr after ↦
          let none : f ≡ 0 = beyond_by place last found
          (λ t e. let p = loads_parts place.at t (find_passes (loads_byte place.at) ss t e) in
          (sym at ∙ same_load ss i place.at place.at d t are lt (rw at is) e (rw at low) (rw at (omega (arith, high, inside))) p.1 p.2, p.2)) after in
          rw other (omega (arith, none, after), omega (arith, past, inside), low, high)
    ]
