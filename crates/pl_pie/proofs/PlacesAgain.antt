-- Acceptance clauses 23 to 27 and 29 take the relocations of a fixed file.
use Rattle.std.proofs.Common.{◌≡◌, ℕ, zero, suc, ◌+◌, ◌-◌, ◌^◌, ◌<◌, ◌≤◌, Bool, true, false, List, [], ◌∷◌, length, map, take, drop, Option, Some, None, Ok, refl, sym, ap, subst, ◌∙◌, arith, inl, inr}
use Rattle.std.specs.Prelude.{◌⊎◌, ◌&&◌, ◌||◌, ◌==◌, not, nat_le, nat_lt, min, find, fold, if◌then◌else◌}
use Rattle.std.specs.List.{All, list_any}
use Rattle.std.specs.Option.{option_map}
use Rattle.std.proofs.lemmas.Bool.{cases_Bool, cases_lt, eqb-true, false≢true, or_from, or_parts, true≢false}
use Rattle.std.proofs.lemmas.Bool.Decides.{nat_tests}
use Rattle.std.proofs.lemmas.List.{drop-map, length-map, take-map}
use Rattle.std.proofs.lemmas.List.Elements.{All-cons, All-head, All-nil, All-tail}
use Rattle.pl_base.specs.Sums.{plus}
use Rattle.pl_base.specs.Windows.{Window, end_of, share}
use Rattle.pl_base.proofs.AnswerLaws.{refuse_next}
use Rattle.pl_base.proofs.FindLaws.{any_map, any_same, find_passes}
use Rattle.pl_base.proofs.PairLaws.{any_pair_map}
use Rattle.pl_elf.specs.Headers.{is_load}
use Rattle.pl_elf.specs.declared.constants.TheConstants.{ADDRESS_LIMIT}
use Rattle.pl_elf.specs.declared.segment.Segment.{Segment}
use Rattle.pl_object.specs.FilePart.{file_window, in_file_part, loaded_by, loader, loads_byte}
use Rattle.pl_object.specs.PlaceClauses.{any_place_outside, check_places, check_relocs, first_bad, is_bad, is_held, is_in_memory, is_in_segment, is_misplaced_copy, is_odd, last_load, misplaced_copy, odd_addend, last_packed, reloc_in_tables, reloc_outside, reloc_overlap, spots}
use Rattle.pl_object.specs.Relocations.{place, places}
use Rattle.pl_object.specs.TableClauses.{meets}
use Rattle.pl_object.specs.declared.reloc.Reloc.{Reloc}
use Rattle.pl_object.specs.declared.refusal.Refusal.TheVariants.{Clause}
use Rattle.pl_object.proofs.FilePartLaws.{loads_parts}
use Rattle.pl_form.proofs.OverlapLaws.{found_at}
use Rattle.law_fixed.specs.Fixed.{fixed_reloc, fixed_segment}
use Rattle.law_fixed.specs.Stays.{Stands, moved_window}
use Rattle.law_fixed.proofs.ImageLaws.{load_moves}
use Rattle.pl_pie.proofs.AlikeLaws.{AllAlike, meets_alike, meets_first}
use Rattle.pl_pie.proofs.MemoryLaws.{Alike, held_stays, window_stays}
use Rattle.pl_pie.proofs.SymbolsAgain.{any_all, any_pair_all}

-- ---- windows that move by an address, or have no bytes

abbrev Shifts : ℕ → Window → Window → Type 0
Shifts at new old = (new.size ≡ old.size) × ((old.size ≡ 0) ⊎ (new.at ≡ old.at + at))

and_no : (b : Bool) → (b && false) ≡ false
and_no true = refl
and_no false = refl

empty_right : (v w : Window) → w.size ≡ 0 → share v w ≡ false
empty_right v w none = ap (λ (n : ℕ). nat_lt v.at (end_of w) && nat_lt w.at (end_of v) && nat_lt 0 v.size && nat_lt 0 n) none ∙ and_no (nat_lt v.at (end_of w) && nat_lt w.at (end_of v) && nat_lt 0 v.size)

empty_left : (v w : Window) → v.size ≡ 0 → share v w ≡ false
empty_left v w none =
    ap (λ (n : ℕ). nat_lt v.at (end_of w) && nat_lt w.at (end_of v) && nat_lt 0 n && nat_lt 0 w.size) none
    ∙ ap (λ (b : Bool). b && nat_lt 0 w.size) (and_no (nat_lt v.at (end_of w) && nat_lt w.at (end_of v)))

bool_same : (a b : Bool) → (a ≡ true → b ≡ true) → (b ≡ true → a ≡ true) → a ≡ b
bool_same true true f g = refl
bool_same false false f g = refl
bool_same true false f g = sym (f refl)
bool_same false true f g = g refl

less_shifted : (at a b n : ℕ) → nat_lt (a + at) (b + at + n) ≡ nat_lt a (b + n)
less_shifted at a b n = bool_same _ _ (λ h. grind (arith, nat_tests)) (λ h. grind (arith, nat_tests))

both_shifted : (at : ℕ) (v new w now : Window) → new.size ≡ v.size → now.size ≡ w.size → new.at ≡ v.at + at → now.at ≡ w.at + at → share new now ≡ share v w
both_shifted at v new w now a b c d = rw (a, b, c, d, less_shifted at v.at w.at w.size, less_shifted at w.at v.at v.size) refl

share_shifted : (at : ℕ) (v new w now : Window) → Shifts at new v → Shifts at now w → share new now ≡ share v w
share_shifted at v new w now a b = elim a.1 [
  | inl none ↦ empty_left new now (a.0 ∙ none) ∙ sym (empty_left v w none)
  | inr first ↦ elim b.1 [
    | inl none ↦ empty_right new now (b.0 ∙ none) ∙ sym (empty_right v w none)
    | inr second ↦ both_shifted at v new w now a.0 b.0 first second
  ]
]

-- ---- windows without bytes

none_min : (n : ℕ) → min 0 n ≡ 0
none_min n = omega arith

none_there : (ss : List Segment) (m : Window) → m.size ≡ 0 → (file_window ss m).size ≡ 0
unfolding file_window
none_there ss m none = by (loader ss m.at)
  where
    by : (l : Option Segment) → (loaded_by m l).size ≡ 0
    by None = refl
    by (Some s) = ap (λ (n : ℕ). min n (s.vaddr + s.filesz - m.at)) none ∙ none_min (s.vaddr + s.filesz - m.at)

none_held : (ss : List Segment) (m : Window) → m.size ≡ 0 → in_file_part ss m ≡ true
unfolding in_file_part
none_held ss m none = rw (none_there ss m none, none) refl

-- a relocation of no kind is of no bytes, and its place is a word
abbrev pub IsFair : Reloc → Type 0
IsFair r = ((r.kind == 0) ≡ true → r.width ≡ 0) × (r.address < 2 ^ 64)

-- relocations that clauses 23 to 27 take
pub record AreTaken (ss : List Segment) (tables : List Window) (count packed : ℕ) (rs : List Reloc) : Type 0 where
  pub fair : All IsFair rs
  pub known : list_any (is_bad count) rs ≡ false
  pub held : reloc_outside true ss rs ≡ false
  pub packed_held : reloc_outside false ss (last_packed packed rs) ≡ false
  pub apart : reloc_overlap rs ≡ false
  pub clear : reloc_in_tables tables ss rs ≡ false
  pub plain : odd_addend rs ≡ false

-- ---- a place that is held lies low

module _ (at : ℕ) (ss : List Segment) (stands : All (Stands at) ss) where
  abbrev moved_segments : List Segment
  moved_segments = map (fixed_segment at) ss

  abbrev IsLoad : Segment → Type 0
  IsLoad s = (is_load s ≡ true) × Stands at s

  last_from : (found : Option Segment) (ts : List Segment) → All (Stands at) ts → ((t : Segment) → found ≡ Some t → IsLoad t) → (s : Segment) → fold (λ (m : Option Segment) (t : Segment). if is_load t then Some t else m) found ts ≡ Some s → IsLoad s
  last_from found [] all good s e = good s e
  last_from found (t ∷ ts) all good s e = last_from (if is_load t then Some t else found) ts (All-tail (Stands at) t ts all) step s e
    where
      step : (u : Segment) → (if is_load t then Some t else found) ≡ Some u → IsLoad u
      step u h = elim (cases_Bool (is_load t)) [
        | inl load ↦ let some : Some t ≡ Some u = rw load at h in let same : t ≡ u = cc in subst IsLoad same (load, All-head (Stands at) t ts all)
        | inr other ↦ good u (rw other at h)
      ]

  last_is : (s : Segment) → last_load ss ≡ Some s → IsLoad s
  unfolding last_load
  last_is s e = last_from None ss stands (λ t h. absurd cc) s e

  loader_low : (m : Window) (l : Option Segment) → loader ss m.at ≡ l → 0 < (loaded_by m l).size → m.at + at ≤ ADDRESS_LIMIT
  loader_low m None e some = absurd (omega (arith, some))
  loader_low m (Some s) e some =
      let there = found_at (loads_byte m.at) ss s e in
      let stand : Stands at s = subst (Stands at) (there.is s) (stands there.i s there.lt) in
      let parts = loads_parts m.at s (find_passes (loads_byte m.at) ss s e) in
      omega (arith, stand.file parts.0, stand.ends parts.0, parts.2)

  both_true : (a b : Bool) → not (a && b) ≡ false → (a ≡ true) × (b ≡ true)
  both_true true true h = (refl, refl)
  both_true true false h = absurd (true≢false h)
  both_true false b h = absurd (true≢false h)

  two_le : (a b c d : ℕ) → (nat_le a b && nat_le c d) ≡ true → (a ≤ b) × (c ≤ d)
  two_le a b c d h = (grind (arith, nat_tests), grind (arith, nat_tests))

  in_segment : (m : Window) (s : Segment) → is_in_segment m s ≡ true → (s.vaddr ≤ m.at) × (m.at + m.size ≤ s.vaddr + s.memsz)
  in_segment m s h = two_le s.vaddr m.at (m.at + m.size) (s.vaddr + s.memsz) h

  memory_low : (m : Window) (l : Option Segment) → last_load ss ≡ l → is_in_memory m l ≡ true → m.at + at ≤ ADDRESS_LIMIT
  memory_low m None e h = absurd (false≢true h)
  memory_low m (Some s) e h =
      let last = last_is s e in
      let inside = in_segment m s h in
      omega (arith, inside.1, last.1.ends last.0)

  held_low : (m : Window) → not (is_held true ss m) ≡ false → (m.size ≡ 0) ⊎ (m.at + at ≤ ADDRESS_LIMIT)
  unfolding is_held in_file_part file_window
  held_low m h = elim (cases_Bool ((loaded_by m (loader ss m.at)).size == m.size)) [
    | inl hit ↦
        let size : (loaded_by m (loader ss m.at)).size ≡ m.size = eqb-true (loaded_by m (loader ss m.at)).size m.size hit in
        elim (cases_lt 0 m.size) [
          | inl some ↦ inr (loader_low m (loader ss m.at) refl (omega (arith, some, size)))
          | inr none ↦ inl (omega (arith, none))
        ]
    | inr miss ↦ inr (memory_low m (last_load ss) refl (both_true true (is_in_memory m (last_load ss)) (rw miss at h)).1)
  ]

  -- ---- a place that is held is held where it moved

  load_step : (found : Option Segment) (t : Segment) → (if is_load (fixed_segment at t) then Some (fixed_segment at t) else option_map (fixed_segment at) found) ≡ option_map (fixed_segment at) (if is_load t then Some t else found)
  unfolding fixed_segment
  load_step found t = elim (cases_Bool (is_load t)) [
    | inl load ↦ rw load refl
    | inr other ↦ rw other refl
  ]

  last_moved_from : (found : Option Segment) (ts : List Segment) → fold (λ (m : Option Segment) (t : Segment). if is_load t then Some t else m) (option_map (fixed_segment at) found) (map (fixed_segment at) ts)
      ≡ option_map (fixed_segment at) (fold (λ (m : Option Segment) (t : Segment). if is_load t then Some t else m) found ts)
  last_moved_from found [] = refl
  last_moved_from found (t ∷ ts) =
      ap (λ (m : Option Segment). fold (λ (n : Option Segment) (u : Segment). if is_load u then Some u else n) m (map (fixed_segment at) ts)) (load_step found t) ∙ last_moved_from (if is_load t then Some t else found) ts

  last_moves : last_load moved_segments ≡ option_map (fixed_segment at) (last_load ss)
  unfolding last_load
  last_moves = last_moved_from None ss

  start_moves : (s : Segment) → IsLoad s → (fixed_segment at s).vaddr ≡ s.vaddr + at
  unfolding fixed_segment
  start_moves s is = let ends = is.1.ends is.0 in rw (load_moves s is.0) (omega (arith, ends))

  memory_kept : (s : Segment) → (fixed_segment at s).memsz ≡ s.memsz
  unfolding fixed_segment
  memory_kept s = refl

  both_le : (a b c d : ℕ) → a ≤ b → c ≤ d → (nat_le a b && nat_le c d) ≡ true
  both_le a b c d x y = grind (arith, nat_tests)

  segment_holds : (m : Window) (s : Segment) → IsLoad s → is_in_segment m s ≡ true → is_in_segment (moved_window at m) (fixed_segment at s) ≡ true
  segment_holds m s is h =
      let inside = in_segment m s h in
      let ends = is.1.ends is.0 in
      let sum : plus m.at at ≡ m.at + at = omega (arith, inside.1, ends) in
      rw (start_moves s is, memory_kept s, sum) (both_le (s.vaddr + at) (m.at + at) (m.at + at + m.size) (s.vaddr + at + s.memsz) (omega (arith, inside.0)) (omega (arith, inside.1)))

  memory_holds : (m : Window) (l : Option Segment) → last_load ss ≡ l → is_in_memory m l ≡ true → is_in_memory (moved_window at m) (option_map (fixed_segment at) l) ≡ true
  memory_holds m None e h = absurd (false≢true h)
  memory_holds m (Some s) e h = segment_holds m s (last_is s e) h

  width_kept : (r : Reloc) → (fixed_reloc at r).width ≡ r.width
  unfolding fixed_reloc
  width_kept r = refl

  place_moves : (r : Reloc) → (r.kind == 0) ≡ false → place (fixed_reloc at r) ≡ moved_window at (place r)
  unfolding fixed_reloc
  place_moves r some = rw some refl

  or_last : (a b : Bool) → b ≡ true → not (a || b) ≡ false
  or_last true b h = refl
  or_last false true h = refl
  or_last false false h = absurd (false≢true h)

  or_first : (a b : Bool) → a ≡ true → not (a || b) ≡ false
  or_first true b h = refl
  or_first false b h = absurd (false≢true h)

  held_moves : (program : Bool) (r : Reloc) → IsFair r → not (is_held program ss (place r)) ≡ false → not (is_held program moved_segments (place (fixed_reloc at r))) ≡ false
  unfolding is_held
  held_moves program r fair h = elim (cases_Bool (r.kind == 0)) [
    | inl none ↦ or_first _ _ (none_held moved_segments (place (fixed_reloc at r)) (width_kept r ∙ fair.0 none))
    | inr some ↦ elim (cases_Bool (in_file_part ss (place r))) [
      | inl hit ↦ or_first _ _ (ap (in_file_part moved_segments) (place_moves r some) ∙ held_stays at ss stands (place r) fair.1 ∙ hit)
      | inr miss ↦
          let both = both_true program (is_in_memory (place r) (last_load ss)) (rw miss at h) in
          let moved : is_in_memory (place (fixed_reloc at r)) (last_load moved_segments) ≡ true = ap (λ (m : Window). is_in_memory m (last_load moved_segments)) (place_moves r some) ∙ ap (is_in_memory (moved_window at (place r))) last_moves ∙ memory_holds (place r) (last_load ss) refl both.1 in
          or_last (in_file_part moved_segments (place (fixed_reloc at r))) (program && is_in_memory (place (fixed_reloc at r)) (last_load moved_segments)) (rw (both.0, moved) refl)
    ]
  ]

  -- ---- how a place moves

  shift_of : (r : Reloc) → IsFair r → not (is_held true ss (place r)) ≡ false → Shifts at (place (fixed_reloc at r)) (place r)
  shift_of r fair h = elim (cases_Bool (r.kind == 0)) [
    | inl none ↦ (width_kept r, inl (fair.0 none))
    | inr some ↦ elim (held_low (place r) h) [
      | inl empty ↦ (width_kept r, inl empty)
      | inr low ↦ (width_kept r, inr (let sum : plus r.address at ≡ r.address + at = omega (arith, low) in ap (λ (w : Window). w.at) (place_moves r some) ∙ sum))
    ]
  ]

  spot_alike : (r : Reloc) → IsFair r → Alike (file_window moved_segments (place (fixed_reloc at r))) (file_window ss (place r))
  spot_alike r fair = elim (cases_Bool (r.kind == 0)) [
    | inl none ↦ inr (none_there moved_segments (place (fixed_reloc at r)) (width_kept r ∙ fair.0 none), none_there ss (place r) (fair.0 none))
    | inr some ↦ inl (ap (file_window moved_segments) (place_moves r some) ∙ window_stays at ss stands (place r) fair.1)
  ]

  -- ---- 24: no place is outside

  outside_by : (program : Bool) (rs : List Reloc) → All IsFair rs → list_any (λ (m : Window). not (is_held program ss m)) (places rs) ≡ false → list_any (λ (m : Window). not (is_held program moved_segments m)) (places (map (fixed_reloc at) rs)) ≡ false
  outside_by program [] fair none = refl
  outside_by program (r ∷ rs) fair none =
      let q = or_parts (not (is_held program ss (place r))) (list_any (λ (m : Window). not (is_held program ss m)) (places rs)) none in
      or_from _ _ (held_moves program r (All-head IsFair r rs fair) q.0) (outside_by program rs (All-tail IsFair r rs fair) q.1)

  all_taken : (n : ℕ) (rs : List Reloc) → All IsFair rs → All IsFair (take n rs)
  all_taken zero rs all = All-nil IsFair
  all_taken (suc n) [] all = All-nil IsFair
  all_taken (suc n) (r ∷ rs) all = All-cons IsFair r (take n rs) (All-head IsFair r rs all) (all_taken n rs (All-tail IsFair r rs all))

  all_left : (n : ℕ) (rs : List Reloc) → All IsFair rs → All IsFair (drop n rs)
  all_left zero rs all = all
  all_left (suc n) [] all = All-nil IsFair
  all_left (suc n) (r ∷ rs) all = all_left n rs (All-tail IsFair r rs all)

  any_taken : (p : Window → Bool) (n : ℕ) (rs : List Reloc) → list_any p (places rs) ≡ false → list_any p (places (take n rs)) ≡ false
  any_taken p zero rs none = refl
  any_taken p (suc n) [] none = refl
  any_taken p (suc n) (r ∷ rs) none = let q = or_parts (p (place r)) (list_any p (places rs)) none in or_from _ _ q.0 (any_taken p n rs q.1)

  outside_again : (packed : ℕ) (rs : List Reloc) → All IsFair rs → reloc_outside true ss rs ≡ false → reloc_outside false ss (last_packed packed rs) ≡ false → any_place_outside true moved_segments packed (map (fixed_reloc at) rs) ≡ false
  unfolding any_place_outside reloc_outside
  outside_again packed rs fair rows last =
      let n : ℕ = length rs - packed in
      let out : Bool → Window → Bool = λ program m. not (is_held program moved_segments m) in
      let same : length (map (fixed_reloc at) rs) - packed ≡ n = ap (λ (k : ℕ). k - packed) (length-map rs (fixed_reloc at)) in
      let one = outside_by true (take n rs) (all_taken n rs fair) (any_taken (λ (m : Window). not (is_held true ss m)) n rs rows) in
      let two = outside_by false (drop n rs) (all_left n rs fair) last in
      or_from _ _
      (ap (λ (k : ℕ). list_any (out true) (places (take k (map (fixed_reloc at) rs)))) same ∙ ap (λ (xs : List Reloc). list_any (out true) (places xs)) (take-map (fixed_reloc at) n rs) ∙ one)
      (ap (λ (k : ℕ). list_any (out false) (places (drop k (map (fixed_reloc at) rs)))) same ∙ ap (λ (xs : List Reloc). list_any (out false) (places xs)) (drop-map (fixed_reloc at) n rs) ∙ two)

  -- ---- 25: no two share a byte

  abbrev IsKept : Reloc → Type 0
  IsKept r = IsFair r × (not (is_held true ss (place r)) ≡ false)

  kept_all : (rs : List Reloc) → All IsFair rs → list_any (λ (m : Window). not (is_held true ss m)) (places rs) ≡ false → All IsKept rs
  kept_all [] fair none = All-nil IsKept
  kept_all (r ∷ rs) fair none =
      let q = or_parts (not (is_held true ss (place r))) (list_any (λ (m : Window). not (is_held true ss m)) (places rs)) none in
      All-cons IsKept r rs (All-head IsFair r rs fair, q.0) (kept_all rs (All-tail IsFair r rs fair) q.1)

  overlap_again : (rs : List Reloc) → All IsFair rs → reloc_outside true ss rs ≡ false → reloc_overlap (map (fixed_reloc at) rs) ≡ reloc_overlap rs
  unfolding reloc_overlap reloc_outside
  overlap_again rs fair rows =
      any_pair_map share place (map (fixed_reloc at) rs) ∙ any_pair_map (λ x y. share (place x) (place y)) (fixed_reloc at) rs
      ∙ any_pair_all IsKept (λ x y. share (place (fixed_reloc at x)) (place (fixed_reloc at y))) (λ x y. share (place x) (place y)) rs (kept_all rs fair rows)
      (λ x y a b. share_shifted at (place x) (place (fixed_reloc at x)) (place y) (place (fixed_reloc at y)) (shift_of x a.0 a.1) (shift_of y b.0 b.1))
      ∙ sym (any_pair_map share place rs)

  -- ---- 26: none shares a byte with a table

  tables_again : (new old : List Window) (rs : List Reloc) → AllAlike new old → All IsFair rs → reloc_in_tables new moved_segments (map (fixed_reloc at) rs) ≡ reloc_in_tables old ss rs
  unfolding reloc_in_tables spots
  tables_again new old rs alike fair =
      any_map (meets new) (file_window moved_segments) (places (map (fixed_reloc at) rs))
      ∙ any_map (λ m. meets new (file_window moved_segments m)) place (map (fixed_reloc at) rs)
      ∙ any_map (λ r. meets new (file_window moved_segments (place r))) (fixed_reloc at) rs
      ∙ any_all IsFair (λ r. meets new (file_window moved_segments (place (fixed_reloc at r)))) (λ r. meets old (file_window ss (place r))) rs fair
      (λ r is. meets_alike new old (file_window moved_segments (place (fixed_reloc at r))) alike ∙ meets_first old (file_window moved_segments (place (fixed_reloc at r))) (file_window ss (place r)) (spot_alike r is))
      ∙ sym (any_map (meets old) (file_window ss) (places rs) ∙ any_map (λ m. meets old (file_window ss m)) place rs)

  -- ---- 23, 27 and 29: kinds, symbols and addends

  bad_kept : (count : ℕ) (r : Reloc) → is_bad count (fixed_reloc at r) ≡ is_bad count r
  unfolding is_bad fixed_reloc
  bad_kept count r = refl

  odd_kept : (r : Reloc) → is_odd (fixed_reloc at r) ≡ is_odd r
  unfolding is_odd fixed_reloc
  odd_kept r = elim (cases_Bool (r.kind == 8)) [
    | inl hit ↦ let same : r.kind ≡ 8 = eqb-true r.kind 8 hit in rw same refl
    | inr miss ↦ rw miss refl
  ]

  copy_kept : (program : Bool) (r : Reloc) → is_misplaced_copy program (fixed_reloc at r) ≡ is_misplaced_copy program r
  unfolding is_misplaced_copy fixed_reloc
  copy_kept program r = refl

  pub copies_kept : (program : Bool) (rs : List Reloc) → misplaced_copy program (map (fixed_reloc at) rs) ≡ misplaced_copy program rs
  unfolding misplaced_copy
  copies_kept program rs = any_map (is_misplaced_copy program) (fixed_reloc at) rs ∙ any_same (λ r. is_misplaced_copy program (fixed_reloc at r)) (is_misplaced_copy program) rs (copy_kept program)

  none_found : {X : Type 0} (p : X → Bool) (xs : List X) → list_any p xs ≡ false → find p xs ≡ None
  none_found p [] none = refl
  none_found p (x ∷ xs) none = let q = or_parts (p x) (list_any p xs) none in rw q.0 (none_found p xs q.1)

  -- ---- all of them

  pub relocs_pass : (new old : List Window) (count packed : ℕ) (rs : List Reloc) → AllAlike new old → AreTaken ss old count packed rs → check_relocs true moved_segments new count packed (map (fixed_reloc at) rs) ≡ Ok tt
  unfolding check_relocs first_bad check_places odd_addend
  relocs_pass new old count packed rs alike is =
      let qs : List Reloc = map (fixed_reloc at) rs in
      let known : list_any (is_bad count) qs ≡ false = any_map (is_bad count) (fixed_reloc at) rs ∙ any_same (λ r. is_bad count (fixed_reloc at r)) (is_bad count) rs (bad_kept count) ∙ is.known in
      let plain : list_any is_odd qs ≡ false = any_map is_odd (fixed_reloc at) rs ∙ any_same (λ r. is_odd (fixed_reloc at r)) is_odd rs odd_kept ∙ is.plain in
      rw (none_found (is_bad count) qs known)
      (refuse_next ((any_place_outside true moved_segments packed qs, Clause 24 0) ∷ (reloc_overlap qs, Clause 25 0) ∷ (reloc_in_tables new moved_segments qs, Clause 26 0) ∷ (list_any is_odd qs, Clause 27 0) ∷ []) (Ok tt)
      (or_from _ _ (outside_again packed rs is.fair is.held is.packed_held) (or_from _ _ (overlap_again rs is.fair is.held ∙ is.apart) (or_from _ _ (tables_again new old rs alike is.fair ∙ is.clear) (or_from _ _ plain refl)))))
