-- Places that share no byte of memory share none of the file, and none of the zeros of the last PT_LOAD (clauses 6, 24 and 25).
use Rattle.std.proofs.Common.{◌≡◌, ℕ, suc, ◌+◌, ◌-◌, ◌<◌, ◌≤◌, Bool, true, false, List, [], ◌∷◌, length, get_or, Option, Some, None, refl, sym, subst, ◌∙◌, arith, inl, inr}
use Rattle.std.specs.Prelude.{find}
use Rattle.std.specs.List.{list_any, AllByRecursion}
use Rattle.std.proofs.lemmas.Bool.{cases_Bool, cases_lt, or_parts, true≢false}
use Rattle.std.proofs.lemmas.Bool.Decides.{nat_tests}
use Rattle.pl_base.specs.Windows.{Window, holds, share, any_share, AreApart, IsApart}
use Rattle.pl_base.proofs.FindLaws.{find_passes}
use Rattle.pl_base.proofs.WindowLaws.{holds_true, not_share, AreAllApart}
use Rattle.pl_elf.specs.Headers.{loads}
use Rattle.pl_elf.specs.Clauses.{load_window, load_windows}
use Rattle.pl_elf.specs.declared.segment.Segment.{Segment}
use Rattle.pl_form.specs.Back.{spot_windows}
use Rattle.pl_object.specs.FilePart.{nothing, loads_byte, loader, loaded_by, file_window}
use Rattle.pl_form.specs.Loads.{spot_of, spots_of, hidden_windows}
use Rattle.pl_form.proofs.PlaceByteLaws.{loads_parts, one_load, spot_by, within_load, IsHeld, IsOwn, hidden_of, hidden_under}

-- what is found has an index
pub record At {X : Type 0} (xs : List X) (x : X) : Type 0 where
  pub i : ℕ
  pub lt : i < length xs
  pub is : (d : X) → get_or xs i d ≡ x

pub at_later : {X : Type 0} (y x : X) (xs : List X) → At xs x → At (y ∷ xs) x
at_later y x xs h = record { i = suc h.i; lt = (let l = h.lt in omega (arith, l)); is = λ d. h.is d }

pub found_at : {X : Type 0} (p : X → Bool) (xs : List X) (x : X) → find p xs ≡ Some x → At xs x
found_at p [] x e = absurd cc
found_at p (y ∷ ys) x e = elim (cases_Bool (p y)) [
  | inl hit ↦ let same : Some y ≡ Some x = rw hit at e in let is : y ≡ x = cc in record { i = 0; lt = omega arith; is = λ d. is }
  | inr miss ↦ at_later y x ys (found_at p ys x (rw miss at e))
]

-- two that load bytes, with a file byte in common
two_loads : (ss : List Segment) (a b x : ℕ) (s t : Segment) → any_share (load_windows (loads ss)) ≡ false → loader ss a ≡ Some s → loader ss b ≡ Some t → holds x (load_window s) ≡ true → holds x (load_window t) ≡ true → s ≡ t
two_loads ss a b x s t none found found' h g =
    let at = found_at (loads_byte a) ss s found in
    let is = at.is s in
    sym is ∙ one_load load_window ss at.i b x s t none at.lt (rw is (loads_parts a s (find_passes (loads_byte a) ss s found)).0) found' (rw is h) g

record Common (v w : Window) : Type 0 where
  x : ℕ
  left : holds x v ≡ true
  right : holds x w ≡ true

common : (v w : Window) → share v w ≡ true → Common v w
common v w h = elim (cases_lt v.at w.at) [
  | inl lt ↦ record { x = w.at; left = grind (arith, nat_tests); right = grind (arith, nat_tests) }
  | inr le ↦ record { x = v.at; left = grind (arith, nat_tests); right = grind (arith, nat_tests) }
]

both_share : (v w : Window) (x : ℕ) → holds x v ≡ true → holds x w ≡ true → share v w ≡ true
both_share v w x h g = let a = holds_true x v h in let b = holds_true x w g in grind (arith, nat_tests)

abbrev spot_window : List Segment → ℕ → Window → Window
spot_window ss start place = record { at = (spot_of ss start place).at; size = (spot_of ss start place).size }

-- a file byte of a place: which PT_LOAD loads it
record Told (ss : List Segment) (place : Window) (x : ℕ) : Type 0 where
  t : Segment
  found : loader ss place.at ≡ Some t
  inside : holds x (load_window t) ≡ true

told_by : (ss : List Segment) (place : Window) (x : ℕ) (found : Option Segment) → loader ss place.at ≡ found → holds x (loaded_by place found) ≡ true → Told ss place x
told_by ss place x None e h = absurd (let p = holds_true x nothing h in omega (arith, p.0, p.1))
told_by ss place x (Some t) e h =
    let p = holds_true x (loaded_by place (Some t)) h in
    let q = loads_parts place.at t (find_passes (loads_byte place.at) ss t e) in
    record { t = t; found = e; inside = within_load place t x p.0 p.1 q.1 q.2 }

spots_by : (ss : List Segment) (v w : Window) (x : ℕ) (s : Segment) → any_share (load_windows (loads ss)) ≡ false → loader ss v.at ≡ Some s → holds x (load_window s) ≡ true
    → holds x (loaded_by v (loader ss v.at)) ≡ true → holds x (loaded_by w (loader ss w.at)) ≡ true → share v w ≡ true
spots_by ss v w x s none is inside left right =
    let low = holds_true x (load_window s) inside in
    let k : ℕ = x - s.offset in
    let x_is : x ≡ s.offset + k = omega (arith, low.0) in
    let in_load : (place : Window) (t : Segment) → loader ss place.at ≡ Some t → (t.vaddr ≤ place.at) × (place.at < t.vaddr + t.filesz) =
    λ place t found. (let p = loads_parts place.at t (find_passes (loads_byte place.at) ss t found) in (p.1, p.2)) in
    let one : (place : Window) (t : Segment) → loader ss place.at ≡ Some t → holds (s.offset + k) (load_window t) ≡ true → s ≡ t =
    λ place t found g. two_loads ss v.at place.at (s.offset + k) s t none is found (subst (λ (n : ℕ). holds n (load_window s) ≡ true) x_is inside) g in
    both_share v w (s.vaddr + k)
    (spot_by v s k (loader ss v.at) (in_load v) (one v) (subst (λ (n : ℕ). holds n (loaded_by v (loader ss v.at)) ≡ true) x_is left))
    (spot_by w s k (loader ss w.at) (in_load w) (one w) (subst (λ (n : ℕ). holds n (loaded_by w (loader ss w.at)) ≡ true) x_is right))

spots_share : (ss : List Segment) (start : ℕ) (v w : Window) → any_share (load_windows (loads ss)) ≡ false → share (spot_window ss start v) (spot_window ss start w) ≡ true → share v w ≡ true
unfolding spot_of file_window
spots_share ss start v w none h =
    let c = common (loaded_by v (loader ss v.at)) (loaded_by w (loader ss w.at)) h in
    let a = told_by ss v c.x (loader ss v.at) refl c.left in
    spots_by ss v w c.x a.t none a.found a.inside c.left c.right

apart_if : (v w : Window) (b : Bool) → b ≡ false → (share v w ≡ true → b ≡ true) → AreApart v w
apart_if v w b none back = elim (cases_Bool (share v w)) [
  | inl hit ↦ absurd (true≢false (sym (back hit) ∙ none))
  | inr miss ↦ not_share v w miss
]

one_apart : (ss : List Segment) (start : ℕ) (v : Window) (places : List Window) → any_share (load_windows (loads ss)) ≡ false → list_any (share v) places ≡ false → IsApart (spot_window ss start v) (spot_windows (spots_of ss start places))
one_apart ss start v [] none out = tt
one_apart ss start v (w ∷ ws) none out =
    let p = or_parts (share v w) (list_any (share v) ws) out in
    (apart_if (spot_window ss start v) (spot_window ss start w) (share v w) p.0 (spots_share ss start v w none), one_apart ss start v ws none p.1)

-- the file bytes of places
pub spots_apart : (ss : List Segment) (start : ℕ) (places : List Window) → any_share (load_windows (loads ss)) ≡ false → any_share places ≡ false → AreAllApart (spot_windows (spots_of ss start places))
spots_apart ss start [] none out = tt
spots_apart ss start (v ∷ vs) none out =
    let p = or_parts (list_any (share v) vs) (any_share vs) out in
    (one_apart ss start v vs none p.0, spots_apart ss start vs none p.1)

-- ---- the zeros

back_holds : (ss : List Segment) (last : Segment) (place : Window) (j : ℕ) → last.filesz ≤ last.memsz → IsOwn ss last → IsHeld ss last place → holds j (hidden_of ss (last.vaddr + last.filesz) place) ≡ true → holds (last.vaddr + last.filesz + j) place ≡ true
back_holds ss last place j le own held h = elim (cases_Bool (holds (last.vaddr + last.filesz + j) place)) [
  | inl hit ↦ hit
  | inr miss ↦ absurd (true≢false (sym h ∙ hidden_under ss last place j le own held miss))
]

zeros_share : (ss : List Segment) (last : Segment) (v w : Window) → last.filesz ≤ last.memsz → IsOwn ss last → IsHeld ss last v → IsHeld ss last w
    → share (hidden_of ss (last.vaddr + last.filesz) v) (hidden_of ss (last.vaddr + last.filesz) w) ≡ true → share v w ≡ true
zeros_share ss last v w le own a b h =
    let c = common (hidden_of ss (last.vaddr + last.filesz) v) (hidden_of ss (last.vaddr + last.filesz) w) h in
    both_share v w (last.vaddr + last.filesz + c.x) (back_holds ss last v c.x le own a c.left) (back_holds ss last w c.x le own b c.right)

one_zeros : (ss : List Segment) (last : Segment) (v : Window) (places : List Window) → last.filesz ≤ last.memsz → IsOwn ss last → IsHeld ss last v → AllByRecursion (IsHeld ss last) places → list_any (share v) places ≡ false
    → IsApart (hidden_of ss (last.vaddr + last.filesz) v) (hidden_windows (spots_of ss (last.vaddr + last.filesz) places))
one_zeros ss last v [] le own h held out = tt
one_zeros ss last v (w ∷ ws) le own h held out =
    let p = or_parts (share v w) (list_any (share v) ws) out in
    (apart_if (hidden_of ss (last.vaddr + last.filesz) v) (hidden_of ss (last.vaddr + last.filesz) w) (share v w) p.0 (zeros_share ss last v w le own h held.0), one_zeros ss last v ws le own h held.1 p.1)

pub zeros_apart : (ss : List Segment) (last : Segment) (places : List Window) → last.filesz ≤ last.memsz → IsOwn ss last → AllByRecursion (IsHeld ss last) places → any_share places ≡ false
    → AreAllApart (hidden_windows (spots_of ss (last.vaddr + last.filesz) places))
zeros_apart ss last [] le own held out = tt
zeros_apart ss last (v ∷ vs) le own held out =
    let p = or_parts (list_any (share v) vs) (any_share vs) out in
    (one_zeros ss last v vs le own held.0 held.1 p.0, zeros_apart ss last vs le own held.1 p.1)
