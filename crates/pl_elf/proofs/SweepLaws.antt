-- One walk over windows that ascend tells whether two of them share a byte.
use Rattle.std.proofs.Common.{◌≡◌, ℕ, suc, ◌+◌, ◌<◌, ◌≤◌, Bool, true, false, ◌||◌, List, [], ◌∷◌, length, get_or, drop, refl, sym, ap, ◌∙◌, arith, inl, inr}
use Rattle.std.specs.List.{list_any}
use Rattle.std.specs.List.Sorted.{IsPermutation, IsNonDecreasingBy}
use Rattle.std.proofs.lemmas.List.{drop_more, drop_all}
use Rattle.std.proofs.lemmas.Bool.Decides.{nat_tests, eqb_tells}
use Rattle.pl_base.specs.Windows.{Window, share, any_share}
use Rattle.pl_base.proofs.PairLaws.{any_pair_permuted}
use Rattle.pl_elf.specs.Sweep.{later, sweep}

-- no window begins below an address
abbrev pub Above : ℕ → List Window → Type 0
Above at [] = Unit {0}
Above at (w ∷ ws) = (at ≤ w.at) × Above at ws

-- each window begins at or after those before it
abbrev pub Rising : List Window → Type 0
Rising [] = Unit {0}
Rising (w ∷ ws) = Above w.at ws × Rising ws

share_apart : (v w : Window) → v.at + v.size ≤ w.at → share v w ≡ false
share_apart v w le = grind (arith, nat_tests)

share_empty : (v w : Window) → w.size ≡ 0 → share v w ≡ false
share_empty v w e = grind (arith, nat_tests)

empty_shares : (v w : Window) → v.size ≡ 0 → share v w ≡ false
empty_shares v w e = grind (arith, nat_tests)

-- the first of two that share no byte ends before the second begins
ends_before : (v w : Window) → v.at ≤ w.at → 0 < w.size → 0 < v.size → share v w ≡ false → v.at + v.size ≤ w.at
ends_before v w le some sized e = grind (arith, nat_tests)

none_behind : (v : Window) (ws : List Window) (at : ℕ) → v.at + v.size ≤ at → Above at ws → list_any (share v) ws ≡ false
none_behind v [] at le above = refl
none_behind v (w ∷ ws) at le above = rw (share_apart v w (omega (arith, le, above.0))) (none_behind v ws at le above.1)

none_empty : (v : Window) (ws : List Window) → v.size ≡ 0 → list_any (share v) ws ≡ false
none_empty v [] e = refl
none_empty v (w ∷ ws) e = rw (empty_shares v w e) (none_empty v ws e)

sized : (n : ℕ) → (n ≡ 0 → ⊥) → 0 < n
sized n other = grind arith

-- those after the next share none with the last, where the next does not
none_later : (last w : Window) (ws : List Window) → last.at ≤ w.at → 0 < w.size → Above w.at ws → share last w ≡ false → list_any (share last) ws ≡ false
none_later last w ws le some above apart =
    elim (eqb_tells last.size 0) [
      | inl e ↦ none_empty last ws e.1
      | inr e ↦ none_behind last ws w.at (ends_before last w le some (sized last.size e.1) apart) above
    ]

sweep_sized : (b : Bool) (last w : Window) (ws : List Window) → share last w ≡ b → (b ≡ false → list_any (share last) ws ≡ false) → sweep w ws ≡ (list_any (share w) ws || any_share ws)
    → (share last w || sweep w ws) ≡ (list_any (share last) (w ∷ ws) || any_share (w ∷ ws))
sweep_sized true last w ws is none so = rw is refl
sweep_sized false last w ws is none so = rw (is, none refl) so

pub sweep_is : (last : Window) (ws : List Window) → Rising ws → Above last.at ws → sweep last ws ≡ (list_any (share last) ws || any_share ws)
unfolding sweep
sweep_is last [] rising above = refl
sweep_is last (w ∷ ws) rising above =
    elim (eqb_tells w.size 0) [
      | inl e ↦ rw (e.0, share_empty last w e.1, none_empty w ws e.1) (sweep_is last ws rising.1 above.1)
      | inr e ↦ rw e.0 (sweep_sized (share last w) last w ws refl (λ apart. none_later last w ws above.0 (sized w.size e.1) rising.0 apart) (sweep_is w ws rising.1 rising.0))
    ]

-- ---- as far as a loop has come

sweep_more : (last : Window) (ws : List Window) (i : ℕ) (w : Window) (b : Bool) → i < length ws → w ≡ get_or ws i w → share last w ≡ b → sweep last (drop i ws) ≡ (b || sweep (later last w) (drop (i + 1) ws))
unfolding sweep
sweep_more last ws i w b lt is shares =
    ap (sweep last) (drop_more ws i w lt)
    ∙ ap (λ (v : Window). share last v || sweep (later last v) (drop (i + 1) ws)) (sym is)
    ∙ ap (λ (c : Bool). c || sweep (later last w) (drop (i + 1) ws)) shares

-- a window shares a byte
pub sweep_stops : (last : Window) (ws : List Window) (i : ℕ) (w : Window) (whole : Bool) → i < length ws → w ≡ get_or ws i w → true ≡ share last w → sweep last (drop i ws) ≡ whole → true ≡ whole
sweep_stops last ws i w whole lt is shares so_far = sym (sweep_more last ws i w true lt is (sym shares)) ∙ so_far

-- it shares none
pub sweep_goes : (last : Window) (ws : List Window) (i : ℕ) (w next : Window) (whole : Bool) → i < length ws → w ≡ get_or ws i w → false ≡ share last w → next ≡ later last w → sweep last (drop i ws) ≡ whole → sweep next (drop (i + 1) ws) ≡ whole
sweep_goes last ws i w next whole lt is shares new so_far = ap (λ (v : Window). sweep v (drop (i + 1) ws)) new ∙ sym (sweep_more last ws i w false lt is (sym shares)) ∙ so_far

pub sweep_done : (last : Window) (ws : List Window) (i : ℕ) → length ws ≤ i → sweep last (drop i ws) ≡ false
unfolding sweep
sweep_done last ws i le = ap (sweep last) (drop_all i ws le)

-- ---- windows that a sort has put in order

above_by : (ws : List Window) (at : ℕ) → ((k : ℕ) (d : Window) → k < length ws → at ≤ (get_or ws k d).at) → Above at ws
above_by [] at h = tt
above_by (w ∷ ws) at h = (h 0 w (omega arith), above_by ws at (λ k d lt. h (suc k) d (omega (arith, lt))))

rising_by : (ws : List Window) → IsNonDecreasingBy (λ w. w.at) ws → Rising ws
rising_by [] up = tt
rising_by (w ∷ ws) up = (above_by ws w.at (λ k d lt. up 0 (suc k) d (omega arith) (omega (arith, lt))), rising_by ws (λ i j d le lt. up (suc i) (suc j) d (omega (arith, le)) (omega (arith, lt))))

lowest : (ws : List Window) → Above 0 ws
lowest [] = tt
lowest (w ∷ ws) = (omega arith, lowest ws)

pub share_flips : (v w : Window) → share v w ≡ share w v
share_flips v w = grind (arith, nat_tests)

-- the walk over the windows in order
pub swept : (ws sorted : List Window) → IsPermutation ws sorted → IsNonDecreasingBy (λ w. w.at) sorted → sweep (record { at = 0; size = 0 }) sorted ≡ any_share ws
swept ws sorted same up =
    let nothing : Window = record { at = 0; size = 0 } in
    let walk = sweep_is nothing sorted (rising_by sorted up) (lowest sorted) in
    walk ∙ ap (λ (b : Bool). b || any_share sorted) (none_empty nothing sorted refl)
    ∙ sym (any_pair_permuted share share_flips ws sorted same)
