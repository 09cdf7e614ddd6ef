-- The table that ends last of those that begin before a window's end tells whether the window shares a byte with a table.
use Rattle.std.proofs.Common.{◌≡◌, ℕ, zero, suc, ◌+◌, ◌<◌, ◌≤◌, Bool, true, false, ◌&&◌, ◌||◌, cond, List, [], ◌∷◌, ◌++◌, length, get_or, take, drop, refl, sym, ap, ◌∙◌, subst, arith}
use Rattle.std.specs.Prelude.{nat_lt}
use Rattle.std.specs.List.{list_any}
use Rattle.std.specs.List.Sorted.{IsPartitionPoint, IsPermutation}
use Rattle.std.proofs.Math.Bool.{or-false}
use Rattle.std.proofs.lemmas.Bool.Decides.{nat_tests}
use Rattle.std.proofs.lemmas.List.{get_or-drop, get_or-take, length-drop, length-take-le, take-append-drop, take_all, take_more}
use Rattle.std.proofs.lemmas.List.Folds.{list_any-append}
use Rattle.std.proofs.lemmas.List.Sorted.{list_any-IsPermutation}
use Rattle.pl_base.specs.Windows.{Window, end_of, share}
use Rattle.pl_object.specs.FilePart.{nothing}
use Rattle.pl_object.specs.TableClauses.{meets}
use Rattle.pl_object.specs.Crossing.{AreSorted, further, furthest, furthest_windows, is_met}
use Rattle.pl_object.specs.declared.crossing.SortedTables.{SortedTables}

-- a window with bytes begins before the end of a table with bytes
abbrev ends_in : Window → Window → Bool
ends_in w t = nat_lt 0 w.size && (nat_lt w.at (end_of t) && nat_lt 0 t.size)

-- ---- the one that ends last

or_moves : (a b c : Bool) → ((a || b) || c) ≡ (a || (b || c))
or_moves true b c = refl
or_moves false b c = refl

further_by : (last t w : Window) (b c : Bool) → nat_lt (end_of last) (end_of t) ≡ b → nat_lt 0 t.size ≡ c
    → (nat_lt 0 w.size && nat_lt w.at (end_of (cond (b && c) t last))) ≡ ((nat_lt 0 w.size && nat_lt w.at (end_of last)) || ends_in w t)
further_by last t w true true e f = grind (arith, nat_tests)
further_by last t w true false e f = grind (arith, nat_tests)
further_by last t w false true e f = grind (arith, nat_tests)
further_by last t w false false e f = grind (arith, nat_tests)

met_one : (last t w : Window) → is_met (further last t) w ≡ (is_met last w || ends_in w t)
unfolding is_met further
met_one last t w = further_by last t w (nat_lt (end_of last) (end_of t)) (nat_lt 0 t.size) refl refl

met_by : (last w : Window) (ts : List Window) → is_met (furthest last ts) w ≡ (is_met last w || list_any (ends_in w) ts)
met_by last w [] = sym (or-false (is_met last w))
met_by last w (t ∷ ts) =
    met_by (further last t) w ts
    ∙ ap (λ (b : Bool). b || list_any (ends_in w) ts) (met_one last t w)
    ∙ or_moves (is_met last w) (ends_in w t) (list_any (ends_in w) ts)

never_met : (w : Window) → is_met nothing w ≡ false
unfolding is_met
never_met w = grind (arith, nat_tests)

-- ---- of each number of tables

furthest_at : (last : Window) (ts : List Window) (j : ℕ) (d : Window) → j ≤ length ts → get_or (furthest_windows last ts) j d ≡ furthest last (take j ts)
furthest_at last [] zero d le = refl
furthest_at last (t ∷ ts) zero d le = refl
furthest_at last [] (suc j) d le = absurd (omega (arith, le))
furthest_at last (t ∷ ts) (suc j) d le = furthest_at (further last t) ts j d (omega (arith, le))

pub furthest_long : (last : Window) (ts : List Window) → length (furthest_windows last ts) ≡ length ts + 1
furthest_long last [] = omega arith
furthest_long last (t ∷ ts) = let more = furthest_long (further last t) ts in omega (arith, more)

furthest_push : (last : Window) (ts : List Window) (t : Window) → furthest last (ts ++ t ∷ []) ≡ further (furthest last ts) t
furthest_push last [] t = refl
furthest_push last (u ∷ ts) t = furthest_push (further last u) ts t

windows_push : (last : Window) (ts : List Window) (t : Window) → furthest_windows last (ts ++ t ∷ []) ≡ furthest_windows last ts ++ further (furthest last ts) t ∷ []
windows_push last [] t = refl
windows_push last (u ∷ ts) t = ap (λ (ws : List Window). last ∷ ws) (windows_push (further last u) ts t)

-- those of the first tables
pub record AreFurthest (ts : List Window) (last : Window) (all : List Window) : Type 0 where
  pub own : last ≡ furthest nothing ts
  pub whole : all ≡ furthest_windows nothing ts

pub furthest_more : (ts : List Window) (i : ℕ) (t last next : Window) (all new : List Window) → i < length ts → t ≡ get_or ts i t → next ≡ further last t → new ≡ all ++ next ∷ [] → AreFurthest (take i ts) last all → AreFurthest (take (i + 1) ts) next new
furthest_more ts i t last next all new lt is later pushed so_far =
    let step : take i ts ++ t ∷ [] ≡ take (i + 1) ts = ap (λ (u : Window). take i ts ++ u ∷ []) is ∙ sym (take_more ts i t lt) in
    let now : next ≡ further (furthest nothing (take i ts)) t = later ∙ ap (λ (w : Window). further w t) so_far.own in
    record {
      own = now ∙ sym (furthest_push nothing (take i ts) t) ∙ ap (furthest nothing) step;
      whole =
          pushed
          ∙ ap (λ (ws : List Window). ws ++ next ∷ []) so_far.whole
          ∙ ap (λ (w : Window). furthest_windows nothing (take i ts) ++ w ∷ []) now
          ∙ sym (windows_push nothing (take i ts) t)
          ∙ ap (furthest_windows nothing) step;
    }

pub furthest_done : (ts : List Window) (i : ℕ) (last : Window) (all : List Window) → length ts ≤ i → AreFurthest (take i ts) last all → all ≡ furthest_windows nothing ts
furthest_done ts i last all le so_far = so_far.whole ∙ ap (furthest_windows nothing) (take_all i ts le)

-- ---- the tables that begin before a window's end, and the others

share_before : (w t : Window) → nat_lt t.at (end_of w) ≡ true → share w t ≡ ends_in w t
share_before w t begins = grind (arith, nat_tests)

share_after : (w t : Window) → nat_lt t.at (end_of w) ≡ false → share w t ≡ false
share_after w t begins = grind (arith, nat_tests)

all_before : (w : Window) (ts : List Window) → ((k : ℕ) (d : Window) → k < length ts → nat_lt (get_or ts k d).at (end_of w) ≡ true) → list_any (share w) ts ≡ list_any (ends_in w) ts
all_before w [] begin = refl
all_before w (t ∷ ts) begin = rw (share_before w t (begin 0 t (omega arith)), all_before w ts (λ k d lt. begin (suc k) d (omega (arith, lt)))) refl

all_after : (w : Window) (ts : List Window) → ((k : ℕ) (d : Window) → k < length ts → nat_lt (get_or ts k d).at (end_of w) ≡ false) → list_any (share w) ts ≡ false
all_after w [] begin = refl
all_after w (t ∷ ts) begin = rw (share_after w t (begin 0 t (omega arith)), all_after w ts (λ k d lt. begin (suc k) d (omega (arith, lt)))) refl

any_before : (w : Window) (ts : List Window) (j : ℕ) → IsPartitionPoint (λ t. nat_lt t.at (end_of w) ≡ true) (λ t. nat_lt t.at (end_of w) ≡ false) ts j → j ≤ length ts → list_any (share w) ts ≡ list_any (ends_in w) (take j ts)
any_before w ts j point le =
    let begin : (k : ℕ) (d : Window) → k < length (take j ts) → nat_lt (get_or (take j ts) k d).at (end_of w) ≡ true =
    λ k d lt.
    let below : k < j = omega (arith, lt, length-take-le j ts le) in
    subst (λ (t : Window). nat_lt t.at (end_of w) ≡ true) (sym (get_or-take j ts k d below)) (point.0 k d (omega arith) below) in
    let over : (k : ℕ) (d : Window) → k < length (drop j ts) → nat_lt (get_or (drop j ts) k d).at (end_of w) ≡ false =
    λ k d lt.
    let within : j + k < length ts = omega (arith, lt, length-drop j ts, le) in
    subst (λ (t : Window). nat_lt t.at (end_of w) ≡ false) (sym (get_or-drop j ts k d)) (point.1 (j + k) d (omega arith) within) in
    ap (list_any (share w)) (sym (take-append-drop j ts))
    ∙ list_any-append (share w) (take j ts) (drop j ts)
    ∙ rw (all_before w (take j ts) begin, all_after w (drop j ts) over) (or-false (list_any (ends_in w) (take j ts)))

-- ---- a window and all tables

pub meets_is : (t : SortedTables) (w : Window) (j : ℕ) (last : Window) → AreSorted t → IsPartitionPoint (λ u. nat_lt u.at (end_of w) ≡ true) (λ u. nat_lt u.at (end_of w) ≡ false) t.tables.now j → j ≤ length t.tables.now
    → last ≡ get_or t.furthest.now j last → is_met last w ≡ meets t.tables.now w
meets_is t w j last are point le is =
    let ts : List Window = t.tables.now in
    let own : last ≡ furthest nothing (take j ts) = is ∙ ap (λ (ws : List Window). get_or ws j last) are.ends ∙ furthest_at nothing ts j last le in
    ap (λ (v : Window). is_met v w) own
    ∙ met_by nothing w (take j ts)
    ∙ ap (λ (b : Bool). b || list_any (ends_in w) (take j ts)) (never_met w)
    ∙ sym (any_before w ts j point le)

-- the order of the tables does not matter
pub same_meets : (ts us ws : List Window) → IsPermutation ts us → list_any (meets us) ws ≡ list_any (meets ts) ws
same_meets ts us [] same = refl
same_meets ts us (w ∷ ws) same =
    ap (λ (b : Bool). b || list_any (meets us) ws) (sym (list_any-IsPermutation (share w) ts us same))
    ∙ ap (λ (b : Bool). meets ts w || b) (same_meets ts us ws same)
