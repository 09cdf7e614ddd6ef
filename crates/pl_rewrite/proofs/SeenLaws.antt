-- Words that a copy reads are given near the ranges from which a program copies.
use Rattle.std.proofs.Common.{◌≡◌, ℕ, zero, suc, ◌+◌, ◌-◌, ◌^◌, ◌<◌, ◌≤◌, true, false, List, [], ◌∷◌, length, get_or, Option, Some, None, refl, ap, ◌∙◌, arith}
use Rattle.std.specs.Prelude.{◌&&◌, ◌||◌, min, nat_lt}
use Rattle.std.specs.List.{cons_option, list_any}
use Rattle.std.proofs.lemmas.Bool.{and_from, false≢true, lt-ltb, or_left, or_right}
use Rattle.pl_base.specs.Bytes.{bytes64}
use Rattle.pl_base.specs.Memory.{is_within}
use Rattle.pl_base.proofs.MemoryLaws.{within_true}
use Rattle.pl_base.proofs.WordLaws.{length_bytes64}
use Rattle.pl_elf.specs.declared.range.Range.{Range}
use Rattle.pl_value.specs.declared.meaning.Meaning.{Meaning}
use Rattle.pl_value.specs.declared.word.Word.{Word}
use Rattle.pl_value.specs.declared.word.Word.TheVariants.{Put, Copy, Nothing}
use Rattle.pl_rewrite.specs.RemainingRows.{is_near_word, is_put}
use Rattle.pl_rewrite.specs.Ranges.{is_near, range_of, ranges_of, touches}
use Rattle.pl_rewrite.proofs.CopyLaws.{gives_at}

-- ---- a range of a copy

below_min : (a b c : ℕ) → a < b → a < c → a < min b c
below_min a b c one two = omega (arith, one, two)

touched : (from n start a : ℕ) → from ≤ a → a < from + n → a < 2 ^ 64 - 1 → start ≤ a → a < start + 8 → touches start (record { start = from; end = min (from + n) (2 ^ 64 - 1) }) ≡ true
touched from n start a low high last first past =
    let end : a < min (from + n) (2 ^ 64 - 1) = below_min a (from + n) (2 ^ 64 - 1) high last in
    let some : nat_lt from (min (from + n) (2 ^ 64 - 1)) ≡ true = lt-ltb from (min (from + n) (2 ^ 64 - 1)) (omega (arith, low, end)) in
    let ends : nat_lt start (min (from + n) (2 ^ 64 - 1)) ≡ true = lt-ltb start (min (from + n) (2 ^ 64 - 1)) (omega (arith, first, end)) in
    and_from (nat_lt from (min (from + n) (2 ^ 64 - 1)) && nat_lt start (min (from + n) (2 ^ 64 - 1))) (nat_lt from (start + 8)) (and_from (nat_lt from (min (from + n) (2 ^ 64 - 1))) (nat_lt start (min (from + n) (2 ^ 64 - 1))) some ends)
    (lt-ltb from (start + 8) (omega (arith, low, past)))

any_first : (start : ℕ) (r : Range) (rs : List Range) → touches start r ≡ true → list_any (touches start) (cons_option (Some r) rs) ≡ true
any_first start r rs hit = or_left (touches start r) (list_any (touches start) rs) hit

any_later : (start : ℕ) (o : Option Range) (rs : List Range) → list_any (touches start) rs ≡ true → list_any (touches start) (cons_option o rs) ≡ true
any_later start None rs hit = hit
any_later start (Some r) rs hit = or_right (touches start r) (list_any (touches start) rs) hit

first_range : (word : Word) (rs : List Range) (m from n start a : ℕ) → word ≡ Copy m from n → from ≤ a → a < from + n → a < 2 ^ 64 - 1 → start ≤ a → a < start + 8 → list_any (touches start) (cons_option (range_of word) rs) ≡ true
first_range word rs m from n start a is low high last first past =
    rw is (any_first start (record { start = from; end = min (from + n) (2 ^ 64 - 1) }) rs (touched from n start a low high last first past))

pub range_there : (gs : List Meaning) (i : ℕ) (d : Meaning) (m from n start a : ℕ) → i < length gs → (get_or gs i d).word ≡ Copy m from n → from ≤ a → a < from + n → a < 2 ^ 64 - 1 → start ≤ a → a < start + 8 → is_near (ranges_of gs) start ≡ true
unfolding ranges_of
range_there [] i d m from n start a lt is low high last first past = absurd (omega (arith, lt))
range_there (g ∷ gs) zero d m from n start a lt is low high last first past = first_range g.word (ranges_of gs) m from n start a is low high last first past
range_there (g ∷ gs) (suc i) d m from n start a lt is low high last first past = any_later start (range_of g.word) (ranges_of gs) (range_there gs i d m from n start a (omega (arith, lt)) is low high last first past)

-- ---- a word over an address

record IsOver (a : ℕ) (g : Meaning) : Type 0 where
  put : is_put g.word ≡ true
  low : g.start ≤ a
  high : a < g.start + 8

over_put : (a start : ℕ) (w : ℕ) → is_within start (length (bytes64 w)) a ≡ true → (start ≤ a) × (a < start + 8)
over_put a start w hit = let p = within_true start (length (bytes64 w)) a hit in (p.0, omega (arith, p.1, length_bytes64 w))

over_word : (a : ℕ) (g : Meaning) (word : Word) → g.word ≡ word → gives_at a g ≡ true → IsOver a g
over_word a g (Put w) is hit =
    let inside : is_within g.start (length (bytes64 w)) a ≡ true = rw is at hit in
    let p = over_put a g.start w inside in
    record { put = ap is_put is; low = p.0; high = p.1 }
over_word a g (Copy m from n) is hit = let none : false ≡ true = rw is at hit in absurd (false≢true none)
over_word a g Nothing is hit = let none : false ≡ true = rw is at hit in absurd (false≢true none)

-- what is over an address that a copy of the program reads is near
pub near_seen : (own : List Meaning) (i : ℕ) (d : Meaning) (m from n k : ℕ) (g : Meaning) → i < length own → (get_or own i d).word ≡ Copy m from n → k < n → from + k < 2 ^ 64 - 1 → gives_at (from + k) g ≡ true → is_near_word (ranges_of own) g ≡ true
near_seen own i d m from n k g lt is inside last hit =
    let over = over_word (from + k) g g.word refl hit in
    and_from (is_put g.word) (is_near (ranges_of own) g.start) over.put (range_there own i d m from n g.start (from + k) lt is (omega arith) (omega (arith, inside)) last over.low over.high)
