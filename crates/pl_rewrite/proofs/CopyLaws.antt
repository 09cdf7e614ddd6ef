-- What stands at the places of a program: words, copies, and what its original has.
use Rattle.std.proofs.Common.{◌≡◌, ℕ, ◌+◌, ◌-◌, ◌<◌, ◌≤◌, Bool, true, false, List, [], ◌∷◌, ◌++◌, length, get_or, Option, Some, None, refl, sym, ap, ◌∙◌, arith, inl, inr}
use Rattle.std.specs.Prelude.{◌⊎◌, filter}
use Rattle.std.specs.List.{cons_option, filter_map}
use Rattle.std.specs.Option.{IfSome, unwrap_or}
use Rattle.std.proofs.lemmas.Bool.{cases_Bool, false≢true}
use Rattle.std.proofs.lemmas.Grind.{same_number_lists}
use Rattle.std.proofs.lemmas.List.Sorted.{IsPermutation-refl}
use Rattle.pl_base.specs.Bytes.{bytes64}
use Rattle.pl_base.specs.Memory.{AtMostOne, Fill, Memory, fill_byte, covers, filled, is_within, over, read}
use Rattle.pl_base.proofs.MemoryLaws.{filled_same, is_some_and, read_byte, read_length, within_is, within_not, within_true}
use Rattle.pl_base.proofs.WordLaws.{length_bytes64}
use Rattle.pl_conflict.specs.Fast.{is_library}
use Rattle.pl_conflict.proofs.FastLaws.{copies_inside, laid_at, make_copy, make_word, relocated_put, words_inside}
use Rattle.pl_value.specs.Laws.{AllFit}
use Rattle.pl_value.specs.Linked.{copies, relocated, under, worded, words}
use Rattle.pl_value.specs.declared.meaning.Meaning.{Meaning}
use Rattle.pl_value.specs.declared.word.Word.TheVariants.{Put, Copy, Nothing}

-- ---- words that are left out

-- a word of a meaning is over an address
abbrev pub gives_at : ℕ → Meaning → Bool
gives_at a g = is_some_and (covers a) (make_word g)

no_hit : (a : ℕ) (f : Fill) (m : Memory) → covers a f ≡ false → over f.start f.bytes m a ≡ m a
no_hit a f m miss = rw miss refl

left_out : (o : Option Fill) (fs : List Fill) (m : Memory) (a : ℕ) → is_some_and (covers a) o ≡ false → filled m (cons_option o fs) a ≡ filled m fs a
unfolding filled
left_out None fs m a miss = refl
left_out (Some f) fs m a miss = filled_same (over f.start f.bytes m) m fs a (no_hit a f m miss)

not_given : (p gives : Bool) → p ≡ false → (gives ≡ true → p ≡ true) → gives ≡ false
not_given p true miss step = absurd (false≢true (sym miss ∙ step refl))
not_given p false miss step = refl

-- the same fill before others that agree
kept : (o : Option Fill) (fs hs : List Fill) (m : Memory) (a : ℕ) → ((n : Memory) → filled n fs a ≡ filled n hs a) → filled m (cons_option o fs) a ≡ filled m (cons_option o hs) a
unfolding filled
kept None fs hs m a rest = rest m
kept (Some f) fs hs m a rest = rest (over f.start f.bytes m)

-- words that are over no address that is asked for may be left out
pub words_kept : (p : Meaning → Bool) (gs : List Meaning) (m : Memory) (a : ℕ) → ((g : Meaning) → gives_at a g ≡ true → p g ≡ true) → filled m (words (filter p gs)) a ≡ filled m (words gs) a
unfolding words
words_kept p [] m a step = refl
words_kept p (g ∷ gs) m a step = elim (cases_Bool (p g)) [
  | inl hit ↦ rw hit (kept (make_word g) (filter_map make_word (filter p gs)) (filter_map make_word gs) m a (λ n. words_kept p gs n a step))
  | inr miss ↦ rw miss (words_kept p gs m a step ∙ sym (left_out (make_word g) (filter_map make_word gs) m a (not_given (p g) (gives_at a g) miss (step g))))
]

-- ---- a place of a program

module _ (base : Memory) (gs : List Meaning) (i : ℕ) (d : Meaning) (fit : AllFit is_library gs) (lone : AtMostOne under gs) (lt : i < length gs) where
  -- that of a word has the word
  pub word_read : (w : ℕ) → (get_or gs i d).word ≡ Put w → (get_or gs i d).size ≡ 8 → read (relocated base gs) (get_or gs i d).start (get_or gs i d).size ≡ bytes64 w
  word_read w is eight =
      let g = get_or gs i d in
      same_number_lists (read (relocated base gs) g.start g.size) (bytes64 w) (read_length (relocated base gs) g.start g.size ∙ eight ∙ sym (length_bytes64 w))
      (λ k below.
      let low : k < g.size = omega (arith, below, read_length (relocated base gs) g.start g.size) in
      let hit : under (g.start + k) g ≡ true = within_is g.start g.size (g.start + k) (omega arith) (omega (arith, low)) in
      let at : g.start + k - g.start ≡ k = omega arith in
      read_byte (relocated base gs) g.start g.size k low
      ∙ ap (λ (o : Option ℕ). unwrap_or o 0) (relocated_put base gs (g.start + k) i d w fit lone lt hit is)
      ∙ ap (λ (n : ℕ). get_or (bytes64 w) n 0) at)

  -- where nothing is given, what was there stays
  pub nothing_there : (a : ℕ) → (get_or gs i d).word ≡ Nothing → under a (get_or gs i d) ≡ true → relocated base gs a ≡ base a
  unfolding relocated words copies
  nothing_there a is hit =
      let m = worded base gs in
      laid_at (make_copy m) gs (filter_map (make_copy m) gs) m a i d (m a) (IsPermutation-refl _) (copies_inside m gs a fit) lone lt hit (rw is tt) (inl refl)
      ∙ laid_at make_word gs (filter_map make_word gs) base a i d (base a) (IsPermutation-refl _) (words_inside gs a fit) lone lt hit (rw is tt) (inl refl)

  -- what was there before the copies, at the place of a copy
  before_copies : (a member from size : ℕ) → (get_or gs i d).word ≡ Copy member from size → under a (get_or gs i d) ≡ true → worded base gs a ≡ base a
  unfolding words
  before_copies a member from size is hit = laid_at make_word gs (filter_map make_word gs) base a i d (base a) (IsPermutation-refl _) (words_inside gs a fit) lone lt hit (rw is tt) (inl refl)

  -- the first bytes are copied from the memory with all words
  pub copied_there : (a member from size : ℕ) → (get_or gs i d).word ≡ Copy member from size → under a (get_or gs i d) ≡ true → a < (get_or gs i d).start + size → relocated base gs a ≡ Some (get_or (read (worded base gs) from size) (a - (get_or gs i d).start) 0)
  unfolding relocated copies
  copied_there a member from size is hit inside =
      let g = get_or gs i d in
      let m = worded base gs in
      let bytes = read m from size in
      let v : Option ℕ = Some (get_or bytes (a - g.start) 0) in
      let one : IfSome (make_copy m g) (λ f. covers a f ≡ true → Some (fill_byte a f) ≡ v) = rw is (λ _. refl) in
      let over : is_within g.start (length bytes) a ≡ true = within_is g.start (length bytes) a (low g.start g.size hit) (omega (arith, inside, read_length m from size)) in
      let some : is_some_and (covers a) (make_copy m g) ≡ true = rw is over in
      laid_at (make_copy m) gs (filter_map (make_copy m) gs) m a i d v (IsPermutation-refl _) (copies_inside m gs a fit) lone lt hit one (inr some)
    where
      low : (start n : ℕ) → is_within start n a ≡ true → start ≤ a
      low start n h = (within_true start n a h).0

  -- and behind them is what was there
  pub past_there : (a member from size : ℕ) → (get_or gs i d).word ≡ Copy member from size → under a (get_or gs i d) ≡ true → (get_or gs i d).start + size ≤ a → relocated base gs a ≡ base a
  unfolding relocated copies
  past_there a member from size is hit past =
      let g = get_or gs i d in
      let m = worded base gs in
      let bytes = read m from size in
      let out : is_within g.start (length bytes) a ≡ false = within_not g.start (length bytes) a (inr (omega (arith, past, read_length m from size))) in
      let one : IfSome (make_copy m g) (λ f. covers a f ≡ true → Some (fill_byte a f) ≡ m a) = rw is (λ over. absurd (false≢true (sym out ∙ over))) in
      laid_at (make_copy m) gs (filter_map (make_copy m) gs) m a i d (m a) (IsPermutation-refl _) (copies_inside m gs a fit) lone lt hit one (inl refl) ∙ before_copies a member from size is hit
