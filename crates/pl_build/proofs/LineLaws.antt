-- The number of a faulty line of a recipe: no more than the recipe has bytes, since the line is not empty, or 1.
use Rattle.std.proofs.Common.{◌≡◌, ◌≢◌, ℕ, zero, suc, ◌+◌, ◌<◌, ◌^◌, List, [], ◌∷◌, refl, ap, sym, ◌∙◌, arith, length, map, get_or, length-drop, true, false, inl, inr, Some}
use Rattle.std.specs.Prelude.{IfSome, slice_get, find}
use Rattle.std.specs.List.{range_with_len}
use Rattle.std.proofs.lemmas.Bool.{cases_Bool, ne_eqb, false≢true}
use Rattle.std.proofs.lemmas.List.{length-map}
use Rattle.bstr.specs.Find.{matches}
use Rattle.bstr.specs.Text.{MatchList, split_at}
use Rattle.bstr.proofs.lemmas.MatchListLemmas.{matches-list}
use Rattle.pl_build.specs.declared.line.Line.{Line}
use Rattle.pl_build.specs.declared.line.Line.TheVariants.{Empty}
use Rattle.pl_build.specs.Words.{pieces, lines_of}
use Rattle.pl_build.specs.Grammar.{line, line_of, bare}
use Rattle.pl_build.specs.Build.{lines}
use Rattle.pl_build.specs.Checks.{first_fault, faults, fault_at, lowest_kind, is_wrong, is_misplaced, is_over, is_unknown, is_repeated, keyword, is_fault, data_size}

-- a piece with bytes begins behind as many separators as its index says
piece_far : (text : List ℕ) (last : ℕ) (ks : List ℕ) (i : ℕ) → MatchList text 1 last ks → 0 < length (get_or (split_at text 1 last ks) i []) → last + i < length text
unfolding split_at MatchList
piece_far text last [] zero h some = omega (arith, length-drop last text)
piece_far text last [] (suc i) h some = absurd (omega arith)
piece_far text last (k ∷ ks) zero h some = omega (arith, h.0, h.1)
piece_far text last (k ∷ ks) (suc i) h some = omega (arith, h.0, piece_far text (k + 1) ks i h.2 some)

line_far : (recipe : List ℕ) (i : ℕ) → 0 < length (get_or (lines_of recipe) i []) → i < length recipe
unfolding pieces
line_far recipe i some = omega (arith, piece_far recipe 0 (matches recipe (10 ∷ []) 0) i (matches-list recipe (10 ∷ []) 0) some)

-- a line without bytes has no fault, unless it is the first
no_match : (ks : List ℕ) → MatchList [] 1 0 ks → ks ≡ []
unfolding MatchList
no_match [] h = refl
no_match (k ∷ ks) h = absurd (omega (arith, h.1))

empty_line : line [] ≡ Empty
unfolding line line_of bare pieces split_at
empty_line = ap (λ (ks : List ℕ). line_of (split_at [] 1 0 ks)) (no_match (matches [] (32 ∷ []) 0) (matches-list [] (32 ∷ []) 0))

empty_kind : (all : List Line) (size i : ℕ) → i ≢ 0 → lowest_kind all size i Empty ≡ 0
unfolding lowest_kind is_wrong is_misplaced is_over is_unknown is_repeated keyword
empty_kind all size i later = rw (ne_eqb i 0 later) refl

empty_fault : (all : List Line) (size i : ℕ) → i ≢ 0 → slice_get all i ≡ Some Empty → is_fault (fault_at all size i) ≡ false
unfolding fault_at
empty_fault all size i later is = rw (is, empty_kind all size i later) refl

get-map : (texts : List (List ℕ)) (i : ℕ) → i < length texts → slice_get (map line texts) i ≡ Some (line (get_or texts i []))
get-map [] i lt = absurd (omega arith)
get-map (text ∷ texts) zero lt = refl
get-map (text ∷ texts) (suc i) lt = get-map texts i (omega arith)

-- the number of a faulty line
number_small : (recipe : List ℕ) (size i : ℕ) → length recipe < 2 ^ 32 → i < length (lines recipe) → is_fault (fault_at (lines recipe) size i) ≡ true → i + 1 < 2 ^ 32
unfolding lines
number_small recipe size zero small lt fault = omega arith
number_small recipe size (suc k) small lt fault =
    let i : ℕ = suc k in
    let texts = lines_of recipe in
    let there : slice_get (map line texts) i ≡ Some (line (get_or texts i [])) = get-map texts i (omega (arith, lt, length-map texts line)) in
    with_text (get_or texts i []) refl there
  where
    with_text : (text : List ℕ) → text ≡ get_or (lines_of recipe) (suc k) [] → slice_get (map line (lines_of recipe)) (suc k) ≡ Some (line (get_or (lines_of recipe) (suc k) [])) → suc k + 1 < 2 ^ 32
    with_text [] is there =
        absurd (false≢true (sym (empty_fault (map line (lines_of recipe)) size (suc k) (λ e. omega (arith, e)) (there ∙ ap (λ (t : List ℕ). Some (line t)) (sym is) ∙ ap (λ (l : Line). Some l) empty_line)) ∙ fault))
    with_text (b ∷ bs) is there = omega (arith, small, line_far recipe (suc k) (omega (arith, ap length is)))

number_of : (all : List Line) (size i : ℕ) → i + 1 < 2 ^ 32 → (fault_at all size i).line < 2 ^ 32
unfolding fault_at
number_of all size i small = small

find_small : (all : List Line) (size from n : ℕ) → ((i : ℕ) → i < from + n → is_fault (fault_at all size i) ≡ true → i + 1 < 2 ^ 32) → IfSome (find is_fault (map (fault_at all size) (range_with_len from n))) (λ fault. fault.line < 2 ^ 32)
find_small all size from zero below = tt
find_small all size from (suc n) below = elim (cases_Bool (is_fault (fault_at all size from))) [
  | inl yes_fault ↦ rw yes_fault (number_of all size from (below from (omega arith) yes_fault))
  | inr no_fault ↦ rw no_fault (find_small all size (from + 1) n (λ i lt. below i (omega arith)))
]

-- the number of the first faulty line has 32 bits
pub fault_numbered : (recipe : List ℕ) → length recipe < 2 ^ 32 → IfSome (first_fault (lines recipe)) (λ fault. fault.line < 2 ^ 32)
unfolding first_fault faults
fault_numbered recipe small = find_small (lines recipe) (data_size (lines recipe)) 0 (length (lines recipe)) (λ i lt. number_small recipe (data_size (lines recipe)) i small (omega arith))
