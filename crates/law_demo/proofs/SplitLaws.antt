-- The pieces of a text between a separator's places, byte by byte.
use Rattle.std.proofs.Common.{◌≡◌, ℕ, zero, suc, ◌+◌, ◌-◌, ◌<◌, ◌≤◌, Bool, true, false, List, [], ◌∷◌, ◌++◌, length, take, drop, get_or, refl, sym, ap, ◌∙◌, append_assoc, length-drop, drop-cons, add-one, arith, inl, inr}
use Rattle.std.specs.Prelude.{◌==◌, ◌&&◌, nat_le}
use Rattle.std.specs.List.{list_any}
use Rattle.std.proofs.lemmas.Bool.{cases_Bool, cases_lt, false≢true}
use Rattle.std.proofs.lemmas.Bool.Decides.{nat_tests}
use Rattle.std.proofs.lemmas.List.{append-nil, take_all, take_more, drop_all, get_or-drop}
use Rattle.bstr.specs.Text.{part, split_at}
use Rattle.memchr.specs.Find.{matches_from, occurs_at}
use Rattle.pl_build.specs.Words.{pieces}
use Rattle.law_demo.specs.Split.{onto, split_by, PiecesAreSplit}

-- bytes in front of the first piece
abbrev ahead : List ℕ → List (List ℕ) → List (List ℕ)
ahead front [] = []
ahead front (piece ∷ more) = (front ++ piece) ∷ more

ahead_nothing : (ps : List (List ℕ)) → ahead [] ps ≡ ps
ahead_nothing [] = refl
ahead_nothing (piece ∷ more) = refl

ahead_more : (front : List ℕ) (b : ℕ) (ps : List (List ℕ)) → ahead (front ++ b ∷ []) ps ≡ ahead front (onto b ps)
ahead_more front b [] = refl
ahead_more front b (piece ∷ more) = ap (λ (l : List ℕ). l ∷ more) (append_assoc front (b ∷ []) piece)

cut : (text : List ℕ) (i : ℕ) → i < length text → drop i text ≡ get_or text i 0 ∷ drop (i + 1) text
cut text i lt = rw (add-one, drop-cons text i 0) refl

-- what has been passed over since the last separator
part_more : (text : List ℕ) (last i : ℕ) → last ≤ i → i < length text → part last (i + 1) text ≡ part last i text ++ get_or text i 0 ∷ []
part_more text last i le lt =
    let size : i + 1 - last ≡ i - last + 1 = omega (arith, le) in
    let place : last + (i - last) ≡ i = omega (arith, le) in
    ap (λ (n : ℕ). take n (drop last text)) size
    ∙ take_more (drop last text) (i - last) 0 (omega (arith, length-drop last text, le, lt))
    ∙ ap (λ (b : ℕ). take (i - last) (drop last text) ++ b ∷ []) (get_or-drop last text (i - last) 0 ∙ ap (λ (n : ℕ). get_or text n 0) place)

part_all : (text : List ℕ) (last : ℕ) → last ≤ length text → part last (length text) text ≡ drop last text
part_all text last le = take_all (length text - last) (drop last text) (omega (arith, length-drop last text))

part_none : (text : List ℕ) (i : ℕ) → part i i text ≡ []
part_none text i = ap (λ (n : ℕ). take n (drop i text)) (let e : i - i ≡ 0 = omega arith in e)

-- whether a separator stands at a place
stands_at : (s : ℕ) (text : List ℕ) (i : ℕ) → i < length text → occurs_at text (s ∷ []) i ≡ (get_or text i 0 == s)
stands_at s text i lt =
    let fits : nat_le (i + 1) (length text) ≡ true = at_most (i + 1) (length text) (omega (arith, lt)) in
    rw (fits, cut text i lt) (one (get_or text i 0 == s))
  where
    at_most : (a b : ℕ) → a ≤ b → nat_le a b ≡ true
    at_most a b le = grind (arith, nat_tests)

    one : (b : Bool) → (b && true) ≡ b
    one true = refl
    one false = refl

past_end : (s : ℕ) (text : List ℕ) → occurs_at text (s ∷ []) (length text) ≡ false
past_end s text = rw (not_at_most (length text + 1) (length text) (omega arith)) refl
  where
    not_at_most : (a b : ℕ) → b < a → nat_le a b ≡ false
    not_at_most a b lt = grind (arith, nat_tests)

walked : (s : ℕ) (text : List ℕ) (n last i : ℕ) → last ≤ i → i ≤ length text → i + n ≡ length text + 1 → split_at text 1 last (matches_from text (s ∷ []) 0 i n) ≡ ahead (part last i text) (split_by s (drop i text))
unfolding matches_from split_at split_by
walked s text zero last i le within count = absurd (omega (arith, within, count))
walked s text (suc n) last i le within count = elim (cases_lt i (length text)) [
  | inl lt ↦ elim (cases_Bool (get_or text i 0 == s)) [
    | inl ends ↦
        let next = walked s text n (i + 1) (i + 1) (omega arith) (omega (arith, lt)) (omega (arith, count)) in
        rw (stands_at s text i lt, ends, cut text i lt, ends) (
        ap (λ (ps : List (List ℕ)). part last i text ∷ ps) (next ∙ ap (λ (l : List ℕ). ahead l (split_by s (drop (i + 1) text))) (part_none text (i + 1)) ∙ ahead_nothing (split_by s (drop (i + 1) text)))
        ∙ ap (λ (l : List ℕ). l ∷ split_by s (drop (i + 1) text)) (sym (append-nil (part last i text))))
    | inr goes ↦
        let next = walked s text n last (i + 1) (omega (arith, le)) (omega (arith, lt)) (omega (arith, count)) in
        rw (stands_at s text i lt, goes, cut text i lt, goes) (
        next ∙ ap (λ (l : List ℕ). ahead l (split_by s (drop (i + 1) text))) (part_more text last i le lt) ∙ ahead_more (part last i text) (get_or text i 0) (split_by s (drop (i + 1) text)))
  ]
  | inr past ↦
      let here : i ≡ length text = omega (arith, past, within) in
      let none : n ≡ 0 = omega (arith, here, count) in
      at_end here none
]
  where
    at_end : i ≡ length text → n ≡ 0 → split_at text 1 last (matches_from text (s ∷ []) 0 i (suc n)) ≡ ahead (part last i text) (split_by s (drop i text))
    at_end here none =
        rw (here, none, past_end s text, drop_all (length text) text (omega arith)) (
        ap (λ (l : List ℕ). l ∷ []) (sym (append-nil (part last (length text) text) ∙ part_all text last (omega (arith, le, here)))))

pub pieces_split : PiecesAreSplit
unfolding pieces
pieces_split s text =
    let count : length text + 1 - 0 ≡ length text + 1 = omega arith in
    ap (λ (n : ℕ). split_at text 1 0 (matches_from text (s ∷ []) 0 0 n)) count
    ∙ walked s text (length text + 1) 0 0 (omega arith) (omega arith) (omega arith)
    ∙ ap (λ (l : List ℕ). ahead l (split_by s text)) (part_none text 0)
    ∙ ahead_nothing (split_by s text)

-- ---- a text that is put together of pieces

-- a piece without a separator ends at the first
pub split_ended : (s : ℕ) (piece rest : List ℕ) → list_any (λ b. b == s) piece ≡ false → split_by s (piece ++ s ∷ rest) ≡ piece ∷ split_by s rest
unfolding split_by
split_ended s [] rest none = rw (same s) refl
  where
    same : (n : ℕ) → (n == n) ≡ true
    same n = grind (arith, nat_tests)
split_ended s (b ∷ piece) rest none = elim (cases_Bool (b == s)) [
  | inl ends ↦ absurd (false≢true (sym (rw ends at none)))
  | inr goes ↦ rw (goes, split_ended s piece rest (rw goes at none)) refl
]

-- or with the text
pub split_last : (s : ℕ) (piece : List ℕ) → list_any (λ b. b == s) piece ≡ false → split_by s piece ≡ piece ∷ []
unfolding split_by
split_last s [] none = refl
split_last s (b ∷ piece) none = elim (cases_Bool (b == s)) [
  | inl ends ↦ absurd (false≢true (sym (rw ends at none)))
  | inr goes ↦ rw (goes, split_last s piece (rw goes at none)) refl
]
