-- The pieces of a form beside those of its original, one by one.
use Rattle.std.proofs.Common.{◌≡◌, ℕ, suc, ◌<◌, true, List, [], ◌∷◌, length, get_or, arith, inl, inr}
use Rattle.std.specs.List.{AllZip}
use Rattle.std.proofs.lemmas.Bool.{cases_Bool}
use Rattle.pl_base.specs.Memory.{Piece}
use Rattle.pl_elf.specs.Headers.{is_load}
use Rattle.pl_elf.specs.declared.segment.Segment.{Segment}
use Rattle.pl_form.specs.Loads.{stands, pieces_of}

-- what holds of each PT_LOAD's pieces holds of the two lists
pub zip_pieces : (P : Piece → Piece → Type 0) (place : ℕ) (o file : List ℕ) (ss bs : List Segment) → length bs ≡ length ss
    → ((i : ℕ) (d : Segment) → i < length ss → is_load (get_or ss i d) ≡ true → P (stands place o (get_or ss i d) (get_or ss i d)) (stands place file (get_or ss i d) (get_or bs i d)))
    → AllZip P (pieces_of place o ss ss) (pieces_of place file ss bs)
unfolding pieces_of
zip_pieces P place o file [] bs same each = tt
zip_pieces P place o file (s ∷ ss) [] same each = absurd (omega (arith, same))
zip_pieces P place o file (s ∷ ss) (b ∷ bs) same each =
    let rest = zip_pieces P place o file ss bs (omega (arith, same)) (λ i d lt is. each (suc i) d (omega (arith, lt)) is) in
    elim (cases_Bool (is_load s)) [
      | inl hit ↦ rw hit (each 0 s (omega arith) hit, rest)
      | inr miss ↦ rw miss rest
    ]
