-- A number written through the rest of a slice is put at its offset.
use Rattle.std.proofs.Common.{◌≡◌, ◌≤◌, ℕ, ◌+◌, ◌-◌, List, [], ◌++◌, length, take, drop, sym, ap, ◌∙◌, append_assoc, arith, length-drop}
use Rattle.std.proofs.lemmas.List.{drop-drop, drop_all, take_rest, append-nil}
use borrow.Rule.Slice.PartMut.{put_mid, mid_of}
use Rattle.pl_base.specs.Bytes.{put}

-- what is written first into the rest of a slice is put at its offset
pub put_through : (at : ℕ) (new bytes written : List ℕ) → at + length new ≤ length bytes → written ≡ new ++ drop (length new) (mid_of at (length bytes - at) bytes) → put_mid at (length bytes - at) bytes written ≡ put at new bytes
unfolding put
put_through at new bytes written fits is =
    let rest : written ≡ new ++ drop (at + length new) bytes = is ∙ ap (λ (xs : List ℕ). new ++ drop (length new) xs) (take_rest bytes at) ∙ ap (λ (xs : List ℕ). new ++ xs) (drop-drop (length new) at bytes) in
    let none : drop (length bytes - at) (drop at bytes) ≡ [] = drop_all (length bytes - at) (drop at bytes) (omega (arith, length-drop at bytes)) in
    ap (λ (xs : List ℕ). take at bytes ++ (written ++ xs)) none
    ∙ ap (λ (xs : List ℕ). take at bytes ++ xs) (append-nil written ∙ rest)
    ∙ sym (append_assoc (take at bytes) new (drop (at + length new) bytes))
