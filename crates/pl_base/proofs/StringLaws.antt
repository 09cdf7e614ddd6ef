-- Which strings have an end: those that begin before or at the last 0 byte.
use Rattle.std.proofs.Common.{◌≡◌, ◌≢◌, inl, inr, ℕ, zero, suc, ◌+◌, ◌-◌, ◌<◌, ◌≤◌, Bool, true, false, nat_lt, List, [], ◌∷◌, length, drop, get_or, length-drop, None, refl, sym, ap, ◌∙◌, arith}
use Rattle.std.specs.List.{list_any}
use Rattle.std.proofs.lemmas.Bool.{ne_eqb, lt-ltb, le-ltb}
use Rattle.std.proofs.lemmas.Bool.Decides.{leb_tells}
use Rattle.std.proofs.lemmas.List.{drop_more, drop_all, drop-drop, get_or-drop}
use Rattle.std.proofs.lemmas.List.Folds.{list_any_at}
use Rattle.pl_base.specs.Strings.{is_zero, has_end, ended}

-- none begins at or past the end of the strings
pub ended_past : (at : ℕ) (strings : List ℕ) → length strings ≤ at → ended (drop at strings) ≡ None
unfolding ended
ended_past at strings le = ap ended (drop_all at strings le)

-- where a list has none, its end has none
any_of_end : (p : ℕ → Bool) (xs : List ℕ) (n : ℕ) → list_any p xs ≡ false → list_any p (drop n xs) ≡ false
any_of_end p [] zero e = e
any_of_end p [] (suc n) e = e
any_of_end p (x ∷ xs) zero e = e
any_of_end p (x ∷ xs) (suc n) e = any_of_end p xs n (grind (arith, e))

pub no_zero_from : (xs : List ℕ) (n : ℕ) → 0 < n → n ≤ length xs → get_or xs (n - 1) 0 ≢ 0 → list_any is_zero (drop n xs) ≡ false → list_any is_zero (drop (n - 1) xs) ≡ false
no_zero_from xs n some le other e =
    let one = drop_more xs (n - 1) 0 (omega (arith, some, le)) in
    let next : n - 1 + 1 ≡ n = omega (arith, some) in
    rw one (rw next (rw (ne_eqb (get_or xs (n - 1) 0) 0 other) e))

end_after : (xs : List ℕ) (size at : ℕ) → list_any is_zero (drop size xs) ≡ false → size ≤ at → has_end at xs ≡ false
unfolding has_end
end_after xs size at e le =
    let parts : drop (at - size) (drop size xs) ≡ drop at xs = drop-drop (at - size) size xs ∙ ap (λ n. drop n xs) (omega (arith, le)) in
    ap (list_any is_zero) (sym parts) ∙ any_of_end is_zero (drop size xs) (at - size) e

end_before : (xs : List ℕ) (size at : ℕ) → size ≤ length xs → get_or xs (size - 1) 0 ≡ 0 → at < size → has_end at xs ≡ true
unfolding has_end
end_before xs size at le last lt =
    let there : get_or (drop at xs) (size - 1 - at) 0 ≡ 0 = get_or-drop at xs (size - 1 - at) 0 ∙ ap (λ k. get_or xs k 0) (omega (arith, lt)) ∙ last in
    list_any_at is_zero (drop at xs) (size - 1 - at) 0 (omega (arith, length-drop at xs, lt, le)) (rw there refl)

pub end_of_last : (xs : List ℕ) (size at : ℕ) → size ≤ length xs → list_any is_zero (drop size xs) ≡ false → (0 < size → get_or xs (size - 1) 0 ≡ 0) → has_end at xs ≡ nat_lt at size
end_of_last xs size at le none last =
    elim (leb_tells size at) [
      | inl past ↦ end_after xs size at none past.1 ∙ sym (le-ltb at size past.1)
      | inr lt ↦ end_before xs size at le (last (omega (arith, lt.1))) lt.1 ∙ sym (lt-ltb at size lt.1)
    ]
