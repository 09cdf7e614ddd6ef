-- Parts one after the other, and bytes inserted into others.
use Rattle.std.proofs.Common.{◌≡◌, ℕ, zero, suc, ◌+◌, ◌-◌, ◌≤◌, List, [], ◌∷◌, ◌++◌, length, take, drop, replicate, refl, sym, ap, ◌∙◌, append_assoc, arith}
use Rattle.std.proofs.lemmas.List.{length-append, length-take-le, length-drop, take_at, append-nil, take-append-drop}
use Rattle.pl_base.specs.Bytes.{part}
use Rattle.pl_base.specs.Windows.{gap, ◌⊕◌}
use Rattle.pl_base.proofs.WindowLaws.{length-⊕, part_under, part_added, part_front, part_behind}
use Rattle.pl_form.specs.Back.{inserted}
use Rattle.pl_form.specs.Parts.{joined, up, joined_size}

-- a part of the front stays
pub part_joined : (at n : ℕ) (front : List ℕ) (parts : List (List ℕ)) → at + n ≤ length front → part at n (joined front parts) ≡ part at n front
unfolding joined
part_joined at n front [] le = refl
part_joined at n front (x ∷ xs) le = part_joined at n (front ⊕ x) xs (omega (arith, le, length-⊕ front x)) ∙ part_under at n front x le

pub length-joined : (front : List ℕ) (parts : List (List ℕ)) → length (joined front parts) ≡ joined_size (length front) parts
unfolding joined joined_size
length-joined front [] = refl
length-joined front (x ∷ xs) = length-joined (front ⊕ x) xs ∙ ap (λ (n : ℕ). joined_size n xs) (length-⊕ front x)

pub joined-append : (front : List ℕ) (ps qs : List (List ℕ)) → joined front (ps ++ qs) ≡ joined (joined front ps) qs
unfolding joined
joined-append front [] qs = refl
joined-append front (p ∷ ps) qs = joined-append (front ⊕ p) ps qs

-- a part behind others
pub part_next : (front : List ℕ) (ps : List (List ℕ)) (next : List ℕ) (rest : List (List ℕ)) → part (up (joined_size (length front) ps)) (length next) (joined front (ps ++ next ∷ rest)) ≡ next
unfolding joined
part_next front ps next rest =
    let before : List ℕ = joined front ps in
    let size : length before ≡ joined_size (length front) ps = length-joined front ps in
    ap (λ (n : ℕ). part (up n) (length next) (joined front (ps ++ next ∷ rest))) (sym size)
    ∙ ap (part (up (length before)) (length next)) (joined-append front ps (next ∷ rest))
    ∙ part_joined (up (length before)) (length next) (before ⊕ next) rest (omega (arith, length-⊕ before next))
    ∙ part_added before next

-- the front, and what follows it
pub tail_of : List ℕ → List (List ℕ) → List ℕ
tail_of front [] = []
tail_of front (x ∷ xs) = (replicate (gap (length front)) 0 ++ x) ++ tail_of (front ⊕ x) xs

pub joined_tail : (front : List ℕ) (parts : List (List ℕ)) → joined front parts ≡ front ++ tail_of front parts
unfolding joined tail_of
joined_tail front [] = sym (append-nil front)
joined_tail front (x ∷ xs) =
    joined_tail (front ⊕ x) xs
    ∙ ap (λ (y : List ℕ). y ++ tail_of (front ⊕ x) xs) (append_assoc front (replicate (gap (length front)) 0) x)
    ∙ append_assoc front (replicate (gap (length front)) 0 ++ x) (tail_of (front ⊕ x) xs)

-- ---- bytes inserted

pub regrouped : (cut : ℕ) (more front tail : List ℕ) → inserted cut more front ++ tail ≡ take cut front ++ (more ++ (drop cut front ++ tail))
regrouped cut more front tail = append_assoc (take cut front ++ more) (drop cut front) tail ∙ append_assoc (take cut front) more (drop cut front ++ tail)

pub length-inserted : (cut : ℕ) (more front : List ℕ) → cut ≤ length front → length (inserted cut more front) ≡ length front + length more
length-inserted cut more front le =
    length-append (take cut front ++ more) (drop cut front) ∙ omega (arith, length-append (take cut front) more, length-take-le cut front le, length-drop cut front, le)

-- what lies before cut
pub part_before : (at n cut : ℕ) (more front tail : List ℕ) → at + n ≤ cut → cut ≤ length front → part at n (inserted cut more front ++ tail) ≡ part at n front
part_before at n cut more front tail fits le =
    let head = length-take-le cut front le in
    ap (part at n) (regrouped cut more front tail)
    ∙ part_front at n (take cut front) (more ++ (drop cut front ++ tail)) (omega (arith, head, fits))
    ∙ sym (part_front at n (take cut front) (drop cut front) (omega (arith, head, fits))) ∙ ap (part at n) (take-append-drop cut front)

-- what lies at or behind it
pub part_after : (at n cut : ℕ) (more front tail : List ℕ) → cut ≤ at → at + n ≤ length front → part (at + length more) n (inserted cut more front ++ tail) ≡ part at n front
part_after at n cut more front tail from fits =
    let head = length-take-le cut front (omega (arith, from, fits)) in
    let i : ℕ = at - cut in
    let there : at + length more ≡ length (take cut front ++ more) + i = omega (arith, length-append (take cut front) more, head, from) in
    let here : at ≡ length (take cut front) + i = omega (arith, head, from) in
    ap (part (at + length more) n) (append_assoc (take cut front ++ more) (drop cut front) tail)
    ∙ ap (λ (k : ℕ). part k n ((take cut front ++ more) ++ (drop cut front ++ tail))) there
    ∙ part_behind i n (take cut front ++ more) (drop cut front ++ tail)
    ∙ part_front i n (drop cut front) tail (omega (arith, length-drop cut front, from, fits))
    ∙ sym (part_behind i n (take cut front) (drop cut front))
    ∙ ap (λ (k : ℕ). part k n (take cut front ++ drop cut front)) (sym here)
    ∙ ap (part at n) (take-append-drop cut front)

-- what was inserted
pub part_inserted : (i n cut : ℕ) (more front tail : List ℕ) → i + n ≤ length more → cut ≤ length front → part (cut + i) n (inserted cut more front ++ tail) ≡ part i n more
part_inserted i n cut more front tail fits le =
    let head = length-take-le cut front le in
    ap (part (cut + i) n) (regrouped cut more front tail)
    ∙ ap (λ (k : ℕ). part (k + i) n (take cut front ++ (more ++ (drop cut front ++ tail)))) (sym head)
    ∙ part_behind i n (take cut front) (more ++ (drop cut front ++ tail))
    ∙ part_front i n more (drop cut front ++ tail) fits

-- the bytes before cut and those behind the inserted ones are the bytes into which it was inserted
pub inserted_back : (cut shift size : ℕ) (more front tail : List ℕ) → length front ≡ size → cut ≤ size → length more ≡ shift
    → take cut (inserted cut more front ++ tail) ++ part (cut + shift) (size - cut) (inserted cut more front ++ tail) ≡ front
inserted_back cut shift size more front tail n le m =
    let left : take cut (inserted cut more front ++ tail) ≡ take cut front = part_before 0 cut cut more front tail (omega arith) (omega (arith, n, le)) in
    let moved : part (cut + length more) (size - cut) (inserted cut more front ++ tail) ≡ part cut (size - cut) front = part_after cut (size - cut) cut more front tail (omega arith) (omega (arith, n, le)) in
    let rest : part (cut + shift) (size - cut) (inserted cut more front ++ tail) ≡ drop cut front =
    ap (λ (k : ℕ). part (cut + k) (size - cut) (inserted cut more front ++ tail)) (sym m) ∙ moved
    ∙ ap (take (size - cut)) (sym (append-nil (drop cut front))) ∙ take_at (drop cut front) [] (size - cut) (length-drop cut front ∙ omega (arith, n)) in
    rw (left, rest) (take-append-drop cut front)

-- a part of two lists, one after the other
drop_both : (n : ℕ) (xs ys : List ℕ) → drop n (xs ++ ys) ≡ drop n xs ++ drop (n - length xs) ys
drop_both zero xs ys = let e : 0 ≡ 0 - length xs = omega arith in ap (λ (k : ℕ). xs ++ drop k ys) e
drop_both (suc n) [] ys = let e : suc n ≡ suc n - 0 = omega arith in ap (λ (k : ℕ). drop k ys) e
drop_both (suc n) (x ∷ xs) ys =
    let e : n - length xs ≡ suc n - length (x ∷ xs) = omega arith in
    drop_both n xs ys ∙ ap (λ (k : ℕ). drop n xs ++ drop k ys) e

take_both : (n : ℕ) (xs ys : List ℕ) → take n (xs ++ ys) ≡ take n xs ++ take (n - length (take n xs)) ys
take_both zero xs ys = refl
take_both (suc n) [] ys = let e : suc n ≡ suc n - 0 = omega arith in ap (λ (k : ℕ). take k ys) e
take_both (suc n) (x ∷ xs) ys =
    let e : n - length (take n xs) ≡ suc n - length (x ∷ take n xs) = omega arith in
    ap (λ (zs : List ℕ). x ∷ zs) (take_both n xs ys ∙ ap (λ (k : ℕ). take n xs ++ take k ys) e)

part_both : (at size : ℕ) (xs ys : List ℕ) → part at size (xs ++ ys) ≡ part at size xs ++ part (at - length xs) (size - length (part at size xs)) ys
part_both at size xs ys = ap (take size) (drop_both at xs ys) ∙ take_both size (drop at xs) (drop (at - length xs) ys)

-- what is added in two steps
pub part_added_twice : (at size from rest : ℕ) (xs ys first second old mid new : List ℕ) → first ≡ part at size xs → from ≡ at - length xs → rest ≡ size - length first → second ≡ part from rest ys
    → mid ≡ old ++ first → new ≡ mid ++ second → new ≡ old ++ part at size (xs ++ ys)
part_added_twice at size from rest xs ys first second old mid new a b e f g h =
    let r : rest ≡ size - length (part at size xs) = e ∙ ap (λ (zs : List ℕ). size - length zs) a in
    let s : second ≡ part (at - length xs) (size - length (part at size xs)) ys = f ∙ ap (λ (k : ℕ). part k rest ys) b ∙ ap (λ (k : ℕ). part (at - length xs) k ys) r in
    h ∙ ap (λ (zs : List ℕ). zs ++ second) g ∙ append_assoc old first second
    ∙ ap (λ (zs : List ℕ). old ++ (zs ++ second)) a ∙ ap (λ (zs : List ℕ). old ++ (part at size xs ++ zs)) s ∙ ap (λ (zs : List ℕ). old ++ zs) (sym (part_both at size xs ys))
