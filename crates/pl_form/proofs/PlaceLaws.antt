-- Loops over places, and over parts.
use Rattle.std.proofs.Common.{◌≡◌, ℕ, ◌+◌, ◌≤◌, ◌<◌, List, [], ◌∷◌, ◌++◌, length, get_or, drop, take, replicate, sym, ap, ◌∙◌, append_assoc, arith, drop-cons, add-one}
use Rattle.std.proofs.lemmas.List.{length-take, drop_all, append-nil}
use Rattle.pl_base.specs.Bytes.{part, put}
use Rattle.pl_base.specs.Windows.{AllIn, put_all, ◌⊕◌}
use Rattle.pl_base.proofs.WindowLaws.{length-put}
use Rattle.pl_form.specs.Back.{spot_windows, visible, memory_of}
use Rattle.pl_form.specs.Parts.{joined}
use Rattle.pl_form.specs.declared.parts.Spot.{Spot}

-- the rest of a list begins with the element that a loop reads
pub rest_is : {X : Type 0} (xs : List X) (i : ℕ) (d : X) → i < length xs → drop i xs ≡ get_or xs i d ∷ drop (i + 1) xs
rest_is xs i d lt = drop-cons xs i d lt ∙ ap (λ (k : ℕ). get_or xs i d ∷ drop k xs) (sym (add-one i))

pub rest_none : {X : Type 0} (xs : List X) (i : ℕ) → length xs ≤ i → drop i xs ≡ []
rest_none xs i le = drop_all i xs le

-- what a loop that puts bytes at places keeps
pub record IsPutting (spots : List Spot) (i : ℕ) (rest bytes whole : List ℕ) : Type 0 where
  pub done : put_all (visible (drop i spots) rest) bytes ≡ whole
  pub room : AllIn (length bytes) (spot_windows (drop i spots))

-- the place that is read lies in the bytes
pub spot_here : (spots : List Spot) (i : ℕ) (d : Spot) (rest bytes whole : List ℕ) → i < length spots → IsPutting spots i rest bytes whole → (get_or spots i d).at + (get_or spots i d).size ≤ length bytes
spot_here spots i d rest bytes whole lt is =
    let room : AllIn (length bytes) (spot_windows (get_or spots i d ∷ drop (i + 1) spots)) = rw (rest_is spots i d lt) at is.room in
    room.0

pub spot_put : (spots : List Spot) (i : ℕ) (d : Spot) (rest bytes whole next new : List ℕ) → i < length spots → IsPutting spots i rest bytes whole
    → new ≡ put (get_or spots i d).at (take (get_or spots i d).size rest) bytes → next ≡ drop (get_or spots i d).hidden (drop (get_or spots i d).size rest) → IsPutting spots (i + 1) next new whole
unfolding put_all
spot_put spots i d rest bytes whole next new lt is written moved =
    let p = get_or spots i d in
    let e = rest_is spots i d lt in
    let room : AllIn (length bytes) (spot_windows (p ∷ drop (i + 1) spots)) = rw e at is.room in
    let same : length new ≡ length bytes = ap length written ∙ length-put p.at (take p.size rest) bytes (omega (arith, room.0, length-take p.size rest)) in
    record {
      done = ap (λ (xs : List ℕ). put_all (visible (drop (i + 1) spots) xs) new) moved ∙ ap (put_all (visible (drop (i + 1) spots) (drop p.hidden (drop p.size rest)))) written
          ∙ sym (ap (λ (ps : List Spot). put_all (visible ps rest) bytes) e) ∙ is.done;
      room = rw same room.1;
    }

pub spots_done : (spots : List Spot) (i : ℕ) (rest bytes whole : List ℕ) → length spots ≤ i → IsPutting spots i rest bytes whole → bytes ≡ whole
unfolding put_all
spots_done spots i rest bytes whole le is = sym (ap (λ (ps : List Spot). put_all (visible ps rest) bytes) (rest_none spots i le)) ∙ is.done

-- ---- memory bytes

pub memory_more : (spots : List Spot) (i : ℕ) (d : Spot) (bytes out new whole : List ℕ) → i < length spots → new ≡ out ++ part (get_or spots i d).at (get_or spots i d).size bytes ++ replicate (get_or spots i d).hidden 0
    → out ++ memory_of (drop i spots) bytes ≡ whole → new ++ memory_of (drop (i + 1) spots) bytes ≡ whole
memory_more spots i d bytes out new whole lt step so_far =
    let p = get_or spots i d in
    let a : List ℕ = part p.at p.size bytes in
    let b : List ℕ = replicate p.hidden 0 in
    let rest : List ℕ = memory_of (drop (i + 1) spots) bytes in
    ap (λ (u : List ℕ). u ++ rest) step ∙ append_assoc (out ++ a) b rest ∙ append_assoc out a (b ++ rest)
    ∙ sym (ap (λ (ps : List Spot). out ++ memory_of ps bytes) (rest_is spots i d lt)) ∙ so_far

pub memory_done : (spots : List Spot) (i : ℕ) (bytes out whole : List ℕ) → length spots ≤ i → out ++ memory_of (drop i spots) bytes ≡ whole → out ≡ whole
memory_done spots i bytes out whole le so_far = sym (append-nil out) ∙ sym (ap (λ (ps : List Spot). out ++ memory_of ps bytes) (rest_none spots i le)) ∙ so_far

-- ---- parts

pub parts_more : (parts : List (List ℕ)) (i : ℕ) (x : List ℕ) (file new whole : List ℕ) → i < length parts → x ≡ get_or parts i x → new ≡ file ⊕ x → joined file (drop i parts) ≡ whole → joined new (drop (i + 1) parts) ≡ whole
unfolding joined
parts_more parts i x file new whole lt is step so_far =
    let e : drop i parts ≡ x ∷ drop (i + 1) parts = rest_is parts i x lt ∙ ap (λ (y : List ℕ). y ∷ drop (i + 1) parts) (sym is) in
    ap (λ (u : List ℕ). joined u (drop (i + 1) parts)) step ∙ sym (ap (joined file) e) ∙ so_far

pub parts_done : (parts : List (List ℕ)) (i : ℕ) (file whole : List ℕ) → length parts ≤ i → joined file (drop i parts) ≡ whole → file ≡ whole
unfolding joined
parts_done parts i file whole le so_far = sym (ap (joined file) (rest_none parts i le)) ∙ so_far
