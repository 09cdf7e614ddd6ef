-- Whether all rows have values, row by row and member by member.
use Rattle.std.proofs.Common.{◌≡◌, ℕ, ◌+◌, ◌<◌, ◌≤◌, List, [], ◌∷◌, ◌++◌, length, map, drop, get_or, Some, Result, Ok, Err, refl, sym, ap, ◌∙◌, arith}
use Rattle.std.specs.Prelude.{slice_get}
use Rattle.std.proofs.lemmas.List.{at_drop_more, at_drop_all, get_or-map, length-map}
use Rattle.pl_base.specs.Each.{each, with_front}
use Rattle.pl_base.proofs.EachLaws.{front_nothing, front_more, front_stops}
use Rattle.pl_cone.proofs.StepLaws.{step_past}
use Rattle.pl_object.specs.declared.object.Object.{Object}
use Rattle.pl_object.specs.declared.reloc.Reloc.{Reloc}
use Rattle.pl_value.specs.Meanings.{Row, row, rows_from}
use Rattle.pl_value.specs.declared.fault.LinkFault.{LinkFault}
use Rattle.pl_value.specs.declared.meaning.Meaning.{Meaning}
use Rattle.pl_cone.specs.Links.{done}
use Rattle.pl_value.proofs.CollectingLaws.{rows_more, rows_done}

-- that all rows have values, or the first refusal
abbrev pub each_has : (Row → Result Meaning LinkFault) → List Row → Result (Unit {0}) LinkFault
each_has f xs = done (each f xs)

-- ---- the relocations of a member

pub row_past : (f : Row → Result Meaning LinkFault) (member : ℕ) (rs : List Reloc) (i : ℕ) (d : Reloc) (g : Meaning) (whole : Result (Unit {0}) LinkFault) → i < length rs → f (row member (get_or rs i d)) ≡ Ok g
    → each_has f (drop i (map (row member) rs)) ≡ whole → each_has f (drop (i + 1) (map (row member) rs)) ≡ whole
row_past f member rs i d g whole lt h so_far =
    step_past f (map (row member) rs) i (row member d) g (λ gs. Ok tt) whole (omega (arith, lt, length-map rs (row member))) (ap f (get_or-map (row member) rs i d (row member d) lt) ∙ h) (λ ys. refl) so_far

-- one that was looked up
pub link_ok : (r : Result Meaning LinkFault) → done r ≡ Ok tt → (g : Meaning) × (r ≡ Ok g)
link_ok (Ok g) e = (g, refl)
link_ok (Err fault) e = absurd cc

link_err : (r : Result Meaning LinkFault) (fault : LinkFault) → ◌≡◌ {A = Result (Unit {0}) LinkFault} (done r) (Err fault) → r ≡ Err fault
link_err (Ok g) fault e = absurd cc
link_err (Err k) fault e = let same : k ≡ fault = cc in ap (λ x. Err x) same

pub row_linked : (f : Row → Result Meaning LinkFault) (member : ℕ) (rs : List Reloc) (i : ℕ) (d : Reloc) (whole : Result (Unit {0}) LinkFault) → i < length rs → done (f (row member (get_or rs i d))) ≡ Ok tt
    → each_has f (drop i (map (row member) rs)) ≡ whole → each_has f (drop (i + 1) (map (row member) rs)) ≡ whole
row_linked f member rs i d whole lt h so_far =
    let p = link_ok (f (row member (get_or rs i d))) h in
    row_past f member rs i d p.0 whole lt p.1 so_far

stops_by : (f : Row → Result Meaning LinkFault) (x : Row) (xs : List Row) (fault : LinkFault) → f x ≡ Err fault → each_has f (x ∷ xs) ≡ Err fault
unfolding each
stops_by f x xs fault h = rw h refl

pub row_stops : (f : Row → Result Meaning LinkFault) (member : ℕ) (rs : List Reloc) (i : ℕ) (d : Reloc) (fault : LinkFault) (whole : Result (Unit {0}) LinkFault) → i < length rs
    → ◌≡◌ {A = Result (Unit {0}) LinkFault} (done (f (row member (get_or rs i d)))) (Err fault) → each_has f (drop i (map (row member) rs)) ≡ whole → whole ≡ Err fault
row_stops f member rs i d fault whole lt h so_far =
    let xs = map (row member) rs in
    let at : get_or xs i (row member d) ≡ row member (get_or rs i d) = get_or-map (row member) rs i d (row member d) lt in
    sym so_far
    ∙ (at_drop_more (each_has f) xs i (row member d) (omega (arith, lt, length-map rs (row member)))
    ∙ stops_by f (get_or xs i (row member d)) (drop (i + 1) xs) fault (ap f at ∙ link_err (f (row member (get_or rs i d))) fault h))

pub all_rows : (f : Row → Result Meaning LinkFault) (member : ℕ) (rs : List Reloc) (i : ℕ) (whole : Result (Unit {0}) LinkFault) → length rs ≤ i → each_has f (drop i (map (row member) rs)) ≡ whole → whole ≡ Ok tt
unfolding each
all_rows f member rs i whole le so_far = sym so_far ∙ at_drop_all (each_has f) (map (row member) rs) i (omega (arith, le, length-map rs (row member)))

-- ---- one member after the other

each_ok : (r : Result (List Meaning) LinkFault) → done r ≡ Ok tt → (gs : List Meaning) × (r ≡ Ok gs)
each_ok (Ok gs) e = (gs, refl)
each_ok (Err fault) e = absurd cc

each_err : (r : Result (List Meaning) LinkFault) (fault : LinkFault) → ◌≡◌ {A = Result (Unit {0}) LinkFault} (done r) (Err fault) → r ≡ Err fault
each_err (Ok gs) fault e = absurd cc
each_err (Err k) fault e = let same : k ≡ fault = cc in ap (λ x. Err x) same

front_same : (front : List Meaning) (r : Result (List Meaning) LinkFault) → done (with_front front r) ≡ done r
front_same front (Ok gs) = refl
front_same front (Err fault) = refl

pub have_more : (f : Row → Result Meaning LinkFault) (xs ys : List Row) → each_has f xs ≡ Ok tt → each_has f (xs ++ ys) ≡ each_has f ys
have_more f xs ys h =
    let p = each_ok (each f xs) h in
    let whole : each f (xs ++ ys) ≡ with_front p.0 (each f ys) =
    sym (front_nothing (each f (xs ++ ys))) ∙ front_more f xs ys [] p.0 (front_nothing (each f xs) ∙ p.1) in
    ap (λ (r : Result (List Meaning) LinkFault). done r) whole ∙ front_same p.0 (each f ys)

pub have_stops : (f : Row → Result Meaning LinkFault) (xs ys : List Row) (fault : LinkFault) → ◌≡◌ {A = Result (Unit {0}) LinkFault} (each_has f xs) (Err fault) → each_has f (xs ++ ys) ≡ Err fault
have_stops f xs ys fault h =
    let stop : each f (xs ++ ys) ≡ Err fault = sym (front_nothing (each f (xs ++ ys))) ∙ front_stops f xs ys [] fault (front_nothing (each f xs) ∙ each_err (each f xs) fault h) in
    ap (λ (r : Result (List Meaning) LinkFault). done r) stop

pub member_past : (f : Row → Result Meaning LinkFault) (os : List Object) (i : ℕ) (o : Object) (whole : Result (Unit {0}) LinkFault) → slice_get os i ≡ Some o → each_has f (map (row i) o.relocations) ≡ Ok tt
    → each_has f (rows_from i (drop i os)) ≡ whole → each_has f (rows_from (i + 1) (drop (i + 1) os)) ≡ whole
member_past f os i o whole at h so_far =
    sym (ap (each_has f) (rows_more os i o at) ∙ have_more f (map (row i) o.relocations) (rows_from (i + 1) (drop (i + 1) os)) h) ∙ so_far

pub member_stops : (f : Row → Result Meaning LinkFault) (os : List Object) (i : ℕ) (o : Object) (fault : LinkFault) (whole : Result (Unit {0}) LinkFault) → slice_get os i ≡ Some o
    → ◌≡◌ {A = Result (Unit {0}) LinkFault} (each_has f (map (row i) o.relocations)) (Err fault) → each_has f (rows_from i (drop i os)) ≡ whole → whole ≡ Err fault
member_stops f os i o fault whole at h so_far =
    sym so_far ∙ (ap (each_has f) (rows_more os i o at) ∙ have_stops f (map (row i) o.relocations) (rows_from (i + 1) (drop (i + 1) os)) fault h)

pub all_members : (f : Row → Result Meaning LinkFault) (os : List Object) (i : ℕ) (whole : Result (Unit {0}) LinkFault) → length os ≤ i → each_has f (rows_from i (drop i os)) ≡ whole → whole ≡ Ok tt
unfolding each
all_members f os i whole le so_far = sym so_far ∙ ap (each_has f) (rows_done os i le)
