-- A loop over the rows of a scope, object by object.
use Rattle.std.proofs.Common.{◌≡◌, ℕ, ◌+◌, ◌<◌, ◌≤◌, List, [], ◌∷◌, ◌++◌, length, map, drop, get_or, Some, Result, Ok, Err, sym, ap, ◌∙◌, arith}
use Rattle.std.proofs.lemmas.List.{append-nil, at_drop_more, at_drop_all, get_or-map, length-map}
use Rattle.std.specs.Prelude.{MatchBool, ⊤, slice_get}
use Rattle.std.proofs.lemmas.Option.{slice_get_within, get_or_from_slice_get}
use Rattle.pl_base.specs.Answers.{because}
use Rattle.pl_base.specs.Each.{each, with_front}
use Rattle.pl_base.proofs.EachLaws.{each_more, each_stops, each_done, front_more, front_stops}
use Rattle.pl_object.specs.declared.object.Object.{Object}
use Rattle.pl_object.specs.declared.reloc.Reloc.{Reloc}
use Rattle.pl_value.specs.Meanings.{Row, row, rows_from, is_memory}
use Rattle.pl_value.specs.declared.fault.LinkFault.{LinkFault}
use Rattle.pl_value.specs.declared.fault.OrdinaryFault.{OrdinaryFault}
use Rattle.pl_value.specs.declared.fault.OrdinaryFault.TheVariants.{Link, NoMemory}
use Rattle.pl_value.specs.declared.meaning.Meaning.{Meaning}

-- a link refusal of an image is that of its meanings
pub linked_err : {X : Type 0} (r : Result X LinkFault) (fault : LinkFault) → ◌≡◌ {A = Result X OrdinaryFault} (because Link r) (Err (Link fault)) → r ≡ Err fault
linked_err (Ok x) fault e = absurd cc
linked_err (Err k) fault e = let same : k ≡ fault = cc in ap (λ f. Err f) same

-- the first of two lists is refused, or there was no memory for it
front_stops_or : {A B : Type 0} (f : A → Result B LinkFault) (xs ys : List A) (front : List B) (e : OrdinaryFault) (whole : Result (List B) LinkFault) → MatchBool (is_memory e) ⊤ (because Link (with_front front (each f xs)) ≡ Err e)
    → with_front front (each f (xs ++ ys)) ≡ whole → MatchBool (is_memory e) ⊤ (because Link whole ≡ Err e)
front_stops_or f xs ys front NoMemory whole stop so_far = tt
front_stops_or f xs ys front (Link fault) whole stop so_far =
    ap (because Link) (sym so_far ∙ front_stops f xs ys front fault (linked_err (with_front front (each f xs)) fault stop))

-- ---- the relocations of a member

-- one more
pub reloc_more : (f : Row → Result Meaning LinkFault) (member : ℕ) (rs : List Reloc) (i : ℕ) (d : Reloc) (front new : List Meaning) (y : Meaning) (whole : Result (List Meaning) LinkFault) → i < length rs → Ok y ≡ f (row member (get_or rs i d)) → new ≡ front ++ y ∷ []
    → with_front front (each f (drop i (map (row member) rs))) ≡ whole → with_front new (each f (drop (i + 1) (map (row member) rs))) ≡ whole
reloc_more f member rs i d front new y whole lt h is so_far =
    rw is (each_more f (map (row member) rs) i (row member d) front y whole (omega (arith, lt, length-map rs (row member))) (ap f (get_or-map (row member) rs i d (row member d) lt) ∙ sym h) so_far)

-- one that has no value
pub reloc_stops : (f : Row → Result Meaning LinkFault) (member : ℕ) (rs : List Reloc) (i : ℕ) (d : Reloc) (front : List Meaning) (e : LinkFault) (whole : Result (List Meaning) LinkFault) → i < length rs → Err e ≡ f (row member (get_or rs i d))
    → with_front front (each f (drop i (map (row member) rs))) ≡ whole → whole ≡ Err e
reloc_stops f member rs i d front e whole lt h so_far =
    each_stops f (map (row member) rs) i (row member d) front e whole (omega (arith, lt, length-map rs (row member))) (ap f (get_or-map (row member) rs i d (row member d) lt) ∙ sym h) so_far

-- none is left
pub relocs_done : (f : Row → Result Meaning LinkFault) (member : ℕ) (rs : List Reloc) (i : ℕ) (front : List Meaning) (whole : Result (List Meaning) LinkFault) → length rs ≤ i → with_front front (each f (drop i (map (row member) rs))) ≡ whole → whole ≡ Ok front
relocs_done f member rs i front whole le so_far = each_done f (map (row member) rs) i front whole (omega (arith, le, length-map rs (row member))) so_far

-- ---- the rows from a member on

pub rows_more : (os : List Object) (i : ℕ) (o : Object) → slice_get os i ≡ Some o → rows_from i (drop i os) ≡ map (row i) o.relocations ++ rows_from (i + 1) (drop (i + 1) os)
unfolding rows_from
rows_more os i o e =
    at_drop_more (rows_from i) os i o (slice_get_within os i o e)
    ∙ ap (λ (p : Object). map (row i) p.relocations ++ rows_from (i + 1) (drop (i + 1) os)) (get_or_from_slice_get os i o o e)

pub rows_done : (os : List Object) (i : ℕ) → length os ≤ i → rows_from i (drop i os) ≡ []
unfolding rows_from
rows_done os i le = at_drop_all (rows_from i) os i le

-- one member more
pub member_more : (f : Row → Result Meaning LinkFault) (os : List Object) (i : ℕ) (o : Object) (front new : List Meaning) (whole : Result (List Meaning) LinkFault) → slice_get os i ≡ Some o
    → with_front front (each f (map (row i) o.relocations)) ≡ Ok new → with_front front (each f (rows_from i (drop i os))) ≡ whole → with_front new (each f (rows_from (i + 1) (drop (i + 1) os))) ≡ whole
member_more f os i o front new whole e ok so_far =
    sym (front_more f (map (row i) o.relocations) (rows_from (i + 1) (drop (i + 1) os)) front new ok) ∙ (rw (rows_more os i o e) at so_far)

-- one that is refused, or a want of memory
pub member_stops : (f : Row → Result Meaning LinkFault) (os : List Object) (i : ℕ) (o : Object) (front : List Meaning) (e : OrdinaryFault) (whole : Result (List Meaning) LinkFault) → slice_get os i ≡ Some o
    → MatchBool (is_memory e) ⊤ (because Link (with_front front (each f (map (row i) o.relocations))) ≡ Err e) → with_front front (each f (rows_from i (drop i os))) ≡ whole → MatchBool (is_memory e) ⊤ (because Link whole ≡ Err e)
member_stops f os i o front e whole at stop so_far =
    front_stops_or f (map (row i) o.relocations) (rows_from (i + 1) (drop (i + 1) os)) front e whole stop (rw (rows_more os i o at) at so_far)

-- none is left
pub members_done : (f : Row → Result Meaning LinkFault) (os : List Object) (i : ℕ) (front : List Meaning) (whole : Result (List Meaning) LinkFault) → length os ≤ i → with_front front (each f (rows_from i (drop i os))) ≡ whole → whole ≡ Ok front
unfolding each
members_done f os i front whole le so_far = sym (rw (rows_done os i le) at so_far) ∙ ap (λ (gs : List Meaning). Ok gs) (append-nil front)
