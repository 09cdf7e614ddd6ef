-- Answers that are kept stay the definition's.
use Rattle.std.proofs.Common.{◌≡◌, ◌≢◌, ℕ, zero, suc, ◌+◌, ◌<◌, Bool, true, false, cond, List, [], ◌∷◌, length, map, set, replicate, Option, Some, None, refl, sym, ap, ◌∙◌, subst, arith, inl, inr}
use Rattle.std.specs.Prelude.{slice_get, not, ◌==◌, ◌⊎◌, IsSome}
use Rattle.std.specs.Option.{option_map, option_and_then}
use Rattle.std.proofs.lemmas.Bool.{cases_Bool, false≢true, eqb-true, eqb-false, not-true, and_parts}
use Rattle.std.proofs.Common.{Vec, Global, get_or, take, ◌++◌, add-one}
use Rattle.std.specs.Vec.{vec_len, with_item}
use Rattle.std.proofs.lemmas.List.{length-replicate, get_or-replicate, map-set, map_push, length-map}
use Rattle.std.proofs.lemmas.Option.{slice_get-map, slice_get_within, slice_get_read}
use Rattle.pl_elf.specs.declared.constants.TheConstants.{R_X86_64_COPY, R_X86_64_JUMP_SLOT}
use Rattle.pl_object.specs.declared.object.Object.{Object}
use Rattle.pl_scope.specs.Finds.{finds}
use Rattle.pl_scope.specs.Kept.{unasked, class_of, has_kind, answer_for, answer_of, place, AreRight, IsKept, unasked_row}
use Rattle.pl_scope.specs.Scope.{IsSymbol}
use Rattle.pl_scope.specs.declared.answers.Answer.{Answer}
use Rattle.pl_scope.specs.declared.answers.AskedBy.TheVariants.{Jump, Copy, Other}
use Rattle.pl_scope.specs.declared.found.Found.{Found}
use Rattle.pl_scope.specs.declared.reference.Reference.{Reference}
use Rattle.pl_scope.proofs.FoundLaws.{same_class}

-- ---- one answer more

abbrev reference : ℕ → ℕ → ℕ → Reference
reference m s kind = record { member = m; symbol = s; kind = kind }

-- kinds of one class find the same
of_class : (os : List Object) (m s k l : ℕ) (jump copy : Bool) → (k == R_X86_64_JUMP_SLOT) ≡ jump → (k == R_X86_64_COPY) ≡ copy → has_kind (cond jump Jump (cond copy Copy Other)) l ≡ true
    → finds os (reference m s k) ≡ finds os (reference m s l)
unfolding has_kind
of_class os m s k l true copy is_jump is_copy has = ap (λ (i : ℕ). finds os (reference m s i)) (eqb-true k R_X86_64_JUMP_SLOT is_jump ∙ sym (eqb-true l R_X86_64_JUMP_SLOT has))
of_class os m s k l false true is_jump is_copy has = ap (λ (i : ℕ). finds os (reference m s i)) (eqb-true k R_X86_64_COPY is_copy ∙ sym (eqb-true l R_X86_64_COPY has))
of_class os m s k l false false is_jump is_copy has =
    let other = and_parts (not (l == R_X86_64_JUMP_SLOT)) (not (l == R_X86_64_COPY)) has in
    same_class os m s k l (is_jump ∙ sym (not-true (l == R_X86_64_JUMP_SLOT) other.0)) (is_copy ∙ sym (not-true (l == R_X86_64_COPY) other.1))

kept_for : (has : Bool) (found wanted f : Option Found) → (has ≡ true → found ≡ wanted) → cond has (Some found) None ≡ Some f → f ≡ wanted
kept_for true found wanted f is e = let same : found ≡ f = cc in sym same ∙ is refl
kept_for false found wanted f is e = absurd (cc)

kept_right : (os : List Object) (m s k : ℕ) (found : Option Found) → found ≡ finds os (reference m s k) → AreRight os m s (answer_for k found)
unfolding class_of answer_of
kept_right os m s k None is l f e =
    kept_for (has_kind (class_of k) l) None (finds os (reference m s l)) f (λ has. is ∙ of_class os m s k l (k == R_X86_64_JUMP_SLOT) (k == R_X86_64_COPY) refl refl has) e
kept_right os m s k (Some found) is l f e =
    kept_for (has_kind (class_of k) l) (Some found) (finds os (reference m s l)) f (λ has. is ∙ of_class os m s k l (k == R_X86_64_JUMP_SLOT) (k == R_X86_64_COPY) refl refl has) e

-- ---- its place

get_set_same : {X : Type 0} (xs : List X) (i : ℕ) (y : X) → i < length xs → slice_get (set xs i y) i ≡ Some y
get_set_same [] i y lt = absurd (omega (arith, lt))
get_set_same (x ∷ xs) zero y lt = refl
get_set_same (x ∷ xs) (suc i) y lt = get_set_same xs i y (omega (arith, lt))

get_set_other : {X : Type 0} (xs : List X) (i j : ℕ) (y : X) → j ≢ i → slice_get (set xs i y) j ≡ slice_get xs j
get_set_other [] i j y ne = refl
get_set_other (x ∷ xs) zero zero y ne = absurd (ne refl)
get_set_other (x ∷ xs) zero (suc j) y ne = refl
get_set_other (x ∷ xs) (suc i) zero y ne = refl
get_set_other (x ∷ xs) (suc i) (suc j) y ne = get_set_other xs i j y (λ e. ne (ap (λ (n : ℕ). suc n) e))

-- a row of a member, and the answers for one of its symbols
pub record IsWritten (rows : List (List Answer)) (m s : ℕ) (row : List Answer) (a : Answer) : Type 0 where
  pub row_at : slice_get rows m ≡ Some row
  pub answers_at : slice_get row s ≡ Some a

-- there is a place for each symbol
pub record IsThere (rows : List (List Answer)) (m s : ℕ) : Type 0 where
  pub row : List Answer
  pub answers : Answer
  pub is : IsWritten rows m s row answers

there_by : (rows : List (List Answer)) (m s : ℕ) (x : Option (List Answer)) → slice_get rows m ≡ x → IsSome (option_and_then (λ row. slice_get row s) x) → IsThere rows m s
there_by rows m s None e some = absurd (false≢true some)
there_by rows m s (Some row) e some = answers_by rows m s row (slice_get row s) e refl some
  where
    answers_by : (all : List (List Answer)) (n t : ℕ) (r : List Answer) (x : Option Answer) → slice_get all n ≡ Some r → slice_get r t ≡ x → IsSome x → IsThere all n t
    answers_by all n t r None at e some = absurd (false≢true some)
    answers_by all n t r (Some a) at e some = record { row = r; answers = a; is = record { row_at = at; answers_at = e } }

object_there : (os : List Object) (m : ℕ) → m < length os → (o : Object) × (slice_get os m ≡ Some o)
object_there [] m lt = absurd (omega (arith, lt))
object_there (o ∷ os) zero lt = (o, refl)
object_there (o ∷ os) (suc m) lt = object_there os m (omega (arith, lt))

pub place_there : (os : List Object) (rows : List (List Answer)) (m s : ℕ) → IsKept os rows → IsSymbol os m s → IsThere rows m s
place_there os rows m s kept is =
    let o = object_there os m is.member in
    there_by rows m s (slice_get rows m) refl (kept.there m s o.0 o.1 (is.symbol o.0 o.1))

pub row_within : (os : List Object) (rows : List (List Answer)) (m s : ℕ) → IsKept os rows → IsSymbol os m s → m < length rows
row_within os rows m s kept is = let t = place_there os rows m s kept is in slice_get_within rows m t.row t.is.row_at

-- the row of the member has a place for the symbol
pub place_within : (os : List Object) (rows : List (List Answer)) (m s : ℕ) (row : List Answer) → IsKept os rows → IsSymbol os m s → slice_get rows m ≡ Some row → s < length row
place_within os rows m s row kept is e =
    let t = place_there os rows m s kept is in
    let at = t.is.row_at in
    let same : t.row ≡ row = cc in
    subst (λ (r : List Answer). s < length r) same (slice_get_within t.row s t.answers t.is.answers_at)

pub place_in : (rows : List (List Answer)) (m s : ℕ) (row : List Answer) → slice_get rows m ≡ Some row → place rows m s ≡ slice_get row s
place_in rows m s row e = ap (option_and_then (λ (r : List Answer). slice_get r s)) e

place_elsewhere : (rows : List (List Answer)) (m n s : ℕ) (row : List Answer) → n ≢ m → place (set rows m row) n s ≡ place rows n s
place_elsewhere rows m n s row ne = ap (option_and_then (λ (r : List Answer). slice_get r s)) (get_set_other rows m n row ne)

-- where a place is, or what it was before
placed : (rows : List (List Answer)) (m s : ℕ) (row : List Answer) (a b : Answer) → IsWritten rows m s row a → (n t : ℕ)
    → (place (set rows m (set row s b)) n t ≡ place rows n t) ⊎ ((n ≡ m) × (t ≡ s) × (place (set rows m (set row s b)) n t ≡ Some b))
placed rows m s row a b is n t =
    let new = set row s b in
    elim (cases_Bool (n == m)) [
      | inr other ↦ inl (place_elsewhere rows m n t new (eqb-false n m other))
      | inl same ↦
          let at : n ≡ m = eqb-true n m same in
          let here : place (set rows m new) n t ≡ slice_get new t =
          rw at (place_in (set rows m new) m t new (get_set_same rows m new (slice_get_within rows m row is.row_at))) in
          elim (cases_Bool (t == s)) [
            | inr apart ↦ inl (here ∙ get_set_other row s t b (eqb-false t s apart) ∙ sym (rw at (place_in rows m t row is.row_at)))
            | inl there ↦
                let index : t ≡ s = eqb-true t s there in
                inr (at, index, here ∙ rw index (get_set_same row s b (slice_get_within row s a is.answers_at)))
          ]
    ]

pub write_kept : (os : List Object) (rows : List (List Answer)) (m s k : ℕ) (row : List Answer) (a : Answer) (found : Option Found) → IsKept os rows → IsWritten rows m s row a → found ≡ finds os (reference m s k)
    → IsKept os (set rows m (set row s (answer_for k found)))
write_kept os rows m s k row a found kept is e =
    let b = answer_for k found in
    record {
      there = λ n t o at lt.
          let some : IsSome (place rows n t) = kept.there n t o at lt in
          elim (placed rows m s row a b is n t) [
            | inl same ↦ rw same some
            | inr new ↦ rw new.2 refl
          ];
      right = λ n t c at.
          elim (placed rows m s row a b is n t) [
            | inl same ↦ kept.right n t c (sym same ∙ at)
            | inr new ↦
                let value = new.2 in
                let is_b : b ≡ c = cc in
                rw (new.0, new.1) (subst (AreRight os m s) is_b (kept_right os m s k found e))
          ];
    }

-- ---- nothing was asked yet

unasked_none : (kind : ℕ) → answer_of unasked kind ≡ None
unfolding answer_of
unasked_none kind = refl

row_of : (os : List Object) (m : ℕ) (o : Object) → slice_get os m ≡ Some o → slice_get (map unasked_row os) m ≡ Some (unasked_row o)
row_of os m o e = slice_get-map unasked_row os m ∙ ap (option_map unasked_row) e

replicate_at : (n i : ℕ) → i < n → slice_get (replicate n unasked) i ≡ Some unasked
replicate_at n i lt = slice_get_read (replicate n unasked) n i unasked (sym (length-replicate n unasked)) lt (sym (get_or-replicate n i unasked unasked lt))

unasked_place : (os : List Object) (m s : ℕ) (a : Answer) (x : Option Object) → slice_get os m ≡ x → place (map unasked_row os) m s ≡ Some a → a ≡ unasked
unasked_place os m s a None at e =
    let none : place (map unasked_row os) m s ≡ None = ap (option_and_then (λ (r : List Answer). slice_get r s)) (slice_get-map unasked_row os m ∙ ap (option_map unasked_row) at) in
    absurd (cc)
unasked_place os m s a (Some o) at e =
    let row = unasked_row o in
    let here : slice_get row s ≡ Some a = sym (place_in (map unasked_row os) m s row (row_of os m o at)) ∙ e in
    let lt : s < length o.symbols = omega (arith, slice_get_within row s a here, length-replicate (length o.symbols) unasked) in
    let value = replicate_at (length o.symbols) s lt in
    cc

pub unasked_kept : (os : List Object) (rows : List (List Answer)) → rows ≡ map unasked_row os → IsKept os rows
unasked_kept os rows is = rw is (record {
  there = λ m s o at lt. rw (place_in (map unasked_row os) m s (unasked_row o) (row_of os m o at), replicate_at (length o.symbols) s lt) refl;
  right = λ m s a at kind f e.
      let none = unasked_none kind in
      let same : a ≡ unasked = unasked_place os m s a (slice_get os m) refl at in
      let nothing : answer_of unasked kind ≡ Some f = rw same at e in
      absurd (cc);
})

-- ---- rows as vectors hold them

abbrev pub items_of : Vec Answer Global → List Answer
items_of row = row.items

-- the row of an index
pub vec_at : (rows : List (Vec Answer Global)) (m : ℕ) (row : Vec Answer Global) → m < length rows → row ≡ get_or rows m row → slice_get (map items_of rows) m ≡ Some row.items
vec_at rows m row lt is = slice_get-map items_of rows m ∙ ap (option_map items_of) (slice_get_read rows (length rows) m row refl lt is)

take_next : (os : List Object) (m : ℕ) (o : Object) → slice_get os m ≡ Some o → take (suc m) os ≡ take m os ++ o ∷ []
take_next [] m o e = absurd (cc)
take_next (x ∷ os) zero o e = let same : x ≡ o = cc in ap (λ (y : Object). y ∷ []) same
take_next (x ∷ os) (suc m) o e = ap (λ (ys : List Object). x ∷ ys) (take_next os m o e)

-- a row more, for an object more
pub more_rows : (os : List Object) (rows more : List (Vec Answer Global)) (row : Vec Answer Global) (m : ℕ) (o : Object) → more ≡ rows ++ row ∷ [] → row.items ≡ unasked_row o → slice_get os m ≡ Some o
    → map items_of rows ≡ map unasked_row (take m os) → map items_of more ≡ map unasked_row (take (m + 1) os)
more_rows os rows more row m o is row_is at so_far =
    let next : take (m + 1) os ≡ take m os ++ o ∷ [] = rw add-one (take_next os m o at) in
    ap (map items_of) is ∙ map_push items_of rows row
    ∙ ap (λ (all : List (List Answer)). all ++ row.items ∷ []) so_far
    ∙ ap (λ (last : List Answer). map unasked_row (take m os) ++ last ∷ []) row_is
    ∙ sym (ap (map unasked_row) next ∙ map_push unasked_row (take m os) o)

-- a place of a row is written
pub vec_written : (rows : List (Vec Answer Global)) (m s : ℕ) (row : Vec Answer Global) (a b : Answer) → row ≡ get_or rows m row → a ≡ b
    → map items_of (set rows m (with_item (get_or rows m row) s a)) ≡ set (map items_of rows) m (set row.items s b)
vec_written rows m s row a b is e =
    map-set items_of rows m (with_item (get_or rows m row) s a)
    ∙ ap (λ (r : Vec Answer Global). set (map items_of rows) m (set r.items s a)) (sym is)
    ∙ ap (λ (x : Answer). set (map items_of rows) m (set row.items s x)) e

-- an answer that is kept, of a scope that is seen as these members
pub kept_is : (os : List Object) (rows : List (Vec Answer Global)) (r : Reference) (row : Vec Answer Global) (a : Answer) (found : Option Found) → IsKept os (map items_of rows) → IsSymbol os r.member r.symbol
    → row ≡ get_or rows r.member row → a ≡ get_or row.items r.symbol a → answer_of a r.kind ≡ Some found → found ≡ finds os r
kept_is os rows r row a found kept is row_is answers_are e =
    let lt : r.member < length rows = omega (arith, length-map rows items_of, row_within os (map items_of rows) r.member r.symbol kept is) in
    let row_at = vec_at rows r.member row lt row_is in
    let within = place_within os (map items_of rows) r.member r.symbol row.items kept is row_at in
    let answers_at = slice_get_read row.items (length row.items) r.symbol a refl within answers_are in
    kept.right r.member r.symbol a (place_in (map items_of rows) r.member r.symbol row.items row_at ∙ answers_at) r.kind found e

pub row_below : (os : List Object) (rows : Vec (Vec Answer Global) Global) (r : Reference) → IsKept os (map items_of rows.items) → IsSymbol os r.member r.symbol → r.member < vec_len rows
row_below os rows r kept is = omega (arith, length-map rows.items items_of, row_within os (map items_of rows.items) r.member r.symbol kept is, rows.ok.0)

pub place_below : (os : List Object) (rows : List (Vec Answer Global)) (r : Reference) (row : Vec Answer Global) → IsKept os (map items_of rows) → IsSymbol os r.member r.symbol → row ≡ get_or rows r.member row → r.symbol < vec_len row
place_below os rows r row kept is row_is =
    let lt : r.member < length rows = omega (arith, length-map rows items_of, row_within os (map items_of rows) r.member r.symbol kept is) in
    omega (arith, place_within os (map items_of rows) r.member r.symbol row.items kept is (vec_at rows r.member row lt row_is), row.ok.0)
