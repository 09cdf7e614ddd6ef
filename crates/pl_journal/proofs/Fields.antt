-- A field of a journal that is read is the field that was written, and what was written is read again.
use Rattle.std.proofs.Common.{◌≡◌, ℕ, zero, suc, ◌^◌, ◌<◌, ◌≤◌, Bool, true, false, cond, ltb, List, [], ◌∷◌, ◌++◌, length, take, drop, Result, Ok, Err, refl, sym, ap, subst, ◌∙◌, append_assoc, arith}
use Rattle.std.specs.Prelude.{if◌then◌else◌, ◌==◌}
use Rattle.std.proofs.lemmas.Bool.{ltb-false, le-ltb, eqb-true}
use Rattle.std.proofs.lemmas.List.{take_at, drop_at, take-append-drop, length-append, length-take}
use Rattle.std.specs.List.{flat_map}
use Rattle.std.proofs.lemmas.List.Concat.{flat_map-cons}
use Rattle.pl_base.specs.Answers.{◌>>=◌}
use Rattle.pl_base.specs.Bytes.{IsBytes, word32, bytes32}
use Rattle.pl_base.proofs.AnswerLaws.{bind_ok, ok_same}
use Rattle.pl_base.proofs.WordLaws.{is_bytes_drop, bytes32_word, length_bytes32, word32_back}
use Rattle.pl_journal.specs.declared.constants.TheConstants.{DROP, PUT}
use Rattle.pl_journal.specs.declared.row.Row.{Row}
use Rattle.pl_journal.specs.declared.row.Row.TheVariants.{Put, Drop}
use Rattle.pl_journal.specs.declared.fault.JournalFault.{JournalFault}
use Rattle.pl_journal.specs.declared.fault.JournalFault.TheVariants.{BadJournal}
use Rattle.pl_journal.specs.Names.{is_row_name}
use Rattle.pl_journal.specs.Spelling.{kind_of, name_of, row_bytes}
use Rattle.pl_journal.specs.Reading.{number32_at, name_of_size, name_at, row_of_kind, row_at, rows_at}

-- a test that did not fail
pub guard_ok : {A : Type 0} (b : Bool) (d : JournalFault) (x y : A) → cond b (Err d) (Ok x) ≡ Ok y → (b ≡ false) × (x ≡ y)
guard_ok true d x y e = absurd cc
guard_ok false d x y e = (refl, cc)

-- and one that passed
pub passed : {A : Type 0} (b : Bool) (d : JournalFault) (x y : A) → cond b (Ok x) (Err d) ≡ Ok y → (b ≡ true) × (x ≡ y)
passed true d x y e = (refl, cc)
passed false d x y e = absurd cc

-- a test in front of another step
pub guard_then : {A : Type 0} (b : Bool) (d : JournalFault) (r : Result A JournalFault) (y : A) → cond b (Err d) r ≡ Ok y → (b ≡ false) × (r ≡ Ok y)
guard_then true d r y e = absurd cc
guard_then false d r y e = (refl, e)

-- what a reader took from the front
pub record Takes (bytes text rest : List ℕ) : Type 0 where
  pub parts : bytes ≡ text ++ rest
  pub rest_fits : IsBytes rest

pub Takes-then : (a x b y c : List ℕ) → Takes a x b → Takes b y c → Takes a (x ++ y) c
Takes-then a x b y c p q = record { parts = p.parts ∙ ap (λ (t : List ℕ). x ++ t) q.parts ∙ sym (append_assoc x y c); rest_fits = q.rest_fits }

-- ---- numbers

pub number32_takes : (bytes : List ℕ) (x : ℕ × List ℕ) → IsBytes bytes → number32_at bytes ≡ Ok x → Takes bytes (bytes32 x.0) x.1
unfolding number32_at
number32_takes bytes x fits e =
    let g = guard_ok (ltb (length bytes) 4) BadJournal (word32 0 bytes, drop 4 bytes) x e in
    let long : 4 ≤ length bytes = ltb-false _ _ g.0 in
    let front : bytes32 (word32 0 bytes) ≡ take 4 bytes = bytes32_word 0 bytes (omega (arith, long)) fits in
    subst (λ (y : ℕ × List ℕ). Takes bytes (bytes32 y.0) y.1) g.1 (record { parts = rw front (sym (take-append-drop 4 bytes)); rest_fits = is_bytes_drop 4 bytes fits })

pub number32_again : (n : ℕ) (rest : List ℕ) → n < 2 ^ 32 → number32_at (bytes32 n ++ rest) ≡ Ok (n, rest)
unfolding number32_at
number32_again n rest lt =
    let long : ltb (length (bytes32 n ++ rest)) 4 ≡ false = le-ltb _ _ (omega (arith, length-append (bytes32 n) rest, length_bytes32 n)) in
    rw (long, word32_back n rest lt, drop_at (bytes32 n) rest 4 (length_bytes32 n)) refl

-- ---- names

IsBytes-rest : (b : ℕ) (bytes : List ℕ) → IsBytes (b ∷ bytes) → IsBytes bytes
IsBytes-rest b bytes h i = h (suc i)

abbrev name_bytes : List ℕ → List ℕ
name_bytes name = length name ∷ name

name_takes : (bytes : List ℕ) (x : List ℕ × List ℕ) → IsBytes bytes → name_at bytes ≡ Ok x → Takes bytes (name_bytes x.0) x.1
unfolding name_at name_of_size
name_takes [] x fits e = absurd cc
name_takes (size ∷ rest) x fits e =
    let g = guard_then (ltb (length rest) size) BadJournal (if is_row_name (take size rest) then Ok (take size rest, drop size rest) else Err BadJournal) x e in
    let long : size ≤ length rest = ltb-false _ _ g.0 in
    let p = passed (is_row_name (take size rest)) BadJournal (take size rest, drop size rest) x g.1 in
    let len : length (take size rest) ≡ size = omega (arith, length-take size rest) in
    let parts : size ∷ rest ≡ length (take size rest) ∷ (take size rest ++ drop size rest) = rw (len, take-append-drop size rest) refl in
    subst (λ (y : List ℕ × List ℕ). Takes (size ∷ rest) (name_bytes y.0) y.1) p.1 (record { parts = parts; rest_fits = is_bytes_drop size rest (IsBytes-rest size rest fits) })

name_again : (name rest : List ℕ) → is_row_name name ≡ true → name_at (name_bytes name ++ rest) ≡ Ok (name, rest)
unfolding name_at name_of_size
name_again name rest fine =
    let long : ltb (length (name ++ rest)) (length name) ≡ false = le-ltb _ _ (omega (arith, length-append name rest)) in
    rw (long, take_at name rest (length name) refl, drop_at name rest (length name) refl, fine) refl

-- ---- rows

pub record IsRowOf (kind : ℕ) (name : List ℕ) (row : Row) : Type 0 where
  pub kind_is : kind_of row ≡ kind
  pub name_is : name_of row ≡ name

drop_kind : (kind : ℕ) (name : List ℕ) (row : Row) (b : Bool) → (kind == DROP) ≡ b → cond b (Ok (Drop name)) (Err BadJournal) ≡ Ok row → IsRowOf kind name row
drop_kind kind name row true is e = subst (IsRowOf kind name) (ok_same (Drop name) row e) (record { kind_is = sym (eqb-true kind DROP is); name_is = refl })
drop_kind kind name row false is e = absurd cc

put_kind : (kind : ℕ) (name : List ℕ) (row : Row) (b : Bool) → (kind == PUT) ≡ b → cond b (Ok (Put name)) (cond (kind == DROP) (Ok (Drop name)) (Err BadJournal)) ≡ Ok row → IsRowOf kind name row
put_kind kind name row true is e = subst (IsRowOf kind name) (ok_same (Put name) row e) (record { kind_is = sym (eqb-true kind PUT is); name_is = refl })
put_kind kind name row false is e = drop_kind kind name row (kind == DROP) refl e

kind_takes : (kind : ℕ) (name : List ℕ) (row : Row) → row_of_kind kind name ≡ Ok row → IsRowOf kind name row
unfolding row_of_kind
kind_takes kind name row e = put_kind kind name row (kind == PUT) refl e

row_is : (kind : ℕ) (name : List ℕ) (row : Row) → IsRowOf kind name row → kind ∷ name_bytes name ≡ row_bytes row
row_is kind name row of = (λ i. sym of.kind_is i ∷ length (sym of.name_is i) ∷ sym of.name_is i)

row_takes : (bytes : List ℕ) (x : Row × List ℕ) → IsBytes bytes → row_at bytes ≡ Ok x → Takes bytes (row_bytes x.0) x.1
unfolding row_at
row_takes [] x fits e = absurd cc
row_takes (kind ∷ bytes) x fits e =
    let a = bind_ok (name_at bytes) (λ name. row_of_kind kind name.0 >>= λ row. Ok (row, name.1)) x e in
    let b = bind_ok (row_of_kind kind a.0.0) (λ row. Ok (row, a.0.1)) x a.2 in
    let named = name_takes bytes a.0 (IsBytes-rest kind bytes fits) a.1 in
    let made : Row × List ℕ = (b.0, a.0.1) in
    let taken : Takes (kind ∷ bytes) (row_bytes b.0) a.0.1 = record {
      parts = ap (λ (t : List ℕ). kind ∷ t) named.parts ∙ ap (λ (t : List ℕ). t ++ a.0.1) (row_is kind a.0.0 b.0 (kind_takes kind a.0.0 b.0 b.1));
      rest_fits = named.rest_fits;
    } in
    subst (λ (y : Row × List ℕ). Takes (kind ∷ bytes) (row_bytes y.0) y.1) (ok_same made x b.2) taken

row_again : (row : Row) (rest : List ℕ) → is_row_name (name_of row) ≡ true → row_at (row_bytes row ++ rest) ≡ Ok (row, rest)
unfolding row_at row_of_kind
row_again (Put name) rest fine = rw (name_again name rest fine) refl
row_again (Drop name) rest fine = rw (name_again name rest fine) refl

pub rows_take : (n : ℕ) (bytes : List ℕ) (x : List Row × List ℕ) → IsBytes bytes → rows_at n bytes ≡ Ok x → Takes bytes (flat_map row_bytes x.0) x.1 × (length x.0 ≡ n)
unfolding rows_at
rows_take zero bytes x fits e =
    subst (λ (y : List Row × List ℕ). Takes bytes (flat_map row_bytes y.0) y.1 × (length y.0 ≡ 0)) (ok_same ([], bytes) x e) (record { parts = refl; rest_fits = fits }, refl)
rows_take (suc n) bytes x fits e =
    let a = bind_ok (row_at bytes) (λ first. rows_at n first.1 >>= λ others. Ok (first.0 ∷ others.0, others.1)) x e in
    let b = bind_ok (rows_at n a.0.1) (λ others. Ok (a.0.0 ∷ others.0, others.1)) x a.2 in
    let first = row_takes bytes a.0 fits a.1 in
    let second = rows_take n a.0.1 b.0 first.rest_fits b.1 in
    let both = Takes-then bytes (row_bytes a.0.0) a.0.1 (flat_map row_bytes b.0.0) b.0.1 first second.0 in
    let made : List Row × List ℕ = (a.0.0 ∷ b.0.0, b.0.1) in
    subst (λ (y : List Row × List ℕ). Takes bytes (flat_map row_bytes y.0) y.1 × (length y.0 ≡ suc n)) (ok_same made x b.2) (rw flat_map-cons both, ap suc second.1)

abbrev pub AllNamed : List Row → Type 0
AllNamed [] = Unit {0}
AllNamed (row ∷ rows) = (is_row_name (name_of row) ≡ true) × AllNamed rows

pub rows_again : (rows : List Row) (rest : List ℕ) → AllNamed rows → rows_at (length rows) (flat_map row_bytes rows ++ rest) ≡ Ok (rows, rest)
unfolding rows_at
rows_again [] rest fits = refl
rows_again (row ∷ rows) rest fits =
    let regrouped : flat_map row_bytes (row ∷ rows) ++ rest ≡ row_bytes row ++ (flat_map row_bytes rows ++ rest) = ap (λ (x : List ℕ). x ++ rest) (flat_map-cons row_bytes row rows) ∙ append_assoc (row_bytes row) (flat_map row_bytes rows) rest in
    ap (rows_at (suc (length rows))) regrouped ∙ rw (row_again row (flat_map row_bytes rows ++ rest) fits.0, rows_again rows rest fits.1) refl
