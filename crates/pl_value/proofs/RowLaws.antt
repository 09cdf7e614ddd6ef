-- What acceptance tells of the rows of a scope.
use Rattle.std.proofs.Common.{◌≡◌, ℕ, suc, ◌+◌, false, List, [], ◌∷◌, length, map, Some, Ok, ap, ◌∙◌, arith}
use Rattle.std.specs.Prelude.{slice_get}
use Rattle.std.specs.List.{All}
use Rattle.std.proofs.lemmas.List.Elements.{All-nil, All-append, All-map}
use Rattle.pl_sym.specs.declared.symbol.Symbol.{Symbol}
use Rattle.pl_object.specs.Accepted.{is_exec}
use Rattle.pl_object.specs.PlaceClauses.{is_bad, is_misplaced_copy, misplaced_copy}
use Rattle.pl_object.specs.Reads.{reads}
use Rattle.pl_object.specs.Relocations.{width}
use Rattle.pl_object.specs.declared.object.Object.{Object}
use Rattle.pl_object.specs.declared.reloc.Reloc.{Reloc}
use Rattle.pl_object.proofs.AcceptedLaws.{accepted}
use Rattle.pl_value.specs.Laws.{AreRead}
use Rattle.pl_value.specs.Meanings.{Row, row, rows, rows_from}
use Rattle.pl_value.proofs.LoneLaws.{none_at}

-- ---- widths

-- a relocation is as wide as its kind and symbol say
abbrev pub HasWidth : List Symbol → Reloc → Type 0
HasWidth symbols r = r.width ≡ width symbols r.kind r.symbol

-- ---- rows

-- what is known of a row: its object, how wide it is, that its kind and symbol are known, and that it is no COPY out of place
pub record IsKnown (objects : List Object) (x : Row) : Type 0 where
  pub object : Object
  pub at : slice_get objects x.member ≡ Some object
  pub width : HasWidth object.symbols x.reloc
  pub known : is_bad (length object.symbols) x.reloc ≡ false
  pub copy : is_misplaced_copy (is_exec object) x.reloc ≡ false

object_known : (objects : List Object) (member : ℕ) (bytes : List ℕ) (o : Object) → slice_get objects member ≡ Some o → reads bytes ≡ Ok o → All (λ r. IsKnown objects (row member r)) o.relocations
unfolding misplaced_copy
object_known objects member bytes o at read = λ k d lt.
    let facts = accepted bytes o read in
    record {
      object = o;
      at = at;
      width = facts.widths k d lt;
      known = none_at (is_bad (length o.symbols)) o.relocations k d lt facts.relocs;
      copy = none_at (is_misplaced_copy (is_exec o)) o.relocations k d lt facts.copies;
    }

rows_known_from : (objects : List Object) (member : ℕ) (parts : List (List ℕ)) (os : List Object) → ((k : ℕ) → slice_get objects (member + k) ≡ slice_get os k) → AreRead parts os → All (IsKnown objects) (rows_from member os)
unfolding rows_from
rows_known_from objects member [] [] same read = All-nil (IsKnown objects)
rows_known_from objects member [] (o ∷ os) same read = absurd read
rows_known_from objects member (bytes ∷ parts) [] same read = absurd read
rows_known_from objects member (bytes ∷ parts) (o ∷ os) same read =
    let at : slice_get objects member ≡ Some o = ap (slice_get objects) (omega arith) ∙ same 0 in
    let next : (k : ℕ) → slice_get objects (member + 1 + k) ≡ slice_get os k = λ k. ap (slice_get objects) (omega arith) ∙ same (suc k) in
    All-append (IsKnown objects) (map (row member) o.relocations) (rows_from (member + 1) os)
    (All-map (IsKnown objects) (row member) o.relocations (object_known objects member bytes o at read.0))
    (rows_known_from objects (member + 1) parts os next read.1)

pub rows_known : (parts : List (List ℕ)) (objects : List Object) → AreRead parts objects → All (IsKnown objects) (rows objects)
rows_known parts objects read = rows_known_from objects 0 parts objects (λ k. ap (slice_get objects) (omega arith)) read
