-- Where a form's section header table begins is within the form, whatever its plan is.
use Rattle.std.proofs.Common.{◌≡◌, ℕ, ◌+◌, ◌/◌, ◌≤◌, List, [], ◌∷◌, ◌++◌, length, take, drop, refl, arith}
use Rattle.std.specs.Prelude.{map}
use Rattle.std.specs.List.{concat}
use Rattle.std.proofs.lemmas.Nat.{le-div}
use Rattle.std.proofs.Math.Nat.{div-mul-le_self}
use Rattle.std.proofs.lemmas.List.{length-append, length-take, length-drop}
use Rattle.pl_base.specs.Bytes.{put}
use Rattle.pl_base.specs.Windows.{Put, put_all, on, within}
use Rattle.pl_elf.specs.Headers.{header}
use Rattle.pl_elf.specs.Written.{header_bytes, segment_bytes}
use Rattle.pl_move.specs.Moves.{table_window, row_size, rows, row_moved, moved, all_moved}
use Rattle.pl_move.specs.declared.table.Table.{Table}
use Rattle.pl_form.specs.Back.{visible, inserted}
use Rattle.pl_form.specs.Parts.{Original, up, joined_size, names_part, table_part, table_at, new_header, moved_part, front_part, form}
use Rattle.pl_form.specs.declared.parts.FormPlan.{FormPlan}
use Rattle.pl_form.proofs.PartsLaws.{length-joined}

-- ---- what is put over bytes makes them no shorter

put_least : (at : ℕ) (new xs : List ℕ) → length xs ≤ length (put at new xs)
unfolding put
put_least at new xs =
    omega (arith, length-append (take at xs ++ new) (drop (at + length new) xs), length-append (take at xs) new, length-take at xs, length-drop (at + length new) xs)

puts_least : (ps : List Put) (xs : List ℕ) → length xs ≤ length (put_all ps xs)
unfolding put_all
puts_least [] xs = omega arith
puts_least (p ∷ ps) xs = omega (arith, put_least p.at p.bytes xs, puts_least ps (put p.at p.bytes xs))

moved_least : (more : ℕ) (ts : List Table) (xs : List ℕ) → length xs ≤ length (all_moved more ts xs)
unfolding all_moved moved on
moved_least more [] xs = omega arith
moved_least more (t ∷ ts) xs =
    let new = rows (row_size t.kind) (row_moved more t.kind) t.count (within (table_window t) xs) in
    omega (arith, put_least t.at new xs, moved_least more ts (put t.at new xs))

front_least : (p : FormPlan) (o : Original) (flat : List ℕ) (undo : ℕ) → length o.bytes ≤ length (front_part p o flat undo)
unfolding front_part moved_part
front_least p o flat undo =
    let a = all_moved p.slot o.tables o.bytes in
    let b = put_all (visible o.spots flat) a in
    let c = put o.dynamic.at p.dynamic b in
    let d = put (header o.bytes).phoff (concat (map segment_bytes p.segments)) c in
    omega (
      arith,
      moved_least p.slot o.tables o.bytes,
      puts_least (visible o.spots flat) a,
      put_least o.dynamic.at p.dynamic b,
      put_least (header o.bytes).phoff (concat (map segment_bytes p.segments)) c,
      put_least 0 (header_bytes (new_header p o.bytes undo)) d,
    )

inserted_size : (cut : ℕ) (more xs : List ℕ) → length (inserted cut more xs) ≡ length xs + length more
inserted_size cut more xs = omega (arith, length-append (take cut xs ++ more) (drop cut xs), length-append (take cut xs) more, length-take cut xs, length-drop cut xs)

-- ---- parts

up_later : (a b : ℕ) → a ≤ b → up a ≤ up b
up_later a b le = let m : (a + 7) / 8 ≤ (b + 7) / 8 = le-div ((a + 7) / 8) (b + 7) 8 (omega arith) (omega (arith, le, div-mul-le_self (a + 7) 8)) in omega (arith, m)

joined_later : (a b : ℕ) (ps : List (List ℕ)) → a ≤ b → joined_size a ps ≤ joined_size b ps
unfolding joined_size
joined_later a b [] le = le
joined_later a b (p ∷ ps) le = joined_later (up a + length p) (up b + length p) ps (omega (arith, up_later a b le))

joined_more : (n : ℕ) (ps qs : List (List ℕ)) → joined_size n (ps ++ qs) ≡ joined_size (joined_size n ps) qs
unfolding joined_size
joined_more n [] qs = refl
joined_more n (p ∷ ps) qs = joined_more (up n + length p) ps qs

pub table_below : (p : FormPlan) (o : Original) (flat undo : List ℕ) → table_at p o.bytes (length undo) ≤ length (form p o flat undo)
unfolding form joined_size
table_below p o flat undo =
    let u = length undo in
    let front = inserted p.cut p.more (front_part p o flat u) in
    let ends : List (List ℕ) = undo ∷ names_part p o.bytes ∷ table_part p o.bytes u ∷ [] in
    let n = length o.bytes + length p.more in
    let least : n ≤ length front = omega (arith, inserted_size p.cut p.more (front_part p o flat u), front_least p o flat u) in
    let size : length (form p o flat undo) ≡ joined_size (length front) (p.parts ++ ends) = length-joined front (p.parts ++ ends) in
    let split : joined_size n (p.parts ++ ends) ≡ joined_size (joined_size n p.parts) ends = joined_more n p.parts ends in
    let last : joined_size (joined_size n p.parts) ends ≡ table_at p o.bytes u + length (table_part p o.bytes u) = refl in
    omega (arith, size, split, last, joined_later n (length front) (p.parts ++ ends) least)
