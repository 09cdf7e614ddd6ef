-- What is read of a file is a form where it makes the file again.
use Rattle.std.proofs.Common.{◌≡◌, ℕ, ◌+◌, ◌*◌, ◌%◌, ◌^◌, ◌<◌, ◌≤◌, true, List, length, Result, Ok, Err, refl, ap, arith, inl, inr}
use Rattle.std.specs.Prelude.{◌&&◌, ◌==◌, not, nat_le}
use Rattle.std.specs.Result.{is_ok}
use Rattle.std.specs.Str.{bytes_eq}
use Rattle.std.proofs.Math.Nat.{mod-lt}
use Rattle.std.proofs.lemmas.Bool.{cases_Bool, and_parts, leb-true, eqb-true, not-true, false≢true}
use Rattle.std.proofs.lemmas.List.{length-append}
use Rattle.std.proofs.lemmas.Slice.Eq.{bytes_eq-Decides}
use Rattle.pl_base.specs.Bytes.{IsBytes, word64}
use Rattle.pl_base.specs.Windows.{within}
use Rattle.pl_elf.specs.Kinds.{is_library, is_static}
use Rattle.pl_lists.specs.Lists.{IsListOf, list_strings}
use Rattle.pl_lists.specs.declared.list_row.ListRow.{ListRow}
use Rattle.pl_object.specs.Reads.{reads}
use Rattle.pl_object.specs.declared.object.Object.{Object}
use Rattle.pl_form.specs.Back.{wanted}
use Rattle.pl_form.specs.Found.{d_of, tags_of, ps_of}
use Rattle.pl_undo.specs.declared.undo.Undo.{Undo}
use Rattle.pl_form.specs.Faults.{form_fault, no_region}
use Rattle.pl_form.specs.Marks.{has_mark, form_with, IsFormOf, IsMark}
use Rattle.pl_form.specs.Reading.{is_firm, IsOwn, AreSpelled, IsSpelledList, candidate, is_placed, is_form, IsMade}
use Rattle.pl_form.specs.declared.constants.TheConstants.{STORED}
use Rattle.pl_form.specs.declared.fault.FormFault.{FormFault}
use Rattle.pl_form.specs.declared.file.Marked.{Marked}
use Rattle.pl_form.specs.declared.read.Lists.{Lists}

-- ---- an original

ok_unit : (r : Result (Unit {0}) FormFault) → is_ok r ≡ true → r ≡ Ok tt
ok_unit (Ok x) e = refl
ok_unit (Err fault) e = absurd (false≢true e)

pub own_of : (o : List ℕ) (x : Object) → IsBytes o → length o < 2 ^ 32 → reads o ≡ Ok x → is_firm o x ≡ true → IsOwn o x
own_of o x bytes few e firm =
    let p = and_parts (not (is_static x.kind) && is_ok (form_fault x no_region)) (not (has_mark o)) firm in
    let q = and_parts (not (is_static x.kind)) (is_ok (form_fault x no_region)) p.0 in
    record {
      firm = record { bytes = bytes; few = few; accepted = e; dynamic = not-true (is_static x.kind) q.0; firm = ok_unit (form_fault x no_region) q.1 };
      plain = not-true (has_mark o) p.1;
    }

-- ---- lists

pub list_spelled : (table strings : List ℕ) (list : List ListRow) → IsListOf table strings list → IsSpelledList (length strings) list
list_spelled table strings list is = record { names = omega (arith, ap length is.in_strings, length-append is.before (list_strings list)); spelled = is.is_spelled }

-- ---- the whole

pub made_of : (front : List ℕ) (u : Undo) (o : List ℕ) (x : Object) (l : Lists) (file : List ℕ) → IsOwn o x → AreSpelled (is_library x.kind) file l → length file ≤ STORED → IsMade (candidate front u o x l)
unfolding candidate
made_of front u o x l file own spelled small = record {
  firm = own.firm;
  plain = own.plain;
  list = spelled.list;
  names = omega (arith, spelled.names, small);
  conflicts = spelled.conflicts;
  none = spelled.none;
  stamp = elim (cases_Bool (is_library x.kind)) [
    | inl library ↦ rw library (mod-lt (word64 (16 * length (tags_of o) + 8) (within (d_of o) front)) (omega arith))
    | inr program ↦ rw program (omega arith)
  ];
  checksum = λ library. rw library refl;
  zeros = λ program. (rw program refl, rw program refl);
}

placed_mark : (m : Marked) → IsMade m → is_placed m ≡ true → IsMark m
unfolding is_placed
placed_mark m made placed = elim (cases_Bool (is_library m.object.kind)) [
  | inl library ↦
      let p = and_parts (m.slot % 2 == 0 && m.slot % m.object.align == 0) (nat_le (m.slot + m.object.span) (2 ^ 47)) (rw library at placed) in
      let q = and_parts (m.slot % 2 == 0) (m.slot % m.object.align == 0) p.0 in
      inl (record {
        library = library;
        aligned = eqb-true (m.slot % m.object.align) 0 q.1;
        below = leb-true (m.slot + m.object.span) (2 ^ 47) p.1;
        stamp = made.stamp;
        checksum = made.checksum library;
        conflicts = made.none library;
      })
  | inr program ↦
      let z = made.zeros program in
      inr (record { program = program; slot = eqb-true m.slot 0 (rw program at placed); stamp = z.0; checksum = z.1; conflicts = made.conflicts })
]

same_bytes : (xs ys : List ℕ) → bytes_eq xs ys ≡ true → xs ≡ ys
same_bytes xs ys e = (bytes_eq-Decides xs ys).0 e

pub sound : (file : List ℕ) (m : Marked) (flat : List ℕ) → IsMade m → IsBytes flat → length file ≤ STORED → is_form file m flat ≡ true → IsFormOf file m
unfolding is_form
sound file m flat made bytes small e =
    let p = and_parts (length flat == wanted (ps_of m.original) && is_placed m) (bytes_eq file (form_with m flat)) e in
    let q = and_parts (length flat == wanted (ps_of m.original)) (is_placed m) p.0 in
    record {
      firm = made.firm;
      plain = made.plain;
      mark = placed_mark m made q.1;
      list = made.list;
      flat = flat;
      bytes = bytes;
      filled = eqb-true (length flat) (wanted (ps_of m.original)) q.0;
      small = small;
      is = same_bytes file (form_with m flat) p.1;
    }

-- where it is placed, a library's slot is even
pub placed_even : (m : Marked) → is_placed m ≡ true → is_library m.object.kind ≡ true → m.slot % 2 ≡ 0
unfolding is_placed
placed_even m placed library =
    let p = and_parts (m.slot % 2 == 0 && m.slot % m.object.align == 0) (nat_le (m.slot + m.object.span) (2 ^ 47)) (rw library at placed) in
    eqb-true (m.slot % 2) 0 (and_parts (m.slot % 2 == 0) (m.slot % m.object.align == 0) p.0).0
