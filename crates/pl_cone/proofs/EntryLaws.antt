-- A file that was taken is what the format tells of its bytes.
use Rattle.std.proofs.Common.{◌≡◌, ℕ, ◌<◌, ◌≤◌, ◌^◌, Bool, true, false, List, length, Option, Some, None, Result, Ok, Err, refl, sym, ap, subst, ◌∙◌, arith, inl, inr}
use Rattle.std.specs.Prelude.{nat_lt}
use Rattle.std.specs.Option.{option_map}
use Rattle.std.proofs.lemmas.Bool.{false≢true, true≢false}
use Rattle.std.proofs.lemmas.Bool.Decides.{nat_tests}
use Rattle.std.proofs.lemmas.Option.{none-some, same_Some}
use Rattle.pl_base.specs.Answers.{NeverMemory, unless}
use Rattle.pl_conflict.specs.Format.{mark_in, mark_of, read_original}
use Rattle.pl_elf.specs.Kinds.{is_library}
use Rattle.pl_elf.specs.declared.kind.Kind.TheVariants.{Library}
use Rattle.pl_form.specs.Files.{marked_in, original_in, original_or_file, file_in, file_by}
use Rattle.pl_form.specs.Marks.{has_mark, as_file, IsFormOf}
use Rattle.pl_form.specs.Words.{checksum_of}
use Rattle.pl_form.specs.declared.constants.TheConstants.{STORED}
use Rattle.pl_form.specs.declared.fault.FileFault.TheVariants as unread
use Rattle.pl_form.specs.declared.file.Entry.{Entry}
use Rattle.pl_form.specs.declared.file.Entry.TheVariants.{There, BadMark, Refused}
use Rattle.pl_form.specs.declared.file.File.TheVariants as files
use Rattle.pl_form.specs.declared.file.Marked.{Marked}
use Rattle.pl_form.proofs.FilesLaws.{nothing_else_is_read}
use Rattle.pl_form.proofs.LengthLaws.{accepted_small}
use Rattle.pl_object.specs.Reads.{reads}
use Rattle.pl_object.specs.Refusals.{is_memory}
use Rattle.pl_object.specs.declared.object.Object.{Object}
use Rattle.pl_object.specs.declared.refusal.Refusal.{Refusal}
use Rattle.pl_object.specs.declared.refusal.Refusal.TheVariants.{Clause, NoMemory}
use Rattle.pl_object.proofs.RefusalLaws.{reads_tells}
use Rattle.pl_scope.specs.Scope.{IsAccepted}
use Rattle.pl_cone.specs.Needs.{object_for}
use Rattle.pl_cone.specs.Skipped.{skip_causes}
use Rattle.pl_cone.specs.Taken.{entry_by, entry_in, marked_by, object_by}
use Rattle.pl_cone.specs.declared.skip.Skip.{Skip}
use Rattle.pl_cone.specs.declared.skip.Skip.TheVariants as skips

-- what the format tells of a name's bytes
pub record IsTold (n bytes : List ℕ) (e : Entry) : Type 0 where
  pub object : object_for n e ≡ read_original skip_causes n (original_in bytes)
  pub mark : mark_in bytes ≡ option_map mark_of (marked_by e)
  pub sums : (m : Marked) → marked_by e ≡ Some m → m.object.kind ≡ Library → checksum_of (original_in bytes) ≡ m.checksum
  pub accepted : (o : Object) → object_by e ≡ Some o → IsAccepted o

-- ---- sizes

stored_is : STORED ≡ 268435456
stored_is = refl

not_below : (a b : ℕ) → b ≤ a → nat_lt a b ≡ false
not_below a b h = grind (arith, nat_tests)

-- no accepted file is longer than a folder stores
within : (o : List ℕ) (x : Object) → reads o ≡ Ok x → nat_lt STORED (length o) ≡ false
within o x is = not_below STORED (length o) (omega (arith, stored_is, accepted_small o x is))

few : (o : List ℕ) → length o ≤ STORED → length o < 2 ^ 32
few o small = omega (arith, stored_is, small)

read_back : (n o : List ℕ) (x : Object) → has_mark o ≡ false → reads o ≡ Ok x → read_original skip_causes n o ≡ Ok x
unfolding read_original
read_back n o x plain is = rw (within o x is, plain, is) refl

-- ---- a form

form_sum : (bytes : List ℕ) (m : Marked) → IsFormOf bytes m → m.object.kind ≡ Library → checksum_of m.original ≡ m.checksum
form_sum bytes m of kind = elim of.mark [ inl mark ↦ sym mark.checksum | inr program ↦ absurd (false≢true (sym program.program ∙ ap is_library kind)) ]

form_is : (n bytes : List ℕ) (m : Marked) → marked_in bytes ≡ Some m → IsTold n bytes (There (files.Marked m))
unfolding original_in mark_in
form_is n bytes m is =
    let of : IsFormOf bytes m = nothing_else_is_read bytes m is in
    let original : original_in bytes ≡ m.original = ap (original_or_file bytes) is in
    let accepted : IsAccepted m.object = record { bytes = m.original; size = of.firm.few; read = of.firm.accepted } in
    record {
      object = sym (ap (read_original skip_causes n) original ∙ read_back n m.original m.object of.plain of.firm.accepted);
      mark = ap (option_map mark_of) is;
      sums = λ k marked kind.
          let same : m ≡ k = same_Some m k marked in
          ap checksum_of original ∙ subst (λ (j : Marked). checksum_of m.original ≡ j.checksum) same (form_sum bytes m of (ap (λ (j : Marked). j.object.kind) same ∙ kind));
      accepted = λ o there. subst IsAccepted (same_Some m.object o there) accepted;
    }

-- ---- a file without a form's mark

-- it is its own original
own_original : (bytes : List ℕ) → marked_in bytes ≡ None → original_in bytes ≡ bytes
unfolding original_in
own_original bytes none = ap (original_or_file bytes) none

no_mark : (bytes : List ℕ) → marked_in bytes ≡ None → mark_in bytes ≡ None
unfolding mark_in
no_mark bytes none = ap (option_map mark_of) none

plain_is : (n bytes : List ℕ) (x : Object) → marked_in bytes ≡ None → has_mark bytes ≡ false → reads bytes ≡ Ok x → length bytes ≤ STORED → IsTold n bytes (There (files.Plain x))
plain_is n bytes x none plain is small =
    let accepted : IsAccepted x = record { bytes = bytes; size = few bytes small; read = is } in
    record {
      object = sym (ap (read_original skip_causes n) (own_original bytes none) ∙ read_back n bytes x plain is);
      mark = no_mark bytes none;
      sums = λ m marked kind. absurd (none-some m marked);
      accepted = λ o there. subst IsAccepted (same_Some x o there) accepted;
    }

-- a file that has no original
bare_is : (n bytes : List ℕ) (e : Entry) (skip : Skip) → marked_in bytes ≡ None → object_by e ≡ None → marked_by e ≡ None → object_for n e ≡ Err skip → read_original skip_causes n bytes ≡ Err skip → IsTold n bytes e
bare_is n bytes e skip none bare unmarked object read = record {
  object = object ∙ sym (ap (read_original skip_causes n) (own_original bytes none) ∙ read);
  mark = no_mark bytes none ∙ sym (ap (option_map mark_of) unmarked);
  sums = λ m marked kind. absurd (none-some m (sym unmarked ∙ marked));
  accepted = λ o there. absurd (none-some o (sym bare ∙ there));
}

bad_read : (n bytes : List ℕ) → length bytes ≤ STORED → has_mark bytes ≡ true → read_original skip_causes n bytes ≡ Err (skips.BadMark n)
unfolding read_original
bad_read n bytes small marked = rw (not_below STORED (length bytes) small, marked) refl

refused_read : (n bytes : List ℕ) (number argument : ℕ) → length bytes ≤ STORED → has_mark bytes ≡ false → reads bytes ≡ Err (Clause number argument) → read_original skip_causes n bytes ≡ Err (skips.Refused n number argument)
unfolding read_original
refused_read n bytes number argument small plain is = rw (not_below STORED (length bytes) small, plain, is) refl

-- no file is refused for want of memory
never : (bytes : List ℕ) → reads bytes ≡ Err NoMemory → ⊥
unfolding NeverMemory
never bytes is = true≢false (subst (λ (r : Result Object Refusal). NeverMemory is_memory r) is (reads_tells bytes))

-- by its mark, and by what acceptance says
own_told : (n bytes : List ℕ) → length bytes ≤ STORED → marked_in bytes ≡ None → (marked : Bool) → has_mark bytes ≡ marked → (r : Result Object Refusal) → reads bytes ≡ r → IsTold n bytes (entry_by (unless marked unread.BadMark (as_file r)))
own_told n bytes small none true marked r is = bare_is n bytes BadMark (skips.BadMark n) none refl refl refl (bad_read n bytes small marked)
own_told n bytes small none false plain (Ok x) is = plain_is n bytes x none plain is small
own_told n bytes small none false plain (Err (Clause number argument)) is =
    bare_is n bytes (Refused number argument) (skips.Refused n number argument) none refl refl refl (refused_read n bytes number argument small plain is)
own_told n bytes small none false plain (Err NoMemory) is = absurd (never bytes is)

-- ---- the whole

by_form : (n bytes : List ℕ) → length bytes ≤ STORED → (found : Option Marked) → marked_in bytes ≡ found → IsTold n bytes (entry_by (file_by bytes found))
by_form n bytes small (Some m) is = form_is n bytes m is
by_form n bytes small None is = own_told n bytes small is (has_mark bytes) refl (reads bytes) refl

pub entry_told : (n bytes : List ℕ) → length bytes ≤ STORED → IsTold n bytes (entry_in bytes)
unfolding entry_in file_in
entry_told n bytes small = by_form n bytes small (marked_in bytes) refl
