-- Members that have forms, and what a set of them keeps.
use Rattle.std.proofs.Common.{◌≡◌, ℕ, zero, suc, ◌+◌, ◌^◌, ◌%◌, ◌<◌, ◌≤◌, Bool, true, false, List, [], ◌∷◌, length, Option, Some, None, Result, Ok, Err, refl, sym, subst, inl, inr}
use Rattle.std.specs.Prelude.{◌&&◌, ◌==◌, not, nat_le, nat_lt}
use Rattle.std.specs.List.{All, AllZip, list_all, flat_map}
use Rattle.std.proofs.lemmas.Bool.{cases_Bool, and_parts, eqb-true, leb-true, ltb-true, not-true}
use Rattle.std.proofs.lemmas.List.Elements.{All-nil, All-cons}
use Rattle.std.proofs.lemmas.Option.{none-some, same_Some}
use Rattle.pl_base.specs.Bytes.{IsBytes}
use Rattle.pl_base.specs.Windows.{any_share}
use Rattle.pl_base.proofs.WordLaws.{is_bytes_nil}
use Rattle.pl_elf.specs.Kinds.{is_library}
use Rattle.pl_elf.specs.declared.constants.TheConstants.{ADDRESS_LIMIT}
use Rattle.pl_form.specs.Files.{is_byte, are_bytes}
use Rattle.pl_form.specs.Reading.{is_firm, firm_if, firm_object, IsOwn}
use Rattle.pl_form.proofs.SoundLaws.{own_of}
use Rattle.pl_lists.specs.Lists.{is_list}
use Rattle.pl_object.specs.Reads.{reads}
use Rattle.pl_object.specs.declared.object.Object.{Object}
use Rattle.pl_object.specs.declared.refusal.Refusal.{Refusal}
use Rattle.pl_form.specs.Back.{when}
use Rattle.law_sound.specs.Rule.{Member}
use Rattle.pl_conflict.specs.Format.{number_of}
use Rattle.pl_conflict.specs.Prelinked.{Firm, with_object, firm_of, joined, all_firm, version_of, is_version, has_numbers, windows_of, list_of, are_set}

-- ---- tests and options

pub when_some : {A : Type 0} (b : Bool) (o : Option A) (x : A) → when b o ≡ Some x → (b ≡ true) × (o ≡ Some x)
when_some true o x e = (refl, e)
when_some false o x e = absurd (none-some x e)

-- ---- one member

bytes_are : (xs : List ℕ) → are_bytes xs ≡ true → IsBytes xs
unfolding are_bytes
bytes_are [] all i = is_bytes_nil i
bytes_are (x ∷ xs) all zero = ltb-true x 256 (and_parts (is_byte x) (are_bytes xs) all).0
bytes_are (x ∷ xs) all (suc i) = bytes_are xs (and_parts (is_byte x) (are_bytes xs) all).1 i

own_if : (o : List ℕ) (x : Object) (r : Result Object Refusal) → IsBytes o → length o < 2 ^ 32 → reads o ≡ r → firm_if o r ≡ Some x → IsOwn o x
own_if o x (Err refusal) bytes few is e = absurd (none-some x e)
own_if o x (Ok y) bytes few is e =
    let p = when_some (is_firm o y) (Some y) x e in
    subst (λ (z : Object). IsOwn o z) (same_Some y x p.1) (own_of o y bytes few is p.0)

own_object : (o : List ℕ) (x : Object) → IsBytes o → firm_object o ≡ Some x → IsOwn o x
unfolding firm_object
own_object o x bytes e =
    let p = when_some (nat_lt (length o) (2 ^ 32)) (firm_if o (reads o)) x e in
    own_if o x (reads o) bytes (ltb-true (length o) (2 ^ 32) p.0) refl p.1

-- a member with the object of its original, which has a form
pub record IsFirmOf (m : Member) (r : Firm) : Type 0 where
  pub is : r.member ≡ m
  pub own : IsOwn r.member.original r.object

with_some : (m : Member) (o : Option Object) (r : Firm) → with_object m o ≡ Some r → (x : Object) × (o ≡ Some x) × (record { member = m; object = x } ≡ r)
with_some m None r e = absurd (none-some r e)
with_some m (Some x) r e = (x, refl, same_Some (record { member = m; object = x }) r e)

pub member_firm : (m : Member) (r : Firm) → firm_of m ≡ Some r → IsFirmOf m r
member_firm m r e =
    let p = with_some m (when (are_bytes m.original) (firm_object m.original)) r e in
    let q = when_some (are_bytes m.original) (firm_object m.original) p.0 p.1 in
    let own : IsOwn m.original p.0 = own_object m.original p.0 (bytes_are m.original q.0) q.1 in
    let made : IsFirmOf m (record { member = m; object = p.0 }) = record { is = refl; own = own } in
    subst (IsFirmOf m) p.2 made

-- ---- all members

joined_some : (o : Option Firm) (rest : Option (List Firm)) (rs : List Firm) → joined o rest ≡ Some rs → (r : Firm) × (ts : List Firm) × (o ≡ Some r) × (rest ≡ Some ts) × (r ∷ ts ≡ rs)
joined_some None rest rs e = absurd (none-some rs e)
joined_some (Some r) None rs e = absurd (none-some rs e)
joined_some (Some r) (Some ts) rs e = (r, ts, refl, refl, same_Some (r ∷ ts) rs e)

pub firms_zip : (ms : List Member) (rs : List Firm) → all_firm ms ≡ Some rs → AllZip (λ m r. firm_of m ≡ Some r) ms rs
unfolding all_firm
firms_zip [] [] e = tt
firms_zip [] (r ∷ rs) e = absurd cc
firms_zip (m ∷ ms) rs e =
    let p = joined_some (firm_of m) (all_firm ms) rs e in
    let whole : AllZip (λ n r. firm_of n ≡ Some r) (m ∷ ms) (p.0 ∷ p.1) = (p.2, firms_zip ms p.1 p.3) in
    subst (AllZip (λ n r. firm_of n ≡ Some r) (m ∷ ms)) p.4 whole

pub firms_are : (ms : List Member) (rs : List Firm) → AllZip (λ m r. firm_of m ≡ Some r) ms rs → AllZip IsFirmOf ms rs
firms_are [] [] zip = tt
firms_are [] (r ∷ rs) zip = absurd zip
firms_are (m ∷ ms) [] zip = absurd zip
firms_are (m ∷ ms) (r ∷ rs) zip = (member_firm m r zip.0, firms_are ms rs zip.1)

abbrev pub HasOwn : Firm → Type 0
HasOwn r = IsOwn r.member.original r.object

pub all_own : (ms : List Member) (rs : List Firm) → AllZip IsFirmOf ms rs → All HasOwn rs
all_own [] [] zip = All-nil HasOwn
all_own [] (r ∷ rs) zip = absurd zip
all_own (m ∷ ms) [] zip = absurd zip
all_own (m ∷ ms) (r ∷ rs) zip = All-cons HasOwn r rs zip.0.own (all_own ms rs zip.1)

-- ---- a set of members

pub record IsSet (r : Firm) (rs : List Firm) : Type 0 where
  pub first : has_numbers r ≡ true
  pub numbers : list_all has_numbers rs ≡ true
  pub apart : any_share (flat_map windows_of (r ∷ rs)) ≡ false
  pub list : is_list (list_of rs) ≡ true

pub set_is : (r : Firm) (rs : List Firm) → are_set (r ∷ rs) ≡ true → IsSet r rs
unfolding are_set
set_is r rs e =
    let p = and_parts (list_all has_numbers (r ∷ rs) && not (any_share (flat_map windows_of (r ∷ rs)))) (is_list (list_of rs)) e in
    let q = and_parts (list_all has_numbers (r ∷ rs)) (not (any_share (flat_map windows_of (r ∷ rs)))) p.0 in
    let n = and_parts (has_numbers r) (list_all has_numbers rs) q.0 in
    record { first = n.0; numbers = n.1; apart = not-true (any_share (flat_map windows_of (r ∷ rs))) q.1; list = p.1 }

-- ---- the numbers of a member

pub record IsPlacedLibrary (r : Firm) : Type 0 where
  pub aligned : r.member.slot % r.object.align ≡ 0
  pub below : r.member.slot + r.object.span ≤ 2 ^ 47
  pub stamp : r.member.stamp < 2 ^ 32

pub library_numbers : (r : Firm) → has_numbers r ≡ true → is_library r.object.kind ≡ true → IsPlacedLibrary r
unfolding has_numbers
library_numbers r e library =
    let p = and_parts (is_version r.member.version) _ e in
    let all : (r.member.slot % r.object.align == 0 && nat_le (r.member.slot + r.object.span) ADDRESS_LIMIT && nat_lt r.member.stamp (2 ^ 32)) ≡ true = rw library at p.1 in
    let q = and_parts (r.member.slot % r.object.align == 0 && nat_le (r.member.slot + r.object.span) ADDRESS_LIMIT) (nat_lt r.member.stamp (2 ^ 32)) all in
    let s = and_parts (r.member.slot % r.object.align == 0) (nat_le (r.member.slot + r.object.span) ADDRESS_LIMIT) q.0 in
    record {
      aligned = eqb-true (r.member.slot % r.object.align) 0 s.0;
      below = leb-true (r.member.slot + r.object.span) ADDRESS_LIMIT s.1;
      stamp = ltb-true r.member.stamp (2 ^ 32) q.1;
    }

pub program_numbers : (r : Firm) → has_numbers r ≡ true → is_library r.object.kind ≡ false → (r.member.slot ≡ 0) × (r.member.stamp ≡ 0)
unfolding has_numbers
program_numbers r e other =
    let p = and_parts (is_version r.member.version) _ e in
    let all : (r.member.slot == 0 && r.member.stamp == 0) ≡ true = rw other at p.1 in
    let q = and_parts (r.member.slot == 0) (r.member.stamp == 0) all in
    (eqb-true r.member.slot 0 q.0, eqb-true r.member.stamp 0 q.1)

-- the version of a number is that number
number_is : (n : ℕ) → is_version n ≡ true → number_of (version_of n) ≡ n
number_is n e = elim (cases_Bool (n == 1)) [
  | inl one ↦ rw one (sym (eqb-true n 1 one))
  | inr other ↦
      let two : (n == 2) ≡ true = rw other at e in
      rw other (sym (eqb-true n 2 two))
]

pub version_same : (r : Firm) → has_numbers r ≡ true → number_of (version_of r.member.version) ≡ r.member.version
unfolding has_numbers
version_same r e = number_is r.member.version (and_parts (is_version r.member.version) _ e).0
