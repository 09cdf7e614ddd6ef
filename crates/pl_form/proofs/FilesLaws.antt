-- What a file is as a function of its bytes, against what it is.
use Rattle.std.proofs.Common.{◌≡◌, ℕ, zero, suc, ◌+◌, ◌-◌, ◌^◌, ◌<◌, ◌≤◌, Bool, true, false, List, [], ◌∷◌, ◌++◌, length, take, Option, Some, None, Result, Ok, Err, refl, sym, ap, subst, ◌∙◌, arith}
use Rattle.std.specs.Prelude.{◌&&◌, nat_le, nat_lt}
use Rattle.std.specs.List.{list_all}
use Rattle.std.specs.Result.{is_ok}
use Rattle.std.proofs.lemmas.Bool.{and_parts, and_from, lt-ltb, ltb-true, leb-true, true≢false}
use Rattle.pl_base.specs.Bytes.{IsBytes, part}
use Rattle.pl_base.proofs.WordLaws.{is_bytes_nil, is_bytes_take, is_bytes_part, is_bytes_append}
use Rattle.pl_elf.specs.Clauses.{read}
use Rattle.pl_elf.specs.Headers.{header, section}
use Rattle.pl_elf.specs.Kinds.{is_library}
use Rattle.pl_elf.specs.declared.segment.Segment.{Segment}
use Rattle.pl_lists.specs.Reading.{list_of, conflicts_of}
use Rattle.pl_lists.specs.declared.fault.ListFault.{ListFault}
use Rattle.pl_lists.proofs.ConflictLaws.{answer_found}
use Rattle.pl_lists.proofs.ListLaws.{is_found}
use Rattle.pl_object.specs.PlaceClauses.{last_load}
use Rattle.pl_object.specs.Reads.{reads}
use Rattle.pl_object.specs.declared.object.Object.{Object}
use Rattle.pl_object.specs.declared.refusal.Refusal.{Refusal}
use Rattle.pl_form.specs.Back.{◌>>=◌, when, find_undo, restored, front_of}
use Rattle.pl_form.specs.Found.{reader, ss_of, ps_of}
use Rattle.pl_form.specs.declared.parts.Spot.{Spot}
use Rattle.pl_form.proofs.FinalTheorem.{reads_ok}
use Rattle.pl_undo.specs.declared.undo.Undo.{Undo}
use Rattle.pl_form.specs.Files.{is_byte, are_bytes, of_bytes, marked_in, original_or_file, original_in, file_in, FormsAreRead, NothingElseIsRead, OriginalsAreBare, FormsAreTold, BadAreTold, PlainAreTold}
use Rattle.pl_form.specs.Marks.{has_mark, IsFormOf, IsNoForm}
use Rattle.pl_form.specs.Reading.{marked_of, marked_by, firm_object, firm_if, is_firm, IsOwn, lists_in, section_from_end, spelled, with_conflicts, AreSpelled, checked, candidate, is_form, places_in, standing, zeros_behind}
use Rattle.pl_form.specs.declared.constants.TheConstants.{STORED}
use Rattle.pl_form.specs.declared.file.Marked.{Marked}
use Rattle.pl_form.specs.declared.read.Lists.{Lists}
use Rattle.pl_form.proofs.CompleteLaws.{complete, part_most}
use Rattle.pl_form.proofs.MarkedLaws.{library_spelled}
use Rattle.pl_form.proofs.PlannedLaws.{undo_named}
use Rattle.pl_form.proofs.SoundLaws.{own_of, made_of, sound, list_spelled}

-- ---- bytes

pub bytes_are : (xs : List ℕ) → IsBytes xs → are_bytes xs ≡ true
unfolding are_bytes
bytes_are [] h = refl
bytes_are (x ∷ xs) h = and_from (nat_lt x 256) (list_all is_byte xs) (lt-ltb x 256 (h 0)) (bytes_are xs (λ i. h (suc i)))

pub are_is : (xs : List ℕ) → are_bytes xs ≡ true → IsBytes xs
unfolding are_bytes
are_is [] e i = omega arith
are_is (x ∷ xs) e zero = ltb-true x 256 (and_parts (nat_lt x 256) (list_all is_byte xs) e).0
are_is (x ∷ xs) e (suc i) = are_is xs (and_parts (nat_lt x 256) (list_all is_byte xs) e).1 i

-- what stands at the places of a file
standing_bytes : (ps : List Spot) (front zeros : List ℕ) → IsBytes front → IsBytes zeros → IsBytes (standing ps front zeros)
standing_bytes [] front zeros f z = is_bytes_nil
standing_bytes (p ∷ ps) front zeros f z =
    is_bytes_append (part p.at p.size front) (part p.behind p.hidden zeros ++ standing ps front zeros) (is_bytes_part p.at p.size front f)
    (is_bytes_append (part p.behind p.hidden zeros) (standing ps front zeros) (is_bytes_part p.behind p.hidden zeros z) (standing_bytes ps front zeros f z))

zeros_bytes : (last : Option Segment) (file : List ℕ) → IsBytes file → IsBytes (zeros_behind last file)
zeros_bytes None file h = is_bytes_nil
zeros_bytes (Some last) file h = is_bytes_part (last.offset + last.filesz) (last.memsz - last.filesz) file h

front_bytes : (u : Undo) (file : List ℕ) → IsBytes file → IsBytes (front_of u file)
front_bytes u file h = is_bytes_append (take u.cut file) (part (u.cut + u.shift) (u.length - u.cut) file) (is_bytes_take u.cut file h) (is_bytes_part (u.cut + u.shift) (u.length - u.cut) file h)

places_bytes : (o : List ℕ) (u : Undo) (file : List ℕ) → IsBytes file → IsBytes (places_in o (front_of u file) file)
places_bytes o u file h = standing_bytes (ps_of o) (front_of u file) (zeros_behind (last_load (ss_of o)) file) (front_bytes u file h) (zeros_bytes (last_load (ss_of o)) file h)

-- ---- steps that answered

of_some : {A B : Type 0} (o : Option A) (f : A → Option B) (y : B) → (o >>= f) ≡ Some y → (x : A) × (o ≡ Some x) × (f x ≡ Some y)
of_some None f y e = absurd cc
of_some (Some x) f y e = (x, refl, e)

when_some : {A : Type 0} (b : Bool) (o : Option A) (y : A) → when b o ≡ Some y → (b ≡ true) × (o ≡ Some y)
when_some true o y e = (refl, e)
when_some false o y e = absurd cc

same_marked : (m n : Marked) → ◌≡◌ {A = Option Marked} (Some m) (Some n) → m ≡ n
same_marked m n e = cc

same_object : (x y : Object) → ◌≡◌ {A = Option Object} (Some x) (Some y) → x ≡ y
same_object x y e = cc

same_lists : (k l : Lists) → ◌≡◌ {A = Option Lists} (Some k) (Some l) → k ≡ l
same_lists k l e = cc

spelled_ok : {X : Type 0} (r : Result X ListFault) (x : X) → spelled r ≡ Some x → r ≡ Ok x
spelled_ok (Ok y) x e = cc
spelled_ok (Err fault) x e = absurd cc

-- ---- an original, and lists

firm_by : (o : List ℕ) (x : Object) (r : Result Object Refusal) → reads o ≡ r → IsBytes o → length o < 2 ^ 32 → firm_if o r ≡ Some x → IsOwn o x
firm_by o x (Ok y) is bytes few e =
    let s = when_some (is_firm o y) (Some y) x e in
    subst (IsOwn o) (same_object y x s.1) (own_of o y bytes few is s.0)
firm_by o x (Err fault) is bytes few e = absurd cc

firm_own : (o : List ℕ) (x : Object) → IsBytes o → firm_object o ≡ Some x → IsOwn o x
unfolding firm_object
firm_own o x bytes e =
    let s = when_some (nat_lt (length o) (2 ^ 32)) (firm_if o (reads o)) x e in
    firm_by o x (reads o) refl bytes (ltb-true (length o) (2 ^ 32) s.0) s.1

section_most : (back : ℕ) (file : List ℕ) → length (section_from_end back file) ≤ length file
section_most back file = part_most (section file (header file) ((header file).shnum - back)) file

section_is_bytes : (back : ℕ) (file : List ℕ) → IsBytes file → IsBytes (section_from_end back file)
section_is_bytes back file h = let s = section file (header file) ((header file).shnum - back) in is_bytes_part s.offset s.size file h

lists_spelled : (library : Bool) (file : List ℕ) (l : Lists) → IsBytes file → lists_in library file ≡ Some l → AreSpelled library file l
unfolding lists_in
lists_spelled true file l bytes e =
    let t = section_from_end 3 file in
    let s = section_from_end 4 file in
    let r = of_some (spelled (list_of t s)) (λ list. Some (with_conflicts list [])) l e in
    let of = list_spelled t s r.0 (is_found t s r.0 (section_is_bytes 3 file bytes) (spelled_ok (list_of t s) r.0 r.1)) in
    subst (AreSpelled true file) (same_lists (with_conflicts r.0 []) l r.2) (library_spelled file (length s) (Some r.0) r.0 [] of refl (section_most 4 file) refl)
lists_spelled false file l bytes e =
    let t = section_from_end 4 file in
    let s = section_from_end 5 file in
    let c = section_from_end 3 file in
    let r = of_some (spelled (list_of t s)) (λ list. spelled (conflicts_of c) >>= λ conflicts. Some (with_conflicts list conflicts)) l e in
    let q = of_some (spelled (conflicts_of c)) (λ conflicts. Some (with_conflicts r.0 conflicts)) l r.2 in
    let of = list_spelled t s r.0 (is_found t s r.0 (section_is_bytes 4 file bytes) (spelled_ok (list_of t s) r.0 r.1)) in
    let rows = answer_found c (Ok q.0) (section_is_bytes 3 file bytes) (spelled_ok (conflicts_of c) q.0 q.1) in
    subst (AreSpelled false file) (same_lists (with_conflicts r.0 q.0) l q.2)
    (record { names = omega (arith, of.names, section_most 5 file); list = of.spelled; conflicts = rows.is_spelled; none = λ library. absurd (true≢false (sym library)) })

-- ---- what is read is a form

made_original : (front : List ℕ) (u : Undo) (o : List ℕ) (x : Object) (l : Lists) → (candidate front u o x l).original ≡ o
unfolding candidate
made_original front u o x l = refl

by_original : (file : List ℕ) (u : Undo) (o : List ℕ) (k : Marked) → length file ≤ STORED → IsBytes file → IsBytes k.original → marked_by file u o ≡ Some k → IsFormOf file k
unfolding marked_by
by_original file u o k small bytes original e =
    let front = front_of u file in
    let x = of_some (firm_object o) (λ y. lists_in (is_library y.kind) file >>= λ l. checked file u (candidate front u o y l)) k e in
    let l = of_some (lists_in (is_library x.0.kind) file) (λ l. checked file u (candidate front u o x.0 l)) k x.2 in
    let m = candidate front u o x.0 l.0 in
    let c = when_some (is_form file m (places_in m.original front file)) (Some m) k l.2 in
    let same : m ≡ k = same_marked m k c.1 in
    let own : IsBytes o = subst IsBytes (sym (ap (λ (n : Marked). n.original) same) ∙ made_original front u o x.0 l.0) original in
    let made = made_of front u o x.0 l.0 file (firm_own o x.0 own x.1) (lists_spelled (is_library x.0.kind) file l.0 bytes l.1) small in
    subst (IsFormOf file) same (sound file m (places_in m.original front file) made (places_bytes m.original u file bytes) small c.0)

by_bytes : (file : List ℕ) (k : Marked) → IsBytes file → IsBytes k.original → marked_of file ≡ Some k → IsFormOf file k
unfolding marked_of
by_bytes file k bytes original e =
    let s = when_some (nat_le (length file) STORED) (find_undo file >>= λ u. restored reader u file >>= marked_by file u) k e in
    let u = of_some (find_undo file) (λ u. restored reader u file >>= marked_by file u) k s.1 in
    let o = of_some (restored reader u.0 file) (marked_by file u.0) k u.2 in
    by_original file u.0 o.0 k (leb-true (length file) STORED s.0) bytes original o.2

pub forms_are_read : FormsAreRead
unfolding marked_in
forms_are_read file m bytes form = rw (complete file m form, bytes_are file bytes, bytes_are m.original form.firm.bytes) refl

pub nothing_else_is_read : NothingElseIsRead
unfolding marked_in
nothing_else_is_read file m e =
    let k = of_some (marked_of file) (of_bytes file) m e in
    let b = when_some (are_bytes file && are_bytes k.0.original) (Some k.0) m k.2 in
    let p = and_parts (are_bytes file) (are_bytes k.0.original) b.0 in
    subst (IsFormOf file) (same_marked k.0 m b.1) (by_bytes file k.0 (are_is file p.0) (are_is k.0.original p.1) k.1)

-- ---- originals

marks : (file : List ℕ) (n : Marked) → IsFormOf file n → is_ok (read file) ≡ true → has_mark file ≡ true
unfolding has_mark
marks file n form ok = rw (ok, undo_named file n form) refl

bare_object : (o : List ℕ) (x : Object) (found : Option Marked) → reads o ≡ Ok x → has_mark o ≡ false → marked_in o ≡ found → found ≡ None
bare_object o x None e plain is = refl
bare_object o x (Some n) e plain is = absurd (true≢false (sym (marks o n (nothing_else_is_read o n is) (reads_ok o x e)) ∙ plain))

bare_by : (file : List ℕ) (found : Option Marked) → marked_in file ≡ found → marked_in (original_or_file file found) ≡ None
bare_by file None e = e
bare_by file (Some m) e =
    let form = nothing_else_is_read file m e in
    bare_object m.original m.object (marked_in m.original) form.firm.accepted form.plain refl

pub originals_are_bare : OriginalsAreBare
unfolding original_in
originals_are_bare file = bare_by file (marked_in file) refl

-- ---- the whole

pub forms_are_told : FormsAreTold
unfolding file_in
forms_are_told file m bytes form = rw (forms_are_read file m bytes form) refl

none_by : (file : List ℕ) (found : Option Marked) → marked_in file ≡ found → IsNoForm file → found ≡ None
none_by file None e none = refl
none_by file (Some m) e none = absurd (none m (nothing_else_is_read file m e))

-- no form, so none is read
none_read : (file : List ℕ) → IsNoForm file → marked_in file ≡ None
none_read file none = none_by file (marked_in file) refl none

pub bad_are_told : BadAreTold
unfolding file_in
bad_are_told file bad = rw (none_read file bad.none, bad.mark) refl

pub plain_are_told : PlainAreTold
unfolding file_in
plain_are_told file is = rw (none_read file is.none, is.plain) refl
