-- A small format, and a mixture that breaks the rule where a run's stamp is past each mark's stamp but stands in a list.
use Rattle.std.proofs.Common.{◌≡◌, ℕ, zero, suc, ◌≤◌, Bool, true, false, List, [], ◌∷◌, get_or, Option, Some, None, Result, Ok, Err, refl, sym, ap, ◌∙◌, arith, inl, inr}
use Rattle.std.specs.Prelude.{◌⊎◌, ◌&&◌, map, if◌then◌else◌}
use Rattle.std.specs.Option.{is_some, option_or}
use Rattle.std.specs.List.{list_all}
use Rattle.std.specs.Str.{bytes_eq}
use Rattle.std.proofs.lemmas.Bool.{cases_Bool, false≢true, and_right}
use Rattle.pl_object.specs.declared.object.Object.{Object}
use Rattle.pl_elf.specs.declared.kind.Kind.TheVariants.{Program, Library}
use Rattle.pl_scope.specs.Members.{has}
use Rattle.pl_scope.specs.declared.fault.WalkFault.{WalkFault}
use Rattle.pl_scope.specs.declared.fault.WalkFault.TheVariants.{NotThere}
use Rattle.pl_scope.specs.Walk.{Walked}
use Rattle.law_sound.specs.Rule.{Row, Mark, Member, Format, IsFormat, Files, object_at, mark_at, member_at, row_of, row_at, row_eq, objects, walk_in, of_walk, prelinked_in, names_of, members, tells_walk, matches, Rule}
use Rattle.law_sound.specs.Plan.{Fit, fits, is_candidate, is_held, is_current, plan_of, planned_member, planned_in, all}
use Rattle.law_sound.specs.Laws.{MarksDoNotBound}
use Rattle.pl_scope.proofs.NameLaws.{same_name}
use Rattle.law_sound.proofs.SmallWalks.{walk_alone, walk_pair}

some_same : {X : Type 0} (x y : X) → Some x ≡ Some y → x ≡ y
some_same x y h = cc

none_some : {X : Type 0} (x : X) → None ≡ Some x → ⊥
none_some x h = cc

abbrev ok : {X : Type 0} → X → Result X WalkFault
ok x = Ok x

same_ok : {X : Type 0} (x y : X) → ok x ≡ ok y → x ≡ y
same_ok x y h = cc

abbrev program : List ℕ
program = 1 ∷ []

abbrev library : List ℕ
library = 2 ∷ []

-- ---- the format: a library is 0 and a content, marked 2, slot, stamp and content; a program is 1, marked 3, its library's stamp, slot and content, and its name

abbrev toy_mark : List ℕ → Option Mark
toy_mark (suc (suc zero) ∷ slot ∷ stamp ∷ x ∷ []) = Some (record { version = 0; slot = slot; stamp = stamp; list = [] })
toy_mark (suc (suc (suc zero)) ∷ stamp ∷ slot ∷ x ∷ name) = Some (record { version = 0; slot = 0; stamp = 0; list = record { name = name; stamp = stamp; checksum = 0 } ∷ [] })
toy_mark file = None

abbrev toy_original : List ℕ → List ℕ
toy_original (suc (suc zero) ∷ slot ∷ stamp ∷ x ∷ []) = zero ∷ x ∷ []
toy_original (suc (suc (suc zero)) ∷ stamp ∷ slot ∷ x ∷ name) = suc zero ∷ []
toy_original file = file

abbrev library_of : Object → Object
library_of any = record any { kind = Library; needed = [] }

abbrev program_of : Object → Object
program_of any = record any { kind = Program; needed = library ∷ [] }

abbrev toy_reads : Object → List ℕ → List ℕ → Result Object WalkFault
toy_reads any n (zero ∷ x ∷ []) = Ok (library_of any)
toy_reads any n (suc zero ∷ []) = Ok (program_of any)
toy_reads any n file = Err (NotThere n)

abbrev toy_library : List ℕ → ℕ → ℕ → ℕ → Option (List ℕ)
toy_library (zero ∷ x ∷ []) zero slot stamp = Some (2 ∷ slot ∷ stamp ∷ x ∷ [])
toy_library o version slot stamp = None

abbrev toy_program : List ℕ → ℕ → ℕ → ℕ → List ℕ → List ℕ → ℕ → ℕ → Option (List ℕ)
toy_program (suc zero ∷ []) zero zero zero name (zero ∷ x ∷ []) slot stamp = Some (3 ∷ stamp ∷ slot ∷ x ∷ name)
toy_program o version a b name p slot stamp = None

abbrev toy_prelinked : List Member → Option (List ℕ)
toy_prelinked [] = None
toy_prelinked (m ∷ []) = toy_library m.original m.version m.slot m.stamp
toy_prelinked (m ∷ l ∷ []) = toy_program m.original m.version m.slot m.stamp l.name l.original l.slot l.stamp
toy_prelinked (m ∷ l ∷ k ∷ ms) = None

abbrev toy : Object → Format WalkFault
toy any = record { original = toy_original; mark = toy_mark; reads = toy_reads any; absent = λ n. NotThere n; walks = λ fault. fault; checksum = λ o. 0; version = 0; prelinked = toy_prelinked }

bare : (file : List ℕ) → toy_mark (toy_original file) ≡ None
bare (suc (suc zero) ∷ slot ∷ stamp ∷ x ∷ []) = refl
bare (suc (suc (suc zero)) ∷ stamp ∷ slot ∷ x ∷ name) = refl
bare file = refl

abbrev mark_of : ℕ → ℕ → ℕ → List Row → Mark
mark_of version slot stamp list = record { version = version; slot = slot; stamp = stamp; list = list }

abbrev row : List ℕ → ℕ → Row
row name stamp = record { name = name; stamp = stamp; checksum = 0 }

library_made : (o : List ℕ) (version slot stamp : ℕ) (file : List ℕ) → toy_library o version slot stamp ≡ Some file → (toy_original file ≡ o) × (toy_mark file ≡ Some (mark_of version slot stamp []))
library_made (zero ∷ x ∷ []) zero slot stamp file h =
    let e : 2 ∷ slot ∷ stamp ∷ x ∷ [] ≡ file = some_same (2 ∷ slot ∷ stamp ∷ x ∷ []) file h in
    (ap toy_original (sym e), ap toy_mark (sym e))
library_made o version slot stamp file h = absurd (none_some file h)

program_made : (o : List ℕ) (version a b : ℕ) (name p : List ℕ) (slot stamp : ℕ) (file : List ℕ) → toy_program o version a b name p slot stamp ≡ Some file
    → (toy_original file ≡ o) × (toy_mark file ≡ Some (mark_of version a b (row name stamp ∷ [])))
program_made (suc zero ∷ []) zero zero zero name (zero ∷ x ∷ []) slot stamp file h =
    let e : 3 ∷ stamp ∷ slot ∷ x ∷ name ≡ file = some_same (3 ∷ stamp ∷ slot ∷ x ∷ name) file h in
    (ap toy_original (sym e), ap toy_mark (sym e))
program_made o version a b name p slot stamp file h = absurd (none_some file h)

original_made : (m : Member) (ms : List Member) (file : List ℕ) → toy_prelinked (m ∷ ms) ≡ Some file → toy_original file ≡ m.original
original_made m [] file h = (library_made m.original m.version m.slot m.stamp file h).0
original_made m (l ∷ []) file h = (program_made m.original m.version m.slot m.stamp l.name l.original l.slot l.stamp file h).0
original_made m (l ∷ k ∷ ms) file h = absurd (none_some file h)

mark_made : (any : Object) (m : Member) (ms : List Member) (file : List ℕ) → toy_prelinked (m ∷ ms) ≡ Some file → toy_mark file ≡ Some (mark_of m.version m.slot m.stamp (map (row_of (toy any)) ms))
mark_made any m [] file h = (library_made m.original m.version m.slot m.stamp file h).1
mark_made any m (l ∷ []) file h = (program_made m.original m.version m.slot m.stamp l.name l.original l.slot l.stamp file h).1
mark_made any m (l ∷ k ∷ ms) file h = absurd (none_some file h)

kinds : (any : Object) (n file : List ℕ) (k : Mark) (o : Object) → toy_mark file ≡ Some k → toy_reads any n (toy_original file) ≡ Ok o → (o.kind ≡ Library) ⊎ ((o.kind ≡ Program) × (k.slot ≡ 0) × (k.stamp ≡ 0))
kinds any n (suc (suc zero) ∷ slot ∷ stamp ∷ x ∷ []) k o h r = inl (ap (λ (z : Object). z.kind) (sym (same_ok (library_of any) o r)))
kinds any n (suc (suc (suc zero)) ∷ stamp ∷ slot ∷ x ∷ name) k o h r =
    let e : mark_of 0 0 0 (row name stamp ∷ []) ≡ k = some_same (mark_of 0 0 0 (row name stamp ∷ [])) k h in
    inr (ap (λ (z : Object). z.kind) (sym (same_ok (program_of any) o r)), ap (λ (z : Mark). z.slot) (sym e), ap (λ (z : Mark). z.stamp) (sym e))
kinds any n file k o h r = absurd (none_some k h)

toy_laws : (any : Object) → IsFormat (toy any)
toy_laws any = record { bare = bare; original = original_made; mark = mark_made any; kinds = kinds any }

-- ---- the folder: a program whose list has the stamp 5, and its library, written anew since and not marked

abbrev old : Files
old n = if bytes_eq program n then Some (3 ∷ 5 ∷ 9 ∷ 7 ∷ library) else (if bytes_eq library n then Some (0 ∷ 8 ∷ []) else None)

abbrev fit : Fit
fit = record { is_sound = λ o. true; links = λ os. true }

abbrev slots : List ℕ → ℕ
slots n = 9

abbrev mixed : Object → Files
mixed any n = if bytes_eq program n then Some (3 ∷ 5 ∷ 9 ∷ 7 ∷ library) else all (toy any) fit old slots 5 n

-- the walks of the program and of the library, in a folder that has both
abbrev both : Object → Walked
both any = (program, program_of any) ∷ (library, library_of any) ∷ []

walk_of : (any : Object) (files : Files) → objects (toy any) files program ≡ Ok (program_of any) → objects (toy any) files library ≡ Ok (library_of any) → walk_in (toy any) files program ≡ Ok (both any)
walk_of any files first second = walk_pair (toy any).walks (objects (toy any) files) program library (program_of any) (library_of any) first refl refl second refl refl

no_match : (any : Object) → matches (toy any) old program ≡ false
no_match any = ap (tells_walk (toy any) old (mark_at (toy any) (old program))) (walk_of any old refl refl)

walk_library : (any : Object) → walk_in (toy any) old library ≡ Ok ((library, library_of any) ∷ [])
walk_library any = walk_alone (toy any).walks (objects (toy any) old) library (library_of any) refl refl

not_current : (any : Object) → is_current (toy any) fit old slots library ≡ false
not_current any = and_right (is_candidate (toy any) fit old library) (matches (toy any) old library && list_all (is_held (toy any) old slots) (members (toy any) old library)) refl

candidate : (any : Object) → is_candidate (toy any) fit old library ≡ true
candidate any = ap (fits (toy any) fit old (Ok (library_of any))) (walk_library any)

planned : (any : Object) → planned_in (toy any) old (plan_of (toy any) fit old slots 5) library ≡ Some (2 ∷ 9 ∷ 5 ∷ 8 ∷ [])
planned any =
    ap (of_walk (toy any) (planned_member (toy any) old (plan_of (toy any) fit old slots 5))) (walk_library any)
    ∙ ap (λ (b : Bool). Some (2 ∷ 9 ∷ (if b then 0 else 5) ∷ 8 ∷ [])) (not_current any)

new_library : (any : Object) → all (toy any) fit old slots 5 library ≡ Some (2 ∷ 9 ∷ 5 ∷ 8 ∷ [])
new_library any =
    ap (λ (b : Bool). option_or (if b then planned_in (toy any) old (plan_of (toy any) fit old slots 5) library else None) (Some (0 ∷ 8 ∷ []))) (candidate any)
    ∙ ap (λ (x : Option (List ℕ)). option_or x (Some (0 ∷ 8 ∷ []))) (planned any)

walk_mixed : (any : Object) → walk_in (toy any) (mixed any) program ≡ Ok (both any)
walk_mixed any = walk_of any (mixed any) refl (ap (object_at (toy any) library) (new_library any))

matches_mixed : (any : Object) → matches (toy any) (mixed any) program ≡ true
matches_mixed any =
    ap (tells_walk (toy any) (mixed any) (mark_at (toy any) (mixed any program))) (walk_mixed any)
    ∙ ap (λ (file : Option (List ℕ)). (is_some (mark_at (toy any) file) && true) && (row_eq (row library 5) (row_at (toy any) library file) && true)) (new_library any)

member_mixed : (any : Object) → has (members (toy any) (mixed any) program) program ≡ true
member_mixed any = ap (λ (r : Result Walked WalkFault). has (names_of r) program) (walk_mixed any)

meant_mixed : (any : Object) → prelinked_in (toy any) (mixed any) program ≡ Some (3 ∷ 5 ∷ 9 ∷ 8 ∷ library)
meant_mixed any =
    ap (of_walk (toy any) (λ m. member_at (toy any) m (mixed any m))) (walk_mixed any)
    ∙ ap (λ (file : Option (List ℕ)). toy_prelinked (member_at (toy any) program (mixed any program) ∷ member_at (toy any) library file ∷ [])) (new_library any)

-- ---- the old folder meets the rule, since nothing matches

old_library : (any : Object) (n : List ℕ) → bytes_eq program n ≡ false → mark_at (toy any) (old n) ≡ None
old_library any n h = elim (cases_Bool (bytes_eq library n)) [ inl t ↦ rw (h, t) refl | inr t ↦ rw (h, t) refl ]

old_rule : (any : Object) → Rule (toy any) old
old_rule any n m h t = elim (cases_Bool (bytes_eq program n)) [
  | inl e ↦ absurd (false≢true (sym (no_match any) ∙ (ap (matches (toy any) old) (same_name program n e) ∙ h)))
  | inr e ↦ absurd (false≢true (ap (λ (k : Option Mark). tells_walk (toy any) old k (walk_in (toy any) old n)) (sym (old_library any n e)) ∙ h))
]

old_marks : (any : Object) (n file : List ℕ) (k : Mark) → old n ≡ Some file → toy_mark file ≡ Some k → k.stamp ≤ 0
old_marks any n file k there marked = elim (cases_Bool (bytes_eq program n)) [
  | inl e ↦
      let is : Some (3 ∷ 5 ∷ 9 ∷ 7 ∷ library) ≡ Some file = sym (rw e refl) ∙ there in
      let k_is : mark_of 0 0 0 (row library 5 ∷ []) ≡ k =
      some_same (mark_of 0 0 0 (row library 5 ∷ [])) k (ap toy_mark (some_same (3 ∷ 5 ∷ 9 ∷ 7 ∷ library) file is) ∙ marked) in
      omega (arith, ap (λ (z : Mark). z.stamp) k_is)
  | inr e ↦ absurd (none_some k (sym (old_library any n e) ∙ (ap (mark_at (toy any)) there ∙ marked)))
]

each_mixed : (any : Object) (n : List ℕ) → (mixed any n ≡ old n) ⊎ (mixed any n ≡ all (toy any) fit old slots 5 n)
each_mixed any n = elim (cases_Bool (bytes_eq program n)) [ inl e ↦ inl (rw e refl) | inr e ↦ inr (ap (λ (b : Bool). if b then Some (3 ∷ 5 ∷ 9 ∷ 7 ∷ library) else all (toy any) fit old slots 5 n) e) ]

pub marks_do_not_bound : (any : Object) → MarksDoNotBound any
marks_do_not_bound any law =
    let rule : Rule (toy any) (mixed any) = law (toy any) (toy_laws any) fit old (mixed any) slots 0 5 (old_rule any) (old_marks any) (omega arith) (each_mixed any) in
    differ (sym (meant_mixed any) ∙ rule program program (matches_mixed any) (member_mixed any))
  where
    differ : Some (3 ∷ 5 ∷ 9 ∷ 8 ∷ library) ≡ Some (3 ∷ 5 ∷ 9 ∷ 7 ∷ library) → ⊥
    differ h = never 8 7 refl refl (ap (λ (z : List ℕ). get_or z 3 0) (some_same (3 ∷ 5 ∷ 9 ∷ 8 ∷ library) (3 ∷ 5 ∷ 9 ∷ 7 ∷ library) h))
      where
        never : (a b : ℕ) → a ≡ 8 → b ≡ 7 → a ≡ b → ⊥
        never a b e f h = omega arith
