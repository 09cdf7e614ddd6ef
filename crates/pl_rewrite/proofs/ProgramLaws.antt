-- The prelinked file of a program, as the code makes it.
use Rattle.std.proofs.Common.{◌≡◌, ℕ, ◌<◌, ◌≤◌, ◌^◌, true, false, List, [], ◌∷◌, length, map, Option, Some, None, Result, Ok, Err, refl, sym, ap, subst, ◌∙◌, arith, inl, inr}
use Rattle.std.specs.Prelude.{nat_le, nat_lt, filter}
use Rattle.std.specs.List.{concat, list_all}
use Rattle.std.proofs.lemmas.Bool.{cases_Bool, and_from, false≢true, ltb-false, ltb-true, le-leb}
use Rattle.std.proofs.lemmas.Bool.Decides.{nat_tests}
use Rattle.std.proofs.lemmas.List.{length-map}
use Rattle.std.proofs.lemmas.Option.{none-some}
use Rattle.pl_base.specs.Answers.{because, ◌>>=◌}
use Rattle.pl_base.specs.Memory.{read}
use Rattle.pl_base.proofs.AnswerLaws.{ok_same}
use Rattle.pl_conflict.specs.Compared.{AreCompared}
use Rattle.pl_conflict.specs.Conflicts.{ascending, conflicts, rows_of}
use Rattle.pl_conflict.specs.Format.{number_of}
use Rattle.pl_conflict.specs.Prelinked as prelinked
use Rattle.pl_conflict.specs.Prelinked.{Firm, are_set, has_numbers, is_program_place, list_of, objects_of, originals_of, parts_of, program_by, slots_of, version_of, with_rows}
use Rattle.pl_conflict.proofs.ConflictLaws.{placed_again}
use Rattle.pl_conflict.proofs.GivenLaws.{own_meanings}
use Rattle.pl_conflict.proofs.MemberLaws.{HasOwn, IsSet, program_numbers, set_is}
use Rattle.pl_conflict.proofs.ScopeLaws.{set_placed}
use Rattle.pl_elf.specs.Kinds.{is_library, is_program, is_static}
use Rattle.pl_elf.specs.declared.kind.Kind.{Kind}
use Rattle.pl_elf.specs.declared.kind.Kind.TheVariants.{Program, Library, Static}
use Rattle.pl_form.specs.Program.{IsFirmProgram, program_with}
use Rattle.pl_form.specs.Program as form
use Rattle.pl_form.specs.Words.{flat_of}
use Rattle.pl_form.specs.declared.version.Version.{Version}
use Rattle.pl_form.specs.declared.constants.TheConstants.{STORED}
use Rattle.pl_form.specs.declared.file.Fill.{Fill}
use Rattle.pl_form.specs.declared.fault.FormFault.{FormFault}
use Rattle.pl_form.specs.declared.fault.FormFault.TheVariants.{TooLarge}
use Rattle.pl_image.specs.Loads.{IsPlaced, pieces_at}
use Rattle.pl_lists.specs.declared.conflict_row.ConflictRow.{ConflictRow}
use Rattle.pl_lists.specs.declared.list_row.ListRow.{ListRow}
use Rattle.pl_object.proofs.AcceptedLaws.{accepted}
use Rattle.pl_tls.specs.declared.block.Block.{Block}
use Rattle.pl_tls.specs.Layout.{offsets}
use Rattle.pl_tls.specs.declared.fault.TlsFault.{TlsFault}
use Rattle.pl_tls.specs.declared.module.Module.{Module}
use Rattle.pl_value.specs.Meanings.{meanings}
use Rattle.pl_value.specs.Ordinary.{ArePlaced, loaded_objects}
use Rattle.pl_value.specs.declared.meaning.Meaning.{Meaning}
use Rattle.pl_value.proofs.PlaceLaws.{relocs_held}
use Rattle.pl_rewrite.specs.Fills.{fills, fills_of, memory_of}
use Rattle.pl_rewrite.specs.Fills.{AreFirstFills, IsProgramSet, conflicts_with, form_of, result_ok}
use Rattle.pl_rewrite.specs.Sources.{AreSources, firm}
use Rattle.pl_rewrite.proofs.FillLaws.{are_fills, flat_same}
use Rattle.pl_rewrite.proofs.FirmLaws.{accepted_all, own_all, version_back}

-- ---- where the members are loaded

first_placed : (r : Firm) (rs : List Firm) → AreSources (r ∷ rs) → IsSet r rs → ArePlaced (slots_of (r ∷ rs)) (originals_of (r ∷ rs)) (objects_of (r ∷ rs))
first_placed r rs are set = set_placed (r ∷ rs) (own_all (r ∷ rs) are) (and_from (has_numbers r) (list_all has_numbers rs) set.first set.numbers) set.apart

no_set : are_set [] ≡ true → ⊥
unfolding are_set
no_set e = false≢true e

pub originals_placed : (rs : List Firm) → AreSources rs → IsProgramSet rs → ArePlaced (slots_of rs) (originals_of rs) (objects_of rs)
originals_placed [] are set = absurd (no_set set.set)
originals_placed (r ∷ rs) are set = first_placed r rs are (set_is r rs set.set)

pub parts_placed : (rs : List Firm) → AreSources rs → IsProgramSet rs → ArePlaced (slots_of rs) (parts_of rs) (objects_of rs)
parts_placed rs are set = placed_again (objects_of rs) (slots_of rs) (originals_of rs) (parts_of rs) (originals_placed rs are set)

-- ---- the first of them

program_kind : (kind : Kind) → is_library kind ≡ false → is_static kind ≡ false → is_program kind ≡ true
program_kind Program e f = refl
program_kind Library e f = absurd (false≢true (sym e))
program_kind Static e f = absurd (false≢true (sym f))

pub firm_program : (r : Firm) → HasOwn r → is_library r.object.kind ≡ false → IsFirmProgram r.member.original r.object
firm_program r own other = record { firm = own.firm; program = program_kind r.object.kind other own.firm.dynamic }

-- ---- its fills

pub first_fills : (rs : List Firm) (gs : List Meaning) (fs : List Fill) → fs ≡ fills_of rs (memory_of rs gs) → AreFirstFills rs fs
first_fills [] gs fs is = tt
first_fills (r ∷ rs) gs fs is = subst (λ (xs : List Fill). AreFirstFills (r ∷ rs) xs) (sym is) (are_fills (memory_of (r ∷ rs) gs) r.object.relocations)

flat_is : (rs : List Firm) (gs : List Meaning) → prelinked.flat_of rs gs ≡ concat (map (λ g. read (memory_of rs gs) g.start g.size) (filter is_program_place gs))
unfolding prelinked.flat_of
flat_is rs gs = refl

flat_fills : (r : Firm) (rs : List Firm) (modules : List Module) (gs : List Meaning) → AreSources (r ∷ rs) → is_library r.object.kind ≡ false → IsSet r rs → meanings (objects_of (r ∷ rs)) (slots_of (r ∷ rs)) modules ≡ Ok gs
    → flat_of (fills (memory_of (r ∷ rs) gs) r.object.relocations) ≡ prelinked.flat_of (r ∷ rs) gs
flat_fills r rs modules gs are program set given =
    let all = r ∷ rs in
    let own : HasOwn r = own_all all are 0 r (omega arith) in
    let at : r.member.slot ≡ 0 = (program_numbers r set.first program).0 in
    let placed : IsPlaced r.member.slot r.object = (first_placed r rs are set).placed 0 r.object (omega arith) in
    let zero_placed : IsPlaced 0 r.object = subst (λ (n : ℕ). IsPlaced n r.object) at placed in
    flat_same (objects_of all) (slots_of all) modules (memory_of all gs) (pieces_at 0 r.member.original r.object) r.object.symbols r.object.relocations (filter is_program_place gs) at
    (own_meanings r.object (objects_of rs) (slots_of all) modules gs given) (relocs_held 0 r.member.original r.member.original r.object zero_placed own.firm.accepted)
    (accepted r.member.original r.object own.firm.accepted).widths
    ∙ sym (flat_is all gs)

form_is : (rs : List Firm) (modules : List Module) (gs : List Meaning) (rows : List ConflictRow) → AreSources rs → IsProgramSet rs → meanings (objects_of rs) (slots_of rs) modules ≡ Ok gs → form_of rs (fills_of rs (memory_of rs gs)) rows ≡ program_by rs gs rows
form_is [] modules gs rows are set given = refl
form_is (r ∷ rs) modules gs rows are set given =
    ap (λ (flat : List ℕ). Some (program_with r.member.original (list_of rs) flat rows (version_of r.member.version))) (flat_fills r rs modules gs are set.first (set_is r rs set.set) given)

-- ---- answers

pub link_none : {X E F : Type 0} (fault : E → F) (r : Result X E) (e : F) → because fault r ≡ Err e → None ≡ result_ok r
link_none fault (Ok x) e is = absurd cc
link_none fault (Err f) e is = refl

pub ok_of : {X E : Type 0} (r : Result X E) (x : X) → Some x ≡ result_ok r → r ≡ Ok x
ok_of (Ok y) x is = cc
ok_of (Err e) x is = absurd cc

both_rows : {E F : Type 0} (rs : List Firm) (m : Result (List Meaning) E) (c : Result (List ConflictRow) F) (gs : List Meaning) (rows : List ConflictRow) → m ≡ Ok gs → c ≡ Ok rows → with_rows rs m c ≡ program_by rs gs rows
both_rows rs m c gs rows is made = rw (is, made) refl

abbrev of_program : List Firm → List Module → Option (List ℕ)
of_program rs modules = with_rows rs (meanings (objects_of rs) (slots_of rs) modules) (conflicts (objects_of rs) (parts_of rs) (slots_of rs) modules)

no_rows : {E F : Type 0} (rs : List Firm) (m : Result (List Meaning) E) (c : Result (List ConflictRow) F) → None ≡ result_ok c → with_rows rs m c ≡ None
no_rows rs (Err e) c is = refl
no_rows rs (Ok gs) (Err e) is = refl
no_rows rs (Ok gs) (Ok rows) is = absurd (none-some rows is)

pub without_rows : (rs : List Firm) (modules : List Module) → None ≡ conflicts_with rs modules → None ≡ prelinked.stored (of_program rs modules)
without_rows rs modules is =
    sym (ap prelinked.stored (no_rows rs (meanings (objects_of rs) (slots_of rs) modules) (conflicts (objects_of rs) (parts_of rs) (slots_of rs) modules) is))

refused_next : {X Y E : Type 0} (m : Result X E) (f : X → Result Y E) → None ≡ result_ok m → None ≡ result_ok (m >>= f)
refused_next (Err e) f is = refl
refused_next (Ok x) f is = absurd (none-some x is)

-- where a relocation has no value there are no conflict rows
pub no_conflicts : (rs : List Firm) (modules : List Module) → None ≡ result_ok (meanings (objects_of rs) (slots_of rs) modules) → None ≡ conflicts_with rs modules
unfolding conflicts
no_conflicts rs modules is = refused_next (meanings (objects_of rs) (slots_of rs) modules) (λ gs. Ok (ascending (rows_of (loaded_objects (slots_of rs) (parts_of rs) (objects_of rs)) gs))) is

pub made_with : (rs : List Firm) (modules : List Module) (gs : List Meaning) (rows : List ConflictRow) → AreSources rs → IsProgramSet rs → meanings (objects_of rs) (slots_of rs) modules ≡ Ok gs → conflicts (objects_of rs) (parts_of rs) (slots_of rs) modules ≡ Ok rows
    → prelinked.stored (form_of rs (fills_of rs (memory_of rs gs)) rows) ≡ prelinked.stored (of_program rs modules)
made_with rs modules gs rows are set given rowed =
    ap prelinked.stored (form_is rs modules gs rows are set given
    ∙ sym (both_rows rs (meanings (objects_of rs) (slots_of rs) modules) (conflicts (objects_of rs) (parts_of rs) (slots_of rs) modules) gs rows given rowed))

-- what conflicts are compared with
pub are_compared : (rs : List Firm) → AreSources rs → IsProgramSet rs → AreCompared (objects_of rs) (slots_of rs) (parts_of rs)
are_compared rs are set = record {
  one_each = length-map rs (λ (r : Firm). r.member.slot) ∙ sym (length-map rs (λ (r : Firm). r.object));
  each_part = length-map rs (prelinked.part_of rs) ∙ sym (length-map rs (λ (r : Firm). r.object));
  accepted = accepted_all rs (own_all rs are);
  placed = parts_placed rs are set;
}

-- ---- files that a folder stores

pub stored_small : (file : List ℕ) → length file ≤ STORED → Some file ≡ prelinked.stored (Some file)
stored_small file le = rw (le-leb (length file) STORED le) refl

pub stored_large : (file : List ℕ) → STORED < length file → None ≡ prelinked.stored (Some file)
stored_large file lt =
    let no : nat_le (length file) STORED ≡ false = grind (arith, nat_tests) in
    rw no refl

pub form_stored : (made file : List ℕ) → form.stored made ≡ Ok file → Some file ≡ prelinked.stored (Some made)
form_stored made file is = elim (cases_Bool (nat_lt STORED (length made))) [
  | inl large ↦ absurd (bad made file (rw large at is))
  | inr small ↦
      let same : made ≡ file = ok_same made file (rw small at is) in
      ap (λ (xs : List ℕ). Some xs) (sym same) ∙ stored_small made (ltb-false STORED (length made) small)
]
  where
    bad : (form file : List ℕ) → ◌≡◌ {A = Result (List ℕ) FormFault} (Err TooLarge) (Ok file) → ⊥
    bad form file e = absurd cc

pub form_too_large : (made : List ℕ) (e : FormFault) → form.stored made ≡ Err e → None ≡ prelinked.stored (Some made)
form_too_large made e is = elim (cases_Bool (nat_lt STORED (length made))) [
  | inl large ↦ stored_large made (ltb-true STORED (length made) large)
  | inr small ↦ absurd (bad made e (rw small at is))
]
  where
    bad : (form : List ℕ) (e : FormFault) → ◌≡◌ {A = Result (List ℕ) FormFault} (Ok form) (Err e) → ⊥
    bad form e h = absurd cc

-- ---- thread-local storage

pub blocks_same : (rs : List Firm) → map (λ r. r.object.tls) rs ≡ map (λ o. o.tls) (objects_of rs)
blocks_same [] = refl
blocks_same (r ∷ rs) = ap (λ (bs : List (Option Block)). r.object.tls ∷ bs) (blocks_same rs)

-- the file by the modules
pub modules_file : (rs : List Firm) (blocks : List (Option Block)) (modules given : List Module) → blocks ≡ map (λ r. r.object.tls) rs → offsets blocks ≡ Ok modules → given ≡ modules → prelinked.stored (prelinked.with_modules {E = TlsFault} rs (Ok given)) ≡ prelinked.stored (prelinked.program_file rs)
unfolding prelinked.program_file
modules_file rs blocks modules given is numbered same =
    let one : offsets (map (λ o. o.tls) (objects_of rs)) ≡ Ok modules = ap offsets (sym (is ∙ blocks_same rs)) ∙ numbered in
    ap (λ (ms : List Module). prelinked.stored (prelinked.with_modules {E = TlsFault} rs (Ok ms))) same
    ∙ ap (λ (r : Result (List Module) TlsFault). prelinked.stored (prelinked.with_modules rs r)) (sym one)

pub modules_none : (rs : List Firm) (blocks : List (Option Block)) (e : TlsFault) → blocks ≡ map (λ r. r.object.tls) rs → offsets blocks ≡ Err e → None ≡ prelinked.stored (prelinked.program_file rs)
unfolding prelinked.program_file
modules_none rs blocks e is refused =
    let one : offsets (map (λ o. o.tls) (objects_of rs)) ≡ Err e = ap offsets (sym (is ∙ blocks_same rs)) ∙ refused in
    ap (λ (r : Result (List Module) TlsFault). prelinked.stored (prelinked.with_modules rs r)) (sym one)

-- ---- what a slice pattern takes

pub first_program : (r : Firm) (rs : List Firm) → AreSources (r ∷ rs) → is_library r.object.kind ≡ false → IsFirmProgram r.member.original r.object
first_program r rs are other = firm_program r (own_all (r ∷ rs) are 0 r (omega arith)) other

pub first_made : (all : List Firm) (r : Firm) (rs : List Firm) (gs : List Meaning) (fs : List Fill) → all ≡ r ∷ rs → fs ≡ fills (memory_of all gs) r.object.relocations → fs ≡ fills_of all (memory_of all gs)
first_made all r rs gs fs is made = rw is (rw is at made)

-- ---- the form as it is written

pub form_firm : (r : Firm) (rs : List Firm) (fs : List Fill) (rows : List ConflictRow) (list : List ListRow) (v : Version) → r.member.version ≡ number_of v → list ≡ list_of rs → Some (form.program_form r.member.original list fs rows v) ≡ form_of (r ∷ rs) fs rows
form_firm r rs fs rows list v version is =
    let same : version_of r.member.version ≡ v = ap version_of version ∙ version_back v in
    ap (λ (ls : List ListRow). Some (form.program_form r.member.original ls fs rows v)) is
    ∙ ap (λ (w : Version). Some (form.program_form r.member.original (list_of rs) fs rows w)) (sym same)
