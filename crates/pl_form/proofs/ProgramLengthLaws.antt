-- How long the undo section and the form of a program are, before there is a form.
use Rattle.std.proofs.Common.{[], ◌∷◌, ◌++◌, ◌≡◌, ℕ, ◌+◌, ◌-◌, ◌^◌, ◌<◌, ◌≤◌, false, List, length, replicate, Option, Some, refl, sym, subst, ap, ◌∙◌, arith}
use Rattle.std.specs.Prelude.{not}
use Rattle.std.specs.List.{list_any, AllByRecursion}
use Rattle.std.proofs.lemmas.List.{length-append, length-replicate}
use Rattle.pl_base.proofs.WindowLaws.{length-⊕}
use Rattle.pl_base.specs.Sums.{round_up}
use Rattle.pl_base.specs.Windows.{Window, AllIn, ◌⊕◌}
use Rattle.pl_elf.specs.Clauses.{AreLoads}
use Rattle.pl_elf.specs.Headers.{loads}
use Rattle.pl_elf.specs.declared.segment.Segment.{Segment}
use Rattle.pl_object.specs.Accepted.{is_exec}
use Rattle.pl_object.specs.PlaceClauses.{is_held, last_load, reloc_outside}
use Rattle.pl_object.specs.Relocations.{places}
use Rattle.pl_object.specs.declared.object.Object.{Object}
use Rattle.pl_object.proofs.AcceptedLaws.{accepted}
use Rattle.pl_form.proofs.AcceptedIs.{segments_are}
use Rattle.pl_form.proofs.LoadFacts.{all_held, last_is}
use Rattle.pl_form.proofs.LoadTheorem.{zeros_agree}
use Rattle.pl_form.proofs.OverlapLaws.{zeros_apart}
use Rattle.pl_form.proofs.PlaceByteLaws.{IsHeld, IsOwn, is_own, hidden_in}
use Rattle.pl_form.proofs.SizeLaws.{total, apart_fit}
use Rattle.pl_form.specs.Back.{spot_windows, wanted}
use Rattle.pl_form.specs.Forms.{original_of, undo_part}
use Rattle.pl_form.specs.Found.{ss_of, ps_of, places_of, zeros_from}
use Rattle.pl_form.specs.PartLaws.{IsDigest}
use Rattle.pl_form.specs.Loads.{spots_of, hidden_windows}
use Rattle.pl_form.specs.Parts.{joined_size, old_names, names_part, table_at, program_plan, zeros_part, extension_at, lists_part, extension, whole_extension}
use Rattle.pl_form.specs.declared.parts.Extension.{Extension}
use Rattle.pl_form.specs.declared.parts.Spot.{Spot}
use Rattle.pl_form.specs.Extending.{IsShort}
use Rattle.pl_form.specs.Faults.{IsFirm}
use Rattle.pl_form.specs.Program.{last_index}
use Rattle.pl_form.proofs.ExtensionLaws.{round_near}
use Rattle.pl_form.proofs.FirmLaws.{last_found}
use Rattle.pl_form.proofs.LengthLaws.{accepted_small, original_accepted, places_same, places_apart, spots_inside, spots_fit, undo_short, names_most}

-- ---- the places of a program

held_places : (o : List ℕ) (x : Object) (last : Segment) → IsFirm o x → last_load (ss_of o) ≡ Some last → AllByRecursion (IsHeld (ss_of o) last) (places_of o)
unfolding reloc_outside
held_places o x last firm at =
    let acc = accepted o x firm.accepted in
    let a : list_any (λ memory. not (is_held (is_exec x) (ss_of o) memory)) (places x.relocations) ≡ false = subst (λ (ss : List Segment). list_any (λ memory. not (is_held (is_exec x) ss memory)) (places x.relocations) ≡ false) (segments_are o x acc) acc.held in
    all_held (is_exec x) (ss_of o) last (places_of o) at (subst (λ (ws : List Window). list_any (λ memory. not (is_held (is_exec x) (ss_of o) memory)) ws ≡ false) (places_same o x firm) a)

loads_are : (o : List ℕ) (x : Object) → IsFirm o x → AreLoads (loads (ss_of o))
loads_are o x firm = let acc = accepted o x firm.accepted in subst (λ (ss : List Segment). AreLoads (loads ss)) (segments_are o x acc) acc.loads

own_last : (o : List ℕ) (x : Object) (last : Segment) → IsFirm o x → last_load (ss_of o) ≡ Some last → last.filesz ≤ last.memsz → IsOwn (ss_of o) last
own_last o x last firm at fits =
    let f = last_found (ss_of o) last at in
    is_own (ss_of o) (last_index (ss_of o)) last last (loads_are o x firm) f.0 (last_is (ss_of o) last at).load fits (f.1 last)

-- those of their bytes that are hidden lie in the zeros
pub hidden_inside : (o : List ℕ) (x : Object) (last : Segment) → IsFirm o x → last_load (ss_of o) ≡ Some last → last.filesz ≤ last.memsz → AllIn (last.memsz - last.filesz) (hidden_windows (ps_of o))
hidden_inside o x last firm at fits =
    let start : zeros_from (last_load (ss_of o)) ≡ last.vaddr + last.filesz = ap zeros_from at in
    subst (λ (n : ℕ). AllIn (last.memsz - last.filesz) (hidden_windows (spots_of (ss_of o) n (places_of o)))) (sym start)
    (hidden_in (ss_of o) last (places_of o) fits (own_last o x last firm at fits) (held_places o x last firm at))

hidden_fit : (o : List ℕ) (x : Object) (last : Segment) → IsFirm o x → last_load (ss_of o) ≡ Some last → last.filesz ≤ last.memsz → total (hidden_windows (ps_of o)) ≤ last.memsz - last.filesz
hidden_fit o x last firm at fits =
    let start : zeros_from (last_load (ss_of o)) ≡ last.vaddr + last.filesz = ap zeros_from at in
    let own = own_last o x last firm at fits in
    let held = held_places o x last firm at in
    subst (λ (n : ℕ). total (hidden_windows (spots_of (ss_of o) n (places_of o))) ≤ last.memsz - last.filesz) (sym start)
    (apart_fit (hidden_windows (spots_of (ss_of o) (last.vaddr + last.filesz) (places_of o))) (last.memsz - last.filesz)
    (zeros_apart (ss_of o) last (places_of o) fits own held (places_apart o x firm)) (hidden_in (ss_of o) last (places_of o) fits own held))

wanted_parts : (ps : List Spot) → wanted ps ≡ total (spot_windows ps) + total (hidden_windows ps)
wanted_parts [] = refl
wanted_parts (p ∷ ps) = omega (arith, wanted_parts ps)

pub program_wanted : (o : List ℕ) (x : Object) (last : Segment) → IsFirm o x → last_load (ss_of o) ≡ Some last → last.filesz ≤ last.memsz → wanted (ps_of o) ≤ length o + (last.memsz - last.filesz)
program_wanted o x last firm at fits = omega (arith, wanted_parts (ps_of o), spots_fit o x firm, hidden_fit o x last firm at fits)

-- ---- what is inserted

length-lists : (e : Extension) → length (lists_part e) ≤ length e.strings + (length e.rows + length e.conflicts) + 14
length-lists e = omega (arith, length-⊕ (e.strings ⊕ e.rows) e.conflicts, length-⊕ e.strings e.rows)

length-zeros : (last : Segment) (ps : List Spot) (flat : List ℕ) → length flat ≡ wanted ps → AllIn (last.memsz - last.filesz) (hidden_windows ps) → length (zeros_part last ps flat) ≡ last.memsz - last.filesz
length-zeros last ps flat filled inside = (zeros_agree last ps flat filled inside).size ∙ length-replicate {A = ℕ} (last.memsz - last.filesz) 0

pub extension_short : (last : Segment) (ps : List Spot) (flat : List ℕ) (e : Extension) → length flat ≡ wanted ps → AllIn (last.memsz - last.filesz) (hidden_windows ps)
    → length (extension last ps flat e) ≤ last.memsz - last.filesz + (length e.strings + (length e.rows + length e.conflicts)) + 29
unfolding extension
extension_short last ps flat e filled inside =
    let gap : List ℕ = replicate (extension_at last - (last.vaddr + last.memsz)) 0 in
    omega (
      arith,
      length-append (zeros_part last ps flat) (gap ++ lists_part e),
      length-append gap (lists_part e),
      length-zeros last ps flat filled inside,
      length-lists e,
      length-replicate {A = ℕ} (extension_at last - (last.vaddr + last.memsz)) 0,
      (round_near (last.vaddr + last.memsz)).1,
    )

pub whole_short : (bytes : List ℕ) → length (whole_extension bytes) ≤ length bytes + 15
unfolding whole_extension
whole_short bytes =
    let n = round_up (length bytes) 16 - length bytes in
    omega (arith, length-append bytes (replicate n 0), length-replicate {A = ℕ} n 0, (round_near (length bytes)).1)

-- the section header table of a program's form begins below 2^32
pub program_short : (o : List ℕ) (x : Object) (last : Segment) (e : Extension) (flat : List ℕ) (digest : Option (List ℕ)) → IsFirm o x → last_load (ss_of o) ≡ Some last → IsShort last → length flat ≡ wanted (ps_of o) → IsDigest digest
    → length e.strings + (length e.rows + length e.conflicts) ≤ 2 ^ 30
    → table_at (program_plan (original_of o) (last_index (ss_of o)) last flat e) o (length (undo_part (program_plan (original_of o) (last_index (ss_of o)) last flat e) (original_of o) digest)) < 2 ^ 32
unfolding program_plan joined_size
program_short o x last e flat digest firm at short filled size lists =
    let p = program_plan (original_of o) (last_index (ss_of o)) last flat e in
    let undo = undo_short o digest p.slot p.cut (length p.more) (original_accepted o x firm) (spots_inside o x firm) size in
    let names : length (names_part p o) ≡ length (old_names o) + 67 = length-append (old_names o) _ in
    let block = extension last (ps_of o) flat e in
    omega (
      arith,
      undo,
      names,
      names_most o,
      program_wanted o x last firm at short.bytes,
      accepted_small o x firm.accepted,
      lists,
      short.zeros,
      extension_short last (ps_of o) flat e filled (hidden_inside o x last firm at short.bytes),
      whole_short block,
    )
