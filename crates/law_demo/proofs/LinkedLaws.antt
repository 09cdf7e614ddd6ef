-- How long the file of a program is at most that the members of its walk make.
use Rattle.std.proofs.Common.{◌≡◌, ℕ, ◌+◌, ◌*◌, ◌^◌, ◌≤◌, Bool, true, false, List, [], ◌∷◌, length, map, Some, Ok, refl, sym, ap, subst, ◌∙◌, arith}
use Rattle.std.specs.Prelude.{◌&&◌, filter, nat_lt}
use Rattle.std.specs.List.{concat, list_all}
use Rattle.std.proofs.lemmas.Bool.{and_parts}
use Rattle.std.proofs.lemmas.List.{length-append, length-map}
use Rattle.pl_base.specs.Memory.{read}
use Rattle.pl_base.specs.Names.{is_valid_name}
use Rattle.pl_base.proofs.NameLaws.{valid_length}
use Rattle.pl_elf.specs.Kinds.{is_library}
use Rattle.pl_tls.specs.Layout.{offsets}
use Rattle.pl_tls.specs.declared.module.Module.{Module}
use Rattle.pl_lists.specs.Lists.{ended_name, is_row, list_strings}
use Rattle.pl_lists.specs.declared.list_row.ListRow.{ListRow}
use Rattle.pl_object.proofs.AcceptedLaws.{accepted}
use Rattle.pl_form.specs.Back.{wanted}
use Rattle.pl_form.specs.Found.{ps_of}
use Rattle.pl_form.specs.Program.{program_with}
use Rattle.pl_form.specs.Words.{flat_of}
use Rattle.pl_form.proofs.FillLaws.{fills_wanted}
use Rattle.pl_image.specs.Loads.{IsPlaced, pieces_at}
use Rattle.pl_value.specs.Meanings.{meanings}
use Rattle.pl_value.specs.declared.meaning.Meaning.{Meaning}
use Rattle.pl_value.proofs.PlaceLaws.{relocs_held}
use Rattle.pl_conflict.specs.Prelinked as prelinked
use Rattle.pl_conflict.specs.Prelinked.{Firm, is_program_place, list_of, list_row, objects_of, parts_of, program_file, slots_of, version_of}
use Rattle.pl_conflict.proofs.GivenLaws.{own_meanings}
use Rattle.pl_conflict.proofs.MemberLaws.{HasOwn, IsSet, program_numbers, set_is}
use Rattle.pl_rewrite.specs.Fills.{fills, memory_of}
use Rattle.pl_rewrite.specs.Fills.{IsProgramSet}
use Rattle.pl_rewrite.specs.Sources.{AreSources}
use Rattle.pl_rewrite.proofs.FillLaws.{are_fills, flat_same}
use Rattle.pl_rewrite.proofs.FirmLaws.{own_all}
use Rattle.pl_rewrite.proofs.ProgramLaws.{originals_placed, firm_program}
use Rattle.pl_scope.proofs.WalkedLaws.{limit_is}
use Rattle.pl_cone.specs.Fits.{resolves}
use Rattle.law_folder.proofs.LinkLemmas.{Links, file_is, links_at}
use Rattle.law_demo.proofs.LengthLaws.{conflicts_most, program_most, relocations_in}

-- ---- how many bytes its places have

flat_is : (rs : List Firm) (gs : List Meaning) → prelinked.flat_of rs gs ≡ concat (map (λ g. read (memory_of rs gs) g.start g.size) (filter is_program_place gs))
unfolding prelinked.flat_of
flat_is rs gs = refl

-- there is a byte for each byte of a place of the program
flat_filled : (r : Firm) (rs : List Firm) (modules : List Module) (gs : List Meaning) → AreSources (r ∷ rs) → is_library r.object.kind ≡ false → IsProgramSet (r ∷ rs) → IsSet r rs → meanings (objects_of (r ∷ rs)) (slots_of (r ∷ rs)) modules ≡ Ok gs
    → length (prelinked.flat_of (r ∷ rs) gs) ≡ wanted (ps_of r.member.original)
flat_filled r rs modules gs are program whole set given =
    let all : List Firm = r ∷ rs in
    let own : HasOwn r = own_all all are 0 r (omega arith) in
    let at : r.member.slot ≡ 0 = (program_numbers r set.first program).0 in
    let placed : IsPlaced r.member.slot r.object = (originals_placed all are whole).placed 0 r.object (omega arith) in
    let zero_placed : IsPlaced 0 r.object = subst (λ (n : ℕ). IsPlaced n r.object) at placed in
    let same : flat_of (fills (memory_of all gs) r.object.relocations) ≡ prelinked.flat_of all gs =
    flat_same (objects_of all) (slots_of all) modules (memory_of all gs) (pieces_at 0 r.member.original r.object) r.object.symbols r.object.relocations (filter is_program_place gs) at
    (own_meanings r.object (objects_of rs) (slots_of all) modules gs given) (relocs_held 0 r.member.original r.member.original r.object zero_placed own.firm.accepted)
    (accepted r.member.original r.object own.firm.accepted).widths
    ∙ sym (flat_is all gs) in
    ap (λ (l : List ℕ). length l) (sym same) ∙ fills_wanted r.member.original r.object (fills (memory_of all gs) r.object.relocations) own.firm (are_fills (memory_of all gs) r.object.relocations)

-- ---- how long it is

row_short : (row : ListRow) → is_row row ≡ true → length row.name ≤ 255
unfolding is_row
row_short row e = (valid_length row.name (first_of (is_valid_name row.name) (nat_lt row.stamp (2 ^ 32)) (nat_lt row.checksum (2 ^ 32)) e)).1
  where
    first_of : (a b c : Bool) → (a && b && c) ≡ true → a ≡ true
    first_of true b c h = refl
    first_of false b c h = h

strings_short : (rows : List ListRow) → list_all is_row rows ≡ true → length (list_strings rows) ≤ 256 * length rows
unfolding list_strings
strings_short [] all = omega arith
strings_short (row ∷ rows) all =
    let p = and_parts (is_row row) (list_all is_row rows) all in
    let rest = strings_short rows p.1 in
    omega (arith, length-append (ended_name row) (list_strings rows), length-append row.name (0 ∷ []), row_short row p.0, rest)

-- a program's file is made, where its scope has few relocations, and is no longer than a folder stores
pub record IsMadeOf (r : Firm) (rs : List Firm) : Type 0 where
  pub file : List ℕ
  pub made : program_file (r ∷ rs) ≡ Some file
  pub short : length file ≤ 8 * length r.member.original + 2 ^ 26

pub program_made : (r : Firm) (rs : List Firm) → AreSources (r ∷ rs) → is_library r.object.kind ≡ false → IsProgramSet (r ∷ rs) → resolves (objects_of (r ∷ rs)) (offsets (map (λ o. o.tls) (objects_of (r ∷ rs)))) ≡ true
    → relocations_in (objects_of (r ∷ rs)) ≤ 2 ^ 20 → IsMadeOf r rs
program_made r rs are program whole e few =
    let all : List Firm = r ∷ rs in
    let l : Links all = links_at all e in
    let set : IsSet r rs = set_is r rs whole.set in
    let own : HasOwn r = own_all all are 0 r (omega arith) in
    let o : List ℕ = r.member.original in
    let list : List ListRow = list_of rs in
    let filled = flat_filled r rs l.modules l.gives are program whole set l.given in
    let rows = conflicts_most (objects_of all) (parts_of all) (slots_of all) l.modules l.rows l.made in
    let strings = strings_short list (and_parts (list_all is_row list) _ set.list).0 in
    let count = length-map rs list_row in
    let form : List ℕ = program_with o list (prelinked.flat_of all l.gives) l.rows (version_of r.member.version) in
    let most = program_most o r.object list (prelinked.flat_of all l.gives) l.rows (version_of r.member.version) own.firm (firm_program r own program).program filled (omega (arith, rows, strings, count, few, are.few, limit_is)) in
    record {
      file = form;
      made = file_is r rs l;
      short = omega (arith, most, rows, strings, count, few, are.few, limit_is);
    }
