-- What is read of a program's form: its lists.
use Rattle.std.proofs.Common.{◌≡◌, ℕ, ◌+◌, ◌-◌, ◌^◌, ◌<◌, ◌≤◌, List, [], ◌∷◌, ◌++◌, length, get_or, replicate, refl, sym, ap, subst, ◌∙◌, arith}
use Rattle.std.specs.Prelude.{map}
use Rattle.std.proofs.lemmas.List.{length-append, length-replicate, get_or-append-add}
use Rattle.pl_base.specs.Bytes.{part}
use Rattle.pl_base.specs.Sums.{round_up}
use Rattle.pl_base.specs.Windows.{AllIn, ◌⊕◌}
use Rattle.pl_base.proofs.WindowLaws.{length-⊕, part_front, part_behind, part_under, part_added, part_all}
use Rattle.pl_elf.specs.Headers.{header, section, sections}
use Rattle.pl_elf.specs.declared.section.Section.{Section}
use Rattle.pl_elf.specs.declared.segment.Segment.{Segment}
use Rattle.pl_form.specs.Back.{section_part, wanted}
use Rattle.pl_form.specs.Fits.{Fits}
use Rattle.pl_form.specs.Loads.{hidden_windows}
use Rattle.pl_form.specs.Parts.{Original, up, with_rows, old_names, names_part, table_at, joined_size, zeros_part, extension_at, lists_part, extension, whole_extension, rows_at, conflicts_at, loaded_section, program_section, program_sections, program_plan, front_part, form}
use Rattle.pl_form.specs.declared.parts.Extension.{Extension}
use Rattle.pl_form.specs.declared.parts.FormPlan.{FormPlan}
use Rattle.pl_form.proofs.FormLaws.{form_split, rest_of, front_size}
use Rattle.pl_form.proofs.FormTheorem.{all_small}
use Rattle.pl_form.proofs.LoadTheorem.{zeros_agree}
use Rattle.pl_form.proofs.PartsLaws.{part_inserted}
use Rattle.pl_form.proofs.FoundLaws.{SectionFits, section_before}

-- what is asked of the last PT_LOAD
pub record IsEnd (o : Original) (last : Segment) : Type 0 where
  pub size : last.filesz ≤ last.memsz
  pub top : last.vaddr + last.memsz ≤ 2 ^ 47
  pub inside : AllIn (last.memsz - last.filesz) (hidden_windows o.spots)

-- ---- the inserted bytes

rounded : (n : ℕ) → (n ≤ round_up n 16) × (round_up n 16 < n + 16)
unfolding round_up
rounded n = (omega arith, omega arith)

abbrev gap16 : Segment → List ℕ
gap16 last = replicate (extension_at last - (last.vaddr + last.memsz)) 0

length-zeros : (o : Original) (last : Segment) (flat : List ℕ) → length flat ≡ wanted o.spots → IsEnd o last → length (zeros_part last o.spots flat) ≡ last.memsz - last.filesz
length-zeros o last flat size is = (zeros_agree last o.spots flat size is.inside).size ∙ length-replicate (last.memsz - last.filesz) 0

-- the lists, in the inserted bytes
lists_in_more : (o : Original) (last : Segment) (flat : List ℕ) (e : Extension) (j n : ℕ) → length flat ≡ wanted o.spots → IsEnd o last → j + n ≤ length (lists_part e)
    → part (last.memsz - last.filesz + (extension_at last - (last.vaddr + last.memsz)) + j) n (whole_extension (extension last o.spots flat e)) ≡ part j n (lists_part e)
unfolding whole_extension extension
lists_in_more o last flat e j n size is le =
    let zs = zeros_part last o.spots flat in
    let gap : List ℕ = gap16 last in
    let rest : List ℕ = gap ++ lists_part e in
    let block : List ℕ = zs ++ rest in
    let pad : List ℕ = replicate (round_up (length block) 16 - length block) 0 in
    let z = last.memsz - last.filesz in
    let g = extension_at last - (last.vaddr + last.memsz) in
    let zs_size = length-zeros o last flat size is in
    let gap_size : length gap ≡ g = length-replicate g 0 in
    let at : z + g + j ≡ length zs + (length gap + j) = omega (arith, zs_size, gap_size) in
    let room : z + g + j + n ≤ length block = omega (arith, zs_size, gap_size, length-append zs rest, length-append gap (lists_part e), le) in
    part_front (z + g + j) n block pad room
    ∙ ap (λ (k : ℕ). part k n block) at
    ∙ part_behind (length gap + j) n zs rest
    ∙ part_behind j n gap (lists_part e)

zeros_in_more : (o : Original) (last : Segment) (flat : List ℕ) (e : Extension) → length flat ≡ wanted o.spots → IsEnd o last
    → part 0 (last.memsz - last.filesz) (whole_extension (extension last o.spots flat e)) ≡ zeros_part last o.spots flat
unfolding whole_extension extension
zeros_in_more o last flat e size is =
    let zs = zeros_part last o.spots flat in
    let rest : List ℕ = gap16 last ++ lists_part e in
    let pad : List ℕ = replicate (round_up (length (zs ++ rest)) 16 - length (zs ++ rest)) 0 in
    let zs_size = length-zeros o last flat size is in
    ap (λ (n : ℕ). part 0 n ((zs ++ rest) ++ pad)) (sym zs_size)
    ∙ part_front 0 (length zs) (zs ++ rest) pad (omega (arith, length-append zs rest))
    ∙ part_front 0 (length zs) zs rest (omega arith)
    ∙ part_all zs

-- how long they are
lists_size : (e : Extension) → length (lists_part e) ≡ up (up (length e.strings) + length e.rows) + length e.conflicts
lists_size e = length-⊕ (e.strings ⊕ e.rows) e.conflicts ∙ ap (λ (n : ℕ). up n + length e.conflicts) (length-⊕ e.strings e.rows)

more_size : (o : Original) (last : Segment) (flat : List ℕ) (e : Extension) → length flat ≡ wanted o.spots → IsEnd o last
    → last.memsz - last.filesz + (extension_at last - (last.vaddr + last.memsz)) + length (lists_part e) ≤ length (whole_extension (extension last o.spots flat e))
unfolding whole_extension extension
more_size o last flat e size is =
    let zs = zeros_part last o.spots flat in
    let gap : List ℕ = gap16 last in
    let block : List ℕ = zs ++ (gap ++ lists_part e) in
    let pad : List ℕ = replicate (round_up (length block) 16 - length block) 0 in
    let g = extension_at last - (last.vaddr + last.memsz) in
    omega (arith, length-append block pad, length-append zs (gap ++ lists_part e), length-append gap (lists_part e), length-zeros o last flat size is, length-replicate {A = ℕ} g 0)

up_least : (n : ℕ) → n ≤ up n
up_least n = omega arith

up_most : (n : ℕ) → up n ≤ n + 7
up_most n = omega arith

-- ---- the three lists by their offsets from E

strings_of : (e : Extension) → part 0 (length e.strings) (lists_part e) ≡ e.strings
strings_of e =
    part_under 0 (length e.strings) (e.strings ⊕ e.rows) e.conflicts (omega (arith, length-⊕ e.strings e.rows, up_least (length e.strings)))
    ∙ part_under 0 (length e.strings) e.strings e.rows (omega arith) ∙ part_all e.strings

rows_of : (e : Extension) → part (up (length e.strings)) (length e.rows) (lists_part e) ≡ e.rows
rows_of e =
    part_under (up (length e.strings)) (length e.rows) (e.strings ⊕ e.rows) e.conflicts (omega (arith, length-⊕ e.strings e.rows)) ∙ part_added e.strings e.rows

conflicts_of : (e : Extension) → part (up (up (length e.strings) + length e.rows)) (length e.conflicts) (lists_part e) ≡ e.conflicts
conflicts_of e =
    ap (λ (n : ℕ). part (up n) (length e.conflicts) (lists_part e)) (sym (length-⊕ e.strings e.rows)) ∙ part_added (e.strings ⊕ e.rows) e.conflicts

-- ---- in the file

plan_cut : (o : Original) (index : ℕ) (last : Segment) (flat : List ℕ) (e : Extension) → (program_plan o index last flat e).cut ≡ last.offset + last.filesz
unfolding program_plan
plan_cut o index last flat e = refl

plan_more : (o : Original) (index : ℕ) (last : Segment) (flat : List ℕ) (e : Extension) → (program_plan o index last flat e).more ≡ whole_extension (extension last o.spots flat e)
unfolding program_plan
plan_more o index last flat e = refl

-- a part of the inserted bytes
more_there : (p : FormPlan) (o : Original) (flat undo : List ℕ) (i n : ℕ) → Fits p o flat (length undo) → i + n ≤ length p.more → part (p.cut + i) n (form p o flat undo) ≡ part i n p.more
more_there p o flat undo i n fits le =
    ap (part (p.cut + i) n) (form_split p o flat undo)
    ∙ part_inserted i n p.cut p.more (front_part p o flat (length undo)) (rest_of p o flat undo) le (omega (arith, fits.cut, front_size p o flat (length undo) fits))

-- the zeros of the last PT_LOAD, as they stand in the form
pub zeros_there : (o : Original) (index : ℕ) (last : Segment) (e : Extension) (flat undo : List ℕ) → Fits (program_plan o index last flat e) o flat (length undo) → IsEnd o last
    → part (last.offset + last.filesz) (last.memsz - last.filesz) (form (program_plan o index last flat e) o flat undo) ≡ zeros_part last o.spots flat
zeros_there o index last e flat undo fits is =
    let p = program_plan o index last flat e in
    let file = form p o flat undo in
    let more = plan_more o index last flat e in
    let z = last.memsz - last.filesz in
    let at : last.offset + last.filesz ≡ p.cut + 0 = omega (arith, plan_cut o index last flat e) in
    let room : 0 + z ≤ length p.more = omega (arith, more_size o last flat e fits.fills is, ap (λ (xs : List ℕ). length xs) more) in
    ap (λ (k : ℕ). part k z file) at ∙ more_there p o flat undo 0 z fits room ∙ ap (part 0 z) more ∙ zeros_in_more o last flat e fits.fills is

-- bytes of the lists, by their offset from E
list_there : (o : Original) (index : ℕ) (last : Segment) (e : Extension) (flat undo : List ℕ) (j n : ℕ) → Fits (program_plan o index last flat e) o flat (length undo) → IsEnd o last → j + n ≤ length (lists_part e)
    → part (last.offset + (extension_at last + j - last.vaddr)) n (form (program_plan o index last flat e) o flat undo) ≡ part j n (lists_part e)
list_there o index last e flat undo j n fits is le =
    let p = program_plan o index last flat e in
    let file = form p o flat undo in
    let more = plan_more o index last flat e in
    let z = last.memsz - last.filesz in
    let g = extension_at last - (last.vaddr + last.memsz) in
    let r = rounded (last.vaddr + last.memsz) in
    let at : last.offset + (extension_at last + j - last.vaddr) ≡ p.cut + (z + g + j) = omega (arith, plan_cut o index last flat e, r.0, is.size) in
    let room : z + g + j + n ≤ length p.more = omega (arith, more_size o last flat e fits.fills is, le, ap (λ (xs : List ℕ). length xs) more) in
    ap (λ (k : ℕ). part k n file) at ∙ more_there p o flat undo (z + g + j) n fits room ∙ ap (part (z + g + j) n) more ∙ lists_in_more o last flat e j n fits.fills is le

-- ---- their sections

loaded_fits : (last : Segment) (name kind address size : ℕ) → name < 2 ^ 32 → kind < 2 ^ 32 → address < 2 ^ 63 → last.offset < 2 ^ 32 → size < 2 ^ 64 → SectionFits (loaded_section last name kind address size)
loaded_fits last name kind address size a b c d e = record {
  name = a;
  kind = b;
  flags = omega arith;
  addr = omega (arith, c);
  offset = omega (arith, c, d);
  size = e;
  link = omega arith;
  info = omega arith;
  align = omega arith;
  entsize = omega arith;
}

rows_fit : (link entsize : ℕ) (s : Section) → link < 2 ^ 32 → entsize < 2 ^ 64 → SectionFits s → SectionFits (with_rows link entsize s)
rows_fit link entsize s a b is = record { name = is.name; kind = is.kind; flags = is.flags; addr = is.addr; offset = is.offset; size = is.size; link = a; info = is.info; align = is.align; entsize = b }

names_below : (o : Original) (index : ℕ) (last : Segment) (flat : List ℕ) (e : Extension) (undo : ℕ) → length (old_names o.bytes) + 25 ≤ table_at (program_plan o index last flat e) o.bytes undo
unfolding program_plan
names_below o index last flat e undo =
    let p = program_plan o index last flat e in
    let n : length (names_part p o.bytes) ≡ length (old_names o.bytes) + 67 = length-append (old_names o.bytes) _ in
    let c = up_least (up (up (joined_size (length o.bytes + length p.more) p.parts) + undo) + length (names_part p o.bytes)) in
    omega (arith, n, c)

-- the numbers of the lists are small
pub record AreSmall (last : Segment) (e : Extension) : Type 0 where
  pub offset : last.offset < 2 ^ 32
  pub address : extension_at last < 2 ^ 48
  pub strings : length e.strings < 2 ^ 32
  pub rows : length e.rows < 2 ^ 32
  pub conflicts : length e.conflicts < 2 ^ 32

lists_small : (o : Original) (index : ℕ) (last : Segment) (e : Extension) (flat : List ℕ) (undo : ℕ) → Fits (program_plan o index last flat e) o flat undo → IsEnd o last → AreSmall last e
lists_small o index last e flat undo fits is =
    let p = program_plan o index last flat e in
    let all = all_small p o flat undo fits in
    let more : length p.more ≡ length (whole_extension (extension last o.spots flat e)) = ap (λ (xs : List ℕ). length xs) (plan_more o index last flat e) in
    let most = more_size o last flat e fits.fills is in
    let lists = lists_size e in
    let a = up_least (length e.strings) in
    let b = up_least (up (length e.strings) + length e.rows) in
    let r = rounded (last.vaddr + last.memsz) in
    record {
      offset = omega (arith, all, fits.cut, plan_cut o index last flat e);
      address = omega (arith, r.1, is.top);
      strings = omega (arith, all, more, most, lists, a, b);
      rows = omega (arith, all, more, most, lists, b);
      conflicts = omega (arith, all, more, most, lists);
    }

-- the section of an index behind the old ones
new_there : (o : Original) (index : ℕ) (last : Segment) (e : Extension) (flat undo : List ℕ) (old new : List Section) (i back : ℕ) (row : Section) → Fits (program_plan o index last flat e) o flat (length undo)
    → (program_plan o index last flat e).sections ≡ old ++ new → length new ≡ 3 → i < 3 → i + back ≡ 5 → get_or new i row ≡ row → SectionFits row
    → section (form (program_plan o index last flat e) o flat undo) (header (form (program_plan o index last flat e) o flat undo)) ((header (form (program_plan o index last flat e) o flat undo)).shnum - back) ≡ row
new_there o index last e flat undo old new i back row fits are three lt same here small =
    let p = program_plan o index last flat e in
    let size : length p.sections ≡ length old + 3 = ap (λ (xs : List Section). length xs) are ∙ omega (arith, length-append old new, three) in
    let is : get_or p.sections (length old + i) row ≡ row = ap (λ (xs : List Section). get_or xs (length old + i) row) are ∙ get_or-append-add old new i row ∙ here in
    section_before p o flat undo fits (length old + i) back row (omega (arith, size, lt)) (omega (arith, size, same)) (subst SectionFits (sym is) small) ∙ is

abbrev old_sections : Original → Segment → ℕ → List Section
old_sections o last shift = map (program_section (last.offset + last.filesz) shift last) (sections o.bytes (header o.bytes))

abbrev strings_row : Original → Segment → Extension → Section
strings_row o last e = loaded_section last (length (old_names o.bytes)) 3 (extension_at last) (length e.strings)

abbrev list_row : Original → Segment → ℕ → Extension → Section
list_row o last link e = with_rows link 20 (loaded_section last (length (old_names o.bytes) + 12) 0x6ffffff7 (rows_at last e) (length e.rows))

abbrev conflicts_row : Original → Segment → Extension → Section
conflicts_row o last e = with_rows 0 24 (loaded_section last (length (old_names o.bytes) + 25) 4 (conflicts_at last e) (length e.conflicts))

abbrev new_sections : Original → Segment → ℕ → Extension → List Section
new_sections o last link e = strings_row o last e ∷ list_row o last link e ∷ conflicts_row o last e ∷ []

plan_sections : (o : Original) (index : ℕ) (last : Segment) (flat : List ℕ) (e : Extension)
    → (program_plan o index last flat e).sections
    ≡ old_sections o last (length (program_plan o index last flat e).more) ++ new_sections o last (length (old_sections o last (length (program_plan o index last flat e).more))) e
unfolding program_plan program_sections
plan_sections o index last flat e = refl

abbrev found_in : Original → ℕ → Segment → Extension → List ℕ → List ℕ → ℕ → List ℕ
found_in o index last e flat undo back =
    let file = form (program_plan o index last flat e) o flat undo in
    section_part (section file (header file) ((header file).shnum - back)) file

pub strings_there : (o : Original) (index : ℕ) (last : Segment) (e : Extension) (flat undo : List ℕ) → Fits (program_plan o index last flat e) o flat (length undo) → IsEnd o last → found_in o index last e flat undo 5 ≡ e.strings
strings_there o index last e flat undo fits is =
    let p = program_plan o index last flat e in
    let file = form p o flat undo in
    let old = old_sections o last (length p.more) in
    let small = lists_small o index last e flat (length undo) fits is in
    let names = names_below o index last flat e (length undo) in
    let row = strings_row o last e in
    let row_fits = loaded_fits last (length (old_names o.bytes)) 3 (extension_at last) (length e.strings) (omega (arith, names, fits.small)) (omega arith) (omega (arith, small.address)) small.offset (omega (arith, small.strings)) in
    let found = new_there o index last e flat undo old (new_sections o last (length old) e) 0 5 row fits (plan_sections o index last flat e) refl (omega arith) refl refl row_fits in
    let at : last.offset + (extension_at last - last.vaddr) ≡ last.offset + (extension_at last + 0 - last.vaddr) = omega arith in
    ap (λ (s : Section). section_part s file) found ∙ ap (λ (n : ℕ). part n (length e.strings) file) at
    ∙ list_there o index last e flat undo 0 (length e.strings) fits is (omega (arith, lists_size e, up_least (length e.strings), up_least (up (length e.strings) + length e.rows))) ∙ strings_of e

pub rows_there : (o : Original) (index : ℕ) (last : Segment) (e : Extension) (flat undo : List ℕ) → Fits (program_plan o index last flat e) o flat (length undo) → IsEnd o last → found_in o index last e flat undo 4 ≡ e.rows
rows_there o index last e flat undo fits is =
    let p = program_plan o index last flat e in
    let file = form p o flat undo in
    let old = old_sections o last (length p.more) in
    let small = lists_small o index last e flat (length undo) fits is in
    let names = names_below o index last flat e (length undo) in
    let row = list_row o last (length old) e in
    let sections_size : length p.sections ≡ length old + 3 = ap (λ (xs : List Section). length xs) (plan_sections o index last flat e) ∙ length-append old (new_sections o last (length old) e) in
    let row_fits = rows_fit (length old) 20 (loaded_section last (length (old_names o.bytes) + 12) 0x6ffffff7 (rows_at last e) (length e.rows)) (omega (arith, sections_size, fits.few)) (omega arith)
    (loaded_fits last (length (old_names o.bytes) + 12) 0x6ffffff7 (rows_at last e) (length e.rows) (omega (arith, names, fits.small)) (omega arith) (omega (arith, small.address, small.strings, up_most (length e.strings))) small.offset (omega (arith, small.rows))) in
    let found = new_there o index last e flat undo old (new_sections o last (length old) e) 1 4 row fits (plan_sections o index last flat e) refl (omega arith) refl refl row_fits in
    ap (λ (s : Section). section_part s file) found
    ∙ list_there o index last e flat undo (up (length e.strings)) (length e.rows) fits is (omega (arith, lists_size e, up_least (up (length e.strings) + length e.rows))) ∙ rows_of e

pub conflicts_there : (o : Original) (index : ℕ) (last : Segment) (e : Extension) (flat undo : List ℕ) → Fits (program_plan o index last flat e) o flat (length undo) → IsEnd o last → found_in o index last e flat undo 3 ≡ e.conflicts
conflicts_there o index last e flat undo fits is =
    let p = program_plan o index last flat e in
    let file = form p o flat undo in
    let old = old_sections o last (length p.more) in
    let small = lists_small o index last e flat (length undo) fits is in
    let names = names_below o index last flat e (length undo) in
    let row = conflicts_row o last e in
    let row_fits = rows_fit 0 24 (loaded_section last (length (old_names o.bytes) + 25) 4 (conflicts_at last e) (length e.conflicts)) (omega arith) (omega arith)
    (loaded_fits last (length (old_names o.bytes) + 25) 4 (conflicts_at last e) (length e.conflicts) (omega (arith, names, fits.small)) (omega arith)
    (omega (arith, small.address, small.strings, small.rows, up_most (length e.strings), up_most (up (length e.strings) + length e.rows))) small.offset (omega (arith, small.conflicts))) in
    let found = new_there o index last e flat undo old (new_sections o last (length old) e) 2 3 row fits (plan_sections o index last flat e) refl (omega arith) refl refl row_fits in
    ap (λ (s : Section). section_part s file) found
    ∙ list_there o index last e flat undo (up (up (length e.strings) + length e.rows)) (length e.conflicts) fits is (omega (arith, lists_size e)) ∙ conflicts_of e
