-- What is in the way of a form.
use Rattle.std.specs.Prelude.{◌≡◌, ◌<◌, ◌^◌, length, ℕ, ◌+◌, ◌-◌, ◌*◌, Bool, true, false, not, ◌&&◌, ◌||◌, ◌==◌, nat_lt, List, [], ◌∷◌, Option, Some, None, Result, Ok, if◌then◌else◌}
use Rattle.std.specs.List.{list_any}
use Rattle.pl_base.specs.Answers.{refuse, unless}
use Rattle.pl_base.specs.Bytes.{IsBytes}
use Rattle.pl_base.specs.Windows.{Window, share}
use Rattle.pl_elf.specs.Headers.{is_load}
use Rattle.pl_elf.specs.Kinds.{is_library, is_static}
use Rattle.pl_elf.specs.declared.range.Range.{Range}
use Rattle.pl_elf.specs.declared.section.Section.{Section}
use Rattle.pl_elf.specs.declared.segment.Segment.{Segment}
use Rattle.pl_object.specs.PlaceClauses.{last_load}
use Rattle.pl_object.specs.Reads.{reads}
use Rattle.pl_object.specs.declared.object.Object.{Object}
use Rattle.pl_form.specs.declared.constants.TheConstants.{MAX_ZEROS, REGION_GAP}
use Rattle.pl_form.specs.declared.fault.FormFault.{FormFault}
use Rattle.pl_form.specs.declared.fault.FormFault.TheVariants.{NoSpareTags, BssTooLarge, StrayHeader, InRegion, LastLoadNotLast, NoMemory}

abbrev pub is_memory : FormFault → Bool
is_memory NoMemory = true
is_memory _ = false

-- where the file bytes of a program's last PT_LOAD end
abbrev pub cut_of : Segment → ℕ
cut_of last = last.offset + last.filesz

abbrev pub bss_too_large : Segment → Bool
bss_too_large last = nat_lt MAX_ZEROS (last.memsz - last.filesz)

-- so many bytes from an offset on lie before cut and behind it
abbrev pub is_torn : ℕ → ℕ → ℕ → Bool
is_torn cut at size = nat_lt at cut && nat_lt cut (at + size)

abbrev pub is_torn_section : ℕ → Section → Bool
is_torn_section cut s = not (s.kind == 8) && is_torn cut s.offset s.size

unfoldable pub stray_header : Object → ℕ → Bool
stray_header o cut =
    nat_lt cut (o.header.phoff + 56 * o.header.phnum)
    || list_any (λ s. is_torn cut s.offset s.filesz) o.segments
    || list_any (is_torn_section cut) o.sections
    || is_torn cut o.header.shoff (64 * o.header.shnum)

abbrev pub region_window : Range → Window
region_window region = record { at = region.start; size = region.end - region.start }

abbrev pub is_loaded_in : Window → Segment → Bool
is_loaded_in region s = is_load s && share (record { at = s.vaddr; size = s.memsz }) region

unfoldable pub in_region : List Segment → Segment → Range → Bool
in_region ss last region =
    list_any (is_loaded_in (region_window region)) ss
    || share (record { at = last.vaddr + last.memsz; size = REGION_GAP }) (region_window region)

-- the offset of a PT_LOAD with file bytes is greater than another's
abbrev pub is_later : Segment → Segment → Bool
is_later last s = is_load s && nat_lt 0 s.filesz && nat_lt last.offset s.offset

unfoldable pub program_fault : Object → Option Segment → Range → Result (Unit {0}) FormFault
program_fault o None region = Ok tt
program_fault o (Some last) region =
    refuse (
    (bss_too_large last, BssTooLarge) ∷ (stray_header o (cut_of last), StrayHeader)
    ∷ (in_region o.segments last region, InRegion) ∷ (list_any (is_later last) o.segments, LastLoadNotLast) ∷ [])
    (Ok tt)

abbrev pub wanted_spare : Object → ℕ
wanted_spare o = if is_library o.kind then 2 else 4

-- the first that is in the way
unfoldable pub form_fault : Object → Range → Result (Unit {0}) FormFault
form_fault o region =
    unless (nat_lt o.spare (wanted_spare o)) NoSpareTags
    (if is_library o.kind then Ok tt else program_fault o (last_load o.segments) region)

-- ---- what has a form, wherever the libraries are

-- a region without any address, which no form meets
abbrev pub no_region : Range
no_region = record { start = 0; end = 0 }

-- a program or library that was accepted from a file, and has no form fault other than InRegion
pub record IsFirm (o : List ℕ) (x : Object) : Type 0 where
  pub bytes : IsBytes o
  pub few : length o < 2 ^ 32
  pub accepted : reads o ≡ Ok x
  pub dynamic : is_static x.kind ≡ false
  pub firm : form_fault x no_region ≡ Ok tt
