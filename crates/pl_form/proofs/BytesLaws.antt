-- A form is bytes.
use Rattle.std.proofs.Common.{◌≡◌, ℕ, zero, suc, ◌+◌, ◌-◌, ◌*◌, ◌/◌, ◌^◌, ◌<◌, ◌≤◌, true, List, [], ◌∷◌, ◌++◌, length, take, drop, replicate, Option, Some, None, refl, sym, subst, arith, inl, inr}
use Rattle.std.specs.Prelude.{◌&&◌, ◌==◌, not, map, nat_le}
use Rattle.std.specs.Char.{is_ascii_graphic}
use Rattle.std.specs.Int.{byte_at, to_be_bytes, w32}
use Rattle.std.specs.List.{concat, list_all}
use Rattle.std.proofs.Math.Nat.{mod-lt}
use Rattle.std.proofs.lemmas.Bool.{cases_Bool, and_parts, leb-true}
use Rattle.pl_base.specs.Bytes.{IsBytes, part, put, word64, bytes16, bytes32, bytes64}
use Rattle.pl_base.specs.Names.{is_name_byte, is_own_name, is_dots, is_valid_name, has_name_length}
use Rattle.pl_base.specs.Sums.{plus, round_up}
use Rattle.pl_base.specs.Windows.{Window, within, Put, put_all, on, ◌⊕◌}
use Rattle.pl_base.proofs.WordLaws.{is_bytes_nil, is_bytes_take, is_bytes_drop, is_bytes_part, is_bytes_append, is_bytes_put, is_bytes_zeros, is_bytes_⊕, is_bytes_bytes16, is_bytes_bytes32, is_bytes_bytes64}
use Rattle.pl_elf.specs.Clauses.{section_data}
use Rattle.pl_elf.specs.Headers.{header, section}
use Rattle.pl_elf.specs.Written.{header_bytes, segment_bytes, section_header_bytes}
use Rattle.pl_elf.specs.declared.header.Header.{Header}
use Rattle.pl_elf.specs.declared.section.Section.{Section}
use Rattle.pl_elf.specs.declared.segment.Segment.{Segment}
use Rattle.pl_lists.specs.Conflicts.{conflict_bytes, conflicts_bytes}
use Rattle.pl_lists.specs.Lists.{after, are_distinct, is_row, list_bytes, list_strings, row_bytes as list_row_bytes}
use Rattle.pl_lists.specs.declared.conflict_row.ConflictRow.{ConflictRow}
use Rattle.pl_lists.specs.declared.list_row.ListRow.{ListRow}
use Rattle.pl_move.specs.Moves.{all_moved, moved, moves, add8, row_moved, row_size, rows, table_window, word_offset}
use Rattle.pl_move.specs.declared.kind.RowKind.{RowKind}
use Rattle.pl_move.specs.declared.kind.RowKind.TheVariants.{TagValue}
use Rattle.pl_move.specs.declared.table.Table.{Table}
use Rattle.pl_object.specs.PlaceClauses.{last_load}
use Rattle.pl_form.specs.Back.{all_within, head_windows, inserted, memory_of, undo_of, visible}
use Rattle.pl_form.specs.Forms.{original_of, planned, undo_part}
use Rattle.pl_form.specs.Found.{ss_of}
use Rattle.pl_form.specs.Parts.{Original, conflicts_at, entry_bytes, extension, extension_at, form, front_part, hidden, joined, library_dynamic, library_entries, library_plan, lists_part, moved_part, names_part, new_header, old_names, program_dynamic, program_plan, rows_at, table_part, tags_moved, under_header, under_segments, whole_extension, with_entries, with_tag, zeros_part}
use Rattle.pl_form.specs.declared.section_names.TheConstants.{CONFLICT_NAME, LIBLIST_NAME, LIBSTR_NAME, NAMES_NAME, UNDO_NAME}
use Rattle.pl_form.specs.declared.parts.Extension.{Extension}
use Rattle.pl_form.specs.declared.parts.FormPlan.{FormPlan}
use Rattle.pl_form.specs.declared.parts.Spot.{Spot}
use Rattle.pl_undo.specs.Section.{digest_bytes, magic, undo_bytes}
use Rattle.pl_undo.specs.declared.constants.TheConstants.{UNDO_MAGIC, UNDO_MAGIC_2}
use Rattle.pl_undo.specs.declared.undo.Undo.{Undo}
use Rattle.sha2.specs.Sha256.{sha256, digest_bytes as hash_bytes}
use Rattle.pl_form.specs.Files.{FormsAreBytes, are_bytes}
use Rattle.pl_form.specs.Marks.{IsFormOf, IsLibraryMark, IsProgramMark}
use Rattle.pl_form.specs.Program.{last_index}
use Rattle.pl_form.specs.Words.{checksum_of, digest_in, extension_of, listed, strings_of}
use Rattle.pl_form.specs.declared.file.Marked.{Marked}
use Rattle.pl_form.specs.declared.version.Version.{Version}
use Rattle.pl_form.specs.declared.version.Version.TheVariants.{One, Two}
use Rattle.pl_form.proofs.CompleteLaws.{library_file, program_file, with_last}
use Rattle.pl_form.proofs.FilesLaws.{are_is}

-- ---- lists of bytes

abbrev AllBytes : List (List ℕ) → Type 0
AllBytes [] = Unit {0}
AllBytes (xs ∷ xss) = IsBytes xs × AllBytes xss

all_append : (xss yss : List (List ℕ)) → AllBytes xss → AllBytes yss → AllBytes (xss ++ yss)
all_append [] yss a b = b
all_append (xs ∷ xss) yss a b = (a.0, all_append xss yss a.1 b)

concat_bytes : (xss : List (List ℕ)) → AllBytes xss → IsBytes (concat xss)
concat_bytes [] all = is_bytes_nil
concat_bytes (xs ∷ xss) all = is_bytes_append xs (concat xss) all.0 (concat_bytes xss all.1)

mapped_bytes : {X : Type 0} (f : X → List ℕ) (xs : List X) → ((x : X) → IsBytes (f x)) → IsBytes (concat (map f xs))
mapped_bytes f [] each = is_bytes_nil
mapped_bytes f (x ∷ xs) each = is_bytes_append (f x) (concat (map f xs)) (each x) (mapped_bytes f xs each)

cons_bytes : (x : ℕ) (xs : List ℕ) → x < 256 → IsBytes xs → IsBytes (x ∷ xs)
cons_bytes x xs small h zero = small
cons_bytes x xs small h (suc i) = h i

joined_bytes : (front : List ℕ) (parts : List (List ℕ)) → IsBytes front → AllBytes parts → IsBytes (joined front parts)
unfolding joined
joined_bytes front [] h all = h
joined_bytes front (x ∷ xs) h all = joined_bytes (front ⊕ x) xs (is_bytes_⊕ front x h all.0) all.1

inserted_bytes : (cut : ℕ) (more bytes : List ℕ) → IsBytes more → IsBytes bytes → IsBytes (inserted cut more bytes)
inserted_bytes cut more bytes m h =
    is_bytes_append (take cut bytes ++ more) (drop cut bytes) (is_bytes_append (take cut bytes) more (is_bytes_take cut bytes h) m) (is_bytes_drop cut bytes h)

-- ---- headers and rows

header_is_bytes : (h : Header) → IsBytes h.ident → IsBytes (header_bytes h)
unfolding header_bytes
header_is_bytes h ident =
    concat_bytes (
    h.ident ∷ bytes16 h.kind ∷ bytes16 h.machine ∷ bytes32 h.version ∷ bytes64 h.entry ∷ bytes64 h.phoff ∷ bytes64 h.shoff
    ∷ bytes32 h.flags ∷ bytes16 h.ehsize ∷ bytes16 h.phentsize ∷ bytes16 h.phnum ∷ bytes16 h.shentsize ∷ bytes16 h.shnum
    ∷ bytes16 h.shstrndx ∷ []) (
      ident,
      (
        is_bytes_bytes16 h.kind,
        (
          is_bytes_bytes16 h.machine,
          (
            is_bytes_bytes32 h.version,
            (
              is_bytes_bytes64 h.entry,
              (
                is_bytes_bytes64 h.phoff,
                (
                  is_bytes_bytes64 h.shoff,
                  (
                    is_bytes_bytes32 h.flags,
                    (
                      is_bytes_bytes16 h.ehsize,
                      (
                        is_bytes_bytes16 h.phentsize,
                        (
                          is_bytes_bytes16 h.phnum,
                          (
                            is_bytes_bytes16 h.shentsize,
                            (
                              is_bytes_bytes16 h.shnum,
                              (
                                is_bytes_bytes16 h.shstrndx,
                                tt,
                              ),
                            ),
                          ),
                        ),
                      ),
                    ),
                  ),
                ),
              ),
            ),
          ),
        ),
      ),
    )

segment_is_bytes : (s : Segment) → IsBytes (segment_bytes s)
unfolding segment_bytes
segment_is_bytes s =
    concat_bytes (bytes32 s.kind ∷ bytes32 s.flags ∷ bytes64 s.offset ∷ bytes64 s.vaddr ∷ bytes64 s.paddr ∷ bytes64 s.filesz ∷ bytes64 s.memsz ∷ bytes64 s.align ∷ []) (
      is_bytes_bytes32 s.kind,
      (
        is_bytes_bytes32 s.flags,
        (
          is_bytes_bytes64 s.offset,
          (
            is_bytes_bytes64 s.vaddr,
            (
              is_bytes_bytes64 s.paddr,
              (
                is_bytes_bytes64 s.filesz,
                (
                  is_bytes_bytes64 s.memsz,
                  (is_bytes_bytes64 s.align, tt),
                ),
              ),
            ),
          ),
        ),
      ),
    )

section_is_bytes : (s : Section) → IsBytes (section_header_bytes s)
unfolding section_header_bytes
section_is_bytes s =
    concat_bytes (
    bytes32 s.name ∷ bytes32 s.kind ∷ bytes64 s.flags ∷ bytes64 s.addr ∷ bytes64 s.offset ∷ bytes64 s.size
    ∷ bytes32 s.link ∷ bytes32 s.info ∷ bytes64 s.addralign ∷ bytes64 s.entsize ∷ []) (
      is_bytes_bytes32 s.name,
      (
        is_bytes_bytes32 s.kind,
        (
          is_bytes_bytes64 s.flags,
          (
            is_bytes_bytes64 s.addr,
            (
              is_bytes_bytes64 s.offset,
              (
                is_bytes_bytes64 s.size,
                (
                  is_bytes_bytes32 s.link,
                  (is_bytes_bytes32 s.info, (is_bytes_bytes64 s.addralign, (is_bytes_bytes64 s.entsize, tt))),
                ),
              ),
            ),
          ),
        ),
      ),
    )

ident_bytes : (p : FormPlan) (o : List ℕ) (undo : ℕ) → IsBytes o → IsBytes (new_header p o undo).ident
unfolding new_header header
ident_bytes p o undo h = is_bytes_part 0 16 o h

-- ---- what moves

rows_bytes : (size : ℕ) (f : List ℕ → List ℕ) (n : ℕ) (xs : List ℕ) → ((r : List ℕ) → IsBytes r → IsBytes (f r)) → IsBytes xs → IsBytes (rows size f n xs)
unfolding rows
rows_bytes size f zero xs keeps h = h
rows_bytes size f (suc n) xs keeps h =
    is_bytes_append (f (take size xs)) (rows size f n (drop size xs)) (keeps (take size xs) (is_bytes_take size xs h)) (rows_bytes size f n (drop size xs) keeps (is_bytes_drop size xs h))

row_bytes : (more : ℕ) (kind : RowKind) (r : List ℕ) → IsBytes r → IsBytes (row_moved more kind r)
unfolding row_moved add8
row_bytes more kind r h = elim (cases_Bool (moves kind r)) [
  | inl hit ↦ rw hit (is_bytes_put (word_offset kind) (bytes64 (plus (word64 (word_offset kind) r) more)) r (is_bytes_bytes64 (plus (word64 (word_offset kind) r) more)) h)
  | inr miss ↦ rw miss h
]

moved_bytes : (more : ℕ) (t : Table) (xs : List ℕ) → IsBytes xs → IsBytes (moved more t xs)
unfolding moved on
moved_bytes more t xs h =
    is_bytes_put t.at (rows (row_size t.kind) (row_moved more t.kind) t.count (within (table_window t) xs)) xs
    (rows_bytes (row_size t.kind) (row_moved more t.kind) t.count (within (table_window t) xs) (row_bytes more t.kind) (is_bytes_part t.at (row_size t.kind * t.count) xs h)) h

all_moved_bytes : (more : ℕ) (ts : List Table) (xs : List ℕ) → IsBytes xs → IsBytes (all_moved more ts xs)
unfolding all_moved
all_moved_bytes more [] xs h = h
all_moved_bytes more (t ∷ ts) xs h = all_moved_bytes more ts (moved more t xs) (moved_bytes more t xs h)

-- ---- what is put

abbrev AllPuts : List Put → Type 0
AllPuts [] = Unit {0}
AllPuts (p ∷ ps) = IsBytes p.bytes × AllPuts ps

puts_bytes : (ps : List Put) (xs : List ℕ) → AllPuts ps → IsBytes xs → IsBytes (put_all ps xs)
unfolding put_all
puts_bytes [] xs all h = h
puts_bytes (p ∷ ps) xs all h = puts_bytes ps (put p.at p.bytes xs) all.1 (is_bytes_put p.at p.bytes xs all.0 h)

rest_bytes : (p : Spot) (flat : List ℕ) → IsBytes flat → IsBytes (drop p.hidden (drop p.size flat))
rest_bytes p flat h = is_bytes_drop p.hidden (drop p.size flat) (is_bytes_drop p.size flat h)

visible_bytes : (ps : List Spot) (flat : List ℕ) → IsBytes flat → AllPuts (visible ps flat)
visible_bytes [] flat h = tt
visible_bytes (p ∷ ps) flat h = (is_bytes_take p.size flat h, visible_bytes ps (drop p.hidden (drop p.size flat)) (rest_bytes p flat h))

hidden_bytes : (ps : List Spot) (flat : List ℕ) → IsBytes flat → AllPuts (hidden ps flat)
hidden_bytes [] flat h = tt
hidden_bytes (p ∷ ps) flat h = (is_bytes_take p.hidden (drop p.size flat) (is_bytes_drop p.size flat h), hidden_bytes ps (drop p.hidden (drop p.size flat)) (rest_bytes p flat h))

front_bytes : (p : FormPlan) (o : Original) (flat : List ℕ) (undo : ℕ) → IsBytes o.bytes → IsBytes flat → IsBytes p.dynamic → IsBytes (front_part p o flat undo)
unfolding front_part moved_part
front_bytes p o flat undo h f d =
    let placed = puts_bytes (visible o.spots flat) (all_moved p.slot o.tables o.bytes) (visible_bytes o.spots flat f) (all_moved_bytes p.slot o.tables o.bytes h) in
    let table = is_bytes_put o.dynamic.at p.dynamic (moved_part p o flat) d placed in
    let segments = is_bytes_put (header o.bytes).phoff (concat (map segment_bytes p.segments)) (under_segments p o flat) (mapped_bytes segment_bytes p.segments segment_is_bytes) table in
    is_bytes_put 0 (header_bytes (new_header p o.bytes undo)) (under_header p o flat) (header_is_bytes (new_header p o.bytes undo) (ident_bytes p o.bytes undo h)) segments

-- ---- the undo section

magic_bytes : (digest : Option (List ℕ)) → IsBytes (magic digest)
unfolding are_bytes
magic_bytes None = are_is UNDO_MAGIC refl
magic_bytes (Some digest) = are_is UNDO_MAGIC_2 refl

abbrev DigestBytes : Option (List ℕ) → Type 0
DigestBytes None = Unit {0}
DigestBytes (Some digest) = IsBytes digest

digest_is_bytes : (digest : Option (List ℕ)) → DigestBytes digest → IsBytes (digest_bytes digest)
digest_is_bytes None h = is_bytes_nil
digest_is_bytes (Some digest) h = h

section_undone : (u : Undo) → DigestBytes u.digest → IsBytes u.headers → IsBytes u.kept → IsBytes (undo_bytes u)
unfolding undo_bytes
section_undone u d h k =
    let a = is_bytes_append (magic u.digest) (bytes64 u.slot) (magic_bytes u.digest) (is_bytes_bytes64 u.slot) in
    let b = is_bytes_append _ (bytes64 u.cut) a (is_bytes_bytes64 u.cut) in
    let c = is_bytes_append _ (bytes64 u.shift) b (is_bytes_bytes64 u.shift) in
    let e = is_bytes_append _ (bytes64 u.length) c (is_bytes_bytes64 u.length) in
    let f = is_bytes_append _ (bytes64 (length u.kept)) e (is_bytes_bytes64 (length u.kept)) in
    let g = is_bytes_append _ (digest_bytes u.digest) f (digest_is_bytes u.digest d) in
    is_bytes_append _ u.kept (is_bytes_append _ u.headers g h) k

windows_bytes : (ws : List Window) (xs : List ℕ) → IsBytes xs → IsBytes (all_within ws xs)
windows_bytes [] xs h = is_bytes_nil
windows_bytes (w ∷ ws) xs h = is_bytes_append (within w xs) (all_within ws xs) (is_bytes_part w.at w.size xs h) (windows_bytes ws xs h)

memory_bytes : (ps : List Spot) (xs : List ℕ) → IsBytes xs → IsBytes (memory_of ps xs)
memory_bytes [] xs h = is_bytes_nil
memory_bytes (p ∷ ps) xs h =
    is_bytes_append (part p.at p.size xs) (replicate p.hidden 0 ++ memory_of ps xs) (is_bytes_part p.at p.size xs h)
    (is_bytes_append (replicate p.hidden 0) (memory_of ps xs) (is_bytes_zeros p.hidden) (memory_bytes ps xs h))

undo_is_bytes : (p : FormPlan) (o : Original) (digest : Option (List ℕ)) → IsBytes o.bytes → DigestBytes digest → IsBytes (undo_part p o digest)
undo_is_bytes p o digest h d =
    section_undone (undo_of p.slot p.cut (length p.more) o.dynamic o.spots o.bytes digest) d (windows_bytes (head_windows (header o.bytes)) o.bytes h)
    (is_bytes_append (within o.dynamic o.bytes) (memory_of o.spots o.bytes) (is_bytes_part o.dynamic.at o.dynamic.size o.bytes h) (memory_bytes o.spots o.bytes h))

one_byte : (j number : ℕ) → byte_at j number < 256
one_byte zero number = omega arith
one_byte (suc j) number = mod-lt (number / 256 ^ suc j) (omega arith)

four_bytes : (n : ℕ) → IsBytes (to_be_bytes w32 n)
four_bytes n zero = one_byte 3 n
four_bytes n (suc zero) = one_byte 2 n
four_bytes n (suc (suc zero)) = one_byte 1 n
four_bytes n (suc (suc (suc zero))) = one_byte 0 n
four_bytes n (suc (suc (suc (suc i)))) = is_bytes_nil i

hash_is_bytes : (h : List ℕ) (n : ℕ) → IsBytes (hash_bytes h n)
unfolding hash_bytes
hash_is_bytes h zero = is_bytes_nil
hash_is_bytes h (suc n) = is_bytes_append (hash_bytes h n) _ (hash_is_bytes h n) (four_bytes _)

sha_bytes : (o : List ℕ) → IsBytes (sha256 o)
unfolding sha256
sha_bytes o = hash_is_bytes _ 8

version_bytes : (version : Version) (o : List ℕ) → DigestBytes (digest_in version o)
version_bytes One o = tt
version_bytes Two o = sha_bytes o

-- ---- names of sections

data_bytes : (o : List ℕ) (s : Section) → IsBytes o → IsBytes (section_data o s)
unfolding section_data
data_bytes o s h = elim (cases_Bool (s.kind == 8)) [
  | inl none ↦ rw none is_bytes_nil
  | inr some ↦ rw some (is_bytes_part s.offset s.size o h)
]

ends_bytes : IsBytes (UNDO_NAME ++ NAMES_NAME)
unfolding are_bytes
ends_bytes = is_bytes_append UNDO_NAME NAMES_NAME (are_is UNDO_NAME refl) (are_is NAMES_NAME refl)

names_bytes : (p : FormPlan) (o : List ℕ) → IsBytes o → IsBytes p.names → IsBytes (names_part p o)
names_bytes p o h n =
    is_bytes_append (old_names o) (p.names ++ (UNDO_NAME ++ NAMES_NAME)) (data_bytes o (section o (header o) (header o).shstrndx) h)
    (is_bytes_append p.names (UNDO_NAME ++ NAMES_NAME) n ends_bytes)

library_names : IsBytes (LIBSTR_NAME ++ LIBLIST_NAME)
unfolding are_bytes
library_names = is_bytes_append LIBSTR_NAME LIBLIST_NAME (are_is LIBSTR_NAME refl) (are_is LIBLIST_NAME refl)

program_names : IsBytes (LIBSTR_NAME ++ (LIBLIST_NAME ++ CONFLICT_NAME))
unfolding are_bytes
program_names = is_bytes_append LIBSTR_NAME (LIBLIST_NAME ++ CONFLICT_NAME) (are_is LIBSTR_NAME refl) (is_bytes_append LIBLIST_NAME CONFLICT_NAME (are_is LIBLIST_NAME refl) (are_is CONFLICT_NAME refl))

-- ---- a form by its plan

record PlanBytes (p : FormPlan) : Type 0 where
  more : IsBytes p.more
  dynamic : IsBytes p.dynamic
  parts : AllBytes p.parts
  names : IsBytes p.names

form_bytes : (p : FormPlan) (o : Original) (flat undo : List ℕ) → IsBytes o.bytes → IsBytes flat → IsBytes undo → PlanBytes p → IsBytes (form p o flat undo)
unfolding form
form_bytes p o flat undo h f u is =
    joined_bytes (inserted p.cut p.more (front_part p o flat (length undo))) (p.parts ++ undo ∷ names_part p o.bytes ∷ table_part p o.bytes (length undo) ∷ [])
    (inserted_bytes p.cut p.more (front_part p o flat (length undo)) is.more (front_bytes p o flat (length undo) h f is.dynamic))
    (all_append p.parts (undo ∷ names_part p o.bytes ∷ table_part p o.bytes (length undo) ∷ []) is.parts (u, (names_bytes p o.bytes h is.names, (mapped_bytes section_header_bytes _ section_is_bytes, tt))))

planned_bytes : (p : FormPlan) (o : Original) (flat : List ℕ) (digest : Option (List ℕ)) → IsBytes o.bytes → IsBytes flat → DigestBytes digest → PlanBytes p → IsBytes (planned p o flat digest)
unfolding planned
planned_bytes p o flat digest h f d is = form_bytes p o flat (undo_part p o digest) h f (undo_is_bytes p o digest h d) is

-- ---- lists

graphic_byte : (b : ℕ) → is_name_byte b ≡ true → b < 256
unfolding is_name_byte
graphic_byte b e =
    let graphic = (and_parts (is_ascii_graphic b) _ e).0 in
    let high = (and_parts (nat_le 33 b) (nat_le b 126) graphic).1 in
    let most : b ≤ 126 = leb-true b 126 high in
    omega (arith, most)

all_graphic : (name : List ℕ) → list_all is_name_byte name ≡ true → IsBytes name
all_graphic [] e = is_bytes_nil
all_graphic (b ∷ bs) e =
    let p = and_parts (is_name_byte b) (list_all is_name_byte bs) e in
    cons_bytes b bs (graphic_byte b p.0) (all_graphic bs p.1)

name_bytes : (name : List ℕ) → is_valid_name name ≡ true → IsBytes name
unfolding is_valid_name
name_bytes name e =
    let a = and_parts (has_name_length name && list_all is_name_byte name && not (is_own_name name)) (not (is_dots name)) e in
    let b = and_parts (has_name_length name && list_all is_name_byte name) (not (is_own_name name)) a.0 in
    all_graphic name (and_parts (has_name_length name) (list_all is_name_byte name) b.0).1

row_name : (row : ListRow) → is_row row ≡ true → IsBytes row.name
unfolding is_row
row_name row e = name_bytes row.name (and_parts (is_valid_name row.name) _ (and_parts _ _ e).0).0

strings_bytes : (rows : List ListRow) → list_all is_row rows ≡ true → IsBytes (list_strings rows)
unfolding list_strings
strings_bytes [] e = is_bytes_nil
strings_bytes (row ∷ rows) e =
    let p = and_parts (is_row row) (list_all is_row rows) e in
    is_bytes_append (row.name ++ 0 ∷ []) (list_strings rows) (is_bytes_append row.name (0 ∷ []) (row_name row p.0) (is_bytes_zeros 1)) (strings_bytes rows p.1)

list_row_is_bytes : (at : ℕ) (row : ListRow) → IsBytes (list_row_bytes at row)
unfolding list_row_bytes
list_row_is_bytes at row =
    let a = is_bytes_append (bytes32 at) (bytes32 row.stamp) (is_bytes_bytes32 at) (is_bytes_bytes32 row.stamp) in
    let b = is_bytes_append _ (bytes32 row.checksum) a (is_bytes_bytes32 row.checksum) in
    is_bytes_append _ (bytes32 0) (is_bytes_append _ (bytes32 0) b (is_bytes_bytes32 0)) (is_bytes_bytes32 0)

table_bytes : (at : ℕ) (rows : List ListRow) → IsBytes (list_bytes at rows)
unfolding list_bytes
table_bytes at [] = is_bytes_nil
table_bytes at (row ∷ rows) = is_bytes_append (list_row_bytes at row) (list_bytes (after at row) rows) (list_row_is_bytes at row) (table_bytes (after at row) rows)

conflict_is_bytes : (row : ConflictRow) → IsBytes (conflict_bytes row)
unfolding conflict_bytes
conflict_is_bytes row =
    let a = is_bytes_append (bytes64 row.address) _ (is_bytes_bytes64 row.address) (is_bytes_bytes64 _) in
    is_bytes_append _ (bytes64 row.word) a (is_bytes_bytes64 row.word)

conflicts_are_bytes : (rows : List ConflictRow) → IsBytes (conflicts_bytes rows)
unfolding conflicts_bytes
conflicts_are_bytes [] = is_bytes_nil
conflicts_are_bytes (row ∷ rows) = is_bytes_append (conflict_bytes row) (conflicts_bytes rows) (conflict_is_bytes row) (conflicts_are_bytes rows)

-- ---- dynamic tables

entry_is_bytes : (tag value : ℕ) → IsBytes (entry_bytes tag value)
entry_is_bytes tag value = is_bytes_append (bytes64 tag) (bytes64 value) (is_bytes_bytes64 tag) (is_bytes_bytes64 value)

tag_bytes : (number new : ℕ) (r : List ℕ) → IsBytes r → IsBytes (with_tag number new r)
tag_bytes number new r h = elim (cases_Bool (word64 0 r == number)) [
  | inl hit ↦ rw hit (entry_is_bytes number new)
  | inr miss ↦ rw miss h
]

library_table : (o : Original) (slot stamp checksum : ℕ) → IsBytes o.bytes → IsBytes (library_dynamic o slot stamp checksum)
unfolding library_dynamic with_entries
library_table o slot stamp checksum h =
    is_bytes_put (16 * o.tags) (library_entries stamp checksum) (tags_moved slot o)
    (is_bytes_append (entry_bytes 0x6ffffdf5 stamp) (entry_bytes 0x6ffffdf8 checksum) (entry_is_bytes 0x6ffffdf5 stamp) (entry_is_bytes 0x6ffffdf8 checksum))
    (rows_bytes 16 (row_moved slot TagValue) o.tags (within o.dynamic o.bytes) (row_bytes slot TagValue) (is_bytes_part o.dynamic.at o.dynamic.size o.bytes h))

program_table : (o : Original) (last : Segment) (e : Extension) → IsBytes o.bytes → IsBytes (program_dynamic o last e)
unfolding program_dynamic with_entries
program_table o last e h =
    let change : List ℕ → List ℕ = λ row. with_tag 10 (length e.strings) (with_tag 5 (extension_at last) row) in
    let a = is_bytes_append (entry_bytes 0x6ffffef9 (rows_at last e)) (entry_bytes 0x6ffffdf7 (length e.rows)) (entry_is_bytes 0x6ffffef9 (rows_at last e)) (entry_is_bytes 0x6ffffdf7 (length e.rows)) in
    let b = is_bytes_append _ (entry_bytes 0x6ffffef8 (conflicts_at last e)) a (entry_is_bytes 0x6ffffef8 (conflicts_at last e)) in
    let c = is_bytes_append _ (entry_bytes 0x6ffffdf6 (length e.conflicts)) b (entry_is_bytes 0x6ffffdf6 (length e.conflicts)) in
    is_bytes_put (16 * o.tags) _ (rows 16 change o.tags (within o.dynamic o.bytes)) c
    (rows_bytes 16 change o.tags (within o.dynamic o.bytes) (λ r k. tag_bytes 10 (length e.strings) (with_tag 5 (extension_at last) r) (tag_bytes 5 (extension_at last) r k)) (is_bytes_part o.dynamic.at o.dynamic.size o.bytes h))

-- ---- a library

library_plan_bytes : (o : Original) (slot stamp checksum : ℕ) (list : List ListRow) → IsBytes o.bytes → list_all is_row list ≡ true → PlanBytes (library_plan o slot stamp checksum (listed list))
unfolding library_plan
library_plan_bytes o slot stamp checksum list h e = record {
  more = is_bytes_nil;
  dynamic = library_table o slot stamp checksum h;
  parts = (cons_bytes 0 (list_strings list) (omega arith) (strings_bytes list e), (table_bytes 1 list, tt));
  names = library_names;
}

library_bytes : (file : List ℕ) (m : Marked) → IsFormOf file m → IsLibraryMark m → IsBytes file
library_bytes file m f is =
    let o = m.original in
    let rows = (and_parts (list_all is_row m.list) (are_distinct m.list) f.list).0 in
    subst IsBytes (sym (library_file file m f is))
    (planned_bytes (library_plan (original_of o) m.slot m.stamp (checksum_of o) (listed m.list)) (original_of o) f.flat (digest_in m.version o) f.firm.bytes f.bytes (version_bytes m.version o)
    (library_plan_bytes (original_of o) m.slot m.stamp (checksum_of o) m.list f.firm.bytes rows))

-- ---- a program

lists_bytes : (e : Extension) → IsBytes e.strings → IsBytes e.rows → IsBytes e.conflicts → IsBytes (lists_part e)
lists_bytes e a b c = is_bytes_⊕ (e.strings ⊕ e.rows) e.conflicts (is_bytes_⊕ e.strings e.rows a b) c

block_bytes : (last : Segment) (ps : List Spot) (flat : List ℕ) (e : Extension) → IsBytes flat → IsBytes (lists_part e) → IsBytes (extension last ps flat e)
unfolding extension zeros_part
block_bytes last ps flat e f l =
    is_bytes_append (zeros_part last ps flat) (replicate (extension_at last - (last.vaddr + last.memsz)) 0 ++ lists_part e)
    (puts_bytes (hidden ps flat) (replicate (last.memsz - last.filesz) 0) (hidden_bytes ps flat f) (is_bytes_zeros (last.memsz - last.filesz)))
    (is_bytes_append (replicate (extension_at last - (last.vaddr + last.memsz)) 0) (lists_part e) (is_bytes_zeros (extension_at last - (last.vaddr + last.memsz))) l)

whole_bytes : (block : List ℕ) → IsBytes block → IsBytes (whole_extension block)
unfolding whole_extension
whole_bytes block h = is_bytes_append block (replicate (round_up (length block) 16 - length block) 0) h (is_bytes_zeros (round_up (length block) 16 - length block))

program_plan_bytes : (o : Original) (index : ℕ) (last : Segment) (flat : List ℕ) (e : Extension) → IsBytes o.bytes → IsBytes flat → IsBytes (lists_part e) → PlanBytes (program_plan o index last flat e)
unfolding program_plan
program_plan_bytes o index last flat e h f l = record {
  more = whole_bytes (extension last o.spots flat e) (block_bytes last o.spots flat e f l);
  dynamic = program_table o last e h;
  parts = tt;
  names = program_names;
}

extension_bytes : (o : List ℕ) (list : List ListRow) (conflicts : List ConflictRow) → IsBytes o → list_all is_row list ≡ true → IsBytes (lists_part (extension_of o list conflicts))
extension_bytes o list conflicts h e =
    lists_bytes (extension_of o list conflicts) (is_bytes_append (strings_of o) (list_strings list) (is_bytes_part _ _ o h) (strings_bytes list e)) (table_bytes (length (strings_of o)) list) (conflicts_are_bytes conflicts)

program_bytes : (file : List ℕ) (m : Marked) → IsFormOf file m → (last : Segment) → IsProgramMark m → last_load (ss_of m.original) ≡ Some last → IsBytes file
program_bytes file m f last is at =
    let o = m.original in
    let e = extension_of o m.list m.conflicts in
    let rows = (and_parts (list_all is_row m.list) (are_distinct m.list) f.list).0 in
    subst IsBytes (sym (program_file file m f last is at))
    (planned_bytes (program_plan (original_of o) (last_index (ss_of o)) last f.flat e) (original_of o) f.flat (digest_in m.version o) f.firm.bytes f.bytes (version_bytes m.version o)
    (program_plan_bytes (original_of o) (last_index (ss_of o)) last f.flat e f.firm.bytes f.bytes (extension_bytes o m.list m.conflicts f.firm.bytes rows)))

pub forms_are_bytes : FormsAreBytes
forms_are_bytes file m f = elim f.mark [
  | inl is ↦ library_bytes file m f is
  | inr is ↦ with_last file m f (IsBytes file) (λ last at. program_bytes file m f last is at)
]
