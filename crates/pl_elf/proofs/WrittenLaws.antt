-- Fields written one after the other, and read back.
use Rattle.std.proofs.Common.{◌≡◌, ◌<◌, ℕ, ◌+◌, ◌-◌, ◌^◌, List, [], ◌∷◌, ◌++◌, length, take, drop, refl, sym, ap, ◌∙◌, append_assoc, length-append, length-drop, arith}
use Rattle.std.specs.List.{concat}
use Rattle.std.proofs.Math.Seq.{take-append_seam, drop-append_seam}
use Rattle.std.proofs.lemmas.List.{drop-drop, drop_all, append-nil}
use Rattle.byteorder.specs.Numbers.{little_number-reads_back}
use Rattle.pl_base.specs.Bytes.{bytes16, bytes32, bytes64, word16, word32, word64, put}
use Rattle.pl_base.proofs.WordLaws.{word16_back, word32_back, word64_back, word16_behind, word32_behind, word64_behind}
use Rattle.pl_elf.specs.declared.header.Header.{Header}
use Rattle.pl_elf.specs.declared.segment.Segment.{Segment}
use Rattle.pl_elf.specs.declared.section.Section.{Section}
use Rattle.pl_elf.specs.Headers.{header, segment_at, section_at}
use Rattle.pl_elf.specs.Written.{header_bytes, segment_bytes, section_header_bytes}

-- fields put one after the other from an offset on
abbrev put_fields : ℕ → List (List ℕ) → List ℕ → List ℕ
put_fields at [] into = into
put_fields at (field ∷ fields) into = put_fields (at + length field) fields (put at field into)

put_next : (front field rest : List ℕ) → put (length front) field (front ++ rest) ≡ (front ++ field) ++ drop (length field) rest
unfolding put
put_next front field rest =
    let before : take (length front) (front ++ rest) ≡ front = take-append_seam front rest in
    let after : drop (length front + length field) (front ++ rest) ≡ drop (length field) rest =
    sym (drop-drop (length field) (length front) (front ++ rest)) ∙ ap (drop (length field)) (drop-append_seam front rest) in
    rw (before, after) refl

put_fields-concat : (front : List ℕ) (fields : List (List ℕ)) (rest : List ℕ) → put_fields (length front) fields (front ++ rest) ≡ front ++ (concat fields ++ drop (length (concat fields)) rest)
put_fields-concat front [] rest = refl
put_fields-concat front (field ∷ fields) rest =
    let one : put_fields (length front + length field) fields (put (length front) field (front ++ rest)) ≡ put_fields (length (front ++ field)) fields ((front ++ field) ++ drop (length field) rest) =
    rw (put_next front field rest, length-append front field) refl in
    let more = put_fields-concat (front ++ field) fields (drop (length field) rest) in
    let left : drop (length (concat fields)) (drop (length field) rest) ≡ drop (length (field ++ concat fields)) rest =
    drop-drop (length (concat fields)) (length field) rest ∙ ap (λ n. drop n rest) (sym (length-append field (concat fields))) in
    one ∙ more ∙ ap (λ xs. (front ++ field) ++ (concat fields ++ xs)) left
    ∙ append_assoc front field (concat fields ++ drop (length (field ++ concat fields)) rest)
    ∙ ap (λ xs. front ++ xs) (sym (append_assoc field (concat fields) (drop (length (field ++ concat fields)) rest)))

-- fields that fill a slice
put_fields-whole : (fields : List (List ℕ)) (into : List ℕ) → length into ≡ length (concat fields) → put_fields 0 fields into ≡ concat fields
put_fields-whole fields into size =
    put_fields-concat [] fields into
    ∙ ap (λ xs. concat fields ++ xs) (drop_all (length (concat fields)) into (omega (arith, size)))
    ∙ append-nil (concat fields)

pub header_written : (h : Header) (into : List ℕ) → length h.ident ≡ 16 → length into ≡ 64
    → put 62 (bytes16 h.shstrndx) (put 60 (bytes16 h.shnum) (put 58 (bytes16 h.shentsize) (put 56 (bytes16 h.phnum) (put 54 (bytes16 h.phentsize) (put 52 (bytes16 h.ehsize) (put 48 (bytes32 h.flags) (put 40 (bytes64 h.shoff) (put 32 (bytes64 h.phoff) (put 24 (bytes64 h.entry) (put 20 (bytes32 h.version) (put 18 (bytes16 h.machine) (put 16 (bytes16 h.kind) (put 0 h.ident into))))))))))))) ≡ header_bytes h
unfolding bytes16 bytes32 bytes64 header_bytes
header_written h into ident size =
    let fields : List (List ℕ) = bytes16 h.kind ∷ bytes16 h.machine ∷ bytes32 h.version ∷ bytes64 h.entry ∷ bytes64 h.phoff ∷ bytes64 h.shoff ∷ bytes32 h.flags ∷ bytes16 h.ehsize ∷ bytes16 h.phentsize ∷ bytes16 h.phnum ∷ bytes16 h.shentsize ∷ bytes16 h.shnum ∷ bytes16 h.shstrndx ∷ [] in
    let rest : length (drop 16 into) ≡ length (concat fields) = length-drop 16 into ∙ ap (λ n. n - 16) size in
    let front : put 0 h.ident into ≡ h.ident ++ drop 16 into = put_next [] h.ident into ∙ ap (λ n. h.ident ++ drop n into) ident in
    let one : put_fields 16 fields (put 0 h.ident into) ≡ put_fields (length h.ident) fields (h.ident ++ drop 16 into) = rw (front, ident) refl in
    one ∙ put_fields-concat h.ident fields (drop 16 into)
    ∙ ap (λ xs. h.ident ++ (concat fields ++ xs)) (drop_all (length (concat fields)) (drop 16 into) (omega (arith, rest)))
    ∙ ap (λ xs. h.ident ++ xs) (append-nil (concat fields))

pub segment_written : (s : Segment) (into : List ℕ) → length into ≡ 56
    → put 48 (bytes64 s.align) (put 40 (bytes64 s.memsz) (put 32 (bytes64 s.filesz) (put 24 (bytes64 s.paddr) (put 16 (bytes64 s.vaddr) (put 8 (bytes64 s.offset) (put 4 (bytes32 s.flags) (put 0 (bytes32 s.kind) into))))))) ≡ segment_bytes s
unfolding bytes32 bytes64 segment_bytes
segment_written s into size = put_fields-whole (bytes32 s.kind ∷ bytes32 s.flags ∷ bytes64 s.offset ∷ bytes64 s.vaddr ∷ bytes64 s.paddr ∷ bytes64 s.filesz ∷ bytes64 s.memsz ∷ bytes64 s.align ∷ []) into size

pub section_written : (s : Section) (into : List ℕ) → length into ≡ 64
    → put 56 (bytes64 s.entsize) (put 48 (bytes64 s.addralign) (put 44 (bytes32 s.info) (put 40 (bytes32 s.link) (put 32 (bytes64 s.size) (put 24 (bytes64 s.offset) (put 16 (bytes64 s.addr) (put 8 (bytes64 s.flags) (put 4 (bytes32 s.kind) (put 0 (bytes32 s.name) into))))))))) ≡ section_header_bytes s
unfolding bytes32 bytes64 section_header_bytes
section_written s into size = put_fields-whole (bytes32 s.name ∷ bytes32 s.kind ∷ bytes64 s.flags ∷ bytes64 s.addr ∷ bytes64 s.offset ∷ bytes64 s.size ∷ bytes32 s.link ∷ bytes32 s.info ∷ bytes64 s.addralign ∷ bytes64 s.entsize ∷ []) into size

-- ---- read back

pub segment_read : (s : Segment) → s.kind < 2 ^ 32 → s.flags < 2 ^ 32 → s.offset < 2 ^ 64 → s.vaddr < 2 ^ 64 → s.paddr < 2 ^ 64 → s.filesz < 2 ^ 64 → s.memsz < 2 ^ 64 → s.align < 2 ^ 64
    → segment_at (segment_bytes s) 0 ≡ s
unfolding bytes32 bytes64 word32 word64 segment_bytes segment_at
segment_read s kind flags offset vaddr paddr filesz memsz align =
    rw (
      little_number-reads_back 4 s.kind (concat (bytes32 s.flags ∷ bytes64 s.offset ∷ bytes64 s.vaddr ∷ bytes64 s.paddr ∷ bytes64 s.filesz ∷ bytes64 s.memsz ∷ bytes64 s.align ∷ [])) kind,
      little_number-reads_back 4 s.flags (concat (bytes64 s.offset ∷ bytes64 s.vaddr ∷ bytes64 s.paddr ∷ bytes64 s.filesz ∷ bytes64 s.memsz ∷ bytes64 s.align ∷ [])) flags,
      little_number-reads_back 8 s.offset (concat (bytes64 s.vaddr ∷ bytes64 s.paddr ∷ bytes64 s.filesz ∷ bytes64 s.memsz ∷ bytes64 s.align ∷ [])) offset,
      little_number-reads_back 8 s.vaddr (concat (bytes64 s.paddr ∷ bytes64 s.filesz ∷ bytes64 s.memsz ∷ bytes64 s.align ∷ [])) vaddr,
      little_number-reads_back 8 s.paddr (concat (bytes64 s.filesz ∷ bytes64 s.memsz ∷ bytes64 s.align ∷ [])) paddr,
      little_number-reads_back 8 s.filesz (concat (bytes64 s.memsz ∷ bytes64 s.align ∷ [])) filesz,
      little_number-reads_back 8 s.memsz (concat (bytes64 s.align ∷ [])) memsz,
      little_number-reads_back 8 s.align (concat ([])) align,
    )
    refl

pub section_read : (s : Section) → s.name < 2 ^ 32 → s.kind < 2 ^ 32 → s.flags < 2 ^ 64 → s.addr < 2 ^ 64 → s.offset < 2 ^ 64 → s.size < 2 ^ 64 → s.link < 2 ^ 32 → s.info < 2 ^ 32 → s.addralign < 2 ^ 64 → s.entsize < 2 ^ 64
    → section_at (section_header_bytes s) 0 ≡ s
unfolding bytes32 bytes64 word32 word64 section_header_bytes section_at
section_read s name kind flags addr offset size link info addralign entsize =
    rw (
      little_number-reads_back 4 s.name (concat (bytes32 s.kind ∷ bytes64 s.flags ∷ bytes64 s.addr ∷ bytes64 s.offset ∷ bytes64 s.size ∷ bytes32 s.link ∷ bytes32 s.info ∷ bytes64 s.addralign ∷ bytes64 s.entsize ∷ [])) name,
      little_number-reads_back 4 s.kind (concat (bytes64 s.flags ∷ bytes64 s.addr ∷ bytes64 s.offset ∷ bytes64 s.size ∷ bytes32 s.link ∷ bytes32 s.info ∷ bytes64 s.addralign ∷ bytes64 s.entsize ∷ [])) kind,
      little_number-reads_back 8 s.flags (concat (bytes64 s.addr ∷ bytes64 s.offset ∷ bytes64 s.size ∷ bytes32 s.link ∷ bytes32 s.info ∷ bytes64 s.addralign ∷ bytes64 s.entsize ∷ [])) flags,
      little_number-reads_back 8 s.addr (concat (bytes64 s.offset ∷ bytes64 s.size ∷ bytes32 s.link ∷ bytes32 s.info ∷ bytes64 s.addralign ∷ bytes64 s.entsize ∷ [])) addr,
      little_number-reads_back 8 s.offset (concat (bytes64 s.size ∷ bytes32 s.link ∷ bytes32 s.info ∷ bytes64 s.addralign ∷ bytes64 s.entsize ∷ [])) offset,
      little_number-reads_back 8 s.size (concat (bytes32 s.link ∷ bytes32 s.info ∷ bytes64 s.addralign ∷ bytes64 s.entsize ∷ [])) size,
      little_number-reads_back 4 s.link (concat (bytes32 s.info ∷ bytes64 s.addralign ∷ bytes64 s.entsize ∷ [])) link,
      little_number-reads_back 4 s.info (concat (bytes64 s.addralign ∷ bytes64 s.entsize ∷ [])) info,
      little_number-reads_back 8 s.addralign (concat (bytes64 s.entsize ∷ [])) addralign,
      little_number-reads_back 8 s.entsize (concat ([])) entsize,
    )
    refl

pub header_read : (h : Header) → length h.ident ≡ 16 → h.kind < 2 ^ 16 → h.machine < 2 ^ 16 → h.version < 2 ^ 32 → h.entry < 2 ^ 64 → h.phoff < 2 ^ 64 → h.shoff < 2 ^ 64 → h.flags < 2 ^ 32 → h.ehsize < 2 ^ 16 → h.phentsize < 2 ^ 16 → h.phnum < 2 ^ 16 → h.shentsize < 2 ^ 16 → h.shnum < 2 ^ 16 → h.shstrndx < 2 ^ 16
    → header (header_bytes h) ≡ h
unfolding bytes16 bytes32 bytes64 word16 word32 word64 header_bytes header
header_read h ident kind machine version entry phoff shoff flags ehsize phentsize phnum shentsize shnum shstrndx =
    let rest : List ℕ = concat (bytes16 h.kind ∷ bytes16 h.machine ∷ bytes32 h.version ∷ bytes64 h.entry ∷ bytes64 h.phoff ∷ bytes64 h.shoff ∷ bytes32 h.flags ∷ bytes16 h.ehsize ∷ bytes16 h.phentsize ∷ bytes16 h.phnum ∷ bytes16 h.shentsize ∷ bytes16 h.shnum ∷ bytes16 h.shstrndx ∷ []) in
    let ident_is : take 16 (drop 0 (h.ident ++ rest)) ≡ h.ident = ap (λ n. take n (h.ident ++ rest)) (sym ident) ∙ take-append_seam h.ident rest in
    let kind_is : word16 16 (h.ident ++ rest) ≡ h.kind =
    ap (λ n. word16 (n + 0) (h.ident ++ rest)) (sym ident) ∙ word16_behind h.ident rest 0 ∙ word16_back h.kind (concat (bytes16 h.machine ∷ bytes32 h.version ∷ bytes64 h.entry ∷ bytes64 h.phoff ∷ bytes64 h.shoff ∷ bytes32 h.flags ∷ bytes16 h.ehsize ∷ bytes16 h.phentsize ∷ bytes16 h.phnum ∷ bytes16 h.shentsize ∷ bytes16 h.shnum ∷ bytes16 h.shstrndx ∷ [])) kind in
    let machine_is : word16 18 (h.ident ++ rest) ≡ h.machine =
    ap (λ n. word16 (n + 2) (h.ident ++ rest)) (sym ident) ∙ word16_behind h.ident rest 2 ∙ word16_back h.machine (concat (bytes32 h.version ∷ bytes64 h.entry ∷ bytes64 h.phoff ∷ bytes64 h.shoff ∷ bytes32 h.flags ∷ bytes16 h.ehsize ∷ bytes16 h.phentsize ∷ bytes16 h.phnum ∷ bytes16 h.shentsize ∷ bytes16 h.shnum ∷ bytes16 h.shstrndx ∷ [])) machine in
    let version_is : word32 20 (h.ident ++ rest) ≡ h.version =
    ap (λ n. word32 (n + 4) (h.ident ++ rest)) (sym ident) ∙ word32_behind h.ident rest 4 ∙ word32_back h.version (concat (bytes64 h.entry ∷ bytes64 h.phoff ∷ bytes64 h.shoff ∷ bytes32 h.flags ∷ bytes16 h.ehsize ∷ bytes16 h.phentsize ∷ bytes16 h.phnum ∷ bytes16 h.shentsize ∷ bytes16 h.shnum ∷ bytes16 h.shstrndx ∷ [])) version in
    let entry_is : word64 24 (h.ident ++ rest) ≡ h.entry =
    ap (λ n. word64 (n + 8) (h.ident ++ rest)) (sym ident) ∙ word64_behind h.ident rest 8 ∙ word64_back h.entry (concat (bytes64 h.phoff ∷ bytes64 h.shoff ∷ bytes32 h.flags ∷ bytes16 h.ehsize ∷ bytes16 h.phentsize ∷ bytes16 h.phnum ∷ bytes16 h.shentsize ∷ bytes16 h.shnum ∷ bytes16 h.shstrndx ∷ [])) entry in
    let phoff_is : word64 32 (h.ident ++ rest) ≡ h.phoff =
    ap (λ n. word64 (n + 16) (h.ident ++ rest)) (sym ident) ∙ word64_behind h.ident rest 16 ∙ word64_back h.phoff (concat (bytes64 h.shoff ∷ bytes32 h.flags ∷ bytes16 h.ehsize ∷ bytes16 h.phentsize ∷ bytes16 h.phnum ∷ bytes16 h.shentsize ∷ bytes16 h.shnum ∷ bytes16 h.shstrndx ∷ [])) phoff in
    let shoff_is : word64 40 (h.ident ++ rest) ≡ h.shoff =
    ap (λ n. word64 (n + 24) (h.ident ++ rest)) (sym ident) ∙ word64_behind h.ident rest 24 ∙ word64_back h.shoff (concat (bytes32 h.flags ∷ bytes16 h.ehsize ∷ bytes16 h.phentsize ∷ bytes16 h.phnum ∷ bytes16 h.shentsize ∷ bytes16 h.shnum ∷ bytes16 h.shstrndx ∷ [])) shoff in
    let flags_is : word32 48 (h.ident ++ rest) ≡ h.flags =
    ap (λ n. word32 (n + 32) (h.ident ++ rest)) (sym ident) ∙ word32_behind h.ident rest 32 ∙ word32_back h.flags (concat (bytes16 h.ehsize ∷ bytes16 h.phentsize ∷ bytes16 h.phnum ∷ bytes16 h.shentsize ∷ bytes16 h.shnum ∷ bytes16 h.shstrndx ∷ [])) flags in
    let ehsize_is : word16 52 (h.ident ++ rest) ≡ h.ehsize =
    ap (λ n. word16 (n + 36) (h.ident ++ rest)) (sym ident) ∙ word16_behind h.ident rest 36 ∙ word16_back h.ehsize (concat (bytes16 h.phentsize ∷ bytes16 h.phnum ∷ bytes16 h.shentsize ∷ bytes16 h.shnum ∷ bytes16 h.shstrndx ∷ [])) ehsize in
    let phentsize_is : word16 54 (h.ident ++ rest) ≡ h.phentsize =
    ap (λ n. word16 (n + 38) (h.ident ++ rest)) (sym ident) ∙ word16_behind h.ident rest 38 ∙ word16_back h.phentsize (concat (bytes16 h.phnum ∷ bytes16 h.shentsize ∷ bytes16 h.shnum ∷ bytes16 h.shstrndx ∷ [])) phentsize in
    let phnum_is : word16 56 (h.ident ++ rest) ≡ h.phnum =
    ap (λ n. word16 (n + 40) (h.ident ++ rest)) (sym ident) ∙ word16_behind h.ident rest 40 ∙ word16_back h.phnum (concat (bytes16 h.shentsize ∷ bytes16 h.shnum ∷ bytes16 h.shstrndx ∷ [])) phnum in
    let shentsize_is : word16 58 (h.ident ++ rest) ≡ h.shentsize =
    ap (λ n. word16 (n + 42) (h.ident ++ rest)) (sym ident) ∙ word16_behind h.ident rest 42 ∙ word16_back h.shentsize (concat (bytes16 h.shnum ∷ bytes16 h.shstrndx ∷ [])) shentsize in
    let shnum_is : word16 60 (h.ident ++ rest) ≡ h.shnum =
    ap (λ n. word16 (n + 44) (h.ident ++ rest)) (sym ident) ∙ word16_behind h.ident rest 44 ∙ word16_back h.shnum (concat (bytes16 h.shstrndx ∷ [])) shnum in
    let shstrndx_is : word16 62 (h.ident ++ rest) ≡ h.shstrndx =
    ap (λ n. word16 (n + 46) (h.ident ++ rest)) (sym ident) ∙ word16_behind h.ident rest 46 ∙ word16_back h.shstrndx (concat ([])) shstrndx in
    rw (ident_is, kind_is, machine_is, version_is, entry_is, phoff_is, shoff_is, flags_is, ehsize_is, phentsize_is, phnum_is, shentsize_is, shnum_is, shstrndx_is) refl
