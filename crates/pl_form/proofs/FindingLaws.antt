-- Loops over windows and sections, words past the end, and what is put back.
use Rattle.std.proofs.Common.{◌≡◌, ℕ, ◌+◌, ◌*◌, ◌^◌, ◌<◌, ◌≤◌, List, [], ◌∷◌, ◌++◌, length, get_or, take, drop, refl, sym, ap, ◌∙◌, append_assoc, arith, inl, inr}
use Rattle.std.specs.Prelude.{◌&&◌, ◌==◌}
use Rattle.std.proofs.lemmas.Bool.{cases_Bool, and_parts, eqb-true}
use Rattle.std.proofs.lemmas.List.{append-nil, length-take, drop-drop, get_or-drop}
use Rattle.pl_base.specs.Bytes.{part, put, word32, word64}
use Rattle.pl_base.specs.Windows.{Window, within, put_all}
use Rattle.pl_elf.specs.Headers.{header}
use Rattle.pl_elf.specs.declared.constants.TheConstants.{SHT_SYMTAB}
use Rattle.pl_elf.specs.declared.header.Header.{Header}
use Rattle.pl_elf.specs.declared.section.Section.{Section}
use Rattle.pl_move.specs.declared.table.Table.{Table}
use Rattle.pl_object.specs.Tables.{symtab_windows, has_kind}
use Rattle.pl_form.specs.Back.{all_within, stored_puts}
use Rattle.pl_form.specs.Found.{symtab_tables}
use Rattle.pl_form.proofs.SizeLaws.{kept_length}
use Rattle.pl_undo.specs.Section.{headers_size, fits_kind, are_words, is_digest, has_headers, IsUndoOf}
use Rattle.pl_undo.specs.declared.undo.Undo.{Undo}
use Rattle.pl_form.specs.Stored.{IsWhole}
use Rattle.pl_form.proofs.PlaceLaws.{rest_is, rest_none}

-- ---- windows

pub within_more : (ws : List Window) (i : ℕ) (d : Window) (bytes out new whole : List ℕ) → i < length ws → new ≡ out ++ within (get_or ws i d) bytes
    → out ++ all_within (drop i ws) bytes ≡ whole → new ++ all_within (drop (i + 1) ws) bytes ≡ whole
within_more ws i d bytes out new whole lt step so_far =
    let a : List ℕ = within (get_or ws i d) bytes in
    let rest : List ℕ = all_within (drop (i + 1) ws) bytes in
    ap (λ (u : List ℕ). u ++ rest) step ∙ append_assoc out a rest ∙ sym (ap (λ (xs : List Window). out ++ all_within xs bytes) (rest_is ws i d lt)) ∙ so_far

pub within_done : (ws : List Window) (i : ℕ) (bytes out whole : List ℕ) → length ws ≤ i → out ++ all_within (drop i ws) bytes ≡ whole → out ≡ whole
within_done ws i bytes out whole le so_far = sym (append-nil out) ∙ sym (ap (λ (xs : List Window). out ++ all_within xs bytes) (rest_none ws i le)) ∙ so_far

-- ---- SYMTAB sections

one_then : (s : Section) (ss : List Section) → symtab_tables (symtab_windows (s ∷ ss)) ≡ symtab_tables (symtab_windows (s ∷ [])) ++ symtab_tables (symtab_windows ss)
unfolding symtab_windows
one_then s ss = elim (cases_Bool (has_kind SHT_SYMTAB s)) [
  | inl hit ↦ rw hit refl
  | inr miss ↦ rw miss refl
]

pub symtabs_more : (ss : List Section) (i : ℕ) (d : Section) (out new whole : List Table) → i < length ss → new ≡ out ++ symtab_tables (symtab_windows (get_or ss i d ∷ []))
    → out ++ symtab_tables (symtab_windows (drop i ss)) ≡ whole → new ++ symtab_tables (symtab_windows (drop (i + 1) ss)) ≡ whole
symtabs_more ss i d out new whole lt step so_far =
    let a : List Table = symtab_tables (symtab_windows (get_or ss i d ∷ [])) in
    let rest : List Table = symtab_tables (symtab_windows (drop (i + 1) ss)) in
    ap (λ (u : List Table). u ++ rest) step ∙ append_assoc out a rest ∙ sym (ap (λ (ts : List Table). out ++ ts) (one_then (get_or ss i d) (drop (i + 1) ss)))
    ∙ sym (ap (λ (xs : List Section). out ++ symtab_tables (symtab_windows xs)) (rest_is ss i d lt)) ∙ so_far

none_left : symtab_tables (symtab_windows []) ≡ []
unfolding symtab_windows
none_left = refl

pub symtabs_done : (ss : List Section) (i : ℕ) (out whole : List Table) → length ss ≤ i → out ++ symtab_tables (symtab_windows (drop i ss)) ≡ whole → out ≡ whole
symtabs_done ss i out whole le so_far =
    sym (append-nil out) ∙ sym (ap (λ (ts : List Table). out ++ ts) none_left) ∙ sym (ap (λ (xs : List Section). out ++ symtab_tables (symtab_windows xs)) (rest_none ss i le)) ∙ so_far

-- ---- words past the end

four_from : (xs : List ℕ) (at i a b c d : ℕ) → a ≡ get_or xs (at + i) 0 → b ≡ get_or xs (at + (i + 1)) 0 → c ≡ get_or xs (at + (i + 2)) 0 → d ≡ get_or xs (at + (i + 3)) 0
    → a + 256 * b + 65536 * (c + 256 * d) ≡ get_or (drop at xs) i 0 + 256 * (get_or (drop at xs) (i + 1) 0 + 256 * (get_or (drop at xs) (i + 2) 0 + 256 * (get_or (drop at xs) (i + 3) 0 + 256 * 0)))
four_from xs at i a b c d e f g h =
    let e' = e ∙ sym (get_or-drop at xs i 0) in
    let f' = f ∙ sym (get_or-drop at xs (i + 1) 0) in
    let g' = g ∙ sym (get_or-drop at xs (i + 2) 0) in
    let h' = h ∙ sym (get_or-drop at xs (i + 3) 0) in
    omega (arith, e', f', g', h')

pub four_bytes : (xs : List ℕ) (at a b c d : ℕ) → a ≡ get_or xs at 0 → b ≡ get_or xs (at + 1) 0 → c ≡ get_or xs (at + 2) 0 → d ≡ get_or xs (at + 3) 0 → a + 256 * b + 65536 * (c + 256 * d) ≡ word32 at xs
unfolding word32
four_bytes xs at a b c d e f g h =
    let zero_more : at + 0 ≡ at = omega arith in
    four_from xs at 0 a b c d (e ∙ ap (λ (n : ℕ). get_or xs n 0) (sym zero_more)) f g h

-- the bytes four further on
four_on : (xs : List ℕ) (at i : ℕ) → get_or (drop (at + 4) xs) i 0 ≡ get_or (drop at xs) (4 + i) 0
four_on xs at i =
    let same : at + 4 + i ≡ at + (4 + i) = omega arith in
    get_or-drop (at + 4) xs i 0 ∙ ap (λ (n : ℕ). get_or xs n 0) same ∙ sym (get_or-drop at xs (4 + i) 0)

pub two_halves : (xs : List ℕ) (at a b : ℕ) → a ≡ word32 at xs → b ≡ word32 (at + 4) xs → a + 4294967296 * b ≡ word64 at xs
unfolding word32 word64
two_halves xs at a b e f =
    let ys = drop at xs in
    let w0 = get_or ys 0 0 in let w1 = get_or ys 1 0 in let w2 = get_or ys 2 0 in let w3 = get_or ys 3 0 in
    let w4 = get_or ys 4 0 in let w5 = get_or ys 5 0 in let w6 = get_or ys 6 0 in let w7 = get_or ys 7 0 in
    let high : b ≡ w4 + 256 * (w5 + 256 * (w6 + 256 * (w7 + 256 * 0))) =
    f ∙ omega (arith, four_on xs at 0, four_on xs at 1, four_on xs at 2, four_on xs at 3) in
    let low : a ≡ w0 + 256 * (w1 + 256 * (w2 + 256 * (w3 + 256 * 0))) = e in
    omega (arith, high, low)

-- ---- what is stored

pub part_short : (at size : ℕ) (xs : List ℕ) → length (part at size xs) ≤ size
part_short at size xs = omega (arith, length-take size (drop at xs))

pub stored_put : (u : Undo) (d : Window) (h : Header) (front one two three four : List ℕ) → h ≡ header u.headers
    → one ≡ put 0 (part 0 64 u.headers) front → two ≡ put h.phoff (part 64 (56 * h.phnum) u.headers) one → three ≡ put h.shoff (part (64 + 56 * h.phnum) (64 * h.shnum) u.headers) two
    → four ≡ put d.at (part 0 d.size u.kept) three → four ≡ put_all (stored_puts u d) front
unfolding put_all
stored_put u d h front one two three four is a b c e =
    let third : part (64 + 56 * h.phnum) (64 * h.shnum) u.headers ≡ take (64 * h.shnum) (drop (56 * h.phnum) (drop 64 u.headers)) = ap (λ (xs : List ℕ). take (64 * h.shnum) xs) (sym (drop-drop (56 * h.phnum) 64 u.headers)) in
    e ∙ ap (put d.at (take d.size u.kept)) (c ∙ ap (λ (xs : List ℕ). put h.shoff xs two) third
    ∙ ap (put h.shoff (take (64 * h.shnum) (drop (56 * h.phnum) (drop 64 u.headers)))) (b ∙ ap (put h.phoff (take (56 * h.phnum) (drop 64 u.headers))) a))
    ∙ ap (λ (x : Header). put d.at (take d.size u.kept) (put x.shoff (take (64 * x.shnum) (drop (56 * x.phnum) (drop 64 u.headers))) (put x.phoff (take (56 * x.phnum) (drop 64 u.headers)) (put 0 (take 64 u.headers) front)))) is

pub whole_of : (bytes : List ℕ) (u : Undo) → length bytes < 2 ^ 32 → IsUndoOf bytes u → IsWhole u
unfolding has_headers
whole_of bytes u small is =
    let p = and_parts (are_words u && is_digest u.digest) (has_headers u) is.is_spelled in
    let q = and_parts (length u.headers == headers_size (header u.headers)) (fits_kind (header u.headers).kind u) p.1 in
    record { headers = eqb-true (length u.headers) (headers_size (header u.headers)) q.0; kept = omega (arith, kept_length u, ap length is.in_bytes, small) }
