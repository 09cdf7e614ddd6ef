-- Windows that share no byte fit into a file together, so a library's form is hardly three times its original.
use Rattle.std.proofs.Common.{◌≡◌, ℕ, zero, suc, ◌+◌, ◌*◌, ◌≤◌, Bool, true, false, List, [], ◌∷◌, ◌++◌, length, drop, Option, Some, None, refl, ap, ◌∙◌, arith, inl, inr}
use Rattle.std.specs.Prelude.{◌||◌, ◌==◌, map, if◌then◌else◌}
use Rattle.std.specs.List.{list_any, AllByRecursion}
use Rattle.std.proofs.lemmas.Bool.{cases_Bool, cases_lt}
use Rattle.std.proofs.lemmas.Bool.Decides.{nat_tests}
use Rattle.pl_base.specs.Windows.{Window, end_of, within, holds, AllIn, AreApart, IsApart}
use Rattle.std.proofs.lemmas.List.{length-append, length-take, length-drop, length-map}
use Rattle.pl_base.proofs.WindowLaws.{length-within, holds_true, holds_not, AreAllApart}
use Rattle.pl_elf.specs.Headers.{header, section, sections}
use Rattle.pl_elf.specs.declared.section.Section.{Section}
use Rattle.pl_elf.specs.Clauses.{section_data}
use Rattle.pl_undo.specs.declared.undo.Undo.{Undo}
use Rattle.pl_base.proofs.WordLaws.{length_bytes64}
use Rattle.pl_undo.specs.Section.{magic, digest_bytes, undo_bytes}
use Rattle.pl_form.specs.Back.{head_windows, spot_windows, memory_of, wanted, headers_of, undo_of}
use Rattle.pl_form.specs.declared.parts.Spot.{Spot}
use Rattle.pl_form.specs.Parts.{Original, joined_size, old_names, names_part, moved_section, library_sections, library_plan, form}
use Rattle.pl_form.specs.declared.parts.Listed.{Listed}
use Rattle.pl_form.proofs.FrontLaws.{length-memory_of}
use Rattle.pl_form.proofs.FormLaws.{form_length}
use Rattle.pl_form.specs.Fits.{Fits}
use Rattle.pl_form.proofs.UndoLaws.{length-headers}
use Rattle.pl_form.specs.PartLaws.{IsDigest}
use Rattle.pl_form.proofs.KindLaws.{section_count}
use Rattle.pl_undo.specs.Section.{headers_size}

-- how many of the numbers below n pass
below : (ℕ → Bool) → ℕ → ℕ
below p zero = 0
below p (suc n) = below p n + (if p n then 1 else 0)

abbrev pub total : List Window → ℕ
total [] = 0
total (w ∷ ws) = w.size + total ws

below_none : (n : ℕ) (w : Window) → n ≤ w.at → below (λ k. holds k w) n ≡ 0
unfolding below
below_none zero w le = refl
below_none (suc n) w le = rw (holds_not n w (inl (omega (arith, le)))) (omega (arith, below_none n w (omega (arith, le))))

-- a window of the first n bytes has its size of them
below_all : (n : ℕ) (w : Window) → w.at ≤ n → n ≤ end_of w → below (λ k. holds k w) n + w.at ≡ n
unfolding below
below_all zero w from to = omega (arith, from)
below_all (suc n) w from to = elim (cases_lt n w.at) [
  | inl before ↦ rw (holds_not n w (inl before)) (omega (arith, below_none n w (omega (arith, before)), from, before))
  | inr after ↦ let hit : holds n w ≡ true = grind (arith, nat_tests) in rw hit (omega (arith, below_all n w after (omega (arith, to))))
]

below_size : (n : ℕ) (w : Window) → end_of w ≤ n → below (λ k. holds k w) n ≡ w.size
unfolding below
below_size zero w le = omega (arith, le)
below_size (suc n) w le = elim (cases_lt n (end_of w)) [
  | inl last ↦ omega (arith, below_all (suc n) w (omega (arith, last, le)) (omega (arith, last)), last, le)
  | inr past ↦ rw (holds_not n w (inr past)) (omega (arith, below_size n w past))
]

-- of two tests that no number passes both, the sums are the sum
below_or : (p q : ℕ → Bool) (n : ℕ) → ((k : ℕ) → p k ≡ true → q k ≡ false) → below (λ k. p k || q k) n ≡ below p n + below q n
unfolding below
below_or p q zero one = refl
below_or p q (suc n) one = elim (cases_Bool (p n)) [
  | inl hit ↦ rw (hit, one n hit) (omega (arith, below_or p q n one))
  | inr miss ↦ rw miss (omega (arith, below_or p q n one))
]

below_most : (p : ℕ → Bool) (n : ℕ) → below p n ≤ n
unfolding below
below_most p zero = omega arith
below_most p (suc n) = elim (cases_Bool (p n)) [
  | inl hit ↦ rw hit (omega (arith, below_most p n))
  | inr miss ↦ rw miss (omega (arith, below_most p n))
]

below_no : (n : ℕ) → below (λ k. false) n ≡ 0
unfolding below
below_no zero = refl
below_no (suc n) = omega (arith, below_no n)

apart_out : (v w : Window) (k : ℕ) → AreApart v w → holds k v ≡ true → holds k w ≡ false
apart_out v w k (inl le) h = let p = holds_true k v h in holds_not k w (inl (omega (arith, p.1, le)))
apart_out v w k (inr (inl le)) h = let p = holds_true k v h in holds_not k w (inr (omega (arith, p.0, le)))
apart_out v w k (inr (inr (inl none))) h = let p = holds_true k v h in absurd (omega (arith, p.0, p.1, none))
apart_out v w k (inr (inr (inr none))) h = holds_not k w (elim (cases_lt k w.at) [ inl lt ↦ inl lt | inr le ↦ inr (omega (arith, none, le)) ])

all_out : (v : Window) (ws : List Window) (k : ℕ) → IsApart v ws → holds k v ≡ true → list_any (holds k) ws ≡ false
all_out v [] k apart h = refl
all_out v (w ∷ ws) k apart h = rw (apart_out v w k apart.0 h, all_out v ws k apart.1 h) refl

covered : (ws : List Window) (n : ℕ) → AreAllApart ws → AllIn n ws → below (λ k. list_any (holds k) ws) n ≡ total ws
covered [] n apart fits = below_no n
covered (w ∷ ws) n apart fits =
    below_or (λ k. holds k w) (λ k. list_any (holds k) ws) n (λ k h. all_out w ws k apart.0 h) ∙ omega (arith, below_size n w fits.0, covered ws n apart.1 fits.1)

pub apart_fit : (ws : List Window) (n : ℕ) → AreAllApart ws → AllIn n ws → total ws ≤ n
apart_fit ws n apart fits = omega (arith, covered ws n apart fits, below_most (λ k. list_any (holds k) ws) n)

-- ---- how long a library's form is

total-append : (vs ws : List Window) → total (vs ++ ws) ≡ total vs + total ws
total-append [] ws = omega arith
total-append (v ∷ vs) ws = omega (arith, total-append vs ws)

-- no byte of a place is hidden: it is in the file part
total_spots : (ps : List Spot) → AllByRecursion (λ p. p.hidden ≡ 0) ps → total (spot_windows ps) ≡ wanted ps
total_spots [] none = refl
total_spots (p ∷ ps) none = omega (arith, none.0, total_spots ps none.1)

digest_length : (digest : Option (List ℕ)) → IsDigest digest → length (digest_bytes digest) ≤ 32
digest_length None is = omega arith
digest_length (Some digest) is = omega (arith, is)

magic_length : (digest : Option (List ℕ)) → length (magic digest) ≡ 8
magic_length None = refl
magic_length (Some digest) = refl

pub undo_length : (u : Undo) → IsDigest u.digest → length (undo_bytes u) ≤ 80 + (length u.headers + length u.kept)
unfolding undo_bytes
undo_length u is =
    simp length-append (omega (arith, magic_length u.digest, digest_length u.digest is, length_bytes64 u.slot, length_bytes64 u.cut, length_bytes64 u.shift, length_bytes64 u.length, length_bytes64 (length u.kept)))

pub kept_length : (u : Undo) → length u.kept ≤ length (undo_bytes u)
unfolding undo_bytes
kept_length u = simp length-append (omega arith)

both_in : (n : ℕ) (vs ws : List Window) → AllIn n vs → AllIn n ws → AllIn n (vs ++ ws)
both_in n [] ws a b = b
both_in n (v ∷ vs) ws a b = (a.0, both_in n vs ws a.1 b)

headers_length : (o : List ℕ) → AllIn (length o) (head_windows (header o)) → length (headers_of o) ≡ 64 + (56 * (header o).phnum + 64 * (header o).shnum)
unfolding headers_size
headers_length o fits = length-headers o fits ∙ omega arith

-- what is kept of a library is no longer than the library: the header, the tables, the dynamic table and the places share no byte
pub undo_most : (o : Original) (digest : Option (List ℕ)) (slot cut shift : ℕ) → IsDigest digest → AreAllApart ((head_windows (header o.bytes) ++ o.dynamic ∷ []) ++ spot_windows o.spots) → AllIn (length o.bytes) (head_windows (header o.bytes) ++ o.dynamic ∷ []) → AllIn (length o.bytes) (spot_windows o.spots)
    → AllByRecursion (λ p. p.hidden ≡ 0) o.spots → length (undo_bytes (undo_of slot cut shift o.dynamic o.spots o.bytes digest)) ≤ 80 + length o.bytes
undo_most o digest slot cut shift is apart heads spots none =
    let u = undo_of slot cut shift o.dynamic o.spots o.bytes digest in
    let h = header o.bytes in
    let headers : length u.headers ≡ 64 + (56 * h.phnum + 64 * h.shnum) = headers_length o.bytes (heads.0, (heads.1.0, (heads.1.1.0, tt))) in
    let kept : length u.kept ≡ o.dynamic.size + wanted o.spots = length-append (within o.dynamic o.bytes) (memory_of o.spots o.bytes) ∙ omega (arith, length-within o.dynamic o.bytes heads.1.1.1.0, length-memory_of o.spots o.bytes spots) in
    let fit = apart_fit ((head_windows h ++ o.dynamic ∷ []) ++ spot_windows o.spots) (length o.bytes) apart (both_in (length o.bytes) (head_windows h ++ o.dynamic ∷ []) (spot_windows o.spots) heads spots) in
    omega (arith, undo_length u is, headers, kept, fit, total-append (head_windows h ++ o.dynamic ∷ []) (spot_windows o.spots), total_spots o.spots none)

data_most : (o : List ℕ) (s : Section) → length (section_data o s) ≤ length o
unfolding section_data
data_most o s = elim (cases_Bool (s.kind == 8)) [
  | inl hit ↦ rw hit (omega arith)
  | inr miss ↦ rw miss (omega (arith, length-take s.size (drop s.offset o), length-drop s.offset o))
]

names_most : (o : List ℕ) → length (old_names o) ≤ length o
names_most o = data_most o (section o (header o) (header o).shstrndx)

-- three times the original, the table and the list
pub library_most : (o : Original) (slot stamp checksum : ℕ) (l : Listed) (flat undo : List ℕ) → Fits (library_plan o slot stamp checksum l) o flat (length undo) → length undo ≤ 80 + length o.bytes → (header o.bytes).shnum ≤ 65000
    → length (form (library_plan o slot stamp checksum l) o flat undo) ≤ 3 * length o.bytes + (length l.strings + length l.rows) + 4160456
unfolding library_plan library_sections joined_size
library_most o slot stamp checksum l flat undo fits u few =
    let n = names_most o.bytes in
    let p = library_plan o slot stamp checksum l in
    let old = map (moved_section slot) (sections o.bytes (header o.bytes)) in
    let names : length (names_part p o.bytes) ≡ length (old_names o.bytes) + 53 = length-append (old_names o.bytes) _ in
    let count : length p.sections ≡ (header o.bytes).shnum + 2 = length-append old _ ∙ ap (λ (k : ℕ). k + 2) (length-map (sections o.bytes (header o.bytes)) (moved_section slot) ∙ section_count o.bytes (header o.bytes)) in
    omega (arith, form_length p o flat undo fits, names, count, u, n, few)
