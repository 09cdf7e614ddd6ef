-- The bytes at the places of a program: those that its scope makes there.
use Rattle.std.proofs.Common.{◌≡◌, ℕ, ◌+◌, ◌<◌, true, false, List, [], ◌∷◌, ◌++◌, length, map, refl, sym, ap, ◌∙◌, zero-add, arith, inl, inr}
use Rattle.std.specs.Prelude.{◌==◌, filter}
use Rattle.std.specs.List.{All, AllZip, concat}
use Rattle.std.proofs.lemmas.Bool.{cases_Bool, cases_lt, not-false}
use Rattle.std.proofs.lemmas.List.Elements.{All-head, All-tail}
use Rattle.pl_base.specs.Memory.{Memory, Piece, is_within, read}
use Rattle.pl_base.specs.Sums.{plus}
use Rattle.pl_base.specs.Windows.{Window}
use Rattle.pl_base.proofs.MemoryLaws.{read_length, within_is}
use Rattle.pl_conflict.proofs.GivenLaws.{IsOwnGiven}
use Rattle.pl_elf.specs.declared.constants.TheConstants.{R_X86_64_NONE}
use Rattle.pl_form.specs.Words.{AreFills, flat_of, has_place, fill_window}
use Rattle.pl_object.specs.Relocations.{places, width}
use Rattle.pl_object.specs.declared.object.Object.{Object}
use Rattle.pl_object.specs.declared.reloc.Reloc.{Reloc}
use Rattle.pl_sym.specs.declared.symbol.Symbol.{Symbol}
use Rattle.pl_tls.specs.declared.module.Module.{Module}
use Rattle.pl_value.specs.Targets.{base_of}
use Rattle.pl_value.specs.declared.meaning.Meaning.{Meaning}
use Rattle.pl_value.proofs.PlaceLaws.{IsHeld}
use Rattle.pl_rewrite.specs.Fills.{fill_at, fills}

-- ---- they are fills of the places

windows_are : (m : Memory) (rs : List Reloc) → map fill_window (map (fill_at m) rs) ≡ places rs
windows_are m [] = refl
windows_are m (r ∷ rs) =
    ap (λ (n : ℕ). record { at = r.address; size = n } ∷ map fill_window (map (fill_at m) rs)) (read_length m r.address r.width)
    ∙ ap (λ (ws : List Window). record { at = r.address; size = r.width } ∷ ws) (windows_are m rs)

pub are_fills : (m : Memory) (rs : List Reloc) → AreFills (fills m rs) rs
unfolding fills
are_fills m rs = windows_are m (filter has_place rs)

-- ---- they are the bytes of all places

empty : (xs : List ℕ) → length xs ≡ 0 → xs ≡ []
empty [] e = refl
empty (x ∷ xs) e = absurd (omega (arith, e))

read_none : (m : Memory) (start size : ℕ) → size ≡ 0 → read m start size ≡ []
read_none m start size e = empty (read m start size) (read_length m start size ∙ e)

own_hit : (n size : ℕ) → 0 < size → is_within n size n ≡ true
own_hit n size some = within_is n size n (omega arith) (omega (arith, some))

pub place_read : (m : Memory) (pieces : List Piece) (r : Reloc) → IsHeld 0 pieces r → read m (plus 0 r.address) r.width ≡ read m r.address r.width
place_read m pieces r held = elim (cases_lt 0 r.width) [
  | inl some ↦
      let straight : plus 0 r.address ≡ r.address = held.start (plus 0 r.address) (own_hit (plus 0 r.address) r.width some) ∙ zero-add r.address in
      ap (λ (n : ℕ). read m n r.width) straight
  | inr none ↦
      let e : r.width ≡ 0 = omega (arith, none) in
      read_none m (plus 0 r.address) r.width e ∙ sym (read_none m r.address r.width e)
]

abbrev pub IsWide : List Symbol → Reloc → Type 0
IsWide symbols r = r.width ≡ width symbols r.kind r.symbol

none_wide : (symbols : List Symbol) (r : Reloc) → IsWide symbols r → has_place r ≡ false → r.width ≡ 0
unfolding width
none_wide symbols r wide none =
    let is : (r.kind == R_X86_64_NONE) ≡ true = not-false (r.kind == R_X86_64_NONE) none in
    let zero : width symbols r.kind r.symbol ≡ 0 = rw is refl in
    wide ∙ zero

pub flat_same : (objects : List Object) (slots : List ℕ) (modules : List Module) (m : Memory) (pieces : List Piece) (symbols : List Symbol) (rs : List Reloc) (gs : List Meaning) → base_of slots 0 ≡ 0 → AllZip (IsOwnGiven objects slots modules) rs gs
    → All (IsHeld 0 pieces) rs → All (IsWide symbols) rs → flat_of (fills m rs) ≡ concat (map (λ g. read m g.start g.size) gs)
unfolding IsOwnGiven fills
flat_same objects slots modules m pieces symbols [] [] at zip held wide = refl
flat_same objects slots modules m pieces symbols [] (g ∷ gs) at zip held wide = absurd zip
flat_same objects slots modules m pieces symbols (r ∷ rs) [] at zip held wide = absurd zip
flat_same objects slots modules m pieces symbols (r ∷ rs) (g ∷ gs) at zip held wide =
    let start : g.start ≡ plus 0 r.address = ap (λ (h : Meaning). h.start) (sym zip.0.is) ∙ ap (λ (n : ℕ). plus n r.address) at in
    let size : g.size ≡ r.width = ap (λ (h : Meaning). h.size) (sym zip.0.is) in
    let same : read m g.start g.size ≡ read m r.address r.width =
    ap (λ (n : ℕ). read m n g.size) start ∙ ap (read m (plus 0 r.address)) size ∙ place_read m pieces r (All-head (IsHeld 0 pieces) r rs held) in
    let rest = flat_same objects slots modules m pieces symbols rs gs at zip.1 (All-tail (IsHeld 0 pieces) r rs held) (All-tail (IsWide symbols) r rs wide) in
    let later : List ℕ = concat (map (λ (h : Meaning). read m h.start h.size) gs) in
    elim (cases_Bool (has_place r)) [
      | inl some ↦ rw some (ap (λ (xs : List ℕ). read m r.address r.width ++ xs) rest ∙ ap (λ (xs : List ℕ). xs ++ later) (sym same))
      | inr none ↦
          let nothing : read m g.start g.size ≡ [] = same ∙ read_none m r.address r.width (none_wide symbols r (All-head (IsWide symbols) r rs wide) none) in
          rw none (rest ∙ ap (λ (xs : List ℕ). xs ++ later) (sym nothing))
    ]
