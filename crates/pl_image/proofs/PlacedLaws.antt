-- Objects that are placed load what an image can be made of.
use Rattle.std.proofs.Common.{◌≡◌, ℕ, ◌+◌, ◌≤◌, true, false, List, [], ◌∷◌, refl, sym, subst, arith}
use Rattle.std.specs.Prelude.{nat_le, map}
use Rattle.std.specs.List.{list_any, All}
use Rattle.std.proofs.lemmas.Bool.{or_parts, and_parts}
use Rattle.std.proofs.lemmas.Bool.Decides.{nat_tests}
use Rattle.std.proofs.lemmas.List.{append-nil}
use Rattle.std.proofs.lemmas.List.Elements.{All-head, All-tail, All-nil, All-cons, All-weaker}
use Rattle.pl_base.specs.Memory.{AtMostOne, lies}
use Rattle.pl_elf.specs.declared.constants.TheConstants.{ADDRESS_LIMIT}
use Rattle.pl_elf.specs.declared.segment.Segment.{Segment}
use Rattle.pl_elf.specs.Clauses.{bad_load, ascend_from, AreLoads}
use Rattle.pl_elf.proofs.AcceptedLaws.{LoadFits, load_fits, loads_fit}
use Rattle.pl_elf.specs.Headers.{loads}
use Rattle.pl_object.specs.declared.object.Object.{Object}
use Rattle.pl_image.specs.declared.mask.Load.{Load}
use Rattle.pl_image.specs.declared.loaded_object.LoadedObject.{LoadedObject}
use Rattle.pl_image.specs.Loads.{loaded_pieces, pieces_at, load_at, mask_at, IsPlaced}
use Rattle.pl_image.specs.Image.{ascends, AreLoaded}
use Rattle.pl_image.proofs.PieceLemmas.{ascend_apart}

-- ---- one object

ends_at_0 : (ss : List Segment) → list_any bad_load ss ≡ false → All (λ s. 0 + (s.vaddr + s.memsz) ≤ ADDRESS_LIMIT) ss
ends_at_0 ss fit = All-weaker LoadFits (λ (s : Segment). 0 + (s.vaddr + s.memsz) ≤ ADDRESS_LIMIT) (λ s fits. omega (arith, fits.ends)) ss (loads_fit ss fit)

-- an object with accepted PT_LOADs can be placed at 0
pub placed_at_0 : (o : Object) → AreLoads (loads o.segments) → IsPlaced 0 o
placed_at_0 o are = record { accepted = are; ends = ends_at_0 (loads o.segments) are.fit }

pieces_from : (place : ℕ) (bytes : List ℕ) (at from : ℕ) (ss : List Segment) → at ≤ place + from → ascend_from from ss ≡ true → All (λ s. place + (s.vaddr + s.memsz) ≤ ADDRESS_LIMIT) ss
    → ascends at (loaded_pieces place bytes ss) ≡ true
unfolding ascends
pieces_from place bytes at from [] low later ends = refl
pieces_from place bytes at from (s ∷ ss) low later ends =
    let l = and_parts (nat_le from s.vaddr) (ascend_from (s.vaddr + s.memsz) ss) later in
    let end : place + (s.vaddr + s.memsz) ≤ ADDRESS_LIMIT = All-head (λ (x : Segment). place + (x.vaddr + x.memsz) ≤ ADDRESS_LIMIT) s ss ends in
    let rest = pieces_from place bytes (place + s.vaddr + s.memsz) (s.vaddr + s.memsz) ss (omega arith) l.1 (All-tail (λ (x : Segment). place + (x.vaddr + x.memsz) ≤ ADDRESS_LIMIT) s ss ends) in
    let begins : nat_le at (place + s.vaddr) ≡ true = let le = l.0 in grind (arith, nat_tests) in
    let ended : nat_le (place + s.vaddr + s.memsz) ADDRESS_LIMIT ≡ true = grind (arith, nat_tests) in
    rw (begins, ended) rest

pub pieces_ascend : (place : ℕ) (bytes : List ℕ) (o : Object) → IsPlaced place o → ascends 0 (pieces_at place bytes o) ≡ true
pieces_ascend place bytes o is = pieces_from place bytes 0 0 (loads o.segments) (omega arith) is.accepted.ascend is.ends

fits_from : (place : ℕ) (ss : List Segment) → list_any bad_load ss ≡ false → All (λ s. place + (s.vaddr + s.memsz) ≤ ADDRESS_LIMIT) ss → All (λ l. l.start + l.size ≤ ADDRESS_LIMIT) (map (load_at place) ss)
fits_from place [] fit ends = All-nil (λ (l : Load). l.start + l.size ≤ ADDRESS_LIMIT)
fits_from place (s ∷ ss) fit ends =
    let f = or_parts (bad_load s) (list_any bad_load ss) fit in
    let end : place + (s.vaddr + s.memsz) ≤ ADDRESS_LIMIT = All-head (λ (x : Segment). place + (x.vaddr + x.memsz) ≤ ADDRESS_LIMIT) s ss ends in
    let room = (load_fits s f.0).bytes in
    All-cons (λ (l : Load). l.start + l.size ≤ ADDRESS_LIMIT) (load_at place s) (map (load_at place) ss) (omega arith)
    (fits_from place ss f.1 (All-tail (λ (x : Segment). place + (x.vaddr + x.memsz) ≤ ADDRESS_LIMIT) s ss ends))

pub mask_fits : (place : ℕ) (o : Object) → IsPlaced place o → All (λ l. l.start + l.size ≤ ADDRESS_LIMIT) (mask_at place o).loads
mask_fits place o is = fits_from place (loads o.segments) is.accepted.fit is.ends

-- ---- one object alone

pub alone : (o : LoadedObject) → ascends 0 o.pieces ≡ true → All (λ l. l.start + l.size ≤ ADDRESS_LIMIT) o.mask.loads → AreLoaded (o ∷ [])
alone o ascend fit = record {
  ascend = All-cons (λ (x : LoadedObject). ascends 0 x.pieces ≡ true) o [] ascend (All-nil (λ (x : LoadedObject). ascends 0 x.pieces ≡ true));
  fit = All-cons (λ (x : LoadedObject). All (λ (l : Load). l.start + l.size ≤ ADDRESS_LIMIT) x.mask.loads) o [] fit (All-nil (λ (x : LoadedObject). All (λ (l : Load). l.start + l.size ≤ ADDRESS_LIMIT) x.mask.loads));
  apart = subst (AtMostOne lies) (sym (append-nil o.pieces)) (ascend_apart o.pieces ascend);
}
