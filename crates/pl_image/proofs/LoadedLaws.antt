-- What objects load.
use Rattle.std.proofs.Common.{◌≡◌, ℕ, ◌+◌, ◌≤◌, ◌^◌, true, List, [], ◌∷◌, ◌++◌, None, refl, ◌∙◌, arith, inl, inr}
use Rattle.std.specs.Prelude.{◌&&◌, nat_le}
use Rattle.std.specs.List.{All}
use Rattle.std.specs.Option.{option_or}
use Rattle.std.proofs.lemmas.Bool.{cases_Bool, and_parts, leb-true}
use Rattle.std.proofs.lemmas.List.Elements.{All-head, All-tail}
use Rattle.pl_base.specs.Memory.{Piece, lies, layered}
use Rattle.pl_base.proofs.MemoryLaws.{within_not}
use Rattle.pl_elf.specs.declared.constants.TheConstants.{ADDRESS_LIMIT}
use Rattle.pl_image.specs.Image.{all_pieces, ascends, AreLoaded}
use Rattle.pl_image.specs.declared.loaded_object.LoadedObject.{LoadedObject}

-- of two lists of pieces the first counts
pub layered_join : (ps qs : List Piece) (a : ℕ) → layered (ps ++ qs) a ≡ option_or (layered ps a) (layered qs a)
unfolding layered
layered_join [] qs a = refl
layered_join (p ∷ ps) qs a = elim (cases_Bool (lies a p)) [
  | inl hit ↦ rw hit refl
  | inr miss ↦ rw miss (layered_join ps qs a)
]

-- an object more
pub layered_more : (l : LoadedObject) (ls : List LoadedObject) (a : ℕ) → layered (all_pieces (l ∷ ls)) a ≡ option_or (layered l.pieces a) (layered (all_pieces ls) a)
layered_more l ls a = layered_join l.pieces (all_pieces ls) a

-- ---- past the limit of addresses nothing is loaded

ascend_none : (from : ℕ) (ps : List Piece) (a : ℕ) → ascends from ps ≡ true → ADDRESS_LIMIT ≤ a → layered ps a ≡ None
unfolding ascends layered
ascend_none from [] a up le = refl
ascend_none from (p ∷ ps) a up le =
    let parts = and_parts (nat_le from p.start && nat_le (p.start + p.size) ADDRESS_LIMIT) (ascends (p.start + p.size) ps) up in
    let ends = leb-true (p.start + p.size) ADDRESS_LIMIT (and_parts (nat_le from p.start) (nat_le (p.start + p.size) ADDRESS_LIMIT) parts.0).1 in
    rw (within_not p.start p.size a (inr (omega arith))) (ascend_none (p.start + p.size) ps a parts.1 le)

above : (ls : List LoadedObject) (a : ℕ) → All (λ l. ascends 0 l.pieces ≡ true) ls → ADDRESS_LIMIT ≤ a → layered (all_pieces ls) a ≡ None
unfolding layered
above [] a up le = refl
above (l ∷ ls) a up le =
    let P : LoadedObject → Type 0 = λ k. ascends 0 k.pieces ≡ true in
    layered_more l ls a ∙ rw (ascend_none 0 l.pieces a (All-head P l ls up) le) (above ls a (All-tail P l ls up) le)

pub none_above : (ls : List LoadedObject) (a : ℕ) → AreLoaded ls → 2 ^ 64 ≤ a → layered (all_pieces ls) a ≡ None
none_above ls a loaded le = above ls a loaded.ascend (omega arith)
