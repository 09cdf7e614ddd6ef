-- An image: what objects load in scope order, patches over it, and 0 at the bytes of link tables.
use Rattle.std.specs.Prelude.{◌≡◌, ℕ, ◌+◌, ◌*◌, ◌/◌, ◌≤◌, min, Bool, true, ◌&&◌, nat_le, nat_lt, List, [], ◌∷◌, length, map}
use Rattle.std.specs.List.{list_any, flat_map, All}
use Rattle.pl_base.specs.Memory.{Memory, Piece, Fill, AtMostOne, is_within, lies, layered, filled, shown}
use Rattle.pl_elf.specs.declared.constants.TheConstants.{ADDRESS_LIMIT}
use Rattle.pl_elf.specs.Ranges.{range_from}
use Rattle.pl_elf.specs.declared.range.Range.{Range}
use Rattle.pl_image.specs.declared.loaded_object.LoadedObject.{LoadedObject}
use Rattle.pl_image.specs.Loads.{is_masked}
use Rattle.pl_image.specs.Lines.{only, text, word_in}

pub record Image : Type 0 where
  pub objects : List LoadedObject
  pub patches : List Fill

-- ---- bytes

-- the pieces of all objects
abbrev pub all_pieces : List LoadedObject → List Piece
all_pieces objects = flat_map (λ o. o.pieces) objects

-- a byte of a link table of one of the objects is loaded at the address
abbrev pub any_masked : List LoadedObject → ℕ → Bool
any_masked objects address = list_any (λ o. is_masked o.mask address) objects

-- the map from addresses to bytes; a later patch wins
unfoldable pub byte_of : Image → Memory
byte_of i = let memory = layered (all_pieces i.objects) in shown memory (any_masked i.objects) (filled memory i.patches)

-- what the objects load, with the patches over it; nothing is masked
abbrev pub patched : Image → Memory
patched i = filled (layered (all_pieces i.objects)) i.patches

-- ---- text

abbrev pub extent_of : Piece → Range
extent_of piece = range_from piece.start piece.size

-- the addresses that each object loads
abbrev pub extents_of : List LoadedObject → List (List Range)
extents_of objects = map (λ o. map extent_of o.pieces) objects

unfoldable pub text_of : Image → List ℕ
text_of i = text (byte_of i) (extents_of i.objects)

-- ---- objects of which an image can be made

-- each piece begins at or after the end of the one before, and ends within the limit of addresses
unfoldable pub ascends : ℕ → List Piece → Bool
ascends from [] = true
ascends from (piece ∷ pieces) =
    nat_le from piece.start && nat_le (piece.start + piece.size) ADDRESS_LIMIT && ascends (piece.start + piece.size) pieces

pub record AreLoaded (objects : List LoadedObject) : Type 0 where
  -- the pieces of each object ascend
  pub ascend : All (λ o. ascends 0 o.pieces ≡ true) objects
  -- what the masks speak of ends within the limit of addresses
  pub fit : All (λ o. All (λ l. l.start + l.size ≤ ADDRESS_LIMIT) o.mask.loads) objects
  -- no address is in two pieces
  pub apart : AtMostOne lies (all_pieces objects)

-- ---- one object of an image

-- at the addresses of these pieces, which ascend, the image has no other ones
pub record AreOwn (i : Image) (pieces : List Piece) : Type 0 where
  pub ascend : ascends 0 pieces ≡ true
  pub same : (address : ℕ) → list_any (lies address) pieces ≡ true → layered (all_pieces i.objects) address ≡ layered pieces address

-- the image at the addresses of these pieces alone
abbrev pub own_memory : Image → List Piece → Memory
own_memory i pieces = only (map extent_of pieces) (byte_of i)

-- a number is the word of this number of the image at these addresses alone
abbrev pub IsOwnWord : Image → List Piece → ℕ → ℕ → Type 0
IsOwnWord i pieces number word = word ≡ word_in (own_memory i pieces) (8 * number)

-- how many bytes of a file are loaded
abbrev pub stored : Piece → ℕ
stored piece = min (length piece.bytes) piece.size

-- a byte of a file stands at the address
abbrev pub stores : ℕ → Piece → Bool
stores address piece = is_within piece.start (stored piece) address

-- a byte of a file stands in the word of a number
abbrev pub stores_in : ℕ → Piece → Bool
stores_in number piece = nat_lt 0 (stored piece) && nat_le (piece.start / 8) number && nat_lt (8 * number) (piece.start + stored piece)
