-- Runs of bytes in a file, what is written into them, and files that differ in them alone.
use Rattle.std.specs.Prelude.{◌≡◌, ◌≤◌, ◌⊎◌, ℕ, ◌+◌, ◌-◌, ◌*◌, ◌/◌, Bool, true, false, ◌&&◌, nat_le, nat_lt, List, [], ◌∷◌, ◌++◌, length, replicate, slice_index}
use Rattle.std.specs.List.{list_any}
use Rattle.pl_base.specs.Bytes.{part, put}
use Rattle.pl_base.specs.Pairs.{any_pair}

-- size bytes from an offset on
pub record Window : Type 0 where
  pub at : ℕ
  pub size : ℕ

abbrev pub end_of : Window → ℕ
end_of window = window.at + window.size

-- the bytes of a window
abbrev pub within : Window → List ℕ → List ℕ
within window bytes = part window.at window.size bytes

-- a window's bytes changed
unfoldable pub on : Window → (List ℕ → List ℕ) → List ℕ → List ℕ
on window f bytes = put window.at (f (within window bytes)) bytes

-- ---- bytes to be put

pub record Put : Type 0 where
  pub at : ℕ
  pub bytes : List ℕ

abbrev pub put_window : Put → Window
put_window p = record { at = p.at; size = length p.bytes }

abbrev pub windows : List Put → List Window
windows [] = []
windows (p ∷ ps) = put_window p ∷ windows ps

-- each in turn
unfoldable pub put_all : List Put → List ℕ → List ℕ
put_all [] bytes = bytes
put_all (p ∷ ps) bytes = put_all ps (put p.at p.bytes bytes)

-- a file's own bytes at windows
abbrev pub own : List Window → List ℕ → List Put
own [] bytes = []
own (w ∷ ws) bytes = record { at = w.at; bytes = within w bytes } ∷ own ws bytes

-- ---- where windows lie

-- whether a window has the byte at an offset
abbrev pub holds : ℕ → Window → Bool
holds at window = nat_le window.at at && nat_lt at (end_of window)

-- whether two windows share a byte
abbrev pub share : Window → Window → Bool
share v w = nat_lt v.at (end_of w) && nat_lt w.at (end_of v) && nat_lt 0 v.size && nat_lt 0 w.size

-- whether two of the windows share a byte
abbrev pub any_share : List Window → Bool
any_share ws = any_pair share ws

-- whether windows lie in so many bytes
abbrev pub are_in : ℕ → List Window → Bool
are_in size [] = true
are_in size (w ∷ ws) = nat_le (end_of w) size && are_in size ws

-- the same as facts: windows that lie in so many bytes, and windows with no byte in common
abbrev pub IsIn : ℕ → Window → Type 0
IsIn size window = end_of window ≤ size

abbrev pub AllIn : ℕ → List Window → Type 0
AllIn size [] = Unit {0}
AllIn size (w ∷ ws) = IsIn size w × AllIn size ws

abbrev pub AreApart : Window → Window → Type 0
AreApart v w = (end_of v ≤ w.at) ⊎ (end_of w ≤ v.at) ⊎ (v.size ≡ 0) ⊎ (w.size ≡ 0)

abbrev pub IsApart : Window → List Window → Type 0
IsApart v [] = Unit {0}
IsApart v (w ∷ ws) = AreApart v w × IsApart v ws

-- ---- two files that differ in windows alone

-- the same length, and the same bytes outside of the windows
pub record Agree (ws : List Window) (xs ys : List ℕ) : Type 0 where
  pub size : length xs ≡ length ys
  pub bytes : (at : ℕ) → list_any (holds at) ws ≡ false → slice_index xs at ≡ slice_index ys at

-- ---- parts one after the other

-- how many zeros lead to the next multiple of 8
abbrev pub gap : ℕ → ℕ
gap size = (size + 7) / 8 * 8 - size

-- the next part, at the next multiple of 8
infixl 12 ◌⊕◌
abbrev pub ◌⊕◌ : List ℕ → List ℕ → List ℕ
front ⊕ next = (front ++ replicate (gap (length front)) 0) ++ next
