-- The extension of a program: the zeros with the bytes of places, and addresses that do not wrap.
use Rattle.std.proofs.Common.{◌≡◌, ℕ, ◌+◌, ◌^◌, ◌≤◌, ◌<◌, List, ◌∷◌, length, get_or, drop, take, sym, ap, ◌∙◌, arith}
use Rattle.std.proofs.lemmas.List.{length-take}
use Rattle.pl_base.specs.Bytes.{put}
use Rattle.pl_base.specs.Sums.{round_up}
use Rattle.pl_base.specs.Windows.{AllIn, put_all}
use Rattle.pl_base.proofs.WindowLaws.{length-put}
use Rattle.pl_form.specs.Loads.{hidden_windows}
use Rattle.pl_elf.specs.declared.segment.Segment.{Segment}
use Rattle.pl_form.specs.Parts.{hidden, up, extension_at, rows_at, conflicts_at}
use Rattle.pl_form.specs.declared.parts.Extension.{Extension}
use Rattle.pl_form.specs.declared.parts.Spot.{Spot}
use Rattle.pl_form.specs.Extending.{IsShort, AreShort}
use Rattle.pl_form.proofs.PlaceLaws.{rest_is, rest_none}

-- ---- addresses

pub round_near : (n : ℕ) → (n ≤ round_up n 16) × (round_up n 16 ≤ n + 15)
unfolding round_up
round_near n = (omega arith, omega arith)

pub up_near : (n : ℕ) → (n ≤ up n) × (up n ≤ n + 7)
up_near n = (omega arith, omega arith)

-- an address behind the beginning of a segment
pub record IsAbove (last : Segment) (address : ℕ) : Type 0 where
  pub from : last.vaddr ≤ address
  pub below : address < 2 ^ 48

pub at_near : (last : Segment) → IsShort last → IsAbove last (extension_at last)
at_near last short = let n = round_near (last.vaddr + last.memsz) in record { from = omega (arith, n.0); below = omega (arith, n.1, short.memory) }

pub rows_near : (last : Segment) (e : Extension) → IsShort last → AreShort e → IsAbove last (rows_at last e)
rows_near last e short lists =
    let n = round_near (last.vaddr + last.memsz) in
    let m = up_near (length e.strings) in
    record { from = omega (arith, n.0); below = omega (arith, n.1, m.1, short.memory, lists) }

pub conflicts_near : (last : Segment) (e : Extension) → IsShort last → AreShort e → IsAbove last (conflicts_at last e)
conflicts_near last e short lists =
    let n = round_near (last.vaddr + last.memsz) in
    let m = up_near (length e.strings) in
    let k = up_near (up (length e.strings) + length e.rows) in
    record { from = omega (arith, n.0); below = omega (arith, n.1, m.1, k.1, short.memory, lists) }

-- ---- zeros

-- what a loop that puts bytes into the zeros keeps
pub record IsHiding (spots : List Spot) (i : ℕ) (rest bytes whole : List ℕ) : Type 0 where
  pub done : put_all (hidden (drop i spots) rest) bytes ≡ whole
  pub room : AllIn (length bytes) (hidden_windows (drop i spots))

-- the place that is read lies in the zeros
pub hidden_here : (spots : List Spot) (i : ℕ) (d : Spot) (rest bytes whole : List ℕ) → i < length spots → IsHiding spots i rest bytes whole → (get_or spots i d).behind + (get_or spots i d).hidden ≤ length bytes
hidden_here spots i d rest bytes whole lt is =
    let room : AllIn (length bytes) (hidden_windows (get_or spots i d ∷ drop (i + 1) spots)) = rw (rest_is spots i d lt) at is.room in
    room.0

pub hidden_put : (spots : List Spot) (i : ℕ) (d : Spot) (rest bytes whole next new : List ℕ) → i < length spots → IsHiding spots i rest bytes whole
    → new ≡ put (get_or spots i d).behind (take (get_or spots i d).hidden (drop (get_or spots i d).size rest)) bytes → next ≡ drop (get_or spots i d).hidden (drop (get_or spots i d).size rest) → IsHiding spots (i + 1) next new whole
unfolding put_all
hidden_put spots i d rest bytes whole next new lt is written moved =
    let p = get_or spots i d in
    let e = rest_is spots i d lt in
    let room : AllIn (length bytes) (hidden_windows (p ∷ drop (i + 1) spots)) = rw e at is.room in
    let same : length new ≡ length bytes = ap length written ∙ length-put p.behind (take p.hidden (drop p.size rest)) bytes (omega (arith, room.0, length-take p.hidden (drop p.size rest))) in
    record {
      done = ap (λ (xs : List ℕ). put_all (hidden (drop (i + 1) spots) xs) new) moved ∙ ap (put_all (hidden (drop (i + 1) spots) (drop p.hidden (drop p.size rest)))) written
          ∙ sym (ap (λ (ps : List Spot). put_all (hidden ps rest) bytes) e) ∙ is.done;
      room = rw same room.1;
    }

pub hidden_done : (spots : List Spot) (i : ℕ) (rest bytes whole : List ℕ) → length spots ≤ i → IsHiding spots i rest bytes whole → bytes ≡ whole
unfolding put_all
hidden_done spots i rest bytes whole le is = sym (ap (λ (ps : List Spot). put_all (hidden ps rest) bytes) (rest_none spots i le)) ∙ is.done
