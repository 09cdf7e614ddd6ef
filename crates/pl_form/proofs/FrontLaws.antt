-- A form is undone: what is stored of the original, and what acceptance gives.
use Rattle.std.proofs.Common.{◌≡◌, ℕ, true, List, [], ◌∷◌, ◌++◌, length, drop, Some, refl, ap, ◌∙◌, arith}
use Rattle.std.specs.Prelude.{replicate}
use Rattle.std.proofs.lemmas.List.{length-append, length-replicate, take_at, drop_at}
use Rattle.pl_base.specs.Bytes.{IsBytes}
use Rattle.pl_base.specs.Windows.{Window, within, Put, own, are_in, AllIn, IsApart, Agree}
use Rattle.pl_base.proofs.WindowLaws.{length-within, agree_within}
use Rattle.pl_elf.specs.Headers.{header}
use Rattle.pl_move.specs.Moves.{table_windows, all_moved}
use Rattle.pl_move.specs.declared.table.Table.{Table}
use Rattle.pl_move.proofs.MoveLaws.{within_all_moved, AllApart}
use Rattle.pl_form.specs.Back.{all_within, head_windows, headers_of, cut_at, spot_windows, memory_of, wanted, visible, Reader}
use Rattle.pl_form.specs.declared.parts.Spot.{Spot}

-- windows apart from all tables
abbrev pub AllAway : List Window → List Window → Type 0
AllAway [] ws = Unit {0}
AllAway (v ∷ vs) ws = IsApart v ws × AllAway vs ws

pub own_moved : (w : ℕ) (ts : List Table) (vs : List Window) (o : List ℕ) → AllIn (length o) (table_windows ts) → AllIn (length o) vs → AllAway vs (table_windows ts) → own vs (all_moved w ts o) ≡ own vs o
own_moved w ts [] o fits v_fits away = refl
own_moved w ts (v ∷ vs) o fits v_fits away =
    let one = within_all_moved w ts v o fits v_fits.0 away.0 in
    let rest = own_moved w ts vs o fits v_fits.1 away.1 in
    rw (one, rest) refl

pub within_same : (vs ws : List Window) (xs ys : List ℕ) → Agree ws xs ys → AllIn (length ys) vs → AllAway vs ws → all_within vs xs ≡ all_within vs ys
within_same [] ws xs ys h fits away = refl
within_same (v ∷ vs) ws xs ys h fits away =
    let one = agree_within v ws xs ys h fits.0 away.0 in
    let rest = within_same vs ws xs ys h fits.1 away.1 in
    rw (one, rest) refl

-- what was joined is cut again
pub cut_own : (vs : List Window) (o rest : List ℕ) → AllIn (length o) vs → cut_at vs (all_within vs o) ≡ own vs o
cut_own [] o rest fits = refl
cut_own (v ∷ vs) o rest fits =
    let len = length-within v o fits.0 in
    let a = take_at (within v o) (all_within vs o) v.size len in
    let b = drop_at (within v o) (all_within vs o) v.size len in
    let more = cut_own vs o rest fits.1 in
    ap (λ (x : List ℕ). record { at = v.at; bytes = x } ∷ cut_at vs (drop v.size (within v o ++ all_within vs o))) a
    ∙ ap (λ (x : List ℕ). record { at = v.at; bytes = within v o } ∷ cut_at vs x) b
    ∙ ap (λ (x : List Put). record { at = v.at; bytes = within v o } ∷ x) more

pub visible_own : (ps : List Spot) (o : List ℕ) → AllIn (length o) (spot_windows ps) → visible ps (memory_of ps o) ≡ own (spot_windows ps) o
visible_own [] o fits = refl
visible_own (p ∷ ps) o fits =
    let w : Window = record { at = p.at; size = p.size } in
    let len = length-within w o fits.0 in
    let rest = replicate p.hidden 0 ++ memory_of ps o in
    let a = take_at (within w o) rest p.size len in
    let b = ap (drop p.hidden) (drop_at (within w o) rest p.size len) ∙ drop_at (replicate p.hidden 0) (memory_of ps o) p.hidden (length-replicate p.hidden 0) in
    let more = visible_own ps o fits.1 in
    ap (λ (x : List ℕ). record { at = p.at; bytes = x } ∷ visible ps (drop p.hidden (drop p.size (within w o ++ rest)))) a
    ∙ ap (λ (x : List ℕ). record { at = p.at; bytes = within w o } ∷ visible ps x) b
    ∙ ap (λ (x : List Put). record { at = p.at; bytes = within w o } ∷ x) more

pub length-memory_of : (ps : List Spot) (o : List ℕ) → AllIn (length o) (spot_windows ps) → length (memory_of ps o) ≡ wanted ps
length-memory_of [] o fits = refl
length-memory_of (p ∷ ps) o fits =
    let w : Window = record { at = p.at; size = p.size } in
    length-append (within w o) (replicate p.hidden 0 ++ memory_of ps o) ∙ omega (arith, length-within w o fits.0, length-append (replicate p.hidden 0) (memory_of ps o), length-replicate {A = ℕ} p.hidden 0, length-memory_of ps o fits.1)

-- What acceptance gives of an original.
pub record IsReadable (r : Reader) (o : List ℕ) (d : Window) (ts : List Table) (rs : List Window) (ps : List Spot) : Type 0 where
  pub dynamic : r.dynamic (headers_of o) ≡ Some d
  pub tables : r.tables (headers_of o) (within d o) ≡ Some ts
  pub relocations : r.relocations (headers_of o) (within d o) ≡ Some rs
  pub spots : r.spots (headers_of o) (within d o) (all_within rs o) ≡ Some ps
  pub heads_in : are_in (length o) (head_windows (header o) ++ d ∷ []) ≡ true
  pub tables_in : are_in (length o) (table_windows ts) ≡ true
  pub relocations_in : AllIn (length o) rs
  pub spots_in : are_in (length o) (spot_windows ps) ≡ true
  pub heads_apart : AllAway (head_windows (header o) ++ d ∷ []) (table_windows ts)
  pub tables_apart : AllApart ts (spot_windows ps)
  pub relocations_apart : AllAway rs (spot_windows ps)
  pub bytes : IsBytes o
