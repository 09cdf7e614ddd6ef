-- The rows of stale names may be prelinked, and so may those of the walks of stale programs.
use Rattle.std.proofs.Common.{◌≡◌, ℕ, zero, suc, ◌<◌, Bool, true, false, List, [], ◌∷◌, length, Option, Some, refl, sym, ap, ◌∙◌, arith, inl, inr}
use Rattle.std.specs.Prelude.{◌==◌, not, slice_get}
use Rattle.std.specs.List.{list_any}
use Rattle.std.specs.Option.{option_map}
use Rattle.std.proofs.lemmas.Bool.{and_parts, cases_Bool, eqb-true, false≢true, or_cases}
use Rattle.std.proofs.lemmas.List.{length-map}
use Rattle.std.proofs.lemmas.Option.{none-some, slice_get-map}
use Rattle.pl_cone.specs.Plans as plans
use Rattle.pl_cone.specs.Table.{IsPlan, IsRunTable, is_candidate_row}
use Rattle.pl_cone.specs.Taken.{files_in}
use Rattle.pl_cone.specs.declared.planning.Asked.{Asked}
use Rattle.pl_cone.specs.declared.linking.Link.{Link}
use Rattle.pl_cone.specs.declared.planning.RowPlan.{RowPlan}
use Rattle.pl_cone.specs.declared.skip.Skip.{Skip}
use Rattle.pl_cone.specs.declared.taken.Taken.{Taken}
use Rattle.pl_cone.proofs.NeedLaws.{slice_get_at}
use Rattle.pl_rewrite.specs.Flags.{flagged}
use Rattle.pl_rewrite.specs.Outcomes.{IsStaleColumn, held_by, is_held, is_held_before, is_library_at, is_stale, is_stale_program, is_used}
use Rattle.pl_rewrite.specs.Rows.{walk_of}
use Rattle.pl_rewrite.specs.RowWords.{AreLinks, is_set}
use Rattle.pl_rewrite.specs.declared.numbers.Numbered.{Numbered}
use Rattle.pl_rewrite.proofs.CandidateRowLaws.{candidate_flag, link_at, member_flag, table_with, walk_row}
use Rattle.pl_rewrite.proofs.StaleLaws.{held_before_more, held_none, held_walk}

-- ---- flags

pub set_within : (flags : List Bool) (row : ℕ) → is_set (slice_get flags row) ≡ true → row < length flags
set_within [] row on = absurd (false≢true on)
set_within (b ∷ flags) zero on = omega arith
set_within (b ∷ flags) (suc row) on = omega (arith, set_within flags row on)

flagged_at : (rows : List ℕ) (r : ℕ) → flagged rows r ≡ true → (m : ℕ) × (slice_get rows m ≡ Some r)
unfolding flagged
flagged_at [] r on = absurd (false≢true on)
flagged_at (x ∷ rows) r on = elim (or_cases (x == r) (list_any (λ y. y == r) rows) on) [
  | inl here ↦ (0, ap (λ (k : ℕ). Some k) (eqb-true x r here))
  | inr later ↦ let m = flagged_at rows r later in (suc m.0, m.1)
]

-- a row that is held is of the walk of a stale program
pub record IsHeldBy (n : Numbered) (stale : List Bool) (row : ℕ) : Type 0 where
  pub program : ℕ
  pub stands : is_stale_program n stale program ≡ true
  pub member : ℕ
  pub at : slice_get (walk_of n program) member ≡ Some row

held_by_one : (n : Numbered) (stale : List Bool) (program row : ℕ) → flagged (held_by n stale program) row ≡ true → IsHeldBy n stale row
held_by_one n stale program row on = elim (cases_Bool (is_stale_program n stale program)) [
  | inl stands ↦
      let m = flagged_at (walk_of n program) row (ap (λ (rows : List ℕ). flagged rows row) (held_walk n stale program stands) ∙ on) in
      record { program = program; stands = stands; member = m.0; at = m.1 }
  | inr other ↦
      let m = flagged_at [] row (ap (λ (rows : List ℕ). flagged rows row) (held_none n stale program other) ∙ on) in
      absurd (none-some row m.1)
]

none_before : (n : Numbered) (stale : List Bool) (row : ℕ) → false ≡ is_held_before n stale zero row
unfolding is_held_before
none_before n stale row = refl

pub held_from : (n : Numbered) (stale : List Bool) (size row : ℕ) → is_held_before n stale size row ≡ true → IsHeldBy n stale row
held_from n stale zero row on = absurd (false≢true (none_before n stale row ∙ on))
held_from n stale (suc size) row on = elim (or_cases (is_held_before n stale size row) (flagged (held_by n stale size) row) (held_before_more n stale size row ∙ on)) [
  | inl before ↦ held_from n stale size row before
  | inr here ↦ held_by_one n stale size row here
]

module _ (n : Numbered) (links : List Link) (causes : List (Option Skip)) (a : Asked) (p : RowPlan) (stale : List Bool) (is : IsRunTable a.region (table_with n links causes)) (plan : IsPlan (table_with n links causes) a p) (flags : stale ≡ p.stale) where
  -- a flag tells whether the name is stale
  pub stale_flag : (row : ℕ) (x : Taken) → slice_get n.files.now row ≡ Some x → is_stale stale row ≡ plans.is_stale (files_in n.files.now) a.region p.slots x.name
  stale_flag row x at =
      ap (λ (fs : List Bool). is_set (slice_get fs row)) (flags ∙ plan.stale)
      ∙ ap is_set (slice_get-map (λ (y : Taken). plans.is_stale (files_in n.files.now) a.region p.slots y.name) n.files.now row ∙ ap (option_map (λ (y : Taken). plans.is_stale (files_in n.files.now) a.region p.slots y.name)) at)

  count : length stale ≡ length n.files.now
  count = ap length (flags ∙ plan.stale) ∙ length-map n.files.now (λ (x : Taken). plans.is_stale (files_in n.files.now) a.region p.slots x.name)

  pub stale_file : (row : ℕ) → is_stale stale row ≡ true → (x : Taken) × (slice_get n.files.now row ≡ Some x)
  stale_file row on = slice_get_at n.files.now row (omega (arith, set_within stale row on, count))

  pub stale_candidate : (row : ℕ) → is_stale stale row ≡ true → is_candidate_row (table_with n links causes) row ≡ true
  stale_candidate row on =
      let x = stale_file row on in
      let parts = and_parts (plans.is_candidate (files_in n.files.now) a.region x.0.name) (not (plans.is_current (files_in n.files.now) a.region p.slots x.0.name)) (sym (stale_flag row x.0 x.1) ∙ on) in
      candidate_flag n links causes a is row x.0 x.1 ∙ parts.0

  pub column : IsStaleColumn n stale
  column = record { count = count; walks = λ row on. walk_row n links causes a is row (stale_candidate row on) }

  held_candidate : (row : ℕ) → is_held n stale row ≡ true → is_candidate_row (table_with n links causes) row ≡ true
  held_candidate row on =
      let h : IsHeldBy n stale row = held_from n stale (length n.files.now) row on in
      let first = and_parts (is_stale stale h.program) (not (is_library_at n h.program)) h.stands in
      member_flag n links causes a is h.program h.member row (stale_candidate h.program first.0) h.at

  used_candidate : (row : ℕ) → is_used n stale row ≡ true → is_candidate_row (table_with n links causes) row ≡ true
  used_candidate row on = elim (or_cases (is_stale stale row) (is_held n stale row) on) [
    | inl one ↦ stale_candidate row one
    | inr other ↦ held_candidate row other
  ]

  pub links_are : AreLinks n (is_used n stale) links
  links_are = record { count = is.sized; each = λ row l at on. link_at n links causes a is row l (used_candidate row on) at }
