use Rattle.std.proofs.Common.{◌≡◌, ◌+◌, ◌++◌, ◌<◌, ◌≤◌, Bool, true, false, ℕ, List, [], ◌∷◌, length, drop, get_or, refl, sym, ap, ◌∙◌, append_assoc, arith, inl, inr}
use Rattle.std.proofs.lemmas.Option.{slice_get_cases}
use Rattle.std.specs.Prelude.{if◌then◌else◌}
use Rattle.std.proofs.lemmas.List.{append-nil, at_drop_more, at_drop_all}
use Rattle.pl_cone.specs.Table.{names_where}
use Rattle.pl_cone.specs.declared.taken.Taken.{Taken}
use Rattle.pl_cone.proofs.calls.names_where.Goals.{then-stale-row+in_ok-copy_of+in_ok-push, else-stale-row}
use Rattle.pl_cone.proofs.calls.names_where.Goals as goal

step : (ts : List Taken) (flags : List Bool) (i : ℕ) (t : Taken) → i < length ts → i < length flags → t ≡ get_or ts i t
    → names_where (drop i ts) (drop i flags) ≡ (if get_or flags i false then t.name ∷ names_where (drop (i + 1) ts) (drop (i + 1) flags) else names_where (drop (i + 1) ts) (drop (i + 1) flags))
unfolding names_where
step ts flags i t in_ts in_flags is =
    at_drop_more (λ (xs : List Taken). names_where xs (drop i flags)) ts i t in_ts
    ∙ (at_drop_more (λ (bs : List Bool). names_where (get_or ts i t ∷ drop (i + 1) ts) bs) flags i false in_flags ∙ rw (← is) refl)

-- a flagged row
flagged : (ts : List Taken) (flags : List Bool) (i : ℕ) (t : Taken) (names after whole : List (List ℕ)) → i < length ts → i < length flags → t ≡ get_or ts i t → get_or flags i false ≡ true → after ≡ names ++ t.name ∷ []
    → names ++ names_where (drop i ts) (drop i flags) ≡ whole → after ++ names_where (drop (i + 1) ts) (drop (i + 1) flags) ≡ whole
flagged ts flags i t names after whole in_ts in_flags is on more so_far =
    let rest : List (List ℕ) = names_where (drop (i + 1) ts) (drop (i + 1) flags) in
    ap (λ (ns : List (List ℕ)). ns ++ rest) more
    ∙ (append_assoc names (t.name ∷ []) rest
    ∙ (ap (λ (ns : List (List ℕ)). names ++ ns) (sym (step ts flags i t in_ts in_flags is ∙ ap (λ (b : Bool). if b then t.name ∷ rest else rest) on)) ∙ so_far))

-- any other
passed : (ts : List Taken) (flags : List Bool) (i : ℕ) (t : Taken) (names whole : List (List ℕ)) → i < length ts → i < length flags → t ≡ get_or ts i t → get_or flags i false ≡ false
    → names ++ names_where (drop i ts) (drop i flags) ≡ whole → names ++ names_where (drop (i + 1) ts) (drop (i + 1) flags) ≡ whole
passed ts flags i t names whole in_ts in_flags is off so_far =
    let rest : List (List ℕ) = names_where (drop (i + 1) ts) (drop (i + 1) flags) in
    ap (λ (ns : List (List ℕ)). names ++ ns) (sym (step ts flags i t in_ts in_flags is ∙ ap (λ (b : Bool). if b then t.name ∷ rest else rest) off)) ∙ so_far

pub loop-row-preserved : goal.loop-row-preserved
loop-row-preserved c =
    let lt : c.loop-row.row < length c.args.files.now = c.loop-row-test.true in
    let in_flags : c.loop-row.row < length c.args.stale.now = omega arith in
    elim c.if-stale-row.branch [
      | then-stale-row+in_ok-copy_of+in_ok-push w ↦
          rw w.names-is (flagged c.args.files.now c.args.stale.now c.loop-row.row w.index-files-row.result c.loop-row.names _ _ lt in_flags w.index-files-row.is w.if-stale-row.true
          (w.in_ok-push.ensures.ok ∙ (ap (λ (n : List ℕ). c.loop-row.names ++ n ∷ []) (w.in_ok-copy_of.ensures ∙ w.as_str.ensures) ∙ ap (λ (t : Taken). c.loop-row.names ++ t.name ∷ []) (sym w.index-files-row.is))) c.loop-row.invariant)
      | else-stale-row w ↦ elim (slice_get_cases c.args.files.now c.loop-row.row).1 [
        | inl p ↦ rw w.names-is (passed c.args.files.now c.args.stale.now c.loop-row.row p.0 c.loop-row.names _ lt in_flags (sym p.3) w.if-stale-row.false c.loop-row.invariant)
        | inr none ↦ absurd (omega (arith, lt, none.0))
      ]
    ]

pub returns : goal.returns
unfolding names_where
returns c =
    sym (append-nil c.loop-row.names)
    ∙ (ap (λ (ns : List (List ℕ)). c.loop-row.names ++ ns) (sym (at_drop_all (λ (xs : List Taken). names_where xs (drop c.loop-row.row c.args.stale.now)) c.args.files.now c.loop-row.row (omega arith))) ∙ c.loop-row.invariant)
