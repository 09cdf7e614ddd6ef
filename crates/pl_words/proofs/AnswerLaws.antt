-- Answers that are exactly what is meant.
use Rattle.std.proofs.Common.{◌≡◌, Bool, true, false, sym, Result, Ok, Err}
use Rattle.std.specs.Prelude.{MatchBool, ⊤}
use Rattle.pl_base.specs.Answers.{Answers}

by_test : {P : Type 0} (b : Bool) → P → MatchBool b ⊤ P
by_test true p = tt
by_test false p = p

pub answers_as_meant : {X E : Type 0} (is_memory : E → Bool) (r meant : Result X E) → r ≡ meant → Answers is_memory r meant
answers_as_meant is_memory (Ok x) meant is = sym is
answers_as_meant is_memory (Err e) meant is = by_test (is_memory e) (sym is)
