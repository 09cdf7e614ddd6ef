-- Which loan of a folder a state holds.
use Rattle.std.specs.Prelude.{◌≡◌, IfOk, Result}
use Rattle.std.specs.Borrow.{MutBor}

-- where there is an answer, its loan is this one
abbrev pub HoldsLoan : {X E H : Type 0} → Result X E → (X → MutBor H) → MutBor H → Type 0
HoldsLoan result loan_of loan = IfOk result (λ x. (loan_of x).ghost_name ≡ loan.ghost_name)
