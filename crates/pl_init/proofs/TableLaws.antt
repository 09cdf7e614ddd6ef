-- Tables of pairs.
use Rattle.std.proofs.Common.{◌≡◌, ◌≢◌, ℕ, ◌+◌, ◌*◌, ◌<◌, Bool, true, false, ◌||◌, ◌&&◌, List, [], length, get_or, set, take, replicate, refl, sym, ap, subst, ◌∙◌, arith, inl, inr}
use Rattle.std.specs.Prelude.{◌==◌}
use Rattle.std.proofs.lemmas.Bool.{cases_Bool, false≢true, and_parts, and_from, or_right, eqb-true, eq-eqb}
use Rattle.std.proofs.lemmas.List.{length-set, length-replicate, get_or-replicate, get_or-set_same, get_or-set_other}
use Rattle.std.proofs.lemmas.List.Folds.{list_any_more}
use Rattle.pl_scope.specs.declared.constants.TheConstants.{MAX_MEMBERS}
use Rattle.pl_init.specs.declared.relation.ReachRow.{ReachRow}
use Rattle.pl_init.specs.Right.{reaches}
use Rattle.pl_scope.proofs.WalkedLaws.{limit_is}
use Rattle.pl_init.specs.Flags.{IsTable}

-- a row of a square, and a place in it
cell_small : (i j n : ℕ) → n ≡ 256 → i < n → j < n → i * n + j < n * n
cell_small i j n is low small = subst (λ (k : ℕ). i < k → j < k → i * k + j < k * k) (sym is) (λ a b. omega arith) low small

cell_apart : (i j a b n : ℕ) → n ≡ 256 → j < n → b < n → i * n + j ≡ a * n + b → (i ≡ a) × (j ≡ b)
cell_apart i j a b n is small less same = subst (λ (k : ℕ). j < k → b < k → i * k + j ≡ a * k + b → (i ≡ a) × (j ≡ b)) (sym is) (λ x y z. (omega arith, omega arith)) small less same

pub no_cells : IsTable (replicate (MAX_MEMBERS * MAX_MEMBERS) false) []
no_cells = record {
  long = length-replicate (MAX_MEMBERS * MAX_MEMBERS) false;
  each = λ i j low small. get_or-replicate (MAX_MEMBERS * MAX_MEMBERS) (i * MAX_MEMBERS + j) false false (cell_small i j MAX_MEMBERS limit_is low small);
}

pub one_cell : (cells : List Bool) (rows : List ReachRow) (i c : ℕ) (r : ReachRow) → IsTable cells (take i rows) → i < length rows → get_or rows i r ≡ r → r.from < MAX_MEMBERS → r.to < MAX_MEMBERS → c ≡ r.from * MAX_MEMBERS + r.to → IsTable (set cells c true) (take (i + 1) rows)
one_cell cells rows i c r t lt is low small at = record {
  long = length-set cells c true ∙ t.long;
  each = λ a b less least. elim (cases_Bool (r.from == a && r.to == b)) [
    | inl hit ↦ here a b (eqb-true r.from a (and_parts (r.from == a) (r.to == b) hit).0) (eqb-true r.to b (and_parts (r.from == a) (r.to == b) hit).1) ∙ sym (pushed a b ∙ or_right (reaches (take i rows) a b) (r.from == a && r.to == b) hit)
    | inr miss ↦
        let ne : a * MAX_MEMBERS + b ≢ c = λ same.
        let both : (a ≡ r.from) × (b ≡ r.to) = cell_apart a b r.from r.to MAX_MEMBERS limit_is least small (same ∙ at) in
        false≢true (sym miss ∙ and_from (r.from == a) (r.to == b) (eq-eqb r.from a (sym both.0)) (eq-eqb r.to b (sym both.1))) in
        get_or-set_other cells c (a * MAX_MEMBERS + b) true false ne ∙ (t.each a b less least ∙ sym (pushed a b ∙ off (reaches (take i rows) a b) (r.from == a && r.to == b) miss))
  ];
}
  where
    inside : c < length cells
    inside = subst (λ (k : ℕ). k < length cells) (sym at) (subst (λ (k : ℕ). r.from * MAX_MEMBERS + r.to < k) (sym t.long) (cell_small r.from r.to MAX_MEMBERS limit_is low small))

    here : (a b : ℕ) → r.from ≡ a → r.to ≡ b → get_or (set cells c true) (a * MAX_MEMBERS + b) false ≡ true
    here a b e f = ap (λ (k : ℕ). get_or (set cells c true) k false) (ap (λ (k : ℕ). k * MAX_MEMBERS + b) (sym e) ∙ (ap (λ (k : ℕ). r.from * MAX_MEMBERS + k) (sym f) ∙ sym at)) ∙ get_or-set_same cells c true false inside

    pushed : (a b : ℕ) → reaches (take (i + 1) rows) a b ≡ (reaches (take i rows) a b || (r.from == a && r.to == b))
    pushed a b = list_any_more (λ (x : ReachRow). x.from == a && x.to == b) rows i r lt ∙ ap (λ (x : ReachRow). reaches (take i rows) a b || (x.from == a && x.to == b)) is

    off : (x y : Bool) → y ≡ false → (x || y) ≡ x
    off true y h = refl
    off false y h = h
