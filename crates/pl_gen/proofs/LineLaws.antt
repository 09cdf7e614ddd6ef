-- Lines that are added in turn.
use Rattle.std.proofs.Common.{◌≡◌, ℕ, zero, suc, ◌+◌, ◌-◌, ◌*◌, ◌/◌, ◌<◌, ◌≤◌, List, [], ◌∷◌, ◌++◌, length, get_or, take, drop, refl, sym, ap, subst, ◌∙◌, append_assoc, arith, drop-cons, length-drop, add-one}
use Rattle.std.proofs.lemmas.List.{append-nil, take_more}
use Rattle.pl_gen.specs.declared.relocation_kind.RelocationKind.{RelocationKind}
use Rattle.pl_gen.specs.Lines.{unless_there, needs_line, needs_lines, def_line, def_lines, kind_of, relocation, known_after, relocations}

-- the items from a place on
cut : (xs : List ℕ) (i : ℕ) → i < length xs → drop i xs ≡ get_or xs i 0 ∷ drop (i + 1) xs
cut xs i lt = rw (add-one, drop-cons xs i 0) refl

-- nothing is behind the last
past_end : (xs : List ℕ) (i : ℕ) → length xs ≤ i → drop i xs ≡ []
past_end [] i past = none i
  where
    none : (i : ℕ) → drop {A = ℕ} i [] ≡ []
    none zero = refl
    none (suc i) = refl
past_end (x ∷ xs) zero past = absurd (omega (arith, past))
past_end (x ∷ xs) (suc i) past = past_end xs i (omega (arith, past))

-- ---- lines of which each number has one

-- lines in turn, each behind those before it
line_more : (line : ℕ → ℕ → List ℕ) (lines : List ℕ → ℕ → List ℕ → List ℕ) (law : (before : List ℕ) (offset x : ℕ) (more : List ℕ) → lines before offset (x ∷ more) ≡ unless_there before x (line offset x) ++ lines (before ++ x ∷ []) (offset + 8) more)
    → (xs : List ℕ) (turn : ℕ) (so_far after whole : List ℕ) → turn < length xs → after ≡ so_far ++ unless_there (take turn xs) (get_or xs turn 0) (line (8 * turn) (get_or xs turn 0)) → so_far ++ lines (take turn xs) (8 * turn) (drop turn xs) ≡ whole
    → after ++ lines (take (turn + 1) xs) (8 * (turn + 1)) (drop (turn + 1) xs) ≡ whole
line_more line lines law xs turn so_far after whole lt pushed before =
    let x : ℕ = get_or xs turn 0 in
    let rest : List ℕ = drop (turn + 1) xs in
    let text : List ℕ = unless_there (take turn xs) (get_or xs turn 0) (line (8 * turn) (get_or xs turn 0)) in
    let offset : 8 * (turn + 1) ≡ 8 * turn + 8 = omega arith in
    let opened : so_far ++ (text ++ lines (take turn xs ++ x ∷ []) (8 * turn + 8) rest) ≡ whole =
    ap (λ (z : List ℕ). so_far ++ z) (sym (ap (lines (take turn xs) (8 * turn)) (cut xs turn lt) ∙ law (take turn xs) (8 * turn) x rest)) ∙ before in
    ap (λ (z : List ℕ). z ++ lines (take (turn + 1) xs) (8 * (turn + 1)) rest) pushed
    ∙ (append_assoc so_far text (lines (take (turn + 1) xs) (8 * (turn + 1)) rest)
    ∙ (ap (λ (b : List ℕ). so_far ++ (text ++ lines b (8 * (turn + 1)) rest)) (take_more xs turn 0 lt)
    ∙ (ap (λ (o : ℕ). so_far ++ (text ++ lines (take turn xs ++ x ∷ []) o rest)) offset ∙ opened)))

pub defs_more : (xs : List ℕ) (turn : ℕ) (so_far after whole : List ℕ) → turn < length xs → after ≡ so_far ++ unless_there (take turn xs) (get_or xs turn 0) (def_line (8 * turn) (get_or xs turn 0)) → so_far ++ def_lines (take turn xs) (8 * turn) (drop turn xs) ≡ whole
    → after ++ def_lines (take (turn + 1) xs) (8 * (turn + 1)) (drop (turn + 1) xs) ≡ whole
unfolding def_lines
defs_more = line_more def_line def_lines (λ before offset x more. refl)

pub needs_more : (xs : List ℕ) (turn : ℕ) (so_far after whole : List ℕ) → turn < length xs → after ≡ so_far ++ unless_there (take turn xs) (get_or xs turn 0) (needs_line (get_or xs turn 0)) → so_far ++ needs_lines (take turn xs) (drop turn xs) ≡ whole
    → after ++ needs_lines (take (turn + 1) xs) (drop (turn + 1) xs) ≡ whole
unfolding needs_lines
needs_more = line_more (λ offset i. needs_line i) (λ before offset xs. needs_lines before xs) (λ before offset x more. refl)

pub defs_all : (xs before : List ℕ) (turn offset : ℕ) (so_far whole : List ℕ) → length xs ≤ turn → so_far ++ def_lines before offset (drop turn xs) ≡ whole → so_far ≡ whole
unfolding def_lines
defs_all xs before turn offset so_far whole past all =
    let opened : so_far ++ [] ≡ whole = subst (λ (z : List ℕ). so_far ++ def_lines before offset z ≡ whole) (past_end xs turn past) all in
    sym (append-nil so_far) ∙ opened

pub needs_all : (xs before : List ℕ) (turn : ℕ) (so_far whole : List ℕ) → length xs ≤ turn → so_far ++ needs_lines before (drop turn xs) ≡ whole → so_far ≡ whole
unfolding needs_lines
needs_all xs before turn so_far whole past all =
    let opened : so_far ++ [] ≡ whole = subst (λ (z : List ℕ). so_far ++ needs_lines before z ≡ whole) (past_end xs turn past) all in
    sym (append-nil so_far) ∙ opened

-- ---- relocations, of two words each

pub relocations_more : (xs : List ℕ) (turn place : ℕ) (known known' so_far after whole : List ℕ) (kind : RelocationKind) → turn < length xs / 2 → kind ≡ kind_of (get_or xs (2 * turn) 0)
    → after ≡ so_far ++ relocation known (place + 8 * turn) kind (get_or xs (2 * turn + 1) 0)
    → known' ≡ known_after known kind (get_or xs (2 * turn + 1) 0)
    → so_far ++ relocations known (place + 8 * turn) (drop (2 * turn) xs) ≡ whole
    → after ++ relocations known' (place + 8 * (turn + 1)) (drop (2 * (turn + 1)) xs) ≡ whole
unfolding relocations
relocations_more xs turn place known known' so_far after whole kind lt drawn pushed_by names_by before =
    let first : ℕ = get_or xs (2 * turn) 0 in
    let second : ℕ = get_or xs (2 * turn + 1) 0 in
    let text : List ℕ = relocation known (place + 8 * turn) (kind_of (get_or xs (2 * turn) 0)) (get_or xs (2 * turn + 1) 0) in
    let pushed : after ≡ so_far ++ text = pushed_by ∙ ap (λ (k : RelocationKind). so_far ++ relocation known (place + 8 * turn) k (get_or xs (2 * turn + 1) 0)) drawn in
    let names : known' ≡ known_after known (kind_of (get_or xs (2 * turn) 0)) (get_or xs (2 * turn + 1) 0) = names_by ∙ ap (λ (k : RelocationKind). known_after known k (get_or xs (2 * turn + 1) 0)) drawn in
    let rest : List ℕ = drop (2 * (turn + 1)) xs in
    let behind : 2 * turn + 1 + 1 ≡ 2 * (turn + 1) = omega arith in
    let two : drop (2 * turn) xs ≡ first ∷ second ∷ rest =
    cut xs (2 * turn) (omega (arith, lt)) ∙ ap (λ (z : List ℕ). first ∷ z) (cut xs (2 * turn + 1) (omega (arith, lt)) ∙ ap (λ (k : ℕ). second ∷ drop k xs) behind) in
    let next : place + 8 * (turn + 1) ≡ place + 8 * turn + 8 = omega arith in
    let opened : so_far ++ (text ++ relocations (known_after known (kind_of first) second) (place + 8 * turn + 8) rest) ≡ whole =
    subst (λ (z : List ℕ). so_far ++ relocations known (place + 8 * turn) z ≡ whole) two before in
    ap (λ (z : List ℕ). z ++ relocations known' (place + 8 * (turn + 1)) rest) pushed
    ∙ (append_assoc so_far text (relocations known' (place + 8 * (turn + 1)) rest)
    ∙ (ap (λ (k : List ℕ). so_far ++ (text ++ relocations k (place + 8 * (turn + 1)) rest)) names
    ∙ (ap (λ (p : ℕ). so_far ++ (text ++ relocations (known_after known (kind_of first) second) p rest)) next ∙ opened)))

-- fewer than two words give nothing
too_few : (known : List ℕ) (place : ℕ) (xs : List ℕ) → length xs ≤ 1 → relocations known place xs ≡ []
unfolding relocations
too_few known place [] few = refl
too_few known place (x ∷ []) few = refl
too_few known place (x ∷ y ∷ xs) few = absurd (omega (arith, few))

pub relocations_all : (xs : List ℕ) (turn place : ℕ) (known so_far whole : List ℕ) → length xs / 2 ≤ turn → so_far ++ relocations known place (drop (2 * turn) xs) ≡ whole → so_far ≡ whole
relocations_all xs turn place known so_far whole past all =
    let few : length (drop (2 * turn) xs) ≤ 1 = omega (arith, past, length-drop (2 * turn) xs) in
    sym (append-nil so_far) ∙ (ap (λ (z : List ℕ). so_far ++ z) (sym (too_few known place (drop (2 * turn) xs) few)) ∙ all)
