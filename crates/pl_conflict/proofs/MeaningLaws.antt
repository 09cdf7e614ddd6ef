-- The place and the member of what a relocation gives, and a refusal behind what was given.
use Rattle.std.proofs.Common.{◌≡◌, ℕ, ◌<◌, List, [], ◌∷◌, length, Result, Ok, Err, sym, ap, arith}
use Rattle.std.specs.Prelude.{MatchBool, ⊤}
use Rattle.pl_base.specs.Answers.{◌>>=◌, because}
use Rattle.pl_base.specs.Each.{with_front}
use Rattle.pl_base.specs.Sums.{plus}
use Rattle.pl_base.proofs.AnswerLaws.{ok_same}
use Rattle.pl_object.specs.declared.object.Object.{Object}
use Rattle.pl_object.specs.declared.reloc.Reloc.{Reloc}
use Rattle.pl_tls.specs.declared.module.Module.{Module}
use Rattle.pl_value.specs.Meanings.{Row, row, given, is_memory, meaning}
use Rattle.pl_value.specs.Targets.{base_of}
use Rattle.pl_value.specs.Values.{value_of}
use Rattle.pl_value.specs.declared.fault.LinkFault.{LinkFault}
use Rattle.pl_value.specs.declared.fault.OrdinaryFault.{OrdinaryFault}
use Rattle.pl_value.specs.declared.fault.OrdinaryFault.TheVariants.{Link, NoMemory}
use Rattle.pl_value.specs.declared.meaning.Meaning.{Meaning}
use Rattle.pl_value.specs.declared.word.Word.{Word}
use Rattle.pl_value.proofs.CollectingLaws.{linked_err}

-- ---- what a relocation gives

start_by : (places : List ℕ) (x : Row) (v : Result Word LinkFault) (g : Meaning) → (v >>= λ word. Ok (given places x word)) ≡ Ok g → g.start ≡ plus (base_of places x.member) x.reloc.address
start_by places x (Ok w) g e = ap (λ (h : Meaning). h.start) (sym (ok_same (given places x w) g e))
start_by places x (Err fault) g e = absurd cc

pub start_is : (os : List Object) (places : List ℕ) (tls : List Module) (m : ℕ) (r : Reloc) (g : Meaning) → meaning os places tls (row m r) ≡ Ok g → g.start ≡ plus (base_of places m) r.address
unfolding meaning
start_is os places tls m r g e = start_by places (row m r) (value_of os places tls m r) g e

member_by : (places : List ℕ) (x : Row) (v : Result Word LinkFault) (g : Meaning) → (v >>= λ word. Ok (given places x word)) ≡ Ok g → g.member ≡ x.member
member_by places x (Ok w) g e = ap (λ (h : Meaning). h.member) (sym (ok_same (given places x w) g e))
member_by places x (Err fault) g e = absurd cc

pub member_is : (os : List Object) (places : List ℕ) (tls : List Module) (m : ℕ) (r : Reloc) (g : Meaning) → meaning os places tls (row m r) ≡ Ok g → g.member ≡ m
unfolding meaning
member_is os places tls m r g e = member_by places (row m r) (value_of os places tls m r) g e

-- ---- lists

pub some_of : (rs : List Reloc) (i : ℕ) → i < length rs → Reloc
some_of [] i lt = absurd (omega (arith, lt))
some_of (r ∷ rs) i lt = r

pub front_err : (front : List Meaning) (r : Result (List Meaning) LinkFault) (e : OrdinaryFault) → MatchBool (is_memory e) ⊤ (because Link r ≡ Err e) → MatchBool (is_memory e) ⊤ (because Link (with_front front r) ≡ Err e)
front_err front r NoMemory stop = tt
front_err front r (Link fault) stop = ap (λ (s : Result (List Meaning) LinkFault). because Link (with_front front s)) (linked_err r fault stop)
