-- What is added to the text of a weave.
use Rattle.std.proofs.Common.{◌≡◌, ◌∙◌, ◌<◌, ◌+◌, ◌++◌, ◌∷◌, [], ℕ, List, length, take, zero, suc, Some, None, refl, sym, append_assoc, ap, subst, arith, false}
use Rattle.std.specs.Prelude.{Result, Err, slice_get, MatchBool, ⊤}
use Rattle.std.proofs.lemmas.List.{length-take-le, take_more}
use Rattle.std.proofs.lemmas.Option.{get_or_from_slice_get}
use Rattle.pl_base.specs.Answers.{Answers, because}
use Rattle.pl_loader.specs.Faults.{is_memory}
use Rattle.pl_loader.specs.Started.{IsStart, Start, Starts}
use Rattle.pl_loader.specs.declared.fault.LoadFault.{LoadFault}
use Rattle.pl_loader.specs.declared.started.Started.{Started}
use Rattle.pl_place.specs.Policy.{Choice}
use Rattle.pl_weave.specs.Opening.{Opened, ended, wanted}
use Rattle.pl_weave.specs.Running.{HavePolicy}
use Rattle.pl_weave.specs.declared.progress.Progress.{Progress}
use Rattle.pl_texts.specs.LoadText.{load_text, start_of}
use Rattle.pl_texts.specs.Refusals.{refusal}
use Rattle.pl_cli.specs.Weave.{loader_text, loaders_text, run_line, runs_text, state_by}
use Rattle.pl_texts.specs.WeaveText.{loader_line, start_text, wants_line}
use Rattle.pl_texts.specs.declared.cause.Cause.TheVariants as causes
use Rattle.pl_cli.proofs.WeaveLemmas.{loaders_push, runs_push}

-- ---- one loader

same_start : (s : Started) (whole : Start) → IsStart s whole → start_of s ≡ whole
same_start s whole is = λ i. record {
  fast = is.fast i;
  objects = is.objects i;
  modules = is.modules i;
  entry = is.entry i;
  memory = λ address. is.bytes address i;
  extents = is.extents i;
}

-- the text of what files start from
started_text : (s : Started) (meant : Result Start LoadFault) → Starts s meant → load_text (start_of s) ≡ start_text (because causes.Load meant)
started_text s meant starts = ap load_text (same_start s starts.0 starts.2) ∙ ap (λ (m : Result Start LoadFault). start_text (because causes.Load m)) (sym starts.1)

refused_text : (fault : LoadFault) (meant : Result Start LoadFault) → is_memory fault ≡ false → Answers is_memory (Err fault) meant → refusal (causes.Load fault) ≡ start_text (because causes.Load meant)
refused_text fault meant told answer =
    let is : meant ≡ Err fault = subst (λ b. MatchBool b ⊤ (meant ≡ Err fault)) told answer in
    ap (λ (m : Result Start LoadFault). start_text (because causes.Load m)) (sym is)

module _ {F : Type 0} (choose : Choice) (o : Opened F) (before : List ℕ) where
  -- it has finished
  at_end : (text : List ℕ) → wanted o ≡ None → text ≡ start_text (because causes.Load (ended choose o)) → before ++ text ≡ before ++ loader_text choose o
  at_end text none is = ap (λ (t : List ℕ). before ++ t) (is ∙ ap (state_by choose o) (sym none))

  pub at_start : (s : Started) → wanted o ≡ None → Starts s (ended choose o) → before ++ load_text (start_of s) ≡ before ++ loader_text choose o
  at_start s none starts = at_end (load_text (start_of s)) none (started_text s (ended choose o) starts)

  pub at_refusal : (fault : LoadFault) → wanted o ≡ None → is_memory fault ≡ false → Answers is_memory (Err fault) (ended choose o) → before ++ refusal (causes.Load fault) ≡ before ++ loader_text choose o
  at_refusal fault none told answer = at_end (refusal (causes.Load fault)) none (refused_text fault (ended choose o) told answer)

  pub at_wants : (name : List ℕ) → wanted o ≡ Some name → before ++ wants_line name ≡ before ++ loader_text choose o
  at_wants name is = ap (λ (t : List ℕ). before ++ t) (ap (state_by choose o) (sym is))

-- ---- all loaders

pub policy_of : {F : Type 0} (p : F) (w : List (Opened F)) (i : ℕ) (o : Opened F) → HavePolicy p w → slice_get w i ≡ Some o → o.load.policy ≡ p
policy_of p [] i o have is = let no : ⊥ = cc in absurd no
policy_of p (q ∷ w) zero o have is = let same : q ≡ o = cc in ap (λ (x : Opened _). x.load.policy) (sym same) ∙ have.0
policy_of p (q ∷ w) (suc i) o have is = policy_of p w i o have.1 is

pub loaders_next : {F : Type 0} (choose : Choice) (w : List (Opened F)) (i : ℕ) (o : Opened F) → slice_get w i ≡ Some o → i < length w → loaders_text choose 0 (take (i + 1) w) ≡ loaders_text choose 0 (take i w) ++ (loader_line i ++ loader_text choose o)
loaders_next choose w i o is lt =
    let count : 0 + length (take i w) ≡ i = let e = length-take-le i w (omega (arith, lt)) in omega (arith, e) in
    ap (λ os. loaders_text choose 0 os) (take_more w i o lt ∙ ap (λ p. take i w ++ p ∷ []) (get_or_from_slice_get w i o o is))
    ∙ loaders_push choose 0 (take i w) o
    ∙ ap (λ (n : ℕ). loaders_text choose 0 (take i w) ++ (loader_line n ++ loader_text choose o)) count

-- a loader more, behind what came before
pub loaders_added : {F : Type 0} (choose : Choice) (w : List (Opened F)) (i : ℕ) (o : Opened F) (before so_far lined new : List ℕ) → slice_get w i ≡ Some o → i < length w
    → lined ≡ so_far ++ loader_line i → new ≡ lined ++ loader_text choose o → so_far ≡ before ++ loaders_text choose 0 (take i w) → new ≡ before ++ loaders_text choose 0 (take (i + 1) w)
loaders_added choose w i o before so_far lined new is lt line added told =
    let texts = loaders_text choose 0 (take i w) in
    added ∙ ap (λ (t : List ℕ). t ++ loader_text choose o) (line ∙ ap (λ (t : List ℕ). t ++ loader_line i) told)
    ∙ append_assoc (before ++ texts) (loader_line i) (loader_text choose o)
    ∙ append_assoc before texts (loader_line i ++ loader_text choose o)
    ∙ ap (λ (t : List ℕ). before ++ t) (sym (loaders_next choose w i o is lt))

-- ---- all runs

-- a run more
pub run_added : (ps : List Progress) (p : Progress) (number : ℕ) (before so_far new : List ℕ) → number ≡ length ps → new ≡ so_far ++ run_line number p → so_far ≡ before ++ runs_text 0 ps → new ≡ before ++ runs_text 0 (ps ++ p ∷ [])
run_added ps p number before so_far new at added told =
    let texts = runs_text 0 ps in
    added ∙ ap (λ (t : List ℕ). t ++ run_line number p) told
    ∙ append_assoc before texts (run_line number p)
    ∙ ap (λ (n : ℕ). before ++ (texts ++ run_line n p)) {x = number} {y = 0 + length ps} (omega (arith, at))
    ∙ ap (λ (t : List ℕ). before ++ t) (sym (runs_push 0 ps p))

-- what is left, where nothing is
pub none_left : {X : Type 0} (xs : List X) → length xs ≡ 0 → xs ≡ []
none_left [] none = refl
none_left (x ∷ xs) none = absurd (omega (arith, none))

-- ---- the whole

-- one text behind another
pub text_added : (start one two three loaders told end : List ℕ) → start ≡ [] → one ≡ start ++ loaders → two ≡ one ++ told → three ≡ two ++ end → three ≡ loaders ++ (told ++ end)
text_added start one two three loaders told end none first second third =
    third ∙ ap (λ (t : List ℕ). t ++ end) (second ∙ ap (λ (t : List ℕ). t ++ told) (first ∙ ap (λ (t : List ℕ). t ++ loaders) none)) ∙ append_assoc loaders told end
