-- The command line that arguments make, and what its parse means.
use Rattle.std.proofs.Common.{◌≡◌, ◌∙◌, refl, sym, ap, subst, List, [], ◌∷◌, map, fold, Bool, true, false, not, ◌&&◌, inl, inr, true≢false, Ok, Err}
use Rattle.std.specs.Prelude.{◌⊎◌, MatchBool, ⊤, is_some}
use Rattle.std.specs.List.{list_all}
use Rattle.clap.specs.Words.{AddsArg, AddsInTurn, App, HasKind, HasMatchesOf, IsAmong, Kinds, Row, app_of, fault_of, found_of, is_simple_and_free, kind_of, matches_of, rows_of, rule_of, with_rule}
use Rattle.clap.specs.Walk.{is_empty, is_simple_arg}
use Rattle.clap.specs.declared.builder.arg.Arg.{Arg}
use Rattle.clap.specs.declared.builder.command.Command.{Command}
use Rattle.clap.specs.declared.error.Error.{Error}
use Rattle.clap.specs.declared.error.kind.ErrorKind.{ErrorKind}
use Rattle.clap.specs.declared.error.kind.ErrorKind.TheVariants.{OutOfMemory}
use Rattle.clap.specs.declared.parser.matches.ArgMatches.{ArgMatches}
use Rattle.clap.proofs.OnLiterals.{clap_on_literals}
use Rattle.clap.proofs.WalkLemmas.{both}
use Rattle.pl_words.specs.Line.{are_simple, bare, fault_of_kind, flag, is_memory, lettered, line, loading, one_file, option, others, parsed, positional_names, prelinking, unless_refused, with_rules}
use Rattle.pl_words.specs.declared.fault.WordsFault.{WordsFault}
use Rattle.pl_words.specs.declared.fault.WordsFault.TheVariants.{Usage, NoMemory}

-- ---- the line

no_from_not : (b : Bool) → not b ≡ true → b ≡ false
no_from_not false e = refl
no_from_not true e = sym e

tenth : (a b c d e f g h i j : Bool) → (a && (b && (c && (d && (e && (f && (g && (h && (i && j))))))))) ≡ true → j ≡ true
tenth true true true true true true true true i j x = (both i j x).1
tenth false b c d e f g h i j x = absurd (true≢false (sym x))
tenth true false c d e f g h i j x = absurd (true≢false (sym x))
tenth true true false d e f g h i j x = absurd (true≢false (sym x))
tenth true true true false e f g h i j x = absurd (true≢false (sym x))
tenth true true true true false f g h i j x = absurd (true≢false (sym x))
tenth true true true true true false g h i j x = absurd (true≢false (sym x))
tenth true true true true true true false h i j x = absurd (true≢false (sym x))
tenth true true true true true true true false i j x = absurd (true≢false (sym x))

-- an argument of a simple command is its own
own : (a : Arg) → is_simple_arg a ≡ true → a.global ≡ false
own a e = no_from_not a.global (tenth (is_empty a.overrides.items) (is_empty a.default_vals_ifs.items) (is_empty a.groups.items) (not (is_some a.val_delim))
    (not (is_some a.terminator)) (not a.allow_hyphen_values) (not a.allow_negative_numbers) (not a.require_equals) (not a.last) (not a.global) e)

in_turn : (old : Command) (args : List Arg) (new : Command) → AddsInTurn AddsArg old args new → list_all (λ a. is_simple_arg a) args ≡ true
    → app_of new ≡ fold with_rule (app_of old) (map rule_of args)
in_turn old [] new same simple = ap app_of (sym same)
in_turn old (a ∷ args) new (m, adds, more) simple =
    in_turn m args new more (both _ _ simple).1 ∙ ap (λ (s : App). fold with_rule s (map rule_of args)) (adds.shape (own a (both _ _ simple).0))

simple_args : (args : List Arg) → list_all (λ r. r.is_simple) (map rule_of args) ≡ list_all (λ a. is_simple_arg a) args
simple_args [] = refl
simple_args (a ∷ args) = ap (λ b. is_simple_arg a && b) (simple_args args)

pub grown : (old : Command) (args : List Arg) (new : Command) → AddsInTurn AddsArg old args new → are_simple (map rule_of args) ≡ true
    → app_of new ≡ with_rules (app_of old) (map rule_of args)
grown old args new adds simple = in_turn old args new adds (sym (simple_args args) ∙ simple)

pub simple_loading : are_simple loading ≡ true
unfolding option loading
simple_loading = refl

pub simple_prelinking : are_simple prelinking ≡ true
unfolding flag lettered option prelinking
simple_prelinking = refl

pub simple_one_file : are_simple one_file ≡ true
unfolding lettered option one_file
simple_one_file = refl

pub simple_others : are_simple others ≡ true
unfolding flag lettered positional_names option others
simple_others = refl

-- ---- a parse

simple_line : is_simple_and_free line ≡ true
unfolding clap_on_literals bare flag lettered line loading positional_names one_file option others prelinking
simple_line = refl

pub parse_taken : (a : App) (words : List (List _)) (m : ArgMatches) → a ≡ line → (is_simple_and_free a ≡ true → fault_of a words ≡ []) → HasMatchesOf a words m
    → parsed words ≡ Ok (rows_of (found_of m))
unfolding parsed
parse_taken a words m is none has =
    let free : is_simple_and_free a ≡ true = ap is_simple_and_free is ∙ simple_line in
    let faults : fault_of line words ≡ [] = ap (λ l. fault_of l words) (sym is) ∙ none free in
    let rows : rows_of (found_of m) ≡ matches_of line words = (has (both _ _ free).0).0 ∙ ap (λ l. matches_of l words) is in
    ap (λ ks. unless_refused ks (matches_of line words)) faults ∙ ap Ok (sym rows)

refused : (kinds : Kinds) (k : ErrorKind) (f : WordsFault) (rows : List Row) → f ≡ fault_of_kind k → (k ≡ OutOfMemory) ⊎ IsAmong k kinds
    → MatchBool (is_memory f) ⊤ (unless_refused kinds rows ≡ Err f)
refused kinds k NoMemory rows e h = tt
refused (x ∷ xs) k Usage rows e h = refl
refused [] k Usage rows e (inl m) = absurd (true≢false (sym (ap is_memory (e ∙ ap fault_of_kind m))))
refused [] k Usage rows e (inr none) = absurd none

pub parse_refused : (a : App) (words : List (List _)) (e : Error) (f : WordsFault) → a ≡ line → f ≡ fault_of_kind (kind_of e) → (is_simple_and_free a ≡ true → HasKind (fault_of a words) e)
    → MatchBool (is_memory f) ⊤ (parsed words ≡ Err f)
unfolding parsed
parse_refused a words e f is kind has =
    let free : is_simple_and_free a ≡ true = ap is_simple_and_free is ∙ simple_line in
    refused (fault_of line words) (kind_of e) f (matches_of line words) kind (subst (λ l. HasKind (fault_of l words) e) is (has free))
