-- The options of the command line as they are written, and which of their values pl_words takes.
use Rattle.std.specs.Prelude.{ℕ, Bool, true, false, ◌==◌, List, [], ◌∷◌, find, is_ok, Option, Some, None, codes}
use Rattle.std.specs.Str.{bytes_eq}
use Rattle.pl_words.specs.Found.{Name}
use Rattle.pl_words.specs.Numbers.{decimal, range}
use Rattle.pl_words.specs.Values.{policy_in}
use Rattle.pl_explain.specs.declared.choice.Choice.{Choice}
use Rattle.pl_explain.specs.declared.choice.Choice.TheVariants as option
use Rattle.pl_explain.specs.declared.choice.TheConstants.{CHOICES}

-- how an option is spelled behind two dashes
abbrev pub name_of : Choice → Name
name_of option.Load = codes "load"
name_of option.Busy = codes "busy"
name_of option.Policy = codes "policy"
name_of option.Order = codes "order"
name_of option.All = codes "all"
name_of option.DryRun = codes "dry-run"
name_of option.Verbose = codes "verbose"
name_of option.ConserveMemory = codes "conserve-memory"
name_of option.Region = codes "region"
name_of option.Undo = codes "undo"
name_of option.Verify = codes "verify"
name_of option.Install = codes "install"
name_of option.Remove = codes "remove"
name_of option.Make = codes "make"
name_of option.Fix = codes "fix"
name_of option.Unfix = codes "unfix"
name_of option.PrintCache = codes "print-cache"
name_of option.Demo = codes "demo"
name_of option.Weave = codes "weave"

-- the letter of an option, if it has one
abbrev pub letter_of : Choice → Option ℕ
letter_of option.All = Some 97
letter_of option.DryRun = Some 110
letter_of option.Verbose = Some 118
letter_of option.ConserveMemory = Some 109
letter_of option.Undo = Some 117
letter_of option.Verify = Some 121
letter_of option.PrintCache = Some 112
letter_of _ = None

-- the option that is spelled so behind two dashes
abbrev pub by_name : Name → Option Choice
by_name name = find (λ c. bytes_eq (name_of c) name) CHOICES

abbrev pub is_letter : ℕ → Option ℕ → Bool
is_letter letter None = false
is_letter letter (Some other) = other == letter

-- the option of a letter
abbrev pub by_letter : ℕ → Option Choice
by_letter letter = find (λ c. is_letter letter (letter_of c)) CHOICES

abbrev pub written : Option ℕ → Name → List ℕ
written None name = 45 ∷ 45 ∷ name
written (Some letter) name = 45 ∷ letter ∷ []

-- how an option is written: by its letter behind a dash, or by its name behind two
abbrev pub word_of : Choice → List ℕ
word_of c = written (letter_of c) (name_of c)

-- a text is of the form of an option's value
abbrev pub is_value : Choice → List ℕ → Bool
is_value option.Busy text = is_ok (range text)
is_value option.Region text = is_ok (range text)
is_value option.Policy text = is_ok (policy_in text)
is_value option.Demo text = is_ok (decimal text)
is_value _ text = true
