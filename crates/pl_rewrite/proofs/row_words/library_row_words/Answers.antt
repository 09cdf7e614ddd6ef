use Rattle.std.proofs.Common.{◌≡◌, ◌<◌, ℕ, true, length, subst, sym, ◌∙◌, arith}
use Rattle.pl_rewrite.specs.RowWords.{FindsRow, IsLinkAt}
use Rattle.pl_rewrite.specs.Rows.{IsLibraryRow, IsNumbered, is_library_row}
use Rattle.pl_rewrite.specs.declared.numbers.Numbered.{Numbered}
use Rattle.pl_cone.specs.declared.linking.Link.{Link}
use Rattle.pl_rewrite.proofs.RowWordLaws.{asked_is, link_finds, link_numbers, row_words_library, row_words_nothing}
use Rattle.pl_rewrite.proofs.row_words.library_row_words.Goals as goal

-- its walk is there, since it is linked
linked : (n : Numbered) (row : ℕ) (link : Link) → IsNumbered n → row < length n.files.now → is_library_row n row ≡ true → IsLinkAt n row link → IsLibraryRow n row
linked n row link numbered within library at = record { numbered = numbered; within = within; walk = at.walk; library = library }

pub returns-then-not-is_needed : goal.returns-then-not-is_needed
returns-then-not-is_needed c = row_words_nothing c.args.numbered.now c.args.row c.args.needed.now c.args.link.now _ c.requires.library (sym c.is_needed.ensures ∙ c.if-not-is_needed.true)

pub own_words_of-requires-clause-row : goal.own_words_of-requires-clause-row
own_words_of-requires-clause-row c = linked c.args.numbered.now c.args.row c.args.link.now c.requires.numbered c.requires.row c.requires.library (c.requires.link (sym c.is_needed.ensures ∙ c.if-not-is_needed.false))

pub own_words_of-requires-clause-found : goal.own_words_of-requires-clause-found
own_words_of-requires-clause-found c =
    let at = c.requires.link (sym c.is_needed.ensures ∙ c.if-not-is_needed.false) in
    subst (FindsRow c.args.numbered.now c.args.row) (sym c.as_slice.ensures) (link_finds c.args.numbered.now c.args.row c.args.link.now at c.requires.library)

pub held_of-requires-clause-row : goal.held_of-requires-clause-row
held_of-requires-clause-row c = linked c.args.numbered.now c.args.row c.args.link.now c.requires.numbered c.requires.row c.requires.library (c.requires.link (sym c.is_needed.ensures ∙ c.if-not-is_needed.false))

pub held_of-requires-clause-words : goal.held_of-requires-clause-words
held_of-requires-clause-words c = c.as_slice-own.ensures ∙ c.in_ok-all.ensures

pub held_of-requires-clause-remaining : goal.held_of-requires-clause-remaining
held_of-requires-clause-remaining c =
    let at = c.requires.link (sym c.is_needed.ensures ∙ c.if-not-is_needed.false) in
    rw c.as_slice-remaining.ensures (link_numbers c.args.numbered.now c.args.row c.args.link.now at c.requires.library)

pub returns : goal.returns
returns c =
    row_words_library c.args.numbered.now c.args.row c.args.needed.now c.args.link.now _ _ _ c.requires.library (asked_is c.args.needed.now.made.now c.args.row _ (omega (arith, c.requires.row, c.requires.needed.made))) (asked_is c.args.needed.now.held.now c.args.row _ (omega (arith, c.requires.row, c.requires.needed.held)))
    (λ on. c.in_ok-words.ensures on ∙ (c.as_slice-own.ensures ∙ c.in_ok-all.ensures)) (λ on. rw c.as_slice-remaining.ensures at (c.in_ok-held.ensures on))
