use mathlib.Core.Path.{refl}
use Rattle.names.specs.Names.{entry_at}
use Rattle.names.proofs.Searching.{match_length, match_letters, match_space}
use Rattle.names.proofs.matches.Goals as goal

pub returns-then-names-slot : goal.returns-then-names-slot
unfolding entry_at
returns-then-names-slot c =
    let if1 = c.if-names-slot in
    match_length _ _ _ _ _ _ refl if1.true

pub returns-then-in_space : goal.returns-then-in_space
unfolding entry_at
returns-then-in_space c =
    let if1 = c.if-names-slot in
    let entry_in = c.entry_in-e in
    let in_space = c.in_space in
    let if2 = c.if-in_space in
    let same-spelling = c.same_spelling in
    match_letters _ _ _ _ _ _ refl if1.false entry_in.ensures in_space.ensures if2.true same-spelling.ensures

pub returns : goal.returns
unfolding entry_at
returns c =
    let if1 = c.if-names-slot in
    let entry_in = c.entry_in-e in
    let in_space = c.in_space in
    let if2 = c.if-in_space in
    match_space _ _ _ _ _ _ refl if1.false entry_in.ensures in_space.ensures if2.false
