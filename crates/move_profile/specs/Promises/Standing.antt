-- An accepted source, as reading leaves it in the lent memory.
use Rattle.std.specs.Prelude.{◌≡◌, List, ℕ, length}
use Rattle.token.specs.Scanning.{scan}
use Rattle.program.specs.declared.Rule.{Rule}
use Rattle.grammar.specs.Source.{Accepted}
use Rattle.cell_meaning.specs.Promises.Stands.{Holds}
use Rattle.move_meaning.specs.Profile.{statements_at}

-- its words and names stand in the word table and the name list, and these are the numbers of its rule
pub record Stood (source words names : List ℕ) (rule : Rule) (a : Accepted) : Type 0 where
  pub words_are : words ≡ a.words
  pub names_are : names ≡ a.names
  pub tokens : rule.tokens ≡ length (scan source).tokens
  pub body : rule.body ≡ statements_at source
  pub holds : Holds words rule a.program
