-- What reading a token off the table promises.
use Rattle.std.specs.Prelude.{◌≡◌, List, ℕ, ◌-◌, ◌≤◌, min}
use Rattle.token.specs.declared.Token.{Token}
use Rattle.token.specs.declared.Scan.{Scan}
use Rattle.token.specs.Scanning.{token_in}

-- the token at position i; if it is no stop, i is below the number of tokens
pub record Stands (words : List ℕ) (scan : Scan) (i : ℕ) (t : Token) : Type 0 where
  pub is : t ≡ token_in words scan i
  pub inside : min 1 t.kind ≤ scan.count - i
