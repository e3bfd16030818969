-- What is asked of the numbers of a rule. Nothing is asked of what the word table holds.
use Rattle.std.specs.Prelude.{ℕ, ◌*◌, ◌≤◌}
use Rattle.value.specs.Limits.{most_tokens, most_names, most_dims, most_fields}
use Rattle.program.specs.declared.Rule.{Rule}

-- the numbers of a rule, by the length of its word table
pub record Sized (words : ℕ) (rule : Rule) : Type 0 where
  pub table : 4 * rule.tokens ≤ words
  pub tokens : rule.tokens ≤ most_tokens
  pub base : rule.base ≤ most_tokens
  pub body : rule.body ≤ rule.tokens
  pub slots : rule.slots ≤ most_names
  pub fields : rule.fields ≤ most_fields
  pub dims : rule.dims ≤ most_dims
