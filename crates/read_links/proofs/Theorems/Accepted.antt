-- An accepted source: its program holds in the word table that is left.
use Prim.Native.Nat.{ℕ, ◌+◌, ◌≤◌}
use mathlib.Core.Path.{◌≡◌, refl, sym, subst}
use mathlib.Core.Bool.{Bool, true}
use mathlib.Core.List.{List, []}
use mathlib.Core.Option.{Option}
use lib.ListN.{length}
use Rattle.program.specs.Syntax.{Expr, Clause, Block}
use Rattle.program.specs.declared.Rule.{Rule}
use Rattle.grammar.specs.Reader.{ok}
use Rattle.grammar.specs.Source.{input_of, Accepted, parse}
use Rattle.grammar.specs.Promises.Traces.{accepted_by, Trace}
use Rattle.grammar.proofs.Theorems.Traces.{traced}
use Rattle.cell_meaning.specs.Promises.Stands.{Holds, rule_table}
use Rattle.cell_meaning.specs.Links.{table_of}
use Rattle.cell_meaning.specs.Written.{relatives_in}
use Rattle.cell_meaning.specs.Promises.Listing.{Writes}
use Rattle.read_links.proofs.Theorems.Runs.{tokens}
use Rattle.read_links.proofs.Theorems.Timed.{Timing}
use Rattle.read_links.proofs.Theorems.Linking.{Linked, linking, timed_linked}

-- the states that reading passes, and what is known of them
pub record Parsed (source : List ℕ) (a : Accepted) : Type 0 where
  pub trace : Trace source
  pub is : a ≡ accepted_by trace
  pub linked : Linked source trace

-- every source of allowed length that is accepted is read so
pub parsed : (source : List ℕ) → length source ≤ 65535 → (a : Accepted) → parse source ≡ ok a → Parsed source a
parsed source short a e = let t = traced source a e in record { trace = t.0; is = t.1; linked = linking source short t.0 }

-- its rule: the tokens, the position of the first field's range, that of the first statement, and the numbers of the program
abbrev pub rule_of : (source : List ℕ) (a : Accepted) → Parsed source a → Rule
rule_of source a p = record { tokens = tokens (input_of source); base = p.trace.s₁.at + 2; body = p.trace.s₂.at; dims = a.program.dims; fields = length a.program.fields; slots = a.program.slots; timed = a.program.timed }

-- the program holds in the words that are left
pub holds : (source : List ℕ) (a : Accepted) (p : Parsed source a) → Holds a.words (rule_of source a p) a.program
holds source a p =
    subst (λ (z : Accepted). Holds z.words (record { tokens = tokens (input_of source); base = p.trace.s₁.at + 2; body = p.trace.s₂.at; dims = z.program.dims; fields = length z.program.fields; slots = z.program.slots; timed = z.program.timed }) z.program) (sym p.is)
    (record { dims = refl; fields = p.linked.fields; slots = refl; body = p.linked.body })

-- the indices that are written in it are those of the tokens from its first statement on
pub written : (source : List ℕ) (a : Accepted) (p : Parsed source a)
    → Writes (rule_table a.words (rule_of source a p)) [] (rule_of source a p).body (rule_of source a p).tokens (relatives_in a.program)
unfolding relatives_in
written source a p =
    subst (λ (z : Accepted). Writes (table_of z.words (tokens (input_of source)) z.program.dims) [] p.trace.s₂.at (tokens (input_of source)) (relatives_in z.program))
    (sym p.is) p.linked.indices

-- its flag `timed` is set where `time` stands in its statements
pub flagged : {timed_expr : Expr → Bool} {timed_condition : Option Expr → Bool} {timed_clauses : List Clause → Bool} {timed : Block → Bool} → Timing timed_expr timed_condition timed_clauses timed → (source : List ℕ) (a : Accepted) → Parsed source a
    → timed a.program.body ≡ true → a.program.timed ≡ true
flagged {timed = timed} T source a p = subst (λ (z : Accepted). timed z.program.body ≡ true → z.program.timed ≡ true) (sym p.is) (timed_linked T p.linked)
