-- What the core call promises.
use Rattle.std.specs.Prelude.{◌≡◌, Bool, true, false, List, ℕ, ◌+◌, ◌≤◌, length, Result, Ok, Err, None}
use Rattle.value.specs.Limits.{most_bytes, table_words, most_names, name_words}
use Rattle.token.specs.declared.Scan.{Scan}
use Rattle.token.specs.Kind.{kind}
use Rattle.token.specs.Scanning.{scan, scan_of, token_in}
use Rattle.program.specs.Syntax.{Block}
use Rattle.program.specs.Refusal.{Refusal, refusal, no_refusal}
use Rattle.program.specs.declared.Rule.{Rule}
use Rattle.grammar.specs.Source.{Accepted, Declared, has_kind, settled, finish, read_program}
use Rattle.grammar.specs.Checking.{rooms_fit, SourceRead, turned_away, refused, accepted, read_source, check, words_after}
use Rattle.grammar.specs.Promises.Flat.{names_after}
use Rattle.grammar.specs.Promises.Traces.{Traced, accepted_by, Trace}
use Rattle.read_state.specs.Promises.Reading.{Read, noted_in, input, state, Gives}
use Rattle.read_state.specs.declared.Reading.{Reading}
use Rattle.read_source.specs.declared.checking.ProgramRead.{ProgramRead}

-- where reading begins
abbrev pub begun : Reading
begun = record { at = 0; noted = None; count = 0; value = 0; low = 0; number = 0; fields = 0; named = false; more = false }

-- the accepted source's word table and name list follow from the words left and the number of names
pub record Whole (ns ws : List ℕ) (a : Accepted) (t : Reading) : Type 0 where
  pub words : a.words ≡ ws
  pub names : a.names ≡ settled ws ns t.count

-- the source ends at s, and no refusal is noted
pub record Finished (ws : List ℕ) (scan : Scan) (s : Reading) : Type 0 where
  pub stop : (token_in ws scan s.at).kind ≡ kind.stop
  pub last : (token_in ws scan s.at).value ≡ 7
  pub clear : (noted_in s).number ≡ 0

-- the end of a source, whatever was declared and read before it
pub record Ends (ws : List ℕ) (scan : Scan) (s : Reading) (r : Read) : Type 0 where
  pub gives : (source ns : List ℕ) (d : Declared) (b : Block) → Gives (Whole ns ws) (finish d b) source scan s ns ws r ns ws
  pub stays : (t : Reading) → r ≡ Ok t → t ≡ s
  pub finished : (t : Reading) → r ≡ Ok t → Finished ws scan s

-- there are no more names than the list has room for
abbrev pub Few : Read → Type 0
Few (Ok t) = t.count ≤ most_names
Few (Err e) = Unit {0}

pub record Reaches (r : Read) : Type 0 where
  pub few : Few r

-- ---- what reading passes

-- how the reading of a program ends
abbrev pub end_in : Result ProgramRead Refusal → Read
end_in (Ok p) = Ok p.next
end_in (Err e) = Err e

-- reading a program went on to t: what the code knows of it
pub record Follows (source : List ℕ) (scan : Scan) (ns ws : List ℕ) (p : ProgramRead) (t : Reading) (ns' ws' : List ℕ) : Type 0 where
  pub trace : Traced (input source scan) (state begun ns ws)
  pub base : p.base ≡ trace.s₁.at + 2
  pub body : p.body ≡ trace.s₂.at
  pub dims : p.dims ≡ trace.declaration.cell.dims
  pub fields : p.fields ≡ length trace.declaration.fields
  pub left : trace.s₃ ≡ state t ns' ws'

-- what reading a program promises
pub record Programs (source : List ℕ) (scan : Scan) (ns ws : List ℕ) (r : Result ProgramRead Refusal) (ns' ws' : List ℕ) : Type 0 where
  pub gives : Gives (Whole ns' ws') read_program source scan begun ns ws (end_in r) ns' ws'
  pub reaches : Reaches (end_in r)
  pub follows : (p : ProgramRead) → r ≡ Ok p → Follows source scan ns ws p p.next ns' ws'

-- ---- the core call

-- what a check gives: the reply, and the words of the table and the name list that it leaves; `fit` says whether what is lent beside the source fits
pub record Checks (fit : Bool) (source ws ns : List ℕ) (number place : ℕ) (ws' ns' : List ℕ) : Type 0 where
  pub reply : refusal number place ≡ check fit source
  pub words : ws' ≡ words_after fit source ws
  pub names : ns' ≡ names_after fit source ns

-- what the rule of a loaded source is, if it is accepted
pub record RuleIs (source : List ℕ) (t : Trace source) (rule : Rule) : Type 0 where
  pub tokens : rule.tokens ≡ (scan_of (scan source)).count
  pub base : rule.base ≡ t.s₁.at + 2
  pub body : rule.body ≡ t.s₂.at
  pub dims : rule.dims ≡ t.declaration.cell.dims
  pub fields : rule.fields ≡ length t.declaration.fields
  pub slots : rule.slots ≡ t.s₃.count
  pub timed : rule.timed ≡ has_kind kind.time t.s₃.words (scan_of (scan source)).count

abbrev pub no_rule : Rule
no_rule = record { tokens = 0; base = 0; body = 0; dims = 0; fields = 0; slots = 0; timed = false }

abbrev pub is_accepted : SourceRead → Bool
is_accepted (turned_away number place) = false
is_accepted (refused number place) = false
is_accepted (accepted a) = true

-- what loading a source promises: it is known to be accepted exactly if it is
pub record Loads (source ws ns : List ℕ) (known : Bool) (rule : Rule) : Type 0 where
  pub is : known ≡ is_accepted (read_source (rooms_fit (length ws) (length ns)) source)
  -- then the rule follows from the states that reading passes
  pub given : known ≡ true → (t : Trace source) × RuleIs source t rule
  pub reads : known ≡ true → (t : Trace source) → read_source (rooms_fit (length ws) (length ns)) source ≡ accepted (accepted_by t)
  pub table : known ≡ true → length ws ≡ table_words
  pub list : known ≡ true → length ns ≡ name_words
  pub short : known ≡ true → length source ≤ most_bytes
  -- else there is none
  pub none : known ≡ false → rule ≡ no_rule

-- the reply of a call that refuses, whether a source is loaded, and the rule that is
abbrev pub refusal_in : {A : Type 0} → Result A Refusal → Refusal
refusal_in (Ok a) = no_refusal
refusal_in (Err e) = e

abbrev pub is_loaded : Result Rule Refusal → Bool
is_loaded (Ok rule) = true
is_loaded (Err e) = false

abbrev pub rule_in : Result Rule Refusal → Rule
rule_in (Ok rule) = rule
rule_in (Err e) = no_rule
