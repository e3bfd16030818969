-- The laws of what reading an accepted source passes.
use Prim.Native.Nat.{ℕ, ◌+◌, ◌≤◌}
use mathlib.Core.Path.{◌≡◌, refl, sym, ap, ap₂, ◌∙◌}
use mathlib.Core.List.{List}
use mathlib.Core.Bool.{false}
use lib.ListN.{replicate}
use Rattle.value.specs.Limits.{most_names, most_open}
use Rattle.token.specs.declared.Scan.{Scan}
use Rattle.token.specs.Kind.{kind}
use Rattle.token.specs.Scanning.{scan, scan_of, scanned_words}
use Rattle.token.specs.Promises.Promises.{Scans}
use Rattle.program.specs.declared.Rule.{Rule}
use Rattle.grammar.specs.Reader.{State}
use Rattle.grammar.specs.Constants.{read_constants}
use Rattle.grammar.specs.Source.{read_cell, has_kind, read_program}
use Rattle.grammar.specs.Promises.Traces.{Trace}
use Rattle.read_state.specs.Promises.Reading.{state, anything, Gives}
use Rattle.read_state.specs.declared.Reading.{Reading}
use Rattle.read_state.specs.Promises.Reading.{Read}
use Rattle.program.specs.Refusal.{Refusal}
use Rattle.std.specs.Prelude.{Result, Ok, Err, None, IsErrAnd}
use Rattle.read_state.proofs.Going.{passed_by}
use Rattle.read_state.proofs.Steps.{went_on, on}
use Rattle.read_expressions.specs.declared.inside.Inside.{Inside}
use Rattle.read_statements.specs.Promises.Promises.{block_in}
use Rattle.read_declaration.specs.Promises.Fields.{DeclaresField, DeclaresCell, next_in}
use Rattle.read_declaration.specs.declared.CellRead.{CellRead}
use Rattle.read_declaration.proofs.Cells.{stopped}
use Rattle.read_source.specs.Promises.Promises.{begun, end_in, Ends, Follows, Programs, RuleIs}
use Rattle.read_source.specs.declared.checking.ProgramRead.{ProgramRead}
use Rattle.read_source.proofs.Finishing.{cell_is, in_cell, never_next, few_left}

-- reading begins with the default
pub starts : (s : Reading) → (s.at ≡ 0) × ((s.count ≡ 0) × ((s.value ≡ 0) × ((s.low ≡ 0) × ((s.number ≡ 0) × ((s.fields ≡ 0) × ((s.noted ≡ None) × ((s.named ≡ false) × (s.more ≡ false)))))))) → s ≡ begun
starts s e =
    let z : ◌≡◌ {A = Reading} (record { at = s.at; count = s.count; value = s.value; low = s.low; number = s.number; fields = s.fields; noted = s.noted; named = s.named; more = s.more }) begun =
    rw (e.0, e.1.0, e.1.1.0, e.1.1.1.0, e.1.1.1.1.0, e.1.1.1.1.1.0, e.1.1.1.1.1.1.0, e.1.1.1.1.1.1.1.0, e.1.1.1.1.1.1.1.1) refl in
    z

-- the readers of a program gave this, one after the other
module _ {source : List ℕ} {sc : Scan} {ns ws ns₁ ws₁ ns₂ ws₂ ns₃ ws₃ : List ℕ} {a e r : Read} {cell : Result CellRead Refusal} {c : CellRead} {s₁ s₃ s₄ : Reading}
    (g₁ : Gives anything read_constants source sc begun ns ws a ns₁ ws₁) (q₁ : a ≡ Ok s₁)
    (g₂ : Gives (DeclaresCell ws₂ cell) read_cell source sc s₁ ns₁ ws₁ (next_in cell) ns₂ ws₂) (q₂ : cell ≡ Ok c)
    (inside : Inside) (i : (inside.cell ≡ record { dims = c.dims; named = c.named }) × (inside.loops ≡ 0) × (inside.free ≡ most_open))
    (g₃ : Gives anything (block_in inside) source sc c.next ns₂ ws₂ e ns₃ ws₃) (q₃ : e ≡ Ok s₃)
    (x : Ends ws₃ sc s₃ r) (q₄ : r ≡ Ok s₄) where
  -- what is declared of the cell
  cell_given : Gives (DeclaresField ws₂ c) read_cell source sc s₁ ns₁ ws₁ (Ok c.next) ns₂ ws₂
  cell_given = rw q₂ at g₂

  -- what the code tells of it
  followed : (p : ProgramRead) → p.next ≡ s₄ → p.base ≡ s₁.at + 2 → p.body ≡ c.next.at → p.dims ≡ c.dims → p.fields ≡ c.fields → Follows source sc ns ws p p.next ns₃ ws₃
  followed p next base body dims fields =
      let y₁ = (went_on g₁ q₁).is in
      let y₂ = cell_given.is in
      let d = y₂.0 in
      let y₃ = (went_on (in_cell inside i (cell_is y₂.1) g₃) q₃).is in
      let f = x.finished s₄ q₄ in
      record {
        trace =
            record {
              s₁ = state s₁ ns₁ ws₁;
              s₂ = state c.next ns₂ ws₂;
              s₃ = state s₃ ns₃ ws₃;
              declaration = d;
              body = y₃.0;
              constants = y₁.2;
              cell = y₂.2;
              block = y₃.2;
              stop = f.stop;
              last = f.last;
              clear = f.clear;
            };
        base = base;
        body = body;
        dims = dims ∙ sym y₂.1.dims;
        fields = fields ∙ sym y₂.1.ranges.many;
        left = ap (λ (u : Reading). state u ns₃ ws₃) (sym (next ∙ x.stays s₄ q₄));
      }

  -- so the program is read
  pub read_so : (p : ProgramRead) → p.next ≡ s₄ → p.base ≡ s₁.at + 2 → p.body ≡ c.next.at → p.dims ≡ c.dims → p.fields ≡ c.fields
      → s₃.count ≤ most_names → Programs source sc ns ws (Ok p) ns₃ ws₃
  unfolding read_program
  read_so p next base body dims fields few =
      let ends : Ends ws₃ sc s₃ (Ok p.next) = rw (q₄, ← next) at x in
      record {
        gives = on _ g₁ q₁ (λ _ _. on _ cell_given refl (λ d y. on _ (in_cell inside i (cell_is y) g₃) q₃ (λ b _. ends.gives source ns₃ d b)));
        reaches = few_left ends few;
        follows = λ u q. let z : p ≡ u = cc in rw (← z) (followed p next base body dims fields);
      }

-- reading a program stopped at a refusal
pub unread : {source : List ℕ} {sc : Scan} {ns ws ns' ws' : List ℕ} {r : Read} {e : Refusal} (p : Result ProgramRead Refusal)
    → Gives anything read_program source sc begun ns ws r ns' ws' → IsErrAnd p (λ f. f ≡ e) → r ≡ Err e → Programs source sc ns ws p ns' ws'
unread p g h y =
    let x = passed_by end_in (λ f. refl) p h y in
    record { gives = stopped g x y; reaches = record { few = rw (x ∙ y) tt }; follows = λ u q. never_next (x ∙ y) (ap end_in q) }

-- the rule, from what reading the source's tokens tells where no name is declared
pub rule_read : {source : List ℕ} {sc : Scan} {ns ws ns' ws' : List ℕ} {p : ProgramRead} {t : Reading} → Scans source sc ws → ns ≡ replicate 1024 0
    → Follows source sc ns ws p t ns' ws'
    → (rule : Rule) → rule.tokens ≡ sc.count → rule.base ≡ p.base → rule.body ≡ p.body → rule.dims ≡ p.dims → rule.fields ≡ p.fields → rule.slots ≡ t.count
    → rule.timed ≡ has_kind kind.time ws' sc.count
    → (u : Trace source) × RuleIs source u rule
rule_read {source} {sc} {ns} {ws} {ns'} {ws'} {p} {t} x z f rule tokens base body dims fields slots timed =
    let g : Follows source (scan_of (scan source)) (replicate 1024 0) (scanned_words (scan source)) p t ns' ws' = rw (x.is, x.words, z) at f in (
      g.trace,
      record {
        tokens = tokens ∙ ap (λ (k : Scan). k.count) x.is;
        base = base ∙ g.base;
        body = body ∙ g.body;
        dims = dims ∙ g.dims;
        fields = fields ∙ g.fields;
        slots = slots ∙ sym (ap (λ (k : State). k.count) g.left);
        timed = timed ∙ ap₂ (λ (l : List ℕ) (n : ℕ). has_kind kind.time l n) (sym (ap (λ (k : State). k.words) g.left)) (ap (λ (k : Scan). k.count) x.is);
      },
    )
